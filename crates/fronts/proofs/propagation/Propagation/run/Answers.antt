use Rattle.std.proofs.Common.{◌≡◌, ◌-◌, length, slice_get, Some, take, refl, sym, subst, ◌∙◌, arith}
use Rattle.std.proofs.lemmas.Bool.{false≢true}
use Rattle.std.proofs.lemmas.Result.{IfOk-from_err}
use Rattle.trace_model.proofs.Theory.Ascending.{contains_at}
use Rattle.fronts.specs.Context.{state, items, processed_count}
use Rattle.fronts.proofs.RunLemmas.{undone, less_undone, meet_less, popped, pop_known, pop_consistent, same_more}
use Rattle.fronts.proofs.StageLemmas.{same_members}
use Rattle.fronts.proofs.propagation.Propagation.run.Goals as goal

pub next_item-requires-clause-slot : goal.next_item-requires-clause-slot
next_item-requires-clause-slot g c =
    let xs = c.loop-slot.self.pending.items in
    let e = subst (λ zs. slice_get zs (length zs - 1) ≡ Some c.in-Some.slot) c.deref.ensures.value (sym c.last.ensures.value ∙ sym c.copied.ensures ∙ c.in-Some.is) in
    c.loop-slot.invariant.known c.in-Some.slot (contains_at xs c.in-Some.slot (length xs - 1) e)

pub meet-requires-clause-slot : goal.meet-requires-clause-slot
meet-requires-clause-slot g c =
    let xs = c.loop-slot.self.pending.items in
    let e = subst (λ zs. slice_get zs (length zs - 1) ≡ Some c.in-Some.slot) c.deref.ensures.value (sym c.last.ensures.value ∙ sym c.copied.ensures ∙ c.in-Some.is) in
    c.loop-slot.invariant.known c.in-Some.slot (contains_at xs c.in-Some.slot (length xs - 1) e)

pub meet-requires-clause-ready : goal.meet-requires-clause-ready
meet-requires-clause-ready g c = record { sound = c.requires.ready.sound; fits = c.loop-slot.invariant.fits; behind = c.loop-slot.invariant.behind }

pub meet-requires-clause-consistent : goal.meet-requires-clause-consistent
meet-requires-clause-consistent g c = c.loop-slot.invariant.consistent

pub meet-requires-clause-next : goal.meet-requires-clause-next
meet-requires-clause-next g c = let (at, less, few) = c.in-Some-next_item.ensures.next in at

pub meet-requires-clause-number : goal.meet-requires-clause-number
meet-requires-clause-number g c = let (at, less, few) = c.in-Some-next_item.ensures.next in less

pub meet-requires-clause-few : goal.meet-requires-clause-few
meet-requires-clause-few g c = let (at, less, few) = c.in-Some-next_item.ensures.next in few

pub returns-in_err-meet-in-Some-next_item : goal.returns-in_err-meet-in-Some-next_item
returns-in_err-meet-in-Some-next_item g c =
    let inv = c.loop-slot.invariant in
    let met = c.meet.ensures.carries in
    let result = c.from_residual.result in
    let is_err = c.from_residual.ensures.0 in
    record {
      consistent = IfOk-from_err result _ is_err;
      nothing = IfOk-from_err result _ is_err;
      grows = IfOk-from_err result _ is_err;
      carries = record {
        fits = met.fits;
        steps = omega (arith, inv.steps, met.steps);
        same = same_more c.args.members.now c.loop-slot.members c.meet.new.members inv.same met.same;
        behind = IfOk-from_err result _ is_err;
        bound = IfOk-from_err result _ is_err;
      };
    }

pub returns-then-not-branch : goal.returns-then-not-branch
returns-then-not-branch g c =
    let inv = c.loop-slot.invariant in
    let met = c.in_ok-meet-in-Some-next_item.ensures.carries in
    record {
      consistent = λ is. absurd (false≢true is);
      nothing = λ is. absurd (false≢true is);
      grows = λ is. absurd (false≢true is);
      carries = record {
        fits = met.fits;
        steps = omega (arith, inv.steps, met.steps);
        same = same_more c.args.members.now c.loop-slot.members c.meet.new.members inv.same met.same;
        behind = λ is. absurd (false≢true is);
        bound = λ set b any. absurd (false≢true (sym c.if-not-branch.true ∙ (met.bound set (inv.bound set b) any).0));
      };
    }

pub returns-clause-consistent : goal.returns-clause-consistent
returns-clause-consistent g c = λ is. c.loop-slot.invariant.consistent

pub returns-clause-grows : goal.returns-clause-grows
returns-clause-grows g c = λ is. c.loop-slot.invariant.grows

pub returns-clause-carries : goal.returns-clause-carries
returns-clause-carries g c =
    let inv = c.loop-slot.invariant in
    record {
      fits = inv.fits;
      steps = inv.steps;
      same = inv.same;
      behind = λ is. inv.behind;
      bound = λ set b any. (refl, inv.bound set b);
    }

pub loop-slot-init : goal.loop-slot-init
loop-slot-init g c = record {
  fits = c.requires.ready.fits;
  consistent = c.requires.consistent;
  known = c.requires.known;
  behind = c.requires.ready.behind;
  same = same_members c.args.members.now;
  steps = refl;
  grows = λ a. omega arith;
  bound = λ set b. b;
}

pub loop-slot-smaller-else-not-branch : goal.loop-slot-smaller-else-not-branch
loop-slot-smaller-else-not-branch g c =
    let gr = c.args.context.now in
    let d = gr.requirements.now in
    let xs = c.loop-slot.self.pending.items in
    let e = subst (λ zs. slice_get zs (length zs - 1) ≡ Some c.in-Some.slot) c.deref.ensures.value (sym c.last.ensures.value ∙ sym c.copied.ensures ∙ c.in-Some.is) in
    let slot = c.loop-slot.invariant.known c.in-Some.slot (contains_at xs c.in-Some.slot (length xs - 1) e) in
    let meets = c.in_ok-meet-in-Some-next_item.ensures.meets c.if-not-branch.false in
    let old = processed_count gr c.loop-slot.self in
    let new = processed_count gr c.meet.new.self in
    let less = less_undone d old new c.in-Some.slot d.threads.count c.in-Some-next_item.item slot c.in-Some-next_item.ensures.next.0 meets.done in
    meet_less (undone d old d.threads.count) (undone d new d.threads.count) (length xs) (length c.meet.new.self.pending.items) less meets.pending

pub loop-slot-preserved-else-not-branch : goal.loop-slot-preserved-else-not-branch
loop-slot-preserved-else-not-branch g c =
    let inv = c.loop-slot.invariant in
    let m = c.in_ok-meet-in-Some-next_item.ensures in
    let meets = m.meets c.if-not-branch.false in
    record {
      fits = m.carries.fits;
      consistent = meets.consistent;
      known = meets.known inv.known;
      behind = m.carries.behind c.if-not-branch.false;
      same = same_more c.args.members.now c.loop-slot.members c.meet.new.members inv.same c.meet.ensures.carries.same;
      steps = omega (arith, inv.steps, c.meet.ensures.carries.steps);
      grows = λ a. omega (arith, inv.grows a, meets.grows a);
      bound = λ set b. (m.carries.bound set (inv.bound set b) tt).1;
    }

pub loop-slot-preserved : goal.loop-slot-preserved
loop-slot-preserved g c =
    let gr = c.args.context.now in
    let inv = c.loop-slot.invariant in
    let old = c.loop-slot.self in
    let xs = old.pending.items in
    let ys = c.pop.new.self.items in
    let slot = c.in-Some.slot in
    let e = subst (λ zs. slice_get zs (length zs - 1) ≡ Some slot) c.deref.ensures.value (sym c.last.ensures.value ∙ sym c.copied.ensures ∙ c.in-Some.is) in
    let n = subst (λ z. ys ≡ take (z - 1) xs) old.pending.ok.0 c.pop.ensures.rest in
    let split = popped xs ys slot e n in
    record {
      fits = record { room = inv.fits.room; fronts = inv.fits.fronts };
      consistent = pop_consistent (items gr) (state gr old) (state gr (record { overlay = old.overlay; pending = c.pop.new.self })) slot inv.consistent split
          (λ b. refl) (λ b. refl) (λ l. refl) (c.in-None.ensures.none refl);
      known = pop_known gr.requirements.now.threads.count xs ys slot split inv.known;
      behind = inv.behind;
      same = inv.same;
      steps = inv.steps;
      grows = inv.grows;
      bound = inv.bound;
    }
