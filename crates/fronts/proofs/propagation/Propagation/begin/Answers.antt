use Rattle.std.proofs.Common.{◌≡◌, ℕ, ◌<◌, inl, inr, Some, refl, sym, ap, subst, ◌∙◌, arith}
use Rattle.std.proofs.lemmas.Result.{IfOk-weaker}
use Rattle.fronts.specs.declared.requirements.Section.{Section}
use Rattle.fronts.specs.declared.propagation.Propagation.{Propagation}
use Rattle.fronts.specs.EpochArrays.{size}
use Rattle.fronts.specs.Context.{HoldsEnd, state, context_events, slots}
use Rattle.fronts.specs.Propagation.{BeginsSection, HasBegun, Raises, PropagationState}
use Rattle.fronts.proofs.RaiseLemmas.{front_in, done_in}
use Rattle.fronts.proofs.StageLemmas.{carries_here, carries_from, ready_same}
use Rattle.fronts.proofs.InvariantLemmas.{begins_first, begins_same, raises_followed}
use Rattle.fronts.proofs.propagation.Propagation.begin.Goals as goal
use Rattle.fronts.specs.Slots.{HoldsPlaces}

-- The lock's last section stays, and the end of the earlier one is included.
raises_kept : (k l : ℕ) (c d : Section) (x y : PropagationState) → x.last l ≡ Some d → c.place < d.place → Raises k c.end x y → BeginsSection k l c x y
raises_kept k l c d x y was less r = record {
  begun = subst (λ o. HasBegun o c y l) (sym was) (inr (inl (less, r.last l ∙ was, r.upto)));
  others = λ j ne. r.last j;
  growth = r.growth;
}

pub returns-in-None-clause-begins : goal.returns-in-None-clause-begins
returns-in-None-clause-begins g c = λ is.
    let gr = c.args.context.now in
    let under = gr.under.now in
    let f = c.set_last.ensures in
    begins_first gr.requirements.now.threads.count c.args.lock c.args.section (state gr c.args.self.now)
    (state gr (record { overlay = c.set_last.new.self; pending = c.args.self.now.pending })) (sym c.last.ensures ∙ c.in-None.is) f.last
    (λ a. ap (λ epoch_array. front_in under epoch_array a) f.fronts) (λ a. ap (λ epoch_array. done_in under epoch_array a) f.done) refl

pub returns-in-None-clause-carries : goal.returns-in-None-clause-carries
returns-in-None-clause-carries g c =
    let gr = c.args.context.now in
    let f = c.set_last.ensures in
    let needed = HoldsEnd gr c.args.self.now c.args.lock c.args.section in
    let mid : Propagation = record { overlay = c.set_last.new.self; pending = c.args.self.now.pending } in
    let ready = ready_same gr c.args.self.now c.args.members.now c.set_last.new.self c.requires.ready f.fronts (ap size f.done) f.size in
    carries_from gr needed needed c.args.self.now mid c.args.members.now c.args.steps.now _ _ f.fronts (λ set b requirement. requirement)
    (carries_here gr needed mid c.args.members.now c.args.steps.now ready.fits ready.behind)

pub include-requires-clause-ready : goal.include-requires-clause-ready
include-requires-clause-ready g c =
    let f = c.set_last-then-get.ensures in
    ready_same c.args.context.now c.args.self.now c.args.members.now c.set_last-then-get.new.self c.requires.ready f.fronts (ap size f.done) f.size

pub returns-then-get-clause-begins : goal.returns-then-get-clause-begins
returns-then-get-clause-begins g c =
    let gr = c.args.context.now in
    let under = gr.under.now in
    let d = c.in-Some.last in
    let f = c.set_last-then-get.ensures in
    let was = sym c.last.ensures ∙ c.in-Some.is in
    IfOk-weaker c.include.result _ _ (λ goes more is.
    raises_followed gr.requirements.now.threads.count c.args.lock c.args.section d (state gr c.args.self.now)
    (state gr (record { overlay = c.set_last-then-get.new.self; pending = c.args.self.now.pending })) (state gr c.include.new.self)
    was (omega (arith, c.if-get.true, c.get.ensures, c.get-in-Some.ensures)) f.last
    (λ a. ap (λ epoch_array. front_in under epoch_array a) f.fronts) (λ a. ap (λ epoch_array. done_in under epoch_array a) f.done) refl (more is)) c.include.ensures.raises

pub returns-then-get-clause-carries : goal.returns-then-get-clause-carries
returns-then-get-clause-carries g c =
    let gr = c.args.context.now in
    let was = sym c.last.ensures ∙ c.in-Some.is in
    carries_from gr (HoldsPlaces (context_events gr) (slots gr) c.in-Some.last.end) (HoldsEnd gr c.args.self.now c.args.lock c.args.section) c.args.self.now
    (record { overlay = c.set_last-then-get.new.self; pending = c.args.self.now.pending }) c.args.members.now c.args.steps.now _ _ c.set_last-then-get.ensures.fronts
    (λ set b ends. ends.of_last c.in-Some.last was (omega (arith, c.if-get.true, c.get.ensures, c.get-in-Some.ensures))) c.include.ensures.carries

pub returns-then-get-2-clause-begins : goal.returns-then-get-2-clause-begins
returns-then-get-2-clause-begins g c =
    let gr = c.args.context.now in
    let was = sym c.last.ensures ∙ c.in-Some.is in
    IfOk-weaker c.include-then-get-2.result _ _ (λ goes more is.
    raises_kept gr.requirements.now.threads.count c.args.lock c.args.section c.in-Some.last (state gr c.args.self.now) (state gr c.include-then-get-2.new.self)
    was (omega (arith, c.if-get-2.true, c.get-else-get.ensures, c.get-else-get-2.ensures)) (more is)) c.include-then-get-2.ensures.raises

pub returns-then-get-2-clause-carries : goal.returns-then-get-2-clause-carries
returns-then-get-2-clause-carries g c =
    let gr = c.args.context.now in
    let was = sym c.last.ensures ∙ c.in-Some.is in
    carries_from gr (HoldsPlaces (context_events gr) (slots gr) c.args.section.end) (HoldsEnd gr c.args.self.now c.args.lock c.args.section) c.args.self.now c.args.self.now
    c.args.members.now c.args.steps.now _ _ refl
    (λ set b ends. ends.of_new c.in-Some.last was (omega (arith, c.if-get-2.true, c.get-else-get.ensures, c.get-else-get-2.ensures))) c.include-then-get-2.ensures.carries

pub returns-else-get-2-clause-begins : goal.returns-else-get-2-clause-begins
returns-else-get-2-clause-begins g c = λ is.
    let gr = c.args.context.now in
    begins_same gr.requirements.now.threads.count c.args.lock c.args.section c.in-Some.last (state gr c.args.self.now) (sym c.last.ensures ∙ c.in-Some.is)
    (omega (arith, c.if-get.false, c.get.ensures, c.get-in-Some.ensures, c.if-get-2.false, c.get-else-get.ensures, c.get-else-get-2.ensures))

pub returns-else-get-2-clause-carries : goal.returns-else-get-2-clause-carries
returns-else-get-2-clause-carries g c =
    let gr = c.args.context.now in
    carries_here gr (HoldsEnd gr c.args.self.now c.args.lock c.args.section) c.args.self.now c.args.members.now c.args.steps.now c.requires.ready.fits c.requires.ready.behind

pub include-requires-then-get-2-clause-ready : goal.include-requires-then-get-2-clause-ready
include-requires-then-get-2-clause-ready g c = c.requires.ready

pub include-requires-then-get-2-clause-reach : goal.include-requires-then-get-2-clause-reach
include-requires-then-get-2-clause-reach g c = c.requires.end
