use Rattle.std.proofs.Common.{refl, sym, ap, ◌∙◌, Some, arith}
use Rattle.std.proofs.lemmas.Option.{same_Some}
use Rattle.std.proofs.lemmas.Result.{IfOk-weaker}
use Rattle.fronts.specs.declared.propagation.Propagation.{Propagation}
use Rattle.fronts.specs.EpochArrays.{size}
use Rattle.fronts.specs.Slots.{HoldsPlaces}
use Rattle.fronts.specs.Requirements.{item}
use Rattle.fronts.specs.Context.{Any, HoldsEnd, fronts, slots, state, items, processed_count, context_events}
use Rattle.fronts.proofs.RaiseLemmas.{front_in, last_in}
use Rattle.fronts.proofs.StageLemmas.{carries_from, ready_same}
use Rattle.fronts.proofs.InvariantLemmas.{meets_reach, meets_begin, prefix_reach, end_reach, same_end, reach_holds, sections_hold}
use Rattle.fronts.proofs.propagation.Propagation.meet.Goals as goal

pub count_met-requires : goal.count_met-requires
count_met-requires g c = record { room = omega (arith, c.requires.slot, c.requires.ready.fits.room.done); fits = c.requires.few }

pub include-requires-clause-ready : goal.include-requires-clause-ready
include-requires-clause-ready g c =
    let p = c.count_met.ensures in
    ready_same c.args.context.now c.args.self.now c.args.members.now c.count_met.new.self c.requires.ready p.fronts p.size (ap size p.last)

pub begin-requires-clause-ready : goal.begin-requires-clause-ready
begin-requires-clause-ready g c =
    let p = c.count_met.ensures in
    ready_same c.args.context.now c.args.self.now c.args.members.now c.count_met.new.self c.requires.ready p.fronts p.size (ap size p.last)

pub include-requires-clause-reach : goal.include-requires-clause-reach
include-requires-clause-reach g c =
    let gr = c.args.context.now in
    let known = c.requires.ready.sound in
    let at = c.requires.next ∙ ap (λ n. Some (item c.args.item.number n)) c.in-Reach.is in
    let (q, r, x, requirement, is) = known.items.reach c.args.slot (processed_count gr c.args.self.now c.args.slot) c.args.item.number c.in-Reach.prefix at in
    prefix_reach gr.index.now.events (slots gr) gr.requirements.now.threads.count c.in-Reach.prefix r known.slots is

pub begin-requires-clause-lock : goal.begin-requires-clause-lock
begin-requires-clause-lock g c =
    let gr = c.args.context.now in
    let known = c.requires.ready.sound in
    let at = c.requires.next ∙ ap (λ n. Some (item c.args.item.number n)) c.in-Begin.is in
    let (k, x, begins, is_l, ends) = known.items.begin c.args.slot (processed_count gr c.args.self.now c.args.slot) c.args.item.number c.in-Begin.lock c.in-Begin.section at in
    let (l, e, less) = known.locks.each c.in-Begin.section.place k begins in
    omega (arith, less, same_Some l c.in-Begin.lock (sym e ∙ is_l))

pub begin-requires-clause-end : goal.begin-requires-clause-end
begin-requires-clause-end g c =
    let gr = c.args.context.now in
    let known = c.requires.ready.sound in
    let at = c.requires.next ∙ ap (λ n. Some (item c.args.item.number n)) c.in-Begin.is in
    let (k, x, begins, is_l, ends) = known.items.begin c.args.slot (processed_count gr c.args.self.now c.args.slot) c.args.item.number c.in-Begin.lock c.in-Begin.section at in
    rw c.in-Begin.is
    (end_reach gr.index.now.events (slots gr) gr.requirements.now.threads.count c.in-Begin.section known.slots ends)

pub begin-requires-clause-last_end : goal.begin-requires-clause-last_end
begin-requires-clause-last_end g c = λ d h.
    let gr = c.args.context.now in
    let known = c.requires.ready.sound in
    let was = ap (λ epoch_array. last_in gr.under.now epoch_array c.in-Begin.lock) (sym c.count_met.ensures.last) ∙ h in
    let (a, j, n, less, at) = c.requires.consistent.lasts c.in-Begin.lock d was in
    let (k, x, begins, is_l, ends) = known.items.begin a j n c.in-Begin.lock d at in
    end_reach gr.index.now.events (slots gr) gr.requirements.now.threads.count d known.slots ends

pub returns-in-Reach-clause-meets : goal.returns-in-Reach-clause-meets
returns-in-Reach-clause-meets g c =
    let gr = c.args.context.now in
    let under = gr.under.now in
    let old = c.args.self.now in
    let p = c.count_met.ensures in
    let at = c.requires.next ∙ ap (λ n. Some (item c.args.item.number n)) c.in-Reach.is in
    IfOk-weaker c.include.result _ _ (λ goes more is.
    meets_reach (items gr) gr.requirements.now.threads.count c.args.slot c.args.item.number c.in-Reach.prefix (state gr old)
    (state gr (record { overlay = c.count_met.new.self; pending = old.pending })) (state gr c.include.new.self) c.requires.consistent at c.requires.number p.done
    (λ b. ap (λ epoch_array. front_in under epoch_array b) p.fronts) (λ l. ap (λ epoch_array. last_in under epoch_array l) p.last) refl (more is)) c.include.ensures.raises

pub returns-in-Reach-clause-carries : goal.returns-in-Reach-clause-carries
returns-in-Reach-clause-carries g c =
    let gr = c.args.context.now in
    let old = c.args.self.now in
    let known = c.requires.ready.sound in
    let at = c.requires.next ∙ ap (λ n. Some (item c.args.item.number n)) c.in-Reach.is in
    carries_from gr (HoldsPlaces (context_events gr) (slots gr) c.in-Reach.prefix) Any old (record { overlay = c.count_met.new.self; pending = old.pending }) c.args.members.now c.args.steps.now _ _ c.count_met.ensures.fronts
    (λ set b any. reach_holds gr.index.now.events (slots gr) known.lock_slots gr.requirements.now.threads.count (items gr) c.args.slot (processed_count gr old c.args.slot)
    c.args.item.number c.in-Reach.prefix set (fronts gr old) known.slots known.items at c.requires.number b.ahead.closed b.holds) c.include.ensures.carries

pub returns-in-Begin-clause-meets : goal.returns-in-Begin-clause-meets
returns-in-Begin-clause-meets g c =
    let gr = c.args.context.now in
    let under = gr.under.now in
    let old = c.args.self.now in
    let p = c.count_met.ensures in
    let known = c.requires.ready.sound in
    let l = c.in-Begin.lock in
    let e = c.in-Begin.section in
    let at = c.requires.next ∙ ap (λ n. Some (item c.args.item.number n)) c.in-Begin.is in
    let (k, x, begins, is_l, ends) = known.items.begin c.args.slot (processed_count gr old c.args.slot) c.args.item.number l e at in
    let kept = rw c.in-Begin.is at c.begin.ensures.begins in
    IfOk-weaker c.begin.result _ _ (λ goes more is.
    meets_begin (items gr) gr.requirements.now.threads.count c.args.slot c.args.item.number l e (state gr old)
    (state gr (record { overlay = c.count_met.new.self; pending = old.pending })) (state gr c.begin.new.self) c.requires.consistent at c.requires.number p.done
    (λ b. ap (λ epoch_array. front_in under epoch_array b) p.fronts) (λ m. ap (λ epoch_array. last_in under epoch_array m) p.last) refl (more is)
    (λ d was same.
    let (a, j, n, less, at_d) = c.requires.consistent.lasts l d was in
    let (kd, xd, begins_d, is_d, ends_d) = known.items.begin a j n l d at_d in
    same_end gr.index.now.events (slots gr) e d ends ends_d same)) kept

pub returns-in-Begin-clause-carries : goal.returns-in-Begin-clause-carries
returns-in-Begin-clause-carries g c =
    let gr = c.args.context.now in
    let s = gr.index.now.events in
    let old = c.args.self.now in
    let known = c.requires.ready.sound in
    let l = c.in-Begin.lock in
    let e = c.in-Begin.section in
    let locks = known.lock_slots in
    let passed : Propagation = record { overlay = c.count_met.new.self; pending = old.pending } in
    let at = c.requires.next ∙ ap (λ n. Some (item c.args.item.number n)) c.in-Begin.is in
    carries_from gr (HoldsEnd gr passed l e) Any old passed c.args.members.now c.args.steps.now _ _ c.count_met.ensures.fronts (λ set b any. record {
      of_last = λ d h before.
          let was = ap (λ epoch_array. last_in gr.under.now epoch_array l) (sym c.count_met.ensures.last) ∙ h in
          let (a, j, n, less, at_d) = c.requires.consistent.lasts l d was in
          sections_hold s (slots gr) locks gr.requirements.now.threads.count gr.requirements.now.lock_count (items gr) a c.args.slot j (processed_count gr old c.args.slot) n c.args.item.number l d e set (fronts gr old)
          known.slots known.locks known.items at_d at (c.requires.consistent.inside a j _ at_d less) c.requires.number before b.ahead.closed b.holds;
      of_new = λ d h before.
          let was = ap (λ epoch_array. last_in gr.under.now epoch_array l) (sym c.count_met.ensures.last) ∙ h in
          let (a, j, n, less, at_d) = c.requires.consistent.lasts l d was in
          sections_hold s (slots gr) locks gr.requirements.now.threads.count gr.requirements.now.lock_count (items gr) c.args.slot a (processed_count gr old c.args.slot) j c.args.item.number n l e d set (fronts gr old)
          known.slots known.locks known.items at at_d c.requires.number (c.requires.consistent.inside a j _ at_d less) before b.ahead.closed b.holds;
    }) (rw c.in-Begin.is at c.begin.ensures.carries)
