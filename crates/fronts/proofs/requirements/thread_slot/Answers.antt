use Rattle.std.proofs.Common.{length, Some, sym, ap, ◌∙◌, arith}
use Rattle.std.proofs.lemmas.Option.{slice_get-get_or}
use Rattle.trace_model.proofs.Lists.{at_index}
use Rattle.fronts.specs.Firsts.{thread_slot_at}
use Rattle.fronts.proofs.FirstLemmas.{thread_new_slot, thread_old_slot}
use Rattle.fronts.proofs.requirements.thread_slot.Goals as goal

pub bounds-positions-get : goal.bounds-positions-get
bounds-positions-get c =
    let s = c.args._index.now.events in
    let next = length c.args.positions.now in
    let (e, at) = at_index s next c.requires.within in
    omega (arith, (thread_old_slot s next c.in-Some.before e at (c.requires.before ∙ c.in-Some.is)).0, c.get.ensures)

pub returns-in-Some : goal.returns-in-Some
returns-in-Some c =
    let s = c.args._index.now.events in
    let positions = c.args.positions.now in
    let (e, at) = at_index s (length positions) c.requires.within in
    let (less, same) = thread_old_slot s (length positions) c.in-Some.before e at (c.requires.before ∙ c.in-Some.is) in
    let listed = slice_get-get_or positions c.get.result (record { slot = 0; count = 0 }) (omega (arith, less, c.get.ensures)) in
    same ∙ (ap (thread_slot_at s) (sym c.get.ensures) ∙ (c.requires.positions c.get.result _ listed).slot)

pub returns-in-None : goal.returns-in-None
returns-in-None c =
    let s = c.args._index.now.events in
    let next = length c.args.positions.now in
    let (e, at) = at_index s next c.requires.within in
    thread_new_slot s next e at (c.requires.before ∙ c.in-None.is) ∙ ap Some (sym c.requires.count)
