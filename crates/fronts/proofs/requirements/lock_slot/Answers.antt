use Rattle.std.proofs.Common.{length, Some, sym, ap, ◌∙◌, arith}
use Rattle.std.proofs.lemmas.Option.{slice_get-get_or}
use Rattle.fronts.specs.Firsts.{lock_slot_at}
use Rattle.fronts.proofs.FirstLemmas.{lock_new_slot, lock_old_slot}
use Rattle.fronts.proofs.requirements.lock_slot.Goals as goal

pub bounds-locks-get : goal.bounds-locks-get
bounds-locks-get c =
    let facts = c.requires.facts in
    let old = lock_old_slot c.args._index.now.events (length c.args.locks.now) c.in-Some-acquire_before.before c.in-Some._lock (facts.begun ∙ c.in-Some.is)
    (facts.acquire_before ∙ c.in-Some-acquire_before.is) in
    omega (arith, old.0, c.get.ensures)

pub returns-in-Some-acquire_before : goal.returns-in-Some-acquire_before
returns-in-Some-acquire_before c =
    let s = c.args._index.now.events in
    let locks = c.args.locks.now in
    let facts = c.requires.facts in
    let (less, same) = lock_old_slot s (length locks) c.in-Some-acquire_before.before c.in-Some._lock (facts.begun ∙ c.in-Some.is) (facts.acquire_before ∙ c.in-Some-acquire_before.is) in
    let listed = slice_get-get_or locks c.get.result c.index-locks-get.result (omega (arith, less, c.get.ensures)) in
    same ∙ (ap (lock_slot_at s) (sym c.get.ensures) ∙ (c.requires.locks c.get.result _ listed ∙ sym c.index-locks-get.is))

pub returns-in-None : goal.returns-in-None
returns-in-None c =
    let facts = c.requires.facts in
    lock_new_slot c.args._index.now.events (length c.args.locks.now) c.in-Some._lock (facts.begun ∙ c.in-Some.is) (facts.acquire_before ∙ c.in-None.is)
    ∙ (ap Some (sym c.requires.count) ∙ sym c.at.ensures)
