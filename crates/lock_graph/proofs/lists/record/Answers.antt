use Rattle.std.proofs.Common.{◌<◌, ◌≤◌, arith, sym, subst, get_or, Option, ℕ}
use Rattle.std.specs.Prelude.{IsSomeAnd}
use Rattle.smallvec.specs.SmallVec.{SmallVec, HasRoomFor}
use Rattle.std.proofs.lemmas.Bool.{ne_eqb}
use Rattle.lock_graph.proofs.ListSteps.{apart, listed_more}
use Rattle.lock_graph.proofs.lists.record.Goals as goal

pub loop-lock-preserved : goal.loop-lock-preserved
loop-lock-preserved c = record {
  shown = λ other. listed_more c.args.locks.now c.loop-lock.lock-index c.args.number other _ _ _ c.requires.ascends c.loop-lock-test.true (c.loop-lock.invariant.shown other) (c.record_one.ensures.shown other);
  room = λ k above within.
      let before : c.loop-lock.lock-index < k = omega arith in
      let at_least : c.loop-lock.lock-index ≤ k = omega arith in
      let apart = ne_eqb (get_or c.args.locks.now c.loop-lock.lock-index 0) (get_or c.args.locks.now k 0) (apart c.args.locks.now c.loop-lock.lock-index k c.requires.ascends before within) in
      let P : Option (SmallVec ℕ) → Type 0 = λ o. IsSomeAnd o (λ v. HasRoomFor v 1) in
      subst P (sym (c.record_one.ensures.others (get_or c.args.locks.now k 0) apart)) (c.loop-lock.invariant.room k at_least within);
}
