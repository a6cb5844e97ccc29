use Rattle.std.proofs.Common.{◌≡◌, ◌<◌, ◌%◌, ◌∙◌, inl, inr, length, get_or, slice_get, slice_set, Some, true, sym, subst, arith}
use Rattle.std.proofs.lemmas.Bool.{cases_lt}
use Rattle.std.proofs.lemmas.List.{length-set}
use Rattle.std.proofs.lemmas.Option.{slice_get_within, get_or_from_slice_get}
use Rattle.std.specs.List.{Contains}
use Rattle.trace_model.proofs.Theory.Unique.{has_contained}
use Rattle.cycle_search.proofs.EdgeLemmas.{set-marked, set-kept}
use Rattle.cycle_search.proofs.lock_filter.LockFilter.of.Goals as goal

pub loop-lock-preserved : goal.loop-lock-preserved
loop-lock-preserved c =
    let items = c.locks-lock-items.result.now in
    let i = c.loop-lock.lock-index in
    let m = get_or items i 0 in
    let marks = c.loop-lock.marks in
    let inside : m % 64 < length marks = omega (arith, c.loop-lock.invariant.sized) in
    record {
      sized = length-set marks (m % 64) true ∙ c.loop-lock.invariant.sized;
      marked = λ k lock l at. elim (cases_lt k i) [
        | inl before ↦ set-kept marks (m % 64) (lock % 64) (c.loop-lock.invariant.marked k lock before at)
        | inr after ↦
            let last : k ≡ i = omega (arith, l, after) in
            let same : m ≡ lock = subst (λ n. get_or items n 0 ≡ lock) last (get_or_from_slice_get items k lock 0 at) in
            subst (λ n. slice_get (slice_set marks (m % 64) true) (n % 64) ≡ Some true) same (set-marked marks (m % 64) inside)
      ];
    }

pub returns : goal.returns
returns c lock has =
    let items = c.locks-lock-items.result.now in
    let (k, at) = has_contained items lock (subst (λ xs. Contains xs lock) (sym c.locks-lock-items.ensures.value) has) in
    c.loop-lock.invariant.marked k lock (omega (arith, slice_get_within items k lock at, c.loop-lock-test.false)) at
