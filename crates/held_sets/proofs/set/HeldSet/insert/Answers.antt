use Rattle.std.proofs.Common.{◌≡◌, ℕ, ◌<◌, ◌≤◌, ◌==◌, List, length, false, get_or, sym, ap, subst, ◌∙◌}
use Rattle.std.specs.List.{list_any}
use Rattle.std.specs.List.Sorted.{IsStrictlyIncreasing}
use Rattle.trace_model.specs.Theory.Held.{with_lock}
use Rattle.held_sets.proofs.Locks.{insert_is_with, with_increases}
use Rattle.held_sets.proofs.set.HeldSet.insert.Goals as goal

placed : (c : goal.After-insert) → c.insert.new.self.items ≡ with_lock c.args.lock c.self.inside.locks.items
placed c =
    let v = c.as_slice.ensures.value in
    let i = c.index_above-index.result in
    let l = c.args.lock in
    c.insert.ensures.items ∙ insert_is_with l c.self.inside.locks.items i
    (subst (λ (xs : List ℕ). i ≤ length xs) v c.index_above-index.ensures.within)
    (subst (λ (xs : List ℕ). (k : ℕ) → k < i → get_or xs k 0 ≤ l) v c.index_above-index.ensures.below)
    (subst (λ (xs : List ℕ). i < length xs → l < get_or xs i 0) v c.index_above-index.ensures.above)
    (subst (λ (xs : List ℕ). list_any (λ k. k == l) xs ≡ false) (sym c.self.view_is) c.requires.new)

pub invariant_of-self : goal.invariant_of-self
invariant_of-self c = subst IsStrictlyIncreasing (sym (placed c)) (with_increases c.args.lock c.self.inside.locks.items c.self.invariant)

pub returns : goal.returns
returns c = placed c ∙ ap (with_lock c.args.lock) c.self.view_is
