use Rattle.std.proofs.Common.{◌≡◌, ◌+◌, ◌++◌, ◌∷◌, [], ℕ, length, sym, ap, ◌∙◌, subst, arith}
use Rattle.std.proofs.lemmas.List.Sorted.{IsNonDecreasingBy-from_sort}
use Rattle.trace_model.specs.Theory.Dependencies.{Dependency}
use Rattle.dependencies.specs.Tables.{table_dependencies}
use Rattle.cycle_search.specs.Acquirers.{key_of}
use Rattle.cycle_search.proofs.Listed.{HasKeys, keys-more, keys-sorted, acquirers-known}
use Rattle.cycle_search.proofs.acquirers.Acquirers.new.Goals as goal

pub loop-number-preserved : goal.loop-number-preserved
loop-number-preserved c =
    let ds = table_dependencies c.args.table.now in
    let i = c.loop-number.number in
    let same = c.key.ensures ∙ ap (λ (d : Dependency). key_of d.lock i) c.behind-table.view_is in
    let v = c.loop-number.invariant in
    let added = c.push_reserved.ensures in
    record {
      has = subst (HasKeys ds (i + 1)) (sym (added.items ∙ ap (λ (k : ℕ). c.loop-number.keys.items ++ k ∷ []) same))
          (keys-more ds i c.get.result.now c.loop-number.keys.items c.get.ensures v.has);
      counted = omega (arith, added.len, v.counted);
      room = omega (arith, added.capacity, v.room);
    }

pub returns : goal.returns
returns c =
    let ds = table_dependencies c.args.table.now in
    let end : length ds ≡ c.loop-number.number = omega arith in
    acquirers-known ds _ c.len-number-end.ensures.few
    (subst (λ (n : ℕ). HasKeys ds n c.sort.new.self.items) (sym end) (keys-sorted ds _ _ _ c.in_ok-sort.ensures.permutation c.loop-number.invariant.has))
    (IsNonDecreasingBy-from_sort (λ y. y) _ c.in_ok-sort.ensures.sorted)
