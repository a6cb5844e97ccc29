use Rattle.std.proofs.Common.{◌≡◌, ◌↔◌, ◌<◌, ◌-◌, ℕ, List, length, take, drop, leb, rules, sym, subst, arith}
use Rattle.std.proofs.lemmas.List.{take_all, length-drop}
use Rattle.std.proofs.lemmas.List.Sorted.{IsPartitionPoint-from_clause, IsPartitionedBy-leb}
use Rattle.std.specs.List.{Contains}
use Rattle.std.specs.List.Sorted.{IsStrictlyIncreasing}
use Rattle.cycle_search.proofs.Paths.{above-exact, above-ascends, non-decreasing}
use Rattle.cycle_search.proofs.ascending.above.Goals as goal

pub returns : goal.returns
returns c =
    let xs = c.args.numbers.now in
    let i = c.partition_point.result in
    let at = IsPartitionPoint-from_clause (λ y. leb y c.args.bound) xs i c.partition_point.ensures.partitioned
    (IsPartitionedBy-leb (λ y. y) xs c.args.bound (non-decreasing xs c.requires)) (search rules) in
    let whole : drop i xs ≡ take (length xs - i) (drop i xs) = sym (take_all (length xs - i) (drop i xs) (omega (arith, length-drop i xs))) in
    record {
      exact = subst (λ (ys : List ℕ). (m : ℕ) → Contains ys m ↔ ((c.args.bound < m) × Contains xs m)) whole (above-exact xs c.requires c.args.bound i at);
      ascends = subst IsStrictlyIncreasing whole (above-ascends xs c.requires c.args.bound i at);
    }
