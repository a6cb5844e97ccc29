use Rattle.std.proofs.Common.{ℕ, List, true, false, ◌≡◌, leb, ltb, rules, sym, subst, arith}
use Rattle.std.proofs.lemmas.List.Sorted.{IsPartitionPoint-from_clause, IsPartitionedBy-leb, IsPartitionedBy-ltb}
use Rattle.std.specs.List.Sorted.{IsNonDecreasing, IsPartitionPoint}
use Rattle.cycle_search.proofs.ThreadKeys.{few-keys}
use Rattle.cycle_search.proofs.component_threads.ComponentThreads.count.Goals as goal

pub returns : goal.returns
returns c = λ threads apart has.
    let keys = c.as_slice-keys.result.now in
    let first = c.key-first.result in
    let last = c.key-last.result in
    let start = c.partition_point-start.result in
    let end = c.partition_point-end.result in
    let up = subst IsNonDecreasing (sym c.as_slice-keys.ensures.value) c.requires in
    let low = IsPartitionPoint-from_clause (λ y. ltb y first) keys start c.partition_point-start.ensures.partitioned (IsPartitionedBy-ltb (λ y. y) keys first up) (search rules) in
    let high = IsPartitionPoint-from_clause (λ y. leb y last) keys end c.partition_point-end.ensures.partitioned (IsPartitionedBy-leb (λ y. y) keys last up) (search rules) in
    omega (
      arith,
      few-keys c.args.self.now.keys.items c.args.component first last start end threads c.key-first.ensures c.key-last.ensures
          (subst (λ (xs : List ℕ). IsPartitionPoint (λ y. ltb y first ≡ true) (λ y. ltb y first ≡ false) xs start) c.as_slice-keys.ensures.value low)
          (subst (λ (xs : List ℕ). IsPartitionPoint (λ y. leb y last ≡ true) (λ y. leb y last ≡ false) xs end) c.as_slice-keys.ensures.value high) apart has,
    )
