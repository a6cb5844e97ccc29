use Rattle.std.proofs.Common.{◌≡◌, ◌<◌, ℕ, List, true, false, leb, rules, sym, subst, arith}
use Rattle.std.proofs.lemmas.List.Sorted.{IsPartitionPoint-from_clause, IsPartitionedBy-leb}
use Rattle.std.specs.List.{Contains}
use Rattle.std.specs.List.Sorted.{IsNonDecreasing, IsPartitionPoint}
use Rattle.cycle_search.specs.Acquirers.{key_of, IsLeastAbove}
use Rattle.cycle_search.proofs.Listed.{next-some, next-none}
use Rattle.cycle_search.proofs.acquirers.Acquirers.next_of.Goals as goal

pub returns-then-index-keys : goal.returns-then-index-keys
returns-then-index-keys c =
    let keys = c.as_slice-keys.result.now in
    let i = c.partition_point-index.result in
    let first = c.key-first.result in
    let up = subst IsNonDecreasing (sym c.as_slice-keys.ensures.value) c.requires in
    let at = IsPartitionPoint-from_clause (λ y. leb y first) keys i c.partition_point-index.ensures.partitioned (IsPartitionedBy-leb (λ y. y) keys first up) (search rules) in
    let split = subst (λ (f : ℕ). IsPartitionPoint (λ y. leb y f ≡ true) (λ y. leb y f ≡ false) keys i) c.key-first.ensures at in
    subst (λ (xs : List ℕ). IsLeastAbove c.args.bound (λ n. (n < 4294967296) × Contains xs (key_of c.args.lock n)) _) c.as_slice-keys.ensures.value
    (next-none keys up c.args.lock c.args.bound i split (omega arith))

pub returns : goal.returns
returns c =
    let keys = c.as_slice-keys.result.now in
    let i = c.partition_point-index.result in
    let first = c.key-first.result in
    let up = subst IsNonDecreasing (sym c.as_slice-keys.ensures.value) c.requires in
    let at = IsPartitionPoint-from_clause (λ y. leb y first) keys i c.partition_point-index.ensures.partitioned (IsPartitionedBy-leb (λ y. y) keys first up) (search rules) in
    let split = subst (λ (f : ℕ). IsPartitionPoint (λ y. leb y f ≡ true) (λ y. leb y f ≡ false) keys i) c.key-first.ensures at in
    subst (λ (xs : List ℕ). IsLeastAbove c.args.bound (λ n. (n < 4294967296) × Contains xs (key_of c.args.lock n)) c.number_of.result) c.as_slice-keys.ensures.value
    (next-some keys up c.args.lock c.args.bound i split c.number_of.result (omega arith) c.number_of.ensures)
