use Rattle.std.proofs.Common.{ltb, rules, sym}
use Rattle.std.proofs.lemmas.List.Sorted.{IsPartitionPoint-from_clause, IsPartitionedBy-ltb}
use Rattle.lock_graph.proofs.Beginning.{all_below, part_below, non_decreasing}
use Rattle.lock_graph.proofs.graph.below.Goals as goal

pub returns-in-Some : goal.returns-in-Some
returns-in-Some c = all_below c.args.total c.args.numbers.now _ c.requires (sym c.in-Some.ensures.value) c.if-last-total.true

pub returns-in_default : goal.returns-in_default
returns-in_default c =
    let xs = c.args.numbers.now in
    let i = c.partition_point.result in
    part_below c.args.total xs i (IsPartitionPoint-from_clause (λ y. ltb y c.args.total) xs i c.partition_point.ensures.partitioned
    (IsPartitionedBy-ltb (λ y. y) xs c.args.total (non_decreasing xs c.requires)) (search rules))
