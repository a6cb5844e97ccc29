use Rattle.std.proofs.Common.{arith}
use Rattle.dependencies.specs.Tables.{table_dependencies}
use Rattle.cycle_search.proofs.EdgeLemmas.{held-known, fall-repeated, fall-tested}
use Rattle.cycle_search.proofs.edges.fall_at_most.Goals as goal
use Rattle.cycle_search.proofs.edges.fall_at_most.Goals.{else-not-is_repeated-via-then-not-is_repeated+else-not-are_at_least, else-not-is_repeated-via-else-not-is_repeated}

pub are_at_least-requires : goal.are_at_least-requires
are_at_least-requires c n holds =
    let inside = held-known (table_dependencies c.args.table.now) c.loop-number.number c.successors.result.now (omega (arith, c.loop-number-test.true, c.len-number-end.ensures.value)) c.successors.ensures n holds in
    omega (arith, inside, c.requires.each)

pub loop-number-preserved : goal.loop-number-preserved
loop-number-preserved c =
    let ds = table_dependencies c.args.table.now in
    let i = c.loop-number.number in
    elim c.else-not-is_repeated.branch [
      | else-not-is_repeated-via-then-not-is_repeated+else-not-are_at_least w ↦
          fall-tested ds c.args.values.now w.successors.result.now c.args.from c.args.step c.saturating_sub-least.result i w.successors.ensures
          (omega (arith, c.saturating_sub-least.ensures)) (w.are_at_least.ensures w.if-not-are_at_least.false) c.loop-number.invariant
      | else-not-is_repeated-via-else-not-is_repeated w ↦
          fall-repeated ds c.args.values.now c.args.from c.args.step i (omega (arith, c.loop-number-test.true, c.len-number-end.ensures.value)) c.loop-number.invariant
          (c.is_repeated.ensures w.if-not-is_repeated.false)
    ]
