use Rattle.std.proofs.Common.{◌≡◌, ◌<◌, arith, length}
use Rattle.trace_model.specs.Theory.Cycles.{next}
use Rattle.trace_model.specs.Theory.Held.{has}
use Rattle.dependencies.specs.Tables.{table_dependencies}
use Rattle.cycle_search.proofs.Paths.{next-inside, next-last}
use Rattle.commands.proofs.RowTests.{linked_iff, number_at}
use Rattle.std.proofs.Common.{◌∙◌}
use Rattle.commands.proofs.explained_rows.is_linked.Goals as goal
use Rattle.commands.proofs.explained_rows.is_linked.Goals.{then-index-numbers, else-index-numbers}

pub returns : goal.returns
returns c =
    let numbers = c.args.numbers.now in
    let i = c.args.index in
    let n = c.if-index-numbers.next in
    let within : i < length numbers = c.requires.within in
    let after : next numbers i ≡ n = elim c.if-index-numbers.branch [
      | then-index-numbers w ↦ omega (arith, next-last numbers i (omega (arith, w.if-index-numbers.true)), w.next-is)
      | else-index-numbers w ↦ omega (arith, next-inside numbers i (omega (arith, within, w.if-index-numbers.false)), w.next-is)
    ] in
    let inside : n < length numbers = elim c.if-index-numbers.branch [
      | then-index-numbers w ↦ omega (arith, within, w.next-is)
      | else-index-numbers w ↦ omega (arith, within, w.if-index-numbers.false, w.next-is)
    ] in
    linked_iff (table_dependencies c.args.table.now) numbers i n _ _ c.get.result.now c.get-2.result.now c.contains.result (number_at numbers i within) c.get.ensures after (number_at numbers n inside) c.get-2.ensures
    (c.contains.ensures ∙ (λ k. has (c.behind-table.view_is k).lock (c.behind-table-2.view_is k).held))
