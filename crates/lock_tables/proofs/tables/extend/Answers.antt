use Rattle.std.proofs.Common.{◌≡◌, take, refl, subst, arith}
use Rattle.dependencies.specs.Tables.{table_dependencies}
use Rattle.lock_graph.specs.Graph.{IsGraphOf, holders}
use Rattle.std.proofs.lemmas.Result.{IfOk-from_err}
use Rattle.lock_tables.proofs.OneFurther.{graph_next}
use Rattle.lock_tables.proofs.tables.extend.Goals as goal

pub loop-number-preserved : goal.loop-number-preserved
loop-number-preserved c =
    let l = c.loop-number-test.true in
    let w = c.requires.within in
    graph_next (table_dependencies c.args.table.now) c.loop-number.number c.loop-number.number c.get.result.now _ _ refl c.get.ensures (omega arith) c.in_ok-add.ensures.graph c.loop-number.invariant

pub returns : goal.returns
returns c =
    let past = c.loop-number-test.false in
    let end = c.loop-number.auto.number-end in
    let last : c.loop-number.number ≡ c.args.to = omega (arith, c.requires.order) in
    subst (λ n. IsGraphOf (take n (table_dependencies c.args.table.now)) (holders c.loop-number.graph)) last c.loop-number.invariant

pub returns-in_err-add : goal.returns-in_err-add
returns-in_err-add c = IfOk-from_err c.from_residual.result _ c.from_residual.ensures.0
