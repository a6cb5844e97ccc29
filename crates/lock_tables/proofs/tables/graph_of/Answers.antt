use Rattle.std.proofs.Common.{take, sym, subst, arith}
use Rattle.std.specs.Arc.{arc_value}
use Rattle.dependencies.specs.Tables.{table_dependencies}
use Rattle.lock_graph.specs.Graph.{HasGraphOf, IsGraphOf}
use Rattle.std.proofs.lemmas.Result.{IfOk-from_err}
use Rattle.lock_tables.specs.Tables.{shared_holders}
use Rattle.lock_tables.proofs.OneFurther.{graph_same, graph_part}
use Rattle.lock_tables.proofs.tables.graph_of.Goals as goal
use Rattle.lock_tables.proofs.tables.graph_of.Goals.{then-graphed-total+in_ok-extend, else-graphed-total}

pub extend-requires-clause-graph : goal.extend-requires-clause-graph
extend-requires-clause-graph c = graph_same _ _ _ c.in_ok-copy.ensures c.requires.graph

pub returns : goal.returns
returns c =
    let all = table_dependencies c.args.table.now in
    subst (HasGraphOf (take c.args.total all)) (sym c.in_ok-try_clone.ensures)
    (graph_part all c.args.total c.args.graphed (arc_value c.in-Some.shared)
    (subst (λ o. IsGraphOf (take c.args.graphed all) (shared_holders o)) c.in-Some.is c.requires.graph) c.if-total-graphed.true c.requires.graphed)

pub returns-2 : goal.returns-2
returns-2 c =
    let all = table_dependencies c.args.table.now in
    subst (HasGraphOf (take c.args.total all)) (sym c.in_ok-new.ensures.ok)
    (elim c.if-graphed-total.branch [
      | then-graphed-total+in_ok-extend w ↦ subst (HasGraphOf (take c.args.total all)) (sym w.copy-is)
          (graph_part all c.args.total c.args.total _ w.in_ok-extend.ensures (omega arith) c.requires.total)
      | else-graphed-total w ↦
          let fewer = w.if-graphed-total.false in
          subst (HasGraphOf (take c.args.total all)) (sym w.copy-is)
          (graph_part all c.args.total c.args.graphed _ (graph_same _ _ _ c.in_ok-copy.ensures c.requires.graph) (omega arith) c.requires.graphed)
    ])

pub returns-in_err-try_clone : goal.returns-in_err-try_clone
returns-in_err-try_clone c = IfOk-from_err c.from_residual.result _ c.from_residual.ensures.0

pub returns-in_err-copy : goal.returns-in_err-copy
returns-in_err-copy c = IfOk-from_err c.from_residual-in_err-copy.result _ c.from_residual-in_err-copy.ensures.0

pub returns-in_err-extend : goal.returns-in_err-extend
returns-in_err-extend c = IfOk-from_err c.from_residual-in_err-extend.result _ c.from_residual-in_err-extend.ensures.0

pub returns-in_err-new : goal.returns-in_err-new
returns-in_err-new c = IfOk-from_err c.from_residual-in_err-new.result _ c.from_residual-in_err-new.ensures.0
