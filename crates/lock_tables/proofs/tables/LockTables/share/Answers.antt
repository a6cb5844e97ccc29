use Rattle.std.proofs.Common.{take, sym, subst, arith}
use Rattle.std.proofs.lemmas.List.{length-take-le}
use Rattle.std.specs.Arc.{arc_value}
use Rattle.dependencies.specs.Tables.{HasDependenciesOf}
use Rattle.lock_graph.specs.Graph.{HasGraphOf}
use Rattle.std.proofs.lemmas.Result.{IfOk-from_err}
use Rattle.lock_tables.proofs.OneFurther.{named_length}
use Rattle.lock_tables.proofs.tables.LockTables.share.Goals as goal

pub share-requires : goal.share-requires
share-requires c =
    let (s, f, counts) = c.requires in
    (c.tables_follow.ensures.part c.args.self.now.dependencies c.args.self.now.dependencies s c.args.total c.args.events f.dependencies counts.within counts.counted).0

pub graph_of-requires-clause-total : goal.graph_of-requires-clause-total
graph_of-requires-clause-total c =
    let (s, f, counts) = c.requires in
    let rows = c.args.self.now.dependencies.shown in
    let is = (c.tables_follow.ensures.part c.args.self.now.dependencies c.args.self.now.dependencies s c.args.total c.args.events f.dependencies counts.within counts.counted).0.within in
    let len = named_length rows in
    omega arith

pub returns : goal.returns
returns c s f counts =
    let n = c.args.events in
    let len = length-take-le n s counts.within in
    let part = c.in_ok-dependencies.ensures in
    record {
      dependencies = subst (HasDependenciesOf c.in_ok-dependencies.dependencies (take n s)) (sym len)
          ((c.tables_follow.ensures.part c.args.self.now.dependencies c.in_ok-dependencies.dependencies s c.args.total n f.dependencies counts.within counts.counted).1 part);
      graph = subst (λ ds. HasGraphOf ds (arc_value c.in_ok-graph.graph)) (sym part.dependencies) c.in_ok-graph.ensures;
    }

pub returns-in_err-dependencies : goal.returns-in_err-dependencies
returns-in_err-dependencies c = IfOk-from_err c.from_residual.result _ c.from_residual.ensures.0

pub returns-in_err-graph : goal.returns-in_err-graph
returns-in_err-graph c = IfOk-from_err c.from_residual-in_err-graph.result _ c.from_residual-in_err-graph.ensures.0
