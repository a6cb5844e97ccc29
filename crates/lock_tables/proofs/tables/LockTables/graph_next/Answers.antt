use Rattle.std.proofs.Common.{refl, arith}
use Rattle.dependencies.specs.Tables.{table_dependencies}
use Rattle.std.proofs.lemmas.Result.{IfOk-from_err}
use Rattle.lock_tables.proofs.OneFurther.{graph_same, graph_next}
use Rattle.lock_tables.proofs.tables.LockTables.graph_next.Goals as goal

pub returns-in_err-add_to-clause-follow : goal.returns-in_err-add_to-clause-follow
returns-in_err-add_to-clause-follow c s f = record {
  counted = f.counted;
  held = f.held;
  dependencies = f.dependencies;
  graphed = f.graphed;
  graph = graph_same _ _ _ c.in_err-add_to.ensures.err f.graph;
}

pub returns-clause-follow : goal.returns-clause-follow
returns-clause-follow c s f = record {
  counted = f.counted;
  held = f.held;
  dependencies = f.dependencies;
  graphed = (let l = c.requires in omega arith);
  graph = graph_next (table_dependencies c.args.self.now.dependencies) c.args.self.now.graphed c.args.self.now.graphed c.get-dependency.result.now _ _ refl c.get-dependency.ensures c.requires
      c.in_ok-add_to.ensures.ok f.graph;
}

pub returns-in_err-add_to-clause-ok : goal.returns-in_err-add_to-clause-ok
returns-in_err-add_to-clause-ok c = IfOk-from_err c.from_residual.result _ c.from_residual.ensures.0
