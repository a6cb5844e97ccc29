use Rattle.std.proofs.Common.{◌≤◌, subst}
use Rattle.std.proofs.lemmas.Result.{IfOk-from_err}
use Rattle.lock_tables.proofs.tables.LockTables.catch_up.Goals as goal

pub returns-in_err-graph_next-clause-all : goal.returns-in_err-graph_next-clause-all
returns-in_err-graph_next-clause-all c = IfOk-from_err c.from_residual.result _ c.from_residual.ensures.0

pub returns-clause-all : goal.returns-clause-all
returns-clause-all c = subst (λ n. n ≤ c.loop-self.self.graphed) c.len.ensures.value c.loop-self-test.false
