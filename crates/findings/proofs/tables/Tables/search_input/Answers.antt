use Rattle.std.proofs.Common.{length, ap, subst, arith}
use Rattle.findings.specs.Analyses.{AreTraceRequirements}
use Rattle.findings.proofs.Members.{none_past}
use Rattle.findings.proofs.tables.Tables.search_input.Goals as goal

pub returns-in_default : goal.returns-in_default
returns-in_default c numbers h = subst (AreTraceRequirements c.args.snapshot.now c.args._bound) c.in_default.is c.requires.requirements numbers h.0

pub returns-then-task-len : goal.returns-then-task-len
returns-then-task-len c = none_past c.args.snapshot.now c.args._bound c.args.task (omega (arith, ap length c.table.ensures.0, c.len.ensures.value, c.if-task-len.true))
