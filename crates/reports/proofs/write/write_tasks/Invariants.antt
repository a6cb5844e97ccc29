use Rattle.std.proofs.Common.{take, flat_map}
use Rattle.reports.specs.Text.{row_text}
use Rattle.reports.specs.Sinks.{AppendsText}
use Rattle.reports.proofs.write.write_tasks.Given as goal

abbrev pub invariant-loop-task : goal.invariant-loop-task
invariant-loop-task g l = AppendsText g.T.Sink.room l.initial.text (flat_map (λ task. flat_map row_text task.items) (take l.task-index l.tasks)) l.text
