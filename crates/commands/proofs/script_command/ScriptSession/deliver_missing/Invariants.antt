use Rattle.std.proofs.Common.{◌≡◌}
use Rattle.commands.specs.ScriptRun.{DeliversNext, IsJobIn}
use Rattle.commands.proofs.ScriptTasks.{HasDelivered}
use Rattle.commands.proofs.script_command.ScriptSession.deliver_missing.Given as goal

-- this many tasks are delivered, and the job is about the question
abbrev pub invariant-loop-worked : goal.invariant-loop-worked
invariant-loop-worked l = record {
  number : l.job.question ≡ l.question;
  job : IsJobIn l.self.book.state l.job;
  delivered : DeliversNext l.worked l.initial.self.book.state l.question l.self.book.state;
  counted : HasDelivered l.self.book.state l.question l.worked;
}
