use Rattle.std.proofs.Common.{◌≡◌, ℕ, length}
use Rattle.desk.specs.Turns.{paused_at}
use Rattle.desk.proofs.task_jobs.grow.Given as goal

-- The same jobs are kept, and one more place was added for each turn.
abbrev pub invariant-loop : goal.invariant-loop
invariant-loop g l = record {
  same : (number : ℕ) → paused_at l.jobs.items number ≡ paused_at l.fn.jobs.items number;
  count : length l.jobs.items ≡ l.counter;
}
