use Rattle.std.specs.Arc.{arc_value}
use Rattle.offline_report.proofs.tasks.early_end_tests.no_task_begins_after_a_failed_allocation.Given as goal

-- The question that is computed, and its limit.
abbrev pub ghosts-refusals_without_memory : goal.ghosts-refusals_without_memory
ghosts-refusals_without_memory g a = record {
  events = (arc_value a.analysis.now).events;
  bound = (arc_value a.analysis.now).bound;
  limit = a.limit;
}
