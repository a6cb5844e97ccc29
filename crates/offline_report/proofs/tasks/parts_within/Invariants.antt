use Rattle.std.specs.Arc.{arc_value}
use Rattle.offline_report.proofs.tasks.parts_within.Given as goal

-- The question that is computed, and its limit.
abbrev pub ghosts-compute_all : goal.ghosts-compute_all
ghosts-compute_all g a = record {
  events = (arc_value a.analysis.now).events;
  bound = (arc_value a.analysis.now).bound;
  limit = a.limit;
}
