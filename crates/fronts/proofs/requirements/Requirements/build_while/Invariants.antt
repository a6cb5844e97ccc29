use Rattle.std.proofs.Common.{◌≤◌, ◌-◌, length}
use Rattle.fronts.specs.Tables.{AreRequirementTables}
use Rattle.fronts.proofs.requirements.Requirements.build_while.Given as goal

abbrev pub invariant-loop-end : goal.invariant-loop-end
invariant-loop-end l = AreRequirementTables l.index.events l.end l.tables × (l.end ≤ length l.index.events)

abbrev pub decreases-loop-end : goal.decreases-loop-end
decreases-loop-end l = length l.index.events - l.end
