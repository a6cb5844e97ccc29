use Rattle.fronts.specs.Tables.{AreRequirementTables}
use Rattle.fronts.proofs.requirements.Tables.extend.Given as goal

abbrev pub invariant-loop-place : goal.invariant-loop-place
invariant-loop-place l = AreRequirementTables l.index.events l.place l.self
