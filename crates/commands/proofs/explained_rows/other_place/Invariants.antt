use Rattle.std.proofs.Common.{length}
use Rattle.trace_model.specs.Theory.Trace.{Trace}
use Rattle.dependencies.specs.Tables.{HasDependenciesOf}
use Rattle.event_files.specs.ExplainedText.{stated_cycle}
use Rattle.commands.specs.ExplainedRows.{IsPlaced}
use Rattle.commands.proofs.RowTests.{HoldsBelow}
use Rattle.commands.proofs.explained_rows.other_place.Given as goal

-- The places so far are those of their dependencies.
abbrev pub invariant-loop-index : goal.invariant-loop-index
invariant-loop-index l =
    (s : Trace) → HasDependenciesOf l.table s (length s) → HoldsBelow l.explained.cycle (IsPlaced s (stated_cycle l.explained)) l.index
