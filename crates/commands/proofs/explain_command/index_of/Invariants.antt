use Rattle.std.proofs.Common.{◌≢◌, take}
use Rattle.std.specs.List.{All}
use Rattle.commands.proofs.explain_command.index_of.Given as goal

-- None of the rows so far has this cycle.
abbrev pub invariant-loop-index : goal.invariant-loop-index
invariant-loop-index l = All (λ row. row.row.cycle ≢ l.cycle) (take l.index l.finding.rows)
