use Rattle.std.proofs.Common.{◌+◌, ◌-◌, ◌≤◌}
use Rattle.reports.specs.Pieces.{TakesText}
use Rattle.reports.specs.Text.{run_text}
use Rattle.reports.proofs.piece.Piece.take_run.Given as goal

abbrev pub invariant-loop-number : goal.invariant-loop-number
invariant-loop-number l = record {
  least : l.first ≤ l.number;
  most : l.number ≤ l.first + l.count;
  taken : TakesText l.initial.self (run_text l.first (l.number - l.first)) l.self;
}
