use Rattle.std.proofs.Common.{◌≡◌, ◌-◌, length}
use Rattle.reports.specs.Remaining.{rest_text}
use Rattle.reports.proofs.row_cursor.RowCursor.next.Given as goal

abbrev pub invariant-loop-self : goal.invariant-loop-self
invariant-loop-self l = rest_text l.tasks l.self ≡ rest_text l.tasks l.initial.self

abbrev pub decreases-loop-self : goal.decreases-loop-self
decreases-loop-self l = length l.tasks - l.self.task
