use Rattle.std.proofs.Common.{◌≡◌, length}
use Rattle.question_server.proofs.seats.Seats.new.Given as goal

-- A seat was added for each turn.
abbrev pub invariant-loop : goal.invariant-loop
invariant-loop l = length l.streams.items ≡ l.counter
