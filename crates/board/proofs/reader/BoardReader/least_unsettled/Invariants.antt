use Rattle.std.proofs.Common.{length}
use Rattle.board.proofs.reader.BoardReader.least_unsettled.Given as goal

-- the number of steps that it knows of
abbrev pub ghosts-read_entry : goal.ghosts-read_entry
ghosts-read_entry g a = record { count = length a.known.now }
