-- Entries of a reader that failed (this project's profile).
use Rattle.std.specs.Prelude.{ℕ, ◌≡◌, ◌+◌, ◌%◌, ◌^◌, ◌<◌, List, length}
use mathlib.Core.List.{IsPrefix}
use Rattle.trace_model.specs.declared.messages.step.BoardStep.{BoardStep}
use Rattle.trace_model.specs.Protocol.Runs.{IsLegal}
use Rattle.board.specs.Fits.{ReaderView}
use Rattle.board.specs.declared.entry.Busy.{Busy}
use Rattle.board.specs.declared.entry.Busy.TheVariants.{Behind}

-- the board shows a legal run that extends what the reader has seen, but is shorter than what it
-- knows
pub record IsBehind (seen known : List BoardStep) : Type 0 where
  pub shown : List BoardStep
  pub legal : IsLegal shown
  pub later : IsPrefix seen shown
  pub shorter : length shown < length known

-- one more, in a word of 64 bits
abbrev pub one_more : ℕ → ℕ
one_more n = (n + 1) % 2 ^ 64

-- The reader is busy: one more of its entries failed, and else it did not change. The reason is
-- `Behind` only if the board is behind what it knows, so else the board gave no entry.
pub record IsBusy (old new : ReaderView) (reason : Busy) : Type 0 where
  pub same : new ≡ record old { failed = one_more old.failed }
  pub behind : reason ≡ Behind → IsBehind old.seen old.known
