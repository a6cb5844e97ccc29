-- The replies of a client (this project's profile).
use Rattle.std.specs.Prelude.{◌≡◌, ◌⊎◌, ℕ, suc, List, [], ◌∷◌, take, Option, Some, None, MatchOption}
use mathlib.Core.List.{IsPrefix}
use Rattle.trace_model.specs.declared.limits.TheConstants.{MAX_EVENTS}
use Rattle.trace_model.specs.declared.refusal.Refusal.TheVariants.{BoardBusy}
use Rattle.trace_model.specs.declared.messages.session.Request.{Request}
use Rattle.trace_model.specs.declared.messages.session.Request.TheVariants.{Offer, Ask, Status, Batch}
use Rattle.trace_model.specs.declared.messages.session.Reply.{Reply}
use Rattle.trace_model.specs.declared.messages.session.Reply.TheVariants.{Placed, Refused, Opened, Batched}
use Rattle.trace_model.specs.declared.messages.step.BoardStep.{BoardStep}
use Rattle.trace_model.specs.declared.messages.step.BoardStep.TheVariants.{Accept, Open}
use Rattle.trace_model.specs.Protocol.Machine.{State, status}
use Rattle.board.specs.Entries.{IsBusy}
use Rattle.board.specs.Fits.{ReaderView}
use Rattle.board.specs.declared.entry.Busy.{Busy}
use Rattle.desk.specs.Published.{After, Afterwards, EndsBy}
use Rattle.sequencer.specs.Called.{StepsOrMemory}

-- the step of a request that this reply accepts; none if it changes nothing
abbrev pub published_as : Request → Reply → Option BoardStep
published_as (Offer e) (Placed place) = Some (Accept (e ∷ []))
published_as (Ask bound) (Opened question len total) = Some (Open bound total)
published_as (Batch events) (Batched (suc accepted) refusal len) =
    Some (Accept (take (suc accepted) events))
published_as request reply = None

-- Either the reply is the machine's after the run and changes nothing, or the run ends with the
-- request's step and the reply is the machine's for it. Both may report a failed allocation.
abbrev pub RepliesAfter : ℕ → Request → Reply → List BoardStep → Type 0
RepliesAfter limit request reply run = MatchOption (published_as request reply)
    (Afterwards limit run (λ state. StepsOrMemory state request reply state))
    (λ last. EndsBy limit run last (λ state next. StepsOrMemory state request reply next))

-- The client has then seen a run that extends all that it had seen. The reply is the desk's after
-- this run.
pub record IsResponse (limit : ℕ) (old : ReaderView) (request : Request) (reply : Reply)
    (new : ReaderView) : Type 0 where
  pub later : IsPrefix old.known new.known
  pub replies : RepliesAfter limit request reply new.known
  pub entered : new.failed ≡ old.failed

-- the machine's status after all that the client has then seen, read from the board; or an entry of
-- its reader failed for one of the two reasons, and it has seen no more
abbrev pub IsStatus : ReaderView → ℕ → Reply → ReaderView → Type 0
IsStatus old question reply new =
    (IsPrefix old.known new.known × (new.failed ≡ old.failed)
    × (state : State) × After MAX_EVENTS new.known state × (reply ≡ status state question))
    ⊎ ((reply ≡ Refused BoardBusy) × (reason : Busy) × IsBusy old new reason)

-- What a client has seen is never lost. A status is that of the seen steps. Any other reply is
-- the desk's
abbrev pub StepsAtDesk : ℕ → ReaderView → Request → Reply → ReaderView → Type 0
StepsAtDesk limit old (Status question) reply new = IsStatus old question reply new
StepsAtDesk limit old request reply new = IsResponse limit old request reply new
