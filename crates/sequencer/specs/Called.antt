-- The reply of a book to a request (this project's profile).
use Rattle.std.specs.Prelude.{◌≡◌, ◌⊎◌, ℕ, Bool, true, false, List, [], ◌∷◌, ◌++◌, length, take, slice_get, Some, None}
use Rattle.trace_model.specs.declared.traces.event.Event.{Event}
use Rattle.trace_model.specs.declared.refusal.Refusal.TheVariants.{NoMemory}
use Rattle.trace_model.specs.declared.messages.session.Request.{Request}
use Rattle.trace_model.specs.declared.messages.session.Request.TheVariants.{Batch}
use Rattle.trace_model.specs.declared.messages.session.Reply.{Reply}
use Rattle.trace_model.specs.declared.messages.session.Reply.TheVariants.{Batched, Refused}
use Rattle.trace_model.specs.Theory.Lawful.{refusal_of}
use Rattle.trace_model.specs.Protocol.Replies.{reply_frame}
use Rattle.trace_model.specs.Protocol.Machine.{State, step}
use Rattle.sequencer.specs.Book.{TakesMemory}
use Rattle.sequencer.specs.Printing.{report_printer}

-- the request is not a batch
abbrev pub IsSingle : Request → Type 0
IsSingle (Batch events) = ⊥
IsSingle request = Unit {0}

-- an allocation failed before an event of the batch that the machine accepts: the reply is the
-- machine's to the accepted events, but with the number of `NoMemory`
pub record EndsForMemory (s : State) (events : List Event) (reply : Reply)
    (next : State) : Type 0 where
  pub accepted : ℕ
  pub event : Event
  pub stands : slice_get events accepted ≡ Some event
  pub lawful : refusal_of next.limit next.accepted event ≡ None
  pub steps : step report_printer s (Batch (take accepted events)) ≡
      (Batched accepted None (length s.accepted), next)
  pub replies : reply ≡ Batched accepted (Some NoMemory) (length s.accepted)

-- the reply and the next state are the machine's; or the reply is `NoMemory`, the machine's reply
-- needs an allocation, and nothing changes except for the accepted events of a batch
abbrev pub StepsOrMemory : State → Request → Reply → State → Type 0
StepsOrMemory s (Batch events) reply next =
    (step report_printer s (Batch events) ≡ (reply, next)) ⊎ EndsForMemory s events reply next
StepsOrMemory s request reply next =
    (step report_printer s request ≡ (reply, next))
    ⊎ ((reply ≡ Refused NoMemory) × (next ≡ s) × TakesMemory (step report_printer s request).0)

-- the reply is `NoMemory` only if the machine's reply needs an allocation
abbrev pub WantsRightly : State → Request → Reply → Type 0
WantsRightly s request reply =
    reply ≡ Refused NoMemory → ((step report_printer s request).0 ≡ reply)
    ⊎ TakesMemory (step report_printer s request).0

-- the reply reports a failed allocation
abbrev pub lacks_memory : Reply → Bool
lacks_memory (Refused NoMemory) = true
lacks_memory (Batched accepted (Some NoMemory) len) = true
lacks_memory reply = false

-- the machine after these requests
abbrev pub state_called : State → List Request → State
state_called state [] = state
state_called state (request ∷ requests) =
    state_called (step report_printer state request).1 requests

-- the reply frames to these requests
abbrev pub answer_to : State → List Request → List ℕ
answer_to state [] = []
answer_to state (request ∷ requests) = reply_frame (step report_printer state request).0 ++
    answer_to (step report_printer state request).1 requests
