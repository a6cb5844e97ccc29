-- A session over a book (this project's profile).
use Rattle.std.specs.Prelude.{◌≡◌, ℕ, false, List, Option, Result}
use Rattle.std.specs.List.{All}
use Rattle.trace_model.specs.Protocol.Machine.{State}
use Rattle.sequencer.specs.Called.{StepsOrMemory, lacks_memory}
use Rattle.sequencer.specs.Called.{state_called, answer_to}
use Rattle.sessions.specs.Serving.{Call, requests_called, frames_of, SessionPoint, ServesText}
use Rattle.sessions.specs.declared.serving.Ended.{Ended}
use Rattle.sessions.specs.declared.serving.ServeFault.{ServeFault}

-- no reply reports a failed allocation
abbrev pub NoneLacksMemory : List Call → Type 0
NoneLacksMemory calls = All (λ (call : Call). lacks_memory call.1 ≡ false) calls

-- the calls are the machine's: its state after them, and its reply frames
abbrev pub AreMachines : State → List Call → State → Type 0
AreMachines old calls new =
    NoneLacksMemory calls → (new ≡ state_called old (requests_called calls))
    × (frames_of calls ≡ answer_to old (requests_called calls))

-- A text was read, its requests were called in order, and the machine's replies were written.
pub record ServedByMachine (old new : SessionPoint State) (sent : Option (List ℕ))
    (result : Result Ended ServeFault) : Type 0 where
  pub served : ServesText StepsOrMemory old new sent result
  pub machine : AreMachines old.calls served.done new.calls
