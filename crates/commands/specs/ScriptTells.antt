-- What a script prints, and how it ends (this project's profile).
use Rattle.std.specs.Prelude.{◌≡◌, ℕ, List, [], ◌∷◌, ◌++◌, Option, None, Result, box_value, codes, take}
use Rattle.trace_model.specs.declared.refusal.Refusal.{Refusal}
use Rattle.trace_model.specs.declared.messages.session.Request.{Request}
use Rattle.trace_model.specs.declared.messages.session.Request.TheVariants as requests
use Rattle.trace_model.specs.declared.messages.session.Reply.{Reply}
use Rattle.trace_model.specs.Protocol.Frames.{IsRequest, frame}
use Rattle.trace_model.specs.Protocol.Machine.{State, opening}
use Rattle.event_files.specs.EventFile.{pieces_at}
use Rattle.event_frames.specs.Reader.{FrameReaderView}
use Rattle.sequencer.specs.Called.{StepsOrMemory, WantsRightly}
use Rattle.commands.specs.Output.{EndsWithStatus}
use Rattle.commands.specs.Script.{reply_text}
use Rattle.commands.specs.ScriptFile.{IsFirstBadLine, IsScriptOf}
use Rattle.commands.specs.ScriptRun.{DeliversOne, Works, outcome_line}
use Rattle.commands.specs.declared.exit.Status.{Status}
use Rattle.commands.specs.declared.exit.Status.TheVariants.{Done, Refused, Error, NotUnderstood}
use Rattle.commands.specs.declared.script_command.reading.Command.{Command}
use Rattle.commands.specs.declared.script_command.reading.Command.TheVariants.{Offer, Batch, Ask, Work, Deliver, Answer, Status as AskStatus}

-- the bytes are the frame of a request
abbrev pub IsFrame : List ℕ → Type 0
IsFrame bytes = (request : Request) × IsRequest request × (bytes ≡ frame request)

-- the reply to the request of this frame is the machine's, and leads from the first state to the
-- second; or it is `NoMemory`, if the machine accepts the request and its reply needs an allocation
abbrev pub RepliesToFrame : List ℕ → State → Reply → State → Type 0
RepliesToFrame bytes s reply next = (request : Request) → IsRequest request →
    bytes ≡ frame request →
    StepsOrMemory s request reply next × WantsRightly s request reply

-- the reader has the frame of one request, and has returned no fault
pub record HasOneFrame (reader : FrameReaderView) : Type 0 where
  pub frame : IsFrame reader.rest
  pub faultless : reader.returned ≡ None

-- the reply is that to the reader's frame; the reader left has no byte and no fault
pub record AnswersFrame (reader : FrameReaderView) (s : State) (reply : Reply)
    (left : FrameReaderView) (next : State) : Type 0 where
  pub replied : RepliesToFrame reader.rest s reply next
  pub read : left.rest ≡ []
  pub same : (left.returned ≡ None) × (left.ended ≡ reader.ended)

-- the text is that of the machine's reply to the request; or of `NoMemory`, if the machine accepts
-- the request and its reply needs an allocation
abbrev pub Replies : State → Request → State → List ℕ → Type 0
Replies s request next text = (reply : Reply) × StepsOrMemory s request reply next
    × WantsRightly s request reply × (text ≡ reply_text reply)

-- the text is what the command prints in the first state, which leads to the second
abbrev pub Prints : State → Command → State → List ℕ → Type 0
Prints s (Offer event) next text = Replies s (requests.Offer event) next text
Prints s (Batch events) next text = Replies s (requests.Batch (box_value events)) next text
Prints s (Ask bound) next text = Replies s (requests.Ask bound) next text
Prints s (Work question) next text = (outcome : Result ℕ Refusal) × Works s question outcome next
    × (text ≡ outcome_line (codes "worked ") outcome)
Prints s (Deliver question task) next text = (outcome : Result ℕ Refusal)
    × DeliversOne s question task outcome next × (text ≡ outcome_line (codes "delivered ") outcome)
Prints s (Answer question) next text = Replies s (requests.Answer question) next text
Prints s (AskStatus question) next text = Replies s (requests.Status question) next text

-- the text is what the commands print, each in the state that the one before it left
abbrev pub PrintsAll : State → List Command → State → List ℕ → Type 0
PrintsAll s [] last text = (last ≡ s) × (text ≡ [])
PrintsAll s (command ∷ commands) last text = (mid : State) × (first rest : List ℕ)
    × Prints s command mid first × PrintsAll mid commands last rest × (text ≡ first ++ rest)

-- the text is that of a reply to the request in this state
abbrev pub IsReplyTo : State → Request → List ℕ → Type 0
IsReplyTo s request text = (next : State) × Replies s request next text

-- the text is what the command prints in this state
abbrev pub IsPrintOf : State → Command → List ℕ → Type 0
IsPrintOf s command text = (next : State) × Prints s command next text

-- the text is what the first of the commands print
abbrev pub PrintsFirst : State → List Command → List ℕ → Type 0
PrintsFirst s commands text = (n : ℕ) × (last : State) × PrintsAll s (take n commands) last text

-- The text is right with this status: what the commands print, from the machine without events on.
-- With `Error` it is what the first of them print. A script is never refused.
abbrev pub RunPrints : ℕ → List Command → Status → List ℕ → Type 0
RunPrints limit commands Done text = (last : State) × PrintsAll (opening limit) commands last text
RunPrints limit commands Refused text = ⊥
RunPrints limit commands Error text = PrintsFirst (opening limit) commands text
RunPrints limit commands NotUnderstood text = ⊥

-- The text is right with this status for the file's commands.
abbrev pub ScriptPrints : List ℕ → ℕ → Status → List ℕ → Type 0
ScriptPrints file limit status text =
    (commands : List Command) × IsScriptOf commands file × RunPrints limit commands status text

-- A line of the file is the first that is not understood.
abbrev pub HasWrongCommand : List ℕ → Type 0
HasWrongCommand file = (number : ℕ) × IsFirstBadLine (pieces_at 10 file) number

-- What a status says of the output of `script` on this file, with a book of this limit.
abbrev pub ScriptTells : List ℕ → ℕ → Status → Option (List ℕ) → Option (List ℕ) → Type 0
ScriptTells file limit status before after =
    EndsWithStatus (ScriptPrints file limit) (HasWrongCommand file) status before after
