-- What each session is sent, and the outcome of each finding, for a whole list of inputs (this
-- project's profile).
use Rattle.std.specs.Prelude.{ℕ, Bool, false, ◌||◌, ◌==◌, List, [], ◌∷◌, ◌++◌, length, drop, map, Option, Some, None, if◌then◌else◌}
use Rattle.trace_model.specs.declared.messages.session.Request.{Request}
use Rattle.trace_model.specs.declared.messages.session.Reply.TheVariants.{Fault as FaultReply}
use Rattle.trace_model.specs.declared.messages.session.Fault.{Fault}
use Rattle.trace_model.specs.Protocol.Frames.{requests_in, fault_in}
use Rattle.trace_model.specs.Protocol.Replies.{reply_frame}
use Rattle.trace_model.specs.Protocol.Machine.{State, step}
use Rattle.snapshots.specs.Found.{RowsOfTask}
use Rattle.sequencer.specs.declared.input.Input.{Input}
use Rattle.sequencer.specs.declared.input.Input.TheVariants.{Piece, End, Finding}
use Rattle.sequencer.specs.Printing.{report_printer}
use Rattle.sequencer.specs.Deliveries.{DeliveryResult, delivery, handed_back}

-- ---- what a session sends

-- the session of an input; a finding has none
abbrev pub session_of : Input → Option ℕ
session_of (Piece session bytes) = Some session
session_of (End session) = Some session
session_of (Finding finding) = None

-- the bytes that a session sent before its end
abbrev pub sent_text : ℕ → List Input → List ℕ
sent_text s [] = []
sent_text s (Piece session bytes ∷ inputs) = (if s == session then bytes.items else []) ++
    sent_text s inputs
sent_text s (End session ∷ inputs) = if s == session then [] else sent_text s inputs
sent_text s (Finding finding ∷ inputs) = sent_text s inputs

abbrev pub has_ended : ℕ → List Input → Bool
has_ended s [] = false
has_ended s (Piece session bytes ∷ inputs) = has_ended s inputs
has_ended s (End session ∷ inputs) = s == session || has_ended s inputs
has_ended s (Finding finding ∷ inputs) = has_ended s inputs

abbrev pub requests_of : ℕ → List Input → List Request
requests_of s inputs = requests_in (sent_text s inputs)

abbrev pub fault_of : ℕ → List Input → Option Fault
fault_of s inputs = fault_in (sent_text s inputs) (has_ended s inputs)

-- ---- what comes to the machine

-- a request of a session, or a finding
pub data Action : Type 0 where
  calls : ℕ → Request → Action
  brings : RowsOfTask → Action

-- the requests of a session that become whole with this input
abbrev pub fresh : ℕ → List Input → Input → List Request
fresh s past input = drop (length (requests_of s past)) (requests_of s (past ++ input ∷ []))

-- the actions that this input adds
abbrev pub actions_of : List Input → Input → List Action
actions_of past (Piece session bytes) =
    map (calls session) (fresh session past (Piece session bytes))
actions_of past (End session) = map (calls session) (fresh session past (End session))
actions_of past (Finding finding) = brings finding ∷ []

abbrev pub actions_after : List Input → List Input → List Action
actions_after past [] = []
actions_after past (input ∷ inputs) =
    actions_of past input ++ actions_after (past ++ input ∷ []) inputs

-- all requests in the order in which they became whole, with the findings in between
abbrev pub actions : List Input → List Action
actions inputs = actions_after [] inputs

-- ---- what the machine does

abbrev pub after_action : State → Action → State
after_action state (calls session request) = (step report_printer state request).1
after_action state (brings finding) = (delivery state finding).1

abbrev pub state_after : State → List Action → State
state_after state [] = state
state_after state (action ∷ actions) = state_after (after_action state action) actions

-- the reply frame for session `s`, empty if the action is not its own
abbrev pub frame_to : ℕ → State → Action → List ℕ
frame_to s state (calls session request) = if s == session
    then reply_frame (step report_printer state request).0 else []
frame_to s state (brings finding) = []

abbrev pub frames_to : ℕ → State → List Action → List ℕ
frames_to s state [] = []
frames_to s state (action ∷ actions) = frame_to s state action ++
    frames_to s (after_action state action) actions

abbrev pub fault_reply : Option Fault → List ℕ
fault_reply None = []
fault_reply (Some fault) = reply_frame (FaultReply fault)

-- the outcome of the finding of an action
abbrev pub delivery_of : State → Action → List DeliveryResult
delivery_of state (calls session request) = []
delivery_of state (brings finding) = handed_back finding (delivery state finding).0 ∷ []

abbrev pub deliveries : State → List Action → List DeliveryResult
deliveries state [] = []
deliveries state (action ∷ actions) = delivery_of state action ++
    deliveries (after_action state action) actions

-- ---- for a whole list of inputs

-- all bytes that a session is sent: the replies to its requests, then its fault if it has one
abbrev pub sent_to : ℕ → State → List Input → List ℕ
sent_to s state inputs = frames_to s state (actions inputs) ++ fault_reply (fault_of s inputs)

-- the outcome of each finding, in order
abbrev pub deliveries_of : State → List Input → List DeliveryResult
deliveries_of state inputs = deliveries state (actions inputs)

-- the machine after all inputs
abbrev pub final_state : State → List Input → State
final_state state inputs = state_after state (actions inputs)
