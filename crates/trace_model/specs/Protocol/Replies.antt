-- Reply frames.
use Rattle.std.specs.Prelude.{ℕ, List, [], ◌∷◌, ◌++◌, length, ◌≤◌, Option, Some, None}
use Rattle.std.specs.Int.{w32, w64, to_be_bytes}
use Rattle.trace_model.specs.declared.limits.TheConstants.{MAX_REPORT}
use Rattle.trace_model.specs.declared.refusal.Refusal.{Refusal}
use Rattle.trace_model.specs.Protocol.Refusals.{number_of}
use Rattle.trace_model.specs.declared.messages.session.Reply.{Reply}
use Rattle.trace_model.specs.declared.messages.status.QuestionStatus.{QuestionStatus}
use Rattle.trace_model.specs.declared.messages.session.Reply.TheVariants.{Placed, Refused, Opened, Pending, Report, Status, Fault as FaultReply, Batched}
use Rattle.trace_model.specs.declared.messages.session.Fault.{Fault}
use Rattle.trace_model.specs.declared.messages.session.Fault.TheVariants.{BadKind, BadLength, Truncated, BadBatch}

-- The number of a fault.
abbrev pub fault_number : Fault → ℕ
fault_number BadKind = 1
fault_number BadLength = 2
fault_number Truncated = 3
fault_number BadBatch = 4

-- The number of a refusal, or 0 for none.
abbrev pub refusal_number : Option Refusal → ℕ
refusal_number None = 0
refusal_number (Some refusal) = number_of refusal

-- Three numbers of four bytes each.
unfoldable pub three_words : ℕ → ℕ → ℕ → List ℕ
three_words first second third = to_be_bytes w32 first ++ to_be_bytes w32 second ++
    to_be_bytes w32 third

-- The fields of a status, in bytes.
unfoldable pub status_fields : QuestionStatus → List ℕ
status_fields s =
    three_words s.question s.accepted s.opened ++ to_be_bytes w32 s.length ++ (s.bound ∷ []) ++
    to_be_bytes w32 s.total ++ to_be_bytes w32 s.delivered
    ++ to_be_bytes w64 s.cycles ++ to_be_bytes w64 s.confirmed

-- The body of a reply frame.
abbrev pub reply_body : Reply → List ℕ
reply_body (Placed place) = 65 ∷ to_be_bytes w32 place
reply_body (Refused refusal) = 66 ∷ number_of refusal ∷ []
reply_body (Opened question len total) = 67 ∷ three_words question len total
reply_body (Pending question delivered total) = 68 ∷ three_words question delivered total
reply_body (Report question text) = 69 ∷ to_be_bytes w32 question ++ text
reply_body (Status s) = 70 ∷ status_fields s
reply_body (FaultReply fault) = 71 ∷ fault_number fault ∷ []
reply_body (Batched accepted refusal len) = 72 ∷ accepted ∷ refusal_number refusal ∷
    to_be_bytes w32 len

-- The frame of a reply: the length of its body in four bytes, and the body.
unfoldable pub reply_frame : Reply → List ℕ
reply_frame reply = to_be_bytes w32 (length (reply_body reply)) ++ reply_body reply

-- The text of a report is not too long for a frame.
abbrev pub IsReply : Reply → Type 0
IsReply (Report question text) = length text ≤ MAX_REPORT
IsReply _ = Unit {0}
