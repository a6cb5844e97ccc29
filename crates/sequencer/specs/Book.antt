-- The view of a book, and how it refuses requests (this project's profile).
use Rattle.std.specs.Prelude.{◌≡◌, ℕ, ◌<◌, ◌≤◌, ◌⊎◌, nat_le, if◌then◌else◌, List, length, map, replicate, slice_get, take, Option, Some, None, Result, Ok, Err}
use Rattle.std.specs.List.{flat_map}
use Rattle.std.specs.Arc.{arc_value}
use Rattle.trace_model.specs.declared.traces.event.Event.{Event}
use Rattle.trace_model.specs.declared.limits.TheConstants.{MAX_EVENTS, MAX_REPORT}
use Rattle.trace_model.specs.declared.refusal.Refusal.{Refusal}
use Rattle.trace_model.specs.declared.refusal.Refusal.TheVariants.{NoMemory, BadBound, TooManyQuestions, NoSuchQuestion, ReportTooLong}
use Rattle.trace_model.specs.declared.messages.session.Request.{Request}
use Rattle.trace_model.specs.declared.messages.session.Request.TheVariants.{Offer, Ask, Answer as AskAnswer, Status as AskStatus}
use Rattle.trace_model.specs.declared.messages.session.Reply.{Reply}
use Rattle.trace_model.specs.declared.messages.session.Reply.TheVariants.{Placed as PlacedReply, Refused, Opened as OpenedReply, Pending as PendingReply, Report}
use Rattle.trace_model.specs.Theory.Trace.{Trace}
use Rattle.trace_model.specs.Theory.Lawful.{refusal_of}
use Rattle.trace_model.specs.Theory.Dependencies.{dependencies}
use Rattle.trace_model.specs.Theory.Rows.{Row, AreRows}
use Rattle.trace_model.specs.Protocol.Machine.{Question, State, ask_refused, answer, deliver_refused, step}
use Rattle.trace_model.specs.Protocol.Bounds.{StateFits}
use Rattle.reports.specs.Text.{report}
use Rattle.snapshots.specs.Found.{RowsOfTask}
use Rattle.sequencer.specs.QuestionState.{QuestionView, question_of, plain_rows, HasNamedRows}
use Rattle.sequencer.specs.Printing.{report_printer}
use Rattle.sequencer.specs.declared.answering.Answer.{Answer}
use Rattle.sequencer.specs.declared.answering.Answer.TheVariants.{Pending, Settled}
use Rattle.sequencer.specs.declared.answering.SharedAnswer.{SharedAnswer}
use Rattle.sequencer.specs.declared.answering.SharedAnswer.TheVariants as shared
use Rattle.sequencer.specs.declared.answering.AnswerRefused.{AnswerRefused}
use Rattle.sequencer.specs.declared.answering.AnswerRefused.TheVariants as NoAnswer
use Rattle.sequencer.specs.declared.asking.AskRefused.{AskRefused}
use Rattle.sequencer.specs.declared.asking.AskRefused.TheVariants as NoOpening
use Rattle.sequencer.specs.declared.asking.Opened.{Opened}
use Rattle.sequencer.specs.declared.step.Change.{Change}
use Rattle.sequencer.specs.declared.step.Change.TheVariants.{Accept, Open, ReadAnswer, ReadStatus}

-- a book may be created with this limit
abbrev pub IsBookLimit : ℕ → Type 0
IsBookLimit limit = (1 ≤ limit) × (limit ≤ MAX_EVENTS)

-- what contracts see of a book: the machine's state, the event that memory is reserved for, and the
-- number of questions that memory is reserved for
pub record BookView : Type 0 where
  pub state : State
  pub reserved : Option Event
  pub room : ℕ

-- the machine's state, from the fields of a book
abbrev pub book_state : ℕ → Trace → List QuestionView → State
book_state limit events asked =
    record { limit = limit; accepted = events; questions = map question_of asked }

-- the invariant of a book: the state is within its limits, and each question's rows have the
-- dependencies that they name
pub record IsBook (admitted limit : ℕ) (events : Trace) (asked : List QuestionView) : Type 0 where
  pub same_limit : admitted ≡ limit
  pub fits : StateFits AreRows (book_state limit events asked)
  pub named : (k : ℕ) (question_view : QuestionView) → slice_get asked k ≡ Some question_view →
      HasNamedRows (take question_view.length events) question_view

-- what contracts see of a step: its change and its reply
pub record StepView : Type 0 where
  pub change : Change
  pub reply : Reply

-- the request of a change
abbrev pub change_request : Change → Request
change_request (Accept e) = Offer e
change_request (Open asked) = Ask asked.bound
change_request (ReadAnswer question) = AskAnswer question
change_request (ReadStatus question) = AskStatus question

-- a new question about the accepted events: all its tasks are missing
abbrev pub fresh : State → ℕ → QuestionView
fresh s bound = record {
  length = length s.accepted;
  bound = bound;
  tasks = replicate (length (dependencies s.accepted)) None;
}

-- memory is reserved for the change
abbrev pub HasChangeRoom : BookView → Change → Type 0
HasChangeRoom b (Accept e) = b.reserved ≡ Some e
HasChangeRoom b (Open asked) = (0 < b.room) × (asked ≡ fresh b.state asked.bound)
HasChangeRoom b _ = Unit {0}

-- the reply is not a refusal
abbrev pub IsAccepted : Reply → Type 0
IsAccepted (Refused r) = ⊥
IsAccepted _ = Unit {0}

-- the reply needs an allocation: it adds an event or a question, or prints a report
abbrev pub TakesMemory : Reply → Type 0
TakesMemory (PlacedReply place) = Unit {0}
TakesMemory (OpenedReply question length total) = Unit {0}
TakesMemory (Report question text) = Unit {0}
TakesMemory _ = ⊥

-- the machine accepts the request with this reply, and memory is reserved for its change
pub record IsPrepared (b : BookView) (planned : StepView) : Type 0 where
  pub reply_is : (step report_printer b.state (change_request planned.change)).0 ≡ planned.reply
  pub accepted : IsAccepted planned.reply
  pub room : HasChangeRoom b planned.change

-- the refusal is the machine's; or it is `NoMemory` and the machine accepts the event
abbrev pub RefusesOffer : State → Event → Refusal → Type 0
RefusesOffer s e r =
    (refusal_of s.limit s.accepted e ≡ Some r)
    ⊎ ((r ≡ NoMemory) × (refusal_of s.limit s.accepted e ≡ None))

-- the refusal of each reason
abbrev pub ask_refusal : AskRefused → Refusal
ask_refusal NoOpening.BadBound = BadBound
ask_refusal NoOpening.TooManyQuestions = TooManyQuestions
ask_refusal NoOpening.NoMemory = NoMemory

abbrev pub answer_refusal : AnswerRefused → Refusal
answer_refusal NoAnswer.NoSuchQuestion = NoSuchQuestion
answer_refusal NoAnswer.ReportTooLong = ReportTooLong
answer_refusal NoAnswer.NoMemory = NoMemory

-- the refusal of a question with this bound: the machine's; or `NoMemory` if the machine accepts
abbrev pub RefusesAsk : State → ℕ → AskRefused → Type 0
RefusesAsk s bound r = (ask_refused s bound ≡ Some (ask_refusal r))
    ⊎ ((r ≡ NoOpening.NoMemory) × (ask_refused s bound ≡ None))

-- the refusal instead of an answer: the answer itself; or `NoMemory` if the answer is a report
abbrev pub RefusesReply : Reply → AnswerRefused → Type 0
RefusesReply reply r =
    (reply ≡ Refused (answer_refusal r)) ⊎ ((r ≡ NoAnswer.NoMemory) × TakesMemory reply)

-- the refusal of an answer: the machine's; or `NoMemory` if the machine prints a report
abbrev pub RefusesAnswer : State → ℕ → AnswerRefused → Type 0
RefusesAnswer s number = RefusesReply (answer report_printer s number)

-- the reply is the machine's refusal; or it is `NoMemory` and the machine's reply needs an
-- allocation
abbrev pub Refuses : State → Request → Reply → Type 0
Refuses s request reply =
    (step report_printer s request ≡ (reply, s))
    ⊎ ((reply ≡ Refused NoMemory) × TakesMemory (step report_printer s request).0)

-- the reply is a refusal: the machine's; or `NoMemory` if the machine's reply needs an allocation
abbrev pub IsRefusal : State → Request → Reply → Type 0
IsRefusal s request reply =
    (refusal : Refusal) × (reply ≡ Refused refusal)
    × (((step report_printer s request).0 ≡ reply)
    ⊎ ((refusal ≡ NoMemory) × TakesMemory (step report_printer s request).0))

-- the question is not open; or it is open and an allocation failed
abbrev pub RefusesSnapshot : State → ℕ → Refusal → Type 0
RefusesSnapshot s number r =
    ((r ≡ NoSuchQuestion) × (slice_get s.questions number ≡ None))
    ⊎ ((r ≡ NoMemory) × ((q : Question) × (slice_get s.questions number ≡ Some q)))

-- if the question with this number is open, it covers exactly these events
abbrev pub AreEventsIfOpen : State → ℕ → Trace → Type 0
AreEventsIfOpen s number events = (q : Question) → slice_get s.questions number ≡ Some q →
    events ≡ take q.length s.accepted

-- the machine's refusal of a finding, if any
abbrev pub finding_refused : State → RowsOfTask → Option Refusal
finding_refused s f = deliver_refused s f.question f.bound f.events f.task

-- the least missing task of the question
abbrev pub IsLeastMissingTask : Question → ℕ → Type 0
IsLeastMissingTask q task =
    (slice_get q.tasks task ≡ Some None)
    × ((other : ℕ) → slice_get q.tasks other ≡ Some None → task ≤ other)

-- the reply for an opened question
abbrev pub opened_reply : Opened → Reply
opened_reply o = OpenedReply o.question o.length o.total

-- the reply for an answer about the question
abbrev pub answer_reply : ℕ → Answer → Reply
answer_reply question (Pending delivered total) = PendingReply question delivered total
answer_reply question (Settled text) = Report question text

-- the reply with this text, if it is not too long
abbrev pub text_reply : ℕ → List ℕ → Reply
text_reply question text =
    if nat_le (length text) MAX_REPORT then Report question text else Refused ReportTooLong

-- the reply of a shared answer about the question
abbrev pub shared_reply : ℕ → SharedAnswer → Reply
shared_reply question (shared.Pending delivered total) = PendingReply question delivered total
shared_reply question (shared.Settled settled) =
    text_reply question (report question settled.length settled.bound
    (flat_map (λ task. task.items) (arc_value settled.tasks).items))

-- the property holds of the machine's answer about the question with this number, if it is this one
abbrev pub IsAnswered : QuestionView → ℕ → (Reply → Type 0) → Type 0
IsAnswered asked number so = (s : State) → slice_get s.questions number ≡ Some (question_of asked) →
    HasNamedRows (take asked.length s.accepted) asked → so (answer report_printer s number)

-- the refusal of an outcome, if any
abbrev pub outcome : Result Unit (Refusal × RowsOfTask) → Option Refusal
outcome (Ok u) = None
outcome (Err refused) = Some refused.0

abbrev pub findings_rows : RowsOfTask → List Row
findings_rows f = plain_rows f.rows
