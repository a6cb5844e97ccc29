-- The machine: a trace that grows, and questions about prefixes of it.
use Rattle.std.specs.Prelude.{ℕ, Bool, true, false, not, ◌==◌, ◌&&◌, ◌||◌, nat_le, nat_lt, List, [], ◌∷◌, ◌++◌, length, take, slice_get, slice_set, replicate, is_some, Option, Some, None, if◌then◌else◌}
use Rattle.std.specs.List.{count_by, sum_by, list_all}
use Rattle.trace_model.specs.declared.traces.event.Event.{Event}
use Rattle.trace_model.specs.declared.refusal.Refusal.{Refusal}
use Rattle.trace_model.specs.declared.refusal.Refusal.TheVariants.{BadBound, TooManyQuestions, NoSuchQuestion, ReportTooLong, NoSuchTask, Double, OtherBound, OtherTrace}
use Rattle.trace_model.specs.declared.messages.session.Request.{Request}
use Rattle.trace_model.specs.declared.messages.session.Request.TheVariants.{Offer, Ask, Answer, Status as AskStatus, Batch}
use Rattle.trace_model.specs.declared.messages.session.Reply.{Reply}
use Rattle.trace_model.specs.declared.messages.session.Reply.TheVariants.{Placed, Refused, Opened, Pending, Report, Status, Batched}
use Rattle.trace_model.specs.declared.limits.TheConstants.{MIN_BOUND, MAX_BOUND, MAX_QUESTIONS, MAX_REPORT}
use Rattle.trace_model.specs.Theory.Trace.{Trace, op_eq}
use Rattle.trace_model.specs.Theory.Lawful.{refusal_of}
use Rattle.trace_model.specs.Protocol.Batches.{taken_of}
use Rattle.trace_model.specs.Theory.Dependencies.{dependencies}
use Rattle.trace_model.specs.Theory.Rows.{Row}

-- A question covers the first `length` events. For each task it has the rows, once they are
-- delivered.
pub record Question : Type 0 where
  pub length : ℕ
  pub bound : ℕ
  pub tasks : List (Option (List Row))

-- The state of the machine: the limit of the trace, the accepted events, and the questions.
pub record State : Type 0 where
  pub limit : ℕ
  pub accepted : Trace
  pub questions : List Question

-- The state with no event and no question.
abbrev pub opening : ℕ → State
opening limit = record { limit = limit; accepted = []; questions = [] }

-- The number of delivered tasks.
abbrev pub delivered_count : Question → ℕ
delivered_count q = count_by is_some q.tasks

-- The row is confirmed.
abbrev pub is_confirmed : Row → Bool
is_confirmed row = is_some row.found

-- The rows of a task, none if they are not delivered.
abbrev pub rows_of : Option (List Row) → List Row
rows_of None = []
rows_of (Some rows) = rows

-- The number of rows of the delivered tasks.
abbrev pub cycles_of : Question → ℕ
cycles_of q = sum_by (λ task. length (rows_of task)) q.tasks

-- The number of confirmed rows of the delivered tasks.
abbrev pub confirmed_of : Question → ℕ
confirmed_of q = sum_by (λ task. count_by is_confirmed (rows_of task)) q.tasks

-- How the text of a report is printed: from the events that the question covers, its number, and
-- its rows.
abbrev pub ReportPrinter : Type 0
ReportPrinter = Trace → ℕ → Question → List ℕ

-- The state with one more event.
abbrev pub with_event : State → Event → State
with_event s e = record s { accepted = s.accepted ++ e ∷ [] }

-- The state with these events added.
abbrev pub with_events : State → List Event → State
with_events s events = record s { accepted = s.accepted ++ events }

-- The state with a new question about the present trace.
abbrev pub with_question : State → ℕ → State
with_question s bound =
    let fresh : Question = record {
      length = length s.accepted;
      bound = bound;
      tasks = replicate (length (dependencies s.accepted)) None;
    } in
    record s { questions = s.questions ++ fresh ∷ [] }

-- The state with the rows of one task added to question q.
abbrev pub with_task : State → ℕ → Question → ℕ → List Row → State
with_task s number q task rows =
    let delivered_question : Question = record q { tasks = slice_set q.tasks task (Some rows) } in
    record s { questions = slice_set s.questions number delivered_question }

-- The reply to an offered event with this refusal or none.
abbrev pub offer_reply : State → Option Refusal → Reply
offer_reply s None = Placed (length s.accepted)
offer_reply s (Some r) = Refused r

-- The state after an offered event with this refusal or none.
abbrev pub offer_next : State → Event → Option Refusal → State
offer_next s e None = with_event s e
offer_next s e (Some r) = s

-- An event is accepted if it is lawful.
abbrev pub offer : State → Event → Reply × State
offer s e = let r = refusal_of s.limit s.accepted e in (offer_reply s r, offer_next s e r)

-- A batch is accepted up to its first event that is not lawful after the events before it.
abbrev pub offer_batch : State → List Event → Reply × State
offer_batch s events =
    let taken = taken_of s.limit s.accepted events in
    (Batched taken.0 taken.1 (length s.accepted), with_events s (take taken.0 events))

-- The first refusal that applies to an ask with this bound, or none.
abbrev pub ask_refused : State → ℕ → Option Refusal
ask_refused s bound =
    if nat_lt bound MIN_BOUND || nat_lt MAX_BOUND bound then Some BadBound
    else (if nat_le MAX_QUESTIONS (length s.questions) then Some TooManyQuestions
    else None)

-- The reply to an ask with this refusal or none.
abbrev pub ask_reply : State → Option Refusal → Reply
ask_reply s None = Opened (length s.questions) (length s.accepted)
    (length (dependencies s.accepted))
ask_reply s (Some r) = Refused r

-- The state after an ask with this refusal or none.
abbrev pub ask_next : State → ℕ → Option Refusal → State
ask_next s bound None = with_question s bound
ask_next s bound (Some r) = s

-- An ask opens a question about the present trace.
abbrev pub ask : State → ℕ → Reply × State
ask s bound = let r = ask_refused s bound in (ask_reply s r, ask_next s bound r)

-- Equality of events, as a test.
abbrev pub same_event : Event → Event → Bool
same_event a b = (a.thread == b.thread) && op_eq a.op b.op

-- Equality of traces, as a test.
abbrev pub same_events : Trace → Trace → Bool
same_events [] [] = true
same_events (a ∷ s) (b ∷ r) = same_event a b && same_events s r
same_events _ _ = false

-- The refusal of a task that does not exist or is delivered, or none.
abbrev pub task_refused : Option (Option (List Row)) → Option Refusal
task_refused None = Some NoSuchTask
task_refused (Some (Some rows)) = Some Double
task_refused (Some None) = None

-- The first refusal of a finding for this question, if there is one.
abbrev pub deliver_refused_by : State → Option Question → ℕ → Trace → ℕ → Option Refusal
deliver_refused_by s None bound events task = Some NoSuchQuestion
deliver_refused_by s (Some q) bound events task =
    if not (bound == q.bound) then Some OtherBound
    else (if not (same_events events (take q.length s.accepted)) then Some OtherTrace
    else task_refused (slice_get q.tasks task))

-- The first refusal of the rows of a task, for the question with this number.
abbrev pub deliver_refused : State → ℕ → ℕ → Trace → ℕ → Option Refusal
deliver_refused s number bound events task =
    deliver_refused_by s (slice_get s.questions number) bound events task

-- The state with the rows of one task, if the question exists.
abbrev pub with_rows : State → ℕ → Option Question → ℕ → List Row → State
with_rows s number None task rows = s
with_rows s number (Some q) task rows = with_task s number q task rows

-- The state after a delivery with this refusal or none.
abbrev pub deliver_next : State → ℕ → ℕ → List Row → Option Refusal → State
deliver_next s number task rows None = with_rows s number (slice_get s.questions number) task rows
deliver_next s number task rows (Some r) = s

-- The rows of a task are accepted if no refusal applies.
abbrev pub deliver : State → ℕ → ℕ → Trace → ℕ → List Row → Option Refusal × State
deliver s number bound events task rows =
    let r = deliver_refused s number bound events task in (r, deliver_next s number task rows r)

-- The answer for this question, if there is one.
abbrev pub answer_of : ReportPrinter → State → ℕ → Option Question → Reply
answer_of text s number None = Refused NoSuchQuestion
answer_of text s number (Some q) =
    let report = text (take q.length s.accepted) number q in
    if list_all is_some q.tasks
    then (if nat_le (length report) MAX_REPORT then Report number report else Refused ReportTooLong)
    else Pending number (delivered_count q) (length q.tasks)

-- The answer is pending while a task is not delivered, and else the report if it is not too long.
abbrev pub answer : ReportPrinter → State → ℕ → Reply
answer text s number = answer_of text s number (slice_get s.questions number)

-- The status of this question, if there is one.
abbrev pub status_of : State → ℕ → Option Question → Reply
status_of s number None = Refused NoSuchQuestion
status_of s number (Some q) =
    Status (record {
      question = number;
      accepted = length s.accepted;
      opened = length s.questions;
      length = q.length;
      bound = q.bound;
      total = length q.tasks;
      delivered = delivered_count q;
      cycles = cycles_of q;
      confirmed = confirmed_of q;
    })

-- The status of the question with this number.
abbrev pub status : State → ℕ → Reply
status s number = status_of s number (slice_get s.questions number)

-- The reply to a request, and the state after it.
abbrev pub step : ReportPrinter → State → Request → Reply × State
step text s (Offer e) = offer s e
step text s (Ask bound) = ask s bound
step text s (Answer number) = (answer text s number, s)
step text s (AskStatus number) = (status s number, s)
step text s (Batch events) = offer_batch s events
