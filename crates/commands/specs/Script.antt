-- The lines that a script prints (this project's profile).
use Rattle.std.specs.Prelude.{ℕ, List, [], ◌++◌, Option, Some, None, codes}
use Rattle.trace_model.specs.declared.refusal.Refusal.{Refusal}
use Rattle.trace_model.specs.declared.messages.session.Reply.{Reply}
use Rattle.trace_model.specs.declared.messages.status.QuestionStatus.{QuestionStatus}
use Rattle.commands.specs.Text.{labeled_line, refusal_line}
use Rattle.event_files.specs.Refutations.{label_and_number}
use Rattle.trace_model.specs.declared.messages.session.Reply.TheVariants.{Placed, Refused, Opened, Pending, Report, Status, Fault as FaultReply, Batched}

-- the reply to an ask
abbrev pub opened_line : ℕ → ℕ → ℕ → List ℕ
opened_line question len total = label_and_number (codes "opened ") question
    ++ label_and_number (codes " length ") len ++ labeled_line (codes " total ") total

-- the answer to a question with missing tasks
abbrev pub pending_line : ℕ → ℕ → ℕ → List ℕ
pending_line question delivered total = label_and_number (codes "pending ") question
    ++ label_and_number (codes " delivered ") delivered ++ labeled_line (codes " total ") total

-- first part of a status line: the book, and the question's length and bound
abbrev pub book_words : QuestionStatus → List ℕ
book_words s =
    label_and_number (codes "status ") s.question
    ++ label_and_number (codes " accepted ") s.accepted
    ++ label_and_number (codes " opened ") s.opened
    ++ label_and_number (codes " length ") s.length ++ label_and_number (codes " bound ") s.bound

-- second part: the tasks
abbrev pub task_words : QuestionStatus → List ℕ
task_words s =
    label_and_number (codes " total ") s.total ++ label_and_number (codes " delivered ") s.delivered

-- third part: the rows of the delivered tasks
abbrev pub row_words : QuestionStatus → List ℕ
row_words s =
    label_and_number (codes " cycles ") s.cycles ++ labeled_line (codes " confirmed ") s.confirmed

-- the refusal that ended a batch, if there is one
abbrev pub refused_line : Option Refusal → List ℕ
refused_line None = []
refused_line (Some refusal) = refusal_line refusal

-- the reply to a batch
abbrev pub batch_lines : ℕ → Option Refusal → ℕ → List ℕ
batch_lines accepted refusal len = label_and_number (codes "batch ") accepted ++
    (labeled_line (codes " at ") len ++ refused_line refusal)

-- What a script prints for a reply: its lines, or the report. A script sends only valid frames, so
-- there is no fault to print.
abbrev pub reply_text : Reply → List ℕ
reply_text (Placed place) = labeled_line (codes "placed ") place
reply_text (Refused refusal) = refusal_line refusal
reply_text (Opened question len total) = opened_line question len total
reply_text (Pending question delivered total) = pending_line question delivered total
reply_text (Report question text) = text
reply_text (Status s) = book_words s ++ (task_words s ++ row_words s)
reply_text (FaultReply fault) = []
reply_text (Batched accepted refusal len) = batch_lines accepted refusal len
