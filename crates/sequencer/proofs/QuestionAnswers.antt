-- Answers about questions, and snapshots of exactly their events.
use Rattle.std.proofs.Common.{◌≡◌, ℕ, zero, suc, nat_le, if◌then◌else◌, ◌≤◌, ◌<◌, inl, inr, Bool, true, false, not, ◌==◌, ◌&&◌, Result, Ok, Err, List, [], ◌∷◌, ◌++◌, length, map, take, slice_get, is_some, option_map, MatchOption, Option, Some, None, Vec, refl, sym, ap, subst, ◌∙◌, arith}
use Rattle.std.proofs.lemmas.Bool.{and_parts, cases_lt, false≢true, le-leb, lt-leb}
use Rattle.std.proofs.lemmas.List.{length-map, map-append}
use Rattle.std.proofs.lemmas.List.Concat.{flat_map-cons}
use Rattle.std.proofs.lemmas.List.Elements.{All-head, All-tail}
use Rattle.std.proofs.lemmas.Option.{none-some, same_Some, get_or_from_slice_get}
use Rattle.trace_model.proofs.Lists.{at_index}
use Rattle.std.proofs.Math.Seq.{take-suc}
use Rattle.std.specs.Option.{option_eq}
use Rattle.std.specs.declared.alloc.Global.{Global}
use Rattle.std.specs.List.{flat_map, list_all, All}
use Rattle.trace_model.specs.declared.traces.event.Event.{Event}
use Rattle.trace_model.specs.declared.limits.TheConstants.{MAX_REPORT}
use Rattle.trace_model.specs.declared.refusal.Refusal.{Refusal}
use Rattle.trace_model.specs.declared.refusal.Refusal.TheVariants.{OtherBound, OtherTrace, ReportTooLong}
use Rattle.trace_model.specs.declared.messages.session.Reply.{Reply}
use Rattle.trace_model.specs.declared.messages.session.Reply.TheVariants.{Placed, Refused, Report, Pending}
use Rattle.trace_model.specs.declared.messages.session.Request.TheVariants.{Offer, Ask, Answer}
use Rattle.trace_model.specs.Theory.Trace.{Trace}
use Rattle.trace_model.specs.Theory.Lawful.{refusal_of}
use Rattle.trace_model.specs.Theory.Dependencies.{Dependency, dependencies}
use Rattle.trace_model.specs.Protocol.Machine.{Question, State, answer, answer_of, ask_next, ask_refused, ask_reply, deliver_refused_by, delivered_count, offer_next, offer_reply, rows_of, same_event, same_events, step, task_refused, with_event, with_question}
use Rattle.trace_model.proofs.Protocol.Summary.{same_events_so, same_events_itself}
use Rattle.reports.specs.Printed.{PrintedRow, with_dependencies}
use Rattle.reports.specs.Text.{report}
use Rattle.reports.specs.declared.report.TextRefused.{TextRefused}
use Rattle.reports.specs.declared.report.TextRefused.TheVariants.{TooLong, NoMemory}
use Rattle.snapshots.specs.Found.{AreNamed, RowsOfTask}
use Rattle.result_ledger.specs.Tasks.{Tasks, IsMissing}
use Rattle.result_ledger.specs.Tasks as Ledger
use Rattle.sequencer.specs.QuestionState.{QuestionView, question_of, plain_rows, HasNamedRows}
use Rattle.sequencer.specs.declared.answering.Answer.{Answer as Answered}
use Rattle.sequencer.specs.declared.answering.Answer.TheVariants.{Pending as AnswerPending, Settled}
use Rattle.sequencer.specs.declared.answering.AnswerRefused.{AnswerRefused}
use Rattle.sequencer.specs.declared.asking.AskRefused.{AskRefused}
use Rattle.sequencer.specs.Book.{AreEventsIfOpen, IsAccepted, IsAnswered, text_reply, IsLeastMissingTask, IsRefusal, Refuses, RefusesAnswer, RefusesAsk, RefusesOffer, TakesMemory, answer_refusal, answer_reply, ask_refusal, finding_refused}
use Rattle.sequencer.specs.Printing.{report_printer}
use Rattle.sequencer.proofs.Counted.{missing_row, row_missing}

-- ---- an event that is taken

-- a reply that accepts is not that of a refusal
not_refused : (reply : Option Refusal → Reply) → ((r : Refusal) → IsAccepted (reply (Some r)) → ⊥) → (o : Option Refusal) → IsAccepted (reply o) → o ≡ None
not_refused reply never None ok = refl
not_refused reply never (Some r) ok = absurd (never r ok)

pub accepted_offer : (s : State) (e : Event) (reply : Reply) → (step report_printer s (Offer e)).0 ≡ reply → IsAccepted reply → refusal_of s.limit s.accepted e ≡ None
accepted_offer s e reply is ok = not_refused (offer_reply s) (λ r accepts. accepts) (refusal_of s.limit s.accepted e) (subst IsAccepted (sym is) ok)

pub taken_offer : (s next : State) (e : Event) (reply : Reply) → (step report_printer s (Offer e)).0 ≡ reply → IsAccepted reply → next ≡ with_event s e → step report_printer s (Offer e) ≡ (reply, next)
taken_offer s next e reply is ok n =
    let after : offer_next s e (refusal_of s.limit s.accepted e) ≡ next = ap (offer_next s e) (accepted_offer s e reply is ok) ∙ sym n in
    λ i. (is i, after i)

-- the same of a question that is opened
pub accepted_ask : (s : State) (bound : ℕ) (reply : Reply) → (step report_printer s (Ask bound)).0 ≡ reply → IsAccepted reply → ask_refused s bound ≡ None
accepted_ask s bound reply is ok = not_refused (ask_reply s) (λ r accepts. accepts) (ask_refused s bound) (subst IsAccepted (sym is) ok)

pub taken_ask : (s next : State) (bound : ℕ) (reply : Reply) → (step report_printer s (Ask bound)).0 ≡ reply → IsAccepted reply → next ≡ with_question s bound → step report_printer s (Ask bound) ≡ (reply, next)
taken_ask s next bound reply is ok n =
    let after : ask_next s bound (ask_refused s bound) ≡ next = ap (ask_next s bound) (accepted_ask s bound reply is ok) ∙ sym n in
    λ i. (is i, after i)

-- an event that is admitted is placed after the others
pub placed_offer : (s : State) (e : Event) → refusal_of s.limit s.accepted e ≡ None → (step report_printer s (Offer e)).0 ≡ Placed (length s.accepted)
placed_offer s e lawful = ap (offer_reply s) lawful

-- ---- requests that are refused

pub refused_offer : (s : State) (e : Event) (r : Refusal) → RefusesOffer s e r → Refuses s (Offer e) (Refused r) × IsRefusal s (Offer e) (Refused r)
refused_offer s e r (inl why) = (inl (λ i. (offer_reply s (why i), offer_next s e (why i))), (r, refl, inl (ap (offer_reply s) why)))
refused_offer s e r (inr (lacks, lawful)) =
    (inr (ap Refused lacks, subst (λ o. TakesMemory (offer_reply s o)) (sym lawful) tt), (r, refl, inr (lacks, subst (λ o. TakesMemory (offer_reply s o)) (sym lawful) tt)))

pub refused_ask : (s : State) (bound : ℕ) (r : AskRefused) → RefusesAsk s bound r → Refuses s (Ask bound) (Refused (ask_refusal r)) × IsRefusal s (Ask bound) (Refused (ask_refusal r))
refused_ask s bound r (inl why) = (inl (λ i. (ask_reply s (why i), ask_next s bound (why i))), (ask_refusal r, refl, inl (ap (ask_reply s) why)))
refused_ask s bound r (inr (lacks, none)) = (
  inr (ap (λ x. Refused (ask_refusal x)) lacks, subst (λ o. TakesMemory (ask_reply s o)) (sym none) tt),
  (ask_refusal r, refl, inr (ap ask_refusal lacks, subst (λ o. TakesMemory (ask_reply s o)) (sym none) tt)),
)

pub refused_answer : (s : State) (number : ℕ) (r : AnswerRefused) → RefusesAnswer s number r →
    Refuses s (Answer number) (Refused (answer_refusal r)) × IsRefusal s (Answer number) (Refused (answer_refusal r))
refused_answer s number r (inl why) = (inl (λ i. (why i, s)), (answer_refusal r, refl, inl why))
refused_answer s number r (inr (lacks, takes)) =
    (inr (ap (λ x. Refused (answer_refusal x)) lacks, takes), (answer_refusal r, refl, inr (ap answer_refusal lacks, takes)))

pub accepted_answer : (number : ℕ) (question_view : Answered) → IsAccepted (answer_reply number question_view)
accepted_answer number (AnswerPending delivered_count total) = tt
accepted_answer number (Settled text) = tt

-- ---- which snapshots are of the events

pub other_events : (s r : Trace) → (s ≡ r → ⊥) → false ≡ same_events s r
other_events s r n = go (same_events s r) refl
  where
    go : (b : Bool) → same_events s r ≡ b → false ≡ b
    go true e = absurd (n (same_events_so s r e))
    go false e = refl

-- both have the same event at the place
abbrev pub is_at : Trace → Trace → ℕ → Bool
is_at s r i = option_eq same_event (slice_get s i) (slice_get r i)

-- one more event
take_more : (s : Trace) (i : ℕ) (e : Event) → i < length s → slice_get s i ≡ Some e → take (suc i) s ≡ take i s ++ e ∷ []
take_more s i e l at = take-suc s i e l ∙ ap (λ x. take i s ++ x ∷ []) (get_or_from_slice_get s i e e at)

pub same_at : (s r : Trace) (i : ℕ) → length s ≡ length r → i < length r → take i s ≡ take i r → true ≡ is_at s r i → take (suc i) s ≡ take (suc i) r
same_at s r i long l front h =
    let in_s : i < length s = omega (arith, l, long) in
    let (own, at) = at_index s i in_s in
    let (event, there) = at_index r i l in
    let same : same_event own event ≡ true = sym (h ∙ (λ j. option_eq same_event (at j) (there j))) in
    let last = same_events_so (own ∷ []) (event ∷ []) (ap (λ b. b && true) same) in
    take_more s i own in_s at ∙ ((λ j. front j ++ last j) ∙ sym (take_more r i event l there))

pub other_at : (s r : Trace) (i : ℕ) → i < length r → false ≡ is_at s r i → false ≡ same_events s r
other_at s r i l h = other_events s r (λ e.
    let (event, there) = at_index r i l in
    let here : slice_get s i ≡ Some event = ap (λ (x : Trace). slice_get x i) e ∙ there in
    let itself = and_parts (same_event event event) true (same_events_itself (event ∷ [])) in
    false≢true (h ∙ ((λ j. option_eq same_event (here j) (there j)) ∙ itself.0)))

pub same_all : (s r : Trace) → s ≡ r → true ≡ same_events s r
same_all s r e = sym (ap (same_events s) (sym e) ∙ same_events_itself s)

-- what refuses a finding, by whether its bound differs and its events are those of its question
tested : (s : State) (f : RowsOfTask) (q : Question) (differs same : Bool) → Some q ≡ slice_get s.questions f.question → differs ≡ not (f.bound == q.bound) → same ≡ same_events f.events (take q.length s.accepted) →
    (if differs then Some OtherBound else (if not same then Some OtherTrace else task_refused (slice_get q.tasks f.task))) ≡ finding_refused s f
tested s f q differs same found bound events =
    (λ i. if bound i then Some OtherBound else (if not (events i) then Some OtherTrace else task_refused (slice_get q.tasks f.task)))
    ∙ ap (λ o. deliver_refused_by s o f.bound f.events f.task) found

-- a finding with another bound or other events
pub other_bound : (s : State) (f : RowsOfTask) (q : Question) → Some q ≡ slice_get s.questions f.question → true ≡ not (f.bound == q.bound) → Some OtherBound ≡ finding_refused s f
other_bound s f q found bound = tested s f q true (same_events f.events (take q.length s.accepted)) found bound refl

pub other_trace : (s : State) (f : RowsOfTask) (q : Question) → Some q ≡ slice_get s.questions f.question → false ≡ not (f.bound == q.bound) → false ≡ same_events f.events (take q.length s.accepted) →
    Some OtherTrace ≡ finding_refused s f
other_trace s f q found bound same = tested s f q false false found bound same

-- a finding with its question's events and bound can only be refused for its task
pub same_test : (s : State) (f : RowsOfTask) (q : Question) → Some q ≡ slice_get s.questions f.question → false ≡ not (f.bound == q.bound) → true ≡ same_events f.events (take q.length s.accepted) →
    task_refused (slice_get q.tasks f.task) ≡ finding_refused s f
same_test s f q found bound same = tested s f q false true found bound same

pub known_test : (s : State) (f : RowsOfTask) (q : Question) → Some q ≡ slice_get s.questions f.question → false ≡ not (f.bound == q.bound) → AreEventsIfOpen s f.question f.events →
    task_refused (slice_get q.tasks f.task) ≡ finding_refused s f
known_test s f q found bound known = same_test s f q found bound (same_all f.events (take q.length s.accepted) (known q (sym found)))

-- ---- the report

-- the rows of a task with the dependencies that they name are the recorded ones
named_rows : (ds : List Dependency) (rows : List PrintedRow) → All (λ p. p ≡ with_dependencies ds p.row) rows → map (with_dependencies ds) (plain_rows rows) ≡ rows
named_rows ds [] h = refl
named_rows ds (p ∷ rows) h =
    let P : PrintedRow → Type 0 = λ q. q ≡ with_dependencies ds q.row in
    let first = All-head P p rows h in
    let rest = named_rows ds rows (All-tail P p rows h) in
    λ i. sym first i ∷ rest i

-- the same for all tasks once all are delivered
pub settled_rows : {X : Type 0} (g : X → List PrintedRow) (s : Trace) (tasks : List X) →
    ((task : ℕ) (rows : List PrintedRow) → slice_get (map (λ t. Some (g t)) tasks) task ≡ Some (Some rows) → AreNamed s rows) →
    map (with_dependencies (dependencies s)) (flat_map rows_of (map (option_map plain_rows) (map (λ t. Some (g t)) tasks))) ≡ flat_map g tasks
settled_rows g s [] h = refl
settled_rows g s (t ∷ tasks) h =
    let rest = map (option_map plain_rows) (map (λ t. Some (g t)) tasks) in
    ap (map (with_dependencies (dependencies s))) (flat_map-cons rows_of (Some (plain_rows (g t))) rest)
    ∙ map-append (with_dependencies (dependencies s)) (plain_rows (g t)) (flat_map rows_of rest)
    ∙ (λ i. named_rows (dependencies s) (g t) (h 0 (g t) refl) i ++ settled_rows g s tasks (λ task rows e. h (suc task) rows e) i)
    ∙ sym (flat_map-cons g t tasks)

pub all_settled : {X : Type 0} (g : X → List PrintedRow) (tasks : List X) → list_all is_some (map (option_map plain_rows) (map (λ t. Some (g t)) tasks)) ≡ true
all_settled g [] = refl
all_settled g (t ∷ tasks) = all_settled g tasks

pub not_settled : (tasks : Tasks) (task : ℕ) → slice_get tasks task ≡ Some None → list_all is_some (map (option_map plain_rows) tasks) ≡ false
not_settled [] task h = absurd (none-some None h)
not_settled (None ∷ tasks) task h = refl
not_settled (Some rows ∷ tasks) zero h = absurd (none-some rows (sym (same_Some (Some rows) None h)))
not_settled (Some rows ∷ tasks) (suc task) h = not_settled tasks task h

-- ---- the answer about a question

pub pending : (s : State) (number : ℕ) (question_view : QuestionView) (task : ℕ) → slice_get s.questions number ≡ Some (question_of question_view) → slice_get question_view.tasks task ≡ Some None →
    answer report_printer s number ≡ Pending number (delivered_count (question_of question_view)) (length question_view.tasks)
pending s number question_view task at missing =
    let q = question_of question_view in
    let text = report_printer (take q.length s.accepted) number q in
    ap (answer_of report_printer s number) at
    ∙ ap (λ (b : Bool). if b then (if nat_le (length text) MAX_REPORT then Report number text else Refused ReportTooLong) else Pending number (delivered_count q) (length q.tasks)) (not_settled question_view.tasks task missing)
    ∙ ap (Pending number (delivered_count q)) (length-map question_view.tasks (option_map plain_rows))

pub reported : {X : Type 0} (g : X → List PrintedRow) (s : State) (number : ℕ) (question_view : QuestionView) (tasks : List X) → slice_get s.questions number ≡ Some (question_of question_view) →
    question_view.tasks ≡ map (λ t. Some (g t)) tasks → HasNamedRows (take question_view.length s.accepted) question_view →
    answer report_printer s number
    ≡ (if nat_le (length (report number question_view.length question_view.bound (flat_map g tasks))) MAX_REPORT then Report number (report number question_view.length question_view.bound (flat_map g tasks)) else Refused ReportTooLong)
reported g s number question_view tasks at all named =
    let q = question_of question_view in
    let front = take question_view.length s.accepted in
    let view_named : (task : ℕ) (rows : List PrintedRow) → slice_get (map (λ t. Some (g t)) tasks) task ≡ Some (Some rows) → AreNamed front rows =
    λ task rows e. named task rows (ap (λ ts. slice_get ts task) all ∙ e) in
    let text : report_printer front number q ≡ report number question_view.length question_view.bound (flat_map g tasks) =
    ap (report number question_view.length question_view.bound)
    (ap (λ (ts : Tasks). map (with_dependencies (dependencies front)) (flat_map rows_of (map (option_map plain_rows) ts))) all ∙ settled_rows g front tasks view_named) in
    let settled : list_all is_some q.tasks ≡ true = ap (λ (ts : Tasks). list_all is_some (map (option_map plain_rows) ts)) all ∙ all_settled g tasks in
    ap (answer_of report_printer s number) at
    ∙ ap (λ (b : Bool). if b then (if nat_le (length (report_printer front number q)) MAX_REPORT then Report number (report_printer front number q) else Refused ReportTooLong) else Pending number (delivered_count q) (length q.tasks)) settled
    ∙ ap (λ (t : List ℕ). if nat_le (length t) MAX_REPORT then Report number t else Refused ReportTooLong) text

-- the same of a question whose rows are shared
pub shared_report : (asked : QuestionView) (number : ℕ) (tasks : List (Vec PrintedRow Global)) (size bound : ℕ) → asked.tasks ≡ map (λ t. Some t.items) tasks → size ≡ asked.length → bound ≡ asked.bound →
    IsAnswered asked number (λ reply. reply ≡ text_reply number (report number size bound (flat_map (λ t. t.items) tasks)))
shared_report asked number tasks size bound all of_size of_bound = λ s at named.
    reported (λ t. t.items) s number asked tasks at all named
    ∙ (λ i. text_reply number (report number (sym of_size i) (sym of_bound i) (flat_map (λ t. t.items) tasks)))

pub short_report : (number : ℕ) (text : List ℕ) (reply : Reply) → length text ≤ MAX_REPORT → reply ≡ (if nat_le (length text) MAX_REPORT then Report number text else Refused ReportTooLong) → reply ≡ Report number text
short_report number text reply le is = is ∙ ap (λ (b : Bool). if b then Report number text else Refused ReportTooLong) (le-leb (length text) MAX_REPORT le)

pub long_report : (number : ℕ) (text : List ℕ) (reply : Reply) → MAX_REPORT < length text → reply ≡ (if nat_le (length text) MAX_REPORT then Report number text else Refused ReportTooLong) → reply ≡ Refused ReportTooLong
long_report number text reply lt is = is ∙ ap (λ (b : Bool). if b then Report number text else Refused ReportTooLong) (lt-leb (length text) MAX_REPORT lt)

pub not_long : (n : ℕ) → (MAX_REPORT < n → ⊥) → n ≤ MAX_REPORT
not_long n h = elim (cases_lt MAX_REPORT n) [ inl l ↦ absurd (h l) | inr g ↦ g ]

pub text_not_refused : {A : Type 0} (text : A) (refused : TextRefused) → ◌≡◌ {A = Result A TextRefused} (Ok text) (Err refused) → ⊥
text_not_refused text refused h = absurd cc

pub not_too_long : {A : Type 0} → ◌≡◌ {A = Result A TextRefused} (Err NoMemory) (Err TooLong) → ⊥
not_too_long h = absurd cc

-- ---- the least missing task

pub least_of_view : (question_view : QuestionView) (found : Option ℕ) → MatchOption found ((task : ℕ) → IsMissing question_view.tasks task → ⊥) (Ledger.IsLeastMissing question_view.tasks) →
    MatchOption found ((other : ℕ) → slice_get (question_of question_view).tasks other ≡ Some None → ⊥) (IsLeastMissingTask (question_of question_view))
least_of_view question_view None h = λ other m. h other (row_missing question_view.tasks other m)
least_of_view question_view (Some task) h = (missing_row question_view.tasks task h.0, λ other m. h.1 other (row_missing question_view.tasks other m))
