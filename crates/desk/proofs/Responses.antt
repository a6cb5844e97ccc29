-- What a client reads from the board, and the replies of the desk.
use Rattle.std.proofs.Common.{◌≡◌, ℕ, zero, suc, List, [], ◌∷◌, ◌++◌, ◌<◌, length, take, slice_get, ltb, cond, inl, inr, Option, Some, None, Result, Ok, Err, IfOk, IfErr, refl, sym, ap, subst, ◌∙◌, arith}
use Rattle.std.proofs.lemmas.Bool.{cond_above, cond_below}
use Rattle.std.proofs.lemmas.List.{append-nil}
use Rattle.std.proofs.lemmas.Option.{none-some, same_Some, slice_get_cases}
use mathlib.Core.List.{IsPrefix}
use Rattle.trace_model.specs.declared.traces.event.Event.{Event}
use Rattle.trace_model.specs.declared.limits.TheConstants.{MAX_EVENTS}
use Rattle.trace_model.specs.declared.messages.session.Reply.{Reply}
use Rattle.trace_model.specs.declared.messages.session.Reply.TheVariants as replies
use Rattle.trace_model.specs.declared.messages.session.Request.{Request}
use Rattle.trace_model.specs.declared.messages.session.Request.TheVariants.{Offer, Ask, Answer as AskAnswer, Batch}
use Rattle.trace_model.specs.declared.messages.step.BoardStep.{BoardStep}
use Rattle.trace_model.specs.declared.messages.step.BoardStep.TheVariants.{Accept, Open}
use Rattle.trace_model.specs.declared.refusal.Refusal.{Refusal}
use Rattle.trace_model.specs.declared.refusal.Refusal.TheVariants.{NoSuchQuestion}
use Rattle.trace_model.specs.declared.traces.place.Place.{Place}
use Rattle.trace_model.specs.Protocol.Batches.{IsBatch}
use Rattle.trace_model.specs.Protocol.Machine.{State, step}
use Rattle.trace_model.specs.Theory.Trace.{Trace}
use Rattle.trace_model.specs.Theory.Rows.{AreRows}
use Rattle.trace_model.specs.Protocol.Runs as runs
use Rattle.trace_model.specs.Protocol.Runs.{IsLegal, QuestionCounts, summary, shown_status, shown_status_of}
use Rattle.trace_model.proofs.Protocol.Summary.{summary_is_state}
use Rattle.trace_model.proofs.Protocol.Taking.{status_shown}
use Rattle.board.specs.Totals.{ShowsCounts, Shows, shown_as}
use Rattle.board.specs.declared.summary.QuestionSummary.{QuestionSummary}
use Rattle.board.specs.declared.summary.Summary.{Summary}
use Rattle.sequencer.specs.declared.answered.Answered.{Answered}
use Rattle.sequencer.specs.Answered.{reply_in}
use Rattle.sequencer.specs.declared.answering.AnswerRefused.{AnswerRefused}
use Rattle.sequencer.specs.declared.asking.AskRefused.{AskRefused}
use Rattle.sequencer.specs.declared.asking.Opened.{Opened}
use Rattle.sequencer.specs.declared.batching.Batched.{Batched}
use Rattle.sequencer.specs.Book.{Refuses, answer_refusal, ask_refusal, opened_reply}
use Rattle.sequencer.specs.Printing.{report_printer}
use Rattle.sequencer.specs.Called.{StepsOrMemory}
use Rattle.sequencer.proofs.Called.{batch_steps}
use Rattle.desk.specs.Batches.{EndsByBatch, accept_steps}
use Rattle.desk.specs.Published.{After, Afterwards, EndsBy}
use Rattle.desk.proofs.Steps.{accepting_some}
use Rattle.board.specs.Fits.{ReaderView}
use Rattle.desk.specs.Clients.{IsStatus, IsResponse, RepliesAfter}

-- the board's entry for a question
abbrev Finds : Summary → ℕ → Option QuestionSummary → Type 0
Finds s question found = found ≡ cond (ltb question s.opened) (slice_get s.questions question) None

-- the entry of an open question shows its counts
shown_there : (s : Summary) (counts : runs.Summary) (question : ℕ) (q : QuestionCounts) (found : Option QuestionSummary) → ShowsCounts s counts → Finds s question found → slice_get counts.questions question ≡ Some q →
    question < length counts.questions → found ≡ Some (shown_as q)
shown_there s counts question q found shows finds there within =
    finds ∙ (sym (cond_below question s.opened _ None (omega (arith, within, shows.opened))) ∙ shows.each question q there)

-- the status with these counts
abbrev status_with : ℕ → ℕ → ℕ → QuestionSummary → Reply
status_with question accepted opened asked = replies.Status (record {
  question = question;
  accepted = accepted;
  opened = opened;
  length = asked.length;
  bound = asked.bound;
  total = asked.total;
  delivered = asked.delivered;
  cycles = asked.cycles;
  confirmed = asked.confirmed;
})

-- the reply to a status if the question is open
pub status_some : (s : Summary) (counts : runs.Summary) (question : ℕ) (asked : QuestionSummary) (found : Option QuestionSummary) → Finds s question found → found ≡ Some asked → ShowsCounts s counts →
    status_with question s.accepted s.opened asked ≡ shown_status counts question
status_some s counts question asked found finds is shows = elim (slice_get_cases counts.questions question).1 [
  | inl (q, within, there, _) ↦
      let same : asked ≡ shown_as q = same_Some asked (shown_as q) (sym is ∙ shown_there s counts question q found shows finds there within) in
      (λ i. status_with question (shows.accepted i) (shows.opened i) (same i)) ∙ ap (shown_status_of counts question) (sym there)
  | inr (past, none) ↦
      absurd (none-some asked (cond_above question s.opened (slice_get s.questions question) None None (omega (arith, past, shows.opened)) refl ∙ (sym finds ∙ is)))
]

-- the reply to a status if it is not
pub status_none : (s : Summary) (counts : runs.Summary) (question : ℕ) (found : Option QuestionSummary) → Finds s question found → found ≡ None → ShowsCounts s counts →
    replies.Refused NoSuchQuestion ≡ shown_status counts question
status_none s counts question found finds is shows = elim (slice_get_cases counts.questions question).1 [
  | inl (q, within, there, _) ↦ absurd (none-some (shown_as q) (sym is ∙ shown_there s counts question q found shows finds there within))
  | inr (past, none) ↦ ap (shown_status_of counts question) (sym none)
]

-- the status that is shown is the machine's
pub response_status : (s : Summary) (question : ℕ) (reply : Reply) (old new : ReaderView) → IsPrefix old.known new.known → new.failed ≡ old.failed → IsLegal new.known → Shows s new.known →
    ((counts : runs.Summary) → ShowsCounts s counts → reply ≡ shown_status counts question) → IsStatus old question reply new
response_status s question reply old new later entered legal shows is =
    inl (later, entered, legal.0, legal.1, is (summary new.known) shows ∙ status_shown (summary new.known) legal.0 question (summary_is_state AreRows MAX_EVENTS new.known legal.0 legal.1))

-- the reply is the desk's after the run of its receipt, which is all that the client has then seen
pub response : (limit : ℕ) (old new : ReaderView) (request : Request) (reply : Reply) (run : List BoardStep) → IsPrefix old.known new.known → new.known ≡ run → new.failed ≡ old.failed →
    RepliesAfter limit request reply run → IsResponse limit old request reply new
response limit old new request reply run later seen entered replies = record {
  later = later;
  replies = subst (λ (r : List BoardStep). RepliesAfter limit request reply r) (sym seen) replies;
  entered = entered;
}

-- the run of a batch ends with the step of its accepted events, or is unchanged if there are none
pub response_batch : (limit : ℕ) (run : List BoardStep) (events : List Event) (b : Batched) → IsBatch events → EndsByBatch limit run events b →
    RepliesAfter limit (Batch events) (replies.Batched b.accepted b.refusal b.length) run
response_batch limit run events b some h = by b.accepted refl
  where
    reply : ℕ → Reply
    reply n = replies.Batched n b.refusal b.length

    steps : StepsOrMemory h.state (Batch events) (reply b.accepted) h.next
    steps = batch_steps h.state h.next events b h.went

    by : (n : ℕ) → b.accepted ≡ n → RepliesAfter limit (Batch events) (reply n) run
    by zero none =
        let same : h.next ≡ h.state = h.went.appended ∙ (ap (λ n. record h.state { accepted = h.state.accepted ++ take n events }) none ∙ ap (λ (a : Trace). record h.state { accepted = a }) (append-nil h.state.accepted)) in
        let whole : run ≡ h.before = h.ends ∙ (ap (λ n. h.before ++ accept_steps (take n events)) none ∙ append-nil h.before) in (
          h.state,
          subst (λ (r : List BoardStep). After limit r h.state) (sym whole) h.was,
          subst (λ (s : State). StepsOrMemory h.state (Batch events) (reply 0) s) same (subst (λ n. StepsOrMemory h.state (Batch events) (reply n) h.next) none steps),
        )
    by (suc n) is = record {
      before = h.before;
      state = h.state;
      next = h.next;
      ends = h.ends ∙ (ap (λ k. h.before ++ accept_steps (take k events)) is ∙ ap (λ xs. h.before ++ xs) (accepting_some events (suc n) (omega arith) some.0));
      was = h.was;
      is = h.is;
      took = subst (λ k. StepsOrMemory h.state (Batch events) (reply k) h.next) is steps;
    }

-- ---- what the desk replied

abbrev WasPlaced : ℕ → List BoardStep → Event → Place → Type 0
WasPlaced limit run event place = EndsBy limit run (Accept (event ∷ [])) (λ state next. step report_printer state (Offer event) ≡ (replies.Placed place, next))

abbrev WasOpened : ℕ → List BoardStep → ℕ → Opened → Type 0
WasOpened limit run bound opened = EndsBy limit run (Open bound opened.total) (λ state next. step report_printer state (Ask bound) ≡ (opened_reply opened, next))

abbrev WasRefused : ℕ → List BoardStep → Request → Refusal → Type 0
WasRefused limit run request refusal = Afterwards limit run (λ state. Refuses state request (replies.Refused refusal))

abbrev WasAnswered : ℕ → List BoardStep → ℕ → Answered → Type 0
WasAnswered limit run question response = Afterwards limit run (λ state. step report_printer state (AskAnswer question) ≡ (reply_in response, state))

pub response_placed : (limit : ℕ) (run : List BoardStep) (event : Event) (result : Result Place Refusal) (place : Place) → result ≡ Ok place → IfOk result (WasPlaced limit run event) →
    RepliesAfter limit (Offer event) (replies.Placed place) run
response_placed limit run event result place is h =
    let e : WasPlaced limit run event place = subst (λ r. IfOk r (WasPlaced limit run event)) is h in
    record { before = e.before; state = e.state; next = e.next; ends = e.ends; was = e.was; is = e.is; took = inl e.took }

pub response_unplaced : (limit : ℕ) (run : List BoardStep) (event : Event) (result : Result Place Refusal) (refusal : Refusal) → result ≡ Err refusal → IfErr result (WasRefused limit run (Offer event)) →
    RepliesAfter limit (Offer event) (replies.Refused refusal) run
response_unplaced limit run event result refusal is h =
    let (state, after, refuses) = subst (λ r. IfErr r (WasRefused limit run (Offer event))) is h in (state, after, elim refuses [ inl machine ↦ inl machine | inr (memory, accepted) ↦ inr (memory, refl, accepted) ])

pub response_answer : (limit : ℕ) (run : List BoardStep) (question : ℕ) (result : Result Answered AnswerRefused) (response : Answered) → result ≡ Ok response →
    IfOk result (WasAnswered limit run question) → RepliesAfter limit (AskAnswer question) (reply_in response) run
response_answer limit run question result response is h =
    let (state, after, steps) = subst (λ r. IfOk r (WasAnswered limit run question)) is h in
    (state, after, inl steps)

pub response_no_answer : (limit : ℕ) (run : List BoardStep) (question : ℕ) (result : Result Answered AnswerRefused) (refused : AnswerRefused) (refusal : Refusal) → result ≡ Err refused → refusal ≡ answer_refusal refused →
    IfErr result (λ r. WasRefused limit run (AskAnswer question) (answer_refusal r)) → RepliesAfter limit (AskAnswer question) (replies.Refused refusal) run
response_no_answer limit run question result refused refusal is same h =
    let (state, after, refuses) = subst (λ r. IfErr r (λ x. WasRefused limit run (AskAnswer question) (answer_refusal x))) is h in
    subst (λ (r : Refusal). RepliesAfter limit (AskAnswer question) (replies.Refused r) run) (sym same) (state, after, elim refuses [ inl machine ↦ inl machine | inr (memory, accepted) ↦ inr (memory, refl, accepted) ])

pub response_opened : (limit : ℕ) (run : List BoardStep) (bound : ℕ) (result : Result Opened AskRefused) (opened : Opened) (reply : Reply) → result ≡ Ok opened → reply ≡ opened_reply opened →
    IfOk result (WasOpened limit run bound) → RepliesAfter limit (Ask bound) reply run
response_opened limit run bound result opened reply is same h =
    let e : WasOpened limit run bound opened = subst (λ r. IfOk r (WasOpened limit run bound)) is h in
    subst (λ (r : Reply). RepliesAfter limit (Ask bound) r run) (sym same) (record { before = e.before; state = e.state; next = e.next; ends = e.ends; was = e.was; is = e.is; took = inl e.took })

pub response_unopened : (limit : ℕ) (run : List BoardStep) (bound : ℕ) (result : Result Opened AskRefused) (refused : AskRefused) (refusal : Refusal) → result ≡ Err refused → refusal ≡ ask_refusal refused →
    IfErr result (λ r. WasRefused limit run (Ask bound) (ask_refusal r)) → RepliesAfter limit (Ask bound) (replies.Refused refusal) run
response_unopened limit run bound result refused refusal is same h =
    let (state, after, refuses) = subst (λ r. IfErr r (λ x. WasRefused limit run (Ask bound) (ask_refusal x))) is h in
    subst (λ (r : Refusal). RepliesAfter limit (Ask bound) (replies.Refused r) run) (sym same) (state, after, elim refuses [ inl machine ↦ inl machine | inr (memory, accepted) ↦ inr (memory, refl, accepted) ])
