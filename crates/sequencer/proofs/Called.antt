-- A book's reply is the machine's, or reports a failed allocation.
use Rattle.std.proofs.Common.{◌≡◌, ◌⊎◌, ℕ, ◌≤◌, nat_le, if◌then◌else◌, Bool, true, false, List, length, take, slice_get, is_some, Option, Some, None, inl, inr, refl, sym, ap, subst, ◌∙◌, arith}
use Rattle.std.proofs.lemmas.Bool.{false≢true}
use Rattle.std.proofs.lemmas.Bool.Decides.{nat_tests}
use Rattle.std.specs.List.{list_all}
use Rattle.std.proofs.lemmas.List.{length-take, take_all}
use Rattle.std.proofs.lemmas.Option.{none-some, slice_get_cases}
use Rattle.trace_model.specs.declared.traces.event.Event.{Event}
use Rattle.trace_model.specs.declared.refusal.Refusal.{Refusal}
use Rattle.trace_model.specs.declared.refusal.Refusal.TheVariants.{NoMemory, ReportTooLong}
use Rattle.trace_model.specs.declared.limits.TheConstants.{MAX_REPORT}
use Rattle.trace_model.specs.declared.messages.session.Request.{Request}
use Rattle.trace_model.specs.declared.messages.session.Request.TheVariants.{Offer, Ask, Answer, Status, Batch}
use Rattle.trace_model.specs.declared.messages.session.Reply.{Reply}
use Rattle.trace_model.specs.declared.messages.session.Reply.TheVariants as replies
use Rattle.trace_model.specs.Theory.Lawful.{refusal_of}
use Rattle.trace_model.specs.Protocol.Batches.{AreLawful, IsLongest}
use Rattle.trace_model.specs.Protocol.Machine.{Question, State, answer_of, ask_refused, ask_reply, delivered_count, offer_reply, status_of, step, with_events}
use Rattle.trace_model.specs.Protocol.Replies.{IsReply}
use Rattle.trace_model.proofs.Protocol.Batches.{longest_is}
use Rattle.sequencer.specs.Book.{IsRefusal, Refuses, TakesMemory}
use Rattle.sequencer.specs.Batched.{EndsBatch, IsBatched}
use Rattle.sequencer.specs.Called.{IsSingle, StepsOrMemory, WantsRightly, lacks_memory}
use Rattle.sequencer.specs.Printing.{report_printer}
use Rattle.sequencer.specs.declared.batching.Batched.{Batched}

-- ---- a batch

past : (events : List Event) (n : ℕ) → slice_get events n ≡ None → length events ≤ n
past events n none = elim (slice_get_cases events n).1 [
  | inl within ↦ absurd (none-some within.0 (sym none ∙ within.2))
  | inr beyond ↦ beyond.0
]

-- the machine's reply to a batch of which this number of events is accepted
question_view : (s : State) (events : List Event) (n : ℕ) (o : Option Refusal) → IsLongest s.limit s.accepted events (n, o) →
    step report_printer s (Batch events) ≡ (replies.Batched n o (length s.accepted), with_events s (take n events))
question_view s events n o h =
    ap (λ (taken : ℕ × Option Refusal). (replies.Batched taken.0 taken.1 (length s.accepted), with_events s (take taken.0 events)))
    (longest_is s.limit s.accepted events n o h)

-- a batch of lawful events is accepted whole
all_views : (s : State) (events : List Event) (n : ℕ) → n ≤ length events → AreLawful s.limit s.accepted (take n events) →
    step report_printer s (Batch (take n events)) ≡ (replies.Batched n None (length s.accepted), with_events s (take n events))
all_views s events n within lawful =
    let few : length (take n events) ≤ n = omega (arith, length-take n events) in
    let same : take n (take n events) ≡ take n events = take_all n (take n events) few in
    question_view s (take n events) n None record {
      lawful = subst (AreLawful s.limit s.accepted) (sym same) lawful;
      ends = omega (arith, length-take n events, within);
    }
    ∙ ap (λ (es : List Event). (replies.Batched n None (length s.accepted), with_events s es)) same

pub batch_steps : (s next : State) (events : List Event) (b : Batched) → IsBatched s events b next →
    StepsOrMemory s (Batch events) (replies.Batched b.accepted b.refusal b.length) next
batch_steps s next events b h = by (slice_get events b.accepted) b.refusal refl refl h.ended
  where
    exactly : (o : Option Refusal) → b.refusal ≡ o → IsLongest s.limit s.accepted events (b.accepted, o) →
        step report_printer s (Batch events) ≡ (replies.Batched b.accepted b.refusal b.length, next)
    exactly o is longest = question_view s events b.accepted o longest ∙ (λ i. (replies.Batched b.accepted (sym is i) (sym h.first i), sym h.appended i))

    by : (at : Option Event) (o : Option Refusal) → slice_get events b.accepted ≡ at → b.refusal ≡ o → EndsBatch next at o →
        StepsOrMemory s (Batch events) (replies.Batched b.accepted b.refusal b.length) next
    by None None at is ends = inl (exactly None is record { lawful = h.lawful; ends = omega (arith, past events b.accepted at, h.within) })
    by None (Some r) at is ends = absurd ends
    by (Some e) None at is ends = absurd ends
    by (Some e) (Some r) at is (inl why) =
        inl (exactly (Some r) is record {
          lawful = h.lawful;
          ends = (e, at, subst (λ (m : State). refusal_of m.limit m.accepted e ≡ Some r) h.appended why);
        })
    by (Some e) (Some r) at is (inr (none, lawful)) = inr record {
      accepted = b.accepted;
      event = e;
      stands = at;
      lawful = lawful;
      steps = all_views s events b.accepted h.within h.lawful ∙ ap (λ (m : State). (replies.Batched b.accepted None (length s.accepted), m)) (sym h.appended);
      replies = λ i. replies.Batched b.accepted ((is ∙ ap Some none) i) (h.first i);
    }

-- ---- any request

pub is_single : (request : Request) → ((events : List Event) → request ≡ Batch events → ⊥) → IsSingle request
is_single (Offer e) none = tt
is_single (Ask bound) none = tt
is_single (Answer number) none = tt
is_single (Status number) none = tt
is_single (Batch events) none = none events refl

pub exact_steps : (s next : State) (request : Request) (reply : Reply) → step report_printer s request ≡ (reply, next) → StepsOrMemory s request reply next
exact_steps s next (Offer e) reply is = inl is
exact_steps s next (Ask bound) reply is = inl is
exact_steps s next (Answer number) reply is = inl is
exact_steps s next (Status number) reply is = inl is
exact_steps s next (Batch events) reply is = inl is

refused_by : (s : State) (request : Request) (reply : Reply) → Refuses s request reply →
    (step report_printer s request ≡ (reply, s)) ⊎ ((reply ≡ replies.Refused NoMemory) × (s ≡ s) × TakesMemory (step report_printer s request).0)
refused_by s request reply (inl is) = inl is
refused_by s request reply (inr (lacks, accepted)) = inr (lacks, refl, accepted)

pub refused_steps : (s : State) (request : Request) (reply : Reply) → IsSingle request → Refuses s request reply → StepsOrMemory s request reply s
refused_steps s (Offer e) reply one refused = refused_by s (Offer e) reply refused
refused_steps s (Ask bound) reply one refused = refused_by s (Ask bound) reply refused
refused_steps s (Answer number) reply one refused = refused_by s (Answer number) reply refused
refused_steps s (Status number) reply one refused = refused_by s (Status number) reply refused
refused_steps s (Batch events) reply one refused = absurd one

pub refused_rightly : (s : State) (request : Request) (reply : Reply) → IsRefusal s request reply → WantsRightly s request reply
refused_rightly s request reply (r, is, inl same) lacks = inl same
refused_rightly s request reply (r, is, inr (none, takes)) lacks = inr takes

-- ---- the machine's reply fits a frame

not_long : (n : ℕ) → nat_le n MAX_REPORT ≡ true → n ≤ MAX_REPORT
not_long n h = grind (arith, nat_tests)

text_fits : (number : ℕ) (text : List ℕ) (b : Bool) → nat_le (length text) MAX_REPORT ≡ b → IsReply (if b then replies.Report number text else replies.Refused ReportTooLong)
text_fits number text true h = not_long (length text) h
text_fits number text false h = tt

answer_fits : (s : State) (number : ℕ) (o : Option Question) → IsReply (answer_of report_printer s number o)
answer_fits s number None = tt
answer_fits s number (Some q) = go (list_all is_some q.tasks)
  where
    text : List ℕ
    text = report_printer (take q.length s.accepted) number q

    go : (b : Bool) →
        IsReply (if b then (if nat_le (length text) MAX_REPORT then replies.Report number text else replies.Refused ReportTooLong) else replies.Pending number (delivered_count q) (length q.tasks))
    go true = text_fits number text (nat_le (length text) MAX_REPORT) refl
    go false = tt

status_fits : (s : State) (number : ℕ) (o : Option Question) → IsReply (status_of s number o)
status_fits s number None = tt
status_fits s number (Some q) = tt

offer_fits : (s : State) (o : Option Refusal) → IsReply (offer_reply s o)
offer_fits s None = tt
offer_fits s (Some r) = tt

ask_fits : (s : State) (o : Option Refusal) → IsReply (ask_reply s o)
ask_fits s None = tt
ask_fits s (Some r) = tt

pub step_fits : (s : State) (request : Request) → IsReply (step report_printer s request).0
step_fits s (Offer e) = offer_fits s (refusal_of s.limit s.accepted e)
step_fits s (Ask bound) = ask_fits s (ask_refused s bound)
step_fits s (Answer number) = answer_fits s number (slice_get s.questions number)
step_fits s (Status number) = status_fits s number (slice_get s.questions number)
step_fits s (Batch events) = tt

-- ---- replies without a failed allocation

not_lacking : (A : Type 0) (reply lacking : Reply) → lacks_memory lacking ≡ true → lacks_memory reply ≡ false → reply ≡ lacking → A
not_lacking A reply lacking lacks none is = absurd (false≢true (sym none ∙ (ap lacks_memory is ∙ lacks)))

-- if no failed allocation is reported, the reply is the machine's
pub steps_exactly : (s next : State) (request : Request) (reply : Reply) → StepsOrMemory s request reply next → lacks_memory reply ≡ false →
    step report_printer s request ≡ (reply, next)
steps_exactly s next (Offer e) reply (inl is) none = is
steps_exactly s next (Ask bound) reply (inl is) none = is
steps_exactly s next (Answer number) reply (inl is) none = is
steps_exactly s next (Status number) reply (inl is) none = is
steps_exactly s next (Batch events) reply (inl is) none = is
steps_exactly s next (Offer e) reply (inr lacks) none = not_lacking _ reply (replies.Refused NoMemory) refl none lacks.0
steps_exactly s next (Ask bound) reply (inr lacks) none = not_lacking _ reply (replies.Refused NoMemory) refl none lacks.0
steps_exactly s next (Answer number) reply (inr lacks) none = not_lacking _ reply (replies.Refused NoMemory) refl none lacks.0
steps_exactly s next (Status number) reply (inr lacks) none = not_lacking _ reply (replies.Refused NoMemory) refl none lacks.0
steps_exactly s next (Batch events) reply (inr ends) none =
    not_lacking _ reply (replies.Batched ends.accepted (Some NoMemory) (length s.accepted)) refl none ends.replies
