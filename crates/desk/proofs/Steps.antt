-- A run followed by one more step of the machine.
use Rattle.std.proofs.Common.{◌≡◌, ℕ, zero, suc, ◌≤◌, List, [], ◌∷◌, ◌++◌, length, take, get_or, inl, Option, Some, None, refl, sym, ap, subst, ◌∙◌, arith}
use Rattle.std.proofs.lemmas.List.{append-nil, length-map, length-take}
use Rattle.std.proofs.lemmas.Option.{none-some, slice_get-get_or}
use Rattle.trace_model.specs.declared.traces.event.Event.{Event}
use Rattle.trace_model.specs.declared.limits.TheConstants.{MAX_CYCLES}
use Rattle.trace_model.specs.declared.refusal.Refusal.{Refusal}
use Rattle.trace_model.specs.declared.messages.step.BoardStep.{BoardStep}
use Rattle.trace_model.specs.declared.messages.step.BoardStep.TheVariants.{Accept, Open}
use Rattle.trace_model.specs.declared.messages.session.Request.TheVariants.{Offer, Ask}
use Rattle.trace_model.specs.declared.messages.session.Reply.TheVariants.{Placed}
use Rattle.trace_model.specs.Theory.Trace.{Trace}
use Rattle.trace_model.specs.Theory.Lawful.{refusal_of}
use Rattle.trace_model.specs.Protocol.Batches.{IsBatch}
use Rattle.trace_model.specs.Theory.Rows.{AreRows}
use Rattle.trace_model.specs.Theory.Dependencies.{dependencies}
use Rattle.trace_model.specs.Protocol.Machine.{State, opening, ask_refused, ask_reply, ask_next, deliver_next, deliver_refused, offer_reply, offer_next, step, with_event, with_question}
use Rattle.trace_model.specs.Protocol.Runs.{IsLegal, TakesStep}
use Rattle.trace_model.proofs.Protocol.Taking.{machine_steps, one_takes, run_legal, run_push}
use Rattle.snapshots.specs.Found.{AreRowsOf, RowsOfTask}
use Rattle.sequencer.specs.declared.asking.Opened.{Opened}
use Rattle.sequencer.specs.declared.batching.Batched.{Batched}
use Rattle.sequencer.specs.Batched.{EndsBatch, FirstIsReserved, IsBatched}
use Rattle.sequencer.specs.Book as books
use Rattle.sequencer.specs.Book.{RefusesOffer, findings_rows, opened_reply}
use Rattle.sequencer.specs.Printing.{report_printer}
use Rattle.sequencer.specs.Deliveries.{delivery}
use Rattle.desk.specs.Batches.{accept_steps}
use Rattle.desk.specs.Published.{After, IsDesk, DeskView, delivery_step}
use Rattle.desk.specs.Refused.{RefusesFinding}

-- the machine takes the step
abbrev pub Takes : State → BoardStep → State → Type 0
Takes = TakesStep AreRows

pub legal_kept : (limit : ℕ) (run waiting : List BoardStep) (s : State) → IsDesk limit run waiting s → IsLegal run
legal_kept limit run waiting s kept = run_legal limit s run kept.allowed kept.after

-- the same for their views
pub after_shown : (limit : ℕ) (k shown : DeskView) → k ≡ shown → After limit k.published k.state → After limit shown.published shown.state
after_shown limit k shown is = subst (λ (x : DeskView). After limit x.published x.state) is

-- a call changed nothing under the lock, and the property holds of the machine before it
pub record Stays (limit : ℕ) (now next : DeskView) (so : State → Type 0) : Type 0 where
  pub before : After limit now.published now.state
  pub after : After limit next.published next.state
  pub is : so now.state
  pub same : next ≡ now
  pub legal : IsLegal next.published

pub stays : (limit : ℕ) (run waiting shown : List BoardStep) (s next : State) (now : DeskView) (so : State → Type 0) → IsDesk limit run waiting s → record { published = run; state = s } ≡ now →
    shown ≡ run → next ≡ s → so s → Stays limit now (record { published = shown; state = next }) so
stays limit run waiting shown s next now so kept view same_run same_state is =
    let before = after_shown limit _ now view kept.after in
    let same = (λ i. record { published = same_run i; state = same_state i }) ∙ view in
    record {
      before = before;
      after = after_shown limit now _ (sym same) before;
      is = subst (λ (x : DeskView). so x.state) view is;
      same = same;
      legal = subst IsLegal (sym same_run) (legal_kept limit run waiting s kept);
    }

-- a call published one more step, and the property holds of the machine before it
pub record Goes (limit : ℕ) (now next : DeskView) (added : BoardStep) (so : State → Type 0) : Type 0 where
  pub before : After limit now.published now.state
  pub after : After limit next.published next.state
  pub is : so now.state
  pub published : next.published ≡ now.published ++ added ∷ []
  pub legal : IsLegal next.published

-- the machine takes one more step, with which the steps are those of `shown`
pub record Moves (limit : ℕ) (run waiting shown : List BoardStep) (s next : State) (added : BoardStep) : Type 0 where
  pub kept : IsDesk limit run waiting s
  pub takes : Takes s added next
  pub is : shown ≡ run ++ added ∷ []

module _ {limit : ℕ} {run waiting shown : List BoardStep} {s next : State} {added : BoardStep} (m : Moves limit run waiting shown s next added) where
  -- the desk once they are published
  pub kept_on : (out rest : List BoardStep) → out ≡ shown → rest ≡ [] → IsDesk limit out rest next
  kept_on out rest is none = record {
    allowed = m.kept.allowed;
    after = subst (λ x. After limit x next) (sym (is ∙ m.is)) (run_push AreRows (opening limit) s next run added m.kept.after m.takes);
    rests = none;
  }

  -- they may be published
  pub legal_next : IsLegal shown
  legal_next = legal_kept limit shown [] next (kept_on shown [] refl refl)

  pub goes : (out rest : List BoardStep) (now : DeskView) (so : State → Type 0) → record { published = run; state = s } ≡ now → out ≡ shown → rest ≡ [] → so s →
      Goes limit now (record { published = out; state = next }) added so
  goes out rest now so view is none holds = record {
    before = after_shown limit _ now view m.kept.after;
    after = (kept_on out rest is none).after;
    is = subst (λ (x : DeskView). so x.state) view holds;
    published = is ∙ (m.is ∙ ap (λ (x : DeskView). x.published ++ added ∷ []) view);
    legal = legal_kept limit out rest next (kept_on out rest is none);
  }

-- ---- what the machine takes

pub takes_offer : (s now next : State) (e : Event) → now ≡ s → refusal_of s.limit s.accepted e ≡ None → next ≡ with_event now e → Takes s (Accept (e ∷ [])) next
takes_offer s now next e shown none is = one_takes AreRows s next e none (is ∙ ap (λ (x : State). with_event x e) shown)

pub takes_batch : (s next : State) (events : List Event) (b : Batched) → IsBatch events → 1 ≤ b.accepted → IsBatched s events b next →
    Takes s (Accept (take b.accepted events)) next
takes_batch s next events b (some, few) came h =
    ((omega (arith, length-take b.accepted events), omega (arith, length-take b.accepted events)), h.lawful, h.appended)

-- the step of a batch with accepted events
pub accepting_some : (events : List Event) (n : ℕ) → 1 ≤ n → 1 ≤ length events → accept_steps (take n events) ≡ Accept (take n events) ∷ []
accepting_some [] n came some = absurd (omega (arith, some))
accepting_some (e ∷ events) zero came some = absurd (omega (arith, came))
accepting_some (e ∷ events) (suc n) came some = refl

pub takes_ask : (s now next : State) (bound asked : ℕ) (opened : Opened) → now ≡ s → asked ≡ bound → ask_refused s bound ≡ None →
    (step report_printer now (Ask asked)).0 ≡ opened_reply opened → next ≡ with_question now asked → Takes s (Open bound opened.total) next
takes_ask s now next bound asked opened shown same none replies is =
    let before = sym shown in
    let given = sym same in
    let response : ask_reply s None ≡ opened_reply opened = ap (ask_reply s) (sym none) ∙ ((λ i. (step report_printer (before i) (Ask (given i))).0) ∙ replies) in
    let total : length (dependencies s.accepted) ≡ opened.total = cc response in
    (none, sym total, is ∙ (λ i. with_question (shown i) (same i)))

-- ---- what it answers

pub steps_offer : (s now next : State) (e : Event) (place : ℕ) → now ≡ s → refusal_of s.limit s.accepted e ≡ None → place ≡ length now.accepted → next ≡ with_event now e →
    step report_printer s (Offer e) ≡ (Placed place, next)
steps_offer s now next e place shown none at is =
    ap (λ o. (offer_reply s o, offer_next s e o)) none
    ∙ (λ i. (Placed ((ap (λ (x : State). length x.accepted) (sym shown) ∙ sym at) i), (ap (λ (x : State). with_event x e) (sym shown) ∙ sym is) i))

pub steps_ask : (s now next : State) (bound asked : ℕ) (opened : Opened) → now ≡ s → asked ≡ bound → ask_refused s bound ≡ None →
    (step report_printer now (Ask asked)).0 ≡ opened_reply opened → next ≡ with_question now asked → step report_printer s (Ask bound) ≡ (opened_reply opened, next)
steps_ask s now next bound asked opened shown same none replies is =
    let response : ask_reply s None ≡ opened_reply opened = ap (ask_reply s) (sym none) ∙ ((λ i. (step report_printer (sym shown i) (Ask (sym same i))).0) ∙ replies) in
    ap (λ o. (ask_reply s o, ask_next s bound o)) none ∙ (λ i. (response i, ((λ j. with_question (sym shown j) (sym same j)) ∙ sym is) i))

pub takes_finding : (s next : State) (f : RowsOfTask) → None ≡ deliver_refused s f.question f.bound f.events f.task → delivery s f ≡ (None, next) →
    AreRowsOf f.events f.bound f.task f.rows → Takes s (delivery_step f) next
takes_finding s next f none is exact =
    let rows = findings_rows f in
    subst (Takes s (delivery_step f)) (ap (λ (r : Option Refusal × State). r.1) is)
    ((machine_steps AreRows).delivers s f.question f.bound f.events f.task rows (sym none) exact.exact (subst (λ n. n ≤ MAX_CYCLES) (sym (length-map f.rows (λ p. p.row))) exact.few))

-- the first event of a batch, with memory reserved for it
pub first_admitted : (book : books.BookView) (s : State) (events : List Event) (d : Event) → 1 ≤ length events → book.state ≡ s → book.reserved ≡ Some (get_or events 0 d) →
    refusal_of s.limit s.accepted (get_or events 0 d) ≡ None → FirstIsReserved book events
first_admitted book s events d some shown reserved none =
    let e = get_or events 0 d in
    (e, slice_get-get_or events 0 d some, reserved, subst (λ (x : State). refusal_of x.limit x.accepted e ≡ None) (sym shown) none)

-- ---- what it refuses

pub refuses_finding : (s : State) (f : RowsOfTask) (r : Refusal) → Some r ≡ deliver_refused s f.question f.bound f.events f.task → RefusesFinding s f r
refuses_finding s f r is = inl (ap (λ o. (o, deliver_next s f.question f.task (findings_rows f) o)) (sym is))

-- no event of a batch is accepted if its first event is refused
pub none_batched : (s next : State) (events : List Event) (d : Event) (r : Refusal) (out : Batched) → next ≡ s → 1 ≤ length events → RefusesOffer s (get_or events 0 d) r →
    out.accepted ≡ 0 → out.refusal ≡ Some r → out.length ≡ length next.accepted → IsBatched s events out next
none_batched s next events d r out shown some refuses none refusal long =
    let is : out ≡ record { accepted = 0; refusal = Some r; length = length s.accepted } =
    λ i. record { accepted = none i; refusal = refusal i; length = (long ∙ ap (λ (x : State). length x.accepted) shown) i } in
    let same : IsBatched s events (record { accepted = 0; refusal = Some r; length = length s.accepted }) s = record {
      first = refl;
      within = omega arith;
      lawful = λ k e at. absurd (none-some e at);
      appended = ap (λ (a : Trace). record s { accepted = a }) (sym (append-nil s.accepted));
      ended = subst (λ o. EndsBatch s o (Some r)) (sym (slice_get-get_or events 0 d some)) refuses;
    } in
    subst (λ (o : Batched). IsBatched s events o next) (sym is) (subst (IsBatched s events (record { accepted = 0; refusal = Some r; length = length s.accepted })) (sym shown) same)

pub none_accepted : (run shown : List BoardStep) (events : List Event) (n : ℕ) → run ≡ shown → n ≡ 0 → run ≡ shown ++ accept_steps (take n events)
none_accepted run shown events n same none = same ∙ (sym (append-nil shown) ∙ ap (λ k. shown ++ accept_steps (take k events)) (sym none))
