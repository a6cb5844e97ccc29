-- The invariant of a book is preserved.
use Rattle.std.proofs.Common.{◌≡◌, ℕ, zero, suc, ◌+◌, ◌<◌, ◌≤◌, ◌^◌, inl, inr, false, nat_lt, List, [], ◌∷◌, ◌++◌, length, map, take, get_or, replicate, slice_get, slice_set, option_map, IfSome, Option, Some, None, refl, sym, ap, subst, ◌∙◌, arith}
use Rattle.std.proofs.lemmas.Bool.{cases_eq}
use Rattle.std.proofs.lemmas.Bool.Decides.{nat_tests}
use Rattle.std.proofs.lemmas.List.{length-map, length-take, map-append, map-set, take-append-le}
use Rattle.std.proofs.lemmas.Option.{none-some, same_Some, get_or_from_slice_get, slice_get-map, slice_get_past, slice_get_read}
use Rattle.std.specs.List.{count_by}
use Rattle.std.specs.Slice.{IsItemAt}
use denote.Ref.{Bor}
use Rattle.trace_model.specs.declared.traces.event.Event.{Event}
use Rattle.trace_model.specs.declared.limits.TheConstants.{MAX_EVENTS}
use Rattle.trace_model.specs.declared.messages.step.BoardStep.TheVariants.{Accept, Open, Deliver}
use Rattle.trace_model.specs.Theory.Trace.{Trace}
use Rattle.trace_model.specs.declared.refusal.Refusal.{Refusal}
use Rattle.trace_model.specs.Theory.Lawful.{refusal_of}
use Rattle.trace_model.specs.Theory.Dependencies.{dependencies}
use Rattle.trace_model.specs.Theory.Rows.{AreRows}
use Rattle.trace_model.specs.Protocol.Machine.{Question, State, ask_refused, cycles_of, deliver, deliver_refused, deliver_next, is_confirmed, with_event, with_question, with_rows}
use Rattle.trace_model.specs.Protocol.Bounds.{StateFits, QuestionFits}
use Rattle.trace_model.proofs.Protocol.Bounds.{opening_fits, step_fits, dependencies_few}
use Rattle.trace_model.proofs.Lists.{get-push, get-set_other, get-set_same}
use Rattle.trace_model.proofs.Protocol.Taking.{admitted, machine_steps, one_takes}
use Rattle.reports.specs.Printed.{PrintedRow}
use Rattle.snapshots.specs.Found.{AreNamed, AreRowsOf, RowsOfTask}
use Rattle.sequencer.specs.QuestionState.{QuestionView, question_of, plain_rows, HasNamedRows}
use Rattle.sequencer.specs.Book.{IsBook, book_state, fresh, findings_rows}
use Rattle.sequencer.proofs.Counted.{cycles_most, row_missing}

pub kept_opening : (limit : ℕ) → limit ≤ MAX_EVENTS → IsBook limit limit [] []
kept_opening limit le = record { same_limit = refl; fits = opening_fits AreRows limit le; named = λ k question_view h. absurd (none-some question_view h) }

-- the invariant holds again for equal events and questions
pub kept_again : (admitted again limit : ℕ) (events more : Trace) (asked question_view : List QuestionView) → again ≡ admitted → more ≡ events → question_view ≡ asked → IsBook admitted limit events asked →
    IsBook again limit more question_view
kept_again admitted again limit events more asked question_view same_limit same_events same_asked kept = record {
  same_limit = same_limit ∙ kept.same_limit;
  fits = subst (StateFits AreRows) (λ i. book_state limit (sym same_events i) (sym same_asked i)) kept.fits;
  named = λ k t h. subst (λ (s : Trace). HasNamedRows (take t.length s) t) (sym same_events) (kept.named k t (ap (λ ts. slice_get ts k) (sym same_asked) ∙ h));
}

-- the result of the check is the machine's refusal of the event
pub checked : (o : Option Refusal) (admitted limit : ℕ) (events : Trace) (asked : List QuestionView) (s : State) (e : Event) → o ≡ refusal_of admitted events e → admitted ≡ limit →
    book_state limit events asked ≡ s → refusal_of s.limit s.accepted e ≡ o
checked o admitted limit events asked s e is same shown =
    sym (is ∙ (ap (λ n. refusal_of n events e) same ∙ ap (λ (m : State). refusal_of m.limit m.accepted e) shown))

-- ---- a question

pub question_at : (asked : List QuestionView) (k : ℕ) (question_view : QuestionView) → slice_get asked k ≡ Some question_view → slice_get (map question_of asked) k ≡ Some (question_of question_view)
question_at asked k question_view h = slice_get-map question_of asked k ∙ ap (option_map question_of) h

pub view_at : (asked : List QuestionView) (k : ℕ) (q : Question) → slice_get (map question_of asked) k ≡ Some q → (question_view : QuestionView) × (slice_get asked k ≡ Some question_view) × (question_of question_view ≡ q)
view_at asked k q h = go (slice_get asked k) refl
  where
    go : (o : Option QuestionView) → slice_get asked k ≡ o → (question_view : QuestionView) × (slice_get asked k ≡ Some question_view) × (question_of question_view ≡ q)
    go None e = absurd (none-some q (sym (ap (option_map question_of) e) ∙ (sym (slice_get-map question_of asked k) ∙ h)))
    go (Some question_view) e = (question_view, e, same_Some (question_of question_view) q (sym (ap (option_map question_of) e) ∙ (sym (slice_get-map question_of asked k) ∙ h)))

pub fits_at : (admitted limit : ℕ) (events : Trace) (asked : List QuestionView) (k : ℕ) (question_view : QuestionView) → IsBook admitted limit events asked → slice_get asked k ≡ Some question_view → QuestionFits AreRows events (question_of question_view)
fits_at admitted limit events asked k question_view kept h = kept.fits.each k (question_of question_view) (question_at asked k question_view h)

-- the question that a look-up borrows
pub lent_at : (asked : List QuestionView) (k : ℕ) (lent : Option (Bor QuestionView)) → IsItemAt asked k lent → IfSome lent (λ question_view. slice_get asked k ≡ Some question_view.now)
lent_at asked k None h = tt
lent_at asked k (Some question_view) h = slice_get_read asked (length asked) k question_view.now refl h.3.0 h.1

not_below : (a b : ℕ) → false ≡ nat_lt a b → b ≤ a
not_below a b h = grind (arith, nat_tests)

pub lent_value : (asked : List QuestionView) (k : ℕ) (lent : Option (Bor QuestionView)) → IsItemAt asked k lent → option_map (λ question_view. question_of question_view.now) lent ≡ slice_get (map question_of asked) k
lent_value asked k None h = sym (slice_get-map question_of asked k ∙ ap (option_map question_of) (slice_get_past asked k (not_below k (length asked) h.0)))
lent_value asked k (Some question_view) h = sym (question_at asked k question_view.now (lent_at asked k (Some question_view) h))

pub lent_within : (admitted limit : ℕ) (events : Trace) (asked : List QuestionView) (k : ℕ) (lent : Option (Bor QuestionView)) → IsBook admitted limit events asked → IsItemAt asked k lent →
    IfSome lent (λ question_view. question_view.now.length ≤ length events)
lent_within admitted limit events asked k None kept h = tt
lent_within admitted limit events asked k (Some question_view) kept h = (fits_at admitted limit events asked k question_view.now kept (lent_at asked k (Some question_view) h)).within

pub lent_named : (admitted limit : ℕ) (events : Trace) (asked : List QuestionView) (k : ℕ) (lent : Option (Bor QuestionView)) → IsBook admitted limit events asked → IsItemAt asked k lent →
    IfSome lent (λ question_view. HasNamedRows (take question_view.now.length events) question_view.now)
lent_named admitted limit events asked k None kept h = tt
lent_named admitted limit events asked k (Some question_view) kept h = kept.named k question_view.now (lent_at asked k (Some question_view) h)

pub lent_total : (admitted limit : ℕ) (events : Trace) (asked : List QuestionView) (k : ℕ) (lent : Option (Bor QuestionView)) → IsBook admitted limit events asked → IsItemAt asked k lent →
    IfSome lent (λ question_view. length question_view.now.tasks ≡ length (dependencies (take question_view.now.length events)))
lent_total admitted limit events asked k None kept h = tt
lent_total admitted limit events asked k (Some question_view) kept h =
    sym (length-map question_view.now.tasks (option_map plain_rows)) ∙ (fits_at admitted limit events asked k question_view.now kept (lent_at asked k (Some question_view) h)).total

-- ---- an event more

pub kept_event : (admitted limit : ℕ) (events : Trace) (asked : List QuestionView) (e : Event) → refusal_of limit events e ≡ None → IsBook admitted limit events asked →
    IsBook admitted limit (events ++ e ∷ []) asked
kept_event admitted limit events asked e lawful kept =
    let s = book_state limit events asked in record {
      same_limit = kept.same_limit;
      fits = step_fits AreRows s (with_event s e) (Accept (e ∷ [])) (one_takes AreRows s (with_event s e) e lawful refl) kept.fits;
      named = λ k question_view h.
          let within = (fits_at admitted limit events asked k question_view kept h).within in
          subst (λ front. HasNamedRows front question_view) (sym (take-append-le question_view.length events (e ∷ []) within)) (kept.named k question_view h);
    }

-- ---- a question more

pub fresh_question : (s : State) (bound : ℕ) → question_of (fresh s bound) ≡ record { length = length s.accepted; bound = bound; tasks = replicate (length (dependencies s.accepted)) None }
fresh_question s bound = ap (λ tasks. record { length = length s.accepted; bound = bound; tasks = tasks }) (none_each (length (dependencies s.accepted)))
  where
    none_each : (n : ℕ) → map (option_map plain_rows) (replicate n None) ≡ replicate n None
    none_each zero = refl
    none_each (suc n) = ap (λ tasks. None ∷ tasks) (none_each n)

-- a new question for the dependencies of the events, with memory reserved for it
pub opened_room : (s : State) (room : ℕ) (question_view : QuestionView) (n bound total : ℕ) → 0 < room → question_view ≡ record { length = n; bound = bound; tasks = replicate total None } → n ≡ length s.accepted →
    total ≡ length (dependencies s.accepted) → (question_view.bound ≡ bound) × ((0 < room) × (question_view ≡ fresh s question_view.bound))
opened_room s room question_view n bound total some is counted all =
    let same : question_view.bound ≡ bound = ap (λ (t : QuestionView). t.bound) is in
    (same, (some, is ∙ (λ i. record { length = counted i; bound = sym same i; tasks = replicate (all i) None })))

pub with_fresh : (limit : ℕ) (events : Trace) (asked : List QuestionView) (bound : ℕ) →
    book_state limit events (asked ++ fresh (book_state limit events asked) bound ∷ []) ≡ with_question (book_state limit events asked) bound
with_fresh limit events asked bound =
    let s = book_state limit events asked in
    ap (λ questions. record { limit = limit; accepted = events; questions = questions })
    (map-append question_of asked (fresh s bound ∷ []) ∙ ap (λ q. map question_of asked ++ q ∷ []) (fresh_question s bound))

none_delivered : (n k : ℕ) (rows : List PrintedRow) → slice_get (replicate n None) k ≡ Some (Some rows) → ⊥
none_delivered zero k rows h = none-some (Some rows) h
none_delivered (suc n) zero rows h = none-some rows (same_Some None (Some rows) h)
none_delivered (suc n) (suc k) rows h = none_delivered n k rows h

pub kept_question : (admitted limit : ℕ) (events : Trace) (asked : List QuestionView) (bound : ℕ) → ask_refused (book_state limit events asked) bound ≡ None → IsBook admitted limit events asked →
    IsBook admitted limit events (asked ++ fresh (book_state limit events asked) bound ∷ [])
kept_question admitted limit events asked bound allowed kept =
    let s = book_state limit events asked in record {
      same_limit = kept.same_limit;
      fits = subst (StateFits AreRows) (sym (with_fresh limit events asked bound))
          (step_fits AreRows s (with_question s bound) (Open bound (length (dependencies events))) (allowed, refl, refl) kept.fits);
      named = λ k question_view h. elim (get-push asked (fresh s bound) k question_view h) [
        | inl old ↦ kept.named k question_view old
        | inr new ↦ subst (λ t. HasNamedRows (take t.length events) t) new.1 (λ task rows e. absurd (none_delivered (length (dependencies events)) task rows e))
      ];
    }

-- ---- a task more

abbrev pub view_with : QuestionView → ℕ → List PrintedRow → QuestionView
view_with question_view task rows = record question_view { tasks = slice_set question_view.tasks task (Some rows) }

pub question_with : (question_view : QuestionView) (task : ℕ) (rows : List PrintedRow) →
    question_of (record question_view { tasks = slice_set question_view.tasks task (Some rows) }) ≡ record (question_of question_view) { tasks = slice_set (question_of question_view).tasks task (Some (plain_rows rows)) }
question_with question_view task rows =
    ap (λ tasks. record { length = question_view.length; bound = question_view.bound; tasks = tasks }) (map-set (option_map plain_rows) question_view.tasks task (Some rows))

-- facts about an admitted finding
pub record IsAdmitted (s : State) (asked : List QuestionView) (f : RowsOfTask) : Type 0 where
  pub question_view : QuestionView
  pub known : slice_get asked f.question ≡ Some question_view
  pub same_bound : f.bound ≡ question_view.bound
  pub same_trace : f.events ≡ take question_view.length s.accepted
  pub missing : slice_get question_view.tasks f.task ≡ Some None

pub is_admitted : (limit : ℕ) (events : Trace) (asked : List QuestionView) (f : RowsOfTask) → deliver_refused (book_state limit events asked) f.question f.bound f.events f.task ≡ None →
    IsAdmitted (book_state limit events asked) asked f
is_admitted limit events asked f h =
    let a = admitted (book_state limit events asked) f.question f.bound f.events f.task h in
    let (question_view, at, is) = view_at asked f.question a.question a.known in record {
      question_view = question_view;
      known = at;
      same_bound = a.same_bound ∙ sym (ap (λ q. q.bound) is);
      same_trace = a.same_trace ∙ sym (ap (λ q. take q.length events) is);
      missing = row_missing question_view.tasks f.task (ap (λ q. slice_get q.tasks f.task) is ∙ a.missing);
    }

-- the question with its number
pub own_question : (limit : ℕ) (events : Trace) (asked : List QuestionView) (f : RowsOfTask) (own : QuestionView) (number : ℕ) → deliver_refused (book_state limit events asked) f.question f.bound f.events f.task ≡ None →
    own ≡ get_or asked number own → number ≡ f.question → slice_get asked f.question ≡ Some own
own_question limit events asked f own number h found same =
    let a = is_admitted limit events asked f h in
    let is : own ≡ a.question_view = found ∙ (ap (λ i. get_or asked i own) same ∙ get_or_from_slice_get asked f.question a.question_view own a.known) in
    a.known ∙ ap (λ (t : QuestionView). Some t) (sym is)

-- its task is missing
pub own_missing : (limit : ℕ) (events : Trace) (asked : List QuestionView) (f : RowsOfTask) (question_view : QuestionView) → deliver_refused (book_state limit events asked) f.question f.bound f.events f.task ≡ None →
    slice_get asked f.question ≡ Some question_view → slice_get question_view.tasks f.task ≡ Some None
own_missing limit events asked f question_view h at =
    let a = is_admitted limit events asked f h in
    subst (λ t. slice_get t.tasks f.task ≡ Some None) (same_Some a.question_view question_view (sym a.known ∙ at)) a.missing

pub few_cycles : (adm limit : ℕ) (events : Trace) (asked : List QuestionView) (f : RowsOfTask) (question_view : QuestionView) → IsBook adm limit events asked → slice_get asked f.question ≡ Some question_view → AreRowsOf f.events f.bound f.task f.rows →
    cycles_of (question_of question_view) + length f.rows < 2 ^ 64
few_cycles adm limit events asked f question_view kept at exact =
    let q = question_of question_view in
    let h = fits_at adm limit events asked f.question question_view kept at in
    let most = cycles_most q.tasks (λ task rows e. (h.delivered_rows task rows e).1) in
    let total = dependencies_few (take question_view.length events) (length (take question_view.length events)) in
    omega (arith, most, h.total, total, length-take question_view.length events, h.within, kept.fits.within, kept.fits.limit, exact.few)

pub view_in_state : (limit : ℕ) (events : Trace) (asked : List QuestionView) (f : RowsOfTask) (question_view : QuestionView) →
    deliver_refused (book_state limit events asked) f.question f.bound f.events f.task ≡ None → slice_get asked f.question ≡ Some question_view →
    deliver (book_state limit events asked) f.question f.bound f.events f.task (findings_rows f)
    ≡ (None, book_state limit events (slice_set asked f.question (record question_view { tasks = slice_set question_view.tasks f.task (Some f.rows) })))
view_in_state limit events asked f question_view h at =
    let s = book_state limit events asked in
    let next = record question_view { tasks = slice_set question_view.tasks f.task (Some f.rows) } in
    let rows = findings_rows f in
    let moved : map question_of (slice_set asked f.question next) ≡ slice_set s.questions f.question (record (question_of question_view) { tasks = slice_set (question_of question_view).tasks f.task (Some rows) }) =
    map-set question_of asked f.question next ∙ ap (slice_set s.questions f.question) (question_with question_view f.task f.rows) in
    ap (λ r. (r, deliver_next s f.question f.task rows r)) h
    ∙ ap (λ o. (None, with_rows s f.question o f.task rows)) (question_at asked f.question question_view at)
    ∙ ap (λ questions. (None, record { limit = limit; accepted = events; questions = questions })) (sym moved)

pub kept_view : (adm limit : ℕ) (events : Trace) (asked : List QuestionView) (f : RowsOfTask) (question_view : QuestionView) →
    deliver_refused (book_state limit events asked) f.question f.bound f.events f.task ≡ None → slice_get asked f.question ≡ Some question_view → AreRowsOf f.events f.bound f.task f.rows → IsBook adm limit events asked →
    IsBook adm limit events (slice_set asked f.question (record question_view { tasks = slice_set question_view.tasks f.task (Some f.rows) }))
kept_view adm limit events asked f question_view h at exact kept =
    let s = book_state limit events asked in
    let rows = findings_rows f in
    let next = record question_view { tasks = slice_set question_view.tasks f.task (Some f.rows) } in
    let a = is_admitted limit events asked f h in
    let own : a.question_view ≡ question_view = same_Some a.question_view question_view (sym a.known ∙ at) in
    let takes = (machine_steps AreRows).delivers s f.question f.bound f.events f.task rows h exact.exact (rw length-map exact.few) in
    let fits = step_fits AreRows s (deliver s f.question f.bound f.events f.task rows).1 (Deliver f.question f.task (length rows) (count_by is_confirmed rows)) takes kept.fits in
    let missing = own_missing limit events asked f question_view h at in
    let named : AreNamed (take question_view.length events) f.rows = subst (λ t. AreNamed (take t.length events) f.rows) own (subst (λ r. AreNamed r f.rows) a.same_trace exact.named) in
    record {
      same_limit = kept.same_limit;
      fits = subst (StateFits AreRows) (ap (λ r. r.1) (view_in_state limit events asked f question_view h at)) fits;
      named = λ k other e. elim (cases_eq f.question k) [
        | inl same ↦
            let is : next ≡ other = same_Some next other (sym (get-set_same asked f.question question_view next at) ∙ subst (λ z. slice_get (slice_set asked f.question next) z ≡ Some other) (sym same) e) in
            subst (λ t. HasNamedRows (take t.length events) t) is (named_with (take question_view.length events) question_view f.task f.rows missing named (kept.named f.question question_view at))
        | inr apart ↦ kept.named k other (sym (get-set_other asked f.question k next apart) ∙ e)
      ];
    }
  where
    named_with : (front : Trace) (question_view : QuestionView) (task : ℕ) (rows : List PrintedRow) → slice_get question_view.tasks task ≡ Some None → AreNamed front rows → HasNamedRows front question_view →
        HasNamedRows front (record question_view { tasks = slice_set question_view.tasks task (Some rows) })
    named_with front question_view task rows missing named before other more e = elim (cases_eq task other) [
      | inl same ↦
          let is : Some rows ≡ Some more = same_Some (Some rows) (Some more) (sym (get-set_same question_view.tasks task None (Some rows) missing) ∙ subst (λ z. slice_get (slice_set question_view.tasks task (Some rows)) z ≡ Some (Some more)) (sym same) e) in
          subst (AreNamed front) (same_Some rows more is) named
      | inr apart ↦ before other more (sym (get-set_other question_view.tasks task other (Some rows) apart) ∙ e)
    ]
