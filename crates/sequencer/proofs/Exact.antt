-- At every time, the delivered rows are exactly those of their tasks.
use Rattle.std.proofs.Common.{◌≡◌, ℕ, zero, suc, ◌+◌, ◌-◌, ◌<◌, ◌≤◌, List, [], ◌∷◌, ◌++◌, length, map, take, get_or, slice_get, inl, inr, Option, Some, None, Ok, Err, refl, sym, ap, subst, ◌∙◌, append_assoc, arith}
use Rattle.std.specs.Prelude.{OnOk}
use Rattle.std.specs.List.{All, Contains, count_by, flat_map}
use Rattle.std.proofs.Math.Seq.{take-length, take-append-add}
use Rattle.std.proofs.lemmas.Bool.{cases_lt}
use Rattle.std.proofs.lemmas.List.{append-nil, take-append-le, length-map, get_or-map}
use Rattle.std.proofs.lemmas.List.Elements.{All-nil, All-append}
use Rattle.trace_model.specs.declared.limits.TheConstants.{MAX_EVENTS, MAX_CYCLES}
use Rattle.trace_model.specs.declared.traces.event.Event.{Event}
use Rattle.trace_model.specs.declared.refusal.Refusal.{Refusal}
use Rattle.trace_model.specs.declared.messages.session.Request.{Request}
use Rattle.trace_model.specs.declared.messages.session.Request.TheVariants.{Offer, Ask, Answer, Status, Batch}
use Rattle.trace_model.specs.declared.messages.step.BoardStep.TheVariants.{Accept, Open, Deliver}
use Rattle.trace_model.specs.Theory.Trace.{Trace}
use Rattle.trace_model.specs.Theory.Lawful.{refusal_of, IsWellFormed}
use Rattle.trace_model.specs.Protocol.Batches.{AreLawful, taken_of}
use Rattle.trace_model.specs.Theory.Dependencies.{dependencies}
use Rattle.trace_model.specs.Theory.Cycles.{IsCycle}
use Rattle.trace_model.specs.Theory.Rows.{Row, Evidence, IsRow, AreRows}
use Rattle.trace_model.specs.Protocol.Machine.{State, opening, is_confirmed, rows_of, with_event, with_events, offer, offer_next, ask, ask_refused, ask_next, deliver_next, step}
use Rattle.trace_model.specs.Protocol.Bounds.{StateFits}
use Rattle.trace_model.proofs.Protocol.Batches.{is_longest, lawful_parts}
use Rattle.trace_model.proofs.Protocol.Bounds.{opening_fits, step_fits}
use Rattle.trace_model.proofs.Theory.Deadlock.{reached_deadlocks}
use Rattle.trace_model.proofs.Theory.Growing.{well_formed_take}
use Rattle.trace_model.proofs.Lists.{by_pushes}
use Rattle.trace_model.proofs.Protocol.Taking.{machine_steps, one_takes}
use Rattle.snapshots.specs.Found.{RowsOfTask, AreRowsOf}
use Rattle.sequencer.specs.Book.{outcome, findings_rows}
use Rattle.sequencer.specs.Printing.{report_printer}
use Rattle.sequencer.specs.Sessions.{Action, brings, state_after}
use Rattle.sequencer.specs.Deliveries.{delivery, DeliveryResult}
use Rattle.sequencer.specs.Exact.{IsAlwaysExact, LeadsToDeadlock, TellsDeadlocks, AlwaysTellsDeadlocks}
use Rattle.sequencer.proofs.Sent.{after_append, called}

-- ---- one action

abbrev FitsWith : State → List Event → Type 0
FitsWith s events = AreLawful s.limit s.accepted events → StateFits AreRows (with_events s events)

events_fit : (s : State) (events : List Event) → StateFits AreRows s → FitsWith s events
events_fit s events h = by_pushes (FitsWith s) none more events
  where
    none : FitsWith s []
    none lawful = subst (λ (a : Trace). StateFits AreRows (record s { accepted = a })) (sym (append-nil s.accepted)) h

    more : (xs : List Event) (e : Event) → FitsWith s xs → FitsWith s (xs ++ e ∷ [])
    more xs e before lawful =
        let parts = lawful_parts s.limit s.accepted xs e lawful in
        let longer : with_events s (xs ++ e ∷ []) ≡ with_event (with_events s xs) e =
        ap (λ (a : Trace). record s { accepted = a }) (sym (append_assoc s.accepted xs (e ∷ []))) in
        step_fits AreRows (with_events s xs) (with_events s (xs ++ e ∷ [])) (Accept (e ∷ [])) (one_takes AreRows (with_events s xs) (with_events s (xs ++ e ∷ [])) e parts.1 longer) (before parts.0)

fits_called : (s : State) (r : Request) → StateFits AreRows s → StateFits AreRows (step report_printer s r).1
fits_called s (Offer e) h = offered (refusal_of s.limit s.accepted e) refl
  where
    offered : (o : Option Refusal) → refusal_of s.limit s.accepted e ≡ o → StateFits AreRows (offer s e).1
    offered None is = step_fits AreRows s (offer s e).1 (Accept (e ∷ [])) ((machine_steps AreRows).offers s e is) h
    offered (Some r) is = subst (StateFits AreRows) (sym (ap (offer_next s e) is)) h
fits_called s (Ask bound) h = asked (ask_refused s bound) refl
  where
    asked : (o : Option Refusal) → ask_refused s bound ≡ o → StateFits AreRows (ask s bound).1
    asked None is = step_fits AreRows s (ask s bound).1 (Open bound (length (dependencies s.accepted))) ((machine_steps AreRows).asks s bound is) h
    asked (Some r) is = subst (StateFits AreRows) (sym (ap (ask_next s bound) is)) h
fits_called s (Answer number) h = h
fits_called s (Status number) h = h
fits_called s (Batch events) h = events_fit s (take (taken_of s.limit s.accepted events).0 events) h (is_longest s.limit s.accepted events).lawful

-- a finding whose rows are exact if it is taken
pub fits_brought : (s : State) (f : RowsOfTask) (d : DeliveryResult) → (delivery s f).0 ≡ outcome d → OnOk d (AreRowsOf f.events f.bound f.task f.rows) → StateFits AreRows s → StateFits AreRows (delivery s f).1
fits_brought s f (Ok u) is exact h =
    let rows = findings_rows f in
    let few : length rows ≤ MAX_CYCLES = omega (arith, length-map f.rows (λ p. p.row), exact.few) in
    step_fits AreRows s (delivery s f).1 (Deliver f.question f.task (length rows) (count_by is_confirmed rows)) ((machine_steps AreRows).delivers s f.question f.bound f.events f.task rows is exact.exact few) h
fits_brought s f (Err (r, back)) is exact h = subst (StateFits AreRows) (sym (ap (deliver_next s f.question f.task (findings_rows f)) is)) h

-- ---- at every time

pub always_called : (s : State) (session : ℕ) (requests : List Request) → StateFits AreRows s → IsAlwaysExact s (called session requests)
always_called s session requests h zero = h
always_called s session [] h (suc n) = h
always_called s session (r ∷ requests) h (suc n) = always_called (step report_printer s r).1 session requests (fits_called s r h) n

pub always_brought : (s : State) (f : RowsOfTask) → StateFits AreRows s → StateFits AreRows (delivery s f).1 → IsAlwaysExact s (brings f ∷ [])
always_brought s f h g zero = h
always_brought s f h g (suc zero) = g
always_brought s f h g (suc (suc n)) = g

pub always_nothing : (s : State) → StateFits AreRows s → IsAlwaysExact s []
always_nothing s h zero = h
always_nothing s h (suc n) = h

pub always_append : (s : State) (xs ys : List Action) → IsAlwaysExact s xs → IsAlwaysExact (state_after s xs) ys → IsAlwaysExact s (xs ++ ys)
always_append s xs ys a b n = elim (cases_lt n (length xs)) [ inl lt ↦ before (omega (arith, lt)) | inr ge ↦ after ge ]
  where
    before : n ≤ length xs → StateFits AreRows (state_after s (take n (xs ++ ys)))
    before le = subst (λ (x : List Action). StateFits AreRows (state_after s x)) (sym (take-append-le n xs ys le)) (a n)

    after : length xs ≤ n → StateFits AreRows (state_after s (take n (xs ++ ys)))
    after ge =
        let m = n - length xs in
        let n_is : n ≡ length xs + m = omega (arith, ge) in
        let parts : take n (xs ++ ys) ≡ xs ++ take m ys = ap (λ (k : ℕ). take k (xs ++ ys)) n_is ∙ take-append-add xs ys m in
        subst (StateFits AreRows) (sym (ap (state_after s) parts ∙ after_append s xs (take m ys))) (b m)

pub always_last : (s : State) (xs : List Action) → IsAlwaysExact s xs → StateFits AreRows (state_after s xs)
always_last s xs a = subst (λ (x : List Action). StateFits AreRows (state_after s x)) (take-length xs) (a (length xs))

-- ---- what reports tell

leads_by : (s : Trace) → IsWellFormed s → (bound : ℕ) (numbers : List ℕ) (found : Option Evidence) → IsCycle (dependencies s) bound numbers → IsRow s (record { cycle = numbers; found = found }) → LeadsToDeadlock s (record { cycle = numbers; found = found })
leads_by s w bound numbers None c r = tt
leads_by s w bound numbers (Some f) c r = (r.1.reorders, r.1.reaches, reached_deadlocks s w bound numbers f.places f.witness c r.0.is_instance r.1.reorders r.1.reaches)

rows_lead : (s : Trace) → IsWellFormed s → (bound root : ℕ) (rows : List Row) → AreRows s bound root rows → All (LeadsToDeadlock s) rows
rows_lead s w bound root rows a k d l =
    let row = get_or rows k d in
    let lists = map (λ (r : Row). r.cycle) rows in
    let within : k < length lists = omega (arith, l, length-map rows (λ (r : Row). r.cycle)) in
    let listed : Contains lists row.cycle = (k, within, get_or-map (λ (r : Row). r.cycle) rows k d row.cycle l) in
    leads_by s w bound row.cycle row.found ((a.cycles.exact row.cycle).0 listed).0 (a.exact k d l)

tasks_lead : (s : Trace) (tasks : List (Option (List Row))) → ((task : ℕ) (rows : List Row) → slice_get tasks task ≡ Some (Some rows) → All (LeadsToDeadlock s) rows) → All (LeadsToDeadlock s) (flat_map rows_of tasks)
tasks_lead s [] h = All-nil (LeadsToDeadlock s)
tasks_lead s (None ∷ tasks) h = tasks_lead s tasks (λ task rows e. h (suc task) rows e)
tasks_lead s (Some rows ∷ tasks) h = All-append (LeadsToDeadlock s) rows (flat_map rows_of tasks) (h zero rows refl) (tasks_lead s tasks (λ task r e. h (suc task) r e))

pub fits_tells : (s : State) → StateFits AreRows s → TellsDeadlocks s
fits_tells s h number q at =
    let f = h.each number q at in
    tasks_lead (take q.length s.accepted) q.tasks (λ task rows e. rows_lead (take q.length s.accepted) (well_formed_take s.accepted q.length h.well_formed) q.bound task rows (f.delivered_rows task rows e).0)

-- for a run from the initial state
pub opened_tells : (start : State) (limit : ℕ) (xs : List Action) → start ≡ opening limit → limit ≤ MAX_EVENTS → (StateFits AreRows start → IsAlwaysExact start xs) → AlwaysTellsDeadlocks (opening limit) xs
opened_tells start limit xs is within h n =
    let fits : StateFits AreRows start = subst (StateFits AreRows) (sym is) (opening_fits AreRows limit within) in
    let exact : IsAlwaysExact (opening limit) xs = subst (λ (s : State). IsAlwaysExact s xs) is (h fits) in
    fits_tells (state_after (opening limit) (take n xs)) (exact n)
