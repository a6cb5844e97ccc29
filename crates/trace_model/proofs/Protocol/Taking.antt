-- How runs continue, and which steps the machine takes.
use Rattle.std.proofs.Common.{◌≡◌, ℕ, ◌≤◌, not, ◌==◌, List, [], ◌∷◌, ◌++◌, length, take, slice_get, Option, Some, None, refl, sym, ap, subst, ◌∙◌, arith}
use Rattle.std.proofs.lemmas.Bool.{eqb-true, not-false}
use Rattle.std.proofs.lemmas.List.{length-take}
use Rattle.std.proofs.lemmas.Option.{none-some, same_Some, slice_get_within}
use Rattle.std.specs.List.{count_by}
use Rattle.trace_model.specs.declared.traces.event.Event.{Event}
use Rattle.trace_model.specs.declared.limits.TheConstants.{MAX_CYCLES, MAX_EVENTS}
use Rattle.trace_model.specs.declared.refusal.Refusal.TheVariants.{NoSuchTask, NoSuchQuestion, Double, OtherBound, OtherTrace}
use Rattle.trace_model.specs.declared.messages.step.BoardStep.{BoardStep}
use Rattle.trace_model.specs.declared.messages.step.BoardStep.TheVariants.{Accept, Open, Deliver}
use Rattle.trace_model.specs.Theory.Trace.{Trace}
use Rattle.trace_model.specs.Theory.Lawful.{refusal_of}
use Rattle.trace_model.specs.Protocol.Batches.{IsBatch, taken_of}
use Rattle.trace_model.specs.Theory.Dependencies.{dependencies}
use Rattle.trace_model.specs.Theory.Rows.{Row, AreRows, AreSound}
use Rattle.trace_model.specs.Protocol.Machine.{Question, State, opening, is_confirmed, offer, offer_batch, offer_next, with_event, ask, ask_next, ask_refused, same_events, task_refused, deliver, deliver_next, deliver_refused, deliver_refused_by, with_rows, with_task, status_of, status}
use Rattle.trace_model.specs.Protocol.Runs.{Good, TakesStep, IsRun, IsLegal, Summary, QuestionCounts, ShowsState, shown_status_of, shown_status}
use Rattle.trace_model.specs.Protocol.RunLaws.{MachineSteps}
use Rattle.trace_model.proofs.Theory.Lawful.{passes}
use Rattle.trace_model.proofs.Protocol.Batches.{is_longest, lawful_one}
use Rattle.trace_model.proofs.Theory.OneMore.{lawful_higher}
use Rattle.trace_model.proofs.Protocol.Summary.{same_events_so}
use Rattle.trace_model.proofs.Theory.Unique.{rows_unique, rows_sound}
use Rattle.trace_model.proofs.Lists.{at_index}
use Rattle.trace_model.specs.declared.messages.session.Reply.TheVariants.{Status}

-- ---- runs

pub run_joins : (good : Good) (s mid last : State) (steps more : List BoardStep) → IsRun good s steps mid → IsRun good mid more last → IsRun good s (steps ++ more) last
run_joins good s mid last [] more is run = subst (λ x. IsRun good x more last) is run
run_joins good s mid last (step ∷ steps) more (next, takes, run) rest = (next, takes, run_joins good next mid last steps more run rest)

pub run_parts : (good : Good) (s last : State) (steps more : List BoardStep) → IsRun good s (steps ++ more) last →
    (mid : State) × IsRun good s steps mid × IsRun good mid more last
run_parts good s last [] more run = (s, refl, run)
run_parts good s last (step ∷ steps) more (next, takes, run) =
    let (mid, first, rest) = run_parts good next last steps more run in
    (mid, (next, takes, first), rest)

-- one step more
pub run_push : (good : Good) (s mid last : State) (steps : List BoardStep) (step : BoardStep) → IsRun good s steps mid → TakesStep good mid step last → IsRun good s (steps ++ step ∷ []) last
run_push good s mid last steps step run takes = run_joins good s mid last steps (step ∷ []) run (last, takes, refl)

-- ---- the machine

-- an event alone
pub one_takes : (good : Good) (s next : State) (e : Event) → refusal_of s.limit s.accepted e ≡ None → next ≡ with_event s e → TakesStep good s (Accept (e ∷ [])) next
one_takes good s next e h is = ((omega arith, omega arith), lawful_one s.limit s.accepted e h, is)

offer_takes : (good : Good) (s : State) (e : Event) → refusal_of s.limit s.accepted e ≡ None → TakesStep good s (Accept (e ∷ [])) (offer s e).1
offer_takes good s e h = one_takes good s (offer s e).1 e h (ap (offer_next s e) h)

ask_takes : (good : Good) (s : State) (bound : ℕ) → ask_refused s bound ≡ None → TakesStep good s (Open bound (length (dependencies s.accepted))) (ask s bound).1
ask_takes good s bound h = (h, refl, ap (ask_next s bound) h)

free_task : (o : Option (Option (List Row))) → task_refused o ≡ None → o ≡ Some None
free_task None h = absurd (none-some NoSuchTask (sym h))
free_task (Some None) h = refl
free_task (Some (Some rows)) h = absurd (none-some Double (sym h))

pub record Admits (s : State) (number bound : ℕ) (events : Trace) (task : ℕ) : Type 0 where
  pub question : Question
  pub known : slice_get s.questions number ≡ Some question
  pub same_bound : bound ≡ question.bound
  pub same_trace : events ≡ take question.length s.accepted
  pub missing : slice_get question.tasks task ≡ Some None

-- the facts that no refusal gives
pub admitted : (s : State) (number bound : ℕ) (events : Trace) (task : ℕ) → deliver_refused s number bound events task ≡ None → Admits s number bound events task
admitted s number bound events task h = go (slice_get s.questions number) refl h
  where
    go : (o : Option Question) → slice_get s.questions number ≡ o → deliver_refused_by s o bound events task ≡ None → Admits s number bound events task
    go None e k = absurd (none-some NoSuchQuestion (sym k))
    go (Some q) e k =
        let a = passes (not (bound == q.bound)) OtherBound _ k in
        let b = passes (not (same_events events (take q.length s.accepted))) OtherTrace _ a.1 in
        record {
          question = q;
          known = e;
          same_bound = eqb-true bound q.bound (not-false (bound == q.bound) a.0);
          same_trace = same_events_so events (take q.length s.accepted) (not-false (same_events events (take q.length s.accepted)) b.0);
          missing = free_task (slice_get q.tasks task) b.1;
        }

deliver_takes : (good : Good) (s : State) (number bound : ℕ) (events : Trace) (task : ℕ) (rows : List Row) →
    deliver_refused s number bound events task ≡ None → good events bound task rows → length rows ≤ MAX_CYCLES →
    TakesStep good s (Deliver number task (length rows) (count_by is_confirmed rows)) (deliver s number bound events task rows).1
deliver_takes good s number bound events task rows h ok few =
    let a = admitted s number bound events task h in (
      a.question,
      rows,
      a.known,
      a.missing,
      subst (λ k. good (take a.question.length s.accepted) k task rows) a.same_bound (subst (λ r. good r bound task rows) a.same_trace ok),
      few,
      refl,
      refl,
      ap (deliver_next s number task rows) h ∙ ap (λ o. with_rows s number o task rows) a.known,
    )

batch_takes : (good : Good) (s : State) (events : List Event) → IsBatch events → 1 ≤ (taken_of s.limit s.accepted events).0 →
    TakesStep good s (Accept (take (taken_of s.limit s.accepted events).0 events)) (offer_batch s events).1
batch_takes good s events (some, few) taken =
    let n = (taken_of s.limit s.accepted events).0 in
    ((omega (arith, length-take n events), omega (arith, length-take n events)), (is_longest s.limit s.accepted events).lawful, refl)

pub machine_steps : (good : Good) → MachineSteps good
machine_steps good = record { offers = offer_takes good; batches = batch_takes good; asks = ask_takes good; delivers = deliver_takes good }

-- ---- one state after a run

pub step_unique : (s a b : State) (step : BoardStep) → TakesStep AreRows s step a → TakesStep AreRows s step b → a ≡ b
step_unique s a b (Accept es) (some, h, p) (many, k, q) = p ∙ sym q
step_unique s a b (Open bound total) (h, i, p) (k, j, q) = p ∙ sym q
step_unique s a b (Deliver number task cycles confirmed) (q, rows, at, m, ok, few, c, f, is) (r, others, at', m', ok', few', c', f', is') =
    let same : q ≡ r = same_Some q r (sym at ∙ at') in
    let exact = subst (λ x. AreRows (take x.length s.accepted) x.bound task rows) same ok in
    let equal : rows ≡ others = rows_unique (take r.length s.accepted) r.bound task rows others exact ok' in
    is ∙ (λ i. with_task s number (same i) task (equal i)) ∙ sym is'

pub run_unique : (s a b : State) (steps : List BoardStep) → IsRun AreRows s steps a → IsRun AreRows s steps b → a ≡ b
run_unique s a b [] h k = h ∙ sym k
run_unique s a b (step ∷ steps) (m, t, r) (n, u, q) =
    let same : m ≡ n = step_unique s m n step t u in
    run_unique n a b steps (subst (λ x. IsRun AreRows x steps a) same r) q

-- ---- exact runs are sound

step_weaker : (good more : Good) → ((s : Trace) (bound task : ℕ) (rows : List Row) → good s bound task rows → more s bound task rows) →
    (s next : State) (step : BoardStep) → TakesStep good s step next → TakesStep more s step next
step_weaker good more f s next (Accept es) h = h
step_weaker good more f s next (Open bound total) h = h
step_weaker good more f s next (Deliver number task cycles confirmed) (q, rows, at, m, ok, few, c, k, is) =
    (q, rows, at, m, f (take q.length s.accepted) q.bound task rows ok, few, c, k, is)

pub run_weaker : (good more : Good) → ((s : Trace) (bound task : ℕ) (rows : List Row) → good s bound task rows → more s bound task rows) →
    (s last : State) (steps : List BoardStep) → IsRun good s steps last → IsRun more s steps last
run_weaker good more f s last [] is = is
run_weaker good more f s last (step ∷ steps) (mid, takes, run) = (mid, step_weaker good more f s mid step takes, run_weaker good more f mid last steps run)

pub run_sound : (s last : State) (steps : List BoardStep) → IsRun AreRows s steps last → IsRun AreSound s steps last
run_sound = run_weaker AreRows AreSound rows_sound

-- ---- a run of a lower limit

abbrev raised : ℕ → State → State
raised more s = record s { limit = more }

step_raised : (good : Good) (more : ℕ) (s next : State) (step : BoardStep) → s.limit ≤ more → TakesStep good s step next →
    TakesStep good (raised more s) step (raised more next) × (next.limit ≡ s.limit)
step_raised good more s next (Accept es) le (some, h, p) =
    ((some, (λ k e at. lawful_higher s.limit more (s.accepted ++ take k es) e le (h k e at)), ap (raised more) p), ap (λ x. x.limit) p)
step_raised good more s next (Open bound total) le (h, i, p) = ((h, i, ap (raised more) p), ap (λ x. x.limit) p)
step_raised good more s next (Deliver number task cycles confirmed) le (q, rows, at, m, ok, few, c, f, p) =
    ((q, rows, at, m, ok, few, c, f, ap (raised more) p), ap (λ x. x.limit) p)

run_raised : (good : Good) (more : ℕ) (s last : State) (steps : List BoardStep) → s.limit ≤ more → IsRun good s steps last →
    IsRun good (raised more s) steps (raised more last)
run_raised good more s last [] le is = ap (raised more) is
run_raised good more s last (step ∷ steps) le (mid, takes, run) =
    let (raises, same) = step_raised good more s mid step le takes in
    (raised more mid, raises, run_raised good more mid last steps (subst (λ n. n ≤ more) (sym same) le) run)

pub run_legal : (limit : ℕ) (last : State) (steps : List BoardStep) → limit ≤ MAX_EVENTS → IsRun AreRows (opening limit) steps last → IsLegal steps
run_legal limit last steps le run = (raised MAX_EVENTS last, run_raised AreRows MAX_EVENTS (opening limit) last steps le run)

-- ---- the status computed from the board

pub status_shown : (b : Summary) (s : State) (number : ℕ) → ShowsState b s → shown_status b number ≡ status s number
status_shown b s number (a, l, each) = go (slice_get b.questions number) refl (slice_get s.questions number) refl
  where
    go : (x : Option QuestionCounts) → slice_get b.questions number ≡ x → (y : Option Question) → slice_get s.questions number ≡ y →
        shown_status_of b number x ≡ status_of s number y
    go None e None f = refl
    go None e (Some q) f =
        let there = at_index b.questions number (omega (arith, slice_get_within s.questions number q f, l)) in
        absurd (none-some there.0 (sym e ∙ there.1))
    go (Some x) e None f =
        let there = at_index s.questions number (omega (arith, slice_get_within b.questions number x e, l)) in
        absurd (none-some there.0 (sym f ∙ there.1))
    go (Some x) e (Some q) f =
        let (e1, e2, e3, e4, e5, e6) = each number x q e f in
        λ i. Status (record {
          question = number;
          accepted = a i;
          opened = l i;
          length = e1 i;
          bound = e2 i;
          total = e3 i;
          delivered = e4 i;
          cycles = e5 i;
          confirmed = e6 i;
        })
