-- Delivering tasks one after the other.
use Rattle.std.proofs.Common.{◌≡◌, ℕ, ◌+◌, ◌<◌, ◌≤◌, List, true, cond, not, ◌==◌, Some, None, length, slice_get, slice_set, take, is_some, inl, refl, sym, ap, subst, ◌∙◌, arith}
use Rattle.std.specs.List.{count_by}
use Rattle.std.proofs.lemmas.Bool.{eq-eqb}
use Rattle.std.proofs.lemmas.List.Sums.{count_by-le-length}
use Rattle.std.proofs.lemmas.Option.{same_Some}
use Rattle.trace_model.specs.declared.limits.TheConstants.{MAX_CYCLES, MAX_EVENTS}
use Rattle.trace_model.specs.declared.refusal.Refusal.{Refusal}
use Rattle.trace_model.specs.declared.refusal.Refusal.TheVariants.{OtherBound, OtherTrace}
use Rattle.trace_model.specs.declared.messages.step.BoardStep.TheVariants as steps
use Rattle.trace_model.specs.Theory.Trace.{Trace}
use Rattle.trace_model.specs.Theory.Rows.{Row, AreRows}
use Rattle.trace_model.specs.Protocol.Machine.{Question, State, deliver, deliver_next, deliver_refused_by, is_confirmed, same_events, task_refused, with_task}
use Rattle.trace_model.specs.Protocol.Runs.{TakesStep}
use Rattle.trace_model.specs.Protocol.Bounds.{StateFits}
use Rattle.std.proofs.lemmas.List.{length-take}
use Rattle.trace_model.proofs.Lists.{get-set_same}
use Rattle.trace_model.proofs.Protocol.Bounds.{dependencies_few}
use Rattle.trace_model.proofs.Protocol.Summary.{same_events_itself, sum_delivered}
use Rattle.trace_model.proofs.Protocol.Taking.{machine_steps}
use Rattle.findings.specs.Found.{AskedQuestion}
use Rattle.commands.specs.ScriptRun.{DeliversTask, IsJobIn, RefusesTask}

-- a delivery that the machine takes
pub delivers : (s next : State) (number bound : ℕ) (events : Trace) (task : ℕ) (rows : List Row) → deliver s number bound events task rows ≡ (None, next) → AreRows events bound task rows →
    length rows ≤ MAX_CYCLES → DeliversTask s number task next
delivers s next number bound events task rows is exact few = (
  length rows,
  count_by is_confirmed rows,
  subst (TakesStep AreRows s (steps.Deliver number task (length rows) (count_by is_confirmed rows))) (ap (λ r. r.1) is)
      ((machine_steps AreRows).delivers s number bound events task rows (ap (λ r. r.0) is) exact few),
)

refused_by : (s : State) (q : Question) (bound : ℕ) (events : Trace) (task : ℕ) → bound ≡ q.bound → events ≡ take q.length s.accepted →
    deliver_refused_by s (Some q) bound events task ≡ task_refused (slice_get q.tasks task)
refused_by s q bound events task same known =
    let bounds : (bound == q.bound) ≡ true = eq-eqb bound q.bound same in
    let traces : same_events events (take q.length s.accepted) ≡ true = ap (same_events events) (sym known) ∙ same_events_itself events in
    (λ i. cond (not (bounds i)) (Some OtherBound) (cond (not (traces i)) (Some OtherTrace) (task_refused (slice_get q.tasks task))))

-- a delivery that the machine refuses
pub is_refused : (s next : State) (number bound : ℕ) (events : Trace) (task : ℕ) (rows : List Row) (r : Refusal) (job : AskedQuestion) → IsJobIn s job → number ≡ job.question → bound ≡ job.bound →
    events ≡ job.events → deliver s number bound events task rows ≡ (Some r, next) → (next ≡ s) × RefusesTask s job.question task r
is_refused s next number bound events task rows r job about same_number same_bound same_events is =
    let q = about.0 in
    let at : slice_get s.questions number ≡ Some q = ap (slice_get s.questions) same_number ∙ about.1 in
    let by : deliver_refused_by s (slice_get s.questions number) bound events task ≡ Some r = ap (λ x. x.0) is in
    let outcome : task_refused (slice_get q.tasks task) ≡ Some r =
    sym (refused_by s q bound events task (same_bound ∙ about.2) (same_events ∙ about.3)) ∙ (ap (λ o. deliver_refused_by s o bound events task) (sym at) ∙ by) in
    (sym (ap (λ x. x.1) is) ∙ ap (deliver_next s number task rows) by, (q, about.1, inl outcome))

-- the job remains about its question
pub remains : (s next : State) (task : ℕ) (job : AskedQuestion) → IsJobIn s job → DeliversTask s job.question task next → IsJobIn next job
remains s next task job about gave =
    let takes = gave.2 in
    let q = takes.0 in
    let outcome : Question = record q { tasks = slice_set q.tasks task (Some takes.1) } in
    let same : about.0 ≡ q = same_Some _ _ (sym about.1 ∙ takes.2) in
    let at : slice_get (with_task s job.question q task takes.1).questions job.question ≡ Some outcome = get-set_same s.questions job.question q outcome takes.2 in
    subst (λ (x : State). IsJobIn x job) (sym takes.8) (outcome, at, about.2 ∙ ap (λ (x : Question). x.bound) same, about.3 ∙ ap (λ (x : Question). take x.length s.accepted) same)

-- how many tasks of the question are delivered
abbrev pub HasDelivered : State → ℕ → ℕ → Type 0
HasDelivered s number n = (q : Question) → slice_get s.questions number ≡ Some q → n ≤ count_by is_some q.tasks

-- one task more
pub tells_more : (s next : State) (number task n : ℕ) → HasDelivered s number n → DeliversTask s number task next → HasDelivered next number (n + 1)
tells_more s next number task n outcome gave = λ q at.
    let takes = gave.2 in
    let old = takes.0 in
    let new : Question = record old { tasks = slice_set old.tasks task (Some takes.1) } in
    let there : slice_get next.questions number ≡ Some new = ap (λ (x : State). slice_get x.questions number) takes.8 ∙ get-set_same s.questions number old new takes.2 in
    let same : new ≡ q = same_Some _ _ (sym there ∙ at) in
    let count : count_by is_some new.tasks ≡ count_by is_some old.tasks + 1 = sum_delivered (λ x. cond (is_some x) 1 0) old.tasks task takes.1 refl takes.3 in
    subst (λ (x : Question). n + 1 ≤ count_by is_some x.tasks) same (omega (arith, count, outcome old takes.2))

-- a question has at most as many tasks as a trace has places
pub none_beyond : (s : State) (number n : ℕ) → StateFits AreRows s → MAX_EVENTS < n → HasDelivered s number n → (q : Question) × (slice_get s.questions number ≡ Some q) → ⊥
none_beyond s number n fits beyond outcome there =
    let q = there.0 in
    let each = fits.each number q there.1 in
    let few = dependencies_few (take q.length s.accepted) (length (take q.length s.accepted)) in
    let cut = length-take q.length s.accepted in
    omega (arith, each.total, each.within, fits.within, fits.limit, few, cut, outcome q there.1, count_by-le-length is_some q.tasks, beyond)
