-- The events that a question covers never change.
use Rattle.std.proofs.Common.{◌≡◌, ℕ, ◌≤◌, ◌⊎◌, inl, inr, List, [], ◌∷◌, take, slice_get, slice_set, Some, refl, sym, ap, subst, ◌∙◌}
use Rattle.std.proofs.lemmas.Bool.{cases_eq}
use Rattle.std.proofs.lemmas.List.{take-append-le}
use Rattle.std.proofs.lemmas.Option.{same_Some}
use Rattle.trace_model.specs.declared.limits.TheConstants.{MAX_EVENTS}
use Rattle.trace_model.specs.declared.messages.step.BoardStep.{BoardStep}
use Rattle.trace_model.specs.declared.messages.step.BoardStep.TheVariants.{Accept, Open, Deliver}
use Rattle.trace_model.specs.Theory.Trace.{Trace}
use Rattle.trace_model.specs.Theory.Rows.{AreRows}
use Rattle.trace_model.specs.Protocol.Bounds.{StateFits}
use Rattle.trace_model.specs.Protocol.Machine.{Question, State, opening}
use Rattle.trace_model.specs.Protocol.Runs.{IsRun, TakesStep}
use Rattle.trace_model.proofs.Protocol.Bounds.{opening_fits, run_fits, step_fits}
use Rattle.trace_model.proofs.Lists.{get-push_kept, get-set_other, get-set_same}
use Rattle.trace_model.proofs.Protocol.Taking.{run_parts, run_unique}
use Rattle.sequencer.specs.Book.{AreEventsIfOpen}
use Rattle.desk.specs.Published.{After, Afterwards}
use Rattle.desk.specs.Questions.{IsAboutEvents}
use mathlib.Core.List.{IsPrefix}

step_keeps : (s next : State) (step : BoardStep) (number : ℕ) (events : Trace) → TakesStep AreRows s step next → StateFits AreRows s →
    IsAboutEvents s number events → IsAboutEvents next number events
step_keeps s next (Accept es) number events (some, lawful, is) fits (q, at, are) =
    let same = take-append-le q.length s.accepted es (fits.each number q at).within in
    subst (λ (x : State). IsAboutEvents x number events) (sym is) (q, at, are ∙ sym same)
step_keeps s next (Open bound total) number events (allowed, all, is) fits (q, at, are) =
    subst (λ (x : State). IsAboutEvents x number events) (sym is) (q, get-push_kept s.questions _ number q at, are)
step_keeps s next (Deliver other task cycles confirmed) number events (p, rows, there, missing, ok, few, c, f, is) fits (q, at, are) =
    let response : Question = record p { tasks = slice_set p.tasks task (Some rows) } in
    subst (λ (x : State). IsAboutEvents x number events) (sym is)
    (elim (cases_eq other number) [
      | inl same ↦
          let here : slice_get (slice_set s.questions other response) number ≡ Some response =
          subst (λ n. slice_get (slice_set s.questions other response) n ≡ Some response) same (get-set_same s.questions other p response there) in
          let is_q : p ≡ q = same_Some p q (sym there ∙ subst (λ n. slice_get s.questions n ≡ Some q) (sym same) at) in
          (response, here, are ∙ ap (λ (x : Question). take x.length s.accepted) (sym is_q))
      | inr apart ↦ (q, get-set_other s.questions other number response apart ∙ at, are)
    ])

run_keeps : (s last : State) (steps : List BoardStep) (number : ℕ) (events : Trace) → IsRun AreRows s steps last → StateFits AreRows s →
    IsAboutEvents s number events → IsAboutEvents last number events
run_keeps s last [] number events is fits are = subst (λ (x : State). IsAboutEvents x number events) (sym is) are
run_keeps s last (step ∷ steps) number events (mid, takes, run) fits are =
    run_keeps mid last steps number events run (step_fits AreRows s mid step takes fits) (step_keeps s mid step number events takes fits are)

-- a question covers the same events after a prefix of a run and after the run
begun_keeps : (limit : ℕ) (early late : List BoardStep) (s t : State) (number : ℕ) (events : Trace) → limit ≤ MAX_EVENTS → IsPrefix early late →
    After limit early s → After limit late t → IsAboutEvents s number events → IsAboutEvents t number events
begun_keeps limit early late s t number events allowed (rest, is) was now are =
    let (mid, first, more) = run_parts AreRows (opening limit) t early rest (subst (λ run. After limit run t) (sym is) now) in
    let same : s ≡ mid = run_unique (opening limit) s mid early was first in
    run_keeps s t rest number events (subst (λ (x : State). IsRun AreRows x rest t) (sym same) more)
    (run_fits AreRows (opening limit) s early was (opening_fits AreRows limit allowed)) are

one_list : (s : State) (number : ℕ) (events : Trace) → IsAboutEvents s number events → AreEventsIfOpen s number events
one_list s number events (p, there, are) q at = are ∙ ap (λ (x : Question). take x.length s.accepted) (same_Some p q (sym there ∙ at))

-- a question covers the same events after two runs of which one is a prefix of the other
pub known_of : (limit : ℕ) (response run both : List BoardStep) (s : State) (number : ℕ) (events : Trace) → limit ≤ MAX_EVENTS →
    IsPrefix response both → IsPrefix run both → (both ≡ response) ⊎ (both ≡ run) → After limit run s →
    Afterwards limit response (λ state. IsAboutEvents state number events) → AreEventsIfOpen s number events
known_of limit response run both s number events allowed tells runs (inl is) now (t, was, are) q at =
    let back = begun_keeps limit run response s t number (take q.length s.accepted) allowed (subst (IsPrefix run) is runs) now was (q, at, refl) in
    one_list t number events are back.0 back.1 ∙ sym back.2
known_of limit response run both s number events allowed tells runs (inr is) now (t, was, are) q at =
    one_list s number events (begun_keeps limit response run t s number events allowed (subst (IsPrefix response) is tells) was now are) q at
