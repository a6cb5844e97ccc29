-- The summary of a run is that of the state after it.
use Rattle.std.proofs.Common.{◌≡◌, ℕ, ◌+◌, inl, inr, true, cond, ◌==◌, ◌&&◌, List, [], ◌∷◌, length, get_or, replicate, slice_get, slice_set, is_some, Option, Some, None, refl, sym, ap, subst, ◌∙◌, arith, length-append, length-set}
use Rattle.std.proofs.lemmas.List.{length-replicate}
use Rattle.std.proofs.lemmas.Bool.{eqb-true, eq-eqb, false≢true, and_parts, and_from, cases_eq}
use Rattle.std.proofs.lemmas.List.Folds.{sum_by-replicate}
use Rattle.std.proofs.lemmas.List.Sums.{sum_by-set}
use Rattle.std.proofs.lemmas.Option.{none-some, same_Some, slice_get_within, get_or_from_slice_get}
use Rattle.std.specs.List.{count_by, sum_by}
use Rattle.trace_model.specs.Theory.Trace.{Trace, event, op_eq}
use Rattle.trace_model.specs.declared.messages.step.BoardStep.{BoardStep}
use Rattle.trace_model.specs.declared.messages.step.BoardStep.TheVariants.{Accept, Open, Deliver}
use Rattle.trace_model.specs.Theory.Dependencies.{dependencies}
use Rattle.trace_model.specs.Theory.Rows.{Row}
use Rattle.trace_model.specs.Protocol.Machine.{Question, State, opening, is_confirmed, rows_of, same_events}
use Rattle.trace_model.specs.Protocol.Runs.{Good, TakesStep, IsRun, QuestionCounts, Summary, count_step, count_steps, ShowsQuestion, ShowsState, SummaryIsState}
use Rattle.trace_model.proofs.Theory.Places.{op_eq_same, op_eq_itself}
use Rattle.trace_model.proofs.Lists.{at_index, get-push, get-set_other, get-set_same}

-- a sum over the tasks when a missing one is delivered
pub sum_delivered : (f : Option (List Row) → ℕ) (tasks : List (Option (List Row))) (task : ℕ) (rows : List Row) → f None ≡ 0 →
    slice_get tasks task ≡ Some None → sum_by f (slice_set tasks task (Some rows)) ≡ sum_by f tasks + f (Some rows)
sum_delivered f tasks task rows zero_at h =
    let e = sum_by-set f tasks task (Some rows) None (slice_get_within tasks task None h) in
    let n : f (get_or tasks task None) ≡ 0 = ap f (get_or_from_slice_get tasks task None None h) ∙ zero_at in
    omega (arith, e, n)

pub shows_delivered : (shown : QuestionCounts) (q : Question) (task : ℕ) (rows : List Row) → slice_get q.tasks task ≡ Some None → ShowsQuestion shown q →
    ShowsQuestion (record shown { delivered = shown.delivered + 1; cycles = shown.cycles + length rows; confirmed = shown.confirmed + count_by is_confirmed rows })
    (record q { tasks = slice_set q.tasks task (Some rows) })
shows_delivered shown q task rows h (a, b, c, d, e, f) = (
  a,
  b,
  rw length-set c,
  ap (λ x. x + 1) d ∙ sym (sum_delivered (λ x. cond (is_some x) 1 0) q.tasks task rows refl h),
  ap (λ x. x + length rows) e ∙ sym (sum_delivered (λ x. length (rows_of x)) q.tasks task rows refl h),
  ap (λ x. x + count_by is_confirmed rows) f ∙ sym (sum_delivered (λ x. count_by is_confirmed (rows_of x)) q.tasks task rows refl h),
)

pub step_shows : (good : Good) (s next : State) (step : BoardStep) (b : Summary) → TakesStep good s step next → ShowsState b s → ShowsState (count_step b step) next
step_shows good s next (Accept es) b (some, lawful, is) (a, l, each) =
    subst (ShowsState (count_step b (Accept es))) (sym is) (rw length-append (ap (λ x. x + length es) a), l, each)
step_shows good s next (Open bound total) b (allowed, all, is) (a, l, each) =
    subst (ShowsState (count_step b (Open bound total))) (sym is) (
      a,
      length-append b.questions _ ∙ ap (λ x. x + 1) l ∙ sym (length-append s.questions _),
      λ k shown q x y. elim (get-push b.questions _ k shown x) [
        | inl i ↦ elim (get-push s.questions _ k q y) [
          | inl j ↦ each k shown q i j
          | inr j ↦ absurd (omega (arith, slice_get_within b.questions k shown i, j.0, l))
        ]
        | inr i ↦ elim (get-push s.questions _ k q y) [
          | inl j ↦ absurd (omega (arith, slice_get_within s.questions k q j, i.0, l))
          | inr j ↦ subst (λ z. ShowsQuestion z q) i.1 (subst (ShowsQuestion _) j.1 opened)
        ]
      ],
    )
  where
    n : ℕ
    n = length (dependencies s.accepted)

    opened : ShowsQuestion (record { before = b.accepted; bound = bound; total = total; delivered = 0; cycles = 0; confirmed = 0 })
        (record { length = length s.accepted; bound = bound; tasks = replicate n None })
    opened = (
      a,
      refl,
      all ∙ sym (length-replicate n None),
      sym (none_sum (λ x. cond (is_some x) 1 0) refl),
      sym (none_sum (λ x. length (rows_of x)) refl),
      sym (none_sum (λ x. count_by is_confirmed (rows_of x)) refl),
    )
      where
        none_sum : (f : Option (List Row) → ℕ) → f None ≡ 0 → sum_by f (replicate n None) ≡ 0
        none_sum f z = sum_by-replicate f n None ∙ (rw z (omega arith))
step_shows good s next (Deliver number task cycles confirmed) b (q, rows, at, missing, ok, few, c, f, is) (a, l, each) =
    let there = at_index b.questions number (omega (arith, slice_get_within s.questions number q at, l)) in
    let shown = there.0 in
    let delivered_question : QuestionCounts = record shown { delivered = shown.delivered + 1; cycles = shown.cycles + cycles; confirmed = shown.confirmed + confirmed } in
    let fresh : Question = record q { tasks = slice_set q.tasks task (Some rows) } in
    let shows : ShowsQuestion delivered_question fresh = rw (c, f) (shows_delivered shown q task rows missing (each number shown q there.1 at)) in
    subst (ShowsState (count_step b (Deliver number task cycles confirmed))) (sym is)
    (rw there.1 (
      a,
      length-set b.questions number delivered_question ∙ l ∙ sym (length-set s.questions number fresh),
      λ k x y hx hy. elim (cases_eq number k) [
        | inl same ↦
            let ex : delivered_question ≡ x = same_Some delivered_question x (sym (get-set_same b.questions number shown delivered_question there.1) ∙ subst (λ z. slice_get (slice_set b.questions number delivered_question) z ≡ Some x) (sym same) hx) in
            let ey : fresh ≡ y = same_Some fresh y (sym (get-set_same s.questions number q fresh at) ∙ subst (λ z. slice_get (slice_set s.questions number fresh) z ≡ Some y) (sym same) hy) in
            subst (λ z. ShowsQuestion z y) ex (subst (ShowsQuestion delivered_question) ey shows)
        | inr other ↦ each k x y (sym (get-set_other b.questions number k delivered_question other) ∙ hx) (sym (get-set_other s.questions number k fresh other) ∙ hy)
      ],
    ))

pub run_shows : (good : Good) (s last : State) (steps : List BoardStep) (b : Summary) → IsRun good s steps last → ShowsState b s → ShowsState (count_steps b steps) last
run_shows good s last [] b is h = subst (ShowsState b) (sym is) h
run_shows good s last (step ∷ steps) b (mid, takes, run) h =
    run_shows good mid last steps (count_step b step) run (step_shows good s mid step b takes h)

pub summary_is_state : (good : Good) → SummaryIsState good
summary_is_state good limit steps last run =
    run_shows good (opening limit) last steps (record { accepted = 0; questions = [] }) run
    (refl, refl, λ k shown q x y. absurd (none-some shown x))

-- equal traces
pub same_events_so : (s r : Trace) → same_events s r ≡ true → s ≡ r
same_events_so [] [] h = refl
same_events_so [] (b ∷ r) h = absurd (false≢true h)
same_events_so (a ∷ s) [] h = absurd (false≢true h)
same_events_so (a ∷ s) (b ∷ r) h =
    let k = and_parts ((a.thread == b.thread) && op_eq a.op b.op) (same_events s r) h in
    let m = and_parts (a.thread == b.thread) (op_eq a.op b.op) k.0 in
    let t = eqb-true a.thread b.thread m.0 in
    let o = op_eq_same a.op b.op m.1 in
    let more = same_events_so s r k.1 in
    λ i. event (t i) (o i) ∷ more i

pub same_events_itself : (s : Trace) → same_events s s ≡ true
same_events_itself [] = refl
same_events_itself (a ∷ s) =
    and_from ((a.thread == a.thread) && op_eq a.op a.op) (same_events s s)
    (and_from (a.thread == a.thread) (op_eq a.op a.op) (eq-eqb a.thread a.thread refl) (op_eq_itself a.op)) (same_events_itself s)
