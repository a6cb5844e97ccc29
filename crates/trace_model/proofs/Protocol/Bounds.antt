-- A run keeps its state within the limits.
use Rattle.std.proofs.Common.{◌≡◌, ℕ, zero, suc, ◌*◌, ◌≤◌, inl, inr, Bool, true, false, cond, leb, ltb, ◌||◌, List, [], ◌∷◌, ◌++◌, length, take, replicate, slice_get, slice_set, is_some, Option, Some, None, refl, sym, ap, subst, ◌∙◌, arith, length-append, length-set}
use Rattle.std.proofs.lemmas.Bool.{or_parts, leb-false, ltb-false, cases_eq}
use Rattle.std.proofs.lemmas.List.{length-replicate, length-take, take-append-le}
use Rattle.std.proofs.lemmas.List.Sums.{sum_by-cons, sum_by-le-sum_by, count_by-le-length}
use Rattle.std.proofs.Math.Seq.{take-length}
use Rattle.std.proofs.lemmas.Option.{none-some, same_Some, slice_get_within}
use Rattle.std.specs.List.{list_any, count_by, sum_by}
use Rattle.trace_model.specs.declared.limits.TheConstants.{MAX_EVENTS, MAX_QUESTIONS, MAX_CYCLES, MIN_BOUND, MAX_BOUND}
use Rattle.trace_model.specs.declared.refusal.Refusal.TheVariants.{BadBound, TooManyQuestions}
use Rattle.trace_model.specs.declared.messages.step.BoardStep.{BoardStep}
use Rattle.trace_model.specs.declared.messages.step.BoardStep.TheVariants.{Accept, Open, Deliver}
use Rattle.trace_model.specs.Theory.Trace.{Trace}
use Rattle.trace_model.specs.Theory.Dependencies.{Dependency, dependency_at, same_dependency, with_new, dependencies_below, dependencies}
use Rattle.trace_model.specs.Theory.Rows.{Row}
use Rattle.trace_model.specs.Protocol.Machine.{Question, State, opening, is_confirmed, rows_of}
use Rattle.trace_model.specs.Protocol.Runs.{Good, TakesStep, IsRun, QuestionCounts, Summary, summary, ShowsState}
use Rattle.trace_model.specs.Protocol.Bounds.{QuestionFits, StateFits, ShownFits, RunFits}
use Rattle.trace_model.proofs.Theory.Lawful.{passes}
use Rattle.trace_model.proofs.Theory.Growing.{well_formed_nil}
use Rattle.trace_model.proofs.Protocol.Batches.{well_formed_more}
use Rattle.trace_model.proofs.Protocol.Summary.{summary_is_state}
use Rattle.trace_model.proofs.Lists.{at_index, get-push, get-set_other, get-set_same, length-push}

-- ---- no more dependencies than events

with_new_length : (ds : List Dependency) (o : Option Dependency) → length (with_new ds o) ≤ suc (length ds)
with_new_length ds None = omega arith
with_new_length ds (Some d) = go (list_any (same_dependency d) ds)
  where
    go : (b : Bool) → length (cond b ds (ds ++ d ∷ [])) ≤ suc (length ds)
    go true = omega arith
    go false = omega (arith, length-append ds (d ∷ []))

pub dependencies_few : (s : Trace) (n : ℕ) → length (dependencies_below s n) ≤ n
dependencies_few s zero = omega arith
dependencies_few s (suc n) = omega (arith, dependencies_few s n, with_new_length (dependencies_below s n) (dependency_at s n))

-- ---- one step

no_rows : (n task : ℕ) (rows : List Row) → slice_get (replicate n None) task ≡ Some (Some rows) → ⊥
no_rows zero task rows h = none-some (Some rows) h
no_rows (suc n) zero rows h = none-some rows (same_Some None (Some rows) h)
no_rows (suc n) (suc task) rows h = no_rows n task rows h

fits_longer : (good : Good) (s more : Trace) (q : Question) → QuestionFits good s q → QuestionFits good (s ++ more) q
fits_longer good s more q h =
    let same : take q.length (s ++ more) ≡ take q.length s = take-append-le q.length s more h.within in
    record {
      within = omega (arith, h.within, length-append s more);
      at_least = h.at_least;
      at_most = h.at_most;
      total = rw same h.total;
      delivered_rows = rw same h.delivered_rows;
    }

fits_delivered : (good : Good) (s : Trace) (q : Question) (task : ℕ) (rows : List Row) →
    good (take q.length s) q.bound task rows → length rows ≤ MAX_CYCLES → slice_get q.tasks task ≡ Some None →
    QuestionFits good s q → QuestionFits good s (record q { tasks = slice_set q.tasks task (Some rows) })
fits_delivered good s q task rows ok few missing h = record {
  within = h.within;
  at_least = h.at_least;
  at_most = h.at_most;
  total = length-set q.tasks task (Some rows) ∙ h.total;
  delivered_rows = λ k delivered_rows e. elim (cases_eq task k) [
    | inl same ↦
        let is : Some rows ≡ Some delivered_rows = same_Some (Some rows) (Some delivered_rows) (sym (get-set_same q.tasks task None (Some rows) missing) ∙ subst (λ z. slice_get (slice_set q.tasks task (Some rows)) z ≡ Some (Some delivered_rows)) (sym same) e) in
        subst (λ r. good (take q.length s) q.bound k r × (length r ≤ MAX_CYCLES)) (same_Some rows delivered_rows is)
        (subst (λ z. good (take q.length s) q.bound z rows × (length rows ≤ MAX_CYCLES)) same (ok, few))
    | inr other ↦ h.delivered_rows k delivered_rows (sym (get-set_other q.tasks task k (Some rows) other) ∙ e)
  ];
}

pub step_fits : (good : Good) (s next : State) (step : BoardStep) → TakesStep good s step next → StateFits good s → StateFits good next
step_fits good s next (Accept es) (some, lawful, is) h =
    let grown = well_formed_more s.limit s.accepted es h.limit h.within h.well_formed lawful in
    subst (StateFits good) (sym is) record {
      limit = h.limit;
      well_formed = grown.0;
      within = grown.1;
      few = h.few;
      each = λ k q at. fits_longer good s.accepted es q (h.each k q at);
    }
step_fits good s next (Open bound total) (allowed, all, is) h =
    let a = passes (ltb bound MIN_BOUND || ltb MAX_BOUND bound) BadBound _ allowed in
    let range = or_parts (ltb bound MIN_BOUND) (ltb MAX_BOUND bound) a.0 in
    let room = passes (leb MAX_QUESTIONS (length s.questions)) TooManyQuestions _ a.1 in
    let n = length (dependencies s.accepted) in
    let opened : Question = record { length = length s.accepted; bound = bound; tasks = replicate n None } in
    let fresh : QuestionFits good s.accepted opened = record {
      within = omega arith;
      at_least = ltb-false bound MIN_BOUND range.0;
      at_most = ltb-false MAX_BOUND bound range.1;
      total = length-replicate n None ∙ ap (λ r. length (dependencies r)) (sym (take-length s.accepted));
      delivered_rows = λ task rows e. absurd (no_rows n task rows e);
    } in
    subst (StateFits good) (sym is) record {
      limit = h.limit;
      well_formed = h.well_formed;
      within = h.within;
      few = omega (arith, length-push s.questions opened, leb-false MAX_QUESTIONS (length s.questions) room.0);
      each = λ k q at. elim (get-push s.questions opened k q at) [
        | inl old ↦ h.each k q old
        | inr new ↦ subst (QuestionFits good s.accepted) new.1 fresh
      ];
    }
step_fits good s next (Deliver number task cycles confirmed) (q, rows, at, missing, ok, few, c, f, is) h =
    let fresh : Question = record q { tasks = slice_set q.tasks task (Some rows) } in
    let delivered_rows : QuestionFits good s.accepted fresh = fits_delivered good s.accepted q task rows ok few missing (h.each number q at) in
    subst (StateFits good) (sym is) record {
      limit = h.limit;
      well_formed = h.well_formed;
      within = h.within;
      few = rw length-set h.few;
      each = λ k y hy. elim (cases_eq number k) [
        | inl same ↦
            let ey : fresh ≡ y = same_Some fresh y (sym (get-set_same s.questions number q fresh at) ∙ subst (λ z. slice_get (slice_set s.questions number fresh) z ≡ Some y) (sym same) hy) in
            subst (QuestionFits good s.accepted) ey delivered_rows
        | inr other ↦ h.each k y (sym (get-set_other s.questions number k fresh other) ∙ hy)
      ];
    }

pub run_fits : (good : Good) (s last : State) (steps : List BoardStep) → IsRun good s steps last → StateFits good s → StateFits good last
run_fits good s last [] is h = subst (StateFits good) (sym is) h
run_fits good s last (step ∷ steps) (mid, takes, run) h = run_fits good mid last steps run (step_fits good s mid step takes h)

pub opening_fits : (good : Good) (limit : ℕ) → limit ≤ MAX_EVENTS → StateFits good (opening limit)
opening_fits good limit le = record {
  limit = le;
  well_formed = well_formed_nil;
  within = omega arith;
  few = omega arith;
  each = λ k q at. absurd (none-some q at);
}

-- ---- the numbers that are shown

cycles_most : (tasks : List (Option (List Row))) → ((task : ℕ) (rows : List Row) → slice_get tasks task ≡ Some (Some rows) → length rows ≤ MAX_CYCLES) →
    sum_by (λ x. length (rows_of x)) tasks ≤ MAX_CYCLES * length tasks
cycles_most [] h = omega arith
cycles_most (None ∷ tasks) h =
    omega (arith, cycles_most tasks (λ task rows e. h (suc task) rows e), sum_by-cons (λ x. length (rows_of x)) None tasks)
cycles_most (Some rows ∷ tasks) h =
    omega (arith, h zero rows refl, cycles_most tasks (λ task r e. h (suc task) r e), sum_by-cons (λ x. length (rows_of x)) (Some rows) tasks)

shown_fits : (good : Good) (b : Summary) (s : State) → ShowsState b s → StateFits good s → (k : ℕ) (shown : QuestionCounts) → slice_get b.questions k ≡ Some shown → ShownFits b shown
shown_fits good b s (a, l, each) h k shown at =
    let there = at_index s.questions k (omega (arith, slice_get_within b.questions k shown at, l)) in
    let q = there.0 in
    let f = h.each k q there.1 in
    let (e1, e2, e3, e4, e5, e6) = each k shown q at there.1 in
    let fewer = dependencies_few (take q.length s.accepted) (length (take q.length s.accepted)) in
    let beginning = length-take q.length s.accepted in
    record {
      before = omega (arith, f.within, a, e1);
      at_least = rw e2 f.at_least;
      at_most = rw e2 f.at_most;
      total = omega (arith, e1, e3, f.total, f.within, fewer, beginning);
      delivered = omega (arith, e3, e4, count_by-le-length is_some q.tasks);
      cycles = omega (arith, e3, e5, cycles_most q.tasks (λ task rows e. (f.delivered_rows task rows e).1));
      confirmed = omega (arith, e5, e6, sum_by-le-sum_by (λ x. count_by is_confirmed (rows_of x)) (λ x. length (rows_of x)) q.tasks (λ x. count_by-le-length is_confirmed (rows_of x)));
    }

pub run_is_within : (good : Good) → RunFits good
run_is_within good limit steps last le run =
    let h = run_fits good (opening limit) last steps run (opening_fits good limit le) in
    let shows = summary_is_state good limit steps last run in (
      h,
      record {
        accepted = omega (arith, shows.0, h.within, h.limit);
        opened = omega (arith, shows.1, h.few);
        each = shown_fits good (summary steps) last shows h;
      },
    )
