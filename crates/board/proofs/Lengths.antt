-- A legal run has fewer than 2^62 steps.
use Rattle.std.proofs.Common.{◌≡◌, ℕ, suc, ◌+◌, ◌*◌, ◌^◌, ◌<◌, ◌≤◌, List, [], ◌∷◌, ◌++◌, length, Some, sym, ap, subst, ◌∙◌, length-append, arith}
use Rattle.std.specs.Prelude.{slice_get, slice_set, slice_index_or}
use Rattle.std.specs.List.{sum_by, All}
use Rattle.std.proofs.lemmas.List.{length-set}
use Rattle.std.proofs.lemmas.List.Elements.{All-from_get_or}
use Rattle.std.proofs.lemmas.List.Sums.{sum_by-set, sum_by-le, sum_by_push}
use Rattle.std.proofs.lemmas.Option.{slice_get_within, get_or_from_slice_get}
use Rattle.trace_model.specs.declared.messages.step.BoardStep.{BoardStep}
use Rattle.trace_model.specs.declared.messages.step.BoardStep.TheVariants.{Accept, Open, Deliver}
use Rattle.trace_model.specs.declared.limits.TheConstants.{MAX_EVENTS}
use Rattle.trace_model.specs.Theory.Rows.{AreRows}
use Rattle.trace_model.specs.Protocol.Machine.{opening}
use Rattle.trace_model.specs.Protocol.Runs as runs
use Rattle.trace_model.specs.Protocol.Runs.{QuestionCounts, add_delivery, count_step, summary, IsLegal}
use Rattle.trace_model.specs.Protocol.Bounds.{SummaryFits}
use Rattle.trace_model.proofs.Lists.{at_index, by_pushes, length-push}
use Rattle.trace_model.proofs.Protocol.Bounds.{run_is_within}
use Rattle.trace_model.proofs.Protocol.Taking.{run_parts}
use Rattle.board.proofs.Showing.{IsAbout, legal_counts, count_steps-push}

abbrev delivered_in : QuestionCounts → ℕ
delivered_in q = q.delivered

-- Accepted events, open questions and delivered tasks: each step adds at least one of them.
abbrev weight : runs.Summary → ℕ
weight b = b.accepted + length b.questions + sum_by delivered_in b.questions

heavier : (b : runs.Summary) (x : BoardStep) → IsAbout b x → suc (weight b) ≤ weight (count_step b x)
heavier b (Accept events) some = omega (arith, some)
heavier b (Open bound total) h =
    let fresh : QuestionCounts = record { before = b.accepted; bound = bound; total = total; delivered = 0; cycles = 0; confirmed = 0 } in
    omega (arith, length-append b.questions (fresh ∷ []), sum_by_push delivered_in b.questions fresh)
heavier b (Deliver number task cycles confirmed) (shown, at) =
    let delivered_question : QuestionCounts = record shown { delivered = shown.delivered + 1; cycles = shown.cycles + cycles; confirmed = shown.confirmed + confirmed } in
    let next : runs.Summary = record b { questions = slice_set b.questions number delivered_question } in
    let is : count_step b (Deliver number task cycles confirmed) ≡ next =
    ap (λ o. record b { questions = add_delivery b.questions o number cycles confirmed }) at in
    let low : number < length b.questions = slice_get_within b.questions number shown at in
    let known : slice_index_or b.questions number shown ≡ shown = get_or_from_slice_get b.questions number shown shown at in
    let sum = sum_by-set delivered_in b.questions number delivered_question shown low in
    subst (λ n. suc (weight b) ≤ n) (sym (ap weight is)) (omega (arith, sum, ap delivered_in known, length-set b.questions number delivered_question))

counted : (run : List BoardStep) → IsLegal run → length run ≤ weight (summary run)
counted run = by_pushes (λ s. IsLegal s → length s ≤ weight (summary s)) (λ h. omega arith) step run
  where
    step : (s : List BoardStep) (x : BoardStep) → (IsLegal s → length s ≤ weight (summary s)) → IsLegal (s ++ x ∷ []) → length (s ++ x ∷ []) ≤ weight (summary (s ++ x ∷ []))
    step s x before (last, is) =
        let parts = run_parts AreRows (opening MAX_EVENTS) last s (x ∷ []) is in
        let shorter = before (parts.0, parts.1) in
        let more = heavier (summary s) x (legal_counts s x (last, is)).1 in
        let same : weight (summary (s ++ x ∷ [])) ≡ weight (count_step (summary s) x) = ap weight (count_steps-push _ s x) in
        omega (arith, shorter, more, same, length-push s x)

few_delivered : (b : runs.Summary) → SummaryFits b → sum_by delivered_in b.questions ≤ length b.questions * MAX_EVENTS
few_delivered b fits = sum_by-le delivered_in MAX_EVENTS b.questions (All-from_get_or (λ q. delivered_in q ≤ MAX_EVENTS) b.questions default each)
  where
    default : QuestionCounts
    default = record { before = 0; bound = 0; total = 0; delivered = 0; cycles = 0; confirmed = 0 }

    each : (i : ℕ) → i < length b.questions → delivered_in (slice_index_or b.questions i default) ≤ MAX_EVENTS
    each i low =
        let there = at_index b.questions i low in
        let f = fits.each i there.0 there.1 in
        let same = get_or_from_slice_get b.questions i there.0 default there.1 in
        omega (arith, ap delivered_in same, f.delivered, f.total, f.before, fits.accepted)

pub legal_is_short : (run : List BoardStep) → IsLegal run → length run < 2 ^ 62
legal_is_short run (last, is) =
    let fits = (run_is_within AreRows MAX_EVENTS run last (omega arith) is).1 in
    omega (arith, counted run (last, is), fits.accepted, fits.opened, few_delivered (summary run) fits)
