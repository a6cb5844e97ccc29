-- The potential rows of a task.
use Rattle.std.proofs.Common.{◌≡◌, ℕ, ◌<◌, List, [], ◌∷◌, ◌++◌, length, get_or, map, slice_get, refl, sym, ap, subst, ◌∙◌, Option, None, Some, MatchOption, arith, length-append, ⊎_elim}
use Rattle.std.specs.Prelude.{option_to_list}
use Rattle.std.specs.List.{Contains, flat_map}
use Rattle.std.proofs.Math.ListN.{get_or-map}
use Rattle.std.proofs.lemmas.Option.{none-some, slice_get_cases}
use Rattle.std.proofs.lemmas.List.Concat.{flat_map-cons}
use Rattle.std.proofs.lemmas.List.Elements.{Contains-append_right, Contains-get_or}
use Rattle.std.proofs.lemmas.List.{length-map}
use Rattle.trace_model.specs.Theory.Dependencies.{Dependency}
use Rattle.trace_model.specs.Theory.Trace.{Trace}
use Rattle.trace_model.specs.Theory.Cycles.{IsConfirmed}
use Rattle.trace_model.specs.Theory.Rows.{Evidence, Row, IsRow, IsLeastInstance, IsWitness}
use Rattle.trace_model.specs.Theory.Refutation.{IsRefutation}
use Rattle.trace_model.specs.declared.refutations.RefutationStep.{RefutationStep}
use Rattle.event_files.specs.Refutations.{refutation_text}
use Rattle.reports.specs.Text.{row_text}
use Rattle.reports.specs.Printed.{PrintedRow}
use Rattle.snapshots.specs.Found.{AreRowsOf}
use Rattle.commands.specs.Explain.{AddsRefutation, HasRefutation, IsExplanation, IsKnownRow, IsNamedRow}

pub not_confirmed : (s : Trace) (row : Row) → row.found ≡ None → IsRow s row → IsConfirmed s row.cycle → ⊥
not_confirmed s row none exact =
    subst (λ f. MatchOption f (IsConfirmed s row.cycle → ⊥) (λ found. IsLeastInstance s row.cycle found.places × IsWitness s found.places found.witness)) none exact

-- A row of a task is exact, with numbers of dependencies.
pub known_row : (s : Trace) (bound task : ℕ) (rows : List PrintedRow) (i : ℕ) (d : PrintedRow) → i < length rows → AreRowsOf s bound task rows →
    IsKnownRow s (get_or rows i d).row × IsNamedRow s (get_or rows i d)
known_row s bound task rows i d within are =
    let p = get_or rows i d in
    let row : PrintedRow → Row = λ q. q.row in
    let cycle : Row → List ℕ = λ r. r.cycle in
    let shown : get_or (map row rows) i d.row ≡ p.row = get_or-map row rows i d in
    let exact : IsRow s p.row = subst (IsRow s) shown (are.exact.exact i d.row (subst (λ n. i < n) (sym (length-map rows row)) within)) in
    let listed : Contains (map cycle (map row rows)) p.row.cycle =
    subst (λ c. Contains (map cycle (map row rows)) c) (get_or-map cycle (map row rows) i d.row ∙ ap cycle shown)
    (Contains-get_or (map cycle (map row rows)) i d.row.cycle (subst (λ n. i < n) (sym (length-map (map row rows) cycle ∙ length-map rows row)) within)) in
    let known = ((are.exact.cycles.exact p.row.cycle).0 listed).0.known in
    (record { exact = exact; known = known }, record { known = known; named = are.named i d within })

one_named : (ds : List Dependency) (m : ℕ) → m < length ds → length (option_to_list (slice_get ds m)) ≡ 1
one_named ds m within =
    ⊎_elim (λ h. ap (λ o. length (option_to_list o)) h.2) (λ h. absurd (omega (arith, h.0, within))) (slice_get_cases ds m).1

pub length_named : (ds : List Dependency) (numbers : List ℕ) → ((m : ℕ) → Contains numbers m → m < length ds) →
    length (flat_map (λ m. option_to_list (slice_get ds m)) numbers) ≡ length numbers
length_named ds [] known = refl
length_named ds (m ∷ ms) known =
    let f : ℕ → List Dependency = λ k. option_to_list (slice_get ds k) in
    let rest = length_named ds ms (λ k has. known k (Contains-append_right (m ∷ []) ms k has)) in
    let first = one_named ds m (known m (Contains-get_or (m ∷ ms) 0 0 (omega arith))) in
    ap length (flat_map-cons f m ms) ∙ omega (arith, length-append (f m) (flat_map f ms), first, rest)

-- ---- refutations

-- Where a refutation is given, the row is potential and it is one of the row's cycle.
pub given_refutation : (s : Trace) (row : Row) (o : Option (List RefutationStep)) (steps : List RefutationStep) → HasRefutation s row o → o ≡ Some steps → IsRefutation s row.cycle steps
given_refutation s row o steps has is = go row.found (subst (HasRefutation s row) is has)
  where
    go : (f : Option Evidence) → MatchOption f (IsRefutation s row.cycle steps) (λ found. Some steps ≡ None) → IsRefutation s row.cycle steps
    go None h = h
    go (Some found) h = absurd (none-some steps (sym h))

-- The text of a row, and after it the refutation, if one is given, explain the row.
pub explains_with : (s : Trace) (p : PrintedRow) (o : Option (List RefutationStep)) (text : List ℕ) → HasRefutation s p.row o →
    MatchOption o (text ≡ row_text p) (λ steps. text ≡ row_text p ++ refutation_text (map (λ d. d.thread) p.dependencies) steps) → IsExplanation s p text
explains_with s p o text = go p.row.found o
  where
    go : (f : Option Evidence) (o : Option (List RefutationStep)) → MatchOption f (MatchOption o ⊥ (IsRefutation s p.row.cycle)) (λ found. o ≡ None) →
        MatchOption o (text ≡ row_text p) (λ steps. text ≡ row_text p ++ refutation_text (map (λ d. d.thread) p.dependencies) steps) →
        MatchOption f (AddsRefutation s p (row_text p) text) (λ found. text ≡ row_text p)
    go None None has is = absurd has
    go None (Some steps) has is = (steps, has, is)
    go (Some found) None has is = is
    go (Some found) (Some steps) has is = absurd (none-some steps (sym has))
