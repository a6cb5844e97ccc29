-- The results collected from all tasks.
use Rattle.std.proofs.Common.{◌≡◌, ℕ, zero, suc, ◌+◌, ◌-◌, ◌^◌, List, [], ◌∷◌, length, slice_get, Some, true, ap, ◌∙◌, Result, Ok, Err, MatchResult, refl, subst, arith}
use Rattle.std.specs.Global.{Vec}
use Rattle.std.specs.List.{AllZip}
use Rattle.std.proofs.lemmas.List.Elements.{All-cons}
use Rattle.std.proofs.lemmas.Option.{none-some, same_Some}
use Rattle.trace_model.specs.Theory.Trace.{Trace}
use Rattle.reports.specs.Printed.{PrintedRow}
use Rattle.offline_report.specs.Gathering.{AreGathered}
use Rattle.offline_report.specs.Offline.{AreComputed, AreInPart, AreWhole, IsNotComputed, IsPartOf, IsTaskWithin}
use Rattle.offline_report.specs.Parts.{PartView}
use Rattle.offline_report.specs.declared.refused.OfflineRefused.{OfflineRefused}

module _ (s : Trace) (bound limit : ℕ) where
  -- The parts of the tasks from `k` on.
  abbrev ArePartsFrom : ℕ → List PartView → Type 0
  ArePartsFrom k parts = (i : ℕ) (part : PartView) → slice_get parts i ≡ Some part → IsTaskWithin s bound limit (k + i) (Ok part)

  later_parts : (k : ℕ) (p : PartView) (parts : List PartView) → ArePartsFrom k (p ∷ parts) → ArePartsFrom (suc k) parts
  later_parts k p parts h i part got =
      let next : k + suc i ≡ suc k + i = omega arith in
      subst (λ j. IsTaskWithin s bound limit j (Ok part)) next (h (suc i) part got)

  -- The rows of the parts.
  abbrev rows_of_parts : (k : ℕ) (parts : List PartView) → ArePartsFrom k parts → List (List PrintedRow)
  rows_of_parts k [] h = []
  rows_of_parts k (p ∷ parts) h = (h 0 p refl).0.0 ∷ rows_of_parts (suc k) parts (later_parts k p parts h)

  length_of_parts : (k : ℕ) (parts : List PartView) (h : ArePartsFrom k parts) → length (rows_of_parts k parts h) ≡ length parts
  length_of_parts k [] h = refl
  length_of_parts k (p ∷ parts) h = ap suc (length_of_parts (suc k) parts (later_parts k p parts h))

  all_parts : (k : ℕ) (parts : List PartView) (h : ArePartsFrom k parts) → AllZip IsPartOf (rows_of_parts k parts h) parts
  all_parts k [] h = tt
  all_parts k (p ∷ parts) h = ((h 0 p refl).0.2, all_parts (suc k) parts (later_parts k p parts h))

  each_part : (k : ℕ) (parts : List PartView) (h : ArePartsFrom k parts) (i : ℕ) (rows : List PrintedRow) → slice_get (rows_of_parts k parts h) i ≡ Some rows →
      (part : PartView) × (slice_get parts i ≡ Some part) × AreInPart s bound (k + i) rows part
  each_part k [] h i rows is = absurd (none-some rows is)
  each_part k (p ∷ parts) h zero rows is = (p, refl, subst (λ rows. AreInPart s bound (k + 0) rows p) (same_Some (h 0 p refl).0.0 rows is) (h 0 p refl).0.1)
  each_part k (p ∷ parts) h (suc i) rows is =
      let (part, there, are) = each_part (suc k) parts (later_parts k p parts h) i rows is in
      let next : suc k + i ≡ k + suc i = omega arith in
      (part, there, subst (λ j. AreInPart s bound j rows part) next are)

  whole_parts : limit ≡ 2 ^ 64 - 1 → (k : ℕ) (parts : List PartView) → ArePartsFrom k parts → AreWhole parts
  whole_parts e k [] h = λ i d l. absurd (omega (arith, l))
  whole_parts e k (p ∷ parts) h = All-cons (λ part. part.is_whole ≡ true) p parts ((h 0 p refl).1 e) (whole_parts e (suc k) parts (later_parts k p parts h))

  -- The parts of all tasks in their order, or the error of one of them.
  pub collected : (n : ℕ) (v : Result (Vec PartView) OfflineRefused) → AreGathered (IsTaskWithin s bound limit) n v
      → MatchResult v (λ c. ((tasks : List (List PrintedRow)) × AreComputed s bound n tasks c.items) × (limit ≡ 2 ^ 64 - 1 → AreWhole c.items)) IsNotComputed
  collected n (Ok c) h =
      let are : ArePartsFrom 0 c.items = λ i part got.
      let same : i ≡ 0 + i = omega arith in
      subst (λ j. IsTaskWithin s bound limit j (Ok part)) same (h.1 i part got)
      in
      let tasks = rows_of_parts 0 c.items are in (
        (
          tasks,
          record {
            total = length_of_parts 0 c.items are ∙ h.0;
            each = λ task rows got.
                let (part, there, is) = each_part 0 c.items are task rows got in
                let same : 0 + task ≡ task = omega arith in
                (part, there, subst (λ j. AreInPart s bound j rows part) same is);
            written = all_parts 0 c.items are;
          },
        ),
        λ e. whole_parts e 0 c.items are,
      )
  collected n (Err e) h = h.2.0
