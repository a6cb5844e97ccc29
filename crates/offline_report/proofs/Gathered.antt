-- Results from several threads.
use Rattle.std.proofs.Common.{◌≡◌, ℕ, ◌⊎◌, inl, inr, List, [], ◌∷◌, map, slice_get, slice_set, Option, Some, Result, Ok, Err, IfOk, MatchResult, Contains, sym, subst, arith}
use Rattle.std.specs.Global.{Vec}
use Rattle.std.specs.List.{All, AllZip}
use Rattle.std.proofs.lemmas.List.Elements.{All-cons}
use Rattle.std.proofs.lemmas.Option.{same_Some}
use Rattle.trace_model.proofs.Theory.Refutation.{set_cases}
use Rattle.offline_report.specs.Gathering.{HoldGiven}
use Rattle.offline_report.specs.declared.refused.OfflineRefused.{OfflineRefused}

-- One more result is at its task.
pub hold_set : {Given : Type 0} (may_give : ℕ → Result Given OfflineRefused → Type 0) (slots : List (Option Given)) (task : ℕ) (given : Given) → HoldGiven may_give slots
    → may_give task (Ok given) → HoldGiven may_give (slice_set slots task (Some given))
hold_set may_give slots task given hold is at other got = placed (set_cases slots task at (Some given) (Some other) got) where
  placed : ((at ≡ task) × (Some given ≡ Some other)) ⊎ (slice_get slots at ≡ Some (Some other)) → may_give at (Ok other)
  placed (inl new) = subst (λ t. may_give t (Ok other)) (sym new.0) (subst (λ x. may_give task (Ok x)) (same_Some given other new.1) is)
  placed (inr old) = hold at other old

module _ {A : Type 0} (E : Type 0) (P : A → Type 0) where
  abbrev AreOks : List ℕ → List (Result A E) → Type 0
  AreOks ns xs = AllZip (λ (n : ℕ) (r : Result A E). IfOk r P) ns xs

  -- The values of results that all are `Ok`.
  all_values : (ns : List ℕ) (ys : List A) → AreOks ns (map Ok ys) → All P ys
  all_values [] [] zip = λ k d l. absurd (omega (arith, l))
  all_values [] (y ∷ ys) zip = absurd zip
  all_values (n ∷ ns) [] zip = absurd zip
  all_values (n ∷ ns) (y ∷ ys) zip = All-cons P y ys zip.0 (all_values ns ys zip.1)

  pub all_collected : (ns : List ℕ) (xs : List (Result A E)) (v : Result (Vec A) E) → AreOks ns xs
      → MatchResult v (λ c. (ys : List A) × (xs ≡ map Ok ys) × (c.items ≡ ys)) (λ e. Contains xs (Err e)) → IfOk v (λ c. All P c.items)
  all_collected ns xs (Ok c) zip h = subst (All P) (sym h.2) (all_values ns h.0 (subst (AreOks ns) h.1 zip))
  all_collected ns xs (Err e) zip h = tt
