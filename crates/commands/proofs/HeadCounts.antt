-- Counts of the cycles of a file.
use Rattle.std.proofs.Common.{◌≡◌, ℕ, ◌+◌, ◌<◌, ◌≤◌, Bool, true, false, List, [], ◌∷◌, ◌∙◌, arith, ap, cond, length, map, refl, sym, true≢false}
use Rattle.std.specs.Prelude.{◌||◌, count_by, nat_lt}
use Rattle.std.specs.List.{All, list_any}
use Rattle.std.proofs.lemmas.List.Sums.{sum_by-cons}
use Rattle.std.proofs.lemmas.List.Elements.{All-cons, All-head, All-nil, All-tail}
use Rattle.event_files.specs.ExplainedText.{StatedCycle, stated_cycle}
use Rattle.event_files.specs.declared.explanations.Explained.{Explained}

pub count-map : {X Y : Type 0} (p : Y → Bool) (f : X → Y) (xs : List X) → count_by (λ x. p (f x)) xs ≡ count_by p (map f xs)
count-map p f [] = refl
count-map p f (x ∷ xs) =
    sum_by-cons (λ y. cond (p (f y)) 1 0) x xs ∙ ap (λ n. cond (p (f x)) 1 0 + n) (count-map p f xs) ∙ sym (sum_by-cons (λ y. cond (p y) 1 0) (f x) (map f xs))

-- No cycle is longer.
abbrev pub AreWithin : ℕ → List StatedCycle → Type 0
AreWithin bound rows = All (λ r. length r.cycle ≤ bound) rows

longer_first : (bound n : ℕ) → nat_lt bound n ≡ true → bound < n
longer_first bound n e = grind arith

within_first : (bound n : ℕ) → nat_lt bound n ≡ false → n ≤ bound
within_first bound n e = grind arith

pub none_longer : (bound : ℕ) (cycles : List Explained) → list_any (λ e. nat_lt bound (length e.cycle)) cycles ≡ false → AreWithin bound (map stated_cycle cycles)
none_longer bound [] none = All-nil (λ (r : StatedCycle). length r.cycle ≤ bound)
none_longer bound (e ∷ cycles) none = parts (none_longer bound cycles) (nat_lt bound (length e.cycle)) refl none
  where
    parts : (list_any (λ (x : Explained). nat_lt bound (length x.cycle)) cycles ≡ false → AreWithin bound (map stated_cycle cycles)) → (b : Bool) → nat_lt bound (length e.cycle) ≡ b → (b || list_any (λ (x : Explained). nat_lt bound (length x.cycle)) cycles) ≡ false → AreWithin bound (map stated_cycle (e ∷ cycles))
    parts others true is rest = absurd (true≢false rest)
    parts others false is rest = All-cons (λ (r : StatedCycle). length r.cycle ≤ bound) (stated_cycle e) (map stated_cycle cycles) (within_first bound (length e.cycle) is) (others rest)

pub one_longer : (bound : ℕ) (cycles : List Explained) → list_any (λ e. nat_lt bound (length e.cycle)) cycles ≡ true → AreWithin bound (map stated_cycle cycles) → ⊥
one_longer bound [] some within = true≢false (sym some)
one_longer bound (e ∷ cycles) some within = parts (one_longer bound cycles) (nat_lt bound (length e.cycle)) refl some
  where
    parts : (list_any (λ (x : Explained). nat_lt bound (length x.cycle)) cycles ≡ true → AreWithin bound (map stated_cycle cycles) → ⊥) → (b : Bool) → nat_lt bound (length e.cycle) ≡ b → (b || list_any (λ (x : Explained). nat_lt bound (length x.cycle)) cycles) ≡ true → ⊥
    parts others true is rest = omega (arith, longer_first bound (length e.cycle) is, All-head (λ (r : StatedCycle). length r.cycle ≤ bound) (stated_cycle e) (map stated_cycle cycles) within)
    parts others false is rest = others rest (All-tail (λ (r : StatedCycle). length r.cycle ≤ bound) (stated_cycle e) (map stated_cycle cycles) within)
