-- A copy of the lists.
use Rattle.std.proofs.Common.{◌≡◌, ℕ, nat_eq, Bool, true, false, cond, List, [], ◌∷◌, Some, ap, ◌∙◌, refl}
use Rattle.smallvec.specs.SmallVec.{SmallVec}
use Rattle.std.specs.List.{AllZip, each_same}
use Rattle.std.specs.Map.{lookup}
use Rattle.std.specs.Option.{option_map_or}

abbrev pub IsCopy : ℕ × SmallVec ℕ → ℕ × SmallVec ℕ → Type 0
IsCopy p q = (q.0 ≡ p.0) × AllZip (λ x y. y ≡ x) p.1.items q.1.items

pub listed_copied : (lock : ℕ) (es fs : List (ℕ × SmallVec ℕ)) → AllZip IsCopy es fs →
    option_map_or (λ v. v.items) (lookup (nat_eq lock) fs) [] ≡ option_map_or (λ v. v.items) (lookup (nat_eq lock) es) []
listed_copied lock [] [] h = refl
listed_copied lock [] (f ∷ fs) h = absurd h
listed_copied lock (e ∷ es) [] h = absurd h
listed_copied lock (e ∷ es) (f ∷ fs) h =
    ap (λ n. option_map_or (λ v. v.items) (cond (nat_eq lock n) (Some f.1) (lookup (nat_eq lock) fs)) []) h.0.0
    ∙ go (nat_eq lock e.0) (each_same e.1.items f.1.items h.0.1) (listed_copied lock es fs h.1)
  where
    go : (b : Bool) → f.1.items ≡ e.1.items → option_map_or (λ v. v.items) (lookup (nat_eq lock) fs) [] ≡ option_map_or (λ v. v.items) (lookup (nat_eq lock) es) [] →
        option_map_or (λ v. v.items) (cond b (Some f.1) (lookup (nat_eq lock) fs)) [] ≡ option_map_or (λ v. v.items) (cond b (Some e.1) (lookup (nat_eq lock) es)) []
    go true same rest = same
    go false same rest = rest
