-- The collector that keeps the cycles of a search.
use Rattle.std.specs.Prelude.{◌≡◌, ℕ, ◌<◌, List, [], ◌∷◌, ◌++◌, length}
use Rattle.std.proofs.Common.{refl, ap}
use Rattle.cycle_search.specs.declared.kept.Kept.{Kept}
use Rattle.cycle_search.specs.declared.refused.SearchRefused.{SearchRefused}
use Rattle.cycle_search.specs.declared.refused.SearchRefused.TheVariants.{TooMany}
use Rattle.cycle_search.specs.Collecting.{CollectorRules}

-- Nothing is appended to a list.
pub append-none : {Item : Type 0} (xs : List Item) → xs ≡ xs ++ []
append-none [] = refl
append-none (x ∷ xs) = ap (λ z. x ∷ z) (append-none xs)

-- It appends the cycles, and it refuses one as too many only if there are more than its limit.
abbrev pub keeps : CollectorRules Kept (List ℕ) SearchRefused
keeps = record {
  accepts = λ kept cycle. Unit {0};
  took = λ start cycles now. (now.most ≡ start.most)
      × (now.cycles.items ≡ start.cycles.items ++ cycles);
  refuses = λ start cycles refused. refused ≡ TooMany →
      start.most < length (start.cycles.items ++ cycles);
  nothing = λ kept. (refl, append-none kept.cycles.items);
  still = λ start now cycles cycle took accepts. tt;
}
