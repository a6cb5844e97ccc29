-- The first items of a list, one further.
use Rattle.std.proofs.Common.{◌≡◌, ℕ, suc, ◌+◌, List, [], ◌∷◌, ◌++◌, take, slice_get, Some, sym, ap, ◌∙◌, arith}
use Rattle.trace_model.proofs.Lists.{take_next}

pub take_one_more : {X : Type 0} → (xs : List X) (i : ℕ) (x : X) → Some x ≡ slice_get xs i → take (i + 1) xs ≡ take i xs ++ x ∷ []
take_one_more {X} xs i x h = let one : i + 1 ≡ suc i = omega arith in ap (λ n. take n xs) one ∙ take_next i xs x (sym h)
