-- Ascending places, read by index.
use Rattle.std.proofs.Common.{◌≡◌, ℕ, zero, suc, ◌+◌, ◌-◌, ◌<◌, ◌≤◌, List, Some, arith, ap, get_or, length, slice_get}
use Rattle.std.specs.List.Sorted.{IsStrictlyIncreasing}
use Rattle.std.proofs.lemmas.Option.{get_or_from_slice_get, slice_get_within}

rises : (xs : List ℕ) → IsStrictlyIncreasing xs → (j n : ℕ) → j + n < length xs → get_or xs j 0 ≤ get_or xs (j + n) 0
rises xs up j zero within = let same : j + 0 ≡ j = omega arith in omega (arith, ap (λ k. get_or xs k 0) same)
rises xs up j (suc n) within =
    let before = rises xs up j n (omega (arith, within)) in
    let next : j + suc n ≡ j + n + 1 = omega arith in
    omega (arith, before, up (j + n) (omega (arith, within)), ap (λ k. get_or xs k 0) next)

-- An earlier place is not greater.
pub not_greater : (xs : List ℕ) → IsStrictlyIncreasing xs → (j k x y : ℕ) → j ≤ k → slice_get xs j ≡ Some x → slice_get xs k ≡ Some y → x ≤ y
not_greater xs up j k x y below at there =
    let whole : j + (k - j) ≡ k = omega (arith, below) in
    let within = slice_get_within xs k y there in
    omega (arith, rises xs up j (k - j) (omega (arith, whole, within)), ap (λ i. get_or xs i 0) whole, get_or_from_slice_get xs j x 0 at, get_or_from_slice_get xs k y 0 there)
