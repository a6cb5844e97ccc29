-- Numbers of two and four bytes.
use Rattle.std.proofs.Common.{◌≡◌, ℕ, ◌+◌, ◌^◌, ◌<◌, ◌≤◌, List, [], ◌∷◌, length, take, drop, refl, arith, inl, inr}
use Rattle.std.specs.Int.{w16, w32, from_be_bytes, to_be_bytes}
use Rattle.std.proofs.lemmas.Bool.{cases_lt}
use Rattle.std.proofs.lemmas.List.{length-take, get_or-drop, get_or-take, get_or_past}
use Rattle.std.proofs.lemmas.Nat.{be_bytes_2, be_bytes_4, from_be_bytes-to_be_bytes_4}
use Rattle.trace_model.specs.Protocol.Frames.{IsBytes}

pub IsBytes-drop : (n : ℕ) (bytes : List ℕ) → IsBytes bytes → IsBytes (drop n bytes)
IsBytes-drop n bytes all at = rw get_or-drop (all (n + at))

pub IsBytes-take : (n : ℕ) (bytes : List ℕ) → IsBytes bytes → IsBytes (take n bytes)
IsBytes-take n bytes all at =
    let len = length-take n bytes in
    elim (cases_lt at n) [
      | inl within ↦ rw (get_or-take n bytes at 0 within) (all at)
      | inr past ↦ rw (get_or_past (take n bytes) at 0 (omega arith)) (omega arith)
    ]

-- a number that was written is read again
pub word_again : (n : ℕ) → n < 2 ^ 32 → from_be_bytes w32 (to_be_bytes w32 n) ≡ n
word_again n lt = from_be_bytes-to_be_bytes_4 n lt

-- four bytes are what their number is written as
pub word_takes : (bytes : List ℕ) → 4 ≤ length bytes → IsBytes bytes → to_be_bytes w32 (from_be_bytes w32 (take 4 bytes)) ≡ take 4 bytes
word_takes bytes le fits = be_bytes_4 (take 4 bytes) _ (omega (arith, length-take 4 bytes)) (IsBytes-take 4 bytes fits) refl

pub word_below : (bytes : List ℕ) → IsBytes bytes → from_be_bytes w32 bytes < 2 ^ 32
word_below bytes fits = omega (arith, fits 0, fits 1, fits 2, fits 3)

pub half_takes : (high low n : ℕ) → IsBytes (high ∷ low ∷ []) → n ≡ from_be_bytes w16 (high ∷ low ∷ []) → to_be_bytes w16 n ≡ high ∷ low ∷ []
half_takes high low n fits e = be_bytes_2 (high ∷ low ∷ []) n refl fits e
