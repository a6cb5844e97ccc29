-- Runs: consecutive places of one thread.
use Rattle.std.specs.Prelude.{◌≡◌, ℕ, ◌+◌, ◌-◌, ◌<◌, ◌≤◌, ◌^◌, List, length, slice_get, Some}
use Rattle.fronts.specs.declared.requirements.ThreadPrefix.{ThreadPrefix}

-- The position `later` is `n` places after the position `to`, in the same thread.
abbrev pub IsPositionAfter : ThreadPrefix → ℕ → ThreadPrefix → Type 0
IsPositionAfter to n later = (later.slot ≡ to.slot) × (later.count ≡ to.count + n)

-- The places from `p` up to `end` are consecutive places of one thread.
pub record IsThreadRun (positions : List ThreadPrefix) (p end : ℕ) : Type 0 where
  pub some : p < end
  pub within : end ≤ length positions
  pub each : (q : ℕ) (to later : ThreadPrefix) → p ≤ q → q < end →
      slice_get positions p ≡ Some to →
      slice_get positions q ≡ Some later → IsPositionAfter to (q - p) later

-- Each place is listed with the length of a run that begins with it.
pub record AreRunLengths (positions : List ThreadPrefix) (lengths : List ℕ) : Type 0 where
  pub each : (p n : ℕ) → slice_get lengths p ≡ Some n → IsThreadRun positions p (p + n)
  pub all : length lengths ≡ length positions
  pub few : length positions < 2 ^ 32
