-- Numbers with the same number of digits.
use Rattle.std.specs.Prelude.{◌≡◌, ℕ, ◌+◌, ◌<◌, ◌≤◌, length, decimal}
use Rattle.reports.specs.declared.run_measure.Decade.{Decade}

-- Each number of the decade has `width` bytes, with its space.
abbrev pub IsDecade : Decade → Type 0
IsDecade d = (x : ℕ) → d.low ≤ x → x < d.high → 1 + length (decimal x) ≡ d.width
