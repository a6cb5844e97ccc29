-- The releases in a segment, by acquire.
use Rattle.std.specs.Prelude.{ℕ, ◌-◌, ◌≤◌, nat_eq, nat_le, slice_get, vec_len, vec_capacity, Option, None, if◌then◌else◌}
use Rattle.std.specs.HashMap.{get, spare}
use Rattle.std.specs.Option.{option_and_then, option_or}
use Rattle.trace_index.specs.declared.releases.Releases.{Releases}

-- The release of an acquire in the segment itself.
abbrev pub near_release : Releases → ℕ → Option ℕ
near_release e a = if nat_le e.first a
    then option_and_then (λ r. r) (slice_get e.near.items (a - e.first)) else None

-- The release of an acquire of the segment or of an earlier one.
abbrev pub release_in : Releases → ℕ → Option ℕ
release_in e a = option_or (near_release e a) (get nat_eq e.far a)

-- Memory is reserved for n more places.
pub record HasReleaseRoom (e : Releases) (n : ℕ) : Type 0 where
  pub near_room : n ≤ vec_capacity e.near - vec_len e.near
  pub far_room : n ≤ spare e.far
