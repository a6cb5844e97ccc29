-- The entries of the members' present places among the places of their dependencies.
use Rattle.std.specs.Prelude.{◌≡◌, ℕ, ◌<◌, List, slice_get, Some}
use Rattle.std.specs.List.Sorted.{IsStrictlyIncreasing}
use Rattle.dependencies.specs.Tables.{DependencyTable, dependency_places}

-- Each present place is that entry of the places of its member's dependency.
abbrev pub AreEntries : DependencyTable → List ℕ → List ℕ → List ℕ → Type 0
AreEntries table numbers places entries =
    (i m p : ℕ) → slice_get numbers i ≡ Some m → slice_get places i ≡ Some p →
    (e : ℕ) × (slice_get entries i ≡ Some e) × (slice_get (dependency_places table m) e ≡ Some p)

-- For each of the first n members the list has the first place of its dependency. The places of the
-- dependency ascend.
abbrev pub HaveFirst : DependencyTable → List ℕ → List ℕ → ℕ → Type 0
HaveFirst table numbers places n = (i m : ℕ) → i < n → slice_get numbers i ≡ Some m →
    (p : ℕ) × (slice_get places i ≡ Some p) × (slice_get (dependency_places table m) 0 ≡ Some p)
    × IsStrictlyIncreasing (dependency_places table m)
