-- When the row of an explained cycle is one of the trace (this project's profile).
use Rattle.std.specs.Prelude.{◌≡◌, ◌≢◌, ℕ, ◌<◌, ◌≤◌, List, length, slice_get, Some}
use Rattle.trace_model.specs.declared.limits.TheConstants.{MAX_MEMBERS}
use Rattle.trace_model.specs.Theory.Trace.{Trace}
use Rattle.trace_model.specs.Theory.Dependencies.{Dependency, dependencies}
use Rattle.trace_model.specs.Theory.Cycles.{IsCycle, Member as HasMember, next}
use Rattle.std.specs.List.{Contains}
use Rattle.dependencies.specs.Tables.{HasNumber}
use Rattle.event_files.specs.ExplainedText.{StatedCycle, StatedMember}
use Rattle.commands.specs.declared.explained_rows.RowFault.{RowFault}
use Rattle.commands.specs.declared.explained_rows.RowFault.TheVariants.{UnknownNumber, OtherMember, NoCycle, OtherPlace}

-- The dependency that the line of a member states.
abbrev pub stated_dependency : StatedMember → Dependency
stated_dependency m = record { thread = m.thread; lock = m.lock; held = m.held }

-- The test holds for each index of the list and the number there.
abbrev pub HoldsAtEach : List ℕ → (ℕ → ℕ → Type 0) → Type 0
HoldsAtEach numbers Test = (i m : ℕ) → slice_get numbers i ≡ Some m → Test i m

-- This index of the list, with the number there, is the first at which the test does not hold.
pub record FailsFirst (numbers : List ℕ) (Test : ℕ → ℕ → Type 0) (i m : ℕ) : Type 0 where
  pub here : slice_get numbers i ≡ Some m
  pub fails : Test i m → ⊥
  pub before : (j n : ℕ) → j < i → slice_get numbers j ≡ Some n → Test j n

-- The number is that of a dependency.
abbrev pub IsDependencyNumber : List Dependency → ℕ → ℕ → Type 0
IsDependencyNumber ds i m = m < length ds

-- The line of member i states the dependency with the number m.
abbrev pub States : List Dependency → StatedCycle → ℕ → ℕ → Type 0
States ds r i m = (member : StatedMember) × (slice_get r.members i ≡ Some member)
    × (slice_get ds m ≡ Some (stated_dependency member))

-- Member i has this place.
abbrev pub HasPlaceAt : StatedCycle → ℕ → ℕ → Type 0
HasPlaceAt r i p =
    (member : StatedMember) × (slice_get r.members i ≡ Some member) × (member.place ≡ Some p)

-- A place of member i is one of the dependency with the number m.
abbrev pub IsPlaced : Trace → StatedCycle → ℕ → ℕ → Type 0
IsPlaced s r i m = (p : ℕ) → HasPlaceAt r i p → HasNumber s (dependencies s) p m

-- The row is one of the trace: each line of a member states the dependency with its number, the
-- numbers are a cycle, and each place is one of its member's dependency.
pub record IsRowOf (s : Trace) (r : StatedCycle) : Type 0 where
  pub stated : HoldsAtEach r.cycle (States (dependencies s) r)
  pub is_cycle : IsCycle (dependencies s) MAX_MEMBERS r.cycle
  pub placed : HoldsAtEach r.cycle (IsPlaced s r)

-- The first test of a row that does not hold.
abbrev pub IsRowFault : Trace → StatedCycle → RowFault → Type 0
IsRowFault s r (UnknownNumber m) = (i : ℕ)
    × FailsFirst r.cycle (IsDependencyNumber (dependencies s)) i m
IsRowFault s r (OtherMember m) = HoldsAtEach r.cycle (IsDependencyNumber (dependencies s))
    × ((i : ℕ) × FailsFirst r.cycle (States (dependencies s) r) i m)
IsRowFault s r NoCycle = HoldsAtEach r.cycle (States (dependencies s) r)
    × (IsCycle (dependencies s) MAX_MEMBERS r.cycle → ⊥)
IsRowFault s r (OtherPlace p) = HoldsAtEach r.cycle (States (dependencies s) r)
    × IsCycle (dependencies s) MAX_MEMBERS r.cycle
    × ((i m : ℕ) × HasPlaceAt r i p × FailsFirst r.cycle (IsPlaced s r) i m)

-- ---- a member of a cycle

-- Two members of a cycle have different threads and locks, and no held lock in common.
pub record AreDistinctMembers (a b : Dependency) : Type 0 where
  pub threads : a.thread ≢ b.thread
  pub locks : a.lock ≢ b.lock
  pub held : (l : ℕ) → Contains a.held l → Contains b.held l → ⊥

-- The first number is at most the one at index i.
abbrev pub IsLeastTo : List ℕ → ℕ → Type 0
IsLeastTo numbers i =
    (first m : ℕ) → slice_get numbers 0 ≡ Some first → slice_get numbers i ≡ Some m → first ≤ m

-- The member after member i holds the lock that member i acquires.
abbrev pub IsLinked : List Dependency → List ℕ → ℕ → Type 0
IsLinked ds numbers i = (a b : Dependency) → HasMember ds numbers i a →
    HasMember ds numbers (next numbers i) b → Contains b.held a.lock

-- Member i is apart from each earlier member.
abbrev pub IsApart : List Dependency → List ℕ → ℕ → Type 0
IsApart ds numbers i = (j : ℕ) (a b : Dependency) → j < i → HasMember ds numbers j a →
    HasMember ds numbers i b → AreDistinctMembers a b

-- Member i fits into a cycle.
pub record FitsAt (ds : List Dependency) (numbers : List ℕ) (i : ℕ) : Type 0 where
  pub least : IsLeastTo numbers i
  pub linked : IsLinked ds numbers i
  pub apart : IsApart ds numbers i
