-- The rows of a report: a cycle, and the evidence for it if it is confirmed (this project's
-- profile).
use Rattle.std.specs.Prelude.{◌≡◌, ℕ, ◌≤◌, List, map, slice_get, Option, Some, MatchOption, IfSome}
use Rattle.std.specs.List.{Contains, All}
use Rattle.std.specs.List.Sorted.{IsStrictlyIncreasing}
use Rattle.trace_model.specs.Theory.Trace.{Trace, OfThread, EarlierInThread}
use Rattle.trace_model.specs.Theory.Held.{Begins}
use Rattle.trace_model.specs.Theory.Lookups.{release}
use Rattle.trace_model.specs.Theory.Dependencies.{dependencies}
use Rattle.trace_model.specs.Theory.Cycles.{next, AreCyclesFrom, IsInstance, IsConfirmed}
use Rattle.trace_model.specs.Theory.Reordering.{IsReordering, Reaches, AreReached}

-- A reached instance, and a witness: a reordering that reaches it.
pub record Evidence : Type 0 where
  pub places : List ℕ
  pub witness : List ℕ

-- A cycle, and what was found for it if it is confirmed.
pub record Row : Type 0 where
  pub cycle : List ℕ
  pub found : Option Evidence

-- No place of the first list is later than the place of the second list at the same index.
abbrev pub NoLater : List ℕ → List ℕ → Type 0
NoLater xs ys = (k x y : ℕ) → slice_get xs k ≡ Some x → slice_get ys k ≡ Some y → x ≤ y

-- The places are a reached instance of the cycle, and no place is later than in any other reached
-- instance.
pub record IsLeastInstance (s : Trace) (numbers places : List ℕ) : Type 0 where
  pub is_instance : IsInstance s numbers places
  pub is_reached : AreReached s places
  pub least : (other : List ℕ) → IsInstance s numbers other → AreReached s other →
      NoLater places other

-- The list is an ascending reordering that reaches the places, and each other such reordering
-- contains its places.
pub record IsWitness (s : Trace) (places order : List ℕ) : Type 0 where
  pub ascends : IsStrictlyIncreasing order
  pub reorders : IsReordering s order
  pub reaches : Reaches s order places
  pub smallest : (other : List ℕ) → IsReordering s other → Reaches s other places → (q : ℕ) →
      Contains order q → Contains other q

-- The row is exact: either its cycle is not confirmed, or it has the least reached instance and its
-- witness.
abbrev pub IsRow : Trace → Row → Type 0
IsRow s row = MatchOption row.found
    (IsConfirmed s row.cycle → ⊥)
    (λ found. IsLeastInstance s row.cycle found.places × IsWitness s found.places found.witness)

-- The rows are those of the cycles with first number `root`, each exact, in lexicographic order.
pub record AreRows (s : Trace) (bound root : ℕ) (rows : List Row) : Type 0 where
  pub cycles : AreCyclesFrom (dependencies s) bound root (map (λ row. row.cycle) rows)
  pub exact : All (IsRow s) rows

-- If the row has an instance, then its witness is a reordering that reaches that instance.
abbrev pub IsSound : Trace → Row → Type 0
IsSound s row = IfSome row.found (λ found.
    IsInstance s row.cycle found.places × IsStrictlyIncreasing found.witness
    × IsReordering s found.witness × Reaches s found.witness found.places)

-- The rows have the cycles with first number `root`, and each row is sound.
pub record AreSound (s : Trace) (bound root : ℕ) (rows : List Row) : Type 0 where
  pub cycles : AreCyclesFrom (dependencies s) bound root (map (λ row. row.cycle) rows)
  pub sound : All (IsSound s) rows

-- Place p is the first place of its thread that is not in the list.
abbrev pub FirstMissing : Trace → List ℕ → ℕ → Type 0
FirstMissing s order p = (Contains order p → ⊥)
    × ((q : ℕ) → EarlierInThread s q p → Contains order q)

-- In the list, thread t acquires lock l and does not release it.
abbrev pub StillHolds : Trace → List ℕ → ℕ → ℕ → Type 0
StillHolds s order t l =
    (a : ℕ) × Contains order a × Begins s a t l
    × ((r : ℕ) → release s a ≡ Some r → Contains order r → ⊥)

-- After the list, each member of the instance is about to acquire a lock that the thread of the
-- next member still holds.
abbrev pub LeavesDeadlocked : Trace → List ℕ → List ℕ → Type 0
LeavesDeadlocked s places order =
    (k p q : ℕ) → slice_get places k ≡ Some p → slice_get places (next places k) ≡ Some q →
    FirstMissing s order p
    × ((t : ℕ) × (l : ℕ) × (u : ℕ) × Begins s p t l × OfThread s q u × StillHolds s order u l)
