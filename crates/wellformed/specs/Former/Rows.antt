-- The rows of a report, without inner acquires.
use Rattle.std.specs.Prelude.{◌≡◌, ℕ, List, length, map, slice_get, Some, MatchOption}
use Rattle.std.specs.List.{Contains, All}
use Rattle.std.specs.List.Sorted.{IsStrictlyIncreasing}
use Rattle.trace_model.specs.Theory.Trace.{Trace}
use Rattle.trace_model.specs.Theory.Dependencies.{Dependency}
use Rattle.trace_model.specs.Theory.Cycles.{AreCyclesFrom}
use Rattle.trace_model.specs.Theory.Reordering.{Reaches}
use Rattle.trace_model.specs.Theory.Rows.{Row, NoLater}
use Rattle.wellformed.specs.Former.Dependencies.{former_dependency_at, former_dependencies}
use Rattle.wellformed.specs.Former.Reordering.{IsFormerReordering, AreFormerReached}

-- The places are an instance of the cycle: for each member an acquire with its dependency.
abbrev pub IsFormerInstance : Trace → List ℕ → List ℕ → Type 0
IsFormerInstance s numbers places =
    (length places ≡ length numbers)
    × ((i m p : ℕ) (d : Dependency) → slice_get numbers i ≡ Some m →
    slice_get (former_dependencies s) m ≡ Some d →
    slice_get places i ≡ Some p → former_dependency_at s p ≡ Some d)

-- Some sync-preserving reordering reaches an instance of the cycle.
abbrev pub IsFormerConfirmed : Trace → List ℕ → Type 0
IsFormerConfirmed s numbers = (places : List ℕ) × IsFormerInstance s numbers places
    × AreFormerReached s places

-- The places are a reached instance of the cycle, and no place is later than in any other reached
-- instance.
pub record IsFormerLeastInstance (s : Trace) (numbers places : List ℕ) : Type 0 where
  pub is_instance : IsFormerInstance s numbers places
  pub is_reached : AreFormerReached s places
  pub least : (other : List ℕ) → IsFormerInstance s numbers other → AreFormerReached s other →
      NoLater places other

-- The list is an ascending reordering that reaches the places, and each other such reordering
-- contains its places.
pub record IsFormerWitness (s : Trace) (places order : List ℕ) : Type 0 where
  pub ascends : IsStrictlyIncreasing order
  pub reorders : IsFormerReordering s order
  pub reaches : Reaches s order places
  pub smallest : (other : List ℕ) → IsFormerReordering s other → Reaches s other places → (q : ℕ) →
      Contains order q → Contains other q

-- The row is exact.
abbrev pub IsFormerRow : Trace → Row → Type 0
IsFormerRow s row = MatchOption row.found
    (IsFormerConfirmed s row.cycle → ⊥)
    (λ found. IsFormerLeastInstance s row.cycle found.places
    × IsFormerWitness s found.places found.witness)

-- The rows are those of the cycles with first number `root`, each exact, in lexicographic order.
pub record AreFormerRows (s : Trace) (bound root : ℕ) (rows : List Row) : Type 0 where
  pub cycles : AreCyclesFrom (former_dependencies s) bound root (map (λ row. row.cycle) rows)
  pub exact : All (IsFormerRow s) rows
