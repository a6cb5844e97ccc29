-- Sync-preserving reorderings, without inner acquires.
use Rattle.std.specs.Prelude.{◌≡◌, ℕ, ◌<◌, List, length, slice_get, Some, MatchOption}
use Rattle.std.specs.List.{Contains}
use Rattle.trace_model.specs.declared.traces.event.Op.TheVariants.{Read, Write}
use Rattle.trace_model.specs.Theory.Trace.{Trace, Does, EarlierInThread}
use Rattle.trace_model.specs.Theory.Lookups.{writer}
use Rattle.trace_model.specs.Theory.Reordering.{Before, ForkOrJoin, LastWrite, Reaches}
use Rattle.wellformed.specs.Former.Held.{FormerBeginsOn}
use Rattle.wellformed.specs.Former.Lookups.{former_release}

-- The list is a sync-preserving correct reordering of the trace (Tunç et al. 2023).
pub record IsFormerReordering (s : Trace) (order : List ℕ) : Type 0 where
  pub in_trace : (q : ℕ) → Contains order q → q < length s
  pub distinct : (i j q : ℕ) → slice_get order i ≡ Some q → slice_get order j ≡ Some q → i ≡ j
  pub threads : (p q : ℕ) → Contains order q → EarlierInThread s p q → Before order p q
  pub forks_joins : (p q : ℕ) → Contains order q → ForkOrJoin s p q → Before order p q
  pub writers : (q v : ℕ) → Contains order q → Does s q (Read v) →
      MatchOption (writer s q)
      ((u : ℕ) → Does s u (Write v) → Before order u q → ⊥)
      (LastWrite s order v q)
  pub sections : (p q l : ℕ) → FormerBeginsOn s p l → FormerBeginsOn s q l → Before order p q →
      (r : ℕ) × (former_release s p ≡ Some r) × Before order p r × Before order r q
  pub lock_order : (p q l : ℕ) → FormerBeginsOn s p l → FormerBeginsOn s q l → Before order p q →
      p < q

-- Some sync-preserving reordering reaches the places.
abbrev pub AreFormerReached : Trace → List ℕ → Type 0
AreFormerReached s places = (order : List ℕ) × IsFormerReordering s order × Reaches s order places
