-- A sync-preserving reordering, checked place by place from the front (this project's profile).
use Rattle.std.specs.Prelude.{◌≡◌, ℕ, ◌<◌, List, length, take, slice_get, Some, MatchOption}
use Rattle.std.specs.List.{Contains}
use Rattle.trace_model.specs.declared.traces.event.Op.TheVariants.{Read, Write}
use Rattle.trace_model.specs.Theory.Trace.{Trace, Does, EarlierInThread}
use Rattle.trace_model.specs.Theory.Held.{BeginsOn}
use Rattle.trace_model.specs.Theory.Lookups.{writer, release}
use Rattle.trace_model.specs.Theory.Reordering.{Before, ForkOrJoin}

-- Place w is the last write to variable v in the list.
abbrev pub LastIn : Trace → List ℕ → ℕ → ℕ → Type 0
LastIn s front v w = Contains front w × ((u : ℕ) → Does s u (Write v) → Before front w u → ⊥)

-- Place q may come next after the list `front`.
pub record Follows (s : Trace) (front : List ℕ) (q : ℕ) : Type 0 where
  pub in_trace : q < length s
  pub new : Contains front q → ⊥
  pub threads : (p : ℕ) → EarlierInThread s p q → Contains front p
  pub forks_joins : (p : ℕ) → ForkOrJoin s p q → Contains front p
  pub writers : (v : ℕ) → Does s q (Read v) →
      MatchOption (writer s q) ((u : ℕ) → Does s u (Write v) → Contains front u → ⊥)
      (LastIn s front v)
  pub sections : (p l : ℕ) → BeginsOn s p l → BeginsOn s q l → Contains front p →
      (r : ℕ) × (release s p ≡ Some r) × Contains front r
  pub lock_order : (p l : ℕ) → BeginsOn s p l → BeginsOn s q l → Contains front p → p < q

-- Each place of the list may come next after the places before it.
abbrev pub Walks : Trace → List ℕ → Type 0
Walks s order = (k q : ℕ) → slice_get order k ≡ Some q → Follows s (take k order) q
