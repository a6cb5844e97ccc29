-- Sync-preserving reorderings of a trace and the places that they reach, as in Tunç et al. 2023.
use Rattle.std.specs.Prelude.{◌≡◌, ℕ, ◌<◌, ◌⊎◌, List, length, slice_get, Some, MatchOption}
use Rattle.std.specs.List.{Contains}
use Rattle.trace_model.specs.declared.traces.event.Op.TheVariants.{Fork, Join, Read, Write}
use Rattle.trace_model.specs.Theory.Trace.{Trace, Does, OfThread, EarlierInThread}
use Rattle.trace_model.specs.Theory.Held.{BeginsOn}
use Rattle.trace_model.specs.Theory.Lookups.{writer, release}

-- In the list, p comes before q.
abbrev pub Before : List ℕ → ℕ → ℕ → Type 0
Before order p q =
    (i : ℕ) × (j : ℕ) × (i < j) × (slice_get order i ≡ Some p) × (slice_get order j ≡ Some q)

-- Place p is the fork of the thread of q. Or q is a join, and p is the fork or any place of the
-- joined thread.
abbrev pub ForkOrJoin : Trace → ℕ → ℕ → Type 0
ForkOrJoin s p q =
    ((t : ℕ) × OfThread s q t × Does s p (Fork t))
    ⊎ ((c : ℕ) × Does s q (Join c) × (Does s p (Fork c) ⊎ OfThread s p c))

-- Place w is the last write to variable v before q in the list.
abbrev pub LastWrite : Trace → List ℕ → ℕ → ℕ → ℕ → Type 0
LastWrite s order v q w =
    Before order w q
    × ((u : ℕ) → Does s u (Write v) → Before order w u → Before order u q → ⊥)

-- The list is a sync-preserving correct reordering of the trace (Tunç et al. 2023): a list of
-- distinct places that respects thread order, forks, joins and reads-from, whose critical sections
-- on one lock do not overlap (`sections`), and in which two critical sections on one lock keep
-- their order in the trace (`lock_order`).
pub record IsReordering (s : Trace) (order : List ℕ) : Type 0 where
  pub in_trace : (q : ℕ) → Contains order q → q < length s
  pub distinct : (i j q : ℕ) → slice_get order i ≡ Some q → slice_get order j ≡ Some q → i ≡ j
  pub threads : (p q : ℕ) → Contains order q → EarlierInThread s p q → Before order p q
  pub forks_joins : (p q : ℕ) → Contains order q → ForkOrJoin s p q → Before order p q
  pub writers : (q v : ℕ) → Contains order q → Does s q (Read v) →
      MatchOption (writer s q)
      ((u : ℕ) → Does s u (Write v) → Before order u q → ⊥)
      (LastWrite s order v q)
  pub sections : (p q l : ℕ) → BeginsOn s p l → BeginsOn s q l → Before order p q →
      (r : ℕ) × (release s p ≡ Some r) × Before order p r × Before order r q
  pub lock_order : (p q l : ℕ) → BeginsOn s p l → BeginsOn s q l → Before order p q → p < q

-- The list contains none of the places, and all earlier places of their threads: each of the places
-- is enabled after the list.
abbrev pub Reaches : Trace → List ℕ → List ℕ → Type 0
Reaches s order places =
    (p : ℕ) → Contains places p →
    (Contains order p → ⊥) × ((q : ℕ) → EarlierInThread s q p → Contains order q)

-- Some sync-preserving reordering reaches the places.
abbrev pub AreReached : Trace → List ℕ → Type 0
AreReached s places = (order : List ℕ) × IsReordering s order × Reaches s order places
