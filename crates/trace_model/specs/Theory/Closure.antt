-- Closed sets of places, and the sync-preserving closure of Tunç et al. 2023.
use Rattle.std.specs.Prelude.{◌≡◌, ℕ, zero, suc, ◌<◌, ◌↔◌, Bool, IsTrue, List, [], ◌∷◌, ◌++◌, Some, if◌then◌else◌}
use Rattle.std.specs.List.{Contains}
use Rattle.trace_model.specs.Theory.Trace.{Trace, EarlierInThread}
use Rattle.trace_model.specs.Theory.Held.{BeginsOn}
use Rattle.trace_model.specs.Theory.Lookups.{writer, release}
use Rattle.trace_model.specs.Theory.Reordering.{ForkOrJoin}

-- A set of places, as a test.
abbrev pub Places : Type 0
Places = ℕ → Bool

-- The set is closed under thread order, forks and joins, reads-from, and releases: of two critical
-- sections on one lock that begin in the set, it contains the release of the earlier one. This is
-- the closure condition of Tunç et al. 2023.
pub record IsClosed (s : Trace) (set : Places) : Type 0 where
  pub threads : (p q : ℕ) → IsTrue (set q) → EarlierInThread s p q → IsTrue (set p)
  pub forks_joins : (p q : ℕ) → IsTrue (set q) → ForkOrJoin s p q → IsTrue (set p)
  pub writers : (w q : ℕ) → IsTrue (set q) → writer s q ≡ Some w → IsTrue (set w)
  pub sections : (p q r l : ℕ) → p < q → BeginsOn s p l → BeginsOn s q l →
      IsTrue (set p) → IsTrue (set q) → release s p ≡ Some r → IsTrue (set r)

-- The set contains every earlier place of the threads of the given places.
abbrev pub HoldsPredecessors : Trace → List ℕ → Places → Type 0
HoldsPredecessors s places set =
    (p q : ℕ) → Contains places p → EarlierInThread s q p → IsTrue (set q)

-- Place q is in every closed set that contains the thread predecessors of the given places.
abbrev pub InClosure : Trace → List ℕ → ℕ → Type 0
InClosure s places q =
    (set : Places) → IsClosed s set → HoldsPredecessors s places set → IsTrue (set q)

-- The set is the sync-preserving closure of the thread predecessors of the given places (Tunç et
-- al. 2023).
abbrev pub IsClosure : Trace → List ℕ → Places → Type 0
IsClosure s places set = (q : ℕ) → IsTrue (set q) ↔ InClosure s places q

-- The places below n that are in the set, ascending.
abbrev pub ascending_places : Places → ℕ → List ℕ
ascending_places set zero = []
ascending_places set (suc n) = if set n then ascending_places set n ++ n ∷ []
    else ascending_places set n
