-- Cycles of dependencies and their instances: the valid cycles of the lock graph of Bensalem and
-- Havelund 2005, the abstract deadlock patterns of Tunç et al. 2023.
use Rattle.std.specs.Prelude.{◌≡◌, ◌≢◌, ℕ, suc, ◌<◌, ◌≤◌, ◌⊎◌, ◌↔◌, ◌==◌, List, [], ◌∷◌, length, slice_get, Some, if◌then◌else◌}
use Rattle.std.specs.List.{Contains}
use Rattle.trace_model.specs.Theory.Trace.{Trace}
use Rattle.trace_model.specs.Theory.Dependencies.{Dependency, dependency_at, dependencies}
use Rattle.trace_model.specs.Theory.Reordering.{AreReached}

-- The i-th number of the list is the number of dependency d.
abbrev pub Member : List Dependency → List ℕ → ℕ → Dependency → Type 0
Member ds numbers i d = (m : ℕ) × (slice_get numbers i ≡ Some m) × (slice_get ds m ≡ Some d)

-- The index after i in a cyclic list.
abbrev pub next : List ℕ → ℕ → ℕ
next numbers i = if suc i == length numbers then 0 else suc i

-- The numbers are a cycle with at most `bound` members. Each member acquires a lock that the next
-- member holds; threads and locks are distinct and held sets are disjoint, so no gate lock protects
-- it (Bensalem and Havelund 2005). The least number is first, so each cycle has one list.
pub record IsCycle (ds : List Dependency) (bound : ℕ) (numbers : List ℕ) : Type 0 where
  pub at_least_two : 2 ≤ length numbers
  pub at_most : length numbers ≤ bound
  pub known : (m : ℕ) → Contains numbers m → m < length ds
  pub least_first : (first m : ℕ) → slice_get numbers 0 ≡ Some first → Contains numbers m →
      first ≤ m
  pub threads_distinct : (i j : ℕ) (a b : Dependency) → i < j → Member ds numbers i a →
      Member ds numbers j b → a.thread ≢ b.thread
  pub locks_distinct : (i j : ℕ) (a b : Dependency) → i < j → Member ds numbers i a →
      Member ds numbers j b → a.lock ≢ b.lock
  pub held_disjoint : (i j l : ℕ) (a b : Dependency) → i < j → Member ds numbers i a →
      Member ds numbers j b →
      Contains a.held l → Contains b.held l → ⊥
  pub linked : (i : ℕ) (a b : Dependency) → Member ds numbers i a →
      Member ds numbers (next numbers i) b → Contains b.held a.lock

-- The first list is before the second in lexicographic order.
abbrev pub ListBelow : List ℕ → List ℕ → Type 0
ListBelow [] [] = ⊥
ListBelow [] (y ∷ ys) = Unit {0}
ListBelow (x ∷ xs) [] = ⊥
ListBelow (x ∷ xs) (y ∷ ys) = (x < y) ⊎ ((x ≡ y) × ListBelow xs ys)

-- The lists ascend in lexicographic order.
abbrev pub InOrder : List (List ℕ) → Type 0
InOrder lists = (i j : ℕ) (xs ys : List ℕ) → i < j → slice_get lists i ≡ Some xs →
    slice_get lists j ≡ Some ys → ListBelow xs ys

-- The lists are exactly the cycles whose first number is `root`, each once, in lexicographic order.
pub record AreCyclesFrom (ds : List Dependency) (bound root : ℕ)
    (lists : List (List ℕ)) : Type 0 where
  pub exact : (numbers : List ℕ) → Contains lists numbers ↔
      (IsCycle ds bound numbers × (slice_get numbers 0 ≡ Some root))
  pub in_order : InOrder lists

-- The places are an instance of the cycle: for each member an acquire with its dependency. It is a
-- deadlock pattern of Tunç et al. 2023.
abbrev pub IsInstance : Trace → List ℕ → List ℕ → Type 0
IsInstance s numbers places =
    (length places ≡ length numbers)
    × ((i m p : ℕ) (d : Dependency) → slice_get numbers i ≡ Some m →
    slice_get (dependencies s) m ≡ Some d →
    slice_get places i ≡ Some p → dependency_at s p ≡ Some d)

-- Some sync-preserving reordering reaches an instance of the cycle: a sync-preserving deadlock of
-- Tunç et al. 2023.
abbrev pub IsConfirmed : Trace → List ℕ → Type 0
IsConfirmed s numbers = (places : List ℕ) × IsInstance s numbers places × AreReached s places
