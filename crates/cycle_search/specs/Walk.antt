-- How much work a depth-first search has left. It decreases at each step.
use Rattle.std.specs.Prelude.{◌≡◌, ◌≢◌, ℕ, suc, ◌+◌, ◌-◌, ◌⊎◌, List, [], ◌∷◌, ◌++◌, length, nat_eq, slice_get, slice_set, Some, if◌then◌else◌}
use Rattle.lock_graph.specs.declared.graph.LockGraph.{LockGraph}
use Rattle.lock_graph.specs.Graph.{holders_at}
use Rattle.cycle_search.specs.declared.tarjan.Frame.{Frame}
use Rattle.cycle_search.specs.declared.tarjan.Walk.{Walk}

-- The edges of the frame's lock that were not followed, and one step to leave it.
abbrev pub left_at : (ℕ → List ℕ) → Frame → ℕ
left_at graph frame = length (graph frame.lock) - frame.followed + 1

-- The work left in the frames of a path.
unfoldable pub left_on : (ℕ → List ℕ) → List Frame → ℕ
left_on graph [] = 0
left_on graph (frame ∷ path) = left_at graph frame + left_on graph path

-- The work left for the locks, from `lock` on, that were not visited: those with the index 0.
unfoldable pub left_beyond : (ℕ → List ℕ) → ℕ → List ℕ → ℕ
left_beyond graph lock [] = 0
left_beyond graph lock (index ∷ indices) =
    (if nat_eq index 0 then length (graph lock) + 2 else 0) + left_beyond graph (suc lock) indices

-- All the work left.
abbrev pub work_left : (ℕ → List ℕ) → Walk → ℕ
work_left graph walk = left_on graph walk.path.items + left_beyond graph 0 walk.indices.items

-- All the work left in a graph with the numbers below this total.
abbrev pub left_in : ℕ → LockGraph → Walk → ℕ
left_in total g walk = work_left (holders_at g total) walk

-- The path is unchanged, and the same locks are visited.
pub record KeepsPath (old new : Walk) : Type 0 where
  pub path : new.path.items ≡ old.path.items
  pub indices : new.indices.items ≡ old.indices.items

-- A lock that was not visited is visited and appended to the path.
pub record VisitsLock (old : Walk) (lock : ℕ) (new : Walk) : Type 0 where
  pub path : new.path.items ≡ old.path.items ++ record { lock = lock; followed = 0 } ∷ []
  pub unmet : slice_get old.indices.items lock ≡ Some 0
  pub index : ℕ
  pub some : index ≢ 0
  pub indices : new.indices.items ≡ slice_set old.indices.items lock index

-- The path is unchanged, or a lock that was not visited is entered.
abbrev pub StaysOrEnters : Walk → ℕ → Walk → Type 0
StaysOrEnters old lock new = KeepsPath old new ⊎ VisitsLock old lock new
