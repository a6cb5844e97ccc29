-- The list of dependencies, and the part of it that is in the hash map.
use Rattle.std.specs.Prelude.{◌≡◌, ℕ, List, Bool, ◌&&◌, length, map, take, nat_eq}
use Rattle.std.specs.List.{IsDistinct}
use Rattle.std.specs.declared.random_state.RandomState.{RandomState}
use Rattle.trace_model.specs.Theory.Dependencies.{Dependency, same_dependency}
use Rattle.dependencies.specs.Hashing.{dependency_hash}
use Rattle.dependencies.specs.HashedNumbers.{HashedView}

-- Distinct dependencies in order, the number of them that are in the hash map, whether memory is
-- reserved for one more, and the random keys of their hashes.
pub record KeysView : Type 0 where
  pub keys : List Dependency
  pub numbered : ℕ
  pub room : Bool
  pub state : RandomState

-- The value of a list. Memory is reserved if the hash map is complete and both have room.
abbrev pub listed_by : List Dependency × Bool → HashedView → RandomState → KeysView
listed_by list numbers state = record {
  keys = list.0;
  numbered = length numbers.hashes;
  room = nat_eq (length numbers.hashes) (length list.0) && numbers.room && list.1;
  state = state;
}

-- The dependencies are distinct, and the hash map has the hashes of a prefix of them.
pub record AreListed (ds : List Dependency) (hashes : List ℕ) (state : RandomState) : Type 0 where
  pub once : IsDistinct same_dependency ds
  pub first : hashes ≡ map (dependency_hash state) (take (length hashes) ds)
