-- Hashes by number, and the numbers that have a hash.
use Rattle.std.specs.Prelude.{◌≡◌, ℕ, ◌==◌, Bool, false, nat_lt, ◌&&◌, List, map, length, slice_get, Option, Some, vec_len, vec_capacity}
use Rattle.std.specs.Global.{Vec}
use Rattle.std.specs.Option.{option_map_or}
use Rattle.std.specs.HashMap.{get, spare}
use Rattle.indexmap.specs.IndexMap.{IndexMap}
use Rattle.trace_model.specs.Theory.Trace.{last_place}
use Rattle.dependencies.specs.declared.hashed_numbers.Link.{Link}

-- The hashes in the order of their numbers, and whether memory is reserved for one more.
pub record HashedView : Type 0 where
  pub hashes : List ℕ
  pub room : Bool

-- The item with this number passes the test.
abbrev pub passes_at : {X : Type 0} → (X → Bool) → List X → ℕ → Bool
passes_at test xs number = option_map_or test (slice_get xs number) false

-- The last number below n whose item passes the test.
abbrev pub last_passing : {X : Type 0} → (X → Bool) → List X → ℕ → Option ℕ
last_passing test xs n = last_place (passes_at test xs) n

-- The hashes of the links.
abbrev pub hashes_of : List Link → List ℕ
hashes_of links = map (λ x. x.hash) links

-- The map has the last number of each hash, and each link the last earlier number of its hash.
pub record AreLinked {S : Type 0} (lasts : IndexMap ℕ ℕ S) (links : List Link) : Type 0 where
  pub last : (hash : ℕ) →
      get (◌==◌) lasts hash ≡ last_passing (◌==◌ hash) (hashes_of links) (length links)
  pub earlier : (i : ℕ) (x : Link) → slice_get links i ≡ Some x →
      x.earlier ≡ last_passing (◌==◌ x.hash) (hashes_of links) i

-- Memory is reserved for one more number.
abbrev pub has_number_room : {S : Type 0} → IndexMap ℕ ℕ S → Vec Link → Bool
has_number_room lasts links =
    nat_lt 0 (spare lasts) && nat_lt (vec_len links) (vec_capacity links)
