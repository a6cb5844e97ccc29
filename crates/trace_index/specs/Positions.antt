-- Positions of keys in the hash map of a segment.
use Rattle.std.specs.Prelude.{◌≡◌, ℕ, false, Option, Some, None, slice_get}
use Rattle.std.specs.Map.{keys_of}
use Rattle.std.specs.HashMap.{HashMap, get}
use Rattle.trace_model.specs.declared.traces.event.Event.{Event}
use Rattle.trace_index.specs.declared.places.Positions.{Positions}
use Rattle.trace_index.specs.declared.row.Key.{Key}
use Rattle.trace_index.specs.declared.row.Key.TheVariants.{OfThread}
use Rattle.trace_index.specs.Links.{same_key, object_key}

-- The key is at the position, or has no place if the position is none.
pub record HasKeyAt {S : Type 0} (places : HashMap Key ℕ S) (key : Key)
    (position : Option ℕ) : Type 0 where
  pub key_is : (i : ℕ) → position ≡ Some i → slice_get (keys_of places.entries) i ≡ Some key
  pub absent : position ≡ None → get same_key places key ≡ None

-- Each other key keeps its position.
abbrev pub KeepsPositions : {S T : Type 0} → HashMap Key ℕ S → Key → HashMap Key ℕ T → Type 0
KeepsPositions old key new = (q : Key) (position : Option ℕ) → same_key key q ≡ false →
    HasKeyAt old q position → HasKeyAt new q position

-- The positions of the two keys of an event.
pub record AreKeyPositions {S : Type 0} (places : HashMap Key ℕ S) (e : Event)
    (positions : Positions) : Type 0 where
  pub thread_is : HasKeyAt places (OfThread e.thread) positions.thread
  pub object_is : HasKeyAt places (object_key e.op) positions.object
