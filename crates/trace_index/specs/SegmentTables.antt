-- The tables of segments: the last place of each key, and the releases by acquire.
use Rattle.std.specs.Prelude.{◌≡◌, ℕ, ◌+◌, ◌-◌, ◌*◌, ◌<◌, ◌≤◌, List, length, map, take, slice_get, Some}
use Rattle.std.specs.Arc.{arc_value}
use Rattle.std.specs.declared.sync.Arc.{Arc}
use Rattle.std.specs.declared.alloc.Global.{Global}
use Rattle.std.specs.HashMap.{get, spare}
use Rattle.trace_model.specs.Theory.Trace.{Trace}
use Rattle.trace_index.specs.declared.row.Key.{Key}
use Rattle.trace_index.specs.declared.segment_tables.SegmentTable.{SegmentTable}
use Rattle.trace_index.specs.Links.{same_key, matches, ends_at, last_from}
use Rattle.trace_index.specs.Releases.{release_in, HasReleaseRoom}

-- The tables of the n places from k on.
pub record AreSegmentTables (s : Trace) (k n : ℕ) (m : SegmentTable) : Type 0 where
  pub last_are : (q : Key) → get same_key m.last q ≡ last_from (matches s q) k n
  pub releases_are : (a : ℕ) → release_in m.releases a ≡ last_from (ends_at s a) k n

-- The tables of the sealed segments, from the first one on.
abbrev pub AreSealed : Trace → List (Arc SegmentTable Global) → Type 0
AreSealed s sealed = (j : ℕ) (m : Arc SegmentTable Global) → slice_get sealed j ≡ Some m →
    AreSegmentTables s (4096 * j) 4096 (arc_value m)

-- The tables of the first n places, in segments.
pub record AreAllTables (s : Trace) (n : ℕ) (sealed : List (Arc SegmentTable Global))
    (tail : SegmentTable) : Type 0 where
  pub sealed_are : AreSealed s sealed
  pub tail_are : AreSegmentTables s (4096 * length sealed) (n - 4096 * length sealed) tail
  pub begun : 4096 * length sealed ≤ n
  pub few : n ≤ 4096 * length sealed + 4096

-- Memory is reserved for as many places as the tables say.
pub record HasRoomAhead (m : SegmentTable) : Type 0 where
  pub last_room : 2 * m.room ≤ spare m.last
  pub releases_room : HasReleaseRoom m.releases m.room

-- Memory is reserved for one more place.
pub record HasPlaceRoom (m : SegmentTable) : Type 0 where
  pub some_room : 0 < m.room
  pub ahead : HasRoomAhead m

-- The two tables have the same places and releases.
pub record IsSame (a b : SegmentTable) : Type 0 where
  pub last_same : (q : Key) → get same_key a.last q ≡ get same_key b.last q
  pub releases_same : (p : ℕ) → release_in a.releases p ≡ release_in b.releases p

-- The tables of the places from k up to n.
abbrev pub AreTablesFrom : Trace → ℕ → ℕ → SegmentTable → Type 0
AreTablesFrom s k n m = AreSegmentTables s k (n - k) m

-- The tables of shared segments.
abbrev pub tables_of : List (Arc SegmentTable Global) → List SegmentTable
tables_of sealed = map (λ m. arc_value {X = SegmentTable} m) sealed

-- The tables of a trace of which these n events are a prefix.
abbrev pub AreTablesOfPrefix : List (Arc SegmentTable Global) → SegmentTable → Trace → ℕ → Type 0
AreTablesOfPrefix sealed tail s n = (r : Trace) × (m : ℕ) × AreAllTables r m sealed tail × (n ≤ m)
    × (s ≡ take n r)
