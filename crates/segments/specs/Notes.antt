-- Notes: pairs of a number and a place, in the order in which they were recorded.
use Rattle.std.specs.Prelude.{◌≡◌, ℕ, ◌≤◌, Bool, false, ◌==◌, ◌&&◌, nat_lt, List, map, length, slice_get, Option, Some, vec_len, vec_capacity}
use Rattle.std.specs.List.{filter}
use Rattle.std.specs.List.Sorted.{IsStrictlyIncreasing}
use Rattle.std.specs.Option.{option_map_or, option_flatten}
use Rattle.std.specs.Global.{Vec}
use Rattle.trace_model.specs.Theory.Trace.{last_place}
use Rattle.segments.specs.Linking.{IsLink}
use Rattle.segments.specs.declared.numbered.note.Note.{Note}

-- The numbers and places of the notes.
abbrev pub pairs_of : List Note → List (ℕ × ℕ)
pairs_of notes = map (λ x. (x.number, x.place)) notes

-- The value of a table of numbered places: the notes, the count of numbers, and whether memory is
-- reserved for one more note.
pub record NumberedPlacesView : Type 0 where
  pub notes : List (ℕ × ℕ)
  pub numbers : ℕ
  pub room : Bool

-- The places of number m.
abbrev pub noted_places : List (ℕ × ℕ) → ℕ → List ℕ
noted_places notes m = map (λ e. e.1) (filter (λ e. e.0 == m) notes)

-- The places ascend from note to note.
abbrev pub Ascend : List (ℕ × ℕ) → Type 0
Ascend notes = IsStrictlyIncreasing (map (λ e. e.1) notes)

-- The notes with a place below n.
abbrev pub notes_below : ℕ → List (ℕ × ℕ) → List (ℕ × ℕ)
notes_below n notes = filter (λ e. nat_lt e.1 n) notes

-- The note with index i is one of number m.
abbrev pub is_of_number : List (ℕ × ℕ) → ℕ → ℕ → Bool
is_of_number notes m i = option_map_or (λ e. e.0 == m) (slice_get notes i) false

-- Each note has the link of its number.
abbrev pub AreNotes : List Note → Type 0
AreNotes notes = (i : ℕ) (x : Note) → slice_get notes i ≡ Some x →
    IsLink (is_of_number (pairs_of notes) x.number) i x.link

-- The heads are the last notes of each number.
abbrev pub AreHeads : List Note → List (Option ℕ) → Type 0
AreHeads notes heads = (m : ℕ) → option_flatten (slice_get heads m) ≡
    last_place (is_of_number (pairs_of notes) m) (length notes)

-- The invariant of a table of numbered places.
pub record IsNumberedTable (notes : List Note) (heads : List (Option ℕ)) : Type 0 where
  pub notes_are : AreNotes notes
  pub heads_are : AreHeads notes heads
  pub numbers_few : length heads ≤ 4294967296
  pub few : length notes ≤ 4294967296

-- Memory is reserved for one more note and one more head.
abbrev pub has_room : Bool → Vec (Option ℕ) → Bool
has_room room heads = room && nat_lt (vec_len heads) (vec_capacity heads)

-- The notes, whose places of number m ascend, with the last note of number m.
pub record IsPlacesOf (notes : List Note) (m : ℕ) (last : Option ℕ) : Type 0 where
  pub last_is : last ≡ last_place (is_of_number (pairs_of notes) m) (length notes)
  pub ascends : IsStrictlyIncreasing (noted_places (pairs_of notes) m)
  pub few : length notes ≤ 4294967296
