-- The entries of a table: dependencies and places, both by number.
use Rattle.std.specs.Prelude.{◌≡◌, ℕ, suc, ◌≤◌, ◌&&◌, List, [], ◌∷◌, length}
use Rattle.segments.specs.Notes.{noted_places, Ascend}
use Rattle.trace_model.specs.Theory.Dependencies.{Dependency}
use Rattle.dependencies.specs.declared.entries.Entries.{Entries}
use Rattle.dependencies.specs.Tables.{Listing, DependencyTable}

-- The dependencies from number k on, each with its places.
abbrev pub listing_from : ℕ → List Dependency → List (ℕ × ℕ) → Listing
listing_from k [] notes = []
listing_from k (d ∷ ds) notes = (d, noted_places notes k) ∷ listing_from (suc k) ds notes

-- The listing of the entries.
abbrev pub listing_of : Entries → Listing
listing_of e = listing_from 0 e.keys.keys e.places.notes

-- The value of the table with these entries.
abbrev pub shown_by : Entries → DependencyTable
shown_by e = record { shown = listing_of e; room = e.places.room && e.keys.room }

-- Each dependency has a number, no later number has a place, and the places ascend from note to
-- note.
pub record IsKeptOf (ds : List Dependency) (notes : List (ℕ × ℕ)) (numbers : ℕ) : Type 0 where
  pub counted : length ds ≤ numbers
  pub beyond : (m : ℕ) → length ds ≤ m → noted_places notes m ≡ []
  pub ascend : Ascend notes

-- The invariant of the entries.
abbrev pub AreRightEntries : Entries → Type 0
AreRightEntries e = IsKeptOf e.keys.keys e.places.notes e.places.numbers
