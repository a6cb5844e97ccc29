-- The set of places that fronts represent.
use Rattle.std.specs.Prelude.{◌≡◌, ℕ, ◌-◌, ◌<◌, ◌≤◌, ◌&&◌, nat_lt, IsTrue, IsFalse, List, ◌++◌, length, slice_get, unwrap_or}
use Rattle.std.specs.Arc.{arc_value}
use Rattle.std.specs.List.{range_with_len}
use Rattle.fronts.specs.declared.fronts.Fronts.{Fronts}
use Rattle.trace_model.specs.Theory.Trace.{Trace}
use Rattle.trace_model.specs.Theory.Closure.{Places, ascending_places}
use Rattle.fronts.specs.Slots.{among}

-- The number of included places of the slot's thread.
abbrev pub included_count : Fronts → ℕ → ℕ
included_count f a = unwrap_or (slice_get f.counts.items a) 0

-- The set of included places.
abbrev pub included_set : Fronts → Places
included_set f p = nat_lt p f.end && among (arc_value f.positions) (included_count f) p

-- The included places, ascending.
abbrev pub included_places : Fronts → List ℕ
included_places f = ascending_places (included_set f) f.end

-- The places from `start` up to `end` are included, and no other one from `at` on before them.
pub record IsNextRange (f : Fronts) (at start end : ℕ) : Type 0 where
  pub later : at ≤ start
  pub some : start < end
  pub within : end ≤ f.end
  pub places : ascending_places (included_set f) end ≡
      ascending_places (included_set f) at ++ range_with_len start (end - start)

-- The number of included places.
abbrev pub size_in : Trace → Fronts → ℕ
size_in s f = length (ascending_places (included_set f) (length s))

-- From `p` on, the places before `rest` are included, and those from there up to `end` are not.
pub record IsSetRun (f : Fronts) (p rest end : ℕ) : Type 0 where
  pub later : p < end
  pub order : (p ≤ rest) × (rest ≤ end)
  pub within : end ≤ f.end
  pub in_set : (q : ℕ) → p ≤ q → q < rest → IsTrue (included_set f q)
  pub outside : (q : ℕ) → rest ≤ q → q < end → IsFalse (included_set f q)
