-- Positions of numbers among the entries of a map.
use Rattle.std.specs.Prelude.{◌≡◌, ℕ, List, Option, Some, None, nat_eq, slice_get}
use Rattle.std.specs.Map.{keys_of, values_of, lookup}

-- The number is at the position with its value, or has no entry if the position is none.
pub record HasNumberAt {V : Type 0} (entries : List (ℕ
    × V)) (number : ℕ) (position : Option ℕ) : Type 0 where
  pub key : (i : ℕ) → position ≡ Some i → slice_get (keys_of entries) i ≡ Some number
  pub value : (i : ℕ) → position ≡ Some i →
      slice_get (values_of entries) i ≡ lookup (nat_eq number) entries
  pub absent : position ≡ None → lookup (nat_eq number) entries ≡ None
