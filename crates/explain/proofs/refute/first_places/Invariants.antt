use Rattle.std.proofs.Common.{◌≡◌, ◌≤◌, length, vec_capacity}
use Rattle.explain.specs.Moving.{HaveFirst}
use Rattle.explain.proofs.refute.first_places.Given as goal

-- The places so far are the first ones.
abbrev pub invariant-loop-number : goal.invariant-loop-number
invariant-loop-number l = record {
  sized : length l.places.items ≡ l.number-index;
  room : length l.members ≤ vec_capacity l.places;
  first : HaveFirst l.table l.members l.places.items l.number-index;
}
