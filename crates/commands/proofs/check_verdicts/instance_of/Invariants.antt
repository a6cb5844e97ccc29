use Rattle.std.proofs.Common.{◌≡◌, ◌≤◌, Some, length, map, take, vec_capacity}
use Rattle.commands.proofs.check_verdicts.instance_of.Given as goal

-- The places of the members so far.
abbrev pub invariant-loop-member : goal.invariant-loop-member
invariant-loop-member l = record {
  are : map (λ m. m.place) (take l.member-index l.members) ≡ map Some l.places.items;
  room : length l.members ≤ vec_capacity l.places;
  count : length l.places.items ≡ l.member-index;
}
