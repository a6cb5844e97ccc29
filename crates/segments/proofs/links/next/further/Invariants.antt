use Rattle.std.proofs.Common.{◌≡◌, ◌≤◌, true}
use Rattle.segments.proofs.links.next.further.Given as goal

abbrev pub invariant-loop : goal.invariant-loop
invariant-loop g l = record {
  within : l.jump ≤ l.fn.index;
  passes_is : g.L.Linked.matches l.list l.jump ≡ true;
}
