use Rattle.std.proofs.Common.{◌≡◌, ◌<◌, ◌≤◌, true}
use Rattle.segments.specs.Linking.{IsLink}
use Rattle.segments.proofs.links.walk.entry_before.Given as goal

abbrev pub invariant-loop-link : goal.invariant-loop-link
invariant-loop-link g l = record {
  within : l.index < g.L.Linked.size l.list;
  passes_is : g.L.Linked.matches l.list l.index ≡ true;
  link_is : IsLink (g.L.Linked.matches l.list) l.index l.link;
  number_le : l.number ≤ l.link.number;
}

abbrev pub decreases-loop-link : goal.decreases-loop-link
decreases-loop-link g l = l.index
