use Rattle.std.proofs.Common.{◌≡◌, ◌+◌, ◌≤◌, max}
use Rattle.fronts.proofs.fronts.Front.raised.Given as goal

abbrev pub invariant-loop-place : goal.invariant-loop-place
invariant-loop-place g l = record {
  front : l.front ≡ l._place;
  least : l.fn.self ≤ l._place;
  most : l._place ≤ max l.fn.self l.fn.count;
  steps : l.steps + l.fn.self ≡ l.fn.steps + l.front;
}
