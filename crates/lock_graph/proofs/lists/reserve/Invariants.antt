use Rattle.std.proofs.Common.{◌≡◌, ℕ, ◌<◌, get_or}
use Rattle.lock_graph.specs.Lists.{lock_numbers, HasRoomAt}
use Rattle.lock_graph.proofs.lists.reserve.Given as goal

abbrev pub invariant-loop-lock : goal.invariant-loop-lock
invariant-loop-lock l = record {
  shown : (other : ℕ) → lock_numbers l.lists other ≡ lock_numbers l.fn.lists other;
  room : (k : ℕ) → k < l.lock-index → HasRoomAt l.lists (get_or l.locks k 0);
}
