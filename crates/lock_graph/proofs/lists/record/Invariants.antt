use Rattle.std.proofs.Common.{◌≡◌, ℕ, ◌<◌, ◌≤◌, get_or, take, length}
use Rattle.lock_graph.specs.Lists.{lock_numbers, listed_with, HasRoomAt}
use Rattle.lock_graph.proofs.lists.record.Given as goal

abbrev pub invariant-loop-lock : goal.invariant-loop-lock
invariant-loop-lock l = record {
  shown : (other : ℕ) → lock_numbers l.lists other ≡ listed_with (take l.lock-index l.locks) l.number other (lock_numbers l.fn.lists other);
  room : (k : ℕ) → l.lock-index ≤ k → k < length l.locks → HasRoomAt l.lists (get_or l.locks k 0);
}
