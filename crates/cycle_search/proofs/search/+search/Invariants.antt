use Rattle.std.proofs.Common.{◌≡◌, ◌-◌, ◌*◌, ◌≤◌, length}
use Rattle.cycle_search.specs.Collecting.{TakesSoFar}
use Rattle.cycle_search.specs.CycleSearch.{CycleOver, IsAmong, CycleUpTo}
use Rattle.cycle_search.proofs.search.+search.Given as goal

abbrev pub decreases-extend : goal.decreases-extend
decreases-extend g l = 4 * (l.search.now.members - length l.path.now.items)

abbrev pub decreases-close : goal.decreases-close
decreases-close g l = 4 * (l.search.now.members - length l.path.now.items) - 1

abbrev pub decreases-visit : goal.decreases-visit
decreases-visit g l = 4 * (l.search.now.members - length l.path.now.items) - 2

abbrev pub decreases-follow : goal.decreases-follow
decreases-follow g l = 4 * (l.search.now.members - length l.path.now.items) - 3

abbrev pub invariant-extend-loop-next : goal.invariant-extend-loop-next
invariant-extend-loop-next g l = record {
  same : l.path.items ≡ l.fn.path.items;
  paced : l.next-index ≡ 0 → l.pace ≡ l.fn.pace;
  added : TakesSoFar g.C.Collector.taking (CycleOver l.search.search_input.now l.search.members l.fn.path.items (IsAmong l.nexts l.next-index)) l.fn.collector l.collector;
}

abbrev pub decreases-close-loop-next : goal.decreases-close-loop-next
decreases-close-loop-next g l = length l.search.search_input.now - l.last

abbrev pub invariant-close-loop-next : goal.invariant-close-loop-next
invariant-close-loop-next g l = record {
  same : l.path.items ≡ l.fn.path.items;
  from : l.fn.after ≤ l.last;
  paced : l.last ≡ l.fn.after → l.pace ≡ l.fn.pace;
  added : TakesSoFar g.C.Collector.taking (CycleUpTo l.search.search_input.now l.search.members l.fn.path.items l.fn.after l.last) l.fn.collector l.collector;
}
