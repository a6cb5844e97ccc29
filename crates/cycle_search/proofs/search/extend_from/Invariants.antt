use Rattle.std.proofs.Common.{◌≡◌, ◌≤◌, ◌++◌, ◌∷◌, ℕ, List, length, slice_index}
use Rattle.cycle_search.specs.Collecting.{TakesSoFar}
use Rattle.cycle_search.specs.CycleSearch.{IsPath}
use Rattle.cycle_search.specs.Pausing.{IsListBefore, SearchedFrom, position_at}
use Rattle.cycle_search.proofs.Positions.{end_of}
use Rattle.cycle_search.proofs.search.extend_from.Given as goal

abbrev pub invariant-loop-path : goal.invariant-loop-path
invariant-loop-path g l = record {
  shorter : (m : ℕ) × (rest : List ℕ) × (position_at l.fn.path.items l.fn.last ≡ l.path.items ++ m ∷ rest);
  path : IsPath l.search.search_input.now l.path.items;
  room : length l.path.items ≤ length l.fn.path.items;
  first : slice_index l.path.items 0 ≡ slice_index l.fn.path.items 0;
  added : TakesSoFar g.C.Collector.taking (IsListBefore (SearchedFrom l.search l.fn.path l.fn.last) (end_of l.path.items)) l.fn.collector l.collector;
}

abbrev pub decreases-loop-path : goal.decreases-loop-path
decreases-loop-path g l = length l.path.items
