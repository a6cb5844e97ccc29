use Rattle.std.proofs.Common.{◌≡◌, ℕ, ◌<◌, ◌≤◌, ◌-◌, not}
use Rattle.fronts.specs.State.{included_set}
use Rattle.fronts.proofs.fronts.Fronts.next.Given as goal

abbrev pub invariant-loop-place : goal.invariant-loop-place
invariant-loop-place l = record {
  later : l.at ≤ l.place;
  within : l.at ≤ l.self.end → l.place ≤ l.self.end;
  before : (p : ℕ) → l.at ≤ p → p < l.place → included_set l.self p ≡ not l.is_in;
}

abbrev pub decreases-loop-place : goal.decreases-loop-place
decreases-loop-place l = l.self.end - l.place
