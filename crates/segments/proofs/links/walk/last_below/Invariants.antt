use Rattle.std.proofs.Common.{◌≡◌, ℕ, ◌<◌, ◌≤◌, suc, Some, true}
use Rattle.std.specs.Option.{option_map_or, IsSomeAnd}
use Rattle.segments.proofs.links.walk.last_below.Given as goal

abbrev pub invariant-loop-at : goal.invariant-loop-at
invariant-loop-at g l = record {
  there : (i : ℕ) → l.at ≡ Some i → (i < g.L.Linked.size l.list) × (g.L.Linked.matches l.list i ≡ true);
  later : (u : ℕ) → u < l.bound → g.L.Linked.matches l.list u ≡ true → IsSomeAnd l.at (λ i. u ≤ i);
}

abbrev pub decreases-loop-at : goal.decreases-loop-at
decreases-loop-at g l = option_map_or (λ i. suc i) l.at 0
