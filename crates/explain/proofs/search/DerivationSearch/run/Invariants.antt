use Rattle.std.proofs.Common.{ℕ, ◌≤◌, List, length}
use Rattle.explain.specs.DerivationSearch.{IsDerived, IsSearch, IsBefore, HasFollowed}
use Rattle.explain.proofs.Finished.{HasWalked}
use Rattle.explain.proofs.search.DerivationSearch.run.Given as goal

-- The first ranges are followed.
abbrev pub invariant-loop-k : goal.invariant-loop-k
invariant-loop-k l = record {
  search : IsSearch l.index.events l.places l.self;
  before : (p : ℕ) → IsBefore l.index.events l.places p → IsDerived l.index.events l.self p;
  within : l.k ≤ length l.self.ranges.items;
  followed : (all : List ℕ) × HasFollowed l.index.events all l.self × HasWalked l.index.events l.self all l.k;
}
