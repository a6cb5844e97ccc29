use Rattle.std.proofs.Common.{◌≡◌, ℕ, ◌<◌, ◌≤◌, List, Some}
use Rattle.std.specs.List.{Contains}
use Rattle.trace_model.specs.Theory.Trace.{OfThread}
use Rattle.explain.specs.DerivationSearch.{IsUpTo, IsIn, IsSearch, HasFork, HasFollowed, AddsFollowed}
use Rattle.explain.proofs.search.DerivationSearch.walk.Given as goal

-- The places after the next one are followed.
abbrev pub invariant-loop-count : goal.invariant-loop-count
invariant-loop-count l = record {
  on : (t n : ℕ) → OfThread l.index.events l.range.prefix.last t → l.next ≡ Some n → OfThread l.index.events n t × (n ≤ l.range.prefix.last);
  followed : (followed : List ℕ) → IsSearch l.index.events l.places l.fn.self → IsIn l.index.events l.places l.fn.self l.range.prefix →
      HasFollowed l.index.events followed l.fn.self →
      (all : List ℕ) × AddsFollowed l.index.events l.places l.fn.self all l.self
      × ((q : ℕ) → Contains followed q → Contains all q)
      × HasFork l.index.events l.self l.range.prefix.last
      × ((q : ℕ) → IsUpTo l.index.events q (Some l.range.prefix.last) → ((n : ℕ) → l.next ≡ Some n → n < q) → Contains all q);
}
