use Rattle.std.proofs.Common.{◌≡◌, take}
use Rattle.explain.specs.DerivationSearch.{CoversAll, IsBefore}
use Rattle.explain.proofs.search.DerivationSearch.begin.Given as goal

-- The places before the places so far are derived.
abbrev pub invariant-loop-k : goal.invariant-loop-k
invariant-loop-k l = record {
  locks : l.self.locks ≡ l.fn.self.locks;
  covered : CoversAll l.index.events l.places l.fn.self (IsBefore l.index.events (take l.k l.places)) l.self;
}
