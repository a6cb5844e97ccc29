use Rattle.std.proofs.Common.{◌≡◌, ℕ, ◌<◌, slice_get, Some}
use Rattle.explain.specs.DerivationSearch.{IsDerived}
use Rattle.explain.proofs.search.DerivationSearch.caught.Given as goal

-- The places so far are not derived.
abbrev pub invariant-loop-k : goal.invariant-loop-k
invariant-loop-k l = (j p : ℕ) → j < l.k → slice_get l.places j ≡ Some p → IsDerived l.index.events l.self p → ⊥
