use Rattle.std.proofs.Common.{ℕ, List}
use Rattle.trace_model.specs.Theory.Trace.{Trace}
use Rattle.explain.specs.DerivationSearch.{IsSearch}
use Rattle.explain.specs.Needed.{AreClosed, IsNeededDerivation}
use Rattle.explain.proofs.extract.add_marked.Given as goal

-- The entries so far are a derivation, and none is about the place.
abbrev pub invariant-loop-i : goal.invariant-loop-i
invariant-loop-i l = (s : Trace) (places : List ℕ) → IsSearch s places l.search → AreClosed l.search l.needed 0 →
    IsNeededDerivation s places l.search l.needed l.place l.i l.made.items
