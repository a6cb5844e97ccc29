-- The dependencies of a prefix of the trace.
use Rattle.std.proofs.Common.{◌≡◌, ℕ, ◌≤◌, length, take, ap, ◌∙◌}
use Rattle.std.proofs.lemmas.List.{length-take-le}
use Rattle.trace_model.specs.Theory.Dependencies.{dependencies, dependencies_below}
use Rattle.trace_model.proofs.Theory.Dependencies.{dependencies-agree}
use Rattle.trace_model.proofs.Lists.{get-take}
use Rattle.trace_model.specs.Theory.Trace.{Trace}

-- the dependencies of the first events are the first dependencies
pub dependencies_first : (s : Trace) (n : ℕ) → n ≤ length s → dependencies (take n s) ≡ dependencies_below s n
dependencies_first s n within = ap (dependencies_below (take n s)) (length-take-le n s within) ∙ dependencies-agree (take n s) s n (λ p below. get-take n s p below)
