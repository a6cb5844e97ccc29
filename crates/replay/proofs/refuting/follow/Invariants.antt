use Rattle.std.proofs.Common.{◌≡◌, drop, length}
use Rattle.replay.specs.declared.refutation_verdict.RefutationVerdict.{RefutationVerdict}
use Rattle.replay.specs.Refuting.{IsVerdictFrom, IsUnmarked}
use Rattle.replay.proofs.refuting.follow.Given as goal

-- The verdict on the steps that are left, from the present places on, is that on all steps.
abbrev pub invariant-loop-k : goal.invariant-loop-k
invariant-loop-k l = record {
  as_many : length l.places.items ≡ length l.members;
  sized : length l.marks.items ≡ length l.trace;
  unmarked : IsUnmarked l.marks.items;
  verdict : (v : RefutationVerdict) → IsVerdictFrom l.trace l.members l.places.items (drop l.k l.steps) l.k v →
      IsVerdictFrom l.trace l.members l.fn.places.items l.steps 0 v;
}
