use Rattle.std.proofs.Common.{◌≡◌, length, take}
use Rattle.trace_model.specs.Theory.Refutation.{IsDerivation, derived_places}
use Rattle.replay.specs.Refuting.{AreMarksOf}
use Rattle.replay.proofs.reasons.first_unjustified.Given as goal

-- The entries so far are a derivation, and exactly their places are marked.
abbrev pub invariant-loop-entry : goal.invariant-loop-entry
invariant-loop-entry l = record {
  sized : length l.marks.items ≡ length l.trace;
  derives : IsDerivation l.trace l.places (take l.entry-index l.entries);
  marked : AreMarksOf l.marks.items (derived_places (take l.entry-index l.entries));
}
