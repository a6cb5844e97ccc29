use Rattle.std.proofs.Common.{◌≡◌, List, ◌++◌, length}
use Rattle.trace_model.specs.declared.refutations.RefutationStep.{RefutationStep}
use Rattle.trace_model.specs.Theory.Refutation.{Refutes}
use Rattle.trace_model.proofs.Theory.Refutation.{ArePresent}
use Rattle.explain.specs.Moving.{AreEntries}
use Rattle.explain.proofs.refute.refutation_of.Given as goal

-- The steps so far lead from the first places to the present ones.
abbrev pub invariant-loop-count : goal.invariant-loop-count
invariant-loop-count l = record {
  present : ArePresent l.index.events l.members l.places.items;
  entries : AreEntries l.table l.members l.places.items l.entries.items;
  as_many : length l.entries.items ≡ length l.members;
  counted : length l.steps.items ≡ l._count;
  refutes : (rest : List RefutationStep) → Refutes l.index.events l.members l.places.items rest →
      Refutes l.index.events l.members l.initial.places.items (l.steps.items ++ rest);
}
