use Rattle.std.proofs.Common.{◌≡◌, ℕ, ◌+◌, ◌*◌, ◌≤◌, length}
use Rattle.trace_model.specs.Theory.Closure.{Places}
use Rattle.fronts.specs.Propagation.{AreSame, AreKnownSlots, IsFit, AreAtFront, IsBound, IsConsistent}
use Rattle.fronts.specs.Context.{fronts, processed_count, total, context_events, slots, items, state}
use Rattle.fronts.proofs.RunLemmas.{undone}
use Rattle.fronts.proofs.propagation.Propagation.run.Given as goal

abbrev pub invariant-loop-slot : goal.invariant-loop-slot
invariant-loop-slot g l = record {
  fits : IsFit (context_events l.context) l.context.requirements.now l.context.under.now l.self;
  consistent : IsConsistent (items l.context) (state l.context l.self);
  known : AreKnownSlots l.context.requirements.now.threads.count l.self.pending.items;
  behind : AreAtFront (context_events l.context) (slots l.context) (fronts l.context l.self) l.members;
  same : AreSame l.fn.members l.members;
  steps : l.steps + total l.context l.fn.self ≡ l.fn.steps + total l.context l.self;
  grows : (a : ℕ) → fronts l.context l.fn.self a ≤ fronts l.context l.self a;
  bound : (set : Places) → IsBound (context_events l.context) (slots l.context) (fronts l.context l.fn.self) l.fn.members set → IsBound (context_events l.context) (slots l.context) (fronts l.context l.self) l.members set;
}

abbrev pub decreases-loop-slot : goal.decreases-loop-slot
decreases-loop-slot g l =
    2 * undone l.context.requirements.now (processed_count l.context l.self) l.context.requirements.now.threads.count + length l.self.pending.items
