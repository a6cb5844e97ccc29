use Rattle.fronts.specs.Slots.{slots_of}
use Rattle.sp_closure.proofs.TimestampLemmas.{AreMade}
use Rattle.sp_closure.proofs.timestamps.add_places.Given as goal

abbrev pub invariant-loop-entry : goal.invariant-loop-entry
invariant-loop-entry l = AreMade l.fn.index.events (slots_of l.fn.threads) l.places.items l.fn.entries.items l.entry l.entries.items
