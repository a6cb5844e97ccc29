use Rattle.std.proofs.Common.{◌++◌, sym, subst}
use Rattle.trace_model.specs.Theory.Lawful.{IsWellFormed}
use Rattle.trace_index.specs.Room.{IndexView}
use Rattle.trace_index.proofs.TraceIndex.extend_counted.Goals as goal

pub extend-requires-clause-lawful : goal.extend-requires-clause-lawful
extend-requires-clause-lawful g c = subst (λ (v : IndexView). IsWellFormed (v.events ++ c.args.events.now)) (sym c.self.view_is) c.requires.lawful
