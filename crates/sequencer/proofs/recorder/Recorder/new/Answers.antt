use Rattle.std.proofs.Common.{None, ap}
use Rattle.trace_model.specs.Theory.Trace.{Trace}
use Rattle.wellformed.specs.Gate.{GateView}
use Rattle.sequencer.proofs.Recorded.{recorded_none}
use Rattle.sequencer.proofs.recorder.Recorder.new.Goals as goal

pub invariant_of-result : goal.invariant_of-result
invariant_of-result c =
    recorded_none c.args.max_events c.new.result c.new-2.result c.new-3.result c.requires c.new-2.ensures.events c.new.ensures c.new-3.ensures

pub returns : goal.returns
returns c = ap {B = GateView} (λ (s : Trace). record { limit = c.args.max_events; events = s; reserved = None }) c.new-2.ensures.events
