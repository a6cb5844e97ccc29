use Rattle.std.proofs.Common.{◌-◌}
use Rattle.trace_model.specs.Theory.Closure.{ascending_places}
use Rattle.fronts.specs.State.{included_set}
use Rattle.reports.specs.Text.{number_list}
use Rattle.reports.specs.Sinks.{AppendsText}
use Rattle.reports.proofs.write.write_places.Given as goal

abbrev pub invariant-loop-range : goal.invariant-loop-range
invariant-loop-range g l = AppendsText g.T.Sink.room l.initial.text (number_list (ascending_places (included_set l.fronts) l.at)) l.text

abbrev pub decreases-loop-range : goal.decreases-loop-range
decreases-loop-range g l = l.fronts.end - l.at
