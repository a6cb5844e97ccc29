use Rattle.trace_model.specs.Theory.Dependencies.{dependencies}
use Rattle.cycle_search.specs.CycleSearch.{CycleFrom}
use Rattle.cycle_search.proofs.Collecting.{takes-none}
use Rattle.cycle_search.proofs.Listing.{all-none}
use Rattle.findings.proofs.tables.Tables.collect.Goals as goal

pub returns-in-None : goal.returns-in-None
returns-in-None g c =
    let cycle = CycleFrom (dependencies c.args.snapshot.now) c.args.bound c.args.task in
    takes-none g.C.Collector.taking cycle c.args.collector.now (all-none cycle c.in-None.ensures)
