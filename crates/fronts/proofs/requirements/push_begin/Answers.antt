use Rattle.std.proofs.lemmas.Result.{on_ok_weaker}
use Rattle.fronts.specs.Pushing.{trace_with_slots}
use Rattle.fronts.proofs.BuildLemmas.{begin_added}
use Rattle.fronts.proofs.requirements.push_begin.Goals as goal

pub returns : goal.returns
returns c =
    on_ok_weaker c.push_requirement.result (begin_added (trace_with_slots c.args.index.now.events) c.args.place c.args.position.count c.begin_of-begin.result c.args.items.now.items _
    c.requires.position.number c.requires.needs c.begin_of-begin.ensures) c.push_requirement.ensures
