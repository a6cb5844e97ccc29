use Rattle.fronts.proofs.PushLemmas.{start_is}
use Rattle.fronts.proofs.requirements.start_of.Goals as goal

pub returns-then-facts-eq0 : goal.returns-then-facts-eq0
returns-then-facts-eq0 c =
    let v = c.args.facts.now.event in
    start_is c.args.index.now.events c.args._place v.thread c.fork_of.result (v.op, c.requires.event) c.fork_of.ensures
