use Rattle.std.proofs.Common.{Some, ap, ◌∙◌}
use Rattle.trace_model.specs.Theory.Trace.{event}
use Rattle.fronts.proofs.PushLemmas.{first_join}
use Rattle.fronts.proofs.requirements.first_need.Goals as goal

pub returns-in-Join : goal.returns-in-Join
returns-in-Join c =
    let v = c.args.facts.now.event in
    first_join c.args.index.now.events c.args._place v.thread c.in-Join.child c.fork_of.result (c.requires.event ∙ ap (λ o. Some (event v.thread o)) c.in-Join.is) c.fork_of.ensures
