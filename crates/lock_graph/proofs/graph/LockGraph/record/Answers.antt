use Rattle.std.proofs.Common.{ℕ, List, ap, ◌∙◌}
use Rattle.lock_graph.specs.Lists.{listed_with}
use Rattle.lock_graph.specs.Graph.{holders}
use Rattle.lock_graph.proofs.Growing.{graph-more}
use Rattle.lock_graph.proofs.graph.LockGraph.record.Goals as goal

pub returns-clause-graph : goal.returns-clause-graph
returns-clause-graph c ds e g = graph-more ds c.args.dependency.now c.args.number _ _ e
    (λ lock. c.record.ensures lock ∙ ap (λ (held : List ℕ). listed_with held c.args.number lock (holders c.args.self.now lock)) (c.locks.ensures.value ∙ ap (λ d. d.held) c.dependency.view_is)) g
