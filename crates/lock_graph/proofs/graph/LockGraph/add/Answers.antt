use Rattle.std.proofs.Common.{Result, Ok, Err, OnOk, ℕ, List, ap, ◌∙◌}
use Rattle.lock_graph.specs.Lists.{listed_with}
use Rattle.lock_graph.specs.Graph.{holders}
use Rattle.lock_graph.proofs.Growing.{graph-more}
use Rattle.lock_graph.proofs.graph.LockGraph.add.Goals as goal

-- a fact of an `Ok` value implies another
on_ok_then : {E A B : Type 0} (r : Result Unit E) → OnOk r A → (A → B) → OnOk r B
on_ok_then (Ok u) a f = f a
on_ok_then (Err e) a f = tt

pub returns-clause-graph : goal.returns-clause-graph
returns-clause-graph c = on_ok_then c.add.result c.add.ensures.ok
    (λ lists ds e g. graph-more ds c.args.dependency.now c.args.number _ _ e
    (λ lock. lists lock ∙ ap (λ (held : List ℕ). listed_with held c.args.number lock (holders c.args.self.now lock)) (c.locks.ensures.value ∙ ap (λ d. d.held) c.dependency.view_is)) g)
