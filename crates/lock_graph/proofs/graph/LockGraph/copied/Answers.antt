use Rattle.lock_graph.proofs.Copied.{listed_copied}
use Rattle.lock_graph.proofs.graph.LockGraph.copied.Goals as goal

pub returns : goal.returns
returns c = λ lock. listed_copied lock c.args.self.now.lists.entries c.in_ok-lists.lists.entries c.in_ok-lists.ensures.cases
