use Rattle.std.proofs.Common.{ap, ◌∙◌}
use Rattle.held_sets.specs.Tables.{depth_of}
use Rattle.held_sets.proofs.Holdings.{found}
use Rattle.held_sets.proofs.holding.Holding.depth.Goals as goal

pub returns : goal.returns
returns c =
    (found c.args.lock c.self.inside.locks.items _ c.index_for.result c.found_depth.result c.as_slice-locks.ensures.value c.self.invariant c.index_for.ensures c.found_depth.ensures).1
    ∙ ap (λ ds. depth_of ds c.args.lock) c.self.view_is
