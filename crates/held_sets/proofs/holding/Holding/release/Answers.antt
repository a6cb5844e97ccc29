use Rattle.std.proofs.Common.{◌-◌, ap, ◌∙◌}
use Rattle.held_sets.proofs.Holdings.{released}
use Rattle.held_sets.proofs.holding.Holding.release.Goals as goal

pub returns : goal.returns
returns c = released c.args.self.now c.set_depth.new.self c.args.lock c.saturating_sub.result (c.saturating_sub.ensures ∙ ap (λ n. n - 1) c.depth-depth.ensures) c.set_depth.ensures
