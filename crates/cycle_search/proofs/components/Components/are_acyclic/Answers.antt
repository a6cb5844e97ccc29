use Rattle.std.proofs.Common.{◌≡◌, false, subst}
use Rattle.std.specs.List.{All}
use Rattle.cycle_search.proofs.ComponentLemmas.{no-cycle}
use Rattle.cycle_search.proofs.components.Components.are_acyclic.Goals as goal

pub returns : goal.returns
returns c t = λ ds bound numbers are cycle.
    no-cycle ds bound numbers c.args.self.now (subst (All (λ flag. flag ≡ false)) c.as_slice.ensures.value (c.are_unset.ensures t)) are cycle
