use Rattle.std.proofs.Common.{sym, subst, refl, []}
use Rattle.dependencies.specs.Keys.{AreListed}
use Rattle.dependencies.proofs.Numbering.{no_dependency}
use Rattle.dependencies.proofs.keys.Keys.new.Goals as goal

pub invariant_of-result : goal.invariant_of-result
invariant_of-result c =
    subst (λ ds. AreListed ds c.new-2.result.hashes c.args.state) (sym c.new.ensures)
    (subst (λ hs. AreListed [] hs c.args.state) (sym c.new-2.ensures) (record { once = no_dependency; first = refl }))
