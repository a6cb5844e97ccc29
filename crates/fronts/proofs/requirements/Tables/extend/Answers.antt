use Rattle.std.proofs.Common.{◌≡◌, subst, arith}
use Rattle.fronts.specs.Tables.{AreRequirementTables}
use Rattle.fronts.proofs.requirements.Tables.extend.Goals as goal

pub returns : goal.returns
returns c =
    let at_end : c.loop-place.place ≡ c.args.end = omega (arith, c.loop-place-test.false, c.loop-place.auto.place-end, c.requires.order) in
    subst (λ p. AreRequirementTables c.args.index.now.events p c.loop-place.self) at_end c.loop-place.invariant
