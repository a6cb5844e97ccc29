use Rattle.std.proofs.Common.{◌≡◌, length, subst, arith}
use Rattle.fronts.specs.Tables.{AreRequirementTables}
use Rattle.fronts.proofs.requirements.Requirements.build_while.Goals as goal

pub into_requirements-requires : goal.into_requirements-requires
into_requirements-requires c =
    let s = c.args.index.now.events in
    let at_end : c.loop-end.end ≡ length s = omega (arith, c.loop-end-test.false, c.len.ensures.length, c.loop-end.invariant.1) in
    subst (λ p. AreRequirementTables s p c.loop-end.tables) at_end c.loop-end.invariant.0
