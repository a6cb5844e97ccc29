use Rattle.std.proofs.Common.{◌≡◌, ◌≤◌, false, length, subst, arith}
use Rattle.std.proofs.lemmas.List.{take_all}
use Rattle.std.proofs.lemmas.List.Elements.{All-more}
use Rattle.std.specs.List.{All}
use Rattle.cycle_search.proofs.components.are_unset.Goals as goal

pub loop-flag-preserved : goal.loop-flag-preserved
loop-flag-preserved c =
    All-more (λ flag. flag ≡ false) c.args.flags.now c.loop-flag.flag-index false c.loop-flag-test.true
    c.loop-flag.invariant c.if-flag.false

pub returns : goal.returns
returns c t =
    let end : length c.args.flags.now ≤ c.loop-flag.flag-index = omega arith in
    subst (All (λ flag. flag ≡ false)) (take_all c.loop-flag.flag-index c.args.flags.now end) c.loop-flag.invariant
