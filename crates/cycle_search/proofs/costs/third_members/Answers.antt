use Rattle.std.proofs.Common.{get_or}
use Rattle.std.proofs.lemmas.Grind.{get_or_default_zero}
use Rattle.cycle_search.proofs.costs.third_members.Goals as goal

pub successors_after-requires-clause-next : goal.successors_after-requires-clause-next
successors_after-requires-clause-next c =
    let i = c.loop-next.next-index in
    let items = c.args.nexts.now in
    let m = get_or items i 0 in
    c.requires.nexts m (i, c.loop-next-test.true, get_or_default_zero items i m c.loop-next-test.true)
