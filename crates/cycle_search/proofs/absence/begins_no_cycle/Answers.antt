use Rattle.std.proofs.Common.{ap, length, arith}
use Rattle.cycle_search.proofs.absence.begins_no_cycle.Goals as goal

pub returns : goal.returns
returns c t numbers cycle =
    let more = c.keep_cycles.ensures.each t numbers cycle in
    let most = c.keep_cycles.ensures.most t in
    omega (arith, more, most, c.new-none.ensures.most, c.keep_cycles.new.kept.within)
