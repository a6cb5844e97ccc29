use Rattle.std.proofs.Common.{length, ap, arith}
use Rattle.reports.proofs.Runs.{part_within, run_part}
use Rattle.reports.proofs.numeral_cache.NumeralCache.run.Goals as goal

pub overflow_add-end : goal.overflow_add-end
overflow_add-end c =
    omega (arith, part_within c.args.self.now.count c.args.first c.args.count c.requires.kept, ap length c.args.self.now.whole, c.args.self.now.text.small)

pub slice_bounds-result-end : goal.slice_bounds-result-end
slice_bounds-result-end c =
    omega (arith, part_within c.args.self.now.count c.args.first c.args.count c.requires.kept, ap length c.args.self.now.whole, ap length c.deref.ensures.value)

pub returns : goal.returns
returns c =
    rw (c.run-start.ensures, c.run.ensures, c.deref.ensures.value, c.args.self.now.whole)
    (run_part c.args.self.now.count c.args.first c.args.count c.requires.kept)
