use Rattle.std.proofs.Common.{refl}
use Rattle.sp_closure.proofs.TimelineLemmas.{all_zeros}
use Rattle.sp_closure.proofs.LeastLemmas.{none_confirmed}
use Rattle.sp_closure.proofs.timelines.Timestamps.excludes.Goals as goal

pub stamp_all-requires-clause-from : goal.stamp_all-requires-clause-from
stamp_all-requires-clause-from c = all_zeros c.args.self.now c.args.numbers.now

pub loop-round-init : goal.loop-round-init
loop-round-init c = record {
  entries = refl;
  stamps = c.stamp_all.ensures.length;
  from = all_zeros c.args.self.now c.args.numbers.now;
  held = c.stamp_all.ensures.held;
}

pub returns-in-None : goal.returns-in-None
returns-in-None c = λ is s are known confirmed.
    none_confirmed s c.args.numbers.now known (λ set closed stop. c.in-None.ensures.from s are set closed stop) confirmed
