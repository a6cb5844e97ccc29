use Rattle.std.proofs.Common.{arith}
use Rattle.std.proofs.lemmas.Grind.{common_steps}
use Rattle.std.proofs.lemmas.Option.{none-some}
use Rattle.sp_closure.proofs.BaseLemmas.{front_none}
use Rattle.sp_closure.proofs.scratch.ClosureScratch.new.Goals as goal

pub returns-clause-scratch : goal.returns-clause-scratch
returns-clause-scratch c = λ s are.
    let d = c.args.requirements.now in
    let k = d.threads.count in
    let l = d.lock_count in
    let none = c.in_ok-none.ensures in
    let base = c.in_ok-base.ensures.overlay in
    let upper = c.in_ok-upper.ensures.overlay in
    record {
      requirements = are;
      none = none;
      fits = record {
        room = record { fronts = base.fronts.size; done = base.done.size; last = base.last.size };
        fronts = λ a n less. absurd (omega (arith, less, front_none k l k l c.in_ok-none.none c.in_ok-base.base.overlay none base a));
      };
      base = λ to e. absurd (none-some to e);
      others = λ i b at. grind (arith, common_steps);
      room = record { fronts = upper.fronts.size; done = upper.done.size; last = upper.last.size };
    }
