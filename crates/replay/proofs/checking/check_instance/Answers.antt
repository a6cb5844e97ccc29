use Rattle.std.proofs.Common.{inr, sym}
use Rattle.replay.specs.Verdict.{instance_tests}
use Rattle.replay.proofs.Verdicts.{passes_more}
use Rattle.replay.proofs.checking.check_instance.Goals as goal

pub returns-in-Some-instance_fault : goal.returns-in-Some-instance_fault
returns-in-Some-instance_fault c =
    inr (c.requires.passes, (c.loop-member.member, sym c.in-Some.ensures, c.loop-member.invariant, c.in-Some-instance_fault.ensures))

pub instance_fault-requires : goal.instance_fault-requires
instance_fault-requires c = (c.requires.facts, c.requires.walked)

pub loop-member-preserved : goal.loop-member-preserved
loop-member-preserved c =
    passes_more instance_tests c.args.trace.now (λ k. c.args.order.now) c.args.instance.now c.loop-member.member c.in-Some.place c.loop-member.invariant (sym c.in-Some.ensures) c.in_default-instance_fault.ensures
