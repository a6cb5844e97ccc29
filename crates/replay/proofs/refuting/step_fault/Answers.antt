use Rattle.std.proofs.Common.{sym}
use Rattle.replay.proofs.refuting.step_fault.Goals as goal

pub returns-in-Some-first_unjustified-clause-fault : goal.returns-in-Some-first_unjustified-clause-fault
returns-in-Some-first_unjustified-clause-fault c =
    (c.in-Some.present, sym c.in-Some.ensures, rw c.entries-entries.ensures at c.in-Some-first_unjustified.ensures.first)
