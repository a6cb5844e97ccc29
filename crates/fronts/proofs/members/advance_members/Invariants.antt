use Rattle.fronts.specs.Slots.{slots_of}
use Rattle.fronts.specs.Members.{steps_left}
use Rattle.fronts.proofs.MemberLemmas.{AreSettling}
use Rattle.fronts.proofs.members.advance_members.Given as goal

abbrev pub invariant-loop-k : goal.invariant-loop-k
invariant-loop-k l = AreSettling l.index.events (slots_of l.threads) l.prefix l.fn.members l.members l.count

abbrev pub decreases-loop-k : goal.decreases-loop-k
decreases-loop-k l = steps_left l.members
