-- What is known at a place of the list.
use Rattle.replay.specs.declared.order_rules.Known.{Known}
use Rattle.replay.specs.Facts.{AreFacts}
use Rattle.replay.specs.Walking.{IsWalked}

-- The facts are those of the trace, and the walk passed the places before.
abbrev pub KnowsWalk : Known → Type 0
KnowsWalk k = AreFacts k.trace.now k.facts.now × IsWalked k.trace.now k.passed.now k.walked.now
