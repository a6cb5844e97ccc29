use Rattle.replay.proofs.Verdicts.{verdict_unique}
use Rattle.replay.proofs.laws.verdict_is_unique.Goals as goal

pub returns : goal.returns
returns c = verdict_unique
