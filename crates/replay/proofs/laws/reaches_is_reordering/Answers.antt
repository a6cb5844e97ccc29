use Rattle.replay.proofs.Verdicts.{reaches_law}
use Rattle.replay.proofs.laws.reaches_is_reordering.Goals as goal

pub returns : goal.returns
returns c = reaches_law
