use Rattle.trace_model.proofs.Theory.Confirmed.{confirmed_stays}
use Rattle.trace_model.proofs.laws.confirmed_stays.Goals as goal

pub returns : goal.returns
returns c = confirmed_stays
