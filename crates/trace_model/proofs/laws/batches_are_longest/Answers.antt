use Rattle.trace_model.proofs.Protocol.Batches as batches
use Rattle.trace_model.proofs.laws.batches_are_longest.Goals as goal

pub returns : goal.returns
returns c = batches.batches_are_longest
