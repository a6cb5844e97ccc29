use Rattle.trace_model.proofs.Protocol.FormerTexts as former
use Rattle.trace_model.proofs.laws.former_texts_keep.Goals as goal

pub returns : goal.returns
returns c = former.former_texts_keep
