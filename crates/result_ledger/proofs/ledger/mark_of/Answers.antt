use Rattle.std.proofs.Common.{◌∙◌}
use Rattle.result_ledger.proofs.TaskList.{copied_of}
use Rattle.result_ledger.proofs.ledger.mark_of.Goals as goal

pub returns : goal.returns
returns c = c.copied.ensures ∙ copied_of c.args.marks.now c.args.task c.get.result c.get.ensures.lookup
