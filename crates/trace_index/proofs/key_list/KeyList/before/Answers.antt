use Rattle.std.proofs.Common.{◌∙◌}
use Rattle.trace_index.proofs.KeyLists.{link_found}
use Rattle.trace_index.proofs.key_list.KeyList.before.Goals as goal

pub returns : goal.returns
returns c =
    c.link_in.ensures ∙ link_found c.args.self.now.rows.now.0 c.args.self.now.key c.args.place c.in-Some.row c.args.self.now.linked c.in-Some.ensures c.requires.passing
