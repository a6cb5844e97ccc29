use Rattle.std.proofs.Common.{rules}
use Rattle.trace_model.proofs.Lists.{at_index}
use Rattle.fronts.proofs.requirements.prefix_before.Goals as goal

pub unwrap-requires : goal.unwrap-requires
unwrap-requires c =
    let (e, h) = at_index c.args.index.now.events c.args.place c.requires.in_trace in
    let (a, is, less) = c.requires.slots.each c.args.place e.thread (e.op, h) in
    rw (c.get.ensures, is) (search rules)
