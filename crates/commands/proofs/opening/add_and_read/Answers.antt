use Rattle.std.proofs.Common.{◌++◌}
use Rattle.std.proofs.lemmas.Result.{IfErr-weaker, IfOk-weaker}
use Rattle.commands.proofs.AdmittedBlocks.{refused_by}
use Rattle.commands.proofs.opening.add_and_read.Goals as goal

pub returns-clause-built : goal.returns-clause-built
returns-clause-built g c = IfOk-weaker c.both_or_error.result _ _ (λ both same. rw same.1 at c.join-next.ensures.second) c.both_or_error.ensures.ok

pub returns-clause-block : goal.returns-clause-block
returns-clause-block g c = IfOk-weaker c.both_or_error.result _ _ (λ both same.
    let block = rw same.0 at c.join-next.ensures.first.0 in
    block (c.args.built ++ c.args.events.items) c.requires) c.both_or_error.ensures.ok

pub returns-clause-refused : goal.returns-clause-refused
returns-clause-refused g c = IfErr-weaker c.both_or_error.result _ _ (λ error is. refused_by c.args.text.now c.join-next.result.0 error c.join-next.ensures.first.1 is) c.both_or_error.ensures.err
