use Rattle.std.proofs.Common.{ap, sym, ◌∙◌}
use Rattle.trace_model.specs.Theory.Holders.{depth_by, is_other_owner}
use Rattle.trace_model.proofs.Theory.Owners.{depth-owner, held_by_other-owner}
use Rattle.wellformed.proofs.tables.AdmissionTables.holder.Goals as goal

pub returns-clause-depth : goal.returns-clause-depth
returns-clause-depth c s f =
    c.holder_of.ensures.depth
    ∙ ap (λ o. depth_by o c.args.thread) (c.requires ∙ f.shown.owner_is c.args.lock)
    ∙ sym (depth-owner s f.well_formed c.args.thread c.args.lock)

pub returns-clause-other : goal.returns-clause-other
returns-clause-other c s f =
    c.holder_of.ensures.other
    ∙ ap (λ o. is_other_owner o c.args.thread) (c.requires ∙ f.shown.owner_is c.args.lock)
    ∙ sym (held_by_other-owner s f.well_formed c.args.thread c.args.lock)
