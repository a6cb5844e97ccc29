use Rattle.trace_model.proofs.Theory.OneMore.{lawful_higher}
use Rattle.wellformed.proofs.tables.AdmissionTables.admit.Goals as goal

pub returns-clause-admitted : goal.returns-clause-admitted
returns-clause-admitted c s f lawful =
    c.record_at.ensures s (c.in_ok-positions.ensures.follow s f) (lawful_higher c.args.limit _ s c.args.event.now c.requires.limit lawful)
