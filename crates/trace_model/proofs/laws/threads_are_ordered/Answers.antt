use Rattle.trace_model.proofs.Theory.Lawful.{forked, fork_first, fork_once, join_after}
use Rattle.trace_model.proofs.laws.threads_are_ordered.Goals as goal

pub returns-clause-forked : goal.returns-clause-forked
returns-clause-forked c = forked

pub returns-clause-once : goal.returns-clause-once
returns-clause-once c s w f k d = ((fork_first s w f k d).0, λ g e. fork_once s w f g k d e)

pub returns-clause-joined : goal.returns-clause-joined
returns-clause-joined c = join_after
