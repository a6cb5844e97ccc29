use Rattle.std.proofs.Common.{sym, ◌∙◌}
use Rattle.std.proofs.lemmas.Bool.{false≢true}
use Rattle.replay.proofs.ReasonTests.{joined_or_not}
use Rattle.replay.proofs.reasons.is_fork_or_join.Goals as goal

pub returns-else-is_fork_of-2 : goal.returns-else-is_fork_of-2
returns-else-is_fork_of-2 c =
    joined_or_not c.args.trace.now c.args.place c.args.later c.in-Join.thread c.in-Some.first c.in-Some-event_at.second
    (sym c.in-Some.ensures) (sym c.in-Some-event_at.ensures) c.in-Join.is
    (λ e. false≢true (sym c.if-is_fork_of.false ∙ c.is_fork_of.ensures.1 e))
    (λ e. false≢true (sym c.if-is_fork_of-2.false ∙ c.is_fork_of-in-Join.ensures.1 e))
