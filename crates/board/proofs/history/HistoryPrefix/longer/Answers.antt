use Rattle.std.proofs.Common.{◌≤◌, ap, subst, arith, length, List}
use mathlib.Core.List.{IsPrefix}
use Rattle.trace_model.specs.declared.messages.step.BoardStep.{BoardStep}
use Rattle.board.proofs.Prefixes.{begins_longer}
use Rattle.board.proofs.history.HistoryPrefix.longer.Goals as goal

-- Both are prefixes of the history as the copy has seen it after `learn`.
pub returns-then-self-other-clause-own : goal.returns-then-self-other-clause-own
returns-then-self-other-clause-own g c =
    let ours = c.self.inside.seen.log in
    let theirs = c.other.inside.seen.log in
    let begins : IsPrefix ours c.learn.new.self.log = subst (λ (log : List BoardStep). IsPrefix log c.learn.new.self.log) (ap (λ seen. seen.log) c.again-up_to_both.ensures) c.learn.ensures.2 in
    let no_longer : length ours ≤ length theirs = omega (arith, c.self.invariant.0, c.other.invariant.0) in
    rw (c.again.ensures.same, ← c.self.view_is, ← c.other.view_is)
    (begins_longer ours theirs c.learn.new.self.log begins c.learn.ensures.3 no_longer)

pub returns-clause-others : goal.returns-clause-others
returns-clause-others g c =
    let ours = c.self.inside.seen.log in
    let theirs = c.other.inside.seen.log in
    let begins : IsPrefix ours c.learn.new.self.log = subst (λ (log : List BoardStep). IsPrefix log c.learn.new.self.log) (ap (λ seen. seen.log) c.again-up_to_both.ensures) c.learn.ensures.2 in
    let no_longer : length theirs ≤ length ours = omega (arith, c.self.invariant.0, c.other.invariant.0) in
    rw (c.again-2.ensures.same, ← c.self.view_is, ← c.other.view_is)
    (begins_longer theirs ours c.learn.new.self.log c.learn.ensures.3 begins no_longer)
