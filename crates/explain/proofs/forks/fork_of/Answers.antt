use Rattle.std.proofs.Common.{◌≡◌, ◌↔◌, Some, ap, sym, subst, ◌∙◌}
use Rattle.std.proofs.lemmas.Option.{none-some, same_Some}
use Rattle.trace_model.specs.declared.traces.event.Op.TheVariants.{Fork}
use Rattle.trace_model.specs.Theory.Trace.{Does}
use Rattle.trace_model.proofs.Theory.Lawful.{fork_first, fork_once}
use Rattle.explain.proofs.Requiring.{does_fork}
use Rattle.explain.proofs.forks.fork_of.Goals as goal
use Rattle.explain.proofs.forks.fork_of.Goals.{in-Some-fork+in_ok-reserve, in_default-2}

pub returns-then-thread-eq0 : goal.returns-then-thread-eq0
returns-then-thread-eq0 c p = (
  λ e. absurd (none-some p e),
  λ d. absurd ((fork_first c.args.index.now.events c.len-len.ensures.well_formed p c.args.thread d).0 c.if-thread-eq0.true),
)

pub returns : goal.returns
returns c p =
    let s = c.args.index.now.events in
    let place = c.in-Some.place in
    let thread = c.args.thread in
    let here : Does s place (Fork thread) = subst (λ t. Does s place (Fork t)) c.if-child-thread.true
    (does_fork s place c.in-Fork.child c.in-Some-event.event (sym c.event.ensures ∙ c.in-Some-event.is) c.in-Fork.is) in (
      λ e. subst (λ q. Does s q (Fork thread)) (same_Some place p e) here,
      λ d. ap Some (fork_once s c.len-len.ensures.well_formed place p thread here d),
    )

pub returns-2 : goal.returns-2
returns-2 c p =
    let same : c.match-fork.fork ≡ c.fork_of-fork.result = elim c.match-fork.branch [
      | in-Some-fork+in_ok-reserve w ↦ w.fork-is ∙ sym w.in-Some-fork.is
      | in_default-2 w ↦ w.fork-is
    ] in
    subst (λ fork. (fork ≡ Some p) ↔ Does c.args.index.now.events p (Fork c.args.thread)) (sym same) (c.fork_of-fork.ensures p)
