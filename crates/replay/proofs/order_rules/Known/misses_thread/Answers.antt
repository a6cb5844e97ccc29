use Rattle.std.proofs.Common.{inl, inr, ◌∙◌, sym}
use Rattle.std.proofs.lemmas.Bool.{false≢true}
use Rattle.std.proofs.lemmas.Option.{slice_get_within}
use Rattle.replay.proofs.order_rules.Known.misses_thread.Goals as goal

pub returns-then-misses_fork : goal.returns-then-misses_fork
returns-then-misses_fork c = (λ h. inl (c.misses_fork.ensures.0 h), λ _. c.if-misses_fork.true)

pub returns-else-misses_fork : goal.returns-else-misses_fork
returns-else-misses_fork c =
    let s = c.args.self.now.trace.now in (
      λ h. let r = c.misses_last.ensures.0 h in inr (r.0, r.2, r.3),
      λ m. elim m [
        | inl n ↦ absurd (false≢true (sym c.if-misses_fork.false ∙ c.misses_fork.ensures.1 n))
        | inr r ↦ c.misses_last.ensures.1 (r.0, slice_get_within s r.0 _ r.1.1, r.1, r.2)
      ],
    )
