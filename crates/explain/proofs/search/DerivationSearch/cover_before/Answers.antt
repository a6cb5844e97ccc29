use Rattle.std.proofs.Common.{inr, sym, subst, ◌∙◌}
use Rattle.std.proofs.lemmas.Option.{same_Some}
use Rattle.explain.specs.DerivationSearch.{IsUpTo, IsBeforeSome}
use Rattle.trace_model.specs.Theory.Trace.{EarlierInThread}
use Rattle.explain.proofs.Adding.{on_ok_then, covers_fewer}
use Rattle.explain.proofs.Requiring.{up_to_earlier, earlier_up_to}
use Rattle.explain.proofs.search.DerivationSearch.cover_before.Goals as goal

pub returns-clause-covered : goal.returns-clause-covered
returns-clause-covered c =
    on_ok_then c.cover.result c.cover.ensures.covered (λ h places is m.
    let s = c.args.index.now.events in
    let place = c.in-Some.place in
    let before = c.thread_before.result in
    covers_fewer s places c.args.self.now c.cover.new.self (λ p. IsUpTo s p before) (IsBeforeSome s c.args.member)
    (λ p (q, e, k). subst (IsUpTo s p) (sym c.thread_before.ensures)
    (earlier_up_to s place p (subst (EarlierInThread s p) (same_Some q place (sym e ∙ c.in-Some.is)) k)))
    (h places is (λ p up. inr (m place c.in-Some.is, up_to_earlier s place p (subst (IsUpTo s p) c.thread_before.ensures up)))))
