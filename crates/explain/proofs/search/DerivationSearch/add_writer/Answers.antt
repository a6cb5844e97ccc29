use Rattle.std.proofs.Common.{◌≡◌, Some, sym, ◌∙◌}
use Rattle.trace_model.specs.Theory.Lookups.{writer}
use Rattle.explain.proofs.Adding.{on_ok_then, covers_fewer}
use Rattle.explain.proofs.search.DerivationSearch.add_writer.Goals as goal

pub returns-clause-written : goal.returns-clause-written
returns-clause-written c =
    on_ok_then c.require.result c.require.ensures.required (λ h places is here at.
    let s = c.args.index.now.events in
    covers_fewer s places c.args.self.now c.require.new.self (λ p. c.writer.result ≡ Some p) (λ p. writer s c.args.here.now.last ≡ Some p)
    (λ p k. c.writer.ensures ∙ k) (h places is here here (λ p k xs a b. (a, sym c.writer.ensures ∙ k))))
