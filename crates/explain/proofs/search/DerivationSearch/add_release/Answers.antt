use Rattle.std.proofs.Common.{◌≡◌, ◌≤◌, Some, sym, ◌∙◌, arith}
use Rattle.std.proofs.lemmas.Option.{same_Some}
use Rattle.trace_model.specs.Theory.Lookups.{release}
use Rattle.explain.proofs.Adding.{on_ok_then, extends_refl, covers_fewer}
use Rattle.explain.proofs.LastSections.{release_within}
use Rattle.explain.proofs.search.DerivationSearch.add_release.Goals as goal

pub returns-then-get-clause-released : goal.returns-then-get-clause-released
returns-then-get-clause-released c places is here later up derived less l begins begins_later =
    let s = c.args.index.now.events in
    let x = c.args.self.now in
    let end = c.args.end in (
      is,
      extends_refl s x,
      λ r e.
          let same = same_Some c.in-Some.release r (sym c.in-Some.is ∙ c.release_of.ensures ∙ e) in
          let low : r ≤ end = omega (arith, same, c.if-get.true, c.get.ensures, c.get-2.ensures) in
          release_within s x c.args.here.now.last end r e low up derived,
    )

pub returns-clause-released : goal.returns-clause-released
returns-clause-released c =
    on_ok_then c.require.result c.require.ensures.required (λ h places is here later up derived less l begins begins_later.
    let s = c.args.index.now.events in
    let q = c.args.here.now.last in
    let found = sym c.release_of.ensures ∙ c.in-Some.is in
    covers_fewer s places c.args.self.now c.require.new.self (λ r. Some c.in-Some.release ≡ Some r) (λ r. release s q ≡ Some r) (λ r e. sym found ∙ e)
    (h places is here later (λ r k xs d g. (d, g, less, (l, begins, begins_later), found ∙ k))))
