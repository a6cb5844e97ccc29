use Rattle.std.proofs.Common.{inr, Some, sym, subst, ◌∙◌}
use Rattle.std.proofs.lemmas.Option.{same_Some}
use Rattle.explain.specs.DerivationSearch.{derived_by, IsUpTo}
use Rattle.explain.proofs.Adding.{on_ok_then, extends_trans, in_more, last_up_to, stays}
use Rattle.explain.proofs.Covering.{up_to_entry, entry_up_to}
use Rattle.explain.proofs.search.DerivationSearch.require.Goals as goal

pub returns-clause-required : goal.returns-clause-required
returns-clause-required c =
    on_ok_then c.cover.result c.cover.ensures.covered (λ h places is a b j.
    let s = c.args.index.now.events in
    let first = c.args.first.now in
    let second = c.args.second.now in
    let needed = c.in-Some.needed in
    let x = c.args.self.now in
    let y = c.add.new.self in
    let z = c.add-2.new.self in
    let v = c.add-3.new.self in
    let w = c.cover.new.self in
    let (i1, e1, c1) = c.in_ok-add.ensures.added s places is (a.1 first.last (last_up_to s x first.last a.0)) in
    let b1 = in_more s places x y e1 second b in
    let (i2, e2, c2) = c.in_ok-add-2.ensures.added s places i1 (b1.1 second.last (last_up_to s y second.last b1.0)) in
    let (i3, e3, c3) = c.in_ok-add-3.ensures.added s places i2 (inr (j needed c.in-Some.is (derived_by z) (stays s y z e2 first.last c1) c2)) in
    let (i4, e4, all) = h places i3 (λ p up. up_to_entry s places v needed c3 p up) in (
      i4,
      extends_trans s x z w (extends_trans s x y z e1 e2) (extends_trans s z v w e3 e4),
      λ p e. all p (subst (λ q. IsUpTo s q (Some needed)) (same_Some needed p (sym c.in-Some.is ∙ e)) (entry_up_to s places v i3 needed c3)),
    ))
