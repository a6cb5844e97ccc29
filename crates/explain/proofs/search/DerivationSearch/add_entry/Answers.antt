use Rattle.std.proofs.Common.{MatchOption, refl, subst}
use Rattle.explain.specs.DerivationSearch.{IsDerived, Gives}
use Rattle.explain.proofs.Adding.{on_ok_then}
use Rattle.explain.proofs.search.DerivationSearch.add_entry.Goals as goal

pub returns-in-Some : goal.returns-in-Some
returns-in-Some c =
    on_ok_then c.add.result c.add.ensures.added (λ h places is d.
    let s = c.args.index.now.events in
    let x = c.args.self.now in
    let p = c.args.place in
    let (t, e, o, l) = subst (λ z. MatchOption z (IsDerived s x p → ⊥) (Gives s x p)) c.in-Some.is c.prefix_of.ensures in
    let (own, covers) = is.threads t c.in-Some.prefix e in
    h s places is (covers p (c.in-Some.prefix.last, t, refl, o, own, l)))
