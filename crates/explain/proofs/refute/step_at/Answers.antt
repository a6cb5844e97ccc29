use Rattle.std.proofs.Common.{◌≡◌, Some, MatchOption, sym, ap, subst, ◌∙◌}
use Rattle.std.proofs.lemmas.Option.{same_Some, slice_get-get_or, slice_get_within}
use Rattle.trace_model.specs.Theory.Reordering.{AreReached}
use Rattle.explain.specs.DerivationSearch.{IsDerived, IsCaughtAt}
use Rattle.explain.proofs.refute.step_at.Goals as goal

pub returns : goal.returns
returns c =
    let s = c.args.index.now.events in
    let places = c.args.places.now in
    let x = c.run.new.self in
    let i = c.in-Some.member in
    let (p, at, d) = subst (λ o. MatchOption o (AreReached s places) (IsCaughtAt s x places)) c.in-Some.is c.in_ok-member.ensures.caught in
    let q = c.index-places-member.result in
    let here = slice_get-get_or places i q (slice_get_within places i p at) ∙ ap Some (sym c.index-places-member.is) in
    let same : p ≡ q = same_Some p q (sym at ∙ here) in
    let (is, e, added) = c.in_ok-add_entry.ensures places c.in_ok-member.ensures.search (subst (IsDerived s x) same d) in
    let (h, k) = c.in_ok-entries.ensures s places is added in
    (q, here, h, k)
