use Rattle.std.proofs.Common.{◌+◌, ◌⊎◌, Some, take, sym, ap, subst, ◌∙◌, arith}
use Rattle.std.proofs.lemmas.List.{take_all}
use Rattle.std.proofs.lemmas.Option.{same_Some, slice_get-get_or}
use Rattle.std.specs.List.{Contains}
use Rattle.trace_model.proofs.Theory.Ascending.{contains_at}
use Rattle.explain.specs.DerivationSearch.{CoversAll, IsBefore, IsBeforeSome}
use Rattle.explain.proofs.Adding.{covers_both, covers_fewer}
use Rattle.explain.proofs.Requiring.{before_more, none_before}
use Rattle.explain.proofs.search.DerivationSearch.begin.Goals as goal

pub loop-k-init : goal.loop-k-init
loop-k-init c =
    let s = c.args.index.now.events in
    let places = c.args.places.now in
    let (is, e, h) = c.in_ok-cover_before.ensures.covered places c.requires c.greatest.ensures.member in
    record { locks = c.in_ok-cover_before.ensures.locks; covered = (is, e, λ p b. absurd (none_before s places p b)) }

pub loop-k-preserved : goal.loop-k-preserved
loop-k-preserved c =
    let s = c.args.index.now.events in
    let places = c.args.places.now in
    let k = c.loop-k.k in
    let h = c.loop-k.invariant in
    let q = c.index-places-k.result in
    let y = c.cover_before-in-loop-k.new.self in
    let at = slice_get-get_or places k q c.loop-k-test.true ∙ ap Some (sym c.index-places-k.is) in
    let more = c.in_ok-cover_before-2.ensures.covered places h.covered.0
    (λ m e. subst (Contains places) (same_Some q m e) (contains_at places q k at)) in
    record {
      locks = c.in_ok-cover_before-2.ensures.locks ∙ h.locks;
      covered = covers_fewer s places c.args.self.now y (λ p. IsBefore s (take k places) p ⊎ IsBeforeSome s (Some q) p) (IsBefore s (take (k + 1) places))
          (λ p b. before_more s places k q p at b)
          (covers_both s places c.args.self.now c.loop-k.self y (IsBefore s (take k places)) (IsBeforeSome s (Some q)) h.covered more);
    }

pub returns-clause-covered : goal.returns-clause-covered
returns-clause-covered c =
    let places = c.args.places.now in
    let all = take_all c.loop-k.k places (omega (arith, c.loop-k-test.false)) in
    subst (λ xs. CoversAll c.args.index.now.events places c.args.self.now (IsBefore c.args.index.now.events xs) c.loop-k.self) all c.loop-k.invariant.covered
