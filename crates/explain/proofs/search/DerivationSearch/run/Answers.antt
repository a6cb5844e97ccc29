use Rattle.std.proofs.Common.{◌≡◌, ℕ, inl, inr, List, [], slice_get, Some, MatchOption, sym, ap, subst, ◌∙◌, arith}
use Rattle.std.proofs.lemmas.Option.{slice_get_within, slice_get-get_or}
use Rattle.explain.specs.DerivationSearch.{AddsFollowed, HasAlso, IsCaughtIn}
use Rattle.explain.proofs.Finished.{finished, nothing_followed, followed_stays, walked_more}
use Rattle.explain.proofs.search.DerivationSearch.run.Goals as goal
use Rattle.explain.proofs.search.DerivationSearch.run.Goals.{After-walk}

pub loop-k-init : goal.loop-k-init
loop-k-init c =
    let s = c.args.index.now.events in
    let x = record c.clear.new.self { indices = c.reserve.new.self } in
    let (is, e, before) = c.in_ok-begin.ensures.covered in
    record {
      search = is;
      before = before;
      within = omega arith;
      followed = ([], followed_stays s [] x c.begin.new.self e c.in_ok-begin.ensures.locks (nothing_followed s x c.clear.ensures.locks), λ i r p low. absurd (omega (arith, low)));
    }

pub returns-then-k-len-clause-caught : goal.returns-then-k-len-clause-caught
returns-then-k-len-clause-caught c =
    let x = c.loop-k.self in
    let h = c.loop-k.invariant in
    let (all, f, walked) = h.followed in
    finished c.args.index.now.events all x f
    (λ p has.
    let (i, r, at, inside) = h.search.all p has in
    let count = x.ranges.ok in
    elim (walked i r p (omega (arith, slice_get_within x.ranges.items i r at, c.if-k-len.true, c.len.ensures, count)) at inside) [
      | inl c ↦ c
      | inr (j, v, from, there, v_has) ↦ absurd (omega (arith, from, slice_get_within x.ranges.items j v there, c.if-k-len.true, c.len.ensures, count))
    ])
    c.len-len.ensures.well_formed c.args.places.now h.before c.in_default.ensures

range_at : (c : After-walk) → slice_get c.loop-k.self.ranges.items c.loop-k.k ≡ Some c.index.result.now
range_at c =
    let xs = c.loop-k.self.ranges in
    slice_get-get_or xs.items c.loop-k.k c.index.result.now (omega (arith, c.if-k-len.false, c.len.ensures, xs.ok)) ∙ ap Some (sym c.index.ensures)

pub returns-in-Some-2 : goal.returns-in-Some-2
returns-in-Some-2 c =
    let s = c.args.index.now.events in
    let places = c.args.places.now in
    let y = c.walk.new.self in
    let h = c.loop-k.invariant in
    let range = c.index.result.now in
    let here = range_at (goal.at.returns-in-Some-2 c).After-walk in
    let (xs, f, walked) = h.followed in
    let (is, caught) = subst (λ o. MatchOption o ((all : List ℕ) × AddsFollowed s places c.loop-k.self all y × HasAlso s xs range c.loop-k.self y all) (IsCaughtIn s places y)) c.in-Some-2.is
    (c.in_ok-member.ensures xs h.search (h.search.ranges c.loop-k.k range here) f) in
    record { search = is; caught = caught }

pub loop-k-preserved : goal.loop-k-preserved
loop-k-preserved c =
    let s = c.args.index.now.events in
    let places = c.args.places.now in
    let x = c.loop-k.self in
    let y = c.walk.new.self in
    let h = c.loop-k.invariant in
    let k = c.loop-k.k in
    let range = c.index.result.now in
    let here = range_at (goal.at.loop-k-preserved c).After-walk in
    let (xs, f, walked) = h.followed in
    let (all, (is, e, g), (sub, done)) = subst (λ o. MatchOption o ((all : List ℕ) × AddsFollowed s places x all y × HasAlso s xs range x y all) (IsCaughtIn s places y)) c.in_default-2.is
    (c.in_ok-member.ensures xs h.search (h.search.ranges k range here) f) in
    record {
      search = is;
      before = λ p b. e.has p (h.before p b);
      within = omega (arith, slice_get_within y.ranges.items k range (e.ranges k range here));
      followed = (all, g, walked_more s x y xs all k range e sub here (slice_get_within x.ranges.items k range here) done walked);
    }
