use Rattle.std.proofs.Common.{◌≡◌, ◌⊎◌, inl, inr, Some}
use Rattle.explain.specs.DerivationSearch.{IsUpTo, IsJoined}
use Rattle.explain.proofs.Adding.{on_ok_then, extends_trans, with_forks, extends_forks, in_more, last_up_to, covers_both, covers_fewer}
use Rattle.explain.proofs.Requiring.{does_join, up_to_of_thread, joined_cases}
use Rattle.explain.proofs.search.DerivationSearch.add_joined.Goals as goal

pub returns-clause-joined : goal.returns-clause-joined
returns-clause-joined c =
    on_ok_then c.cover.result c.cover.ensures.covered (λ h places is here at.
    let s = c.args.index.now.events in
    let x = c.args.self.now in
    let y = c.require.new.self in
    let z = c.add.new.self in
    let w = c.cover.new.self in
    let q = c.args.here.now.last in
    let child = c.in-Join.child in
    let fork = c.in_ok-fork.fork in
    let forks = c.fork_of.new.forks in
    let last = c.last_place.result in
    let joins = does_join s q child c.args.event at c.in-Join.is in
    let (i1, e, f1) = c.in_ok-require.ensures.required places (with_forks s places x forks is) here here (λ p k xs a b. (a, inr (child, joins, inl ((c.in_ok-fork.ensures p).0 k)))) in
    let e1 = extends_forks s x y forks e in
    let here1 = in_more s places x y e1 c.args.here.now here in
    let (i2, e2, c2) = c.in_ok-add.ensures.added s places i1 (here1.1 q (last_up_to s y q here1.0)) in
    let two = h places i2 (λ p up. inr (c2, inr (child, joins, inr (up_to_of_thread s child last c.last_place.ensures p up)))) in
    covers_fewer s places x w (λ p. (fork ≡ Some p) ⊎ IsUpTo s p last) (IsJoined s q)
    (joined_cases s q child c.args.event fork last at c.in-Join.is (λ p k. (c.in_ok-fork.ensures p).1 k) c.last_place.ensures)
    (covers_both s places x z w (λ p. fork ≡ Some p) (λ p. IsUpTo s p last) (i2, extends_trans s x y z e1 e2, λ p k. e2.has p (f1 p k)) two))
