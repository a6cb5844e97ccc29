use Rattle.std.proofs.Common.{◌≡◌, ℕ, ◌∷◌, [], ◌++◌, inl, inr, Option, Some, None, IfSome, refl, sym, subst, ◌∙◌, arith}
use Rattle.std.proofs.lemmas.List.Elements.{Contains-append_left}
use Rattle.std.proofs.lemmas.Option.{same_Some}
use Rattle.trace_model.specs.declared.traces.event.Op.TheVariants.{Fork}
use Rattle.trace_model.specs.Theory.Trace.{Does, OfThread}
use Rattle.trace_model.proofs.Theory.Least.{at_thread}
use Rattle.explain.specs.declared.search.DerivationSearch.{DerivationSearch}
use Rattle.explain.specs.DerivationSearch.{AddsFollowed, HasAlso, IsCaughtAt}
use Rattle.explain.proofs.Adding.{extends_trans, with_forks, extends_forks}
use Rattle.explain.proofs.Walking.{before_some}
use Rattle.explain.proofs.Finished.{followed_stays, place_in, fork_at, walk_goes_on, walk_ends}
use Rattle.explain.proofs.Postponing.{walked_or_later}
use Rattle.explain.proofs.search.DerivationSearch.walk.Goals as goal

pub loop-count-init : goal.loop-count-init
loop-count-init c =
    let s = c.args.index.now.events in
    let x = c.args.self.now in
    let y = c.require.new.self in
    let last = c.args.range.now.prefix.last in
    let t = c.in-Some.event.thread in
    let own : OfThread s last t = (c.in-Some.event.op, sym c.event.ensures ∙ c.in-Some.is) in
    record {
      on = λ u n o e. let same : last ≡ n = same_Some last n e in (subst (λ z. OfThread s z u) same o, omega (arith, same));
      followed = λ followed is here f.
          let forks = c.fork_of.new.forks in
          let (i, grows, h) = c.in_ok-require.ensures.required c.args.places.now (with_forks s c.args.places.now x forks is) here here
          (λ p k xs a b. (a, inl (t, own, (c.in_ok-fork.ensures p).0 k))) in
          let e = extends_forks s x y forks grows in (
            followed,
            (i, e, followed_stays s followed x y e c.in_ok-require.ensures.locks f),
            λ q k. k,
            λ u p o d. h p ((c.in_ok-fork.ensures p).1 (subst (λ z. Does s p (Fork z)) (at_thread s last u t o own) d)),
            λ q (f, u, e, a, b, l) after. absurd (omega (arith, after last refl, l, same_Some last f e)),
          );
    }

pub loop-count-preserved : goal.loop-count-preserved
loop-count-preserved c =
    let s = c.args.index.now.events in
    let x = c.args.self.now in
    let y = c.loop-count.self in
    let z = c.follow.new.self in
    let prefix = c.args.range.now.prefix in
    let last = prefix.last in
    let t = c.in-Some.event.thread in
    let own : OfThread s last t = (c.in-Some.event.op, sym c.event.ensures ∙ c.in-Some.is) in
    let place = c.in-Some-next.place in
    let h = c.loop-count.invariant in
    let on = h.on t place own c.in-Some-next.is in
    record {
      on = λ u n o e.
          let at = h.on u place o c.in-Some-next.is in
          let k = before_some s u place n at.0 (sym c.thread_before-next.ensures ∙ e) in (k.0, omega (arith, k.1, at.1));
      followed = λ followed is here f.
          let (all, (i, e, g), sub, fork, done) = h.followed followed is here f in
          let (j, k, also) = c.in_ok-follow.ensures c.args.places.now all i (place_in s c.args.places.now x y prefix t place own on e here)
          (last, t, refl, on.0, own, on.1) (e.has last here.0) (fork_at s y last t place own on.0 fork) g in (
            all ++ place ∷ [],
            (j, extends_trans s x y z e k, also),
            λ q m. Contains-append_left all (place ∷ []) q (sub q m),
            λ u p o d. k.has p (fork u p o d),
            λ q m after. walk_goes_on s t last place all on.0 own (λ a b r. done a b (λ n v. r n (sym c.in-Some-next.is ∙ v))) q m
                (λ n v. after n (c.thread_before-next.ensures ∙ v)),
          );
    }

pub returns-in-Some-caught_since : goal.returns-in-Some-caught_since
returns-in-Some-caught_since c followed is here f =
    let s = c.args.index.now.events in
    let last = c.args.range.now.prefix.last in
    let own : OfThread s last c.in-Some.event.thread = (c.in-Some.event.op, sym c.event.ensures ∙ c.in-Some.is) in
    let (i, e, h) = c.in_ok-require.ensures.required c.args.places.now (with_forks s c.args.places.now c.args.self.now c.fork_of.new.forks is) here here
    (λ p k xs a b. (a, inl (c.in-Some.event.thread, own, (c.in_ok-fork.ensures p).0 k))) in
    (i, subst (λ o. IfSome o (IsCaughtAt s c.require.new.self c.args.places.now)) c.in-Some-caught_since.is c.caught_since.ensures)

pub returns-in-Some-caught_since-2 : goal.returns-in-Some-caught_since-2
returns-in-Some-caught_since-2 c followed is here f =
    let s = c.args.index.now.events in
    let y = c.loop-count.self in
    let z = c.follow.new.self in
    let prefix = c.args.range.now.prefix in
    let t = c.in-Some.event.thread in
    let own : OfThread s prefix.last t = (c.in-Some.event.op, sym c.event.ensures ∙ c.in-Some.is) in
    let place = c.in-Some-next.place in
    let on = c.loop-count.invariant.on t place own c.in-Some-next.is in
    let (all, (i, e, g), sub, fork, done) = c.loop-count.invariant.followed followed is here f in
    let (j, k, also) = c.in_ok-follow.ensures c.args.places.now all i (place_in s c.args.places.now c.args.self.now y prefix t place own on e here)
    (prefix.last, t, refl, on.0, own, on.1) (e.has prefix.last here.0) (fork_at s y prefix.last t place own on.0 fork) g in
    (j, subst (λ o. IfSome o (IsCaughtAt s z c.args.places.now)) c.in-Some-caught_since-2.is c.caught_since-in-loop-count.ensures)

pub returns-then-is_past : goal.returns-then-is_past
returns-then-is_past c followed is here f =
    let (all, added, sub, fork, done) = c.loop-count.invariant.followed followed is here f in (
      all,
      added,
      (
        sub,
        λ q r. inl (walk_ends c.args.index.now.events c.args.range.now c.loop-count.next all done
            (inr (c.in-Some-next.place, c.in-Some-next.is, c.is_past.ensures.past c.if-is_past.true)) q r),
      ),
    )

pub returns-in_default-next : goal.returns-in_default-next
returns-in_default-next c followed is here f =
    let (all, added, sub, fork, done) = c.loop-count.invariant.followed followed is here f in
    (all, added, (sub, λ q r. inl (walk_ends c.args.index.now.events c.args.range.now c.loop-count.next all done (inl c.in_default-next.is) q r)))

pub returns : goal.returns
returns c followed is here f =
    let s = c.args.index.now.events in
    let places = c.args.places.now in
    let range = c.args.range.now in
    let x = c.args.self.now in
    let y = c.loop-count.self in
    let z = c.postpone.new.self in
    let t = c.in-Some.event.thread in
    let own : OfThread s range.prefix.last t = (c.in-Some.event.op, sym c.event.ensures ∙ c.in-Some.is) in
    let (all, (i, e, g), sub, fork, done) = c.loop-count.invariant.followed followed is here f in
    let Ends : DerivationSearch → Type 0 = λ w. AddsFollowed s places x all w × HasAlso s followed range x w all in
    let by : (o : Option ℕ) → c.loop-count.next ≡ o → Ends z = λ o. elim o as (λ k. c.loop-count.next ≡ k → Ends z) [
      | None ↦ λ none. subst Ends (sym (c.in_ok-postpone.ensures.none none)) ((i, e, g), (sub, λ q r. inl (walk_ends s range c.loop-count.next all done (inl none) q r)))
      | Some n ↦ λ some.
          let on = c.loop-count.invariant.on t n own some in
          let (j, k, later) = c.in_ok-postpone.ensures.postponed s places n some i (place_in s places x y range.prefix t n own on e here) in (
            (j, extends_trans s x y z e k, followed_stays s all y z k c.in_ok-postpone.ensures.locks g),
            (sub, walked_or_later s range t n all x y z own on.0 e (λ q up after. done q up (λ m v. after m (sym some ∙ v))) later),
          )
    ] in
    let (added, also) = by c.loop-count.next refl in
    (all, added, also)
