use Rattle.std.proofs.Common.{◌≡◌, ◌+◌, ◌<◌, ◌≤◌, ◌-◌, ◌++◌, ◌∷◌, suc, [], length, ℕ, List, Option, inl, inr, get_or, slice_get, refl, sym, ap, subst, ◌∙◌, arith, append_assoc, true≢false}
use Rattle.std.proofs.lemmas.Bool.{cases_lt}
use Rattle.std.proofs.lemmas.Option.{slice_get-get_or, slice_get_within, get_or_from_slice_get}
use Rattle.std.proofs.lemmas.Grind.{get_or_default_zero}
use Rattle.std.proofs.lemmas.Result.{err_from_is_err_and}
use Rattle.arrayvec.specs.ArrayVec.{ArrayVec}
use Rattle.std.specs.List.{Contains}
use Rattle.trace_model.specs.Theory.Cycles.{ListBelow}
use Rattle.trace_model.specs.Theory.Dependencies.{Dependency}
use Rattle.cycle_search.specs.CycleSearch.{IsPath, AboveFirst, LinksTo, CompletesCycle, CompletesAsLast, CycleOver, CycleUpTo, IsAmong, AreAll, CycleThrough, AreTables, HasTables, SearchedThrough}
use Rattle.cycle_search.specs.Collecting.{AcceptsAll, TakesSoFar}
use Rattle.cycle_search.specs.Pausing.{CanContinue, IsListBefore, PausesAfter, PausesAt, position_at}
use Rattle.cycle_search.specs.Acquirers.{IsLeastAbove}
use Rattle.trace_model.proofs.Lists.{get-push_kept}
use Rattle.trace_model.proofs.Theory.Unique.{contains_had}
use Rattle.cycle_search.proofs.Listing.{all-none}
use Rattle.cycle_search.proofs.Collecting.{accepts-through, takes-none, takes-as, takes-after, takes-one, refuses-one, until-for, ended-after, ended-as, paused-as, paused-last}
use Rattle.cycle_search.proofs.Positions.{below-longer, paused-later}
use Rattle.cycle_search.proofs.Turns.{adds-more, adds-end, above-first, some-more, until-more, closers-begin, closers-more, closers-some, closers-until, closers-end, rejected, closed, one-closed, forth, deeper, deeper-some, deeper-until, full, none-before}
use Rattle.cycle_search.proofs.Paths.{path-tested}
use Rattle.cycle_search.proofs.search.+search.Goals as goal
use Rattle.cycle_search.proofs.search.+search.Goals.{extend-then-not-is_excluded+then-may_follow+in_ok-follow, extend-else-not-is_excluded, extend-else-not-is_excluded-via-then-not-is_excluded+else-may_follow, extend-else-not-is_excluded-via-else-not-is_excluded, follow-then-is_cycle+in_default, follow-else-is_cycle+then-len-search+in_ok-extend, follow-else-is_cycle+else-len-search}

-- A number above the first one.
above-first-of : (path : List ℕ) (m : ℕ) → get_or path 0 0 < m → AboveFirst path m
above-first-of path m l first at = omega (arith, l, get_or_from_slice_get path 0 first 0 at)

pub extend-follow-requires : goal.extend-follow-requires
extend-follow-requires g t c =
    let i = c.loop-next.next-index in
    let items = c.successors-nexts.result.now in
    let m = get_or items i 0 in
    let n = c.successors-nexts.ensures in
    let here : Contains items m = (i, c.loop-next-test.true, get_or_default_zero items i m c.loop-next-test.true) in
    let same = sym c.loop-next.invariant.same in
    let shorter = ap (λ (p : List ℕ). length p) same in
    let over : get_or c.args.path.now.items 0 0 < m = omega (arith, c.requires.above, n.above m here) in
    let accepts = accepts-through g.C.Collector.taking c.args.search.now.search_input.now c.args.search.now.members c.args.path.now.items _ m (λ next. c.args.after < next)
    (CycleOver c.args.search.now.search_input.now c.args.search.now.members c.args.path.now.items (IsAmong items i)) c.args.collector.now c.loop-next.collector
    (n.above m here) same c.loop-next.invariant.added c.requires.accepts in
    (λ κs lives. (omega (arith, shorter), (lives.0, (lives.1.0, (lives.1.1, (subst (λ p. IsPath c.args.search.now.search_input.now p) same c.requires.path, (subst (λ (p : List ℕ). length p < c.args.search.now.members) same c.requires.room, (c.requires.members, (subst (λ p. HasTables c.args.search.now p) same c.requires.tables, (n.known m here, (subst (λ (p : List ℕ). get_or p 0 0 < m) same over, (subst (λ p. LinksTo c.args.search.now.search_input.now p m) same (n.linked m here), (c.may_follow.ensures.follows c.if-may_follow.true, accepts)))))))))))))

pub extend-returns-in_err-follow-clause-all : goal.extend-returns-in_err-follow-clause-all
extend-returns-in_err-follow-clause-all g t c =
    let taking = g.C.Collector.taking in
    let ds = c.args.search.now.search_input.now in
    let bound = c.args.search.now.members in
    let path = c.args.path.now.items in
    let after = c.args.after in
    let items = c.successors-nexts.result.now in
    let i = c.loop-next.next-index in
    let m = get_or items i 0 in
    let begun = c.requires.path.begun in
    let are = c.successors-nexts.ensures in
    let at = slice_get-get_or items i 0 c.loop-next-test.true in
    let p = err_from_is_err_and c.from_residual.result c.from_residual.ensures.1 in
    ended-after taking (CycleOver ds bound path (IsAmong items i)) (CycleThrough ds bound path m) (CycleOver ds bound path (λ n. after < n)) c.args.collector.now c.loop-next.collector
    c.follow.new.collector c.follow.new.path.items _ p.0 _ p.1 (sym p.2)
    (some-more ds bound path after items begun are i m at)
    (λ last is.
    let (can, (rest, e)) = paused-last (PausesAt c.args.search.now c.loop-next.path m c.follow.new.path) _ last is c.in_err-follow.ensures.paused in
    until-more ds bound path after items begun are i m at (position_at c.follow.new.path.items last) rest (e ∙ ap (λ (q : List ℕ). q ++ m ∷ rest) c.loop-next.invariant.same))
    c.loop-next.invariant.added
    (until-for taking (λ q. CycleThrough ds bound q m) c.loop-next.path.items path c.loop-next.collector c.follow.new.collector c.follow.new.path.items c.in_err-follow.field-0.0
    c.loop-next.invariant.same c.in_err-follow.ensures.all)

pub extend-returns-in_err-follow-clause-paused : goal.extend-returns-in_err-follow-clause-paused
extend-returns-in_err-follow-clause-paused g t c =
    let items = c.successors-nexts.result.now in
    let i = c.loop-next.next-index in
    let m = get_or items i 0 in
    let p = err_from_is_err_and c.from_residual.result c.from_residual.ensures.1 in
    paused-as (PausesAfter c.args.search.now c.args.path.now c.args.after c.follow.new.path) _ p.0 _ p.1 (sym p.2)
    (λ last is.
    let (can, (rest, e)) = paused-last (PausesAt c.args.search.now c.loop-next.path m c.follow.new.path) _ last is c.in_err-follow.ensures.paused in
    (m, c.successors-nexts.ensures.above m (i, c.loop-next-test.true, get_or_default_zero items i m c.loop-next-test.true), (can, (rest, e ∙ ap (λ (q : List ℕ). q ++ m ∷ rest) c.loop-next.invariant.same))))

pub extend-returns-in_err-follow-clause-later : goal.extend-returns-in_err-follow-clause-later
extend-returns-in_err-follow-clause-later g t c =
    let path = c.args.path.now.items in
    let after = c.args.after in
    let items = c.successors-nexts.result.now in
    let i = c.loop-next.next-index in
    let m = get_or items i 0 in
    let p = err_from_is_err_and c.from_residual.result c.from_residual.ensures.1 in
    paused-as (λ last. (g.P.Pace.pauses c.args.pace.now → ⊥) → ListBelow (position_at path after) (position_at c.follow.new.path.items last)) _ p.0 _ p.1 (sym p.2)
    (λ last is goes.
    let (can, (rest, e)) = paused-last (PausesAt c.args.search.now c.loop-next.path m c.follow.new.path) _ last is c.in_err-follow.ensures.paused in
    let own = paused-last (λ last. ListBelow (c.loop-next.path.items ++ m ∷ []) (position_at c.follow.new.path.items last)) _ last is c.in_err-follow.ensures.later in
    paused-later path after m (position_at c.follow.new.path.items last) rest (c.successors-nexts.ensures.above m (i, c.loop-next-test.true, get_or_default_zero items i m c.loop-next-test.true))
    (e ∙ ap (λ (q : List ℕ). q ++ m ∷ rest) c.loop-next.invariant.same)
    (λ next. subst (λ (q : List ℕ). ListBelow (q ++ m ∷ []) (position_at c.follow.new.path.items last)) c.loop-next.invariant.same own))

-- The position of a search that is paused at the number after the path.
position-of : (path same : List ℕ) (m : ℕ) → 0 < m → same ≡ path → position_at same (m - 1) ≡ path ++ m ∷ []
position-of path same m some is = let n : suc (m - 1) ≡ m = omega (arith, some) in λ i. is i ++ n i ∷ []

pub extend-overflow_sub-result : goal.extend-overflow_sub-result
extend-overflow_sub-result g t c =
    let items = c.successors-nexts.result.now in
    let i = c.loop-next.next-index in
    let m = get_or items i 0 in
    omega (arith, c.successors-nexts.ensures.above m (i, c.loop-next-test.true, get_or_default_zero items i m c.loop-next-test.true))

pub extend-returns-then-not-visits-clause-all : goal.extend-returns-then-not-visits-clause-all
extend-returns-then-not-visits-clause-all g t c =
    let taking = g.C.Collector.taking in
    let ds = c.args.search.now.search_input.now in
    let bound = c.args.search.now.members in
    let path = c.args.path.now.items in
    let after = c.args.after in
    let items = c.successors-nexts.result.now in
    let i = c.loop-next.next-index in
    let m = get_or items i 0 in
    let are = c.successors-nexts.ensures in
    let at = slice_get-get_or items i 0 c.loop-next-test.true in
    let over = are.above m (i, c.loop-next-test.true, get_or_default_zero items i m c.loop-next-test.true) in
    let position = position_at c.loop-next.path.items (m - 1) in
    let is = position-of path c.loop-next.path.items m (omega (arith, over)) c.loop-next.invariant.same in
    takes-after taking (CycleOver ds bound path (IsAmong items i)) (IsListBefore (CycleThrough ds bound path m) position) (IsListBefore (CycleOver ds bound path (λ n. after < n)) position)
    c.args.collector.now c.loop-next.collector c.loop-next.collector
    (until-more ds bound path after items c.requires.path.begun are i m at position [] is)
    c.loop-next.invariant.added
    (takes-none taking (IsListBefore (CycleThrough ds bound path m) position) c.loop-next.collector
    (subst (λ z. AreAll (IsListBefore (CycleThrough ds bound path m) z) []) (sym is) (none-before ds bound path m)))

pub extend-returns-then-not-visits-clause-paused : goal.extend-returns-then-not-visits-clause-paused
extend-returns-then-not-visits-clause-paused g t c =
    let path = c.args.path.now.items in
    let items = c.successors-nexts.result.now in
    let i = c.loop-next.next-index in
    let m = get_or items i 0 in
    let same = sym c.loop-next.invariant.same in
    let over = c.successors-nexts.ensures.above m (i, c.loop-next-test.true, get_or_default_zero items i m c.loop-next-test.true) in
    let can : CanContinue c.args.search.now c.loop-next.path.items (m - 1) = record {
      path = subst (λ p. IsPath c.args.search.now.search_input.now p) same c.requires.path;
      room = subst (λ (p : List ℕ). length p < c.args.search.now.members) same c.requires.room;
      above = subst (λ (p : List ℕ). get_or p 0 0 ≤ m - 1) same (omega (arith, c.requires.above, over));
    } in
    (m, over, (can, ([], position-of path c.loop-next.path.items m (omega (arith, over)) c.loop-next.invariant.same)))

pub extend-returns-then-not-visits-clause-later : goal.extend-returns-then-not-visits-clause-later
extend-returns-then-not-visits-clause-later g t c = λ goes.
    let path = c.args.path.now.items in
    let after = c.args.after in
    let items = c.successors-nexts.result.now in
    let i = c.loop-next.next-index in
    let m = get_or items i 0 in
    let are = c.successors-nexts.ensures in
    let at = slice_get-get_or items i 0 c.loop-next-test.true in
    let over = are.above m (i, c.loop-next-test.true, get_or_default_zero items i m c.loop-next-test.true) in
    paused-later path after m (position_at c.loop-next.path.items (m - 1)) [] over
    (position-of path c.loop-next.path.items m (omega (arith, over)) c.loop-next.invariant.same)
    (λ next. elim (cases_lt 0 i) [
      | inl l ↦ absurd (omega (
        arith,
        next,
        above-first c.args.search.now.search_input.now c.args.search.now.members path after items c.requires.path.begun are i m at l
            (get_or items 0 0) (slice_get-get_or items 0 0 (omega (arith, l, c.loop-next-test.true))),
      ))
      | inr l ↦
          let zero' : i ≡ 0 = omega (arith, l) in
          absurd (goes (subst (λ pace. g.P.Pace.pauses pace) (c.loop-next.invariant.paced zero') (c.visits.ensures c.if-not-visits.true)))
    ])

pub extend-is_excluded-requires-clause-next : goal.extend-is_excluded-requires-clause-next
extend-is_excluded-requires-clause-next g t c =
    let items = c.successors-nexts.result.now in
    let i = c.loop-next.next-index in
    let m = get_or items i 0 in
    c.successors-nexts.ensures.known m (i, c.loop-next-test.true, get_or_default_zero items i m c.loop-next-test.true)

pub extend-may_follow-requires-clause-known : goal.extend-may_follow-requires-clause-known
extend-may_follow-requires-clause-known g t c =
    let items = c.successors-nexts.result.now in
    let i = c.loop-next.next-index in
    let m = get_or items i 0 in
    c.successors-nexts.ensures.known m (i, c.loop-next-test.true, get_or_default_zero items i m c.loop-next-test.true)

pub extend-loop-next-init : goal.extend-loop-next-init
extend-loop-next-init g t c =
    let over = CycleOver c.args.search.now.search_input.now c.args.search.now.members c.args.path.now.items (IsAmong c.successors-nexts.result.now 0) in
    record {
      same = refl;
      paced = λ first. refl;
      added = takes-none g.C.Collector.taking over c.args.collector.now (all-none over (λ n h. omega (arith, h.1.1)));
    }

pub extend-loop-next-preserved : goal.extend-loop-next-preserved
extend-loop-next-preserved g t c =
    let taking = g.C.Collector.taking in
    let ds = c.args.search.now.search_input.now in
    let bound = c.args.search.now.members in
    let path = c.args.path.now.items in
    let items = c.successors-nexts.result.now in
    let i = c.loop-next.next-index in
    let m = get_or items i 0 in
    let same = c.loop-next.invariant.same in
    let more = takes-after taking (CycleOver ds bound path (IsAmong items i)) (CycleThrough ds bound path m) (CycleOver ds bound path (IsAmong items (i + 1))) c.args.collector.now c.loop-next.collector in
    let adds = adds-more ds bound path c.args.after items c.requires.path.begun c.successors-nexts.ensures i m (slice_get-get_or items i 0 c.loop-next-test.true) in
    elim c.if-not-is_excluded.branch [
      | extend-then-not-is_excluded+then-may_follow+in_ok-follow w ↦ record {
        same = ap (λ (v : ArrayVec ℕ). v.items) w.path-is ∙ w.in_ok-follow.ensures.path ∙ same;
        paced = λ first. absurd (omega (arith, first));
        added = rw w.collector-is (more w.follow.new.collector adds c.loop-next.invariant.added
            (subst (λ p. TakesSoFar taking (CycleThrough ds bound p m) c.loop-next.collector w.follow.new.collector) same w.in_ok-follow.ensures.all));
      }
      | extend-else-not-is_excluded w ↦
          let none : (numbers : List ℕ) → CycleThrough ds bound c.loop-next.path.items m numbers → ⊥ = elim w.else-not-is_excluded.branch [
            | extend-else-not-is_excluded-via-then-not-is_excluded+else-may_follow u ↦ u.may_follow.ensures.none u.if-may_follow.false
            | extend-else-not-is_excluded-via-else-not-is_excluded u ↦ c.is_excluded.ensures u.if-not-is_excluded.false
          ] in
          record {
            same = ap (λ (v : ArrayVec ℕ). v.items) w.path-is ∙ same;
            paced = λ first. absurd (omega (arith, first));
            added = rw w.collector-is (more c.loop-next.collector adds c.loop-next.invariant.added
                (subst (λ p. TakesSoFar taking (CycleThrough ds bound p m) c.loop-next.collector c.loop-next.collector) same
                (takes-none taking (CycleThrough ds bound c.loop-next.path.items m) c.loop-next.collector
                (all-none (CycleThrough ds bound c.loop-next.path.items m) none))));
          }
    ]

pub extend-returns-clause-all : goal.extend-returns-clause-all
extend-returns-clause-all g t c =
    let ds = c.args.search.now.search_input.now in
    let bound = c.args.search.now.members in
    let path = c.args.path.now.items in
    let items = c.successors-nexts.result.now in
    takes-as g.C.Collector.taking (CycleOver ds bound path (IsAmong items c.loop-next.next-index)) (CycleOver ds bound path (λ n. c.args.after < n)) c.args.collector.now c.loop-next.collector
    (λ before after. adds-end ds bound path c.args.after items c.requires.path.begun c.successors-nexts.ensures c.loop-next.next-index before after c.loop-next-test.false)
    c.loop-next.invariant.added

-- The result of the search for the next closing member, for the unchanged path.
closer-of : (ds : List Dependency) (path path' : List ℕ) (last : ℕ) (found answer : Option ℕ) → path' ≡ path → found ≡ answer →
    IsLeastAbove last (CompletesAsLast ds path') found → IsLeastAbove last (CompletesAsLast ds path) answer
closer-of ds path path' last found answer same is least =
    subst (IsLeastAbove last (CompletesAsLast ds path)) is (subst (λ p. IsLeastAbove last (CompletesAsLast ds p) found) same least)

pub close-loop-next-init : goal.close-loop-next-init
close-loop-next-init g t c = record {
  same = refl;
  from = omega arith;
  paced = λ first. refl;
  added = takes-none g.C.Collector.taking (CycleUpTo c.args.search.now.search_input.now c.args.search.now.members c.args.path.now.items c.args.after c.args.after) c.args.collector.now
      (closers-begin c.args.search.now.search_input.now c.args.search.now.members c.args.path.now.items c.args.after c.requires.path c.requires.room);
}

pub close-links-requires-clause-next : goal.close-links-requires-clause-next
close-links-requires-clause-next g t c =
    let back = (c.next_completing.ensures.sound c.in-Some.next c.in-Some.is).1 in
    slice_get_within c.args.search.now.search_input.now c.in-Some.next back.1 back.3

pub close-visit-requires : goal.close-visit-requires
close-visit-requires g t c =
    let more = c.next_completing.ensures.sound c.in-Some.next c.in-Some.is in
    let same = sym c.loop-next.invariant.same in
    let shorter = ap (λ (p : List ℕ). length p) same in
    let head = ap (λ (p : List ℕ). get_or p 0 0) same in
    let above : c.args.after < c.in-Some.next = omega (arith, more.0, c.loop-next.invariant.from) in
    let accepts = accepts-through g.C.Collector.taking c.args.search.now.search_input.now c.args.search.now.members c.args.path.now.items _ c.in-Some.next (λ next. c.args.after < next)
    (CycleUpTo c.args.search.now.search_input.now c.args.search.now.members c.args.path.now.items c.args.after c.loop-next.last) c.args.collector.now c.loop-next.collector
    above same c.loop-next.invariant.added c.requires.accepts in
    (λ κs lives. (omega (arith, shorter, c.requires.room), (lives.0, (lives.1.0, (lives.1.1, (subst (λ p. IsPath c.args.search.now.search_input.now p) same c.requires.path, (omega (arith, shorter, c.requires.room), (c.requires.members, (subst (λ p. HasTables c.args.search.now p) same c.requires.tables, (slice_get_within c.args.search.now.search_input.now c.in-Some.next more.1.1 more.1.3, (omega (arith, head, above, c.requires.above), (c.links.ensures.0 c.if-links.true, accepts))))))))))))

pub close-returns-in_err-visit-clause-all : goal.close-returns-in_err-visit-clause-all
close-returns-in_err-visit-clause-all g t c =
    let taking = g.C.Collector.taking in
    let ds = c.args.search.now.search_input.now in
    let bound = c.args.search.now.members in
    let path = c.args.path.now.items in
    let after = c.args.after in
    let last = c.loop-next.last in
    let from = c.loop-next.invariant.from in
    let m = c.in-Some.next in
    let least = closer-of ds path _ last _ _ c.loop-next.invariant.same c.in-Some.is c.next_completing.ensures in
    let p = err_from_is_err_and c.from_residual.result c.from_residual.ensures.1 in
    ended-after taking (CycleUpTo ds bound path after last) (CycleThrough ds bound path m) (CycleOver ds bound path (λ n. after < n)) c.args.collector.now c.loop-next.collector
    c.visit.new.collector c.visit.new.path.items _ p.0 _ p.1 (sym p.2)
    (closers-some ds bound path after c.requires.path c.requires.room last m from least)
    (λ now is.
    let (can, (rest, e)) = paused-last (PausesAt c.args.search.now c.loop-next.path m c.visit.new.path) _ now is c.in_err-visit.ensures.paused in
    closers-until ds bound path after c.requires.path c.requires.room last m from least (position_at c.visit.new.path.items now) rest (e ∙ ap (λ (q : List ℕ). q ++ m ∷ rest) c.loop-next.invariant.same))
    c.loop-next.invariant.added
    (until-for taking (λ q. CycleThrough ds bound q m) c.loop-next.path.items path c.loop-next.collector c.visit.new.collector c.visit.new.path.items c.in_err-visit.field-0.0
    c.loop-next.invariant.same c.in_err-visit.ensures.all)

pub close-returns-in_err-visit-clause-later : goal.close-returns-in_err-visit-clause-later
close-returns-in_err-visit-clause-later g t c =
    let path = c.args.path.now.items in
    let after = c.args.after in
    let m = c.in-Some.next in
    let more = c.next_completing.ensures.sound c.in-Some.next c.in-Some.is in
    let p = err_from_is_err_and c.from_residual.result c.from_residual.ensures.1 in
    paused-as (λ last. (g.P.Pace.pauses c.args.pace.now → ⊥) → ListBelow (position_at path after) (position_at c.visit.new.path.items last)) _ p.0 _ p.1 (sym p.2)
    (λ now is goes.
    let (can, (rest, e)) = paused-last (PausesAt c.args.search.now c.loop-next.path m c.visit.new.path) _ now is c.in_err-visit.ensures.paused in
    let own = paused-last (λ last. (g.P.Pace.pauses c.loop-next.pace → ⊥) → ListBelow (c.loop-next.path.items ++ m ∷ []) (position_at c.visit.new.path.items last)) _ now is c.in_err-visit.ensures.later in
    paused-later path after m (position_at c.visit.new.path.items now) rest (omega (arith, more.0, c.loop-next.invariant.from))
    (e ∙ ap (λ (q : List ℕ). q ++ m ∷ rest) c.loop-next.invariant.same)
    (λ next.
    let first : c.loop-next.last ≡ after = omega (arith, next, more.0, c.loop-next.invariant.from) in
    subst (λ (q : List ℕ). ListBelow (q ++ m ∷ []) (position_at c.visit.new.path.items now)) c.loop-next.invariant.same
    (own (λ pauses. goes (subst (λ pace. g.P.Pace.pauses pace) (c.loop-next.invariant.paced first) pauses)))))

smaller : (ds : List Dependency) (path : List ℕ) (last next : ℕ) → (last < next) × CompletesAsLast ds path next → length ds - next < length ds - last
smaller ds path last next (more, (first, d, head, at, takes)) = omega (arith, more, slice_get_within ds next d at)

pub close-loop-next-smaller-in_ok-visit : goal.close-loop-next-smaller-in_ok-visit
close-loop-next-smaller-in_ok-visit g t c = smaller c.args.search.now.search_input.now _ _ _ (c.next_completing.ensures.sound c.in-Some.next c.in-Some.is)

pub close-loop-next-preserved-in_ok-visit : goal.close-loop-next-preserved-in_ok-visit
close-loop-next-preserved-in_ok-visit g t c =
    let taking = g.C.Collector.taking in
    let ds = c.args.search.now.search_input.now in
    let bound = c.args.search.now.members in
    let path = c.args.path.now.items in
    let after = c.args.after in
    let last = c.loop-next.last in
    let m = c.in-Some.next in
    let over = (c.next_completing.ensures.sound m c.in-Some.is).0 in
    record {
      same = c.in_ok-visit.ensures.path ∙ c.loop-next.invariant.same;
      from = omega (arith, c.loop-next.invariant.from, over);
      paced = λ first. absurd (omega (arith, first, c.loop-next.invariant.from, over));
      added = takes-after taking (CycleUpTo ds bound path after last) (CycleThrough ds bound path m) (CycleUpTo ds bound path after m)
          c.args.collector.now c.loop-next.collector c.visit.new.collector
          (closers-more ds bound path after c.requires.path c.requires.room last m c.loop-next.invariant.from
          (closer-of ds path _ last _ _ c.loop-next.invariant.same c.in-Some.is c.next_completing.ensures))
          c.loop-next.invariant.added
          (subst (λ p. TakesSoFar taking (CycleThrough ds bound p m) c.loop-next.collector c.visit.new.collector) c.loop-next.invariant.same c.in_ok-visit.ensures.all);
    }

pub close-loop-next-smaller : goal.close-loop-next-smaller
close-loop-next-smaller g t c = smaller c.args.search.now.search_input.now _ _ _ (c.next_completing.ensures.sound c.in-Some.next c.in-Some.is)

pub close-loop-next-preserved : goal.close-loop-next-preserved
close-loop-next-preserved g t c =
    let taking = g.C.Collector.taking in
    let ds = c.args.search.now.search_input.now in
    let bound = c.args.search.now.members in
    let path = c.args.path.now.items in
    let after = c.args.after in
    let last = c.loop-next.last in
    let m = c.in-Some.next in
    let over = (c.next_completing.ensures.sound m c.in-Some.is).0 in
    record {
      same = c.loop-next.invariant.same;
      from = omega (arith, c.loop-next.invariant.from, over);
      paced = λ first. absurd (omega (arith, first, c.loop-next.invariant.from, over));
      added = takes-after taking (CycleUpTo ds bound path after last) (CycleThrough ds bound path m) (CycleUpTo ds bound path after m)
          c.args.collector.now c.loop-next.collector c.loop-next.collector
          (closers-more ds bound path after c.requires.path c.requires.room last m c.loop-next.invariant.from
          (closer-of ds path _ last _ _ c.loop-next.invariant.same c.in-Some.is c.next_completing.ensures))
          c.loop-next.invariant.added
          (takes-none taking (CycleThrough ds bound path m) c.loop-next.collector (rejected ds bound path m c.requires.path.begun
          (λ f. true≢false (sym (c.links.ensures.1 (subst (λ p. LinksTo ds p m) (sym c.loop-next.invariant.same) f.linked)) ∙ c.if-links.false))));
    }

pub close-returns-clause-all : goal.close-returns-clause-all
close-returns-clause-all g t c =
    let ds = c.args.search.now.search_input.now in
    let bound = c.args.search.now.members in
    let path = c.args.path.now.items in
    let last = c.loop-next.last in
    takes-as g.C.Collector.taking (CycleUpTo ds bound path c.args.after last) (CycleOver ds bound path (λ n. c.args.after < n)) c.args.collector.now c.loop-next.collector
    (closers-end ds bound path c.args.after c.requires.path c.requires.room last
    (closer-of ds path _ last _ _ c.loop-next.invariant.same c.in_default.is c.next_completing.ensures))
    c.loop-next.invariant.added

pub visit-returns-then-not-visits-clause-all : goal.visit-returns-then-not-visits-clause-all
visit-returns-then-not-visits-clause-all g t c =
    let ds = c.args.search.now.search_input.now in
    let bound = c.args.search.now.members in
    let path = c.args.path.now.items in
    let m = c.args.next in
    let same : suc (m - 1) ≡ m = omega (arith, c.requires.above) in
    takes-none g.C.Collector.taking (IsListBefore (CycleThrough ds bound path m) (position_at path (m - 1))) c.args.collector.now
    (subst (λ n. AreAll (IsListBefore (CycleThrough ds bound path m) (path ++ n ∷ [])) []) (sym same) (none-before ds bound path m))

pub visit-returns-then-not-may_follow-clause-all : goal.visit-returns-then-not-may_follow-clause-all
visit-returns-then-not-may_follow-clause-all g t c =
    takes-none g.C.Collector.taking (SearchedThrough c.args.search.now c.args.path.now c.args.next) c.args.collector.now
    (all-none (SearchedThrough c.args.search.now c.args.path.now c.args.next) (c.may_follow.ensures.none c.if-not-may_follow.true))

pub visit-follow-requires : goal.visit-follow-requires
visit-follow-requires g t c =
    let follows = c.may_follow.ensures.follows c.if-not-may_follow.false in
    λ κs lives. (omega (arith, c.requires.room), (lives.0, (lives.1.0, (lives.1.1, (c.requires.path, (c.requires.room, (c.requires.members, (c.requires.tables, (c.requires.known, (c.requires.above, (c.requires.linked, (follows, c.requires.accepts))))))))))))

pub follow-take-requires : goal.follow-take-requires
follow-take-requires g t c =
    let ds = c.args.search.now.search_input.now in
    let bound = c.args.search.now.members in
    let path = c.args.path.now.items in
    let cycle = path ++ c.args.next ∷ [] in
    let some = one-closed ds bound path c.args.next
    (path-tested ds path c.args.next c.requires.path c.requires.known (above-first-of path c.args.next c.requires.above) c.requires.linked c.requires.follows)
    (c.closes-is_cycle.ensures.0 c.if-is_cycle.true) c.requires.path.begun c.requires.room in
    subst (λ (z : List ℕ). g.C.Collector.taking.accepts c.args.collector.now z) (sym (c.cycle_of.ensures ∙ c.push.ensures.items))
    (c.requires.accepts cycle (some.sound cycle (contains_had (cycle ∷ []) cycle (0, refl))))

pub follow-returns-in-Err-clause-all : goal.follow-returns-in-Err-clause-all
follow-returns-in-Err-clause-all g t c =
    let taking = g.C.Collector.taking in
    let ds = c.args.search.now.search_input.now in
    let bound = c.args.search.now.members in
    let path = c.args.path.now.items in
    let cycle = path ++ c.args.next ∷ [] in
    let some = one-closed ds bound path c.args.next
    (path-tested ds path c.args.next c.requires.path c.requires.known (above-first-of path c.args.next c.requires.above) c.requires.linked c.requires.follows)
    (c.closes-is_cycle.ensures.0 c.if-is_cycle.true) c.requires.path.begun c.requires.room in
    refuses-one taking (CycleThrough ds bound path c.args.next) c.args.collector.now cycle _ _ some (c.cycle_of.ensures ∙ c.push.ensures.items) c.in-Err.ensures

pub follow-extend-requires : goal.follow-extend-requires
follow-extend-requires g t c =
    let ds = c.args.search.now.search_input.now in
    let bound = c.args.search.now.members in
    let path = c.args.path.now.items in
    let m = c.args.next in
    let pushed = sym c.push.ensures.items in
    let longer = path-tested ds path m c.requires.path c.requires.known (above-first-of path c.args.next c.requires.above) c.requires.linked c.requires.follows in
    let kept = get-push_kept path m 0 (get_or path 0 0) (slice_get-get_or path 0 0 c.requires.path.begun) in
    let first = get_or_from_slice_get c.push.new.self.items 0 (get_or path 0 0) 0 (ap (λ (xs : List ℕ). slice_get xs 0) c.push.ensures.items ∙ kept) in
    let tables = subst (AreTables c.args.search.now) (sym first) c.requires.tables in
    let after = ap (λ (xs : List ℕ). get_or xs 0 0) (sym c.deref.ensures.0) in
    let accepts = subst (λ p. AcceptsAll g.C.Collector.taking (CycleOver ds bound p (λ n. get_or c.deref.result.now 0 0 < n)) c.args.collector.now) pushed
    (λ numbers h. c.requires.accepts numbers (forth ds bound path m (get_or path 0 0) kept numbers
    (subst (λ first. CycleOver ds bound (path ++ m ∷ []) (λ n. first < n) numbers) (sym after ∙ first) h))) in
    λ κs lives. (omega (arith, c.push.ensures.len), (lives.0, (lives.1.0, (lives.1.1, (subst (λ p. IsPath ds p) pushed longer, (omega arith, (c.requires.members, (omega (arith, after), (tables, accepts)))))))))

pub follow-returns-in_err-extend-clause-all : goal.follow-returns-in_err-extend-clause-all
follow-returns-in_err-extend-clause-all g t c =
    let taking = g.C.Collector.taking in
    let ds = c.args.search.now.search_input.now in
    let bound = c.args.search.now.members in
    let path = c.args.path.now.items in
    let m = c.args.next in
    let first = get_or path 0 0 in
    let kept = get-push_kept path m 0 first (slice_get-get_or path 0 0 c.requires.path.begun) in
    let pushed = get_or_from_slice_get c.push.new.self.items 0 first 0 (ap (λ (xs : List ℕ). slice_get xs 0) c.push.ensures.items ∙ kept) in
    let after = ap (λ (xs : List ℕ). get_or xs 0 0) (sym c.deref.ensures.0) in
    let open' = λ (k : CompletesCycle ds (path ++ m ∷ [])). true≢false (sym (c.closes-is_cycle.ensures.1 k) ∙ c.if-is_cycle.false) in
    let p = err_from_is_err_and c.from_residual.result c.from_residual.ensures.1 in
    ended-as taking (CycleOver ds bound (path ++ m ∷ []) (λ n. first < n)) (CycleThrough ds bound path m) c.args.collector.now c.extend.new.collector c.extend.new.path.items _ p.0 _ p.1 (sym p.2)
    (λ before after (more, e, some). (more, e, deeper-some ds bound path m first kept more some))
    (λ last is before after (more, e, all). (more, e, deeper-until ds bound path m first kept (position_at c.extend.new.path.items last) more open' all))
    (until-for taking (λ a. CycleOver ds bound (path ++ m ∷ []) (λ n. a < n)) (get_or c.deref.result.now 0 0) first c.args.collector.now c.extend.new.collector c.extend.new.path.items
    c.in_err-extend.field-0.0 (sym after ∙ pushed)
    (until-for taking (λ q. CycleOver ds bound q (λ n. get_or c.deref.result.now 0 0 < n)) c.push.new.self.items (path ++ m ∷ []) c.args.collector.now c.extend.new.collector c.extend.new.path.items
    c.in_err-extend.field-0.0 c.push.ensures.items c.in_err-extend.ensures.all))

pub follow-returns-in_err-extend-clause-paused : goal.follow-returns-in_err-extend-clause-paused
follow-returns-in_err-extend-clause-paused g t c =
    let path = c.args.path.now.items in
    let m = c.args.next in
    let p = err_from_is_err_and c.from_residual.result c.from_residual.ensures.1 in
    paused-as (PausesAt c.args.search.now c.args.path.now m c.extend.new.path) _ p.0 _ p.1 (sym p.2)
    (λ last is.
    let (x, above, (can, (rest, e))) = paused-last (PausesAfter c.args.search.now c.push.new.self _ c.extend.new.path) _ last is c.in_err-extend.ensures.paused in
    (can, (x ∷ rest, e ∙ ap (λ (q : List ℕ). q ++ x ∷ rest) c.push.ensures.items ∙ append_assoc path (m ∷ []) (x ∷ rest))))

pub follow-returns-in_err-extend-clause-later : goal.follow-returns-in_err-extend-clause-later
follow-returns-in_err-extend-clause-later g t c =
    let path = c.args.path.now.items in
    let m = c.args.next in
    let p = err_from_is_err_and c.from_residual.result c.from_residual.ensures.1 in
    paused-as (λ last. ListBelow (path ++ m ∷ []) (position_at c.extend.new.path.items last)) _ p.0 _ p.1 (sym p.2)
    (λ last is.
    let (x, above, (can, (rest, e))) = paused-last (PausesAfter c.args.search.now c.push.new.self _ c.extend.new.path) _ last is c.in_err-extend.ensures.paused in
    subst (ListBelow (path ++ m ∷ [])) (sym (e ∙ ap (λ (q : List ℕ). q ++ x ∷ rest) c.push.ensures.items ∙ append_assoc path (m ∷ []) (x ∷ rest))) (below-longer path m x rest))

pub follow-returns-clause-all : goal.follow-returns-clause-all
follow-returns-clause-all g t c =
    let taking = g.C.Collector.taking in
    let ds = c.args.search.now.search_input.now in
    let bound = c.args.search.now.members in
    let path = c.args.path.now.items in
    let m = c.args.next in
    let pushed = c.push.ensures.items in
    elim c.if-is_cycle.branch [
      | follow-then-is_cycle+in_default w ↦
          rw w.collector-is (takes-one taking (CycleThrough ds bound path m) c.args.collector.now w.take.new.self (path ++ m ∷ [])
          (closed ds bound path m
          (path-tested ds path m c.requires.path c.requires.known (above-first-of path m c.requires.above) c.requires.linked c.requires.follows)
          (c.closes-is_cycle.ensures.0 w.if-is_cycle.true) c.requires.path.begun c.requires.room)
          (subst (λ (z : List ℕ). (start : g.row.C.Denot) (before : List (List ℕ)) → taking.took start before c.args.collector.now → taking.took start (before ++ z ∷ []) w.take.new.self)
          (w.cycle_of.ensures ∙ pushed) w.in_default.ensures))
      | follow-else-is_cycle+then-len-search+in_ok-extend w ↦
          let first = get_or path 0 0 in
          let kept = get-push_kept path m 0 first (slice_get-get_or path 0 0 c.requires.path.begun) in
          let start = get_or_from_slice_get c.push.new.self.items 0 first 0 (ap (λ (xs : List ℕ). slice_get xs 0) pushed ∙ kept) in
          let after = ap (λ (xs : List ℕ). get_or xs 0 0) (sym w.deref.ensures.0) in
          rw w.collector-is (takes-as taking (CycleOver ds bound (path ++ m ∷ []) (λ n. first < n)) (CycleThrough ds bound path m) c.args.collector.now w.extend.new.collector
          (λ before after (more, e, all). (more, e, deeper ds bound path m first kept more (λ k. true≢false (sym (c.closes-is_cycle.ensures.1 k) ∙ w.if-is_cycle.false)) all))
          (subst (λ a. TakesSoFar taking (CycleOver ds bound (path ++ m ∷ []) (λ n. a < n)) c.args.collector.now w.extend.new.collector) (sym after ∙ start)
          (subst (λ q. TakesSoFar taking (CycleOver ds bound q (λ n. get_or w.deref.result.now 0 0 < n)) c.args.collector.now w.extend.new.collector) pushed w.in_ok-extend.ensures.all)))
      | follow-else-is_cycle+else-len-search w ↦
          rw w.collector-is (takes-none taking (CycleThrough ds bound path m) c.args.collector.now
          (full ds bound path m (λ k. true≢false (sym (c.closes-is_cycle.ensures.1 k) ∙ w.if-is_cycle.false))
          (omega (arith, w.if-len-search.false, w.len.ensures.value, ap (λ (xs : List ℕ). length xs) pushed))))
    ]
