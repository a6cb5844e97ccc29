use Rattle.std.proofs.Common.{◌≡◌, ◌<◌, ◌≤◌, ◌∙◌, suc, [], ◌∷◌, ◌++◌, List, ℕ, Option, Some, length, get_or, slice_get, refl, sym, ap, subst, append_assoc, arith}
use Rattle.std.proofs.lemmas.Option.{slice_get-get_or, get_or_from_slice_get}
use Rattle.std.proofs.lemmas.Result.{err_from_is_err_and}
use Rattle.std.specs.Option.{option_to_list}
use Rattle.trace_model.proofs.Lists.{length-push, get-push_kept, get-push_last}
use Rattle.trace_model.proofs.Theory.Unique.{below_asym, contains_had}
use Rattle.trace_model.specs.Theory.Cycles.{ListBelow}
use Rattle.trace_model.specs.Theory.Dependencies.{Dependency}
use Rattle.cycle_search.specs.Collecting.{TakesSoFar}
use Rattle.cycle_search.specs.CycleSearch.{CycleOver, IsPath}
use Rattle.cycle_search.specs.Pausing.{IsListBefore, PausesAfter, position_at}
use Rattle.cycle_search.proofs.Collecting.{takes-as, takes-after, ended-after, ended-as, paused-as, paused-last}
use Rattle.cycle_search.proofs.Continuing.{IsLeft, first-all, first-some, first-until, left-all, next-all, next-left, next-later, next-some, next-until, over-left}
use Rattle.cycle_search.proofs.Paths.{path-shorter}
use Rattle.cycle_search.proofs.Positions.{end_of, not-before}
use Rattle.cycle_search.proofs.search.extend_from.Goals as goal

-- The path without its last number.
module _ (path shorter : List ℕ) (last : ℕ) (popped : path ≡ shorter ++ last ∷ []) where
  left-begun : 1 < length path → 0 < length shorter
  left-begun long = omega (arith, long, ap (λ (xs : List ℕ). length xs) popped, length-push shorter last)

  same-first : 0 < length shorter → get_or shorter 0 0 ≡ get_or path 0 0
  same-first begun = sym (get_or_from_slice_get path 0 (get_or shorter 0 0) 0
      (ap (λ (xs : List ℕ). slice_get xs 0) popped ∙ get-push_kept shorter last 0 (get_or shorter 0 0) (slice_get-get_or shorter 0 0 begun)))

  same-position : (position rest : List ℕ) (m : ℕ) → position ≡ path ++ m ∷ rest → position ≡ shorter ++ last ∷ m ∷ rest
  same-position position rest m at = at ∙ ap (λ (xs : List ℕ). xs ++ m ∷ rest) popped ∙ append_assoc shorter (last ∷ []) (m ∷ rest)

  least-first : (ds : List Dependency) → IsPath ds path → 0 < length shorter → get_or shorter 0 0 ≤ last
  least-first ds p begun =
      let q = subst (IsPath ds) popped p in
      q.least_first (get_or shorter 0 0) last (get-push_kept shorter last 0 (get_or shorter 0 0) (slice_get-get_or shorter 0 0 begun))
      (contains_had (shorter ++ last ∷ []) last (length shorter, get-push_last shorter last))

-- The first number of a path.
head-of : (path : List ℕ) (first : ℕ) → 0 < length path → get_or path 0 0 ≡ first → slice_get path 0 ≡ Some first
head-of path first begun same = slice_get-get_or path 0 0 begun ∙ ap Some same

pub extend-requires-clause-accepts : goal.extend-requires-clause-accepts
extend-requires-clause-accepts g c numbers over =
    let ds = c.args.search.now.search_input.now in
    let path = c.args.path.now.items in
    let begun = c.requires.path.begun in
    c.requires.accepts numbers (over-left ds c.args.search.now.members (get_or path 0 0) (position_at path c.args.last) path c.args.last begun (slice_get-get_or path 0 0 begun) refl numbers over)

pub returns-in_err-extend-clause-all : goal.returns-in_err-extend-clause-all
returns-in_err-extend-clause-all g c =
    let taking = g.C.Collector.taking in
    let ds = c.args.search.now.search_input.now in
    let bound = c.args.search.now.members in
    let path = c.args.path.now.items in
    let root = get_or path 0 0 in
    let last = c.args.last in
    let position = position_at path last in
    let begun = c.requires.path.begun in
    let head = slice_get-get_or path 0 0 begun in
    let p = err_from_is_err_and c.from_residual.result c.from_residual.ensures.1 in
    ended-as taking (CycleOver ds bound path (λ n. last < n)) (IsLeft ds bound root position) c.args.collector.now c.extend.new.collector c.extend.new.path.items _ p.0 _ p.1 (sym p.2)
    (first-some ds bound root position path last begun head refl)
    (λ now is.
    let (m, l, (can, (rest, e))) = paused-last (PausesAfter c.args.search.now c.args.path.now last c.extend.new.path) _ now is c.in_err-extend.ensures.paused in
    first-until ds bound root position path last begun head refl (position_at c.extend.new.path.items now) rest m e)
    c.in_err-extend.ensures.all

pub returns-in_err-extend-clause-kept : goal.returns-in_err-extend-clause-kept
returns-in_err-extend-clause-kept g c =
    let path = c.args.path.now.items in
    let last = c.args.last in
    let p = err_from_is_err_and c.from_residual.result c.from_residual.ensures.1 in
    paused-as (λ now. ListBelow (position_at c.extend.new.path.items now) (position_at path last) → ⊥) _ p.0 _ p.1 (sym p.2)
    (λ now is before.
    let (m, l, (can, (rest, e))) = paused-last (PausesAfter c.args.search.now c.args.path.now last c.extend.new.path) _ now is c.in_err-extend.ensures.paused in
    not-before path last m rest l (subst (λ z. ListBelow z (position_at path last)) e before))

pub loop-path-init : goal.loop-path-init
loop-path-init g c =
    let taking = g.C.Collector.taking in
    let ds = c.args.search.now.search_input.now in
    let bound = c.args.search.now.members in
    let path = c.args.path.now.items in
    let root = get_or path 0 0 in
    let last = c.args.last in
    let position = position_at path last in
    let begun = c.requires.path.begun in
    let head = slice_get-get_or path 0 0 begun in
    let same = sym c.in_ok-extend.ensures.path in
    record {
      shorter = (suc last, [], ap (λ (xs : List ℕ). xs ++ suc last ∷ []) same);
      path = subst (IsPath ds) same c.requires.path;
      room = omega (arith, ap (λ (xs : List ℕ). length xs) same);
      first = ap (λ (xs : List ℕ). get_or xs 0 0) (sym same);
      added = subst (λ (xs : List ℕ). TakesSoFar taking (IsListBefore (IsLeft ds bound root position) (end_of xs)) c.args.collector.now c.extend.new.collector) same
          (takes-as taking (CycleOver ds bound path (λ n. last < n)) (IsListBefore (IsLeft ds bound root position) (end_of path)) c.args.collector.now c.extend.new.collector
          (first-all ds bound root position path last begun head refl)
          c.in_ok-extend.ensures.all);
    }

pub extend-requires-in-loop-path-clause-path : goal.extend-requires-in-loop-path-clause-path
extend-requires-in-loop-path-clause-path g c =
    let ds = c.args.search.now.search_input.now in
    let q = c.pop.new.self.items in
    let l = c.in-Some.last in
    let popped = c.pop.ensures.items ∙ ap (λ (o : Option ℕ). q ++ option_to_list o) c.in-Some.is in
    let begun = left-begun c.loop-path.path.items q l popped (omega (arith, c.loop-path-test.true, c.len.ensures.value)) in
    path-shorter ds q l begun (subst (IsPath ds) popped c.loop-path.invariant.path)

pub extend-requires-in-loop-path-clause-above : goal.extend-requires-in-loop-path-clause-above
extend-requires-in-loop-path-clause-above g c =
    let q = c.pop.new.self.items in
    let l = c.in-Some.last in
    let popped = c.pop.ensures.items ∙ ap (λ (o : Option ℕ). q ++ option_to_list o) c.in-Some.is in
    let begun = left-begun c.loop-path.path.items q l popped (omega (arith, c.loop-path-test.true, c.len.ensures.value)) in
    least-first c.loop-path.path.items q l popped c.args.search.now.search_input.now c.loop-path.invariant.path begun

pub extend-requires-in-loop-path-clause-accepts : goal.extend-requires-in-loop-path-clause-accepts
extend-requires-in-loop-path-clause-accepts g c numbers over =
    let taking = g.C.Collector.taking in
    let ds = c.args.search.now.search_input.now in
    let path = c.args.path.now.items in
    let root = get_or path 0 0 in
    let q = c.pop.new.self.items in
    let l = c.in-Some.last in
    let popped = c.pop.ensures.items ∙ ap (λ (o : Option ℕ). q ++ option_to_list o) c.in-Some.is in
    let begun = left-begun c.loop-path.path.items q l popped (omega (arith, c.loop-path-test.true, c.len.ensures.value)) in
    let head = head-of q root begun (same-first c.loop-path.path.items q l popped begun ∙ c.loop-path.invariant.first) in
    let (m, rest, at) = c.loop-path.invariant.shorter in
    let (after, a, took) = c.loop-path.invariant.added c.args.collector.now [] (taking.nothing c.args.collector.now) in
    taking.still c.args.collector.now c.loop-path.collector after numbers took
    (c.requires.accepts numbers (next-left ds c.args.search.now.members root (position_at path c.args.last) q l begun head (m ∷ rest)
    (same-position c.loop-path.path.items q l popped (position_at path c.args.last) rest m at) numbers over))

pub loop-path-preserved : goal.loop-path-preserved
loop-path-preserved g c =
    let taking = g.C.Collector.taking in
    let ds = c.args.search.now.search_input.now in
    let bound = c.args.search.now.members in
    let path = c.args.path.now.items in
    let root = get_or path 0 0 in
    let position = position_at path c.args.last in
    let q = c.pop.new.self.items in
    let l = c.in-Some.last in
    let popped = c.pop.ensures.items ∙ ap (λ (o : Option ℕ). q ++ option_to_list o) c.in-Some.is in
    let begun = left-begun c.loop-path.path.items q l popped (omega (arith, c.loop-path-test.true, c.len.ensures.value)) in
    let first = same-first c.loop-path.path.items q l popped begun ∙ c.loop-path.invariant.first in
    let head = head-of q root begun first in
    let (m, rest, at) = c.loop-path.invariant.shorter in
    let here = same-position c.loop-path.path.items q l popped position rest m at in
    let same = sym c.in_ok-extend-2.ensures.path in
    record {
      shorter = (l, m ∷ rest, here ∙ ap (λ (xs : List ℕ). xs ++ l ∷ m ∷ rest) same);
      path = subst (IsPath ds) same (path-shorter ds q l begun (subst (IsPath ds) popped c.loop-path.invariant.path));
      room = omega (arith, ap (λ (xs : List ℕ). length xs) same, ap (λ (xs : List ℕ). length xs) popped, length-push q l, c.loop-path.invariant.room);
      first = ap (λ (xs : List ℕ). get_or xs 0 0) (sym same) ∙ first;
      added = subst (λ (xs : List ℕ). TakesSoFar taking (IsListBefore (IsLeft ds bound root position) (end_of xs)) c.args.collector.now c.extend-in-loop-path.new.collector) same
          (takes-after taking (IsListBefore (IsLeft ds bound root position) (end_of (q ++ l ∷ []))) (CycleOver ds bound q (λ n. l < n)) (IsListBefore (IsLeft ds bound root position) (end_of q))
          c.args.collector.now c.loop-path.collector c.extend-in-loop-path.new.collector
          (next-all ds bound root position q l begun head (m ∷ rest) here)
          (subst (λ (xs : List ℕ). TakesSoFar taking (IsListBefore (IsLeft ds bound root position) (end_of xs)) c.args.collector.now c.loop-path.collector) popped c.loop-path.invariant.added)
          c.in_ok-extend-2.ensures.all);
    }

pub returns-in_err-extend-2-clause-all : goal.returns-in_err-extend-2-clause-all
returns-in_err-extend-2-clause-all g c =
    let taking = g.C.Collector.taking in
    let ds = c.args.search.now.search_input.now in
    let bound = c.args.search.now.members in
    let path = c.args.path.now.items in
    let root = get_or path 0 0 in
    let position = position_at path c.args.last in
    let q = c.pop.new.self.items in
    let l = c.in-Some.last in
    let popped = c.pop.ensures.items ∙ ap (λ (o : Option ℕ). q ++ option_to_list o) c.in-Some.is in
    let begun = left-begun c.loop-path.path.items q l popped (omega (arith, c.loop-path-test.true, c.len.ensures.value)) in
    let head = head-of q root begun (same-first c.loop-path.path.items q l popped begun ∙ c.loop-path.invariant.first) in
    let (m, rest, at) = c.loop-path.invariant.shorter in
    let here = same-position c.loop-path.path.items q l popped position rest m at in
    let p = err_from_is_err_and c.from_residual-in_err-extend-2.result c.from_residual-in_err-extend-2.ensures.1 in
    ended-after taking (IsListBefore (IsLeft ds bound root position) (end_of (q ++ l ∷ []))) (CycleOver ds bound q (λ n. l < n)) (IsLeft ds bound root position)
    c.args.collector.now c.loop-path.collector c.extend-in-loop-path.new.collector c.extend-in-loop-path.new.path.items _ p.0 _ p.1 (sym p.2)
    (next-some ds bound root position q l begun head (m ∷ rest) here)
    (λ now is.
    let (n, over, (can, (more, e))) = paused-last (PausesAfter c.args.search.now c.pop.new.self l c.extend-in-loop-path.new.path) _ now is c.in_err-extend-2.ensures.paused in
    next-until ds bound root position q l begun head (m ∷ rest) here (position_at c.extend-in-loop-path.new.path.items now) more n over e)
    (subst (λ (xs : List ℕ). TakesSoFar taking (IsListBefore (IsLeft ds bound root position) (end_of xs)) c.args.collector.now c.loop-path.collector) popped c.loop-path.invariant.added)
    c.in_err-extend-2.ensures.all

pub returns-in_err-extend-2-clause-kept : goal.returns-in_err-extend-2-clause-kept
returns-in_err-extend-2-clause-kept g c =
    let ds = c.args.search.now.search_input.now in
    let bound = c.args.search.now.members in
    let path = c.args.path.now.items in
    let root = get_or path 0 0 in
    let position = position_at path c.args.last in
    let q = c.pop.new.self.items in
    let l = c.in-Some.last in
    let popped = c.pop.ensures.items ∙ ap (λ (o : Option ℕ). q ++ option_to_list o) c.in-Some.is in
    let begun = left-begun c.loop-path.path.items q l popped (omega (arith, c.loop-path-test.true, c.len.ensures.value)) in
    let head = head-of q root begun (same-first c.loop-path.path.items q l popped begun ∙ c.loop-path.invariant.first) in
    let (m, rest, at) = c.loop-path.invariant.shorter in
    let here = same-position c.loop-path.path.items q l popped position rest m at in
    let p = err_from_is_err_and c.from_residual-in_err-extend-2.result c.from_residual-in_err-extend-2.ensures.1 in
    paused-as (λ now. ListBelow (position_at c.extend-in-loop-path.new.path.items now) position → ⊥) _ p.0 _ p.1 (sym p.2)
    (λ now is before.
    let (n, over, (can, (more, e))) = paused-last (PausesAfter c.args.search.now c.pop.new.self l c.extend-in-loop-path.new.path) _ now is c.in_err-extend-2.ensures.paused in
    below_asym position (position_at c.extend-in-loop-path.new.path.items now)
    (next-later ds bound root position q l begun head (m ∷ rest) here (position_at c.extend-in-loop-path.new.path.items now) more n over e) before)

pub returns-in_err-extend-2-clause-later : goal.returns-in_err-extend-2-clause-later
returns-in_err-extend-2-clause-later g c =
    let ds = c.args.search.now.search_input.now in
    let bound = c.args.search.now.members in
    let path = c.args.path.now.items in
    let root = get_or path 0 0 in
    let position = position_at path c.args.last in
    let q = c.pop.new.self.items in
    let l = c.in-Some.last in
    let popped = c.pop.ensures.items ∙ ap (λ (o : Option ℕ). q ++ option_to_list o) c.in-Some.is in
    let begun = left-begun c.loop-path.path.items q l popped (omega (arith, c.loop-path-test.true, c.len.ensures.value)) in
    let head = head-of q root begun (same-first c.loop-path.path.items q l popped begun ∙ c.loop-path.invariant.first) in
    let (m, rest, at) = c.loop-path.invariant.shorter in
    let here = same-position c.loop-path.path.items q l popped position rest m at in
    let p = err_from_is_err_and c.from_residual-in_err-extend-2.result c.from_residual-in_err-extend-2.ensures.1 in
    paused-as (λ now. (g.P.Pace.pauses c.args.pace.now → ⊥) → ListBelow position (position_at c.extend-in-loop-path.new.path.items now)) _ p.0 _ p.1 (sym p.2)
    (λ now is goes.
    let (n, over, (can, (more, e))) = paused-last (PausesAfter c.args.search.now c.pop.new.self l c.extend-in-loop-path.new.path) _ now is c.in_err-extend-2.ensures.paused in
    next-later ds bound root position q l begun head (m ∷ rest) here (position_at c.extend-in-loop-path.new.path.items now) more n over e)

pub returns-clause-all : goal.returns-clause-all
returns-clause-all g c =
    let ds = c.args.search.now.search_input.now in
    let bound = c.args.search.now.members in
    let path = c.args.path.now.items in
    let root = get_or path 0 0 in
    let position = position_at path c.args.last in
    let q = c.loop-path.path.items in
    let begun = c.loop-path.invariant.path.begun in
    takes-as g.C.Collector.taking (IsListBefore (IsLeft ds bound root position) (end_of q)) (IsLeft ds bound root position) c.args.collector.now c.loop-path.collector
    (left-all ds bound root position q (omega (arith, c.loop-path-test.false, c.len.ensures.value)) begun (head-of q root begun c.loop-path.invariant.first))
    c.loop-path.invariant.added
