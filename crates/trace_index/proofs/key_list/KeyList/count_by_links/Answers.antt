use Rattle.std.proofs.Common.{◌≡◌, ◌+◌, suc, length, sym, ap, ◌∙◌, w64, arith}
use Rattle.std.proofs.Math.Facts.{Fits-below}
use Rattle.segments.specs.Linking.{count_below}
use Rattle.segments.proofs.Counting.{count_max}
use Rattle.segments.proofs.Linking.{last_is, falls}
use Rattle.trace_index.specs.Links.{matches, trace_of}
use Rattle.trace_index.proofs.KeyLists.{up_to, up_to_last}
use Rattle.trace_index.proofs.key_list.KeyList.count_by_links.Goals as goal

pub loop-next-init : goal.loop-next-init
loop-next-init c =
    let test = matches (trace_of c.args.self.now.rows.now.0) c.args.self.now.key in
    let size = length c.args.self.now.rows.now.0 in
    let all = up_to_last test size c.args.last c.requires.last in
    record {
      there = λ p h. let e = last_is test size p (sym c.requires.last ∙ h) in (e.below, e.passes_is);
      left = omega arith;
    }

pub before-next-requires-clause-within : goal.before-next-requires-clause-within
before-next-requires-clause-within c = (c.loop-next.invariant.there c.in-Some.place c.in-Some.is).0

pub before-next-requires-clause-passing : goal.before-next-requires-clause-passing
before-next-requires-clause-passing c = (c.loop-next.invariant.there c.in-Some.place c.in-Some.is).1

-- the places up to this one are those before it, and itself
one_more : (c : goal.After-before-next) →
    c.loop-next.count + suc (up_to (matches (trace_of c.args.self.now.rows.now.0) c.args.self.now.key) c.before-next.result)
    ≡ count_below (matches (trace_of c.args.self.now.rows.now.0) c.args.self.now.key) (length c.args.self.now.rows.now.0)
one_more c =
    let test = matches (trace_of c.args.self.now.rows.now.0) c.args.self.now.key in
    ap (λ k. c.loop-next.count + suc k) (up_to_last test c.in-Some.place c.before-next.result c.before-next.ensures)
    ∙ ap (λ o. c.loop-next.count + up_to test o) (sym c.in-Some.is) ∙ c.loop-next.invariant.left

pub overflow_add-count : goal.overflow_add-count
overflow_add-count c =
    let all = one_more c in
    let most = count_max (matches (trace_of c.args.self.now.rows.now.0) c.args.self.now.key) (length c.args.self.now.rows.now.0) in
    let short = c.requires.short in
    Fits-below {w = w64} {m = c.loop-next.count + 1} {n = 1048576} tt (omega arith)

pub loop-next-smaller : goal.loop-next-smaller
loop-next-smaller c =
    falls c.loop-next.next c.before-next.result c.in-Some.place c.in-Some.is
    (λ p h. (last_is (matches (trace_of c.args.self.now.rows.now.0) c.args.self.now.key) c.in-Some.place p (sym c.before-next.ensures ∙ h)).below)

pub loop-next-preserved : goal.loop-next-preserved
loop-next-preserved c =
    let test = matches (trace_of c.args.self.now.rows.now.0) c.args.self.now.key in
    let within = (c.loop-next.invariant.there c.in-Some.place c.in-Some.is).0 in
    let all = one_more c in
    record {
      there = λ p h.
          let e = last_is test c.in-Some.place p (sym c.before-next.ensures ∙ h) in
          let b = e.below in
          (omega arith, e.passes_is);
      left = omega arith;
    }

pub returns : goal.returns
returns c =
    let test = matches (trace_of c.args.self.now.rows.now.0) c.args.self.now.key in
    let all = c.loop-next.invariant.left in
    let none = ap (up_to test) c.in_default.is in
    omega arith
