use Rattle.std.proofs.Common.{◌+◌, ◌-◌, ◌/◌, ◌<◌, length, arith}
use Rattle.std.proofs.lemmas.Option.{slice_get_within}
use Rattle.fronts.specs.Slots.{slots_of}
use Rattle.fronts.proofs.MemberLemmas.{passed_before}
use Rattle.fronts.proofs.members.Member.first_past.Goals as goal

pub loop-step-init : goal.loop-step-init
loop-step-init c =
    let m = c.args.self.now in
    record {
      after = omega arith;
      inside = slice_get_within m.places m.entry m.place c.requires.member.at;
      some = omega arith;
      passed = λ i q n low high. absurd (omega (arith, low, high));
    }

pub overflow_sub-places : goal.overflow_sub-places
overflow_sub-places c = omega (arith, c.loop-step.invariant.inside, c.len-places.ensures.length)

pub overflow_sub-step : goal.overflow_sub-step
overflow_sub-step c = omega (arith, c.loop-step.invariant.after)

pub loop-step-smaller : goal.loop-step-smaller
loop-step-smaller c = omega (arith, c.loop-step.invariant.some, c.loop-step.invariant.inside)

pub loop-step-preserved : goal.loop-step-preserved
loop-step-preserved c =
    let m = c.args.self.now in
    let inv = c.loop-step.invariant in
    let inside : c.loop-step.low + c.loop-step.step < length m.places = omega (arith, c.loop-step-test.true, c.len-places.ensures.length) in
    record {
      after = omega (arith, inv.after);
      inside = inside;
      some = omega arith;
      passed = passed_before c.args.index.now.events (slots_of c.args.threads.now) c.args.threads.now.count m c.args.count (c.loop-step.low + c.loop-step.step)
          c.requires.slots c.requires.member c.len-places.ensures.ascends inside (c.is_passed.ensures c.if-is_passed.true);
    }

pub overflow_sub-places-2 : goal.overflow_sub-places-2
overflow_sub-places-2 c = omega (arith, c.loop-step.invariant.inside, c.len-places.ensures.length)

pub loop-high-init : goal.loop-high-init
loop-high-init c =
    let inv = c.loop-step.invariant in
    record {
      after = inv.after;
      order = omega (arith, c.min.ensures, inv.some, inv.inside, c.len-places.ensures.length);
      within = omega (arith, c.min.ensures, inv.inside, c.len-places.ensures.length);
      passed = inv.passed;
    }

pub overflow_sub-high : goal.overflow_sub-high
overflow_sub-high c = omega (arith, c.loop-high.invariant.order)

pub is_passed-requires-in-loop-high : goal.is_passed-requires-in-loop-high
is_passed-requires-in-loop-high c = omega (arith, c.loop-high.invariant.order, c.loop-high.invariant.within)

pub loop-high-smaller-then-is_passed-2 : goal.loop-high-smaller-then-is_passed-2
loop-high-smaller-then-is_passed-2 c = omega (arith, c.loop-high-test.true)

pub loop-high-preserved-then-is_passed-2 : goal.loop-high-preserved-then-is_passed-2
loop-high-preserved-then-is_passed-2 c =
    let m = c.args.self.now in
    let inv = c.loop-high.invariant in
    let middle = c.loop-high.low + (c.loop-high.high - c.loop-high.low) / 2 in
    let less : middle < c.loop-high.high = omega (arith, inv.order) in
    let inside : middle < length m.places = omega (arith, less, inv.within) in
    record {
      after = omega (arith, inv.after);
      order = less;
      within = inv.within;
      passed = passed_before c.args.index.now.events (slots_of c.args.threads.now) c.args.threads.now.count m c.args.count middle
          c.requires.slots c.requires.member c.len-places.ensures.ascends inside (c.is_passed-in-loop-high.ensures c.if-is_passed-2.true);
    }

pub loop-high-smaller : goal.loop-high-smaller
loop-high-smaller c = omega (arith, c.loop-high-test.true)

pub loop-high-preserved : goal.loop-high-preserved
loop-high-preserved c =
    let inv = c.loop-high.invariant in
    record {
      after = inv.after;
      order = omega (arith, c.loop-high-test.true);
      within = omega (arith, inv.within, inv.order);
      passed = inv.passed;
    }

pub returns-clause-later : goal.returns-clause-later
returns-clause-later c = omega (arith, c.loop-high.invariant.after, c.loop-high.invariant.order)

pub returns-clause-passed : goal.returns-clause-passed
returns-clause-passed c = λ i q n low high.
    c.loop-high.invariant.passed i q n low (omega (arith, high, c.loop-high-test.false, c.loop-high.invariant.order))

pub returns-clause-within : goal.returns-clause-within
returns-clause-within c = c.loop-high.invariant.within
