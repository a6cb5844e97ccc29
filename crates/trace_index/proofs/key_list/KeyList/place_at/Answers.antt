use Rattle.std.proofs.Common.{length, sym, ◌∙◌, arith}
use Rattle.segments.proofs.Counting.{count_none}
use Rattle.segments.proofs.Linking.{last_is}
use Rattle.trace_index.specs.Links.{matches, trace_of}
use Rattle.trace_index.proofs.key_list.KeyList.place_at.Goals as goal

pub unreachable-requires : goal.unreachable-requires
unreachable-requires c =
    let none = count_none (matches (trace_of c.args.self.now.rows.now.0) c.args.self.now.key) (length c.args.self.now.rows.now.0) (sym c.requires.last ∙ c.in_default.is) in
    let count = c.requires.count in
    let below = c.requires.number in
    omega arith

pub loop-init : goal.loop-init
loop-init c =
    let e = last_is (matches (trace_of c.args.self.now.rows.now.0) c.args.self.now.key) (length c.args.self.now.rows.now.0) c.in-Some.from (sym c.requires.last ∙ c.in-Some.is) in
    let count = c.requires.count in
    let one = e.one_less in
    record { within = e.below; passing = e.passes_is; left = omega arith }

pub before-requires-clause-within : goal.before-requires-clause-within
before-requires-clause-within c = c.loop.invariant.within

pub before-requires-clause-passing : goal.before-requires-clause-passing
before-requires-clause-passing c = c.loop.invariant.passing

pub unreachable-requires-in_default-before : goal.unreachable-requires-in_default-before
unreachable-requires-in_default-before c =
    let none = count_none (matches (trace_of c.args.self.now.rows.now.0) c.args.self.now.key) c.loop.place (sym c.before-in-loop.ensures ∙ c.in_default-before.is) in
    let left = c.loop.invariant.left in
    let below = c.loop-test.true in
    omega arith

pub loop-preserved : goal.loop-preserved
loop-preserved c =
    let e = last_is (matches (trace_of c.args.self.now.rows.now.0) c.args.self.now.key) c.loop.place c.in-Some-before.earlier (sym c.before-in-loop.ensures ∙ c.in-Some-before.is) in
    let left = c.loop.invariant.left in
    let within = c.loop.invariant.within in
    let below = e.below in
    let one = e.one_less in
    record { within = omega arith; passing = e.passes_is; left = omega arith }

pub returns-clause-within : goal.returns-clause-within
returns-clause-within c = c.loop.invariant.within

pub returns-clause-matches : goal.returns-clause-matches
returns-clause-matches c = c.loop.invariant.passing

pub returns-clause-number : goal.returns-clause-number
returns-clause-number c =
    let left = c.loop.invariant.left in
    let past = c.loop-test.false in
    let end = c.loop.auto.counter-end in
    let below = c.requires.number in
    omega (arith, end (omega arith))
