use Rattle.std.proofs.Common.{Some, None}
use Rattle.std.proofs.lemmas.Bool.{false≢true}
use Rattle.replay.specs.Facts.{previous}
use Rattle.replay.proofs.Lists.{entry_is}
use Rattle.replay.proofs.FactLists.{missed_earlier, none_missed_earlier, previous_within}
use Rattle.replay.proofs.order_rules.Known.misses_earlier.Goals as goal

pub is_passed-requires-clause-in_trace : goal.is_passed-requires-clause-in_trace
is_passed-requires-clause-in_trace c =
    let k = c.args.self.now in
    let q = c.args.place in
    let is = entry_is c.deref.result.now k.facts.now.previous.items q (Some c.in-Some.previous) (previous k.trace.now q) c.deref.ensures.value c.in-Some.ensures (c.requires.known.0.previous q c.requires.in_trace) in
    previous_within k.trace.now q c.in-Some.previous c.requires.in_trace is

pub returns-in-Some : goal.returns-in-Some
returns-in-Some c =
    let k = c.args.self.now in
    let q = c.args.place in
    let is = entry_is c.deref.result.now k.facts.now.previous.items q (Some c.in-Some.previous) (previous k.trace.now q) c.deref.ensures.value c.in-Some.ensures (c.requires.known.0.previous q c.requires.in_trace) in
    missed_earlier k.trace.now k.passed.now c.requires.known.1.walked q c.in-Some.previous c.is_passed.result c.requires.in_trace is c.is_passed.ensures

pub returns-in-None : goal.returns-in-None
returns-in-None c =
    let k = c.args.self.now in
    let q = c.args.place in
    let is = entry_is c.deref.result.now k.facts.now.previous.items q None (previous k.trace.now q) c.deref.ensures.value c.in-None.ensures (c.requires.known.0.previous q c.requires.in_trace) in
    (λ h. absurd (false≢true h), λ m. absurd (none_missed_earlier k.trace.now k.passed.now q c.requires.in_trace is m))
