use Rattle.std.proofs.Common.{◌≡◌, unwrap_or, ap, ◌∙◌, arith}
use Rattle.trace_model.proofs.Lists.{at_index}
use Rattle.fronts.specs.Overlays.{front_of}
use Rattle.fronts.proofs.BuildLemmas.{each_pushed, length_pushed}
use Rattle.fronts.proofs.fronts.gathered.Goals as goal

pub loop-slot-preserved : goal.loop-slot-preserved
loop-slot-preserved c =
    let counts = c.loop-slot.counts.items in
    let more = c.push.new.self.items in
    let slot = c.loop-slot.slot in
    let pushed = c.in_ok-push.ensures.items in
    let inv = c.loop-slot.invariant in
    record {
      count = length_pushed counts more slot c.front.result pushed inv.count;
      fronts = each_pushed (λ a n. n ≡ front_of c.args.under.now c.args.overlay.now a) counts more slot c.front.result pushed inv.count inv.fronts c.front.ensures;
    }

pub returns-clause-fronts : goal.returns-clause-fronts
returns-clause-fronts c = λ a less.
    let counts = c.loop-slot.counts.items in
    let inv = c.loop-slot.invariant in
    let (n, at) = at_index counts a (omega (arith, less, inv.count, c.loop-slot-test.false)) in
    ap (λ o. unwrap_or o 0) at ∙ inv.fronts a n at
