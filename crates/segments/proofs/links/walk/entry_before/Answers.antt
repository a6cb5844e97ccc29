use Rattle.std.proofs.Common.{sym, ◌∙◌, arith}
use Rattle.segments.proofs.Linking.{IsEarlier, link_earlier, earlier_is}
use Rattle.segments.proofs.links.walk.entry_before.Given.{Over}
use Rattle.segments.proofs.links.walk.entry_before.Goals as goal
use Rattle.segments.proofs.links.walk.entry_before.Goals.{In-Some}

pub unreachable-requires : goal.unreachable-requires
unreachable-requires g c =
    link_earlier (g.L.Linked.matches c.args.list.now) c.loop-link.index c.args.number c.loop-link.link c.loop-link.invariant.link_is c.loop-link-test.true (sym c.get.ensures ∙ c.in_default.is)

is_earlier : (g : Over) (c : In-Some g) → IsEarlier (g.L.Linked.matches c.args.list.now) c.loop-link.index c.in-Some.earlier
is_earlier g c = earlier_is (g.L.Linked.matches c.args.list.now) c.loop-link.index c.in-Some.earlier c.loop-link.link c.loop-link.invariant.link_is (sym c.get.ensures ∙ c.in-Some.is)

pub link_at-link-requires-else-link-index : goal.link_at-link-requires-else-link-index
link_at-link-requires-else-link-index g c =
    let e = is_earlier g c in
    let b = e.below in
    let w = c.loop-link.invariant.within in
    record { within = omega arith; passing = e.passes_is }

pub loop-link-smaller : goal.loop-link-smaller
loop-link-smaller g c = (is_earlier g c.before).below

pub loop-link-preserved : goal.loop-link-preserved
loop-link-preserved g c =
    let e = is_earlier g c.before in
    let b = e.below in
    let w = c.loop-link.invariant.within in
    let one = e.one_less in
    let here = c.loop-link.invariant.link_is.number_is in
    let there = c.link_at-link-else-link-index.ensures.number_is in
    let more = c.loop-link-test.true in
    record {
      within = omega arith;
      passes_is = e.passes_is;
      link_is = c.link_at-link-else-link-index.ensures;
      number_le = omega arith;
    }
