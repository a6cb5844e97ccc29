use Rattle.std.proofs.Common.{arith}
use Rattle.segments.proofs.Linking.{jump_ok}
use Rattle.segments.proofs.links.next.further.Goals as goal

pub loop-init : goal.loop-init
loop-init g c = record {
  within = c.requires.link.jump_within;
  passes_is = jump_ok (g.L.Linked.matches c.args.list.now) c.args.index c.args.link c.requires.link c.requires.passing;
}

pub loop-preserved : goal.loop-preserved
loop-preserved g c =
    let before = c.loop.invariant.within in
    let back = c.link_at-jump.ensures.jump_within in
    record {
      within = omega arith;
      passes_is = jump_ok (g.L.Linked.matches c.args.list.now) c.loop.jump c.link_at-jump.result c.link_at-jump.ensures c.loop.invariant.passes_is;
    }
