use Rattle.std.proofs.Common.{sym, ◌∙◌, arith}
use Rattle.segments.proofs.Counting.{count_none}
use Rattle.segments.proofs.Linking.{last_is}
use Rattle.segments.proofs.links.walk.count_passing.Goals as goal

pub link_at-requires : goal.link_at-requires
link_at-requires g c =
    let e = last_is (g.L.Linked.matches c.args.list.now) (g.L.Linked.size c.args.list.now) c.in-Some.last (sym c.requires ∙ c.in-Some.is) in
    record { within = e.below; passing = e.passes_is }

pub returns-in-Some : goal.returns-in-Some
returns-in-Some g c =
    let one = (last_is (g.L.Linked.matches c.args.list.now) (g.L.Linked.size c.args.list.now) c.in-Some.last (sym c.requires ∙ c.in-Some.is)).one_less in
    let number = c.link_at.ensures.number_is in
    omega arith

pub returns-in-None : goal.returns-in-None
returns-in-None g c = sym (count_none (g.L.Linked.matches c.args.list.now) (g.L.Linked.size c.args.list.now) (sym c.requires ∙ c.in-None.is))
