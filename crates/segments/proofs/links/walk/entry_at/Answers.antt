use Rattle.std.proofs.Common.{sym, ◌∙◌, w32, arith}
use Rattle.std.proofs.Math.Facts.{Fits-below}
use Rattle.segments.proofs.Counting.{count_max, count_none}
use Rattle.segments.proofs.Linking.{last_is}
use Rattle.segments.proofs.links.walk.entry_at.Goals as goal

pub unreachable-requires : goal.unreachable-requires
unreachable-requires g c =
    let none = count_none (g.L.Linked.matches c.args.list.now) (g.L.Linked.size c.args.list.now) (sym c.requires.last ∙ c.in_default.is) in
    let some = c.requires.number in
    omega arith

pub overflow_cast-number : goal.overflow_cast-number
overflow_cast-number g c =
    let most = count_max (g.L.Linked.matches c.args.list.now) (g.L.Linked.size c.args.list.now) in
    let below = c.requires.number in
    let few = c.requires.few in
    Fits-below {w = w32} {m = c.args.number} {n = 4294967295} tt (omega arith)

pub entry_before-requires : goal.entry_before-requires
entry_before-requires g c =
    let e = last_is (g.L.Linked.matches c.args.list.now) (g.L.Linked.size c.args.list.now) c.in-Some.from (sym c.requires.last ∙ c.in-Some.is) in
    let below = c.requires.number in
    let one = e.one_less in
    record { within = e.below; passing = e.passes_is; number = omega arith }
