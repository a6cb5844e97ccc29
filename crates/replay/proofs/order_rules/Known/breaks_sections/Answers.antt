use Rattle.std.proofs.Common.{sym, ◌∙◌}
use Rattle.replay.specs.Tests.{LeavesOpen}
use Rattle.replay.proofs.Beginnings.{begun_decided, begun_undone}
use Rattle.replay.proofs.order_rules.Known.breaks_sections.Goals as goal

pub returns-in-Some : goal.returns-in-Some
returns-in-Some c =
    let k = c.args.self.now in
    let q = c.args.place in
    begun_decided (λ x. LeavesOpen k.trace.now k.passed.now x) k.trace.now q c.leaves_open.result c.in-Some.lock (sym c.begun.ensures ∙ c.in-Some.is) c.leaves_open.ensures

pub returns-in-None : goal.returns-in-None
returns-in-None c =
    let k = c.args.self.now in
    let q = c.args.place in
    begun_undone (λ x. LeavesOpen k.trace.now k.passed.now x) k.trace.now q (sym c.begun.ensures ∙ c.in-None.is)
