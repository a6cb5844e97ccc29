use Rattle.std.proofs.Common.{sym, ◌∙◌}
use Rattle.replay.specs.Tests.{HasLater}
use Rattle.replay.proofs.Beginnings.{begun_decided, begun_undone}
use Rattle.replay.proofs.order_rules.Known.breaks_lock_order.Goals as goal

pub returns-in-Some : goal.returns-in-Some
returns-in-Some c =
    let k = c.args.self.now in
    let q = c.args.place in
    begun_decided (λ x. HasLater k.trace.now k.passed.now q x) k.trace.now q c.has_later.result c.in-Some.lock (sym c.begun.ensures ∙ c.in-Some.is) c.has_later.ensures

pub returns-in-None : goal.returns-in-None
returns-in-None c =
    let k = c.args.self.now in
    let q = c.args.place in
    begun_undone (λ x. HasLater k.trace.now k.passed.now q x) k.trace.now q (sym c.begun.ensures ∙ c.in-None.is)
