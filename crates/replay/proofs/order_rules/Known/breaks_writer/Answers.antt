use Rattle.trace_model.specs.declared.traces.event.Op.TheVariants.{Read}
use Rattle.replay.specs.Tests.{SeesWriter}
use Rattle.replay.proofs.Lists.{op_decided, op_undone, not_decided}
use Rattle.replay.proofs.order_rules.Known.breaks_writer.Goals as goal

pub returns-in-Read : goal.returns-in-Read
returns-in-Read c =
    let k = c.args.self.now in
    let q = c.args.place in
    op_decided (λ x. SeesWriter k.trace.now k.passed.now q x → ⊥) Read (λ x y e. cc) k.trace.now q c.event.result _ c.in-Read.variable c.event.ensures c.in-Read.is (not_decided c.sees_writer.result _ c.sees_writer.ensures)

pub returns-in_default : goal.returns-in_default
returns-in_default c =
    let k = c.args.self.now in
    let q = c.args.place in
    op_undone (λ x. SeesWriter k.trace.now k.passed.now q x → ⊥) Read k.trace.now q c.event.result c.event.ensures c.in_default.not-Read
