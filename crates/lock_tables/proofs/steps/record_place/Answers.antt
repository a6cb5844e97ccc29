use Rattle.std.proofs.Common.{sym, subst, ◌∙◌}
use Rattle.dependencies.specs.Tables.{IsNoted}
use Rattle.lock_tables.proofs.steps.record_place.Goals as goal

pub returns-in-Some : goal.returns-in-Some
returns-in-Some c s at held table =
    (c.tables_follow.ensures.grow c.args.held.now c.args.table.now c.record.new.self s c.args.event.now held table).2 c.in-Some.dependency c.record.result
    (sym c.in-Some.ensures) (subst (λ p. IsNoted c.args.table.now p c.in-Some.dependency c.record.result c.record.new.self) at c.record.ensures)

pub returns-in_default : goal.returns-in_default
returns-in_default c s at held table =
    (c.tables_follow.ensures.grow c.args.held.now c.args.table.now c.args.table.now s c.args.event.now held table).1 (sym c.next_dependency.ensures ∙ c.in_default.is)
