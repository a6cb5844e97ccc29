use Rattle.std.proofs.Common.{sym, subst, ◌∙◌}
use Rattle.std.proofs.lemmas.Result.{IfOk-from_err}
use Rattle.dependencies.specs.Tables.{IsNoted}
use Rattle.lock_tables.proofs.steps.note_place.Goals as goal

pub returns-in_ok-note : goal.returns-in_ok-note
returns-in_ok-note c s at held table =
    (c.tables_follow.ensures.grow c.args.held.now c.args.table.now c.note.new.self s c.args.event.now held table).2 c.in-Some.dependency c.in_ok-note.field-0
    (sym c.in-Some.ensures)
    (subst (λ p. IsNoted c.args.table.now p c.in-Some.dependency c.in_ok-note.field-0 c.note.new.self) at c.in_ok-note.ensures.ok)

pub returns-in_default : goal.returns-in_default
returns-in_default c s at held table =
    (c.tables_follow.ensures.grow c.args.held.now c.args.table.now c.args.table.now s c.args.event.now held table).1 (sym c.next_dependency.ensures ∙ c.in_default.is)

pub returns-in_err-note : goal.returns-in_err-note
returns-in_err-note c = IfOk-from_err c.from_residual.result _ c.from_residual.ensures.0
