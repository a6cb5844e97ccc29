use Rattle.std.proofs.lemmas.Result.{IfOk-from_err}
use Rattle.replay.proofs.walked.Walked.push.Goals as goal

pub returns-in_err-note_fork : goal.returns-in_err-note_fork
returns-in_err-note_fork c =
    let is = c.from_residual.ensures.0 in
    record { inside = IfOk-from_err c.from_residual.result _ is; forks = IfOk-from_err c.from_residual.result _ is; writes = IfOk-from_err c.from_residual.result _ is; acquires = IfOk-from_err c.from_residual.result _ is }

pub returns-in_err-note_write : goal.returns-in_err-note_write
returns-in_err-note_write c =
    let is = c.from_residual-in_err-note_write.ensures.0 in
    record { inside = IfOk-from_err c.from_residual-in_err-note_write.result _ is; forks = IfOk-from_err c.from_residual-in_err-note_write.result _ is; writes = IfOk-from_err c.from_residual-in_err-note_write.result _ is; acquires = IfOk-from_err c.from_residual-in_err-note_write.result _ is }

pub returns-in_err-note_begun : goal.returns-in_err-note_begun
returns-in_err-note_begun c =
    let is = c.from_residual-in_err-note_begun.ensures.0 in
    record { inside = IfOk-from_err c.from_residual-in_err-note_begun.result _ is; forks = IfOk-from_err c.from_residual-in_err-note_begun.result _ is; writes = IfOk-from_err c.from_residual-in_err-note_begun.result _ is; acquires = IfOk-from_err c.from_residual-in_err-note_begun.result _ is }
