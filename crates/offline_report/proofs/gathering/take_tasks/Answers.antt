use Rattle.std.proofs.Common.{◌<◌, Ok, sym, subst, arith}
use Rattle.std.specs.List.{All}
use Rattle.std.proofs.lemmas.List.Elements.{All-push}
use Rattle.offline_report.specs.declared.gathering.Done.{Done}
use Rattle.offline_report.proofs.gathering.take_tasks.Goals as goal

pub loop-task-preserved : goal.loop-task-preserved
loop-task-preserved g c =
    let P = λ (one : Done g.row.C-Given.Denot). (one.task < c.args.tasks) × g.C.Computes.may_give one.task (Ok one.given) in
    subst (All P) (sym c.in_ok-push-in-Ok.ensures.items)
    (All-push P c.loop-task.done.items _ c.loop-task.invariant (omega (arith, c.loop-task-test.true), c.in-Ok.ensures))
