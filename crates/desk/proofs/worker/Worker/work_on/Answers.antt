use Rattle.std.proofs.Common.{◌≡◌, ℕ, inl, inr, true, Some, Err, sym, ap, subst, ◌∙◌}
use Rattle.std.specs.Prelude.{slice_set}
use Rattle.board.proofs.Publishing.{begins_itself, begins_through}
use Rattle.findings.specs.Found.{AskedQuestion}
use Rattle.desk.specs.declared.worker.Turn.{Turn}
use Rattle.desk.specs.Published.{Afterwards}
use Rattle.desk.specs.Questions.{IsFirstMissing, IsJobOf}
use Rattle.desk.specs.Turns.{ContinuesJob, IsRefusedTurn, QuestionHasTooMany, TaskJobView, WorkerView, paused_at}
use Rattle.desk.proofs.Turns.{known_since, some_and, too_many_since}
use Rattle.desk.proofs.worker.Worker.work_on.Goals as goal

pub returns-in-Ok-clause-later : goal.returns-in-Ok-clause-later
returns-in-Ok-clause-later g c =
    known_since _ _ _ _ c.self.view_is c.start-started.ensures.later (begins_through _ _ _ c.advance-searched.ensures.later c.deliver.ensures.later)

pub returns-in-Err-searched-clause-later : goal.returns-in-Err-searched-clause-later
returns-in-Err-searched-clause-later g c =
    known_since _ _ _ _ c.self.view_is c.start-started.ensures.later (begins_through _ _ _ c.advance-searched.ensures.later c.pass_over.ensures.later)

pub returns-in-Ok-clause-refused : goal.returns-in-Ok-clause-refused
returns-in-Ok-clause-refused g c refusal is =
    let of = rw c.in-Ok-Some.field-0-is at c.in-Ok-Some.ensures.job in
    subst (λ (n : ℕ). IsRefusedTurn g.N.HistoryId.limit n refusal) (c.in-Ok.ensures.computed.0 ∙ of.0) (c.deliver.ensures.refused refusal is)

pub returns-in-Err-searched-clause-paused : goal.returns-in-Err-searched-clause-paused
returns-in-Err-searched-clause-paused g c is =
    let number = c.args.unsettled.number in
    let job = c.in-Ok-Some.job in
    let of = rw c.in-Ok-Some.field-0-is at c.in-Ok-Some.ensures.job in
    let resumed = rw c.in-Ok-Some.field-0-is at c.in-Ok-Some.ensures.resumed in
    let kept = some_and (paused_at c.advance-searched.new.paused number) (ContinuesJob c.args.visits job)
    (c.advance-searched.ensures.paused (c.in-Err-searched.is ∙ ap (λ (t : Turn). Err t) is)) in (
      (
        kept.0,
        kept.1,
        subst (λ (q : AskedQuestion). IsJobOf number c.args.unsettled.shown.bound q) (sym kept.2.same_question) of,
        λ before at own.
            let same : before ≡ job = resumed before (ap (λ (w : WorkerView). paused_at w.paused number) c.self.view_is ∙ at) own in
            subst (λ (j : TaskJobView). ContinuesJob c.args.visits j kept.0) (sym same) kept.2,
      ),
      c.pass_over.ensures.paused is ∙ ap (λ (w : WorkerView). slice_set w.passed_over number true) c.self.view_is,
    )

pub returns-in-Err-searched-clause-too_many : goal.returns-in-Err-searched-clause-too_many
returns-in-Err-searched-clause-too_many g c is =
    let limit = g.N.HistoryId.limit in
    let job = c.in-Ok-Some.job in
    let task = job.search.task in
    let known = c.pass_over.new.reader.known in
    let of = rw c.in-Ok-Some.field-0-is at c.in-Ok-Some.ensures.job in
    let many = c.advance-searched.ensures.too_many (c.in-Err-searched.is ∙ ap (λ (t : Turn). Err t) is) in (
      task,
      subst (λ (n : ℕ). QuestionHasTooMany limit known n c.args.unsettled.shown.bound task) of.0
          (subst (λ (n : ℕ). QuestionHasTooMany limit known job.asked.question n task) of.1
          (too_many_since limit c.advance-searched.new.reader.known known job.asked.question job.asked.bound task c.pass_over.ensures.later many)),
    )

pub returns-in-Err-searched-clause-gives_up : goal.returns-in-Err-searched-clause-gives_up
unfolding returns-in-Err-searched-clause-too_many
returns-in-Err-searched-clause-gives_up g c = elim c.pass_over.ensures.gives_up [
  | inl same ↦ inl (same ∙ ap (λ (w : WorkerView). w.given_up) c.self.view_is)
  | inr gives ↦
      let limit = g.N.HistoryId.limit in
      let number = c.args.unsettled.number in
      let known = c.pass_over.new.reader.known in
      inr (
        gives.0,
        (
          c.in-Ok-Some.job.search.task,
          (returns-in-Err-searched-clause-too_many g c gives.0).1,
          (
            known,
            known_since _ _ _ _ c.self.view_is c.start-started.ensures.later (begins_through _ _ _ c.advance-searched.ensures.later c.pass_over.ensures.later),
            begins_itself known,
            subst (λ (task : ℕ). Afterwards limit known (λ state. IsFirstMissing state number (Some task))) c.task-task.ensures gives.2,
          ),
          gives.1 ∙ ap (λ (w : WorkerView). slice_set w.given_up number true) c.self.view_is,
        ),
      )
]
