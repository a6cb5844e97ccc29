use Rattle.std.proofs.Common.{◌≡◌, None, false, [], ◌∷◌, map, replicate, ap, ◌∙◌, length, length-append, arith}
use Rattle.std.proofs.lemmas.List.{length-replicate, length-map}
use Rattle.std.proofs.lemmas.Result.{IfOk-from_err}
use Rattle.result_ledger.proofs.TaskList.{opened, none_delivered, marks_more}
use Rattle.std.proofs.lemmas.Bool.{false≢true}
use Rattle.result_ledger.specs.Inside.{row_lists, tasks_of}
use Rattle.result_ledger.proofs.ledger.Ledger.open.Goals as goal

pub invariant_of-result : goal.invariant_of-result
invariant_of-result c = record {
  order = opened c.loop-task._task c.loop-task.marks.items (row_lists c.loop-task.rows.items) c.loop-task.invariant.marks
      (length-map c.loop-task.rows.items (λ rows. rows.items) ∙ c.loop-task.invariant.rows) (omega arith);
  whole = λ none. absurd (false≢true none);
}

pub returns : goal.returns
returns c =
    let rows = map (λ rows. rows.items) c.loop-task.rows.items in
    let whole : c.loop-task._task ≡ c.args.total = omega arith in
    ap (λ marks. tasks_of marks rows) c.loop-task.invariant.marks
    ∙ none_delivered c.loop-task._task rows (length-map c.loop-task.rows.items (λ rows. rows.items) ∙ c.loop-task.invariant.rows)
    ∙ ap (λ n. replicate n None) whole

pub returns-in_err-rows : goal.returns-in_err-rows
returns-in_err-rows c = IfOk-from_err c.from_residual.result _ c.from_residual.ensures.0

pub returns-in_err-marks : goal.returns-in_err-marks
returns-in_err-marks c = IfOk-from_err c.from_residual-in_err-marks.result _ c.from_residual-in_err-marks.ensures.0

pub loop-task-init : goal.loop-task-init
loop-task-init c = record {
  marks = c.in_ok-marks.ensures.items;
  rows = ap length c.in_ok-rows.ensures.items;
  room = c.in_ok-rows.ensures.capacity;
  marks_room = c.in_ok-marks.ensures.capacity;
}

pub push_reserved-requires : goal.push_reserved-requires
push_reserved-requires c = omega (arith, c.loop-task.invariant.rows, c.loop-task.invariant.room, c.loop-task.rows.ok, c.loop-task-test.true)

pub push_reserved-requires-in-loop-task : goal.push_reserved-requires-in-loop-task
push_reserved-requires-in-loop-task c =
    let v = c.loop-task.invariant in
    omega (arith, ap length v.marks, length-replicate c.loop-task._task false, v.marks_room, c.loop-task.marks.ok, c.loop-task-test.true)

pub loop-task-preserved : goal.loop-task-preserved
loop-task-preserved c =
    let v = c.loop-task.invariant in
    let row = c.push_reserved.ensures in
    let mark = c.push_reserved-in-loop-task.ensures in
    record {
      marks = mark.items ∙ marks_more c.loop-task._task c.loop-task.marks.items v.marks;
      rows = omega (arith, ap length row.items, length-append c.loop-task.rows.items (c.new.result ∷ []), v.rows);
      room = omega (arith, row.capacity, v.room);
      marks_room = omega (arith, mark.capacity, v.marks_room);
    }
