use Rattle.std.proofs.Common.{Bool, Some, ap, ◌∙◌, false, arith}
use Rattle.std.proofs.lemmas.Option.{slice_get-get_or}
use Rattle.result_ledger.proofs.TaskList.{set_more}
use Rattle.result_ledger.proofs.ledger.first_false.Goals as goal

pub loop-place-init : goal.loop-place-init
loop-place-init c = (omega arith, c.requires.from, λ k low high. absurd (omega arith))

pub bounds-marks-place : goal.bounds-marks-place
bounds-marks-place c = c.loop-place-test.true

pub overflow_add-place : goal.overflow_add-place
overflow_add-place c = omega (arith, c.requires.long, c.loop-place-test.true)

pub loop-place-preserved : goal.loop-place-preserved
loop-place-preserved c =
    let v = c.loop-place.invariant in
    let within = c.loop-place-test.true in
    (omega (arith, v.0), omega (arith, within), set_more c.args.marks.now c.args.from c.loop-place.place within c.if-marks-place.true v.2)

pub loop-place-smaller : goal.loop-place-smaller
loop-place-smaller c = omega (arith, c.loop-place-test.true)

pub returns-else-marks-place : goal.returns-else-marks-place
returns-else-marks-place c =
    let v = c.loop-place.invariant in
    record {
      within = (v.0, v.1);
      before = v.2;
      first = λ l. slice_get-get_or c.args.marks.now c.loop-place.place false c.loop-place-test.true ∙ ap (λ (b : Bool). Some b) c.if-marks-place.false;
    }

pub returns-after-loop-place : goal.returns-after-loop-place
returns-after-loop-place c =
    let v = c.loop-place.invariant in
    record { within = (v.0, v.1); before = v.2; first = λ l. absurd (omega (arith, l, c.loop-place-test.false)) }
