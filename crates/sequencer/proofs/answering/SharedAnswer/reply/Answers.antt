use Rattle.std.proofs.Common.{ℕ, ◌≤◌, List, Vec, length, flat_map, ap, subst, ◌∙◌, arith, length-append}
use Rattle.std.specs.declared.alloc.Global.{Global}
use Rattle.trace_model.specs.declared.limits.TheConstants.{MAX_REPORT}
use Rattle.reports.specs.Printed.{PrintedRow}
use Rattle.reports.specs.Text.{row_text}
use Rattle.sequencer.proofs.answering.SharedAnswer.reply.Goals as goal

pub new-requires : goal.new-requires
new-requires c =
    let text : List (Vec PrintedRow Global) → List ℕ = λ tasks. flat_map (λ task. flat_map row_text task.items) tasks in
    let tasks = c.as_slice-tasks.result.now in
    let whole = ap length c.in-Ok.ensures.text in
    let few : length (text tasks) ≤ MAX_REPORT = omega (arith, c.in-Ok.ensures.measured.0, c.in-Ok.ensures.measured.1, whole, length-append c.in-Ok.start.first_line.items (text tasks)) in
    subst (λ shared. length (text shared) ≤ MAX_REPORT) (c.as_slice-tasks.ensures.value ∙ ap (λ (shared : Vec (Vec PrintedRow Global) Global). shared.items) c.deref.ensures) few
