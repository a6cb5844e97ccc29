use Rattle.std.proofs.Common.{◌≡◌, List, ℕ, [], ◌∷◌, ◌++◌, sym, ap, ◌∙◌, append_assoc, arith}
use Rattle.std.specs.Global.{Vec}
use Rattle.std.proofs.lemmas.List.{append-nil, nil_from_length}
use Rattle.trace_model.specs.Theory.Rows.{Row}
use Rattle.offline_report.specs.Offline.{rows_text, tasks_rows_text}
use Rattle.offline_report.proofs.Pieces.{task_added}
use Rattle.offline_report.proofs.printing.report_text.Goals as goal

pub loop-rows-init : goal.loop-rows-init
loop-rows-init c = record { written = sym (append-nil c.args.found.first_line.items); rest = c.into_iter-rows-iterator.ensures.into_iter_gives.0 }

pub loop-rows-preserved : goal.loop-rows-preserved
loop-rows-preserved c =
    let v = c.loop-rows.invariant in
    let s = c.args.snapshot.now in
    let first = c.args.found.first_line.items in
    let tasks = c.loop-rows.yielded in
    record {
      written = c.in_ok-push_rows.ensures ∙ ap (λ (l : List ℕ). l ++ rows_text s c.in-Some.rows.items) v.written ∙ append_assoc first (tasks_rows_text s tasks) _
          ∙ ap (λ (l : List ℕ). first ++ l) (sym (task_added s tasks c.in-Some.rows));
      rest = append_assoc tasks (c.in-Some.rows ∷ []) c.next.new.self.rest.items
          ∙ ap (λ xs. tasks ++ xs) (sym c.in-Some.ensures.steps.0) ∙ v.rest;
    }

pub returns : goal.returns
returns c =
    let v = c.loop-rows.invariant in
    let rest = c.loop-rows.rows-iterator.rest in
    let none : rest.items ≡ [] = nil_from_length rest.items (omega (arith, rest.ok, c.in-None.ensures.steps.0)) in
    let all : c.loop-rows.yielded ≡ c.args.found.tasks.items = sym (append-nil c.loop-rows.yielded) ∙ (ap (λ (xs : List (Vec Row)). c.loop-rows.yielded ++ xs) (sym none) ∙ v.rest) in
    v.written ∙ ap (λ (xs : List (Vec Row)). c.args.found.first_line.items ++ tasks_rows_text c.args.snapshot.now xs) all
