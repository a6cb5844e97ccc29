use Rattle.std.proofs.Common.{◌≡◌, List, ℕ, [], ◌∷◌, ◌++◌, sym, ap, ◌∙◌, append_assoc, arith}
use Rattle.std.proofs.lemmas.List.{append-nil, nil_from_length}
use Rattle.trace_model.specs.Theory.Rows.{Row}
use Rattle.reports.specs.Text.{row_text}
use Rattle.offline_report.specs.Offline.{rows_text}
use Rattle.offline_report.proofs.Pieces.{row_added}
use Rattle.offline_report.proofs.printing.push_rows.Goals as goal

pub loop-row-init : goal.loop-row-init
loop-row-init c = record { written = sym (append-nil c.args.text.now.items); rest = c.into_iter-row-iterator.ensures.into_iter_gives.0 }

pub loop-row-preserved : goal.loop-row-preserved
loop-row-preserved c =
    let v = c.loop-row.invariant in
    let s = c.args.snapshot.now in
    let before = c.args.text.now.items in
    let rows = c.loop-row.yielded in
    let own = c.text.ensures ∙ c.in_ok-row.ensures.text ∙ ap row_text c.in_ok-row.ensures.row in
    record {
      written = c.in_ok-extend_from_slice.ensures.items ∙ (λ i. v.written i ++ own i) ∙ append_assoc before (rows_text s rows) _
          ∙ ap (λ (l : List ℕ). before ++ l) (sym (row_added s rows c.in-Some.row));
      rest = append_assoc rows (c.in-Some.row ∷ []) c.next.new.self.rest.items
          ∙ ap (λ xs. rows ++ xs) (sym c.in-Some.ensures.steps.0) ∙ v.rest;
    }

pub returns : goal.returns
returns c =
    let v = c.loop-row.invariant in
    let rest = c.loop-row.row-iterator.rest in
    let none : rest.items ≡ [] = nil_from_length rest.items (omega (arith, rest.ok, c.in-None.ensures.steps.0)) in
    let all : c.loop-row.yielded ≡ c.args.rows.items = sym (append-nil c.loop-row.yielded) ∙ (ap (λ (xs : List Row). c.loop-row.yielded ++ xs) (sym none) ∙ v.rest) in
    v.written ∙ ap (λ (xs : List Row). c.args.text.now.items ++ rows_text c.args.snapshot.now xs) all
