use Rattle.std.proofs.Common.{◌≡◌, List, [], ◌∷◌, ◌++◌, sym, ap, subst, ◌∙◌, append_assoc, arith}
use Rattle.std.specs.Prelude.{OnErr}
use Rattle.std.specs.Io.KnownBytes.{Appends}
use Rattle.std.proofs.lemmas.List.{append-nil, nil_from_length}
use Rattle.std.proofs.lemmas.Result.{err_from_is_err_and}
use Rattle.trace_model.specs.Theory.Trace.{Trace}
use Rattle.trace_model.specs.Theory.Dependencies.{dependencies}
use Rattle.trace_model.specs.Theory.Rows.{Row}
use Rattle.reports.specs.Printed.{PrintedRow, with_dependencies}
use Rattle.reports.specs.Text.{row_text}
use Rattle.offline_report.specs.Offline.{rows_text}
use Rattle.offline_report.proofs.Pieces.{row_added, row_amid}
use Rattle.commands.specs.Output.{AppendsPart}
use Rattle.commands.proofs.Outputs.{appends_more, appends_nothing, part_after, part_all, part_more}
use Rattle.commands.proofs.offline_command.write_rows.Goals as goal

abbrev printed : Trace → Row → PrintedRow
printed s row = with_dependencies (dependencies s) row

pub loop-row-init : goal.loop-row-init
loop-row-init g c = record { written = appends_nothing (g.O.Write.contents c.args.out.now); rest = c.into_iter-row-iterator.ensures.into_iter_gives.0 }

pub loop-row-preserved : goal.loop-row-preserved
loop-row-preserved g c =
    let v = c.loop-row.invariant in
    let s = c.args.snapshot.now in
    let rows = c.loop-row.yielded in
    let before = g.O.Write.contents c.args.out.now in
    let mid = g.O.Write.contents c.loop-row.out in
    let after = g.O.Write.contents c.write_bytes.new.out in
    let own = c.text.ensures ∙ c.in_ok-row.ensures.text ∙ ap row_text c.in_ok-row.ensures.row in
    let grew = subst (Appends mid after) own c.in_ok-write_bytes.ensures.written in
    record {
      written = subst (Appends before after) (sym (row_added s rows c.in-Some.row))
          (appends_more before mid after (rows_text s rows) (row_text (printed s c.in-Some.row)) v.written grew);
      rest = append_assoc rows (c.in-Some.row ∷ []) c.next.new.self.rest.items
          ∙ ap (λ xs. rows ++ xs) (sym c.in-Some.ensures.steps.0) ∙ v.rest;
    }

pub returns-in_err-row-clause-cut : goal.returns-in_err-row-clause-cut
returns-in_err-row-clause-cut g c =
    let v = c.loop-row.invariant in
    let s = c.args.snapshot.now in
    let rows = c.loop-row.yielded in
    let before = g.O.Write.contents c.args.out.now in
    let mid = g.O.Write.contents c.loop-row.out in
    let others = c.next.new.self.rest.items in
    let is : c.args.rows.items ≡ rows ++ c.in-Some.row ∷ others = sym v.rest ∙ ap (λ xs. rows ++ xs) c.in-Some.ensures.steps.0 in
    let all = ap (rows_text s) is ∙ row_amid s rows c.in-Some.row others in
    let p = err_from_is_err_and c.from_residual.result c.from_residual.ensures.1 in
    let some = part_more before mid (rows_text s rows) (row_text (printed s c.in-Some.row)) (part_all before mid (rows_text s rows) v.written) in
    let cut = subst (AppendsPart before mid) (sym all) (part_more before mid (rows_text s rows ++ row_text (printed s c.in-Some.row)) (rows_text s others) some) in
    subst (λ r. OnErr r (AppendsPart before mid (rows_text s c.args.rows.items))) (sym p.1) cut

pub returns-in_err-write_bytes-clause-cut : goal.returns-in_err-write_bytes-clause-cut
returns-in_err-write_bytes-clause-cut g c =
    let v = c.loop-row.invariant in
    let s = c.args.snapshot.now in
    let rows = c.loop-row.yielded in
    let before = g.O.Write.contents c.args.out.now in
    let mid = g.O.Write.contents c.loop-row.out in
    let after = g.O.Write.contents c.write_bytes.new.out in
    let others = c.next.new.self.rest.items in
    let is : c.args.rows.items ≡ rows ++ c.in-Some.row ∷ others = sym v.rest ∙ ap (λ xs. rows ++ xs) c.in-Some.ensures.steps.0 in
    let all = ap (rows_text s) is ∙ row_amid s rows c.in-Some.row others in
    let own = c.text.ensures ∙ c.in_ok-row.ensures.text ∙ ap row_text c.in_ok-row.ensures.row in
    let p = err_from_is_err_and c.from_residual-in_err-write_bytes.result c.from_residual-in_err-write_bytes.ensures.1 in
    let part = part_after before mid after (rows_text s rows) (row_text (printed s c.in-Some.row)) v.written (subst (AppendsPart mid after) own c.in_err-write_bytes.ensures.cut) in
    let cut = subst (AppendsPart before after) (sym all) (part_more before after (rows_text s rows ++ row_text (printed s c.in-Some.row)) (rows_text s others) part) in
    subst (λ r. OnErr r (AppendsPart before after (rows_text s c.args.rows.items))) (sym p.1) cut

pub returns-clause-written : goal.returns-clause-written
returns-clause-written g c =
    let v = c.loop-row.invariant in
    let rest = c.loop-row.row-iterator.rest in
    let none : rest.items ≡ [] = nil_from_length rest.items (omega (arith, rest.ok, c.in-None.ensures.steps.0)) in
    let all : c.loop-row.yielded ≡ c.args.rows.items = sym (append-nil c.loop-row.yielded) ∙ (ap (λ (xs : List Row). c.loop-row.yielded ++ xs) (sym none) ∙ v.rest) in
    subst (λ (xs : List Row). Appends (g.O.Write.contents c.args.out.now) (g.O.Write.contents c.loop-row.out) (rows_text c.args.snapshot.now xs)) all v.written
