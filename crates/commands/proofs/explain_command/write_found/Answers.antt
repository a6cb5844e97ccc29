use Rattle.std.proofs.Common.{ℕ, List, Option, [], ◌++◌, refl, sym, ap, subst, ◌∙◌}
use Rattle.std.specs.Io.KnownBytes.{Appends, Keeps}
use Rattle.std.proofs.lemmas.List.{append-nil}
use Rattle.std.proofs.lemmas.Result.{err_from_is_err_and}
use Rattle.std.specs.Global.{Vec}
use Rattle.std.specs.List.{All}
use Rattle.trace_model.specs.Theory.Trace.{Trace}
use Rattle.trace_model.specs.Theory.Rows.{Row}
use Rattle.reports.specs.Printed.{PrintedRow}
use Rattle.offline_report.specs.Offline.{IsReportRows, printed_rows, rows_by_task}
use Rattle.offline_report.specs.declared.parts.ReportRows.{ReportRows}
use Rattle.commands.specs.Exit.{error_status}
use Rattle.commands.specs.Explain.{AreRowsOfTrace, Explains, ExplainsSome, IsKnownRow, PrintsAllOf, all_rows}
use Rattle.commands.specs.Output.{AppendsPart, IsCutShort, Writes}
use Rattle.commands.specs.declared.exit.Status.{Status}
use Rattle.commands.specs.declared.exit.Status.TheVariants.{Done, Error}
use Rattle.commands.proofs.Batches.{known_batches}
use Rattle.commands.proofs.ExplainedTexts.{explains_none, known_tasks}
use Rattle.commands.proofs.Outputs.{appends_more, cut_after, cut_none, cut_part, ends_output, keeps_after, part_all}
use Rattle.commands.proofs.explain_command.write_found.Goals as goal

abbrev Right : Trace → ℕ → List ℕ → Type 0
Right s bound text = (status : Status) × PrintsAllOf s bound status text

-- The rows that are printed.
abbrev rows_in : Trace → ReportRows → List PrintedRow
rows_in s found = printed_rows s (all_rows found.tasks.items)

module _ (s : Trace) (bound : ℕ) (found : ReportRows) (are : IsReportRows s bound found) where
  abbrev head : List ℕ
  head = found.first_line.items

  all : AreRowsOfTrace s bound (rows_in s found)
  all = (rows_by_task found.tasks.items, are.tasks, refl)

  -- The head with the texts of the first rows is a right text that is cut short.
  right_rows : (texts : List ℕ) → ExplainsSome s (rows_in s found) texts → Right s bound (head ++ texts)
  right_rows texts some = (Error, (rows_in s found, texts, all, some, ap (λ (l : List ℕ). l ++ texts) are.first_line))

  right_head : Right s bound head
  right_head = subst (Right s bound) (append-nil head) (right_rows [] (0, explains_none s))

  -- The head and then all texts are written.
  whole : (before mid end after : Option (List ℕ)) → Appends before mid head → Writes mid end (Explains s (rows_in s found)) → Keeps end after → Writes before after (PrintsAllOf s bound Done)
  whole before mid end after first (texts, explains, grown) kept = (
    head ++ texts,
    (rows_in s found, texts, all, explains, ap (λ (l : List ℕ). l ++ texts) are.first_line),
    keeps_after before end after (head ++ texts) (appends_more before mid end head texts first grown) kept,
  )

pub returns-in_err-printer : goal.returns-in_err-printer
returns-in_err-printer g c bound are =
    let before = g.O.Write.contents c.args.out.now in
    let s = c.args.snapshot.now in
    let p = err_from_is_err_and c.from_residual.result c.from_residual.ensures.1 in
    ends_output (PrintsAllOf s bound) _ _ p.0 before before p.1 (ap error_status p.2) (cut_none before (Right s bound))

pub returns-in_err-write_bytes : goal.returns-in_err-write_bytes
returns-in_err-write_bytes g c bound are =
    let before = g.O.Write.contents c.args.out.now in
    let mid = g.O.Write.contents c.write_bytes.new.out in
    let s = c.args.snapshot.now in
    let found = c.args.found in
    let p = err_from_is_err_and c.from_residual-in_err-write_bytes.result c.from_residual-in_err-write_bytes.ensures.1 in
    let cut = subst (AppendsPart before mid) c.deref.ensures.value c.in_err-write_bytes.ensures.cut in
    ends_output (PrintsAllOf s bound) _ _ p.0 before mid p.1 (ap error_status p.2 ∙ c.in_err-write_bytes.ensures.failed)
    (cut_part before mid (Right s bound) found.first_line.items (right_head s bound found are) cut)

pub write_batches-requires-after_bounds : goal.write_batches-requires-after_bounds
write_batches-requires-after_bounds g c κs bounds =
    let (bound, are) = c.requires in
    let s = c.args.snapshot.now in
    let known = known_batches s c.args.found.tasks.items c.in_ok-batches.batches.items c.in_ok-batches.ensures (known_tasks s bound c.args.found.tasks.items are.tasks) in
    subst (λ (e : Trace). All (λ (b : Vec Row). All (IsKnownRow e) b.items) c.in_ok-batches.batches.items) (sym c.new-refuter.ensures) known

pub returns-in_err-batches : goal.returns-in_err-batches
returns-in_err-batches g c bound are =
    let before = g.O.Write.contents c.args.out.now in
    let s = c.args.snapshot.now in
    let p = err_from_is_err_and c.from_residual-in_err-batches.result c.from_residual-in_err-batches.ensures.1 in
    ends_output (PrintsAllOf s bound) _ _ p.0 before before p.1 (ap error_status p.2) (cut_none before (Right s bound))

pub returns-in_err-write_batches : goal.returns-in_err-write_batches
returns-in_err-write_batches g c bound are =
    let before = g.O.Write.contents c.args.out.now in
    let mid = g.O.Write.contents c.write_bytes.new.out in
    let end = g.O.Write.contents c.write_batches.new.out in
    let s = c.args.snapshot.now in
    let found = c.args.found in
    let p = err_from_is_err_and c.from_residual-in_err-write_batches.result c.from_residual-in_err-write_batches.ensures.1 in
    let first = subst (Appends before mid) c.deref.ensures.value c.in_ok-write_bytes.ensures.written in
    let cut = subst (λ (rows : List Row). IsCutShort mid end (ExplainsSome s (printed_rows s rows))) c.in_ok-batches.ensures
    (subst (λ (e : Trace). IsCutShort mid end (ExplainsSome e (printed_rows e (all_rows c.in_ok-batches.batches.items)))) c.new-refuter.ensures c.in_err-write_batches.ensures.cut) in
    ends_output (PrintsAllOf s bound) _ _ p.0 before end p.1 (ap error_status p.2 ∙ c.in_err-write_batches.ensures.failed)
    (cut_after before mid end (ExplainsSome s (rows_in s found)) (Right s bound) found.first_line.items first (right_head s bound found are) (right_rows s bound found are) cut)

pub returns-in_err-flush : goal.returns-in_err-flush
returns-in_err-flush g c bound are =
    let before = g.O.Write.contents c.args.out.now in
    let mid = g.O.Write.contents c.write_bytes.new.out in
    let end = g.O.Write.contents c.write_batches.new.out in
    let after = g.O.Write.contents c.flush.new.self in
    let s = c.args.snapshot.now in
    let p = err_from_is_err_and c.from_residual-in_err-flush.result c.from_residual-in_err-flush.ensures.1 in
    let first = subst (Appends before mid) c.deref.ensures.value c.in_ok-write_bytes.ensures.written in
    let written = subst (λ (rows : List Row). Writes mid end (Explains s (printed_rows s rows))) c.in_ok-batches.ensures
    (subst (λ (e : Trace). Writes mid end (Explains e (printed_rows e (all_rows c.in_ok-batches.batches.items)))) c.new-refuter.ensures c.in_ok-write_batches.ensures.written) in
    let (text, is, grew) = whole s bound c.args.found are before mid end after first written c.in_err-flush.ensures.bytes in
    ends_output (PrintsAllOf s bound) _ _ p.0 before after p.1 (ap error_status p.2) (cut_part before after (Right s bound) text (Done, is) (part_all before after text grew))

pub returns : goal.returns
returns g c bound are =
    let before = g.O.Write.contents c.args.out.now in
    let mid = g.O.Write.contents c.write_bytes.new.out in
    let end = g.O.Write.contents c.write_batches.new.out in
    let after = g.O.Write.contents c.flush.new.self in
    let first = subst (Appends before mid) c.deref.ensures.value c.in_ok-write_bytes.ensures.written in
    let s = c.args.snapshot.now in
    let written = subst (λ (rows : List Row). Writes mid end (Explains s (printed_rows s rows))) c.in_ok-batches.ensures
    (subst (λ (e : Trace). Writes mid end (Explains e (printed_rows e (all_rows c.in_ok-batches.batches.items)))) c.new-refuter.ensures c.in_ok-write_batches.ensures.written) in
    whole s bound c.args.found are before mid end after first written c.in_ok-flush.ensures.bytes
