use Rattle.std.proofs.Common.{◌≡◌, ◌+◌, ◌++◌, length, drop, None, sym, ap, ◌∙◌, arith, append_assoc}
use Rattle.std.proofs.lemmas.Bool.{eqb-false, eqb-true}
use Rattle.reports.specs.Printed.{PrintedRow}
use Rattle.reports.specs.Text.{row_front, witness_end}
use Rattle.reports.proofs.Places.{witness_begins}
use Rattle.reports.proofs.Windows.{window_full, window_of, window_whole, window_within}
use Rattle.reports.proofs.row_cursor.put_front.Goals as goal

pub overflow_add-result : goal.overflow_add-result
overflow_add-result c =
    let window = window_of c.args.from c.begin.new.self.skip c.write_front.new.text.skip c.begin.new.self.text.items c.write_front.new.text.text.items (row_front c.args.row.now) (omega (arith, c.ranges.from.fits)) c.begin.ensures.from c.begin.ensures.empty c.in-Ok.ensures in
    omega (arith, c.requires, window_within c.args.from _ (row_front c.args.row.now) window (eqb-true (length c.write_front.new.text.text.items) 4096 (sym c.if-is_full.ensures)))

pub returns-then-is_full : goal.returns-then-is_full
returns-then-is_full c =
    let window = window_of c.args.from c.begin.new.self.skip c.write_front.new.text.skip c.begin.new.self.text.items c.write_front.new.text.text.items (row_front c.args.row.now) (omega (arith, c.ranges.from.fits)) c.begin.ensures.from c.begin.ensures.empty c.in-Ok.ensures in
    let row = c.args.row.now in
    let kept = c.write_front.new.text.text.items in
    ap (λ text. text ++ witness_end row.row.found) (window_full c.args.from kept (row_front row) window)
    ∙ append_assoc kept (drop (c.args.from + 4096) (row_front row)) (witness_end row.row.found)

pub returns-in-Some : goal.returns-in-Some
returns-in-Some c =
    let window = window_of c.args.from c.begin.new.self.skip c.write_front.new.text.skip c.begin.new.self.text.items c.write_front.new.text.text.items (row_front c.args.row.now) (omega (arith, c.ranges.from.fits)) c.begin.ensures.from c.begin.ensures.empty c.in-Ok.ensures in
    let row = c.args.row.now in
    (λ i. window_whole c.args.from _ (row_front row) window (eqb-false (length c.write_front.new.text.text.items) 4096 (sym c.if-is_full.ensures)) i ++ witness_begins row.row.found i)

pub returns-in-None : goal.returns-in-None
returns-in-None c =
    let window = window_of c.args.from c.begin.new.self.skip c.write_front.new.text.skip c.begin.new.self.text.items c.write_front.new.text.text.items (row_front c.args.row.now) (omega (arith, c.ranges.from.fits)) c.begin.ensures.from c.begin.ensures.empty c.in-Ok.ensures in
    let row = c.args.row.now in
    let none : row.row.found ≡ None = ap (λ (r : PrintedRow). r.row.found) (sym c.row.view_is) ∙ c.in-None.is in
    (λ i. window_whole c.args.from _ (row_front row) window (eqb-false (length c.write_front.new.text.text.items) 4096 (sym c.if-is_full.ensures)) i ++ witness_end (none i))
