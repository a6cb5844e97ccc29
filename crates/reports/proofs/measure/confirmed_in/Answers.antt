use Rattle.std.proofs.Common.{◌≡◌, Bool, true, false, cond, ap, ◌∙◌, arith}
use Rattle.std.proofs.lemmas.List.Sums.{count_by-le-length}
use Rattle.reports.specs.Text.{is_confirmed_row}
use Rattle.reports.proofs.Counting.{counted_more, counted_within, counted_all}
use Rattle.reports.proofs.measure.confirmed_in.Goals as goal

as_byte : (c : goal.After-from-count) (b : Bool) → c.is_some.result ≡ b → c.from-count.result ≡ cond b 1 0
as_byte c true e = rw e at c.from-count.ensures
as_byte c false e = rw e at c.from-count.ensures

-- The count of one row.
one : (c : goal.After-from-count) → c.from-count.result ≡ cond (is_confirmed_row c.row-item.result) 1 0
one c = as_byte c (is_confirmed_row c.row-item.result) (c.is_some.ensures ∙ ap is_confirmed_row c.row.view_is)

pub overflow_add-count : goal.overflow_add-count
overflow_add-count c =
    omega (
      arith,
      count_by-le-length is_confirmed_row c.args.rows.now,
      counted_within (λ r. cond (is_confirmed_row r) 1 0) c.args.rows.now c.loop-row.row-index c.loop-row.count c.row-item.result c.from-count.result c.loop-row-test.true c.row-item.is c.loop-row.invariant (one c),
    )

pub loop-row-preserved : goal.loop-row-preserved
loop-row-preserved c =
    counted_more (λ r. cond (is_confirmed_row r) 1 0) c.args.rows.now c.loop-row.row-index c.loop-row.count c.row-item.result c.from-count.result c.loop-row-test.true c.row-item.is c.loop-row.invariant
    (one c)

pub returns : goal.returns
returns c = counted_all (λ r. cond (is_confirmed_row r) 1 0) c.args.rows.now c.loop-row.row-index c.loop-row.count c.loop-row-test.false c.loop-row.invariant
