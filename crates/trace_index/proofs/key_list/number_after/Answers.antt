use Rattle.std.proofs.Common.{◌≡◌, suc, ◌+◌, length, sym, ◌∙◌, w32, arith}
use Rattle.std.proofs.Math.Facts.{Fits-below}
use Rattle.segments.proofs.Counting.{count_max, count_none}
use Rattle.segments.proofs.Linking.{last_is}
use Rattle.trace_index.specs.Links.{trace_of}
use Rattle.trace_index.specs.Numbers.{of_thread, earlier_events}
use Rattle.trace_index.proofs.KeyLists.{no_gap, counted}
use Rattle.trace_index.proofs.key_list.number_after.Goals as goal

pub returns-in_default : goal.returns-in_default
returns-in_default c = sym (count_none (of_thread (trace_of c.args.rows.now.0) c.args.thread) (length c.args.rows.now.0) (sym c.requires.last ∙ c.in_default.is))

pub unreachable-requires : goal.unreachable-requires
unreachable-requires c =
    let last = last_is (of_thread (trace_of c.args.rows.now.0) c.args.thread) (length c.args.rows.now.0) c.in-Some.last (sym c.requires.last ∙ c.in-Some.is) in
    no_gap c.args.rows.now.0 c.in-Some.last last.below (sym c.get.ensures ∙ c.in_default-get.is)

is_counted : (c : goal.After-struct_known-1) → suc c.in-Some-get.row.number ≡ earlier_events (trace_of c.args.rows.now.0) c.args.thread (length c.args.rows.now.0)
is_counted c =
    counted c.args.rows.now.0 c.args.thread c.in-Some.last c.in-Some-get.row c.requires.rows (sym c.in-Some.is ∙ c.requires.last) (sym c.in-Some-get.is ∙ c.get.ensures)

pub overflow_add-result : goal.overflow_add-result
overflow_add-result c =
    let all = is_counted c in
    let most = count_max (of_thread (trace_of c.args.rows.now.0) c.args.thread) (length c.args.rows.now.0) in
    let short = c.requires.short in
    Fits-below {w = w32} {m = c.in-Some-get.row.number + 1} {n = 1048576} tt (omega arith)

pub returns : goal.returns
returns c = let all = is_counted c in omega arith
