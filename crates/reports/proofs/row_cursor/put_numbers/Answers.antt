use Rattle.std.proofs.Common.{◌≡◌, ◌+◌, ◌-◌, ◌++◌, sym, ap, ◌∙◌, arith}
use Rattle.reports.specs.Text.{run_text}
use Rattle.reports.proofs.Windows.{run_kept, run_next, window_of}
use Rattle.reports.proofs.row_cursor.put_numbers.Goals as goal

pub returns-clause-numbers : goal.returns-clause-numbers
returns-clause-numbers c =
    let next = c.args.run.next in
    let end = c.args.run.end in
    let count = c.min-count.result in
    let piece = c.take_run.new.self in
    let kept = window_of 0 c.begin.new.self.skip piece.skip c.begin.new.self.text.items piece.text.items (run_text next count) (omega arith) c.begin.ensures.from c.begin.ensures.empty c.take_run.ensures in
    let all = run_kept next count piece.text.items (omega arith) (omega arith) kept in
    run_next next count end (omega arith) ∙ ap (λ text. text ++ run_text (next + count) (end - (next + count))) (sym all)
