use Rattle.std.proofs.Common.{◌≡◌, ◌+◌, ◌-◌, ◌++◌, List, ℕ, subst, arith}
use Rattle.std.specs.Result.{OnOk}
use Rattle.reports.specs.Text.{run_text}
use Rattle.reports.proofs.buffer.TextBuffer.put_each.Goals as goal

pub returns : goal.returns
returns c =
    let all : c.args.first + c.args.count - c.args.first ≡ c.args.count = omega arith in
    subst (λ (written : List ℕ). OnOk c.append_run.result (c.append_run.new.text.items ≡ written ++ run_text c.args.first c.args.count)) c.self.view_is
    (subst (λ n. OnOk c.append_run.result (c.append_run.new.text.items ≡ c.self.inside.text.items ++ run_text c.args.first n)) all c.append_run.ensures)
