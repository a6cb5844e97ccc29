use Rattle.std.proofs.Common.{◌≤◌, sym, subst}
use Rattle.std.proofs.lemmas.List.{length-map}
use Rattle.trace_model.specs.declared.limits.TheConstants.{MAX_CYCLES}
use Rattle.sequencer.specs.Book.{findings_rows}
use Rattle.commands.specs.ScriptRun.{DeliversTask, RefusesTask}
use Rattle.commands.proofs.ScriptTasks.{delivers, is_refused}
use Rattle.commands.proofs.script_command.ScriptSession.deliver_task.Goals as goal

pub returns-in-Ok-deliver_known-clause-delivered : goal.returns-in-Ok-deliver_known-clause-delivered
returns-in-Ok-deliver_known-clause-delivered c =
    let state = c.args.self.now.book.state in
    let next = c.deliver_known.new.self.state in
    let f = c.in-Ok.finding in
    let asked = c.in-Ok.ensures.asked in
    let exact = c.in-Ok-deliver_known.ensures.exact in
    let few = subst (λ n. n ≤ MAX_CYCLES) (sym (length-map f.rows (λ p. p.row))) exact.few in
    let gave = delivers state next f.question f.bound f.events f.task (findings_rows f) c.in-Ok-deliver_known.ensures.machine exact.exact few in
    subst (λ task. DeliversTask state c.args.job.now.question task next) asked.2 (subst (λ number. DeliversTask state number f.task next) asked.0 gave)

pub returns-in-Err-clause-refused : goal.returns-in-Err-clause-refused
returns-in-Err-clause-refused c =
    let state = c.args.self.now.book.state in
    let next = c.deliver_known.new.self.state in
    let f = c.in-Ok.finding in
    let asked = c.in-Ok.ensures.asked in
    let outcome = is_refused state next f.question f.bound f.events f.task (findings_rows f) c.in-Err.refusal c.args.job.now c.requires asked.0 asked.1 asked.3 c.in-Err.ensures.machine in
    (outcome.0, subst (λ task. RefusesTask state c.args.job.now.question task c.in-Err.refusal) asked.2 outcome.1)
