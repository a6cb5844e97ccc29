use Rattle.std.proofs.Common.{◌≡◌, ◌+◌, ◌-◌, ◌++◌, List, ℕ, Result, Ok, Err, sym, ap, ◌∙◌, append_assoc, arith}
use Rattle.std.specs.Prelude.{OnOk}
use Rattle.reports.specs.Text.{run_text}
use Rattle.reports.specs.Sinks.{Appends}
use Rattle.reports.proofs.Runs.{run_split}
use Rattle.reports.proofs.buffer.TextBufferSink.put_run.Goals as goal

-- a text after the first part of the whole
both : {E : Type 0} (r : Result (Unit {0}) E) (old middle new first last whole : List ℕ) → middle ≡ old ++ first → whole ≡ first ++ last → OnOk r (new ≡ middle ++ last) → Appends (record { has = λ buffer written. buffer ≡ written; least = 0 }) old whole r new
both (Ok _) old middle new first last whole begun is ended = λ written has.
    ended ∙ ap (λ l. l ++ last) (begun ∙ ap (λ l. l ++ first) has) ∙ append_assoc written first last ∙ ap (λ l. written ++ l) (sym is)
both (Err _) old middle new first last whole begun is ended = λ written has. omega arith

pub returns : goal.returns
returns c =
    let first = c.args.first in
    let cached = c.in_ok-cached.cached in
    let count = c.args.count in
    let few = c.in_ok-cached.ensures.0 in
    let rest : cached + (count - cached) ≡ count = omega (arith, few) in
    both c.put_each.result c.args.self.now c.put_cached.new.self c.put_each.new.self (run_text first cached) (run_text (first + cached) (count - cached)) (run_text first count) c.in_ok-cached.ensures.1
    (ap (run_text first) (sym rest) ∙ run_split first cached (count - cached)) c.put_each.ensures
