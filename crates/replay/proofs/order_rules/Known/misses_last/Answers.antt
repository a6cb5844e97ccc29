use Rattle.std.proofs.Common.{length, sym, ◌∙◌}
use Rattle.std.proofs.lemmas.Bool.{false≢true}
use Rattle.trace_model.proofs.Theory.Places.{last_place_some}
use Rattle.replay.specs.Facts.{is_of_thread}
use Rattle.replay.proofs.FactLists.{missed_by_last, none_missed}
use Rattle.replay.proofs.order_rules.Known.misses_last.Goals as goal

pub is_passed-requires-clause-in_trace : goal.is_passed-requires-clause-in_trace
is_passed-requires-clause-in_trace c =
    let k = c.args.self.now in
    (last_place_some (is_of_thread k.trace.now c.args.thread) (length k.trace.now) c.in-Some.place (sym (c.in-Some.ensures ∙ c.requires.0.lasts c.args.thread))).0

pub returns-in-Some : goal.returns-in-Some
returns-in-Some c =
    let k = c.args.self.now in
    missed_by_last k.trace.now k.passed.now c.requires.1.walked c.args.thread (length k.trace.now) c.in-Some.place c.is_passed.result
    (sym (c.in-Some.ensures ∙ c.requires.0.lasts c.args.thread)) c.is_passed.ensures

pub returns-in-None : goal.returns-in-None
returns-in-None c =
    let k = c.args.self.now in
    (λ h. absurd (false≢true h), λ m. absurd (none_missed k.trace.now k.passed.now c.args.thread (length k.trace.now) (sym (c.in-None.ensures ∙ c.requires.0.lasts c.args.thread)) m))
