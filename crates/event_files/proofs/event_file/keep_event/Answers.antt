use Rattle.std.proofs.Common.{◌+◌, ◌<◌, ◌≤◌, [], ◌∷◌, length, refl, subst, sym, arith}
use Rattle.trace_model.specs.declared.limits.TheConstants.{MAX_EVENTS}
use Rattle.event_files.specs.EventFile.{event_word, KeepsWords}
use Rattle.event_files.proofs.FirstEvents.{keeps_full, keeps_pushed}
use Rattle.event_files.proofs.event_file.keep_event.Goals as goal

pub returns-in_ok-push : goal.returns-in_ok-push
returns-in_ok-push c =
    let old = c.args.kept.now.items in
    let room : length old < MAX_EVENTS + 1 = omega (arith, c.len.ensures, c.args.kept.now.ok, c.if-len-lt-MAX_KEPT.true) in
    subst (KeepsWords old (event_word c.args.event ∷ [])) (sym c.in_ok-push.ensures.items) (keeps_pushed old c.args.event (event_word c.args.event) refl room)

pub returns-else-len-lt-MAX_KEPT : goal.returns-else-len-lt-MAX_KEPT
returns-else-len-lt-MAX_KEPT c =
    let old = c.args.kept.now.items in
    let full : MAX_EVENTS + 1 ≤ length old = omega (arith, c.len.ensures, c.args.kept.now.ok, c.if-len-lt-MAX_KEPT.false) in
    keeps_full old c.args.event (event_word c.args.event) refl full
