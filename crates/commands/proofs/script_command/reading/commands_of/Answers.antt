use Rattle.std.proofs.Common.{◌<◌, ◌≤◌, ℕ, List, [], Bor, Ok, get_or, map, ap, sym, subst, ◌∙◌, arith}
use Rattle.std.specs.Prelude.{option_map}
use Rattle.std.proofs.lemmas.List.{get_or-map, length-map, take_all}
use Rattle.std.proofs.lemmas.Option.{slice_get-get_or, slice_get-map}
use Rattle.event_files.specs.EventFile.{line_words}
use Rattle.commands.specs.ScriptFile.{AddsLine, SaysLines}
use Rattle.commands.proofs.ScriptLines.{one_line_more}
use Rattle.commands.proofs.script_command.reading.commands_of.Goals as goal

pub returns-then-not-branch-clause-refused : goal.returns-then-not-branch-clause-refused
returns-then-not-branch-clause-refused c =
    let shown : Bor (List ℕ) → List ℕ = λ line. line.now in
    let lines = c.args.lines.now in
    let i = c.loop-line.line-index in
    let none : Bor (List ℕ) = record { ref_ptr = (0, 0); now = [] } in
    record {
      index = i;
      counts = omega (arith, c.loop-line.invariant.counted, c.saturating_add-number.ensures);
      commands = c.loop-line.commands.items;
      before = c.loop-line.invariant.said;
      line = (get_or lines i none).now;
      at = slice_get-map shown lines i ∙ ap (option_map shown) (slice_get-get_or lines i none c.loop-line-test.true);
      wrong = c.push_line.ensures.wrong (c.in_ok-push_line.was ∙ ap Ok c.if-not-branch.true);
    }

pub returns-clause-commands : goal.returns-clause-commands
returns-clause-commands c =
    let shown : Bor (List ℕ) → List ℕ = λ line. line.now in
    let lines = c.args.lines.now in
    let past = subst (λ n. n ≤ c.loop-line.line-index) (sym (length-map lines shown)) c.loop-line-test.false in
    subst (λ all. SaysLines all c.loop-line.commands.items) (take_all c.loop-line.line-index (map shown lines) past) c.loop-line.invariant.said

pub loop-line-preserved : goal.loop-line-preserved
loop-line-preserved c =
    let shown : Bor (List ℕ) → List ℕ = λ line. line.now in
    let lines = c.args.lines.now in
    let i = c.loop-line.line-index in
    let here = get_or-map shown lines i (record { ref_ptr = (0, 0); now = [] }) [] c.loop-line-test.true in
    let within = subst (λ n. i < n) (sym (length-map lines shown)) c.loop-line-test.true in
    let pushed = c.push_line.ensures.added (c.in_ok-push_line.was ∙ ap Ok c.if-not-branch.false) in
    let added = subst (λ line. AddsLine c.loop-line.commands.items (line_words line) c.push_line.new.commands.items) (sym here) pushed in
    record {
      said = one_line_more (map shown lines) i c.loop-line.commands.items c.push_line.new.commands.items within c.loop-line.invariant.said added;
      counted = omega (arith, c.loop-line.invariant.counted, c.saturating_add-number.ensures);
    }
