use Rattle.std.proofs.Common.{ℕ, Bool, List, ◌++◌, ◌∙◌, ap, map, refl, subst, sym}
use Rattle.std.proofs.lemmas.List.{append-nil, take_all}
use Rattle.event_files.specs.ExplainedText.{stated_cycle}
use Rattle.commands.specs.Check.{AddsRows}
use Rattle.commands.specs.declared.check_verdicts.CheckedLine.{CheckedLine}
use Rattle.commands.proofs.CheckedCycles.{adds_lines, are_valid, more_text, not_valid, still_valid, texts}
use Rattle.commands.proofs.check_words.push_rows.Goals as goal
use Rattle.commands.proofs.check_words.push_rows.Goals.{then-are_valid, else-are_valid}

pub loop-line-init : goal.loop-line-init
loop-line-init g c = record { text = sym (append-nil c.args.text.now.items); valid = refl }

pub loop-line-preserved : goal.loop-line-preserved
loop-line-preserved g c =
    let lines = c.as_slice-line-items.result.now in
    let n = c.loop-line.line-index in
    let within = c.loop-line-test.true in
    let line = c.line-item.result in
    let v = c.loop-line.invariant in
    let mid = c.loop-line.text.items in
    record {
      text = more_text lines n within line c.line-item.is c.args.text.now.items mid c.extend_from_slice.new.self.items v.text (c.in_ok-extend_from_slice.ensures.items ∙ ap (λ (l : List ℕ). mid ++ l) c.deref.ensures.value);
      valid = elim c.if-are_valid.branch [
        | then-are_valid w ↦ rw w.are_valid-is (still_valid lines n within line c.line-item.is c.loop-line.are_valid v.valid w.if-are_valid.true)
        | else-are_valid w ↦ rw w.are_valid-is (not_valid lines n within line c.line-item.is c.loop-line.are_valid v.valid w.if-are_valid.false)
      ];
    }

pub returns : goal.returns
returns g c =
    let s = c.args.checker.now in
    let rows = map stated_cycle c.args.cycles.now in
    let old = c.args.text.now.items in
    let new = c.loop-line.text.items in
    let lines = c.in_ok-lines.lines.items in
    let v = c.loop-line.invariant in
    let all = take_all c.loop-line.line-index c.as_slice-line-items.result.now c.loop-line-test.false ∙ c.as_slice-line-items.ensures.value in
    subst (λ (b : Bool). AddsRows s rows b old new) (sym (v.valid ∙ ap are_valid all))
    (adds_lines s rows lines old new c.in_ok-lines.ensures (v.text ∙ ap (λ (ls : List CheckedLine). old ++ texts ls) all))
