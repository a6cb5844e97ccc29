use Rattle.std.proofs.Common.{◌≡◌, ◌+◌, ◌<◌, ℕ, List, [], Bor, Ok, inl, map, sym, ap, subst, ◌∙◌, arith}
use Rattle.std.proofs.lemmas.List.{get_or-map, length-map}
use Rattle.event_files.specs.EventFile.{line_words}
use Rattle.event_files.specs.WitnessFile.{list_places}
use Rattle.event_files.proofs.WitnessLines.{reads_next, is_wrong}
use Rattle.event_files.proofs.witness_file.read_lines.Goals as goal

pub returns-then-not-branch-clause-refused : goal.returns-then-not-branch-clause-refused
returns-then-not-branch-clause-refused c =
    let shown : Bor (List ℕ) → List ℕ = λ line. line.now in
    let lines = c.args.lines.now in
    let i = c.loop-line.line-index in
    let here = get_or-map shown lines i (record { ref_ptr = (0, 0); now = [] }) [] c.loop-line-test.true in
    let within = subst (λ n. i < n) (sym (length-map lines shown)) c.loop-line-test.true in
    let counts : c.saturating_add-number.result ≡ i + 1 = omega (arith, c.loop-line.invariant.counted, c.saturating_add-number.ensures) in
    let are = ap (map shown) c.deref.ensures.value ∙ (c.in_ok-words.ensures ∙ sym (ap line_words here)) in
    let wrong = c.read_words.ensures.wrong (c.in_ok-read_words.was ∙ ap Ok c.if-not-branch.true) in
    inl (is_wrong (map shown lines) i c.saturating_add-number.result (map shown c.deref.result.now) c.loop-line.instance (list_places c.loop-line.order) within counts are c.loop-line.invariant.read wrong)

pub loop-line-preserved : goal.loop-line-preserved
loop-line-preserved c =
    let shown : Bor (List ℕ) → List ℕ = λ line. line.now in
    let lines = c.args.lines.now in
    let i = c.loop-line.line-index in
    let here = get_or-map shown lines i (record { ref_ptr = (0, 0); now = [] }) [] c.loop-line-test.true in
    let within = subst (λ n. i < n) (sym (length-map lines shown)) c.loop-line-test.true in
    let are = ap (map shown) c.deref.ensures.value ∙ (c.in_ok-words.ensures ∙ sym (ap line_words here)) in
    let on = c.read_words.ensures.read (c.in_ok-read_words.was ∙ ap Ok c.if-not-branch.false) in
    record {
      counted = omega (arith, c.loop-line.invariant.counted, c.saturating_add-number.ensures);
      read = reads_next (map shown lines) i (map shown c.deref.result.now) (c.loop-line.instance, list_places c.loop-line.order) (c.read_words.new.instance, list_places c.read_words.new.order)
          within are c.loop-line.invariant.read on;
    }
