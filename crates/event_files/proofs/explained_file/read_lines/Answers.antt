use Rattle.std.proofs.Common.{◌≡◌, ◌+◌, ◌<◌, ◌≤◌, ℕ, List, [], Bor, inl, inr, get_or, map, sym, subst, ◌∙◌, arith}
use Rattle.std.proofs.lemmas.List.{get_or-map, length-map, take_all}
use Rattle.event_files.specs.ExplainedFile.{unskipped_lines}
use Rattle.event_files.specs.ExplainedReading.{IsEnd, IsReadOf, ReadsLine, stated_reading}
use Rattle.event_files.proofs.ExplainedLoops.{ends_early, first_wrong, merged, nothing_read, only_text, reads_next, whole_text}
use Rattle.event_files.proofs.explained_file.read_lines.Goals as goal

abbrev shown : Bor (List ℕ) → List ℕ
shown line = line.now

abbrev none : Bor (List ℕ)
none = record { ref_ptr = (0, 0); now = [] }

pub loop-line-init : goal.loop-line-init
loop-line-init c =
    record { counted = omega arith; read = subst (IsReadOf []) (sym c.new-reading.ensures) nothing_read }

pub returns-then-is_merge_mark-clause-refused : goal.returns-then-is_merge_mark-clause-refused
returns-then-is_merge_mark-clause-refused c =
    let lines = c.args.lines.now in
    let i = c.loop-line.line-index in
    let here = get_or-map shown lines i none [] c.loop-line-test.true in
    let within = subst (λ n. i < n) (sym (length-map lines shown)) c.loop-line-test.true in
    let counts : c.saturating_add-number.result ≡ i + 1 = omega (arith, c.loop-line.invariant.counted, c.saturating_add-number.ensures) in
    merged (map shown lines) i c.saturating_add-number.result (get_or lines i none).now (stated_reading c.loop-line.reading) within counts (sym here) (sym c.is_merge_mark.ensures ∙ c.if-is_merge_mark.true)
    c.loop-line.invariant.read

pub returns-in_default-clause-refused : goal.returns-in_default-clause-refused
returns-in_default-clause-refused c =
    let lines = c.args.lines.now in
    let i = c.loop-line.line-index in
    let line = (get_or lines i none).now in
    let old = stated_reading c.loop-line.reading in
    let here = get_or-map shown lines i none [] c.loop-line-test.true in
    let within = subst (λ n. i < n) (sym (length-map lines shown)) c.loop-line-test.true in
    let counts : c.saturating_add-number.result ≡ i + 1 = omega (arith, c.loop-line.invariant.counted, c.saturating_add-number.ensures) in
    inl (first_wrong (map shown lines) i c.saturating_add-number.result line old within counts (sym here) (sym c.is_merge_mark.ensures ∙ c.if-is_merge_mark.false)
    (subst (ReadsLine line old) c.in_default.is c.in_ok-next.ensures) c.loop-line.invariant.read)

pub loop-line-preserved : goal.loop-line-preserved
loop-line-preserved c =
    let lines = c.args.lines.now in
    let i = c.loop-line.line-index in
    let line = (get_or lines i none).now in
    let old = stated_reading c.loop-line.reading in
    let here = get_or-map shown lines i none [] c.loop-line-test.true in
    let within = subst (λ n. i < n) (sym (length-map lines shown)) c.loop-line-test.true in
    record {
      counted = omega (arith, c.loop-line.invariant.counted, c.saturating_add-number.ensures);
      read = reads_next (map shown lines) i line old c.in-Some.next within (sym here) (subst (ReadsLine line old) c.in-Some.is c.in_ok-next.ensures) c.loop-line.invariant.read;
    }

pub returns-in-Some-2-clause-read : goal.returns-in-Some-2-clause-read
returns-in-Some-2-clause-read c =
    let lines = map shown c.args.lines.now in
    let r = stated_reading c.loop-line.reading in
    let past = subst (λ n. n ≤ c.loop-line.line-index) (sym (length-map c.args.lines.now shown)) c.loop-line-test.false in
    let read = subst (λ l. IsReadOf (unskipped_lines l) r) (take_all c.loop-line.line-index lines past) c.loop-line.invariant.read in
    whole_text (unskipped_lines lines) r c.in-Some-2.explained (subst (IsEnd r) c.in-Some-2.is c.in_ok-explained.ensures) read

pub returns-in-Some-2-clause-unique : goal.returns-in-Some-2-clause-unique
returns-in-Some-2-clause-unique c =
    let lines = map shown c.args.lines.now in
    let r = stated_reading c.loop-line.reading in
    let past = subst (λ n. n ≤ c.loop-line.line-index) (sym (length-map c.args.lines.now shown)) c.loop-line-test.false in
    let read = subst (λ l. IsReadOf (unskipped_lines l) r) (take_all c.loop-line.line-index lines past) c.loop-line.invariant.read in
    only_text (unskipped_lines lines) r c.in-Some-2.explained (subst (IsEnd r) c.in-Some-2.is c.in_ok-explained.ensures) read

pub returns-in-None-clause-refused : goal.returns-in-None-clause-refused
returns-in-None-clause-refused c =
    let lines = map shown c.args.lines.now in
    let r = stated_reading c.loop-line.reading in
    let past = subst (λ n. n ≤ c.loop-line.line-index) (sym (length-map c.args.lines.now shown)) c.loop-line-test.false in
    let read = subst (λ l. IsReadOf (unskipped_lines l) r) (take_all c.loop-line.line-index lines past) c.loop-line.invariant.read in
    inr (ends_early lines c.after_last.result r c.after_last.ensures (subst (IsEnd r) c.in-None.is c.in_ok-explained.ensures) read)
