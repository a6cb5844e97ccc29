-- The lines of a file of explained cycles, one after the other.
use Rattle.std.proofs.Common.{◌≡◌, ℕ, ◌+◌, ◌<◌, true, false, cond, List, [], ◌∷◌, ◌++◌, Option, Some, None, length, map, get_or, take, refl, sym, ap, subst, ◌∙◌, append_assoc}
use Rattle.std.specs.List.{All}
use Rattle.std.proofs.lemmas.List.{append-nil, append_cancel_left, map-append, take_more}
use Rattle.std.proofs.lemmas.List.Elements.{All-head, All-nil, filter-append}
use Rattle.std.proofs.lemmas.Option.{slice_get-get_or}
use Rattle.event_files.specs.ExplainedFile.{EndsEarly, AreFirstFileLines, IsFirstWrong, IsMerged, IsOnlyTextOf, IsTextOf, is_kept, is_merge_mark, unskipped_lines}
use Rattle.event_files.specs.ExplainedLines.{IsTextOfLine, IsStatedLine, StatedLine, line_text}
use Rattle.event_files.specs.ExplainedText.{Contents, IsStatedCycle, contents_of, head_numbers}
use Rattle.event_files.specs.NumberedText.{AreSmall}
use Rattle.event_files.specs.declared.explanations.ReportHead.{ReportHead}
use Rattle.event_files.specs.ExplainedReading.{ReadsStatedLine, IsEnd, IsNextStatedLine, IsReadOf, IsWrongNext, ReadsLine, StatedReading, between, file_parts, reading_parts, stated_reading}
use Rattle.event_files.specs.declared.explained_reading.Reading.{Reading}
use Rattle.event_files.specs.declared.explanations.ExplainedFile.{ExplainedFile}
use Rattle.event_files.specs.WitnessFile.{line_count}
use Rattle.event_files.proofs.ExplainedBeginnings.{begins_file, file_stated, file_text}
use Rattle.event_files.proofs.NumberedTexts.{end_all}
use Rattle.event_files.proofs.ExplainedReadings.{reading}
use Rattle.event_files.proofs.ExplainedUnique.{same_file}

-- the next line that is read of a file
record IsNextLine (line : List ℕ) (r : StatedReading) (parts : List StatedLine) : Type 0 where
  here : StatedLine
  more : List StatedLine
  states : IsTextOfLine line here
  are : parts ≡ reading_parts r ++ here ∷ more

next_of : (line : List ℕ) (rest : List (List ℕ)) (r : StatedReading) (parts more : List StatedLine) → parts ≡ reading_parts r ++ more → All IsStatedLine more → map line_text more ≡ line ∷ rest →
    IsNextLine line r parts
next_of line rest r parts [] are stated is = absurd (cc)
next_of line rest r parts (l ∷ more) are stated is =
    let same : line_text l ≡ line = cc in
    record { here = l; more = more; states = (All-head IsStatedLine l more stated, sym same); are = are }

-- what comes after the lines that were read
after_read : (lines rest : List (List ℕ)) (r : StatedReading) (parts more : List StatedLine) → lines ≡ map line_text (reading_parts r) → parts ≡ reading_parts r ++ more → map line_text parts ≡ lines ++ rest →
    map line_text more ≡ rest
after_read lines rest r parts more are is texts =
    append_cancel_left lines (map line_text more) rest
    (ap (λ l. l ++ map line_text more) are ∙ (sym (map-append line_text (reading_parts r) more) ∙ (ap (map line_text) (sym is) ∙ texts)))

next_line : (lines rest : List (List ℕ)) (line : List ℕ) (r : StatedReading) (parts : List StatedLine) → IsReadOf lines r → All IsStatedLine parts → map line_text parts ≡ lines ++ line ∷ rest → IsNextLine line r parts
next_line lines rest line r parts read stated texts =
    let more = read.only parts (line ∷ rest) stated texts in
    next_of line rest r parts more.0 more.1 (end_all IsStatedLine (reading_parts r) more.0 (subst (All IsStatedLine) more.1 stated)) (after_read lines (line ∷ rest) r parts more.0 read.are more.1 texts)

-- the next line of a file that begins so
next_in_file : (lines : List (List ℕ)) (line : List ℕ) (r : StatedReading) → IsReadOf lines r → (begins : AreFirstFileLines (lines ++ line ∷ [])) → IsNextLine line r (file_parts begins.0)
next_in_file lines line r read begins =
    next_line lines begins.1 line r (file_parts begins.0) read (file_stated begins.0 begins.2)
    (file_text begins.0 ∙ (begins.3 ∙ append_assoc lines (line ∷ []) begins.1))

kept_line : (line : List ℕ) → is_kept line ≡ true → unskipped_lines (line ∷ []) ≡ line ∷ []
kept_line line k = ap (λ b. cond b (line ∷ []) []) k

skipped_line : (line : List ℕ) → is_kept line ≡ false → unskipped_lines (line ∷ []) ≡ []
skipped_line line k = ap (λ b. cond b (line ∷ []) []) k

-- a line that is skipped
pub skips : (line : List ℕ) (new : Reading) → is_kept line ≡ false → ReadsLine line (stated_reading new) (Some new)
skips line new k lines read = subst (λ l. IsReadOf l (stated_reading new)) (sym (ap (λ l. lines ++ l) (skipped_line line k) ∙ append-nil lines)) read

-- a line of no kind
pub no_line_reads : (line : List ℕ) (r : StatedReading) → is_kept line ≡ true → ((l : StatedLine) → IsTextOfLine line l → ⊥) → ReadsLine line r None
no_line_reads line r k none lines read begins =
    let next = next_in_file lines line r read (subst (λ l. AreFirstFileLines (lines ++ l)) (kept_line line k) begins) in
    none next.here next.states

-- a line that may not come
wrong_reads : (line : List ℕ) (r : StatedReading) (l : StatedLine) → is_kept line ≡ true → ((m : StatedLine) → IsTextOfLine line m → l ≡ m) → IsWrongNext r l → ReadsLine line r None
wrong_reads line r l k only wrong lines read begins =
    let found = subst (λ x. AreFirstFileLines (lines ++ x)) (kept_line line k) begins in
    let next = next_in_file lines line r read found in
    wrong found.0 next.more read.reading found.2 (next.are ∙ ap (λ x. reading_parts r ++ x ∷ next.more) (sym (only next.here next.states)))

read_one : (line : List ℕ) (r new : StatedReading) (l : StatedLine) (lines : List (List ℕ)) → IsTextOfLine line l → ((m : StatedLine) → IsTextOfLine line m → l ≡ m) → ReadsStatedLine r l new → IsReadOf lines r →
    IsReadOf (lines ++ line ∷ []) new
read_one line r new l lines states only follows read =
    let f = follows read.reading states.0 in
    record {
      reading = f.0;
      are = (λ i. read.are i ++ states.1 i ∷ []) ∙ (sym (map-append line_text (reading_parts r) (l ∷ [])) ∙ ap (map line_text) (sym f.1));
      only = λ parts rest stated texts.
          let next = next_line lines rest line r parts read stated (texts ∙ append_assoc lines (line ∷ []) rest) in (
            next.more,
            next.are ∙ (ap (λ x. reading_parts r ++ x ∷ next.more) (sym (only next.here next.states))
                ∙ (sym (append_assoc (reading_parts r) (l ∷ []) next.more) ∙ ap (λ x. x ++ next.more) (sym f.1))),
          );
    }

-- a line that is read
pub reads_line : (line : List ℕ) (r : StatedReading) (l : StatedLine) (next : Option Reading) → is_kept line ≡ true → IsTextOfLine line l → ((m : StatedLine) → IsTextOfLine line m → l ≡ m) →
    IsNextStatedLine r l next → ReadsLine line r next
reads_line line r l None k states only wrong = wrong_reads line r l k only wrong
reads_line line r l (Some new) k states only follows = λ lines read.
    subst (λ x. IsReadOf (lines ++ x) (stated_reading new)) (sym (kept_line line k)) (read_one line r (stated_reading new) l lines states only follows read)

-- nothing was read of no lines
pub nothing_read : IsReadOf [] (reading None [] between)
nothing_read = record {
  reading = record {
    head_small = All-nil (λ (h : ReportHead). AreSmall (head_numbers h));
    cycles = All-nil IsStatedCycle;
    settled = refl;
    state = tt;
  };
  are = refl;
  only = λ parts rest stated texts. (parts, refl);
}

-- the lines that are kept of the first ones, and the next one
pub one_more_kept : (lines : List (List ℕ)) (i : ℕ) → i < length lines → unskipped_lines (take (i + 1) lines) ≡ unskipped_lines (take i lines) ++ unskipped_lines (get_or lines i [] ∷ [])
one_more_kept lines i within = ap unskipped_lines (take_more lines i [] within) ∙ filter-append is_kept (take i lines) (get_or lines i [] ∷ [])

-- the next line is read
pub reads_next : (lines : List (List ℕ)) (i : ℕ) (line : List ℕ) (old : StatedReading) (new : Reading) → i < length lines → line ≡ get_or lines i [] → ReadsLine line old (Some new) →
    IsReadOf (unskipped_lines (take i lines)) old → IsReadOf (unskipped_lines (take (i + 1) lines)) (stated_reading new)
reads_next lines i line old new within is reads read =
    subst (λ l. IsReadOf l (stated_reading new)) (sym (one_more_kept lines i within)) (subst (λ l. IsReadOf (unskipped_lines (take i lines) ++ unskipped_lines (l ∷ [])) (stated_reading new)) is (reads (unskipped_lines (take i lines)) read))

-- the next line is the first wrong one
pub first_wrong : (lines : List (List ℕ)) (i number : ℕ) (line : List ℕ) (old : StatedReading) → i < length lines → number ≡ i + 1 → line ≡ get_or lines i [] → is_merge_mark line ≡ false →
    ReadsLine line old None → IsReadOf (unskipped_lines (take i lines)) old → IsFirstWrong lines number
first_wrong lines i number line old within counts is unmarked wrong read = record {
  index = i;
  counts = counts;
  line = line;
  at = slice_get-get_or lines i [] within ∙ ap Some (sym is);
  unmarked = unmarked;
  before = begins_file (unskipped_lines (take i lines)) old read;
  wrong = λ begins. wrong (unskipped_lines (take i lines)) read
      (subst (λ l. AreFirstFileLines (unskipped_lines (take i lines) ++ unskipped_lines (l ∷ []))) (sym is) (subst AreFirstFileLines (one_more_kept lines i within) begins));
}

-- the next line is a merge mark
pub merged : (lines : List (List ℕ)) (i number : ℕ) (line : List ℕ) (old : StatedReading) → i < length lines → number ≡ i + 1 → line ≡ get_or lines i [] → is_merge_mark line ≡ true →
    IsReadOf (unskipped_lines (take i lines)) old → IsMerged lines number
merged lines i number line old within counts is marked read = record {
  index = i;
  counts = counts;
  line = line;
  at = slice_get-get_or lines i [] within ∙ ap Some (sym is);
  marked = marked;
  before = begins_file (unskipped_lines (take i lines)) old read;
}

no_more : (more : List StatedLine) → map line_text more ≡ [] → more ≡ []
no_more [] e = refl
no_more (l ∷ more) e = absurd (cc)

-- a file with exactly the lines that were read
only_parts : (lines : List (List ℕ)) (r : StatedReading) (f : Contents) → IsReadOf lines r → IsTextOf f lines → file_parts f ≡ reading_parts r
only_parts lines r f read text =
    let texts : map line_text (file_parts f) ≡ lines ++ [] = file_text f ∙ (sym text.1 ∙ sym (append-nil lines)) in
    let more = read.only (file_parts f) [] (file_stated f text.0) texts in
    let empty = no_more more.0 (after_read lines [] r (file_parts f) more.0 read.are more.1 texts) in
    more.1 ∙ (ap (λ l. reading_parts r ++ l) empty ∙ append-nil (reading_parts r))

-- a line is missing
pub ends_early : (lines : List (List ℕ)) (number : ℕ) (r : StatedReading) → number ≡ line_count lines + 1 → IsEnd r None → IsReadOf (unskipped_lines lines) r → EndsEarly lines number
ends_early lines number r counts none read = record {
  counts = counts;
  before = begins_file (unskipped_lines lines) r read;
  missing = λ f text. none f read.reading text.0 (only_parts (unskipped_lines lines) r f read text);
}

-- the file is whole
pub whole_text : (lines : List (List ℕ)) (r : StatedReading) (file : ExplainedFile) → IsEnd r (Some file) → IsReadOf lines r → IsTextOf (contents_of file) lines
whole_text lines r file end read =
    let whole = end read.reading in
    (whole.0, read.are ∙ (ap (map line_text) (sym whole.1) ∙ file_text (contents_of file)))

-- and no other one has its lines
pub only_text : (lines : List (List ℕ)) (r : StatedReading) (file : ExplainedFile) → IsEnd r (Some file) → IsReadOf lines r → IsOnlyTextOf (contents_of file) lines
only_text lines r file end read other text =
    let whole = end read.reading in
    same_file other (contents_of file) text.0 whole.0 (only_parts lines r other read text ∙ sym whole.1)
