-- The first line of a text, word by word.
use Rattle.std.proofs.Common.{◌≡◌, ℕ, zero, suc, ◌+◌, ◌<◌, ◌≤◌, ◌≢◌, ◌^◌, Bool, true, false, cond, not, eqb, List, [], ◌∷◌, ◌++◌, Some, None, length, drop, get_or, replicate, decimal, refl, sym, ap, subst, ◌∙◌, arith, append_assoc, length-append, ◌||◌}
use Rattle.std.specs.Prelude.{slice_get}
use Rattle.std.specs.List.{All, before_first, filter, onto_first, position, position_or_len}
use Rattle.std.specs.Str.Parse.{AllDigits}
use Rattle.std.proofs.lemmas.Bool.{eqb-true, ne_eqb, true≢false}
use Rattle.std.proofs.lemmas.Bool.Decides.{nat_tests}
use Rattle.std.proofs.lemmas.Fmt.{decimal_is_IsNumeral}
use Rattle.std.proofs.lemmas.List.{append-nil}
use Rattle.std.proofs.lemmas.List.Elements.{All-append, All-cons, All-head, All-nil, All-tail, All-weaker}
use Rattle.std.proofs.lemmas.List.Quantifiers.{position-Some}
use Rattle.std.proofs.lemmas.List.Splits.{slice_split_at, slice_split_first, slice_split_none}
use Rattle.std.proofs.lemmas.Option.{cond_some, none-some}
use Rattle.std.proofs.lemmas.Str.Parse.{digit_from_value}
use Rattle.trace_model.specs.declared.traces.event.Event.{Event}
use Rattle.trace_model.specs.declared.traces.event.Op.{Op}
use Rattle.trace_model.specs.declared.traces.event.Op.TheVariants.{Fork, Join, Acquire, Release, Read, Write}
use Rattle.trace_model.specs.Protocol.Frames.{FitsWords, object_of}
use Rattle.event_files.specs.EventFile.{ends_word, event_word, is_comment, is_word, letter_of, pieces_at, spaced_words, line_words, BeginsWithBadLine, BeginsWithNoEvent, HasBadWord, IsEventWord, KeepsLine, KeepsWords, RefusesFirstWord, RefusesLine}
use Rattle.event_files.specs.declared.refused.FileRefused.{FileRefused}
use Rattle.event_files.specs.declared.refused.FileRefused.TheVariants.{Line, NoMemory}
use Rattle.event_files.specs.WitnessFile.{has_words}
use Rattle.event_files.proofs.FirstEvents.{keeps_more, keeps_none}
use Rattle.event_files.proofs.Lines.{at_byte, no_comment, no_words}

-- a text is a line and others, and the words of this line are some words and those of a line
pub record IsSplit (text : List ℕ) (done : List (List ℕ)) (line : List ℕ) (later : List (List ℕ)) : Type 0 where
  pub whole : List ℕ
  pub first : pieces_at 10 text ≡ whole ∷ later
  pub words : spaced_words whole ≡ done ++ spaced_words line

-- the events of the words of the text before the rest are kept
pub record KeptSoFar (old : List Event) (text : List ℕ) (new : List Event) (rest : List ℕ) : Type 0 where
  pub done : List (List ℕ)
  pub kept : KeepsWords old done new
  pub split : (line : List ℕ) (later : List (List ℕ)) → pieces_at 10 rest ≡ line ∷ later → IsSplit text done line later

-- a space
pub after_space_kept : (old new : List Event) (text rest : List ℕ) → KeptSoFar old text new (32 ∷ rest) → KeptSoFar old text new rest
after_space_kept old new text rest k = record {
  done = k.done;
  kept = k.kept;
  split = λ line later at. let s = k.split (32 ∷ line) later (ap (onto_first 32) at) in record { whole = s.whole; first = s.first; words = s.words };
}

-- the end of the file and of a line
pub kept_all : (old new : List Event) (text : List ℕ) (later : List (List ℕ)) (rest : List ℕ) → KeptSoFar old text new rest → pieces_at 10 rest ≡ [] ∷ later → KeepsLine spaced_words old text new later
kept_all old new text later rest k at =
    let s = k.split [] later at in
    record { line = s.whole; first = s.first; kept = subst (λ (ws : List (List ℕ)). KeepsWords old ws new) (sym (append-nil k.done) ∙ sym s.words) k.kept }

-- the byte is in no gap between words
pub record IsPlain (byte : ℕ) : Type 0 where
  pub space : eqb byte 32 ≡ false
  pub feed : eqb byte 10 ≡ false

plain_digits : (ds : List ℕ) → AllDigits 10 ds → All IsPlain ds
plain_digits [] all = All-nil IsPlain
plain_digits (d ∷ ds) all =
    let r = digit_from_value d all.0 in
    All-cons IsPlain d ds (record { space = ne_eqb d 32 (λ is. omega (arith, r, is)); feed = ne_eqb d 10 (λ is. omega (arith, r, is)) }) (plain_digits ds all.1)

plain_letter : (op : Op) → IsPlain (letter_of op)
plain_letter (Fork child) = record { space = refl; feed = refl }
plain_letter (Join child) = record { space = refl; feed = refl }
plain_letter (Acquire lock) = record { space = refl; feed = refl }
plain_letter (Release lock) = record { space = refl; feed = refl }
plain_letter (Read variable) = record { space = refl; feed = refl }
plain_letter (Write variable) = record { space = refl; feed = refl }

plain_number : (n : ℕ) → n < 2 ^ 32 → All IsPlain (decimal n)
plain_number n small = plain_digits (decimal n) (decimal_is_IsNumeral n (omega (arith, small))).0.1

plain_word : (e : Event) → FitsWords e → All IsPlain (event_word e)
plain_word e fits = All-append IsPlain (decimal e.thread) (letter_of e.op ∷ decimal (object_of e.op)) (plain_number e.thread fits.0) (All-cons IsPlain (letter_of e.op) (decimal (object_of e.op)) (plain_letter e.op) (plain_number (object_of e.op) fits.1))

-- plain bytes before a text begin its first line
pub onto_line : (w rest : List ℕ) (line : List ℕ) (later : List (List ℕ)) → All IsPlain w → pieces_at 10 rest ≡ line ∷ later → pieces_at 10 (w ++ rest) ≡ (w ++ line) ∷ later
onto_line [] rest line later plain at = at
onto_line (b ∷ w) rest line later plain at =
    ap (λ c. cond c ([] ∷ pieces_at 10 (w ++ rest)) (onto_first b (pieces_at 10 (w ++ rest)))) (All-head IsPlain b w plain).feed
    ∙ ap (onto_first b) (onto_line w rest line later (All-tail IsPlain b w plain) at)

-- a text has a first line
pub record HasLine (text : List ℕ) : Type 0 where
  pub line : List ℕ
  pub later : List (List ℕ)
  pub first : pieces_at 10 text ≡ line ∷ later

has_line_by : (b : Bool) (x : ℕ) (xs : List ℕ) → eqb x 10 ≡ b → HasLine xs → HasLine (x ∷ xs)
has_line_by true x xs is h = record { line = []; later = pieces_at 10 xs; first = ap (λ c. cond c ([] ∷ pieces_at 10 xs) (onto_first x (pieces_at 10 xs))) is }
has_line_by false x xs is h = record { line = x ∷ h.line; later = h.later; first = ap (λ c. cond c ([] ∷ pieces_at 10 xs) (onto_first x (pieces_at 10 xs))) is ∙ ap (onto_first x) h.first }

pub has_line : (text : List ℕ) → HasLine text
has_line [] = record { line = []; later = []; first = refl }
has_line (x ∷ xs) = has_line_by (eqb x 10) x xs refl (has_line xs)

abbrev head_of : List (List ℕ) → List ℕ
head_of [] = []
head_of (line ∷ lines) = line

filter_word : (w : List ℕ) (more : List (List ℕ)) → 0 < length w → filter is_word (w ∷ more) ≡ w ∷ filter is_word more
filter_word [] more some = absurd (omega arith)
filter_word (b ∷ w) more some = refl

-- a word before the end of the line
word_at_end : (w line : List ℕ) → All IsPlain w → 0 < length w → line ≡ [] → spaced_words (w ++ line) ≡ w ∷ spaced_words line
word_at_end w line plain some none =
    let whole : pieces_at 32 w ≡ w ∷ [] = slice_split_none (λ b. eqb b 32) w (All-weaker IsPlain (λ b. eqb b 32 ≡ false) (λ b p. p.space) w plain) in
    ap (λ l. spaced_words (w ++ l)) none ∙ ap spaced_words (append-nil w) ∙ ap (filter is_word) whole ∙ filter_word w [] some
    ∙ ap (λ l. w ∷ spaced_words l) (sym none)

-- a word before a space
word_at_space : (w line : List ℕ) (b : ℕ) → All IsPlain w → 0 < length w → eqb b 32 ≡ true → spaced_words (w ++ b ∷ line) ≡ w ∷ spaced_words (b ∷ line)
word_at_space w line b plain some is =
    let parts : pieces_at 32 (w ++ b ∷ line) ≡ w ∷ pieces_at 32 line = slice_split_at (λ b. eqb b 32) w b line (All-weaker IsPlain (λ b. eqb b 32 ≡ false) (λ b p. p.space) w plain) is in
    let rest : spaced_words (b ∷ line) ≡ spaced_words line = ap (λ c. filter is_word (cond c ([] ∷ pieces_at 32 line) (onto_first b (pieces_at 32 line)))) is in
    ap (filter is_word) parts ∙ filter_word w (pieces_at 32 line) some ∙ ap (λ l. w ∷ l) (sym rest)

word_before_by : (f s : Bool) (w more : List ℕ) (b : ℕ) (line : List ℕ) (later : List (List ℕ)) → eqb b 10 ≡ f → eqb b 32 ≡ s → All IsPlain w → 0 < length w → (s || f) ≡ true → pieces_at 10 (b ∷ more) ≡ line ∷ later →
    spaced_words (w ++ line) ≡ w ∷ spaced_words line
word_before_by true s w more b line later feed space plain some ends at =
    word_at_end w line plain some (sym (ap head_of (sym (ap (λ c. cond c ([] ∷ pieces_at 10 more) (onto_first b (pieces_at 10 more))) feed) ∙ at)))
word_before_by false false w more b line later feed space plain some ends at = absurd (true≢false (sym ends))
word_before_by false true w more b line later feed space plain some ends at =
    let h = has_line more in
    let is : line ≡ b ∷ h.line = sym (ap head_of (sym (ap (λ c. cond c ([] ∷ pieces_at 10 more) (onto_first b (pieces_at 10 more))) feed ∙ ap (onto_first b) h.first) ∙ at)) in
    subst (λ l. spaced_words (w ++ l) ≡ w ∷ spaced_words l) (sym is) (word_at_space w h.line b plain some space)

-- a word before the rest of its line
pub word_before : (w more : List ℕ) (line : List ℕ) (later : List (List ℕ)) → All IsPlain w → 0 < length w → ends_word more ≡ true → pieces_at 10 more ≡ line ∷ later → spaced_words (w ++ line) ≡ w ∷ spaced_words line
word_before w [] line later plain some ends at = word_at_end w line plain some (sym (ap head_of at))
word_before w (b ∷ more) line later plain some ends at = word_before_by (eqb b 10) (eqb b 32) w more b line later refl refl plain some ends at

some_word : (e : Event) → 0 < length (event_word e)
some_word e = omega (arith, length-append (decimal e.thread) (letter_of e.op ∷ decimal (object_of e.op)))

-- one more word
pub word_kept : (old new last : List Event) (text rest more : List ℕ) (e : Event) → KeptSoFar old text new rest → rest ≡ event_word e ++ more → FitsWords e → ends_word more ≡ true → KeepsWords new (event_word e ∷ []) last → KeptSoFar old text last more
word_kept old new last text rest more e k is fits ends kept =
    let w = event_word e in
    let plain = plain_word e fits in
    record {
      done = k.done ++ w ∷ [];
      kept = keeps_more old new last k.done (w ∷ []) k.kept kept;
      split = λ line later at.
          let s = k.split (w ++ line) later (ap (pieces_at 10) is ∙ onto_line w more line later plain at) in
          record {
            whole = s.whole;
            first = s.first;
            words = s.words ∙ ap (λ ws. k.done ++ ws) (word_before w more line later plain (some_word e) ends at) ∙ sym (append_assoc k.done (w ∷ []) (spaced_words line));
          };
    }

-- the bytes of a text before a gap, and the line that they begin
record FirstWord (text : List ℕ) : Type 0 where
  word : List ℕ
  tail : List ℕ
  line : List ℕ
  later : List (List ℕ)
  more : List (List ℕ)
  whole : text ≡ word ++ tail
  ends : ends_word tail ≡ true
  first : pieces_at 10 text ≡ line ∷ later
  pieces : pieces_at 32 line ≡ word ∷ more

or_true : (b : Bool) → (b || true) ≡ true
or_true true = refl
or_true false = refl

first_word_by : (f s : Bool) (x : ℕ) (xs : List ℕ) → eqb x 10 ≡ f → eqb x 32 ≡ s → FirstWord xs → FirstWord (x ∷ xs)
first_word_by true s x xs feed space w = record {
  word = [];
  tail = x ∷ xs;
  line = [];
  later = pieces_at 10 xs;
  more = [];
  whole = refl;
  ends = ap (λ c. eqb x 32 || c) feed ∙ or_true (eqb x 32);
  first = ap (λ c. cond c ([] ∷ pieces_at 10 xs) (onto_first x (pieces_at 10 xs))) feed;
  pieces = refl;
}
first_word_by false true x xs feed space w = record {
  word = [];
  tail = x ∷ xs;
  line = x ∷ w.line;
  later = w.later;
  more = pieces_at 32 w.line;
  whole = refl;
  ends = ap (λ c. c || eqb x 10) space;
  first = ap (λ c. cond c ([] ∷ pieces_at 10 xs) (onto_first x (pieces_at 10 xs))) feed ∙ ap (onto_first x) w.first;
  pieces = ap (λ c. cond c ([] ∷ pieces_at 32 w.line) (onto_first x (pieces_at 32 w.line))) space;
}
first_word_by false false x xs feed space w = record {
  word = x ∷ w.word;
  tail = w.tail;
  line = x ∷ w.line;
  later = w.later;
  more = w.more;
  whole = ap (λ l. x ∷ l) w.whole;
  ends = w.ends;
  first = ap (λ c. cond c ([] ∷ pieces_at 10 xs) (onto_first x (pieces_at 10 xs))) feed ∙ ap (onto_first x) w.first;
  pieces = ap (λ c. cond c ([] ∷ pieces_at 32 w.line) (onto_first x (pieces_at 32 w.line))) space ∙ ap (onto_first x) w.pieces;
}

first_word : (text : List ℕ) → FirstWord text
first_word [] = record { word = []; tail = []; line = []; later = []; more = []; whole = refl; ends = refl; first = refl; pieces = refl }
first_word (x ∷ xs) = first_word_by (eqb x 10) (eqb x 32) x xs refl refl (first_word xs)

-- a text that begins with no gap begins with a word
word_some : (word tail text : List ℕ) → text ≡ word ++ tail → ends_word tail ≡ true → ends_word text ≡ false → 0 < length word
word_some [] tail text whole ends other = absurd (true≢false (sym ends ∙ (ap ends_word (sym whole) ∙ other)))
word_some (b ∷ word) tail text whole ends other = omega arith

get_between : (done : List (List ℕ)) (word : List ℕ) (more : List (List ℕ)) → slice_get (done ++ word ∷ more) (length done) ≡ Some word
get_between [] word more = refl
get_between (first ∷ done) word more = get_between done word more

-- a word that denotes no event
pub bad_word : (old new : List Event) (text rest : List ℕ) → KeptSoFar old text new rest → ends_word rest ≡ false → BeginsWithNoEvent rest → BeginsWithBadLine spaced_words text
bad_word old new text rest k other bad =
    let w = first_word rest in
    let s = k.split w.line w.later w.first in
    let words : spaced_words s.whole ≡ k.done ++ w.word ∷ filter is_word w.more =
    s.words ∙ ap (λ ws. k.done ++ ws) (ap (filter is_word) w.pieces ∙ filter_word w.word w.more (word_some w.word w.tail rest w.whole w.ends other)) in
    record {
      line = s.whole;
      later = w.later;
      first = s.first;
      bad = (
        length k.done,
        w.word,
        ap (λ ws. slice_get ws (length k.done)) words ∙ get_between k.done w.word (filter is_word w.more),
        λ (e : IsEventWord w.word). bad e.0 w.tail e.1 w.ends (w.whole ∙ ap (λ l. l ++ w.tail) e.2),
      );
    }

-- the line of a refused word is refused
pub refused_word : (old new : List Event) (text rest : List ℕ) (number : ℕ) (why : FileRefused) → KeptSoFar old text new rest → ends_word rest ≡ false → RefusesFirstWord rest number why → RefusesLine spaced_words text number why
refused_word old new text rest number (Line n) k other refused = (refused.0, bad_word old new text rest k other refused.1)
refused_word old new text rest number NoMemory k other refused = tt

-- a text that begins with another byte than a space or a line feed
pub other_byte : (text : List ℕ) → 0 < length text → get_or text 0 0 ≢ 10 → get_or text 0 0 ≢ 32 → ends_word text ≡ false
other_byte [] some feed space = absurd (omega arith)
other_byte (b ∷ text) some feed space = (λ i. ne_eqb b 32 space i || ne_eqb b 10 feed i)

-- spaces at the beginning of a text are at the beginning of its first line
pub after_spaces_line : (count : ℕ) (rest line : List ℕ) (later : List (List ℕ)) → pieces_at 10 rest ≡ line ∷ later → pieces_at 10 (replicate count 32 ++ rest) ≡ (replicate count 32 ++ line) ∷ later
after_spaces_line zero rest line later at = at
after_spaces_line (suc count) rest line later at = ap (onto_first 32) (after_spaces_line count rest line later at)

pub spaces_words : (count : ℕ) (line : List ℕ) → line_words (replicate count 32 ++ line) ≡ line_words line
spaces_words zero line = refl
spaces_words (suc count) line = spaces_words count line

pub spaces_kept : (old new : List Event) (count : ℕ) (text rest : List ℕ) (later : List (List ℕ)) → text ≡ replicate count 32 ++ rest → KeepsLine line_words old rest new later → KeepsLine line_words old text new later
spaces_kept old new count text rest later is k = record {
  line = replicate count 32 ++ k.line;
  first = ap (pieces_at 10) is ∙ after_spaces_line count rest k.line later k.first;
  kept = subst (λ (ws : List (List ℕ)). KeepsWords old ws new) (sym (spaces_words count k.line)) k.kept;
}

spaces_bad : (count : ℕ) (text rest : List ℕ) → text ≡ replicate count 32 ++ rest → BeginsWithBadLine line_words rest → BeginsWithBadLine line_words text
spaces_bad count text rest is b = record {
  line = replicate count 32 ++ b.line;
  later = b.later;
  first = ap (pieces_at 10) is ∙ after_spaces_line count rest b.line b.later b.first;
  bad = subst HasBadWord (sym (spaces_words count b.line)) b.bad;
}

pub spaces_refused : (count : ℕ) (text rest : List ℕ) (number : ℕ) (why : FileRefused) → text ≡ replicate count 32 ++ rest → RefusesLine line_words rest number why → RefusesLine line_words text number why
spaces_refused count text rest number (Line n) is refused = (refused.0, spaces_bad count text rest is refused.1)
spaces_refused count text rest number NoMemory is refused = tt

-- a comment
pub comment_kept : (old : List Event) (text line : List ℕ) (later : List (List ℕ)) → is_comment text ≡ true → pieces_at 10 text ≡ line ∷ later → KeepsLine line_words old text old later
comment_kept old [] line later comment at = absurd (true≢false (sym comment))
comment_kept old (b ∷ text) line later comment at =
    let h = has_line text in
    let hash : b ≡ 35 = eqb-true b 35 comment in
    let is : line ≡ 35 ∷ h.line = sym (ap head_of at) ∙ ap (λ c. head_of (pieces_at 10 (c ∷ text))) hash ∙ ap (λ ls. head_of (onto_first 35 ls)) h.first in
    let none : line_words (35 ∷ h.line) ≡ [] = no_words (line_words (35 ∷ h.line)) (at_byte 35 h.line (λ e. absurd (omega (arith, e)))) in
    record { line = line; first = at; kept = subst (λ (ws : List (List ℕ)). KeepsWords old ws old) (sym (ap line_words is ∙ none)) (keeps_none old) }

-- a line that begins with another byte than a space or `#` is no comment
plain_line_by : (f : Bool) (b : ℕ) (text line : List ℕ) (later : List (List ℕ)) → eqb b 10 ≡ f → (b ≡ 32 → ⊥) → eqb b 35 ≡ false → pieces_at 10 (b ∷ text) ≡ line ∷ later → line_words line ≡ spaced_words line
plain_line_by true b text line later feed space other at =
    let none : line ≡ [] = sym (ap head_of (sym (ap (λ c. cond c ([] ∷ pieces_at 10 text) (onto_first b (pieces_at 10 text))) feed) ∙ at)) in
    ap line_words none ∙ ap spaced_words (sym none)
plain_line_by false b text line later feed space other at =
    let h = has_line text in
    let is : line ≡ b ∷ h.line = sym (ap head_of (sym (ap (λ c. cond c ([] ∷ pieces_at 10 text) (onto_first b (pieces_at 10 text))) feed ∙ ap (onto_first b) h.first) ∙ at)) in
    let some : has_words (line_words (b ∷ h.line)) ≡ true = at_byte b h.line space ∙ ap not other in
    ap line_words is ∙ no_comment (spaced_words (b ∷ h.line)) some ∙ ap spaced_words (sym is)

plain_line : (text line : List ℕ) (later : List (List ℕ)) → slice_get text 0 ≢ Some 32 → is_comment text ≡ false → pieces_at 10 text ≡ line ∷ later → line_words line ≡ spaced_words line
plain_line [] line later space other at = ap (λ l. line_words l) (sym (ap head_of at)) ∙ ap (λ l. spaced_words l) (ap head_of at)
plain_line (b ∷ text) line later space other at = plain_line_by (eqb b 10) b text line later refl (λ is. space (ap Some is)) other at

pub plain_kept : (old new : List Event) (text : List ℕ) (later : List (List ℕ)) → slice_get text 0 ≢ Some 32 → is_comment text ≡ false → KeepsLine spaced_words old text new later → KeepsLine line_words old text new later
plain_kept old new text later space other k =
    record { line = k.line; first = k.first; kept = subst (λ (ws : List (List ℕ)). KeepsWords old ws new) (sym (plain_line text k.line later space other k.first)) k.kept }

pub plain_refused : (text : List ℕ) (number : ℕ) (why : FileRefused) → slice_get text 0 ≢ Some 32 → is_comment text ≡ false → RefusesLine spaced_words text number why → RefusesLine line_words text number why
plain_refused text number (Line n) space other refused =
    let b = refused.1 in
    (refused.0, record { line = b.line; later = b.later; first = b.first; bad = subst HasBadWord (sym (plain_line text b.line b.later space other b.first)) b.bad })
plain_refused text number NoMemory space other refused = tt

no_feed_by : (b : Bool) (x : ℕ) (xs : List ℕ) → eqb x 10 ≡ b → (length xs ≤ position_or_len (λ byte. eqb byte 10) xs → pieces_at 10 xs ≡ xs ∷ []) → length (x ∷ xs) ≤ cond (not b) (1 + position_or_len (λ byte. eqb byte 10) xs) 0 →
    pieces_at 10 (x ∷ xs) ≡ (x ∷ xs) ∷ []
no_feed_by true x xs is more long = absurd (omega (arith, long))
no_feed_by false x xs is more long = ap (λ c. cond c ([] ∷ pieces_at 10 xs) (onto_first x (pieces_at 10 xs))) is ∙ ap (onto_first x) (more (omega (arith, long)))

no_feed : (text : List ℕ) → length text ≤ position_or_len (λ byte. eqb byte 10) text → pieces_at 10 text ≡ text ∷ []
no_feed [] long = refl
no_feed (x ∷ xs) long = no_feed_by (eqb x 10) x xs refl (no_feed xs) long

no_some : {A : Type 0} (b : Bool) (x : A) → cond b (Some x) None ≡ None → b ≡ false
no_some true x e = absurd (none-some x (sym e))
no_some false x e = refl

-- a text without a line feed
pub only_line : (text : List ℕ) → position (λ byte. eqb byte 10) text ≡ None → pieces_at 10 text ≡ text ∷ []
only_line text none =
    let past = no_some _ _ none in
    no_feed text (grind (arith, nat_tests))

-- the line before the first line feed, and the text after it
pub line_before : (text : List ℕ) (place : ℕ) → position (λ byte. eqb byte 10) text ≡ Some place → (line : List ℕ) × (pieces_at 10 text ≡ line ∷ pieces_at 10 (drop (place + 1) text))
line_before text place found =
    let is : position_or_len (λ byte. eqb byte 10) text ≡ place = (cond_some _ _ _ found).1 in
    let within : position_or_len (λ byte. eqb byte 10) text < length text = omega (arith, is, (position-Some (λ byte. eqb byte 10) text place 0 found).0) in
    (before_first (λ byte. eqb byte 10) text, slice_split_first (λ byte. eqb byte 10) text 0 within ∙ ap (λ k. before_first (λ byte. eqb byte 10) text ∷ pieces_at 10 (drop (k + 1) text)) is)
