-- The lines of a witness file.
use Rattle.std.proofs.Common.{◌≡◌, ℕ, suc, ◌+◌, ◌-◌, ◌<◌, ◌^◌, Bool, true, false, List, [], ◌∷◌, ◌++◌, Option, Some, None, decimal, get_or, length, map, take, if◌then◌else◌, refl, sym, ap, subst, ◌∙◌, arith}
use Rattle.std.specs.Prelude.{slice_get, option_map, IfOk, MatchOption, Result, Ok, Err, is_some}
use Rattle.std.proofs.lemmas.Bool.{true≢false}
use Rattle.std.specs.List.{All, filter}
use Rattle.std.proofs.lemmas.List.{length-map, map-append, take_more}
use Rattle.std.proofs.lemmas.List.Elements.{All-get_or, filter-append}
use Rattle.std.proofs.lemmas.Option.{none-some, same_Some, slice_get-map, slice_get_within, get_or_from_slice_get}
use Rattle.event_files.specs.EventFile.{is_word, line_words}
use Rattle.event_files.specs.WitnessFile.{AreNumerals, IsKeyed, IsOrder, AreWitnessLines, AreFirstWitnessLines, IsFirstWrong, IsReadOf, IsWrongNext, WitnessReading, ReadsOn, has_words, words_of_lines, and_line, line_count}

is_numeral : (numbers : List ℕ) (i : ℕ) (word : List ℕ) (o : Option ℕ) → All (λ n. n < 2 ^ 32) numbers → slice_get numbers i ≡ o → option_map decimal o ≡ Some word →
    (n : ℕ) × (n < 2 ^ 32) × (word ≡ decimal n)
is_numeral numbers i word None small at is = absurd (none-some _ is)
is_numeral numbers i word (Some n) small at is =
    (n, subst (λ m. m < 2 ^ 32) (get_or_from_slice_get numbers i n 0 at) (All-get_or (λ m. m < 2 ^ 32) numbers i 0 (slice_get_within numbers i n at) small), sym (same_Some _ _ is))

-- each word of numbers is that of one of them
pub numeral_at : (numbers : List ℕ) (words : List (List ℕ)) (i : ℕ) (word : List ℕ) → AreNumerals numbers words → slice_get words i ≡ Some word →
    (n : ℕ) × (n < 2 ^ 32) × (word ≡ decimal n)
numeral_at numbers words i word are at =
    is_numeral numbers i word (slice_get numbers i) are.0 refl (sym (slice_get-map decimal numbers i) ∙ ap (λ l. slice_get l i) (sym are.1) ∙ at)

kept : (words : List (List ℕ)) → has_words words ≡ true → filter has_words (words ∷ []) ≡ words ∷ []
kept [] some = absurd (cc)
kept (word ∷ more) some = refl

-- a line with words is added
pub added : (lines : List (List (List ℕ))) (words : List (List ℕ)) → has_words words ≡ true → and_line lines words ≡ lines ++ words ∷ []
added lines words some = ap (λ l. lines ++ l) (kept words some)

pub no_order : (words : List (List ℕ)) (instance : List ℕ) → has_words words ≡ true → ((order : List ℕ) → IsOrder order words → ⊥) → IsWrongNext words (Some instance, None)
no_order words instance some never = λ lines read begins.
    let two : AreFirstWitnessLines (read.0 ∷ words ∷ []) = subst AreFirstWitnessLines (added lines words some ∙ ap (λ l. l ++ words ∷ []) read.1) begins in
    never two.1 two.3

witness_begins : (instance order : List ℕ) (lines : List (List (List ℕ))) → AreWitnessLines instance order lines → AreFirstWitnessLines lines
witness_begins instance order [] is = tt
witness_begins instance order (first ∷ []) is = absurd is
witness_begins instance order (first ∷ second ∷ []) is = (instance, order, is.0, is.1)
witness_begins instance order (first ∷ second ∷ third ∷ more) is = absurd is

-- the lines that were read begin a witness
pub begins : (lines : List (List (List ℕ))) (instance order : Option (List ℕ)) → IsReadOf lines (instance, order) → AreFirstWitnessLines lines
begins lines None None read = subst AreFirstWitnessLines (sym read) tt
begins lines None (Some order) read = absurd read
begins lines (Some instance) None read = subst AreFirstWitnessLines (sym read.1) (instance, read.2)
begins lines (Some instance) (Some order) read = witness_begins instance order lines read

-- the lines with words among the first ones, and the next one
pub one_more_worded : (lines : List (List ℕ)) (i : ℕ) → i < length lines → words_of_lines (take (i + 1) lines) ≡ and_line (words_of_lines (take i lines)) (line_words (get_or lines i []))
one_more_worded lines i within =
    let line = get_or lines i [] in
    ap words_of_lines (take_more lines i [] within)
    ∙ (ap (filter has_words) (map-append line_words (take i lines) (line ∷ []))
    ∙ filter-append has_words (map line_words (take i lines)) (line_words line ∷ []))

one_or_none : (b : Bool) → (if b then 1 else 0) + (if b then 0 else 1) ≡ 1
one_or_none true = refl
one_or_none false = refl

-- the number of lines and the last piece
pub counted : (pieces : List (List ℕ)) (last : List ℕ) → slice_get pieces (length pieces - 1) ≡ Some last → line_count pieces + (if is_word last then 0 else 1) ≡ length pieces
counted [] last at = absurd (none-some _ at)
counted (piece ∷ []) last at = subst (λ p. (if is_word piece then 1 else 0) + (if is_word p then 0 else 1) ≡ 1) (same_Some _ _ at) (one_or_none (is_word piece))
counted (piece ∷ next ∷ more) last at =
    let rest : length (piece ∷ next ∷ more) - 1 ≡ suc (length (next ∷ more) - 1) = omega arith in
    let there : slice_get (next ∷ more) (length (next ∷ more) - 1) ≡ Some last = ap (slice_get (piece ∷ next ∷ more)) (sym rest) ∙ at in
    omega (arith, counted (next ∷ more) last there)

last_is : {X : Type 0} (shown : X → List ℕ) (pieces : List X) (last : X) → slice_get pieces (length pieces - 1) ≡ Some last →
    line_count (map shown pieces) + (if is_word (shown last) then 0 else 1) ≡ length pieces
last_is shown pieces last at =
    let there : slice_get (map shown pieces) (length (map shown pieces) - 1) ≡ Some (shown last) =
    ap (λ n. slice_get (map shown pieces) (n - 1)) (length-map pieces shown) ∙ (slice_get-map shown pieces (length pieces - 1) ∙ ap (option_map shown) at) in
    counted (map shown pieces) (shown last) there ∙ length-map pieces shown

empty_word : (word : List ℕ) → length word ≡ 0 → is_word word ≡ false
empty_word [] empty = refl
empty_word (byte ∷ more) empty = absurd (omega arith)

full_word : (word : List ℕ) → (length word ≡ 0 → ⊥) → is_word word ≡ true
full_word [] full = absurd (full refl)
full_word (byte ∷ more) full = refl

-- an empty last piece is no line
pub empty_last : {X : Type 0} (shown : X → List ℕ) (pieces : List X) (last : X) → slice_get pieces (length pieces - 1) ≡ Some last → length (shown last) ≡ 0 →
    length pieces ≡ line_count (map shown pieces) + 1
empty_last shown pieces last at empty = sym (ap (λ b. line_count (map shown pieces) + (if b then 0 else 1)) (sym (empty_word (shown last) empty)) ∙ last_is shown pieces last at)

-- any other one is
pub full_last : {X : Type 0} (shown : X → List ℕ) (pieces : List X) (last : X) → slice_get pieces (length pieces - 1) ≡ Some last → (length (shown last) ≡ 0 → ⊥) →
    length pieces ≡ line_count (map shown pieces)
full_last shown pieces last at full =
    let e = ap (λ b. line_count (map shown pieces) + (if b then 0 else 1)) (sym (full_word (shown last) full)) ∙ last_is shown pieces last at in
    omega (arith, e)

-- a line with no order in its place
pub no_order_next : (words : List (List ℕ)) (instance order : Option (List ℕ)) → has_words words ≡ true → (instance ≡ None → ⊥) → order ≡ None → ((o : List ℕ) → IsOrder o words → ⊥) →
    IsWrongNext words (instance, order)
no_order_next words None order some is none never = absurd (is refl)
no_order_next words (Some instance) None some is none never = no_order words instance some never
no_order_next words (Some instance) (Some order) some is none never = absurd (none-some _ (sym none))

-- the next line is read too
pub reads_next : (lines : List (List ℕ)) (i : ℕ) (words : List (List ℕ)) (old new : WitnessReading) → i < length lines → words ≡ line_words (get_or lines i []) →
    IsReadOf (words_of_lines (take i lines)) old → ReadsOn words old new → IsReadOf (words_of_lines (take (i + 1) lines)) new
reads_next lines i words old new within are read on =
    subst (λ l. IsReadOf l new) (sym (one_more_worded lines i within ∙ ap (and_line (words_of_lines (take i lines))) (sym are))) (on (words_of_lines (take i lines)) read)

-- the next line is the first wrong one
pub is_wrong : (lines : List (List ℕ)) (i number : ℕ) (words : List (List ℕ)) (instance order : Option (List ℕ)) → i < length lines → number ≡ i + 1 → words ≡ line_words (get_or lines i []) →
    IsReadOf (words_of_lines (take i lines)) (instance, order) → IsWrongNext words (instance, order) → IsFirstWrong lines number
is_wrong lines i number words instance order within counts are read wrong = record {
  index = i;
  within = within;
  counts = counts;
  before = begins (words_of_lines (take i lines)) instance order read;
  wrong = λ more. wrong (words_of_lines (take i lines)) read (subst AreFirstWitnessLines (one_more_worded lines i within ∙ ap (and_line (words_of_lines (take i lines))) (sym are)) more);
}

-- the numbers after a keyword
pub after_keyword : {X E : Type 0} (items : X → List ℕ) (keyword first : List ℕ) (rest words : List (List ℕ)) (r : Result (Option X) E) → words ≡ first ∷ rest → first ≡ keyword →
    IfOk r (λ outcome. MatchOption outcome ((numbers : List ℕ) → AreNumerals numbers rest → ⊥) (λ x. AreNumerals (items x) rest)) →
    IfOk r (λ outcome. MatchOption outcome ((numbers : List ℕ) → IsKeyed keyword numbers words → ⊥) (λ x. IsKeyed keyword (items x) words))
after_keyword items keyword first rest words (Err e) are is h = tt
after_keyword items keyword first rest words (Ok None) are is h = λ numbers keyed. h numbers (subst (IsKeyed keyword numbers) are keyed).1
after_keyword items keyword first rest words (Ok (Some x)) are is h = subst (IsKeyed keyword (items x)) (sym are) (is, h)

pub have_words : {X : Type 0} (f : X → List ℕ) (xs : List X) → (length xs ≡ 0 → ⊥) → has_words (map f xs) ≡ true
have_words f [] some = absurd (some refl)
have_words f (x ∷ xs) some = refl

pub is_none : {X : Type 0} (o : Option X) → is_some o ≡ false → o ≡ None
is_none None h = refl
is_none (Some x) h = absurd (true≢false h)

pub is_there : {X : Type 0} (o : Option X) → is_some o ≡ true → o ≡ None → ⊥
is_there None h e = true≢false (sym h)
is_there (Some x) h e = none-some x (sym e)
