-- Lines that say no commands.
use Rattle.std.proofs.Common.{◌≡◌, ◌≢◌, ℕ, ◌<◌, ◌≤◌, ◌^◌, zero, suc, List, [], ◌∷◌, ◌⊎◌, length, map, Bor, get_or, drop, slice_get, Some, None, Ok, Err, Result, MatchResult, decimal, codes, box_value, inl, inr, refl, sym, ap, subst, ◌∙◌, arith}
use Rattle.std.specs.List.{All, IsFirstAndRest, flat_map}
use Rattle.std.specs.Result.{OkIff, result_ok}
use Rattle.std.specs.Str.{IsUtf8}
use Rattle.std.proofs.lemmas.List.{append-nil, length-map, get_or_append_left}
use Rattle.std.proofs.lemmas.List.Elements.{All-cons, All-nil, All-head, All-tail}
use Rattle.std.proofs.lemmas.Fmt.{decimal_injective, decimal_is_IsNumeral, decimal_nonempty}
use Rattle.std.proofs.lemmas.Option.{none-some, same_Some}
use Rattle.std.proofs.lemmas.Str.Parse.{digit_at}
use Rattle.trace_model.specs.declared.traces.event.Event.{Event}
use Rattle.trace_model.specs.Protocol.Batches.{IsBatch}
use Rattle.trace_model.specs.Protocol.Frames.{FitsWords, object_of}
use Rattle.event_files.specs.EventFile.{HasBadWord, event_word, letter_of}
use Rattle.commands.specs.ScriptFile.{FitsCommand, HoldsEvents, IsNotUnderstood, IsOffer, Says, SaysLine, SaysOnlyEvents, command_words}
use Rattle.commands.specs.declared.script_command.reading.Command.{Command}
use Rattle.commands.specs.declared.script_command.reading.Command.TheVariants.{Offer, Batch, Ask, Work, Deliver, Answer, Status}

-- equal lists have equal first elements, and equal rests
head_same : {X : Type 0} (x y : X) (xs ys : List X) → x ∷ xs ≡ y ∷ ys → x ≡ y
head_same x y xs ys same = ap (λ l. get_or l 0 x) same

tail_same : {X : Type 0} (x y : X) (xs ys : List X) → x ∷ xs ≡ y ∷ ys → xs ≡ ys
tail_same x y xs ys same = ap (λ l. drop 1 l) same

-- two lists of words are not equal if one begins with `ask` and the second byte of the other is no `s`
not_ask : (word : List ℕ) → (get_or word 1 0 ≡ 115 → ⊥) → (keyword : List ℕ) (rest more : List (List ℕ)) → keyword ≡ codes "ask" → word ∷ rest ≡ keyword ∷ more → ⊥
not_ask word other keyword rest more ask same = other (ap (λ w. get_or w 1 0) (head_same _ _ _ _ same ∙ ask))

-- an event word begins with a digit
event_word_digit : (e : Event) → FitsWords e → get_or (event_word e) 0 0 ≤ 57
event_word_digit e fits =
    let some = decimal_nonempty e.thread (omega (arith, fits.0)) in
    let digit = digit_at (decimal e.thread) 0 (decimal_is_IsNumeral e.thread (omega (arith, fits.0))).0.1 some in
    omega (arith, digit, get_or_append_left (decimal e.thread) (letter_of e.op ∷ decimal (object_of e.op)) 0 0 some)

-- an event word is not the keyword of a batch
no_batch_word : (e : Event) → FitsWords e → event_word e ≢ codes "batch"
no_batch_word e fits is = omega (arith, event_word_digit e fits, ap (λ w. get_or w 0 0) is)

-- ---- a keyword and its numbers

-- each keyword is UTF-8
pub no_keyword : (keyword : List ℕ) (more : List (List ℕ)) → (IsUtf8 keyword → ⊥) → SaysOnlyEvents (keyword ∷ more)
unfolding lib.Utf8.encode
no_keyword keyword more none (Offer event) says = tt
no_keyword keyword more none (Batch events) says = tt
no_keyword keyword more none (Ask bound) says = none (subst IsUtf8 (head_same _ _ _ _ says.1) (codes "ask", (refl, refl)))
no_keyword keyword more none (Work question) says = none (subst IsUtf8 (head_same _ _ _ _ says.1) (codes "work", (refl, refl)))
no_keyword keyword more none (Deliver question task) says = none (subst IsUtf8 (head_same _ _ _ _ says.1) (codes "deliver", (refl, refl)))
no_keyword keyword more none (Answer question) says = none (subst IsUtf8 (head_same _ _ _ _ says.1) (codes "answer", (refl, refl)))
no_keyword keyword more none (Status question) says = none (subst IsUtf8 (head_same _ _ _ _ says.1) (codes "status", (refl, refl)))

-- what a clause says of the error of a result without a value
pub error_of : {A E : Type 0} (outcome : Result A E) (P : A → Type 0) (Q : E → Type 0) → MatchResult outcome P Q → result_ok outcome ≡ None → (e : E) × Q e
error_of (Ok x) P Q cases none = absurd (none-some x (sym none))
error_of (Err e) P Q cases none = (e, cases)

-- what a clause says of the value of a result
pub value_of : {A E : Type 0} (outcome : Result A E) (x : A) (P : A → Type 0) (Q : E → Type 0) → MatchResult outcome P Q → result_ok outcome ≡ Some x → P x
value_of (Ok y) x P Q cases some = subst P (same_Some y x some) cases
value_of (Err e) x P Q cases some = absurd (none-some x some)

-- a number that does not fit in a byte
pub large_of : {E : Type 0} (outcome : Result ℕ E) (number : ℕ) → OkIff outcome (number < 256) number → result_ok outcome ≡ None → 2 ^ 8 ≤ number
large_of (Ok x) number iff none = absurd (none-some x (sym none))
large_of (Err e) number iff none = omega (arith, iff)

-- no bound has such a number
pub large_bound : (keyword : List ℕ) (number : ℕ) → number < 2 ^ 32 → 2 ^ 8 ≤ number → keyword ≡ codes "ask" → SaysOnlyEvents (keyword ∷ decimal number ∷ [])
large_bound keyword number small large ask (Offer event) says = tt
large_bound keyword number small large ask (Batch events) says = tt
large_bound keyword number small large ask (Ask bound) says =
    let same = decimal_injective bound number (omega (arith, says.0)) (omega arith) (head_same _ _ _ _ (tail_same _ _ _ _ says.1)) in
    omega (arith, says.0, large, same)
large_bound keyword number small large ask (Work question) says = not_ask (codes "work") (omega arith) keyword _ _ ask says.1
large_bound keyword number small large ask (Deliver question task) says = not_ask (codes "deliver") (omega arith) keyword _ _ ask says.1
large_bound keyword number small large ask (Answer question) says = not_ask (codes "answer") (omega arith) keyword _ _ ask says.1
large_bound keyword number small large ask (Status question) says = not_ask (codes "status") (omega arith) keyword _ _ ask says.1

-- ---- lines

-- the words are those of events
record AreEventWords (words : List (List ℕ)) : Type 0 where
  events : List Event
  fit : All FitsWords events
  are : map event_word events ≡ words

offers_of : (commands : List Command) → All IsOffer commands → All FitsCommand commands → AreEventWords (flat_map command_words commands)
offers_of [] only fit = record { events = []; fit = All-nil FitsWords; are = refl }
offers_of (command ∷ commands) only fit =
    let rest = offers_of commands (All-tail IsOffer command commands only) (All-tail FitsCommand command commands fit) in
    first command (All-head IsOffer command commands only) (All-head FitsCommand command commands fit) rest
  where
    first : (c : Command) → IsOffer c → FitsCommand c → AreEventWords (flat_map command_words commands) → AreEventWords (flat_map command_words (c ∷ commands))
    first (Offer event) is fits rest = record {
      events = event ∷ rest.events;
      fit = All-cons FitsWords event rest.events fits rest.fit;
      are = ap (λ words. event_word event ∷ words) rest.are;
    }
    first _ is fits rest = absurd is

-- a line says one command, or its words are event words
line_cases : (words : List (List ℕ)) (commands : List Command) → SaysLine words commands → ((command : Command) × Says words command) ⊎ AreEventWords words
line_cases words commands says = elim says.alone [
  | inl one ↦ inl (alone commands one says.fit says.said)
  | inr only ↦ inr (subst AreEventWords says.said (offers_of commands only says.fit))
]
  where
    alone : (cs : List Command) → length cs ≡ 1 → All FitsCommand cs → flat_map command_words cs ≡ words → (command : Command) × Says words command
    alone [] one fit said = absurd (omega (arith, one))
    alone (c ∷ []) one fit said = (c, (All-head FitsCommand c [] fit, sym (append-nil (command_words c)) ∙ said))
    alone (c ∷ d ∷ cs) one fit said = absurd (omega (arith, one))

-- each of the words of events is an event word
event_word_at : (events : List Event) → All FitsWords events → (i : ℕ) (word : List ℕ) → slice_get (map event_word events) i ≡ Some word → (e : Event) × FitsWords e × (word ≡ event_word e)
event_word_at [] fit i word at = absurd (none-some word at)
event_word_at (e ∷ events) fit zero word at = (e, All-head FitsWords e events fit, sym (same_Some (event_word e) word at))
event_word_at (e ∷ events) fit (suc i) word at = event_word_at events (All-tail FitsWords e events fit) i word at

none_is_bad : (words : List (List ℕ)) → HasBadWord words → AreEventWords words → ⊥
none_is_bad words bad offers =
    bad.3 (event_word_at offers.events offers.fit bad.0 bad.1 (ap (λ l. slice_get l bad.0) offers.are ∙ bad.2))

-- the words of events do not begin with `batch`
no_batch_offers : (words : List (List ℕ)) → AreEventWords (codes "batch" ∷ words) → ⊥
no_batch_offers words offers = first offers.events offers.fit offers.are
  where
    first : (events : List Event) → All FitsWords events → map event_word events ≡ codes "batch" ∷ words → ⊥
    first [] fit are = let long : 0 ≡ suc (length words) = ap length are in omega (arith, long)
    first (e ∷ events) fit are = no_batch_word e (All-head FitsWords e events fit) (head_same _ _ _ _ are)

-- words whose first one is not `batch` do not begin with it
pub other_first : (words : List (Bor (List ℕ))) (first : Bor (List ℕ)) (rest : List (Bor (List ℕ))) → IsFirstAndRest words first rest →
    (first.now ≡ codes "batch" → ⊥) → (more : List (List ℕ)) → map (λ word. word.now) words ≡ codes "batch" ∷ more → ⊥
other_first words first rest is other more batch =
    let shown : Bor (List ℕ) → List ℕ = λ word. word.now in
    other (head_same first.now (codes "batch") (map shown rest) more (ap (map shown) (sym is.0) ∙ batch))

-- no words do not begin with `batch`
pub no_words : (words : List (Bor (List ℕ))) → length words ≡ 0 → (more : List (List ℕ)) → map (λ word. word.now) words ≡ codes "batch" ∷ more → ⊥
no_words [] none more batch = let long : 0 ≡ suc (length more) = ap length batch in omega (arith, long)
no_words (word ∷ words) none more batch = omega (arith, none)

-- a `batch` line whose words are not those of a batch
pub no_batch : (words : List (List ℕ)) → ((events : List Event) → IsBatch events → All FitsWords events → map event_word events ≡ words → ⊥) →
    IsNotUnderstood (codes "batch" ∷ words)
no_batch words none commands says = elim (line_cases (codes "batch" ∷ words) commands says) [
  | inl one ↦ alone one.0 one.1
  | inr offers ↦ no_batch_offers words offers
]
  where
    keyword : (c : List ℕ) → get_or c 0 0 ≢ 98 → (more : List (List ℕ)) → c ∷ more ≡ codes "batch" ∷ words → ⊥
    keyword c other more same = other (ap (λ w. get_or w 0 0) (head_same _ _ _ _ same))

    alone : (c : Command) → Says (codes "batch" ∷ words) c → ⊥
    alone (Offer event) one = no_batch_word event one.0 (head_same _ _ _ _ one.1)
    alone (Batch events) one = none (box_value events) one.0.0 one.0.1 (tail_same _ _ _ _ one.1)
    alone (Ask bound) one = keyword (codes "ask") (omega arith) _ one.1
    alone (Work question) one = keyword (codes "work") (omega arith) _ one.1
    alone (Deliver question task) one = keyword (codes "deliver") (omega arith) _ one.1
    alone (Answer question) one = keyword (codes "answer") (omega arith) _ one.1
    alone (Status question) one = keyword (codes "status") (omega arith) _ one.1

-- a `batch` line with a word that denotes no event
pub bad_batch : (words : List (List ℕ)) → HasBadWord words → IsNotUnderstood (codes "batch" ∷ words)
bad_batch words bad = no_batch words (λ events batch fit are. none_is_bad words bad (record { events = events; fit = fit; are = are }))

-- a `batch` line with no events or too many
pub long_batch : (words : List (List ℕ)) → ((1 ≤ length words) × (length words ≤ 64) → ⊥) → IsNotUnderstood (codes "batch" ∷ words)
long_batch words outside = no_batch words (λ events batch fit are.
    let long : length events ≡ length words = sym (length-map events event_word) ∙ ap length are in
    outside (omega (arith, batch.0, long), omega (arith, batch.1, long)))

-- a line that does not begin with `batch`, says no command without events, and has a word that denotes no event
pub no_line : (words : List (List ℕ)) → ((more : List (List ℕ)) → words ≡ codes "batch" ∷ more → ⊥) → SaysOnlyEvents words → HasBadWord words → IsNotUnderstood words
no_line words other only bad commands says = elim (line_cases words commands says) [
  | inl one ↦ alone one.0 one.1 (only one.0 one.1)
  | inr offers ↦ none_is_bad words bad offers
]
  where
    alone : (c : Command) → Says words c → HoldsEvents c → ⊥
    alone (Offer event) one holds = none_is_bad words bad (record { events = event ∷ []; fit = All-cons FitsWords event [] one.0 (All-nil FitsWords); are = one.1 })
    alone (Batch events) one holds = other (map event_word (box_value events)) (sym one.1)
    alone _ one holds = holds
