-- The first events of a file, word by word.
use Rattle.std.proofs.Common.{◌≡◌, ℕ, ◌+◌, ◌<◌, ◌≤◌, ◌^◌, eqb, List, [], ◌∷◌, ◌++◌, length, get_or, take, refl, sym, ap, ◌∙◌, append_assoc, arith}
use Rattle.std.specs.List.{flat_map}
use Rattle.std.proofs.lemmas.List.{append-nil, length-take, length_push, map-append, take-append-le, take_all}
use Rattle.std.proofs.lemmas.Option.{slice_get_read}
use Rattle.trace_model.specs.declared.limits.TheConstants.{MAX_EVENTS}
use Rattle.trace_model.specs.declared.traces.event.Event.{Event}
use Rattle.event_files.specs.EventFile.{event_word, first_events, line_words, pieces_at, HasBadWord, IsFirstBad, KeepsWords}
use Rattle.event_files.proofs.Lines.{bad_line_some, parts_before}

-- one more event, which is one of the first n or not
pushed_first : (n : ℕ) (old before : List Event) (e : Event) → old ≡ take n before → length old < n → old ++ e ∷ [] ≡ take n (before ++ e ∷ [])
pushed_first n old before e is room =
    let short : length before < n = omega (arith, ap length is, length-take n before) in
    ap (λ l. l ++ e ∷ []) (is ∙ take_all n before (omega arith)) ∙ sym (take_all n (before ++ e ∷ []) (omega (arith, length_push before e)))

left_out : (n : ℕ) (old before : List Event) (e : Event) → old ≡ take n before → n ≤ length old → old ≡ take n (before ++ e ∷ [])
left_out n old before e is full = is ∙ sym (take-append-le n before (e ∷ []) (omega (arith, ap length is, length-take n before)))

-- the event of one more word
pub keeps_pushed : (old : List Event) (e : Event) (word : List ℕ) → word ≡ event_word e → length old < MAX_EVENTS + 1 → KeepsWords old (word ∷ []) (old ++ e ∷ [])
keeps_pushed old e word is room = λ before are. (e ∷ [], ap (λ w. w ∷ []) (sym is), pushed_first (MAX_EVENTS + 1) old before e are room)

pub keeps_full : (old : List Event) (e : Event) (word : List ℕ) → word ≡ event_word e → MAX_EVENTS + 1 ≤ length old → KeepsWords old (word ∷ []) old
keeps_full old e word is full = λ before are. (e ∷ [], ap (λ w. w ∷ []) (sym is), left_out (MAX_EVENTS + 1) old before e are full)

-- no words, and more words
pub keeps_none : (old : List Event) → KeepsWords old [] old
keeps_none old = λ before are. ([], refl, are ∙ ap first_events (sym (append-nil before)))

pub keeps_more : (old new last : List Event) (words more : List (List ℕ)) → KeepsWords old words new → KeepsWords new more last → KeepsWords old (words ++ more) last
keeps_more old new last words more first second = λ before are.
    let a = first before are in
    let b = second (before ++ a.0) a.2 in (
      a.0 ++ b.0,
      map-append event_word a.0 b.0 ∙ (λ i. a.1 i ++ b.1 i),
      b.2 ∙ ap first_events (append_assoc before a.0 b.0),
    )

-- the first line that is not understood: its number fits, since the line has a byte
pub first_bad : (file : List ℕ) (i number : ℕ) (line : List ℕ) (kept : List Event) → i < length (pieces_at 10 file) → line ≡ get_or (pieces_at 10 file) i line →
    KeepsWords [] (flat_map line_words (take i (pieces_at 10 file))) kept → HasBadWord (line_words line) → length file < 2 ^ 64 → (i + 1 < 2 ^ 64 → number ≡ i + 1) → IsFirstBad (pieces_at 10 file) number
first_bad file i number line kept within here keeps bad fits counted =
    let pieces = pieces_at 10 file in
    let at = slice_get_read pieces (length pieces) i line refl within here in
    let before = keeps [] refl in
    let place : i < length file = parts_before (λ b. eqb b 10) file i line at (bad_line_some line bad) in
    record { index = i; counts = counted (omega (arith, place, fits)); events = before.0; before = before.1; line = line; at = at; bad = bad }
