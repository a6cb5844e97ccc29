-- The events of a file, line by line.
use Rattle.std.proofs.Common.{◌≡◌, ℕ, ◌+◌, ◌<◌, ◌^◌, List, [], ◌∷◌, ◌++◌, length, take, drop, get_or, refl, sym, ap, subst, ◌∙◌, arith}
use Rattle.std.specs.List.{flat_map}
use Rattle.std.proofs.lemmas.List.{append-nil, drop_more, flat_map_more, length-drop, take-append-drop, take_more}
use Rattle.trace_model.specs.declared.traces.event.Event.{Event}
use Rattle.event_files.specs.EventFile.{line_words, pieces_at, AreFirstEventsOf, KeepsLine, KeepsWords, RefusesLine, RefusesLines}
use Rattle.event_files.specs.declared.refused.FileRefused.{FileRefused}
use Rattle.event_files.specs.declared.refused.FileRefused.TheVariants.{Line, NoMemory}
use Rattle.event_files.proofs.FirstEvents.{first_bad, keeps_more}

-- the events of the lines before the rest are kept; the next line has this number
pub record ReadSoFar (file : List ℕ) (kept : List Event) (rest : List ℕ) (number : ℕ) : Type 0 where
  pub index : ℕ
  pub lines : drop index (pieces_at 10 file) ≡ pieces_at 10 rest
  pub events : KeepsWords [] (flat_map line_words (take index (pieces_at 10 file))) kept
  pub counts : index + 1 < 2 ^ 64 → number ≡ index + 1

-- the lines from an index on, and those before
record IsLineAt (lines : List (List ℕ)) (i : ℕ) (line : List ℕ) (later : List (List ℕ)) : Type 0 where
  within : i < length lines
  here : line ≡ get_or lines i line
  next : drop (i + 1) lines ≡ later
  front : take (i + 1) lines ≡ take i lines ++ line ∷ []

abbrev head_or : List ℕ → List (List ℕ) → List ℕ
head_or d [] = d
head_or d (line ∷ lines) = line

line_at : (lines : List (List ℕ)) (i : ℕ) (line : List ℕ) (later : List (List ℕ)) → drop i lines ≡ line ∷ later → IsLineAt lines i line later
line_at lines i line later at =
    let within : i < length lines = omega (arith, ap length at, length-drop i lines) in
    let both = sym at ∙ drop_more lines i line within in
    let here = ap (head_or line) both in
    record {
      within = within;
      here = here;
      next = sym (ap (drop 1) both);
      front = take_more lines i line within ∙ ap (λ l. take i lines ++ l ∷ []) (sym here);
    }

-- one more line
pub read_more : (file : List ℕ) (kept new : List Event) (rest : List ℕ) (later : List (List ℕ)) (number : ℕ) (s : ReadSoFar file kept rest number) → KeepsLine line_words kept rest new later →
    (index : ℕ) × (index ≡ s.index + 1) × (drop index (pieces_at 10 file) ≡ later) × KeepsWords [] (flat_map line_words (take index (pieces_at 10 file))) new
read_more file kept new rest later number s k =
    let lines = pieces_at 10 file in
    let l = line_at lines s.index k.line later (s.lines ∙ k.first) in
    let words : flat_map line_words (take s.index lines) ++ line_words k.line ≡ flat_map line_words (take (s.index + 1) lines) =
    flat_map_more line_words [] (take s.index lines) k.line ∙ ap (flat_map line_words) (sym l.front) in
    (s.index + 1, refl, l.next, subst (λ (ws : List (List ℕ)). KeepsWords [] ws new) words (keeps_more [] kept new (flat_map line_words (take s.index lines)) (line_words k.line) s.events k.kept))

-- the last line
pub read_all : (file : List ℕ) (kept new : List Event) (rest : List ℕ) (number : ℕ) → ReadSoFar file kept rest number → KeepsLine line_words kept rest new [] → AreFirstEventsOf new file
read_all file kept new rest number s k =
    let lines = pieces_at 10 file in
    let m = read_more file kept new rest [] number s k in
    let all : take m.0 lines ≡ lines = sym (append-nil (take m.0 lines)) ∙ (ap (λ (l : List (List ℕ)). take m.0 lines ++ l) (sym m.2) ∙ take-append-drop m.0 lines) in
    let events = m.3 [] refl in
    (events.0, events.1 ∙ ap (flat_map line_words) all, events.2)

-- a line that is not understood
pub read_refused : (file : List ℕ) (kept : List Event) (rest : List ℕ) (number : ℕ) (why : FileRefused) → length file < 2 ^ 64 → ReadSoFar file kept rest number → RefusesLine line_words rest number why → RefusesLines (pieces_at 10 file) why
read_refused file kept rest number (Line n) fits s refused =
    let b = refused.1 in
    let l = line_at (pieces_at 10 file) s.index b.line b.later (s.lines ∙ b.first) in
    first_bad file s.index n b.line kept l.within l.here s.events b.bad fits (λ room. refused.0 ∙ s.counts room)
read_refused file kept rest number NoMemory fits s refused = tt
