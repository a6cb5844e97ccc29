-- The text format of events.
use Rattle.std.specs.Prelude.{◌≡◌, ◌+◌, ℕ, Bool, true, false, not, ◌==◌, List, [], ◌∷◌, ◌++◌, ◌||◌, Some, decimal, if◌then◌else◌, map, slice_get, take}
use Rattle.std.specs.Char.{is_ascii_digit}
use Rattle.std.specs.List.{filter, flat_map, slice_split}
use Rattle.trace_model.specs.declared.limits.TheConstants.{MAX_EVENTS}
use Rattle.trace_model.specs.declared.traces.event.Event.{Event}
use Rattle.trace_model.specs.declared.traces.event.Op.{Op}
use Rattle.trace_model.specs.declared.traces.event.Op.TheVariants.{Fork, Join, Acquire, Release, Read, Write}
use Rattle.trace_model.specs.Protocol.Frames.{FitsWords, IsRequest, object_of}
use Rattle.trace_model.specs.declared.messages.session.Request.TheVariants.{Offer}
use Rattle.event_files.specs.declared.refused.FileRefused.{FileRefused}
use Rattle.event_files.specs.declared.refused.FileRefused.TheVariants.{Line, NoMemory}

-- The letter of an operation: f, j, a, r, d or w.
abbrev pub letter_of : Op → ℕ
letter_of (Fork child) = 102
letter_of (Join child) = 106
letter_of (Acquire lock) = 97
letter_of (Release lock) = 114
letter_of (Read variable) = 100
letter_of (Write variable) = 119

-- The word of an event: its thread, the letter of its operation, and its object.
abbrev pub event_word : Event → List ℕ
event_word e = decimal e.thread ++ letter_of e.op ∷ decimal (object_of e.op)

-- The byte is not a decimal digit.
abbrev pub is_no_digit : ℕ → Bool
is_no_digit byte = not (is_ascii_digit byte)

-- The pieces of the bytes between those equal to the mark.
abbrev pub pieces_at : ℕ → List ℕ → List (List ℕ)
pieces_at mark bytes = slice_split (λ byte. byte == mark) bytes

-- The piece is not empty.
abbrev pub is_word : List ℕ → Bool
is_word [] = false
is_word (byte ∷ more) = true

-- The word begins with `#`, so its line is a comment.
abbrev pub is_comment : List ℕ → Bool
is_comment [] = false
is_comment (byte ∷ more) = byte == 35

-- The words of a line, or none if the line is a comment.
abbrev pub unless_comment : List (List ℕ) → List (List ℕ)
unless_comment [] = []
unless_comment (word ∷ more) = if is_comment word then [] else word ∷ more

-- The pieces of a line between its spaces, without empty pieces.
abbrev pub spaced_words : List ℕ → List (List ℕ)
spaced_words line = filter is_word (pieces_at 32 line)

-- The words of a line, which spaces separate.
abbrev pub line_words : List ℕ → List (List ℕ)
line_words line = unless_comment (spaced_words line)

-- The words of a file, whose lines line feeds separate.
abbrev pub file_words : List ℕ → List (List ℕ)
file_words file = flat_map line_words (pieces_at 10 file)

-- The words of the lines are exactly those of the events.
abbrev pub AreEventsIn : List Event → List (List ℕ) → Type 0
AreEventsIn events lines = map event_word events ≡ flat_map line_words lines

-- The words of the file are exactly those of the events.
abbrev pub AreWordsOfEvents : List Event → List ℕ → Type 0
AreWordsOfEvents events file = map event_word events ≡ file_words file

-- The first of the events: those of the longest trace, and the one after them, which is refused.
abbrev pub first_events : List Event → List Event
first_events events = take (MAX_EVENTS + 1) events

-- These are the first of the events whose words are exactly those of the file.
abbrev pub AreFirstEventsOf : List Event → List ℕ → Type 0
AreFirstEventsOf kept file =
    (events : List Event) × AreWordsOfEvents events file × (kept ≡ first_events events)

-- If the old events are the first of some, then the new ones are the first of these with those of
-- the words after them.
abbrev pub KeepsWords : List Event → List (List ℕ) → List Event → Type 0
KeepsWords old words new = (before : List Event) → old ≡ first_events before →
    (events : List Event) × (map event_word events ≡ words)
    × (new ≡ first_events (before ++ events))

-- The word denotes an event whose numbers fit in 32 bits.
abbrev pub IsEventWord : List ℕ → Type 0
IsEventWord word = (e : Event) × IsRequest (Offer e) × (word ≡ event_word e)

-- One of the words denotes no event.
abbrev pub HasBadWord : List (List ℕ) → Type 0
HasBadWord words =
    (i : ℕ) × (word : List ℕ) × (slice_get words i ≡ Some word) × (IsEventWord word → ⊥)

-- A word can end before the text: at the end of the file or of a line, or before a space.
abbrev pub ends_word : List ℕ → Bool
ends_word [] = true
ends_word (byte ∷ more) = byte == 32 || byte == 10

-- The text begins with the word of an event, and the rest follows it: the new events are the old
-- ones with this one.
pub record KeepsFirstWord (old : List Event) (text : List ℕ) (new : List Event)
    (rest : List ℕ) : Type 0 where
  pub event : Event
  pub first : text ≡ event_word event ++ rest
  pub fits : FitsWords event
  pub ends : ends_word rest ≡ true
  pub kept : KeepsWords old (event_word event ∷ []) new

-- The first word of the text denotes no event.
abbrev pub BeginsWithNoEvent : List ℕ → Type 0
BeginsWithNoEvent text = (e : Event) (rest : List ℕ) → IsRequest (Offer e) → ends_word rest ≡ true →
    text ≡ event_word e ++ rest → ⊥

-- The refusal of the first word of the text, in the line with this number, is right.
abbrev pub RefusesFirstWord : List ℕ → ℕ → FileRefused → Type 0
RefusesFirstWord text number (Line refused) = (refused ≡ number) × BeginsWithNoEvent text
RefusesFirstWord text number NoMemory = Unit {0}

-- The first line of the text has these words, and the others follow it: the new events are the old
-- ones with those of the words.
pub record KeepsLine (words : List ℕ → List (List ℕ)) (old : List Event) (text : List ℕ)
    (new : List Event) (later : List (List ℕ)) : Type 0 where
  pub line : List ℕ
  pub first : pieces_at 10 text ≡ line ∷ later
  pub kept : KeepsWords old (words line) new

-- One of these words of the first line of the text denotes no event.
pub record BeginsWithBadLine (words : List ℕ → List (List ℕ)) (text : List ℕ) : Type 0 where
  pub line : List ℕ
  pub later : List (List ℕ)
  pub first : pieces_at 10 text ≡ line ∷ later
  pub bad : HasBadWord (words line)

-- The refusal of the first line of the text, which has this number, is right.
abbrev pub RefusesLine : (List ℕ → List (List ℕ)) → List ℕ → ℕ → FileRefused → Type 0
RefusesLine words text number (Line refused) =
    (refused ≡ number) × BeginsWithBadLine words text
RefusesLine words text number NoMemory = Unit {0}

-- The line with this number, counted from 1, is the first that is not understood.
pub record IsFirstBad (lines : List (List ℕ)) (number : ℕ) : Type 0 where
  pub index : ℕ
  pub counts : number ≡ index + 1
  pub events : List Event
  pub before : AreEventsIn events (take index lines)
  pub line : List ℕ
  pub at : slice_get lines index ≡ Some line
  pub bad : HasBadWord (line_words line)

-- The refusal of the lines is right: a line number is that of the first line that is not
-- understood.
abbrev pub RefusesLines : List (List ℕ) → FileRefused → Type 0
RefusesLines lines (Line number) = IsFirstBad lines number
RefusesLines lines NoMemory = Unit {0}
