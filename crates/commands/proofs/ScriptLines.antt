-- The commands that lines say.
use Rattle.std.proofs.Common.{◌≡◌, ℕ, ◌+◌, ◌<◌, List, [], ◌∷◌, ◌++◌, length, map, take, get_or, inr, refl, sym, ap, subst, ◌∙◌, append_assoc}
use Rattle.std.specs.List.{All, flat_map}
use Rattle.std.proofs.lemmas.List.{append-nil, map-append, take_more}
use Rattle.std.proofs.lemmas.List.Concat.{flat_map-cons}
use Rattle.std.proofs.lemmas.List.Elements.{All-map, All-nil, All-push}
use Rattle.trace_model.specs.declared.traces.event.Event.{Event}
use Rattle.trace_model.specs.Protocol.Frames.{FitsWords}
use Rattle.event_files.specs.EventFile.{event_word, line_words}
use Rattle.commands.specs.ScriptFile.{AddsLine, FitsCommand, IsOffer, SaysLine, SaysLines, command_words}
use Rattle.commands.specs.declared.script_command.reading.Command.{Command}
use Rattle.commands.specs.declared.script_command.reading.Command.TheVariants.{Offer}

offered_words : (events : List Event) → flat_map command_words (map Offer events) ≡ map event_word events
offered_words [] = refl
offered_words (e ∷ events) = flat_map-cons command_words (Offer e) (map Offer events) ∙ ap (λ words. event_word e ∷ words) (offered_words events)

-- a line of events
pub says_offers : (words : List (List ℕ)) (events : List Event) → map event_word events ≡ words → All FitsWords events → SaysLine words (map Offer events)
says_offers words events are fit = record {
  said = offered_words events ∙ are;
  fit = All-map FitsCommand Offer events fit;
  alone = inr (All-map IsOffer Offer events (λ k d lt. tt));
}

-- offers of the events that the words denote are appended
abbrev pub AddsOffers : List Command → List (List ℕ) → List Command → Type 0
AddsOffers old words new = (events : List Event) × (map event_word events ≡ words) × All FitsWords events × (new ≡ old ++ map Offer events)

pub adds_nothing : (old : List Command) → AddsOffers old [] old
adds_nothing old = ([], refl, All-nil FitsWords, sym (append-nil old))

-- one offer more
pub adds_offer : (old between new : List Command) (words : List (List ℕ)) (event : Event) → AddsOffers old words between → FitsWords event → new ≡ between ++ Offer event ∷ [] → AddsOffers old (words ++ event_word event ∷ []) new
adds_offer old between new words event (events, are, fit, is) fits pushed = (
  events ++ event ∷ [],
  map-append event_word events (event ∷ []) ∙ ap (λ said. said ++ event_word event ∷ []) are,
  All-push FitsWords events event fit fits,
  pushed ∙ ap (λ commands. commands ++ Offer event ∷ []) is ∙ append_assoc old (map Offer events) (Offer event ∷ []) ∙ ap (λ more. old ++ more) (sym (map-append Offer events (event ∷ []))),
)

pub adds_line : (old new : List Command) (words : List (List ℕ)) → AddsOffers old words new → AddsLine old words new
adds_line old new words (events, are, fit, is) = (map Offer events, says_offers words events are fit, is)

lines_more : (lines : List (List ℕ)) (line : List ℕ) (commands more : List Command) → SaysLines lines commands → SaysLine (line_words line) more → SaysLines (lines ++ line ∷ []) (commands ++ more)
lines_more [] line commands more said says = (more, [], says, refl, ap (λ c. c ++ more) said ∙ sym (append-nil more))
lines_more (first ∷ lines) line commands more (own, rest, here, said, is) says =
    (own, rest ++ more, here, lines_more lines line rest more said says, ap (λ c. c ++ more) is ∙ append_assoc own rest more)

-- one line more
pub one_line_more : (lines : List (List ℕ)) (i : ℕ) (old new : List Command) → i < length lines → SaysLines (take i lines) old →
    AddsLine old (line_words (get_or lines i [])) new → SaysLines (take (i + 1) lines) new
one_line_more lines i old new within said (line, says, is) =
    subst (SaysLines (take (i + 1) lines)) (sym is)
    (subst (λ taken. SaysLines taken (old ++ line)) (sym (take_more lines i [] within)) (lines_more (take i lines) (get_or lines i []) old line said says))
