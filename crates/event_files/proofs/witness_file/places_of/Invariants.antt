use Rattle.std.proofs.Common.{◌≡◌, ◌≤◌, length, map, take, vec_capacity, vec_len}
use Rattle.event_files.specs.WitnessFile.{AreNumerals}
use Rattle.event_files.proofs.witness_file.places_of.Given as goal

-- the places so far are those of the words so far, and the capacity suffices for all words
abbrev pub invariant-loop-word : goal.invariant-loop-word
invariant-loop-word l = record {
  counted : vec_len l.places ≡ l.word-index;
  room : length l.words ≤ vec_capacity l.places;
  named : AreNumerals l.places.items (map (λ word. word.now) (take l.word-index l.words));
}
