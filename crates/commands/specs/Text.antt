-- Parts of the lines that commands print (this project's profile).
use Rattle.std.specs.Prelude.{ℕ, List, ◌++◌, codes, decimal}
use Rattle.trace_model.specs.Protocol.Refusals.{number_of, name_of}
use Rattle.trace_model.specs.declared.refusal.Refusal.{Refusal}
use Rattle.event_files.specs.Refutations.{label_and_number}

-- "refused", the refusal's number and its name
abbrev pub refusal_words : Refusal → List ℕ
refusal_words r = codes "refused " ++ decimal (number_of r) ++ codes " " ++ name_of r

-- the refusal as a line
abbrev pub refusal_line : Refusal → List ℕ
refusal_line r = refusal_words r ++ codes "\n"

-- a label and a number that end a line
abbrev pub labeled_line : List ℕ → ℕ → List ℕ
labeled_line label number = label_and_number label number ++ codes "\n"
