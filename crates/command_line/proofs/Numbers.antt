-- The number that an argument's text reads as.
use Rattle.std.proofs.Common.{◌≡◌, ℕ, Option, Some, None, Result, Ok, sym, subst, ◌∙◌}
use Rattle.std.specs.Str.Parse.{ParsesUnsigned}
use Rattle.std.proofs.lemmas.Option.{none-some}
use Rattle.clap.specs.declared.parser.matches.Found.{Found}
use Rattle.clap.specs.Words.{ReadsOne, Text, one_text, rows_of}
use Rattle.clap.proofs.WalkLemmas.{one_text-rows}
use Rattle.command_line.specs.Program.{SaysNumber}

pub says_number : {E : Type 0} (gives : Text → Result ℕ E → Type 0) → ((t : Text) (n : ℕ) → gives t (Ok n) → ParsesUnsigned {E = Unit {0}} 32 10 t (Ok n)) → (f : Found) (id : Text) (r : Option ℕ) (n : ℕ) → r ≡ Some n →
    (one_text f id ≡ None → r ≡ None) → ((t : Text) → one_text f id ≡ Some t → ReadsOne gives t r) → (o : Option Text) → one_text f id ≡ o → SaysNumber (rows_of f) id n
says_number gives reads f id r n is none value None e = absurd (none-some n (sym (none e) ∙ is))
says_number gives reads f id r n is none value (Some t) e = (t, sym (one_text-rows f id) ∙ e, reads t n (subst (ReadsOne gives t) is (value t e)))
