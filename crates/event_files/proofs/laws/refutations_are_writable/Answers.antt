use Rattle.std.proofs.Common.{◌≡◌, ℕ, ◌<◌, List, [], ◌∷◌, length, sym, subst, ◌∙◌, arith, Option, Some, None, slice_set, MatchOption, length-set}
use Rattle.std.specs.List.{AllByRecursion}
use Rattle.std.proofs.lemmas.List.{length-append}
use Rattle.std.proofs.lemmas.Option.{slice_get_within}
use Rattle.std.proofs.lemmas.List.Elements.{All-from_recursion}
use Rattle.trace_model.specs.Theory.Trace.{Trace}
use Rattle.trace_model.specs.Theory.Refutation.{EndsAt, Refutes}
use Rattle.trace_model.specs.declared.refutations.Derived.{Derived}
use Rattle.trace_model.specs.declared.refutations.RefutationStep.{RefutationStep}
use Rattle.event_files.specs.Refutations.{IsWritable}
use Rattle.event_files.proofs.laws.refutations_are_writable.Goals as goal

-- a list that ends at a place has an entry
some_of : (entries : List Derived) (p : ℕ) → EndsAt entries p → 0 < length entries
some_of entries p (before, d, whole, same) = subst (λ xs. 0 < length xs) (sym whole) (omega (arith, length-append before (d ∷ [])))

rest_writable : (s : Trace) (numbers places threads : List ℕ) (member : ℕ) (steps : List RefutationStep) (next : Option ℕ) → length places ≡ length threads →
    ((others : List ℕ) → length others ≡ length threads → Refutes s numbers others steps → AllByRecursion (IsWritable threads) steps) →
    MatchOption next (steps ≡ []) (λ q. Refutes s numbers (slice_set places member q) steps) → AllByRecursion (IsWritable threads) steps
rest_writable s numbers places threads member steps None sized all end = subst (AllByRecursion (IsWritable threads)) (sym end) tt
rest_writable s numbers places threads member steps (Some q) sized all rest =
    all (slice_set places member q) (length-set places member q ∙ sized) rest

all_writable : (s : Trace) (numbers places threads : List ℕ) (steps : List RefutationStep) → length places ≡ length threads → Refutes s numbers places steps →
    AllByRecursion (IsWritable threads) steps
all_writable s numbers places threads [] sized r = absurd r
all_writable s numbers places threads (step ∷ steps) sized r =
    let derives = r.1 in
    let within = slice_get_within places step.member derives.0 derives.1 in (
      (omega (arith, within, sized), some_of step.derivation derives.0 derives.3),
      rest_writable s numbers places threads step.member steps r.0 sized (λ others e t. all_writable s numbers others threads steps e t) r.3,
    )

pub returns : goal.returns
returns c = λ s numbers threads steps sized r.
    All-from_recursion (IsWritable threads) steps (all_writable s numbers r.0 threads steps (r.1.0 ∙ sym sized) r.2)
