-- The rows with their refutations.
use Rattle.std.proofs.Common.{◌≡◌, List, [], ◌∷◌, map, Result, Ok, Err, MatchResult, IfOk, refl, sym, subst}
use Rattle.std.specs.Global.{Vec}
use Rattle.std.specs.List.{AllZip, Contains}
use Rattle.std.proofs.lemmas.List.Elements.{All-nil, All-cons}
use Rattle.trace_model.specs.Theory.Trace.{Trace}
use Rattle.trace_model.specs.Theory.Rows.{Row}
use Rattle.trace_model.specs.declared.refusal.NoMemory.{NoMemory}
use Rattle.commands.specs.declared.refuting.RefutedRow.{RefutedRow}
use Rattle.commands.specs.Explain.{AreRefuted, IsRefutedRow}

-- The row with its refutation, unless memory ran out.
abbrev pub IsOneRefuted : Trace → Row → Result RefutedRow NoMemory → Type 0
IsOneRefuted s row result = IfOk result (λ refuted. (refuted.row ≡ row) × IsRefutedRow s refuted)

pub all_refuted : (s : Trace) (rows : List Row) (ys : List RefutedRow) → AllZip (IsOneRefuted s) rows (map Ok ys) → AreRefuted s rows ys
all_refuted s [] [] h = record { plain = refl; each = All-nil (IsRefutedRow s) }
all_refuted s [] (y ∷ ys) h = absurd h
all_refuted s (row ∷ rows) [] h = absurd h
all_refuted s (row ∷ rows) (y ∷ ys) h =
    let rest = all_refuted s rows ys h.1 in
    record { plain = (λ i. h.0.0 i ∷ rest.plain i); each = All-cons (IsRefutedRow s) y ys h.0.1 rest.each }

-- The results of all rows, if no one is an error, are the rows with their refutations.
pub collected : (s : Trace) (rows items : List Row) (given : List (Result RefutedRow NoMemory)) (result : Result (Vec RefutedRow) NoMemory) → items ≡ rows →
    AllZip (IsOneRefuted s) items given →
    MatchResult result (λ v. (ys : List RefutedRow) × (given ≡ map Ok ys) × (v.items ≡ ys)) (λ e. Contains given (Err e)) → IfOk result (λ v. AreRefuted s rows v.items)
collected s rows items given (Err e) same each is = tt
collected s rows items given (Ok v) same each (ys, all, here) =
    subst (λ xs. AreRefuted s rows xs) (sym here) (all_refuted s rows ys
    (subst (λ xs. AllZip (IsOneRefuted s) rows xs) all (subst (λ xs. AllZip (IsOneRefuted s) xs given) same each)))
