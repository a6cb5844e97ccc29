-- The places of a witness from a place on.
use Rattle.std.proofs.Common.{◌≡◌, ℕ, zero, suc, ◌+◌, ◌-◌, ◌≤◌, Bool, true, false, cond, List, [], ◌∷◌, ◌++◌, codes, decimal, Option, Some, None, refl, sym, ap, ◌∙◌, arith, append-nil, append_assoc}
use Rattle.std.specs.List.{range_with_len}
use Rattle.std.proofs.lemmas.Bool.{le-leb, lt-leb}
use Rattle.std.proofs.lemmas.List.Concat.{flat_map-append}
use Rattle.trace_model.specs.Theory.Closure.{Places, ascending_places}
use Rattle.fronts.specs.declared.fronts.Fronts.{Fronts}
use Rattle.fronts.specs.State.{IsNextRange, included_set, included_places}
use Rattle.trace_model.specs.Theory.Rows.{Evidence}
use Rattle.reports.specs.Text.{number_list, run_text, witness_end}
use Rattle.reports.specs.Remaining.{places_from, rest_in_witness, rest_of_witness}
use Rattle.reports.specs.declared.row_cursor.Run.{Run}

-- The places below another one are passed over.
passed : (set : Places) (k at : ℕ) (rest : List ℕ) → k ≤ at → places_from at (ascending_places set k ++ rest) ≡ places_from at rest
passed set zero at rest l = refl
passed set (suc k) at rest l = go (set k) (passed set k at (k ∷ rest) (omega (arith, l))) (passed set k at rest (omega (arith, l)))
  where
    below : places_from at (k ∷ rest) ≡ places_from at rest
    below = rw (lt-leb at k (omega (arith, l))) refl

    go : (b : Bool) → places_from at (ascending_places set k ++ (k ∷ rest)) ≡ places_from at (k ∷ rest) → places_from at (ascending_places set k ++ rest) ≡ places_from at rest →
        places_from at (cond b (ascending_places set k ++ k ∷ []) (ascending_places set k) ++ rest) ≡ places_from at rest
    go true one more = ap (places_from at) (append_assoc (ascending_places set k) (k ∷ []) rest) ∙ one ∙ below
    go false one more = more

-- The first place of a list is not less, if it has one.
abbrev pub Starts : ℕ → List ℕ → Type 0
Starts at [] = Unit {0}
Starts at (p ∷ places) = at ≤ p

kept : (at : ℕ) (places : List ℕ) → Starts at places → places_from at places ≡ places
kept at [] s = refl
kept at (p ∷ places) s = rw (le-leb at p s) refl

starts_push : (at n : ℕ) (places : List ℕ) → at ≤ n → Starts at places → Starts at (places ++ n ∷ [])
starts_push at n [] l s = l
starts_push at n (p ∷ places) l s = s

-- The places from a place on follow those before it.
follow : (set : Places) (k m : ℕ) → (rest : List ℕ) × (ascending_places set (k + m) ≡ ascending_places set k ++ rest) × Starts k rest
follow set k zero = let e : k + 0 ≡ k = omega arith in ([], ap (ascending_places set) e ∙ sym (append-nil (ascending_places set k)), tt)
follow set k (suc m) = let e : k + suc m ≡ suc (k + m) = omega arith in rw e (go (set (k + m)) (follow set k m))
  where
    go : (b : Bool) → (rest : List ℕ) × (ascending_places set (k + m) ≡ ascending_places set k ++ rest) × Starts k rest →
        (rest : List ℕ) × (cond b (ascending_places set (k + m) ++ (k + m) ∷ []) (ascending_places set (k + m)) ≡ ascending_places set k ++ rest) × Starts k rest
    go true (rest, is, s) = (
      rest ++ (k + m) ∷ [],
      ap (λ xs. xs ++ (k + m) ∷ []) is ∙ append_assoc (ascending_places set k) rest ((k + m) ∷ []),
      starts_push k (k + m) rest (omega arith) s,
    )
    go false (rest, is, s) = (rest, is, s)

starts_range : (at start n : ℕ) (rest : List ℕ) → at ≤ start → Starts at (range_with_len start (suc n) ++ rest)
starts_range at start n rest l = l

-- The places from a place on begin with the next range.
pub places_next : (f : Fronts) (at start end : ℕ) → IsNextRange f at start end →
    places_from at (included_places f) ≡ range_with_len start (end - start) ++ places_from end (included_places f)
places_next f at start end next =
    let set = included_set f in
    let (rest, is, s) = follow set end (f.end - end) in
    let e : end + (f.end - end) ≡ f.end = omega (arith, next.within) in
    let all : included_places f ≡ ascending_places set end ++ rest = ap (ascending_places set) (sym e) ∙ is in
    let range = range_with_len start (end - start) in
    let split : included_places f ≡ ascending_places set at ++ (range ++ rest) =
    all ∙ ap (λ xs. xs ++ rest) next.places ∙ append_assoc (ascending_places set at) range rest in
    let after : places_from end (included_places f) ≡ rest = ap (places_from end) all ∙ passed set end end rest (omega arith) ∙ kept end rest s in
    let some : end - start ≡ suc (end - start - 1) = omega (arith, next.some) in
    let first : Starts at (range ++ rest) = rw some (starts_range at start (end - start - 1) rest next.later) in
    ap (places_from at) split ∙ passed set at at (range ++ rest) (omega arith) ∙ kept at (range ++ rest) first ∙ ap (λ xs. range ++ xs) (sym after)

-- None is left.
pub places_end : (f : Fronts) (at : ℕ) → included_places f ≡ ascending_places (included_set f) at → places_from at (included_places f) ≡ []
places_end f at is =
    ap (places_from at) (is ∙ sym (append-nil (ascending_places (included_set f) at))) ∙ passed (included_set f) at at [] (omega arith)

-- No place is passed over.
pub places_all : (places : List ℕ) → places_from 0 places ≡ places
places_all [] = refl
places_all (p ∷ places) = kept 0 (p ∷ places) (omega arith)

-- A run that is written is followed by the next range, or by the end of the line.
run_passed : (next end : ℕ) (rest : List ℕ) → end ≤ next → run_text next (end - next) ++ rest ≡ rest
run_passed next end rest l = let e : end - next ≡ 0 = omega (arith, l) in rw e refl

pub witness_next : (found : Evidence) (f : Fronts) (run later : Run) (start end : ℕ) (piece : List ℕ) → found.witness ≡ included_places f → run.end ≤ run.next → IsNextRange f run.end start end →
    run_text start (end - start) ≡ piece ++ run_text later.next (later.end - later.next) → later.end ≡ end → rest_of_witness found run ≡ piece ++ rest_of_witness found later
witness_next found f run later start end piece is l range put same =
    let line : ℕ → List ℕ = λ at. number_list (places_from at found.witness) ++ codes "\n" in
    let numbers = number_list (places_from end found.witness) in
    let places : places_from run.end found.witness ≡ range_with_len start (end - start) ++ places_from end found.witness =
    ap (places_from run.end) is ∙ places_next f run.end start end range ∙ ap (λ all. range_with_len start (end - start) ++ places_from end all) (sym is) in
    let whole : line run.end ≡ run_text start (end - start) ++ line end =
    ap (λ ps. number_list ps ++ codes "\n") places
    ∙ ap (λ text. text ++ codes "\n") (flat_map-append (λ n. codes " " ++ decimal n) (range_with_len start (end - start)) (places_from end found.witness))
    ∙ append_assoc (run_text start (end - start)) numbers (codes "\n") in
    run_passed run.next run.end (line run.end) l ∙ whole ∙ (λ i. put i ++ line (sym same i))
    ∙ append_assoc piece (run_text later.next (later.end - later.next)) (line later.end)

pub witness_done : (found : Evidence) (f : Fronts) (run : Run) (piece : List ℕ) → found.witness ≡ included_places f → run.end ≤ run.next → included_places f ≡ ascending_places (included_set f) run.end →
    piece ≡ codes "\n" → rest_of_witness found run ≡ piece ++ []
witness_done found f run piece is l all last =
    let none : places_from run.end found.witness ≡ [] = ap (places_from run.end) is ∙ places_end f run.end all in
    run_passed run.next run.end (number_list (places_from run.end found.witness) ++ codes "\n") l
    ∙ ap (λ ps. number_list ps ++ codes "\n") none ∙ sym last ∙ sym (append-nil piece)

-- A witness begins before its first place.
pub witness_begins : (found : Option Evidence) → witness_end found ≡ rest_in_witness found (record { next = 0; end = 0 })
witness_begins None = refl
witness_begins (Some found) = ap (λ ps. number_list ps ++ codes "\n") (sym (places_all found.witness))
