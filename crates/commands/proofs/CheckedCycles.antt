-- The lines of the verdicts on cycles.
use Rattle.std.proofs.Common.{◌≡◌, ℕ, ◌+◌, ◌<◌, Bool, true, false, List, [], ◌∷◌, ◌++◌, ◌∙◌, ◌&&◌, map, Result, Ok, Err, MatchResult, IfOk, get_or, length, take, refl, sym, subst, ap, append_assoc}
use Rattle.std.specs.Borrow.{Bor}
use Rattle.std.specs.Global.{Vec}
use Rattle.std.specs.List.{AllZip, Contains, flat_map, list_all, zip}
use Rattle.std.proofs.lemmas.List.{append-nil, take_more}
use Rattle.std.proofs.lemmas.List.Concat.{flat_map-append, flat_map-cons}
use Rattle.std.proofs.lemmas.List.Folds.{list_all-append}
use Rattle.trace_model.specs.Theory.Trace.{Trace}
use Rattle.trace_model.specs.declared.refusal.NoMemory.{NoMemory}
use Rattle.event_files.specs.ExplainedText.{StatedCycle, stated_cycle}
use Rattle.event_files.specs.declared.explanations.Explained.{Explained}
use Rattle.commands.specs.Check.{AddsRows, AreVerdictLines, AreVerdicts, IsVerdictLine, checked_lines, is_valid}
use Rattle.commands.specs.CheckWords.{checked_line}
use Rattle.commands.specs.declared.check_verdicts.CheckedLine.{CheckedLine}
use Rattle.commands.specs.declared.check_verdicts.CycleVerdict.{CycleVerdict}

-- The texts of the lines, and whether all are valid.
abbrev pub texts : List CheckedLine → List ℕ
texts lines = flat_map (λ line. line.text.items) lines

abbrev pub are_valid : List CheckedLine → Bool
are_valid lines = list_all (λ line. line.is_valid) lines

-- The lines up to one more.
module _ (lines : List CheckedLine) (n : ℕ) (within : n < length lines) (line : CheckedLine) (is : line ≡ get_or lines n line) where
  one_more : take (n + 1) lines ≡ take n lines ++ line ∷ []
  one_more = take_more lines n line within ∙ ap (λ (x : CheckedLine). take n lines ++ x ∷ []) (sym is)

  pub more_text : (old mid new : List ℕ) → mid ≡ old ++ texts (take n lines) → new ≡ mid ++ line.text.items → new ≡ old ++ texts (take (n + 1) lines)
  more_text old mid new before grew =
      let text : CheckedLine → List ℕ = λ line. line.text.items in
      let last = flat_map-append text (take n lines) (line ∷ []) ∙ ap (λ l. texts (take n lines) ++ l) (flat_map-cons text line [] ∙ append-nil line.text.items) in
      grew ∙ ap (λ (l : List ℕ). l ++ line.text.items) before ∙ append_assoc old (texts (take n lines)) line.text.items
      ∙ ap (λ (l : List ℕ). old ++ l) (sym last ∙ ap texts (sym one_more))

  all_valid : (before : Bool) → before ≡ are_valid (take n lines) → (before && (line.is_valid && true)) ≡ are_valid (take (n + 1) lines)
  all_valid before are = (λ i. are i && (line.is_valid && true)) ∙ sym (list_all-append (λ (line : CheckedLine). line.is_valid) (take n lines) (line ∷ [])) ∙ ap are_valid (sym one_more)

  -- The lines before are valid, or one is not.
  pub still_valid : (before : Bool) → before ≡ are_valid (take n lines) → before ≡ true → line.is_valid ≡ are_valid (take (n + 1) lines)
  still_valid before are all = pass line.is_valid ∙ all_valid before are
    where
      pass : (b : Bool) → b ≡ (before && (b && true))
      pass true = λ i. sym all i && (true && true)
      pass false = λ i. sym all i && (false && true)

  pub not_valid : (before : Bool) → before ≡ are_valid (take n lines) → before ≡ false → before ≡ are_valid (take (n + 1) lines)
  not_valid before are wrong = wrong ∙ (λ i. sym wrong i && (line.is_valid && true)) ∙ all_valid before are

verdicts_of : (s : Trace) (rows : List StatedCycle) (lines : List CheckedLine) → AreVerdictLines s rows lines →
    (vs : List CycleVerdict) × AreVerdicts s rows vs × (are_valid lines ≡ list_all is_valid vs) × (texts lines ≡ checked_lines rows vs)
verdicts_of s [] [] h = ([], tt, refl, refl)
verdicts_of s [] (line ∷ lines) h = absurd h
verdicts_of s (r ∷ rows) [] h = absurd h
verdicts_of s (r ∷ rows) (line ∷ lines) h =
    let (v, is, valid, shown) = h.0 in
    let (vs, are, all, rest) = verdicts_of s rows lines h.1 in (
      v ∷ vs,
      (is, are),
      λ i. valid i && all i,
      flat_map-cons (λ (line : CheckedLine). line.text.items) line lines
          ∙ (λ i. shown i ++ rest i)
          ∙ sym (flat_map-cons (λ (pair : StatedCycle × CycleVerdict). checked_line pair.0.cycle pair.1) (r, v) (zip rows vs)),
    )

-- The lines are appended.
pub adds_lines : (s : Trace) (rows : List StatedCycle) (lines : List CheckedLine) (old new : List ℕ) → AreVerdictLines s rows lines → new ≡ old ++ texts lines → AddsRows s rows (are_valid lines) old new
adds_lines s rows lines old new h grew =
    let (vs, are, all, shown) = verdicts_of s rows lines h in
    (vs, are, all, grew ∙ ap (λ (l : List ℕ). old ++ l) shown)

-- The line of the cycle that is read, unless memory ran out.
abbrev pub IsLineOf : Trace → Bor Explained → Result CheckedLine NoMemory → Type 0
IsLineOf s x result = IfOk result (λ line. IsVerdictLine s (stated_cycle x.now) line.is_valid line.text.items)

abbrev pub read : List (Bor Explained) → List Explained
read xs = map (λ x. x.now) xs

all_lines : (s : Trace) (xs : List (Bor Explained)) (lines : List CheckedLine) → AllZip (IsLineOf s) xs (map Ok lines) → AreVerdictLines s (map stated_cycle (read xs)) lines
all_lines s [] [] h = tt
all_lines s [] (line ∷ lines) h = absurd h
all_lines s (x ∷ xs) [] h = absurd h
all_lines s (x ∷ xs) (line ∷ lines) h = (h.0, all_lines s xs lines h.1)

-- The results of all cycles, if no one is an error, are the lines.
pub collected : (s : Trace) (cycles : List Explained) (xs : List (Bor Explained)) (given : List (Result CheckedLine NoMemory)) (result : Result (Vec CheckedLine) NoMemory) → read xs ≡ cycles →
    AllZip (IsLineOf s) xs given →
    MatchResult result (λ v. (ys : List CheckedLine) × (given ≡ map Ok ys) × (v.items ≡ ys)) (λ e. Contains given (Err e)) → IfOk result (λ v. AreVerdictLines s (map stated_cycle cycles) v.items)
collected s cycles xs given (Err e) same each is = tt
collected s cycles xs given (Ok v) same each (ys, all, here) =
    subst (λ ls. AreVerdictLines s (map stated_cycle cycles) ls) (sym here)
    (subst (λ (l : List Explained). AreVerdictLines s (map stated_cycle l) ys) same (all_lines s xs ys (subst (λ ls. AllZip (IsLineOf s) xs ls) all each)))
