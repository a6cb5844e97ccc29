-- The lines of a text that is split at a line feed.
use Rattle.std.proofs.Common.{◌≡◌, ℕ, ◌+◌, ◌<◌, Bool, true, false, cond, eqb, List, [], ◌∷◌, ◌++◌, length, take, drop, get_or, refl, sym, ap, ◌∙◌, arith}
use Rattle.std.specs.List.{onto_first}
use Rattle.std.proofs.lemmas.List.{drop_more, take-append-drop}
use Rattle.std.proofs.lemmas.List.Splits.{length-slice_split}
use Rattle.event_files.specs.EventFile.{pieces_at}

onto_front : (x : ℕ) (lines more : List (List ℕ)) → 0 < length lines → onto_first x (lines ++ more) ≡ onto_first x lines ++ more
onto_front x [] more some = absurd (omega (arith, some))
onto_front x (line ∷ lines) more some = refl

joined_by : (b : Bool) (x : ℕ) (lines more : List (List ℕ)) → 0 < length lines → cond b ([] ∷ (lines ++ more)) (onto_first x (lines ++ more)) ≡ cond b ([] ∷ lines) (onto_first x lines) ++ more
joined_by true x lines more some = refl
joined_by false x lines more some = onto_front x lines more some

-- a line feed between two texts
lines_joined : (front rest : List ℕ) → pieces_at 10 (front ++ 10 ∷ rest) ≡ pieces_at 10 front ++ pieces_at 10 rest
lines_joined [] rest = refl
lines_joined (x ∷ front) rest =
    ap (λ lines. cond (eqb x 10) ([] ∷ lines) (onto_first x lines)) (lines_joined front rest)
    ∙ joined_by (eqb x 10) x (pieces_at 10 front) (pieces_at 10 rest) (omega (arith, length-slice_split (λ byte. eqb byte 10) front))

-- the line feed at `end`
pub lines_split : (text : List ℕ) (end : ℕ) → end < length text → get_or text end 0 ≡ 10 → pieces_at 10 text ≡ pieces_at 10 (take end text) ++ pieces_at 10 (drop (end + 1) text)
lines_split text end within feed =
    let byte : drop end text ≡ 10 ∷ drop (end + 1) text = drop_more text end 0 within ∙ ap (λ b. b ∷ drop (end + 1) text) feed in
    let both : text ≡ take end text ++ 10 ∷ drop (end + 1) text = sym (take-append-drop end text) ∙ ap (λ l. take end text ++ l) byte in
    ap (pieces_at 10) both ∙ lines_joined (take end text) (drop (end + 1) text)
