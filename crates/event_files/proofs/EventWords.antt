-- The parts of an event word.
use Rattle.std.proofs.Common.{◌≡◌, ℕ, suc, ◌+◌, ◌<◌, ◌^◌, true, false, cond, not, ltb, nat_lt, List, [], ◌∷◌, ◌++◌, length, take, drop, get_or, decimal, Some, None, refl, sym, ap, subst, ◌∙◌, arith, length-append}
use Rattle.std.specs.List.{position}
use Rattle.std.specs.Char.{is_ascii_digit}
use Rattle.std.proofs.lemmas.Bool.{lt-ltb}
use Rattle.std.proofs.lemmas.List.{take-append-drop, drop_more}
use Rattle.std.proofs.lemmas.Fmt.{decimal_is_IsNumeral}
use Rattle.trace_model.specs.declared.traces.event.Event.{Event}
use Rattle.trace_model.specs.declared.traces.event.Op.{Op}
use Rattle.trace_model.specs.declared.traces.event.Op.TheVariants.{Fork}
use Rattle.trace_model.specs.Protocol.Frames.{object_of}
use Rattle.event_files.specs.EventFile.{is_no_digit, letter_of, event_word}
use Rattle.event_files.proofs.NumberedTexts.{digits_before}

place_of : (n : ℕ) (c : ℕ) (rest : List ℕ) → n < 2 ^ 64 → is_ascii_digit c ≡ false → position is_no_digit (decimal n ++ c ∷ rest) ≡ Some (length (decimal n))
place_of n c rest small other =
    let p = digits_before (decimal n) (c ∷ rest) (decimal_is_IsNumeral n small).0.1 (ap not other) in
    let l : ltb (length (decimal n)) (length (decimal n ++ c ∷ rest)) ≡ true = lt-ltb _ _ (omega (arith, length-append (decimal n) (c ∷ rest))) in
    ap (λ k. cond (nat_lt k (length (decimal n ++ c ∷ rest))) (Some k) None) p ∙ ap (λ b. cond b (Some (length (decimal n))) None) l

-- the bytes before an index, at it and after it
record HasParts (word front : List ℕ) (c : ℕ) (back : List ℕ) : Type 0 where
  before : take (length front) word ≡ front
  letter : get_or word (length front) 0 ≡ c
  after : drop (suc (length front)) word ≡ back

has_parts : (front : List ℕ) (c : ℕ) (back : List ℕ) → HasParts (front ++ c ∷ back) front c back
has_parts [] c back = record { before = refl; letter = refl; after = refl }
has_parts (x ∷ front) c back =
    let p = has_parts front c back in
    record { before = ap (λ l. x ∷ l) p.before; letter = p.letter; after = p.after }

letter_other : (op : Op) → is_ascii_digit (letter_of op) ≡ false
letter_other (Fork child) = refl
letter_other _ = refl

-- the index of the letter of an event word, and the digits around it
pub record IsTakenApart (word : List ℕ) (e : Event) (place : ℕ) : Type 0 where
  pub found : position is_no_digit word ≡ Some place
  pub thread : take place word ≡ decimal e.thread
  pub letter : get_or word place 0 ≡ letter_of e.op
  pub object : drop (place + 1) word ≡ decimal (object_of e.op)

pub taken_apart : (word : List ℕ) (e : Event) → e.thread < 2 ^ 32 → word ≡ event_word e → IsTakenApart word e (length (decimal e.thread))
taken_apart word e small is =
    let p = has_parts (decimal e.thread) (letter_of e.op) (decimal (object_of e.op)) in
    let next : length (decimal e.thread) + 1 ≡ suc (length (decimal e.thread)) = omega arith in
    subst (λ w. IsTakenApart w e (length (decimal e.thread))) (sym is) (record {
      found = place_of e.thread (letter_of e.op) (decimal (object_of e.op)) (omega arith) (letter_other e.op);
      thread = p.before;
      letter = p.letter;
      object = ap (λ k. drop k (event_word e)) next ∙ p.after;
    })

-- a word is that of an event whose thread is before an index, its letter at it and its object after
pub word_is : (word : List ℕ) (e : Event) (place : ℕ) → place < length word → take place word ≡ decimal e.thread → get_or word place 0 ≡ letter_of e.op →
    drop (place + 1) word ≡ decimal (object_of e.op) → word ≡ event_word e
word_is word e place within thread letter object =
    sym (take-append-drop place word) ∙ ap (λ back. take place word ++ back) (drop_more word place 0 within) ∙ (λ i. thread i ++ letter i ∷ object i)
