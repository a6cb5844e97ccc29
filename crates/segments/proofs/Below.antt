-- If places ascend, then the notes of places below a bound are a prefix.
use Rattle.std.proofs.Common.{◌≡◌, ℕ, zero, suc, ◌<◌, ◌≤◌, cond, List, [], ◌∷◌, take, map, slice_get, Some, refl, sym, ap, ◌∙◌, arith}
use Rattle.std.proofs.lemmas.Bool.{lt-ltb, le-ltb}
use Rattle.std.proofs.lemmas.Option.{none-some, same_Some, slice_get_within, get_or_from_slice_get}
use Rattle.std.proofs.lemmas.List.Kept.{AllPairs-from_increasing}
use Rattle.segments.specs.Notes.{notes_below, Ascend}

-- the first k places are below the bound
abbrev pub AllFirst : ℕ → ℕ → List (ℕ × ℕ) → Type 0
AllFirst bound k notes = (i : ℕ) (e : ℕ × ℕ) → i < k → slice_get notes i ≡ Some e → e.1 < bound

-- those from k on are not
abbrev pub AllRest : ℕ → ℕ → List (ℕ × ℕ) → Type 0
AllRest bound k notes = (i : ℕ) (e : ℕ × ℕ) → k ≤ i → slice_get notes i ≡ Some e → bound ≤ e.1

none_below : (bound : ℕ) (notes : List (ℕ × ℕ)) → AllRest bound 0 notes → notes_below bound notes ≡ []
none_below bound [] rest = refl
none_below bound (e ∷ notes) rest =
    ap (λ b. cond b (e ∷ notes_below bound notes) (notes_below bound notes)) (le-ltb e.1 bound (rest 0 e (omega arith) refl))
    ∙ none_below bound notes (λ i x l h. rest (suc i) x (omega arith) h)

pub first_below : (bound k : ℕ) (notes : List (ℕ × ℕ)) → AllFirst bound k notes → AllRest bound k notes → take k notes ≡ notes_below bound notes
first_below bound zero notes first rest = sym (none_below bound notes rest)
first_below bound (suc k) [] first rest = refl
first_below bound (suc k) (e ∷ notes) first rest =
    ap (λ s. e ∷ s) (first_below bound k notes (λ i x l h. first (suc i) x (omega arith) h) (λ i x l h. rest (suc i) x (omega arith) h))
    ∙ sym (ap (λ b. cond b (e ∷ notes_below bound notes) (notes_below bound notes)) (lt-ltb e.1 bound (first 0 e (omega arith) refl)))

place_at : (notes : List (ℕ × ℕ)) (i : ℕ) (e : ℕ × ℕ) → slice_get notes i ≡ Some e → slice_get (map (λ x. x.1) notes) i ≡ Some e.1
place_at [] i e h = absurd (none-some e h)
place_at (y ∷ notes) zero e h = ap (λ x. Some x.1) (same_Some y e h)
place_at (y ∷ notes) (suc i) e h = place_at notes i e h

-- an earlier note has a lower place
pub earlier_lower : (notes : List (ℕ × ℕ)) (i j : ℕ) (d e : ℕ × ℕ) → Ascend notes → i < j → slice_get notes i ≡ Some d → slice_get notes j ≡ Some e → d.1 < e.1
earlier_lower notes i j d e up l h k =
    let places = map (λ x. x.1) notes in
    let a = get_or_from_slice_get places i d.1 0 (place_at notes i d h) in
    let b = get_or_from_slice_get places j e.1 0 (place_at notes j e k) in
    let below = AllPairs-from_increasing places up i j 0 l (slice_get_within places j e.1 (place_at notes j e k)) in
    omega arith
