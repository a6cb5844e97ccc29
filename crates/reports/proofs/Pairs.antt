-- Dependencies and their places, pair by pair.
use Rattle.std.proofs.Common.{◌≡◌, ℕ, ◌+◌, ◌<◌, List, [], ◌∷◌, ◌++◌, length, get_or, take, flat_map, slice_get, Some, ap, sym, ◌∙◌, arith, append-nil}
use Rattle.std.specs.List.{zip}
use Rattle.std.proofs.lemmas.List.{take_more}
use Rattle.std.proofs.lemmas.Option.{get_or_from_slice_get}
use Rattle.std.proofs.lemmas.List.Concat.{flat_map-append, flat_map-cons}
use Rattle.std.proofs.lemmas.Slice.Zip.{length-zip, get_or-zip}

pub pair_more : {A B : Type 0} (xs : List A) (ys : List B) (i : ℕ) (x : A) (y : B) → i < length xs → i < length ys →
    x ≡ get_or xs i x → y ≡ get_or ys i y → (i < length (zip xs ys)) × ((x, y) ≡ get_or (zip xs ys) i (x, y))
pair_more xs ys i x y l m e f = let long = length-zip xs ys in
    (omega (arith, long), λ k. (sym (get_or-zip xs ys i (x, y) l m ∙ λ j. (sym e j, sym f j))) k)

pub at_place : (ys : List ℕ) (i y : ℕ) → slice_get ys i ≡ Some y → y ≡ get_or ys i y
at_place ys i y h = sym (get_or_from_slice_get ys i y y h)

-- The pieces of one more element, and of all.
pub flat_more : {X : Type 0} (f : X → List ℕ) (xs : List X) (i : ℕ) (x : X) → i < length xs → x ≡ get_or xs i x →
    flat_map f (take (i + 1) xs) ≡ flat_map f (take i xs) ++ f x
flat_more f xs i x l e = ap (flat_map f) (take_more xs i x l) ∙ flat_map-append f (take i xs) (get_or xs i x ∷ [])
    ∙ ap (λ ys. flat_map f (take i xs) ++ ys) (flat_map-cons f (get_or xs i x) [] ∙ append-nil (f (get_or xs i x)) ∙ ap f (sym e))
