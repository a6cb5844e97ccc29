-- The places of a number, set from the last one back to the first.
use Rattle.std.proofs.Common.{◌≡◌, ℕ, suc, ◌<◌, ◌≤◌, inl, inr, true, List, [], ◌∷◌, length, slice_get, slice_set, Option, Some, None, refl, sym, ap, ◌∙◌, arith}
use Rattle.std.proofs.Math.ListN.{length-set}
use Rattle.std.proofs.lemmas.Bool.Decides.{eqb_tells}
use Rattle.std.proofs.lemmas.Option.{same_Some, slice_get_within}
use Rattle.std.specs.Option.{option_map_or}
use Rattle.trace_model.specs.Theory.Trace.{last_place}
use Rattle.trace_model.specs.Theory.Closure.{Places}
use Rattle.trace_model.proofs.Lists.{at_index, get-set_same, get-set_other}
use Rattle.segments.specs.declared.numbered.note.Note.{Note}
use Rattle.segments.specs.Linking.{count_below, IsLink}
use Rattle.segments.specs.Notes.{pairs_of, noted_places, is_of_number, AreNotes}
use Rattle.segments.proofs.Counting.{count_last, count_none}
use Rattle.segments.proofs.Linking.{last_is, earlier_is, falls}
use Rattle.segments.proofs.Noted.{get_pair, length_in, link_found, nth_in}

-- The number of passing entries up to an entry, or none.
abbrev pub count_to : Places → Option ℕ → ℕ
count_to test at = option_map_or (λ i. suc (count_below test i)) at 0

count_to_last : (test : Places) (n : ℕ) (at : Option ℕ) → at ≡ last_place test n → count_to test at ≡ count_below test n
count_to_last test n None h = sym (count_none test n (sym h))
count_to_last test n (Some i) h = sym (count_last test n i (sym h))

-- The places after those up to `at` are set.
pub record IsFollowed (notes : List Note) (m : ℕ) (at : Option ℕ) (places : List ℕ) : Type 0 where
  pub there : (i : ℕ) → at ≡ Some i → (i < length notes) × (is_of_number (pairs_of notes) m i ≡ true)
  pub sized : length places ≡ length (noted_places (pairs_of notes) m)
  pub rest : (k : ℕ) → count_to (is_of_number (pairs_of notes) m) at ≤ k → k < length (noted_places (pairs_of notes) m) →
      slice_get places k ≡ slice_get (noted_places (pairs_of notes) m) k

pub followed_none : (notes : List Note) (m : ℕ) (last : Option ℕ) (places : List ℕ) → last ≡ last_place (is_of_number (pairs_of notes) m) (length notes) →
    length places ≡ length (noted_places (pairs_of notes) m) → IsFollowed notes m last places
followed_none notes m last places is sized =
    let test = is_of_number (pairs_of notes) m in
    record {
      there = λ i h. let e = last_is test (length notes) i (sym is ∙ h) in (e.below, e.passes_is);
      sized = sized;
      rest = λ k from within. absurd (omega (arith, from, within, count_to_last test (length notes) last is, length_in notes m));
    }

-- The note at the entry: its place is in the list at the number of its link.
link_of : (notes : List Note) (m index : ℕ) (x : Note) (places : List ℕ) → AreNotes notes → IsFollowed notes m (Some index) places → Some x ≡ slice_get notes index →
    IsLink (is_of_number (pairs_of notes) m) index x.link
link_of notes m index x places are is found = link_found notes m index x are found (is.there index refl).1

place_at : (notes : List Note) (m index : ℕ) (x : Note) (places : List ℕ) → AreNotes notes → IsFollowed notes m (Some index) places → Some x ≡ slice_get notes index →
    slice_get (noted_places (pairs_of notes) m) x.link.number ≡ Some x.place
place_at notes m index x places are is found =
    ap (slice_get (noted_places (pairs_of notes) m)) (link_of notes m index x places are is found).number_is
    ∙ nth_in (pairs_of notes) m index (x.number, x.place) (get_pair notes index x (sym found)) (is.there index refl).1

pub followed_within : (notes : List Note) (m index : ℕ) (x : Note) (places : List ℕ) → AreNotes notes → IsFollowed notes m (Some index) places → Some x ≡ slice_get notes index →
    x.link.number < length places
followed_within notes m index x places are is found =
    omega (arith, slice_get_within (noted_places (pairs_of notes) m) x.link.number x.place (place_at notes m index x places are is found), is.sized)

pub followed_falls : (notes : List Note) (m index : ℕ) (at earlier : Option ℕ) (x : Note) (places : List ℕ) → AreNotes notes → IsFollowed notes m (Some index) places → Some x ≡ slice_get notes index →
    at ≡ Some index → earlier ≡ x.link.earlier → option_map_or (λ i. suc i) earlier 0 < option_map_or (λ i. suc i) at 0
followed_falls notes m index at earlier x places are is found here back =
    falls at earlier index here (λ i h. (earlier_is (is_of_number (pairs_of notes) m) index i x.link (link_of notes m index x places are is found) (sym back ∙ h)).below)

pub followed_more : (notes : List Note) (m index : ℕ) (x : Note) (places : List ℕ) → AreNotes notes → IsFollowed notes m (Some index) places → Some x ≡ slice_get notes index →
    IsFollowed notes m x.link.earlier (slice_set places x.link.number x.place)
followed_more notes m index x places are is found =
    let test = is_of_number (pairs_of notes) m in
    let here = is.there index refl in
    let link = link_of notes m index x places are is found in
    let to = count_to_last test index x.link.earlier link.earlier_is in
    let at = place_at notes m index x places are is found in
    let old = at_index places x.link.number (followed_within notes m index x places are is found) in
    record {
      there = λ i h. let e = earlier_is test index i x.link link h in (omega (arith, e.below, here.0), e.passes_is);
      sized = length-set places x.link.number x.place ∙ is.sized;
      rest = λ k from inside. elim (eqb_tells x.link.number k) [
        | inl e ↦ ap (slice_get (slice_set places x.link.number x.place)) (sym e.1) ∙ get-set_same places x.link.number old.0 x.place old.1 ∙ sym at ∙ ap (slice_get (noted_places (pairs_of notes) m)) e.1
        | inr e ↦ get-set_other places x.link.number k x.place e.1 ∙ is.rest k (omega (arith, from, to, link.number_is, e.1)) inside
      ];
    }

same_lists : (xs ys : List ℕ) → length xs ≡ length ys → ((k : ℕ) → k < length ys → slice_get xs k ≡ slice_get ys k) → xs ≡ ys
same_lists [] [] sized each = refl
same_lists [] (y ∷ ys) sized each = absurd (omega (arith, sized))
same_lists (x ∷ xs) [] sized each = absurd (omega (arith, sized))
same_lists (x ∷ xs) (y ∷ ys) sized each =
    ap (λ z. z ∷ xs) (same_Some x y (each 0 (omega arith)))
    ∙ ap (λ zs. y ∷ zs) (same_lists xs ys (omega (arith, sized)) (λ k within. each (suc k) (omega (arith, within))))

pub followed_all : (notes : List Note) (m : ℕ) (at : Option ℕ) (places : List ℕ) → IsFollowed notes m at places → at ≡ None → places ≡ noted_places (pairs_of notes) m
followed_all notes m at places is none =
    same_lists places (noted_places (pairs_of notes) m) is.sized (λ k within. is.rest k (omega (arith, ap (count_to (is_of_number (pairs_of notes) m)) none)) within)
