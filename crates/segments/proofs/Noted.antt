-- Notes by number: one more note, and the linked list of a number.
use Rattle.std.proofs.Common.{◌≡◌, ℕ, zero, suc, ◌+◌, ◌<◌, ◌≤◌, ◌==◌, nat_eq, inl, inr, Bool, true, false, cond, List, [], ◌∷◌, ◌++◌, length, take, map, slice_get, Option, Some, None, refl, sym, ap, subst, ◌∙◌, arith}
use Rattle.std.proofs.lemmas.Bool.{cases_lt, cases_eq, eqb-true}
use Rattle.std.proofs.lemmas.List.{length-take-le}
use Rattle.std.proofs.lemmas.Option.{none-some, same_Some, slice_get_within}
use Rattle.std.specs.List.{filter}
use Rattle.std.specs.Option.{option_map_or, option_flatten}
use Rattle.trace_model.specs.Theory.Trace.{last_place}
use Rattle.trace_model.proofs.Theory.Places.{last_place_none}
use Rattle.trace_model.proofs.Theory.Prefix.{last_place-agree}
use Rattle.trace_model.proofs.Lists.{get-take, get-take_past, get-append, get-push_last, length-push}
use Rattle.segments.specs.declared.links.link.Link.{Link}
use Rattle.segments.specs.Linking.{count_below, IsLink}
use Rattle.segments.specs.declared.numbered.note.Note.{Note}
use Rattle.segments.specs.Notes.{pairs_of, noted_places, is_of_number, AreNotes, AreHeads, IsNumberedTable}
use Rattle.segments.proofs.Linking.{none_last, link-agree}

pub get_pair : (notes : List Note) (i : ℕ) (x : Note) → slice_get notes i ≡ Some x → slice_get (pairs_of notes) i ≡ Some (x.number, x.place)
get_pair [] i x h = absurd (none-some x h)
get_pair (y ∷ notes) zero x h = ap (λ z. Some (z.number, z.place)) (same_Some y x h)
get_pair (y ∷ notes) (suc i) x h = get_pair notes i x h

pub length_pairs : (notes : List Note) → length (pairs_of notes) ≡ length notes
length_pairs [] = refl
length_pairs (x ∷ notes) = ap suc (length_pairs notes)

pub pairs_push : (notes : List Note) (x : Note) → pairs_of (notes ++ x ∷ []) ≡ pairs_of notes ++ (x.number, x.place) ∷ []
pairs_push [] x = refl
pairs_push (y ∷ notes) x = ap (λ s. (y.number, y.place) ∷ s) (pairs_push notes x)

pub pairs_take : (n : ℕ) (notes : List Note) → pairs_of (take n notes) ≡ take n (pairs_of notes)
pairs_take zero notes = refl
pairs_take (suc n) [] = refl
pairs_take (suc n) (y ∷ notes) = ap (λ s. (y.number, y.place) ∷ s) (pairs_take n notes)

-- the note of an index that is one of the number
pub link_found : (notes : List Note) (m i : ℕ) (x : Note) → AreNotes notes → Some x ≡ slice_get notes i → is_of_number (pairs_of notes) m i ≡ true → IsLink (is_of_number (pairs_of notes) m) i x.link
link_found notes m i x are found h =
    let number : x.number ≡ m = eqb-true x.number m (sym (ap (λ o. option_map_or (λ e. e.0 == m) o false) (get_pair notes i x (sym found))) ∙ h) in
    subst (λ k. IsLink (is_of_number (pairs_of notes) k) i x.link) number (are i x (sym found))

-- ---- the list of a number

cons_count : (e : ℕ × ℕ) (notes : List (ℕ × ℕ)) (m i : ℕ) → count_below (is_of_number (e ∷ notes) m) (suc i) ≡ cond (e.0 == m) (suc (count_below (is_of_number notes m) i)) (count_below (is_of_number notes m) i)
cons_count e notes m zero = refl
cons_count e notes m (suc i) = go (is_of_number notes m i) (e.0 == m) (cons_count e notes m i)
  where
    go : (b c : Bool) → count_below (is_of_number (e ∷ notes) m) (suc i) ≡ cond c (suc (count_below (is_of_number notes m) i)) (count_below (is_of_number notes m) i) →
        cond b (suc (count_below (is_of_number (e ∷ notes) m) (suc i))) (count_below (is_of_number (e ∷ notes) m) (suc i))
        ≡ cond c (suc (cond b (suc (count_below (is_of_number notes m) i)) (count_below (is_of_number notes m) i))) (cond b (suc (count_below (is_of_number notes m) i)) (count_below (is_of_number notes m) i))
    go true true h = ap suc h
    go true false h = ap suc h
    go false true h = h
    go false false h = h

list_length : (notes : List (ℕ × ℕ)) (m : ℕ) → length (noted_places notes m) ≡ count_below (is_of_number notes m) (length notes)
list_length [] m = refl
list_length (e ∷ notes) m = go (e.0 == m) (list_length notes m) ∙ sym (cons_count e notes m (length notes))
  where
    go : (b : Bool) → length (noted_places notes m) ≡ count_below (is_of_number notes m) (length notes) →
        length (map (λ x. x.1) (cond b (e ∷ filter (λ x. x.0 == m) notes) (filter (λ x. x.0 == m) notes))) ≡ cond b (suc (count_below (is_of_number notes m) (length notes))) (count_below (is_of_number notes m) (length notes))
    go true h = ap suc h
    go false h = h

pub length_in : (notes : List Note) (m : ℕ) → length (noted_places (pairs_of notes) m) ≡ count_below (is_of_number (pairs_of notes) m) (length notes)
length_in notes m = list_length (pairs_of notes) m ∙ ap (count_below (is_of_number (pairs_of notes) m)) (length_pairs notes)

-- a note of the number is in its list at the index that its count gives
pub nth_in : (notes : List (ℕ × ℕ)) (m i : ℕ) (e : ℕ × ℕ) → slice_get notes i ≡ Some e → is_of_number notes m i ≡ true → slice_get (noted_places notes m) (count_below (is_of_number notes m) i) ≡ Some e.1
nth_in [] m i e h t = absurd (none-some e h)
nth_in (y ∷ notes) m zero e h t =
    ap (λ b. slice_get (map (λ x. x.1) (cond b (y ∷ filter (λ x. x.0 == m) notes) (filter (λ x. x.0 == m) notes))) 0) t ∙ ap (λ x. Some x.1) (same_Some y e h)
nth_in (y ∷ notes) m (suc i) e h t = ap (slice_get (noted_places (y ∷ notes) m)) (cons_count y notes m i) ∙ go (y.0 == m) (nth_in notes m i e h t)
  where
    go : (b : Bool) → slice_get (noted_places notes m) (count_below (is_of_number notes m) i) ≡ Some e.1 →
        slice_get (map (λ x. x.1) (cond b (y ∷ filter (λ x. x.0 == m) notes) (filter (λ x. x.0 == m) notes))) (cond b (suc (count_below (is_of_number notes m) i)) (count_below (is_of_number notes m) i)) ≡ Some e.1
    go true k = k
    go false k = k

-- ---- facts of a note depend only on the notes up to it

link_same : (s r : List (ℕ × ℕ)) (m i : ℕ) (link : Link) → ((u : ℕ) → u < i → slice_get s u ≡ slice_get r u) → IsLink (is_of_number s m) i link → IsLink (is_of_number r m) i link
link_same s r m i link same is = link-agree (is_of_number s m) (is_of_number r m) i link (λ u l. ap (λ o. option_map_or (λ e. e.0 == m) o false) (same u l)) is

pub notes_push : (notes : List Note) (x : Note) → AreNotes notes → IsLink (is_of_number (pairs_of notes) x.number) (length notes) x.link → AreNotes (notes ++ x ∷ [])
notes_push notes x are next i y h = elim (cases_lt i (length notes)) [
  | inl l ↦ moved i y (omega (arith, length_pairs notes)) (are i y (sym (get-append notes (x ∷ []) i l) ∙ h))
  | inr l ↦
      let within = slice_get_within (notes ++ x ∷ []) i y h in
      let len = length-push notes x in
      let same : i ≡ length notes = omega arith in
      let here : x ≡ y = same_Some x y (sym (get-push_last notes x) ∙ ap (slice_get (notes ++ x ∷ [])) (sym same) ∙ h) in
      moved i y (omega (arith, length_pairs notes))
      (subst (λ n. IsLink (is_of_number (pairs_of notes) y.number) n y.link) (sym same) (subst (λ z. IsLink (is_of_number (pairs_of notes) z.number) (length notes) z.link) here next))
]
  where
    moved : (i : ℕ) (y : Note) → i ≤ length (pairs_of notes) → IsLink (is_of_number (pairs_of notes) y.number) i y.link → IsLink (is_of_number (pairs_of (notes ++ x ∷ [])) y.number) i y.link
    moved i y l is =
        subst (λ s. IsLink (is_of_number s y.number) i y.link) (sym (pairs_push notes x))
        (link_same (pairs_of notes) (pairs_of notes ++ (x.number, x.place) ∷ []) y.number i y.link (λ u k. sym (get-append (pairs_of notes) ((x.number, x.place) ∷ []) u (omega arith))) is)

pub notes_take : (n : ℕ) (notes : List Note) → AreNotes notes → AreNotes (take n notes)
notes_take n notes are i x h =
    let below = get-take_past n notes i x h in
    subst (λ s. IsLink (is_of_number s x.number) i x.link) (sym (pairs_take n notes))
    (link_same (pairs_of notes) (take n (pairs_of notes)) x.number i x.link (λ u l. sym (get-take n (pairs_of notes) u (omega arith)))
    (are i x (sym (get-take n notes i below) ∙ h)))

last_push : (f g : ℕ → Bool) (k : ℕ) (b : Bool) (o r : Option ℕ) → ((u : ℕ) → u < k → g u ≡ f u) → f k ≡ b → o ≡ last_place g k → r ≡ cond b (Some k) o → r ≡ last_place f (suc k)
last_push f g k b o r same e h more =
    more ∙ ap (cond b (Some k)) (h ∙ last_place-agree g f k same) ∙ ap (λ c. cond c (Some k) (last_place f k)) (sym e)

pub heads_push : (notes : List Note) (x : Note) (heads new : List (Option ℕ)) (k : ℕ) → AreHeads notes heads → k ≡ length notes →
    ((m : ℕ) → option_flatten (slice_get new m) ≡ cond (nat_eq x.number m) (Some k) (option_flatten (slice_get heads m))) → AreHeads (notes ++ x ∷ []) new
heads_push notes x heads new k are at h m =
    let s = pairs_of notes ++ (x.number, x.place) ∷ [] in
    let len = length_pairs notes in
    let last : is_of_number s m (length notes) ≡ (x.number == m) = ap (λ o. option_map_or (λ e. e.0 == m) o false) (ap (slice_get s) (sym len) ∙ get-push_last (pairs_of notes) (x.number, x.place)) in
    let step = last_push (is_of_number s m) (is_of_number (pairs_of notes) m) (length notes) (nat_eq x.number m) (option_flatten (slice_get heads m)) (option_flatten (slice_get new m))
    (λ u l. ap (λ o. option_map_or (λ e. e.0 == m) o false) (sym (get-append (pairs_of notes) ((x.number, x.place) ∷ []) u (omega arith)))) last (are m)
    (subst (λ n. option_flatten (slice_get new m) ≡ cond (nat_eq x.number m) (Some n) (option_flatten (slice_get heads m))) at (h m)) in
    step ∙ ap (λ t. last_place (is_of_number t m) (suc (length notes))) (sym (pairs_push notes x)) ∙ ap (last_place (is_of_number (pairs_of (notes ++ x ∷ [])) m)) (sym (length-push notes x))

no_index : {X : Type 0} → (xs : List X) (i : ℕ) → length xs ≤ i → slice_get xs i ≡ None
no_index {X} [] i h = refl
no_index {X} (x ∷ xs) zero h = absurd (omega arith)
no_index {X} (x ∷ xs) (suc i) h = no_index xs i (omega arith)

-- ---- the invariant after one more note, and of a prefix

pub numbered_push : (notes new : List Note) (x : Note) (heads heads' : List (Option ℕ)) (k : ℕ) → IsNumberedTable notes heads → new ≡ notes ++ x ∷ [] → k ≡ length notes →
    IsLink (is_of_number (pairs_of notes) x.number) k x.link → ((m : ℕ) → option_flatten (slice_get heads' m) ≡ cond (nat_eq x.number m) (Some k) (option_flatten (slice_get heads m))) →
    length notes < 4294967296 → length heads' ≤ 4294967296 → IsNumberedTable new heads'
numbered_push notes new x heads heads' k are put at link h few numbers =
    let len = length-push notes x in
    subst (λ xs. IsNumberedTable xs heads') (sym put) (record {
      notes_are = notes_push notes x are.notes_are (subst (λ n. IsLink (is_of_number (pairs_of notes) x.number) n x.link) at link);
      heads_are = heads_push notes x heads heads' k are.heads_are at h;
      numbers_few = numbers;
      few = omega arith;
    })

pub numbered_take : (notes part : List Note) (heads below : List (Option ℕ)) (n : ℕ) → IsNumberedTable notes heads → n ≤ length notes → part ≡ take n notes → length below ≡ length heads →
    ((m : ℕ) → m < length heads → slice_get below m ≡ Some (last_place (is_of_number (pairs_of notes) m) n)) → IsNumberedTable part below
numbered_take notes part heads_ below n are within is len each =
    subst (λ xs. IsNumberedTable xs below) (sym is) (record {
      notes_are = notes_take n notes are.notes_are;
      heads_are = λ m. heads m ∙ ap (last_place (is_of_number (pairs_of (take n notes)) m)) (sym size);
      numbers_few = let few = are.numbers_few in omega arith;
      few = let few = are.few in let s = size in omega arith;
    })
  where
    size : length (take n notes) ≡ n
    size = length-take-le n notes within

    same : (m u : ℕ) → u < n → is_of_number (pairs_of notes) m u ≡ is_of_number (pairs_of (take n notes)) m u
    same m u l = ap (λ o. option_map_or (λ e. e.0 == m) o false) (sym (ap (λ s. slice_get s u) (pairs_take n notes) ∙ get-take n (pairs_of notes) u l))

    heads : (m : ℕ) → option_flatten (slice_get below m) ≡ last_place (is_of_number (pairs_of (take n notes)) m) n
    heads m = elim (cases_lt m (length heads_)) [
      | inl l ↦ ap option_flatten (each m l) ∙ last_place-agree (is_of_number (pairs_of notes) m) (is_of_number (pairs_of (take n notes)) m) n (same m)
      | inr l ↦
          let none : None ≡ last_place (is_of_number (pairs_of notes) m) (length notes) = sym (ap option_flatten (no_index heads_ m l)) ∙ are.heads_are m in
          ap option_flatten (no_index below m (omega arith))
          ∙ none_last (is_of_number (pairs_of (take n notes)) m) n (λ u k t. last_place_none (is_of_number (pairs_of notes) m) (length notes) (sym none) u (omega arith) (same m u k ∙ t))
    ]

pub one_more : (number n k : ℕ) → k ≤ 4294967296 → n ≡ cond (nat_eq number k) (k + 1) k → number < 4294967296 → n ≤ 4294967296
one_more number n k few h l = elim (cases_eq number k) [
  | inl same ↦ go (nat_eq number k) h (λ f. omega arith)
  | inr other ↦ go (nat_eq number k) h (λ f. absurd (other (eqb-true number k f)))
]
  where
    go : (b : Bool) → n ≡ cond b (k + 1) k → (b ≡ true → k + 1 ≤ 4294967296) → n ≤ 4294967296
    go true e f = let g = f refl in omega arith
    go false e f = omega arith
