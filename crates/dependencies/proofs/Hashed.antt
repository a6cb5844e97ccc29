-- The last item that passes a test, and the links between numbers with the same hash.
use Rattle.std.proofs.Common.{◌≡◌, ◌<◌, ◌≤◌, ◌==◌, inl, inr, ℕ, zero, suc, Bool, true, false, cond, List, [], ◌∷◌, ◌++◌, length, get_or, slice_get, Option, Some, None, IfSome, subst, refl, sym, ap, ◌∙◌, arith}
use Rattle.std.proofs.lemmas.List.{length-map}
use Rattle.std.proofs.lemmas.Bool.{false≢true, eqb-true}
use Rattle.std.proofs.lemmas.Option.{slice_get-map, slice_get-get_or, slice_get_within}
use Rattle.std.specs.Cmp.{nat_eq_equiv}
use Rattle.std.specs.HashMap.{get}
use Rattle.std.specs.Option.{option_map, option_map_or}
use Rattle.indexmap.specs.IndexMap.{IndexMap}
use Rattle.trace_model.specs.Theory.Trace.{last_place}
use Rattle.trace_model.proofs.Theory.Places.{last_place_some}
use Rattle.trace_model.proofs.Theory.Prefix.{last_place-agree}
use Rattle.trace_model.proofs.Lists.{get-append, get-push, get-push_last, length-push}
use Rattle.dependencies.specs.declared.hashed_numbers.Link.{Link}
use Rattle.dependencies.specs.HashedNumbers.{HashedView, AreLinked, passes_at, last_passing, hashes_of}

-- the last number up to `from` whose item passes the test, none if there is no such number
abbrev pub last_up_to : {X : Type 0} → (X → Bool) → List X → Option ℕ → Option ℕ
last_up_to test xs None = None
last_up_to test xs (Some number) = last_passing test xs (suc number)

-- what passes P passes Q, so the last one that passes P is not after the last one that passes Q
pub skipped : {X : Type 0} → (test : X → Bool) (xs : List X) (Q : ℕ → Bool) (n : ℕ) → ((j : ℕ) → j < n → passes_at test xs j ≡ true → Q j ≡ true) →
    last_passing test xs n ≡ last_up_to test xs (last_place Q n)
skipped {X} test xs Q zero h = refl
skipped {X} test xs Q (suc n) h = go (skipped test xs Q n (λ j l. h j (omega arith))) (Q n) refl
  where
    fails : (b : Bool) → Q n ≡ false → passes_at test xs n ≡ b → b ≡ false
    fails true e p = absurd (false≢true (sym e ∙ h n (omega arith) p))
    fails false e p = refl

    go : last_passing test xs n ≡ last_up_to test xs (last_place Q n) → (b : Bool) → Q n ≡ b → last_passing test xs (suc n) ≡ last_up_to test xs (cond b (Some n) (last_place Q n))
    go rest true e = refl
    go rest false e = ap (λ b. cond b (Some n) (last_passing test xs n)) (fails (passes_at test xs n) e refl) ∙ rest

-- one step back from a number that does not pass
pub stepped : {X : Type 0} → (test : X → Bool) (xs : List X) (Q : ℕ → Bool) (n : ℕ) → passes_at test xs n ≡ false → ((j : ℕ) → j < n → passes_at test xs j ≡ true → Q j ≡ true) →
    last_up_to test xs (Some n) ≡ last_up_to test xs (last_place Q n)
stepped {X} test xs Q n e h = ap (λ b. cond b (Some n) (last_passing test xs n)) e ∙ skipped test xs Q n h

pub passes_is : {X : Type 0} → (test : X → Bool) (xs : List X) (n : ℕ) (x : X) → slice_get xs n ≡ Some x → passes_at test xs n ≡ test x
passes_is {X} test xs n x h = ap (λ o. option_map_or test o false) h

pub hash_here : (hash : ℕ) (hashes : List ℕ) (m : ℕ) → passes_at (λ x. hash == x) hashes m ≡ true → slice_get hashes m ≡ Some hash
hash_here hash hashes m h = go (slice_get hashes m) h
  where
    go : (o : Option ℕ) → option_map_or (λ x. hash == x) o false ≡ true → o ≡ Some hash
    go None e = absurd (false≢true e)
    go (Some x) e = ap Some (sym (eqb-true hash x e))

pub last_passes : (test : ℕ → Bool) (n m : ℕ) (o : Option ℕ) → o ≡ last_place test n → o ≡ Some m → (m < n) × (test m ≡ true)
last_passes test n m o h e = let s = last_place_some test n m (sym h ∙ e) in (s.0, s.1)

hash_at : (links : List Link) (i : ℕ) (x : Link) → slice_get links i ≡ Some x → slice_get (hashes_of links) i ≡ Some x.hash
hash_at links i x h = slice_get-map (λ x. x.hash) links i ∙ ap (option_map (λ x. x.hash)) h

-- the link of a number goes to the last earlier number with its hash
abbrev pub StepsBack : List Link → HashedView → Type 0
StepsBack links v = (m hash : ℕ) (x : Link) → x ≡ get_or links m x → slice_get v.hashes m ≡ Some hash → x.earlier ≡ last_passing (λ y. hash == y) v.hashes m

pub steps_back : {S : Type 0} → (lasts : IndexMap ℕ ℕ S) (links : List Link) (room : Bool) → AreLinked lasts links → StepsBack links (record { hashes = hashes_of links; room = room })
steps_back {S} lasts links room are m hash x read h =
    let within : m < length links = let a = slice_get_within (hashes_of links) m hash h in let b = length-map links (λ x. x.hash) in omega arith in
    let at : slice_get links m ≡ Some x = slice_get-get_or links m x within ∙ ap Some (sym read) in
    let same : Some x.hash ≡ Some hash = sym (hash_at links m x at) ∙ h in
    are.earlier m x at ∙ ap (λ o. last_passing (λ y. option_map_or (λ k. k == y) o false) (hashes_of links) m) same

-- a map and links with one more number
module _ {S : Type 0} (lasts after : IndexMap ℕ ℕ S) (links : List Link) (x : Link) (are : AreLinked lasts links) where
  agree : (n : ℕ) (test : ℕ → Bool) → n ≤ length links → last_passing test (hashes_of links) n ≡ last_passing test (hashes_of (links ++ x ∷ [])) n
  agree n test within = last_place-agree (passes_at test (hashes_of links)) (passes_at test (hashes_of (links ++ x ∷ []))) n (λ j l. ap (λ o. option_map_or test o false)
      (slice_get-map (λ y. y.hash) links j ∙ ap (option_map (λ y. y.hash)) (sym (get-append links (x ∷ []) j (omega arith))) ∙ sym (slice_get-map (λ y. y.hash) (links ++ x ∷ []) j)))

  pub linked_push : x.earlier ≡ get (◌==◌) lasts x.hash → ((q : ℕ) → get (◌==◌) after q ≡ cond (x.hash == q) (Some (length links)) (get (◌==◌) lasts q)) →
      AreLinked after (links ++ x ∷ [])
  linked_push before put = record {
    last = λ hash.
        put hash ∙ ap (cond (x.hash == hash) (Some (length links))) (are.last hash ∙ agree (length links) (λ y. hash == y) (omega arith))
        ∙ ap (λ b. cond b (Some (length links)) (last_passing (λ y. hash == y) (hashes_of (links ++ x ∷ [])) (length links)))
        (nat_eq_equiv.symm x.hash hash ∙ sym (passes_is (λ y. hash == y) (hashes_of (links ++ x ∷ [])) (length links) x.hash (hash_at (links ++ x ∷ []) (length links) x (get-push_last links x))))
        ∙ ap (last_passing (λ y. hash == y) (hashes_of (links ++ x ∷ []))) (sym (length-push links x));
    earlier = λ i y h. elim (get-push links x i y h) [
      | inl at ↦ are.earlier i y at ∙ agree i (λ z. y.hash == z) (let w = slice_get_within links i y at in omega arith)
      | inr new ↦ subst (λ z. z.earlier ≡ last_passing (λ k. z.hash == k) (hashes_of (links ++ x ∷ [])) i) new.1
          (before ∙ are.last x.hash ∙ agree (length links) (λ k. x.hash == k) (omega arith) ∙ ap (last_passing (λ k. x.hash == k) (hashes_of (links ++ x ∷ []))) (sym new.0))
    ];
  }

-- the last number is one of the first n
pub is_below : (test : ℕ → Bool) (n : ℕ) (o : Option ℕ) → o ≡ last_place test n → n < 4294967296 → IfSome o (λ m. m < 4294967295)
is_below test n None h few = tt
is_below test n (Some m) h few = let s = last_place_some test n m (sym h) in let below = s.0 in omega arith
