-- Concatenated lists of cycles.
use Rattle.std.proofs.Common.{◌≡◌, ℕ, zero, suc, ◌+◌, ◌-◌, ◌<◌, ◌⊎◌, inl, inr, List, [], ◌∷◌, ◌++◌, length, take, slice_get, Some, refl, ap, ◌∙◌, subst, arith}
use Rattle.std.proofs.lemmas.Option.{none-some, same_Some, slice_get_within}
use Rattle.trace_model.proofs.Lists.{length-push, take-push}
use Rattle.trace_model.specs.Theory.Cycles.{ListBelow}
use Rattle.trace_model.proofs.Theory.Unique.{Has, has_contained, contains_had}
use Rattle.cycle_search.specs.CycleSearch.{AreSome, AreAll}

pub get-split : {X : Type 0} (xs ys : List X) (i : ℕ) (x : X) → slice_get (xs ++ ys) i ≡ Some x →
    ((slice_get xs i ≡ Some x) × (i < length xs)) ⊎ ((j : ℕ) × (i ≡ length xs + j) × (slice_get ys j ≡ Some x))
get-split [] ys i x h = inr (i, omega arith, h)
get-split (y ∷ xs) ys zero x h = inl (h, omega arith)
get-split (y ∷ xs) ys (suc i) x h = elim (get-split xs ys i x h) [
  | inl a ↦ inl (a.0, omega (arith, a.1))
  | inr b ↦ inr (b.0, omega (arith, b.1), b.2)
]

pub get-left : {X : Type 0} (xs ys : List X) (i : ℕ) (x : X) → slice_get xs i ≡ Some x → slice_get (xs ++ ys) i ≡ Some x
get-left [] ys i x h = absurd (none-some x h)
get-left (y ∷ xs) ys zero x h = h
get-left (y ∷ xs) ys (suc i) x h = get-left xs ys i x h

pub has-right : {X : Type 0} (xs ys : List X) (x : X) → Has ys x → Has (xs ++ ys) x
has-right [] ys x h = h
has-right (y ∷ xs) ys x h = let r = has-right xs ys x h in (suc r.0, r.1)

-- Two lists with a common prefix.
pub below-after : (path : List ℕ) (a b : ℕ) (xs ys : List ℕ) → a < b → ListBelow (path ++ a ∷ xs) (path ++ b ∷ ys)
below-after [] a b xs ys l = inl l
below-after (p ∷ path) a b xs ys l = inr (refl, below-after path a b xs ys l)

module _ (P Q R : List ℕ → Type 0) (xs ys : List (List ℕ)) where
  pub some-join : AreSome P xs → AreSome Q ys → ((n : List ℕ) → P n → R n) → ((n : List ℕ) → Q n → R n) →
      ((a b : List ℕ) → P a → Q b → ListBelow a b) → AreSome R (xs ++ ys)
  some-join p q f g below = record {
    sound = λ n h. let k = has_contained (xs ++ ys) n h in elim (get-split xs ys k.0 n k.1) [
      | inl a ↦ f n (p.sound n (contains_had xs n (k.0, a.0)))
      | inr b ↦ g n (q.sound n (contains_had ys n (b.0, b.2)))
    ];
    in_order = λ i j a b l x y. elim (get-split xs ys i a x) [
      | inl u ↦ elim (get-split xs ys j b y) [
        | inl v ↦ p.in_order i j a b l u.0 v.0
        | inr v ↦ below a b (p.sound a (contains_had xs a (i, u.0))) (q.sound b (contains_had ys b (v.0, v.2)))
      ]
      | inr u ↦ elim (get-split xs ys j b y) [
        | inl v ↦ absurd (omega (arith, v.1, u.1))
        | inr v ↦ q.in_order u.0 v.0 a b (omega (arith, u.1, v.1)) u.2 v.2
      ]
    ];
  }

  pub all-join : AreAll P xs → AreAll Q ys → ((n : List ℕ) → P n → R n) → ((n : List ℕ) → Q n → R n) → ((n : List ℕ) → R n → P n ⊎ Q n) →
      ((a b : List ℕ) → P a → Q b → ListBelow a b) → AreAll R (xs ++ ys)
  all-join p q f g h below = record {
    some = some-join p.some q.some f g below;
    complete = λ n r. elim (h n r) [
      | inl a ↦ let k = has_contained xs n (p.complete n a) in contains_had (xs ++ ys) n (k.0, get-left xs ys k.0 n k.1)
      | inr b ↦ contains_had (xs ++ ys) n (has-right xs ys n (has_contained ys n (q.complete n b)))
    ];
  }

pub some-weaker : (P Q : List ℕ → Type 0) (xs : List (List ℕ)) → ((n : List ℕ) → P n → Q n) → AreSome P xs → AreSome Q xs
some-weaker P Q xs f p = record { sound = λ n h. f n (p.sound n h); in_order = p.in_order }

pub all-same : (P Q : List ℕ → Type 0) (xs : List (List ℕ)) → ((n : List ℕ) → P n → Q n) → ((n : List ℕ) → Q n → P n) → AreAll P xs → AreAll Q xs
all-same P Q xs f g p = record { some = some-weaker P Q xs f p.some; complete = λ n h. p.complete n (g n h) }

pub all-none : (P : List ℕ → Type 0) → ((n : List ℕ) → P n → ⊥) → AreAll P []
all-none P none = record {
  some = record {
    sound = λ n h. absurd (omega (arith, h.1));
    in_order = λ i j a b l x y. absurd (none-some a x);
  };
  complete = λ n h. absurd (none n h);
}

-- There is nothing with the property.
pub none-of : (P : List ℕ → Type 0) → AreAll P [] → (n : List ℕ) → P n → ⊥
none-of P all n h = let (k, l, e) = all.complete n h in omega (arith, l)

pub some-one : (P : List ℕ → Type 0) (c : List ℕ) → P c → AreSome P (c ∷ [])
some-one P c p = record {
  sound = λ n h. let k = has_contained (c ∷ []) n h in only k.0 n k.1;
  in_order = λ i j a b l x y. absurd (omega (arith, l, slice_get_within (c ∷ []) j b y));
}
  where
    only : (k : ℕ) (n : List ℕ) → slice_get (c ∷ []) k ≡ Some n → P n
    only zero n h = subst P (same_Some c n h) p
    only (suc k) n h = absurd (none-some n h)

pub all-one : (P : List ℕ → Type 0) (c : List ℕ) → P c → ((n : List ℕ) → P n → c ≡ n) → AreAll P (c ∷ [])
all-one P c p one = record {
  some = some-one P c p;
  complete = λ n h. contains_had (c ∷ []) n (zero, ap Some (one n h));
}

pub append-nil : (xs : List (List ℕ)) → xs ++ [] ≡ xs
append-nil [] = refl
append-nil (x ∷ xs) = ap (λ z. x ∷ z) (append-nil xs)

-- Removing the pushed number restores the path.
pub popped : (path longer : List ℕ) (m : ℕ) → longer ≡ path ++ m ∷ [] → take (length longer - 1) longer ≡ path
popped path longer m e =
    let before : length (path ++ m ∷ []) - 1 ≡ length path = omega (arith, length-push path m) in
    ap (λ xs. take (length xs - 1) xs) e ∙ ap (λ n. take n (path ++ m ∷ [])) before ∙ take-push path m
