-- One more lock of a list of locks.
use Rattle.std.proofs.Common.{◌≡◌, ◌≢◌, ℕ, ◌+◌, ◌<◌, List, [], ◌∷◌, ◌++◌, length, get_or, take, refl, sym, ap, subst, ◌∙◌, arith, eqb-true, eq-eqb, length-take}
use Rattle.std.specs.Prelude.{Bool, true, false, cond, ◌||◌, nat_eq, Some, slice_get}
use Rattle.std.proofs.lemmas.Option.{slice_get_read, get_or_from_slice_get}
use Rattle.std.specs.List.{list_any}
use Rattle.std.proofs.lemmas.List.Folds.{list_any-append, Any-from_list_any}
use Rattle.std.proofs.lemmas.List.{take_more, get_or-take}
use Rattle.trace_model.proofs.Lists.{or-false}
use Rattle.lock_graph.specs.Lists.{listed_with}
use Rattle.std.specs.List.Sorted.{IsStrictlyIncreasing}
use Rattle.std.proofs.lemmas.List.Kept.{AllPairs-from_increasing}

-- locks at different indices differ
pub apart : (locks : List ℕ) (i j : ℕ) → IsStrictlyIncreasing locks → i < j → j < length locks → get_or locks i 0 ≢ get_or locks j 0
apart locks i j up l w e = let below = AllPairs-from_increasing locks up i j 0 l w in omega (arith, below, e)

not_earlier : (locks : List ℕ) (i : ℕ) → IsStrictlyIncreasing locks → i < length locks → list_any (λ l. nat_eq l (get_or locks i 0)) (take i locks) ≡ true → ⊥
not_earlier locks i up h found =
    let one = Any-from_list_any (λ l. nat_eq l (get_or locks i 0)) (take i locks) found in
    let k : one.0 < i = omega (arith, length-take i locks, one.2) in
    let within : one.0 < length locks = omega arith in
    let there : slice_get locks one.0 ≡ Some one.1 = slice_get_read locks (length locks) one.0 one.1 refl within (sym one.3 ∙ get_or-take i locks one.0 one.1 k) in
    let it : get_or locks one.0 0 ≡ get_or locks i 0 = get_or_from_slice_get locks one.0 one.1 0 there ∙ eqb-true one.1 (get_or locks i 0) one.4 in
    apart locks one.0 i up k h it

pick : (a b : Bool) (xs : List ℕ) (n : ℕ) → (b ≡ true → a ≡ true → ⊥) → cond b (cond a (xs ++ n ∷ []) xs ++ n ∷ []) (cond a (xs ++ n ∷ []) xs) ≡ cond (a || b) (xs ++ n ∷ []) xs
pick true true xs n h = absurd (h refl refl)
pick false true xs n h = refl
pick true false xs n h = refl
pick false false xs n h = refl

pub listed_more : (locks : List ℕ) (i n other : ℕ) (before now' after : List ℕ) → IsStrictlyIncreasing locks → i < length locks →
    now' ≡ listed_with (take i locks) n other before →
    after ≡ cond (nat_eq (get_or locks i 0) other) (now' ++ n ∷ []) now' →
    after ≡ listed_with (take (i + 1) locks) n other before
listed_more locks i n other before now' after distinct h so_far step =
    step ∙ ap (λ xs. cond (nat_eq (get_or locks i 0) other) (xs ++ n ∷ []) xs) so_far
    ∙ pick (list_any (λ l. nat_eq l other) (take i locks)) (nat_eq (get_or locks i 0) other) before n
    (λ same found. not_earlier locks i distinct h (ap (λ o. list_any (λ l. nat_eq l o) (take i locks)) (eqb-true _ _ same) ∙ found))
    ∙ ap (λ b. cond b (before ++ n ∷ []) before)
    (sym (ap (list_any (λ l. nat_eq l other)) (take_more locks i 0 h) ∙ list_any-append (λ l. nat_eq l other) (take i locks) (get_or locks i 0 ∷ [])
    ∙ ap (λ b. list_any (λ l. nat_eq l other) (take i locks) || b) (or-false (nat_eq (get_or locks i 0) other))))

listed_last : (locks : List ℕ) (i n other : ℕ) (before : List ℕ) → IsStrictlyIncreasing locks → i < length locks →
    listed_with (take (i + 1) locks) n other before ≡ cond (nat_eq (get_or locks i 0) other) (listed_with (take i locks) n other before ++ n ∷ []) (listed_with (take i locks) n other before)
listed_last locks i n other before up h = sym (listed_more locks i n other before _ _ up h refl refl)

-- without the last number of a lock, the locks before it are left
pub listed_less : (locks : List ℕ) (i j n : ℕ) (before old new : ℕ → List ℕ) → IsStrictlyIncreasing locks → i < length locks → j ≡ i + 1 →
    ((other : ℕ) → old other ≡ listed_with (take j locks) n other (before other)) →
    ((xs : List ℕ) (m : ℕ) → old (get_or locks i 0) ≡ xs ++ m ∷ [] → new (get_or locks i 0) ≡ xs) →
    ((other : ℕ) → nat_eq (get_or locks i 0) other ≡ false → new other ≡ old other) →
    (other : ℕ) → new other ≡ listed_with (take i locks) n other (before other)
listed_less locks i j n before old new up h next was last others other = go (nat_eq (get_or locks i 0) other) refl
  where
    lock : ℕ
    lock = get_or locks i 0

    left : ℕ → List ℕ
    left o = listed_with (take i locks) n o (before o)

    had : (o : ℕ) → old o ≡ cond (nat_eq lock o) (left o ++ n ∷ []) (left o)
    had o = was o ∙ ap (λ k. listed_with (take k locks) n o (before o)) next ∙ listed_last locks i n o (before o) up h

    go : (b : Bool) → nat_eq lock other ≡ b → new other ≡ left other
    go true e =
        subst (λ o. new o ≡ left o) (eqb-true lock other e)
        (last (left lock) n (had lock ∙ ap (λ b. cond b (left lock ++ n ∷ []) (left lock)) (eq-eqb lock lock refl)))
    go false e = others other e ∙ had other ∙ ap (λ b. cond b (left other ++ n ∷ []) (left other)) e
