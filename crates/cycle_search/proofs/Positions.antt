-- Lists before and after a position, in lexicographic order.
use Rattle.std.proofs.Common.{◌≡◌, ℕ, suc, ◌<◌, ◌≤◌, ◌⊎◌, inl, inr, List, [], ◌∷◌, ◌++◌, length, refl, sym, ap, ◌∙◌, subst, arith}
use Rattle.std.proofs.lemmas.Bool.{cases_lt, cases_eq}
use Rattle.trace_model.specs.Theory.Cycles.{ListBelow}
use Rattle.cycle_search.specs.Pausing.{position_at}
use Rattle.cycle_search.proofs.Listing.{below-after}

none-below : (xs : List ℕ) → ListBelow xs [] → ⊥
none-below [] h = h
none-below (x ∷ xs) h = h

pub below-trans : (a b c : List ℕ) → ListBelow a b → ListBelow b c → ListBelow a c
below-trans [] [] c h g = absurd h
below-trans [] (y ∷ b) [] h g = absurd g
below-trans [] (y ∷ b) (z ∷ c) h g = tt
below-trans (x ∷ a) [] c h g = absurd h
below-trans (x ∷ a) (y ∷ b) [] h g = absurd g
below-trans (x ∷ a) (y ∷ b) (z ∷ c) (inl l) (inl m) = inl (omega (arith, l, m))
below-trans (x ∷ a) (y ∷ b) (z ∷ c) (inl l) (inr m) = inl (omega (arith, l, m.0))
below-trans (x ∷ a) (y ∷ b) (z ∷ c) (inr l) (inl m) = inl (omega (arith, l.0, m))
below-trans (x ∷ a) (y ∷ b) (z ∷ c) (inr l) (inr m) = inr (l.0 ∙ m.0, below-trans a b c l.1 m.1)

pub below-decided : (a b : List ℕ) → ListBelow a b ⊎ (ListBelow a b → ⊥)
below-decided [] [] = inr (λ h. h)
below-decided [] (y ∷ b) = inl tt
below-decided (x ∷ a) [] = inr (λ h. h)
below-decided (x ∷ a) (y ∷ b) = elim (cases_lt x y) [
  | inl l ↦ inl (inl l)
  | inr l ↦ elim (cases_eq x y) [
    | inl e ↦ elim (below-decided a b) [
      | inl h ↦ inl (inr (e, h))
      | inr not ↦ inr (λ h. elim h [
        | inl less ↦ omega (arith, less, e)
        | inr more ↦ not more.1
      ])
    ]
    | inr e ↦ inr (λ h. elim h [
      | inl less ↦ omega (arith, less, l)
      | inr more ↦ e more.0
    ])
  ]
]

-- A list is before the longer ones that begin with it.
pub below-longer : (path : List ℕ) (m x : ℕ) (rest : List ℕ) → ListBelow (path ++ m ∷ []) (path ++ m ∷ x ∷ rest)
below-longer [] m x rest = inr (refl, tt)
below-longer (p ∷ path) m x rest = inr (refl, below-longer path m x rest)

-- The first number after a common prefix decides.
pub below-next : (path : List ℕ) (a b : ℕ) (xs ys : List ℕ) → ListBelow (path ++ a ∷ xs) (path ++ b ∷ ys) → a ≤ b
below-next [] a b xs ys (inl l) = omega (arith, l)
below-next [] a b xs ys (inr h) = omega (arith, h.0)
below-next (p ∷ path) a b xs ys (inl l) = absurd (omega (arith, l))
below-next (p ∷ path) a b xs ys (inr h) = below-next path a b xs ys h.1

-- No list that continues with a number above `last` is before the position.
pub not-before : (path : List ℕ) (last m : ℕ) (rest : List ℕ) → last < m → ListBelow (path ++ m ∷ rest) (position_at path last) → ⊥
not-before [] last m rest l (inl h) = omega (arith, l, h)
not-before [] last m rest l (inr h) = none-below rest h.1
not-before (p ∷ path) last m rest l (inl h) = omega (arith, h)
not-before (p ∷ path) last m rest l (inr h) = not-before path last m rest l h.1

-- A list before the position is before each list that continues with a number above `last`.
pub before-later : (path : List ℕ) (last m : ℕ) (rest : List ℕ) → last < m → (a : List ℕ) → ListBelow a (position_at path last) → ListBelow a (path ++ m ∷ rest)
before-later [] last m rest l [] h = tt
before-later [] last m rest l (x ∷ a) (inl h) = inl (omega (arith, l, h))
before-later [] last m rest l (x ∷ a) (inr h) = absurd (none-below a h.1)
before-later (p ∷ path) last m rest l [] h = tt
before-later (p ∷ path) last m rest l (x ∷ a) (inl h) = inl h
before-later (p ∷ path) last m rest l (x ∷ a) (inr h) = inr (h.0, before-later path last m rest l a h.1)

-- Every list that begins with the path is before this one.
abbrev pub end_of : List ℕ → List ℕ
end_of [] = []
end_of (x ∷ []) = suc x ∷ []
end_of (x ∷ y ∷ path) = x ∷ end_of (y ∷ path)

pub end-pushed : (path : List ℕ) (last : ℕ) → end_of (path ++ last ∷ []) ≡ position_at path last
end-pushed [] last = refl
end-pushed (x ∷ []) last = refl
end-pushed (x ∷ y ∷ path) last = ap (λ z. x ∷ z) (end-pushed (y ∷ path) last)

pub inside-end : (path : List ℕ) (m : ℕ) (rest : List ℕ) → 0 < length path → ListBelow (path ++ m ∷ rest) (end_of path)
inside-end [] m rest begun = absurd (omega (arith, begun))
inside-end (x ∷ []) m rest begun = inl (omega arith)
inside-end (x ∷ y ∷ path) m rest begun = inr (refl, inside-end (y ∷ path) m rest (omega arith))

-- A list between the position and the end of the path continues with a number above `last`.
abbrev pub Continues : List ℕ → ℕ → List ℕ → Type 0
Continues path last numbers = (m : ℕ) × (rest : List ℕ) × (last < m) × (numbers ≡ path ++ m ∷ rest)

pub between : (path : List ℕ) (last : ℕ) (numbers : List ℕ) → 0 < length path → (ListBelow numbers (position_at path last) → ⊥) →
    ListBelow numbers (end_of path) → Continues path last numbers
between [] last numbers begun not h = absurd (omega (arith, begun))
between (x ∷ []) last [] begun not h = absurd (not tt)
between (x ∷ []) last (a ∷ []) begun not (inl l) = elim (cases_eq a x) [
  | inl e ↦ absurd (not (inr (e, tt)))
  | inr e ↦ absurd (not (inl (omega (arith, l, e))))
]
between (x ∷ []) last (a ∷ []) begun not (inr h) = absurd h.1
between (x ∷ []) last (a ∷ m ∷ rest) begun not (inl l) = elim (cases_eq a x) [
  | inl e ↦ elim (cases_lt last m) [
    | inl above ↦ (m, rest, above, ap (λ z. z ∷ m ∷ rest) e)
    | inr under ↦ absurd (not (inr (e, inl (omega (arith, under)))))
  ]
  | inr e ↦ absurd (not (inl (omega (arith, l, e))))
]
between (x ∷ []) last (a ∷ m ∷ rest) begun not (inr h) = absurd h.1
between (x ∷ y ∷ path) last [] begun not h = absurd (not tt)
between (x ∷ y ∷ path) last (a ∷ numbers) begun not (inl l) = absurd (not (inl l))
between (x ∷ y ∷ path) last (a ∷ numbers) begun not (inr h) =
    let (m, rest, above, e) = between (y ∷ path) last numbers (omega arith) (λ below. not (inr (h.0, below))) h.1 in
    (m, rest, above, ap (λ z. z ∷ numbers) h.0 ∙ ap (λ z. x ∷ z) e)

-- A search that was paused at a number above `after` is later than it was, unless that is the next
-- number and the search was paused at it.
pub paused-later : (path : List ℕ) (after m : ℕ) (position rest : List ℕ) → after < m → position ≡ path ++ m ∷ rest → (m ≡ suc after → ListBelow (path ++ m ∷ []) position) →
    ListBelow (position_at path after) position
paused-later path after m position rest above at next = elim (cases_lt (suc after) m) [
  | inl l ↦ subst (ListBelow (position_at path after)) (sym at) (below-after path (suc after) m [] rest l)
  | inr l ↦ let same : m ≡ suc after = omega (arith, l, above) in subst (λ n. ListBelow (path ++ n ∷ []) position) same (next same)
]

-- A list before the position is before each one that is not.
pub before-not : (a position b : List ℕ) → ListBelow a position → (ListBelow b position → ⊥) → ListBelow a b
before-not [] [] b h not = absurd h
before-not (x ∷ a) [] b h not = absurd h
before-not [] (y ∷ position) [] h not = absurd (not tt)
before-not [] (y ∷ position) (z ∷ b) h not = tt
before-not (x ∷ a) (y ∷ position) [] h not = absurd (not tt)
before-not (x ∷ a) (y ∷ position) (z ∷ b) (inl l) not = elim (cases_lt z y) [
  | inl under ↦ absurd (not (inl under))
  | inr over ↦ inl (omega (arith, l, over))
]
before-not (x ∷ a) (y ∷ position) (z ∷ b) (inr h) not = elim (cases_lt z y) [
  | inl under ↦ absurd (not (inl under))
  | inr over ↦ elim (cases_eq z y) [
    | inl e ↦ inr (h.0 ∙ sym e, before-not a position b h.1 (λ below. not (inr (e, below))))
    | inr e ↦ inl (omega (arith, h.0, over, e))
  ]
]
