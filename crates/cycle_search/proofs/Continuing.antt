-- The cycles of a search that is continued at a position.
use Rattle.std.proofs.Common.{◌≡◌, ℕ, suc, ◌<◌, ◌≤◌, ◌⊎◌, inl, inr, List, [], ◌∷◌, ◌++◌, length, slice_get, Some, sym, ap, ◌∙◌, subst, append_assoc, arith}
use Rattle.std.proofs.lemmas.Option.{same_Some}
use Rattle.trace_model.specs.Theory.Dependencies.{Dependency}
use Rattle.trace_model.specs.Theory.Cycles.{ListBelow, AreCyclesFrom}
use Rattle.trace_model.proofs.Theory.Unique.{below_asym}
use Rattle.cycle_search.specs.Collecting.{CollectsAll, AddsSome}
use Rattle.cycle_search.specs.CycleSearch.{AreAll, AreSome, CycleFrom, CycleOver, MoreThan}
use Rattle.cycle_search.specs.Pausing.{IsListBefore, position_at}
use Rattle.cycle_search.proofs.Listing.{below-after, get-left, some-join, all-join, some-weaker, all-same, all-none}
use Rattle.cycle_search.proofs.Positions.{below-trans, below-decided, before-later, before-not, between, end_of, end-pushed, inside-end, not-before}
use Rattle.cycle_search.proofs.Turns.{root-beyond}

module _ (ds : List Dependency) (bound root : ℕ) (position : List ℕ) where
  -- The cycles of the root that are not before the position.
  abbrev pub IsLeft : List ℕ → Type 0
  IsLeft numbers = CycleFrom ds bound root numbers × (ListBelow numbers position → ⊥)

  module _ (path : List ℕ) (last : ℕ) (begun : 0 < length path) (head : slice_get path 0 ≡ Some root) where
    -- The cycles that continue with a number above `last`.
    abbrev pub Over : List ℕ → Type 0
    Over = CycleOver ds bound path (λ n. last < n)

    over-from : (n : List ℕ) → Over n → CycleFrom ds bound root n
    over-from n (m, l, (c, (rest, e))) = (c, ap (λ z. slice_get z 0) e ∙ get-left path (m ∷ rest) 0 root head)

    over-end : (n : List ℕ) → Over n → ListBelow n (end_of path)
    over-end n (m, l, (c, (rest, e))) = subst (λ z. ListBelow z (end_of path)) (sym e) (inside-end path m rest begun)

    over-between : (n : List ℕ) → CycleFrom ds bound root n → (ListBelow n (position_at path last) → ⊥) → ListBelow n (end_of path) → Over n
    over-between n c after before = let (m, rest, l, e) = between path last n begun after before in (m, l, (c.0, (rest, e)))

    until-end : (until rest : List ℕ) (m : ℕ) → until ≡ path ++ m ∷ rest → (n : List ℕ) → ListBelow n until → ListBelow n (end_of path)
    until-end until rest m e n h = below-trans n (path ++ m ∷ rest) (end_of path) (subst (ListBelow n) e h) (inside-end path m rest begun)

    -- The search is continued with the path.
    module _ (here : position ≡ position_at path last) where
      pub over-left : (n : List ℕ) → Over n → IsLeft n
      over-left n o = let (m, l, (c, (rest, e))) = o in
          (over-from n o, λ h. not-before path last m rest l (subst (λ z. ListBelow z (position_at path last)) e (subst (ListBelow n) here h)))

      left-over : (n : List ℕ) → IsLeft n → ListBelow n (end_of path) → Over n
      left-over n (c, after) before = over-between n c (λ h. after (subst (ListBelow n) (sym here) h)) before

      pub first-all : (old new : List (List ℕ)) → CollectsAll Over old new → CollectsAll (IsListBefore IsLeft (end_of path)) old new
      first-all old new (xs, e, p) = (xs, e, all-same Over (IsListBefore IsLeft (end_of path)) xs (λ n o. (over-left n o, over-end n o)) (λ n h. left-over n h.0 h.1) p)

      pub first-some : (old new : List (List ℕ)) → AddsSome Over old new → AddsSome IsLeft old new
      first-some old new (xs, e, p) = (xs, e, some-weaker Over IsLeft xs over-left p)

      pub first-until : (until rest : List ℕ) (m : ℕ) → until ≡ path ++ m ∷ rest → (old new : List (List ℕ)) → CollectsAll (IsListBefore Over until) old new →
          CollectsAll (IsListBefore IsLeft until) old new
      first-until until rest m at old new (xs, e, p) = (
        xs,
        e,
        all-same (IsListBefore Over until) (IsListBefore IsLeft until) xs
            (λ n h. (over-left n h.0, h.1)) (λ n h. (left-over n h.0 (until-end until rest m at n h.1), h.1)) p,
      )

    -- The search goes on with the path, after a longer path through `last`.
    module _ (more : List ℕ) (here : position ≡ path ++ last ∷ more) where
      abbrev pub Done : List ℕ → Type 0
      Done = IsListBefore IsLeft (end_of (path ++ last ∷ []))

      done-before : (n : List ℕ) → Done n → ListBelow n (position_at path last)
      done-before n h = subst (ListBelow n) (end-pushed path last) h.1

      pub next-left : (n : List ℕ) → Over n → IsLeft n
      next-left n o = let (m, l, (c, (rest, e))) = o in (
        over-from n o,
        λ h. below_asym (path ++ last ∷ more) (path ++ m ∷ rest) (below-after path last m more rest l)
            (subst (λ z. ListBelow z (path ++ last ∷ more)) e (subst (ListBelow n) here h)),
      )

      done-over : (a b : List ℕ) → Done a → Over b → ListBelow a b
      done-over a b h (m, l, (c, (rest, e))) = subst (ListBelow a) (sym e) (before-later path last m rest l a (done-before a h))

      done-end : (n : List ℕ) → Done n → ListBelow n (end_of path)
      done-end n h = below-trans n (position_at path last) (end_of path) (done-before n h) (inside-end path (suc last) [] begun)

      split : (n : List ℕ) → IsLeft n → ListBelow n (end_of path) → Done n ⊎ Over n
      split n left before = elim (below-decided n (position_at path last)) [
        | inl h ↦ inl (left, subst (ListBelow n) (sym (end-pushed path last)) h)
        | inr h ↦ inr (over-between n left.0 h before)
      ]

      pub next-all : (old mid new : List (List ℕ)) → CollectsAll Done old mid → CollectsAll Over mid new → CollectsAll (IsListBefore IsLeft (end_of path)) old new
      next-all old mid new (xs, e, p) (ys, f, q) = (
        xs ++ ys,
        f ∙ ap (λ z. z ++ ys) e ∙ append_assoc old xs ys,
        all-join Done Over (IsListBefore IsLeft (end_of path)) xs ys p q (λ n h. (h.0, done-end n h)) (λ n o. (next-left n o, over-end n o)) (λ n h. split n h.0 h.1) done-over,
      )

      pub next-some : (old mid new : List (List ℕ)) → CollectsAll Done old mid → AddsSome Over mid new → AddsSome IsLeft old new
      next-some old mid new (xs, e, p) (ys, f, q) = (
        xs ++ ys,
        f ∙ ap (λ z. z ++ ys) e ∙ append_assoc old xs ys,
        some-join Done Over IsLeft xs ys p.some q (λ n h. h.0) next-left done-over,
      )

      pub next-until : (until rest : List ℕ) (m : ℕ) → last < m → until ≡ path ++ m ∷ rest → (old mid new : List (List ℕ)) → CollectsAll Done old mid →
          CollectsAll (IsListBefore Over until) mid new → CollectsAll (IsListBefore IsLeft until) old new
      next-until until rest m l at old mid new (xs, e, p) (ys, f, q) = (
        xs ++ ys,
        f ∙ ap (λ z. z ++ ys) e ∙ append_assoc old xs ys,
        all-join Done (IsListBefore Over until) (IsListBefore IsLeft until) xs ys p q
            (λ n h. (h.0, subst (ListBelow n) (sym at) (before-later path last m rest l n (done-before n h))))
            (λ n h. (next-left n h.0, h.1))
            (λ n h. elim (split n h.0 (until-end until rest m at n h.1)) [
              | inl done ↦ inl done
              | inr over ↦ inr (over, h.1)
            ])
            (λ a b h o. done-over a b h o.0),
      )

      -- The search is paused later than the position.
      pub next-later : (until rest : List ℕ) (m : ℕ) → last < m → until ≡ path ++ m ∷ rest → ListBelow position until
      next-later until rest m l at = subst (ListBelow position) (sym at) (subst (λ z. ListBelow z (path ++ m ∷ rest)) (sym here) (below-after path last m more rest l))

  -- All cycles of the root are before the end of the root.
  pub left-all : (path : List ℕ) → length path ≤ 1 → 0 < length path → slice_get path 0 ≡ Some root → (old new : List (List ℕ)) →
      CollectsAll (IsListBefore IsLeft (end_of path)) old new → CollectsAll IsLeft old new
  left-all [] most begun head old new h = absurd (omega (arith, begun))
  left-all (x ∷ y ∷ path) most begun head old new h = absurd (omega (arith, most))
  left-all (x ∷ []) most begun head old new (xs, e, p) = (xs, e, all-same (IsListBefore IsLeft (suc x ∷ [])) IsLeft xs (λ n h. h.0) (λ n h. (h, before n h.0.1)) p)
    where
      before : (n : List ℕ) → slice_get n 0 ≡ Some root → ListBelow n (suc x ∷ [])
      before [] at = tt
      before (a ∷ n) at = inl (omega (arith, same_Some a root at, same_Some x root head))

  -- No cycle of the root is before the first position.
  pub first-none : position ≡ position_at (root ∷ []) root → AreAll (IsListBefore (CycleFrom ds bound root) position) []
  first-none at = all-none (IsListBefore (CycleFrom ds bound root) position) (λ n h.
      let (m, l, (c, (rest, e))) = root-beyond ds bound root n h.0 in
      not-before (root ∷ []) root m rest l (subst (λ z. ListBelow z (position_at (root ∷ []) root)) e (subst (ListBelow n) at h.1)))

  -- The cycles that a search found before it was paused, and those that it found then.
  module _ (xs ys : List (List ℕ)) (kept : AreAll (IsListBefore (CycleFrom ds bound root) position) xs) where
    apart : (a b : List ℕ) → IsListBefore (CycleFrom ds bound root) position a → IsLeft b → ListBelow a b
    apart a b h g = before-not a position b h.1 g.1

    pub joined-all : AreAll IsLeft ys → AreCyclesFrom ds bound root (xs ++ ys)
    joined-all q =
        let all : AreAll (CycleFrom ds bound root) (xs ++ ys) = all-join (IsListBefore (CycleFrom ds bound root) position) IsLeft (CycleFrom ds bound root) xs ys kept q
        (λ n h. h.0) (λ n h. h.0)
        (λ n h. elim (below-decided n position) [
          | inl before ↦ inl (h, before)
          | inr after ↦ inr (h, after)
        ])
        apart in
        record { exact = λ n. (all.some.sound n, all.complete n); in_order = all.some.in_order }

    pub joined-until : (until : List ℕ) → (ListBelow until position → ⊥) → AreAll (IsListBefore IsLeft until) ys → AreAll (IsListBefore (CycleFrom ds bound root) until) (xs ++ ys)
    joined-until until later q = all-join (IsListBefore (CycleFrom ds bound root) position) (IsListBefore IsLeft until) (IsListBefore (CycleFrom ds bound root) until) xs ys kept q
        (λ n h. (h.0, before-not n position until h.1 later))
        (λ n h. (h.0.0, h.1))
        (λ n h. elim (below-decided n position) [
          | inl before ↦ inl (h.0, before)
          | inr after ↦ inr ((h.0, after), h.1)
        ])
        (λ a b h g. apart a b h g.0)

    pub joined-many : (most : ℕ) → AreSome IsLeft ys → most < length (xs ++ ys) → MoreThan (CycleFrom ds bound root) most
    joined-many most q long =
        (xs ++ ys, some-join (IsListBefore (CycleFrom ds bound root) position) IsLeft (CycleFrom ds bound root) xs ys kept.some q (λ n h. h.0) (λ n h. h.0) apart, long)
