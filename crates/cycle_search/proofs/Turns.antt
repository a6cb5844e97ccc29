-- The cycles that each step of the search finds.
use Rattle.std.proofs.Common.{◌≡◌, ℕ, suc, ◌+◌, ◌<◌, ◌≤◌, ◌⊎◌, inl, inr, None, List, [], ◌∷◌, ◌++◌, length, slice_get, Some, refl, sym, ap, ◌∙◌, subst, append_assoc, arith}
use Rattle.std.proofs.lemmas.Option.{none-some, same_Some, slice_get_within}
use Rattle.std.proofs.lemmas.List.{length-append}
use Rattle.std.proofs.lemmas.Bool.{cases_lt}
use Rattle.trace_model.specs.Theory.Dependencies.{Dependency}
use Rattle.trace_model.specs.Theory.Cycles.{ListBelow, IsCycle, AreCyclesFrom}
use Rattle.trace_model.proofs.Theory.Unique.{has_contained, contains_had, increasing_ordered}
use Rattle.cycle_search.specs.Collecting.{CollectsAll, AddsSome}
use Rattle.cycle_search.specs.CycleSearch.{AreSome, AreAll, MoreThan, CycleFrom, CycleThrough, CycleOver, IsAmong, CycleUpTo, IsPath, ContinuesPath, CompletesCycle, CompletesAsLast, AreNexts}
use Rattle.cycle_search.specs.Pausing.{IsListBefore}
use Rattle.cycle_search.specs.Acquirers.{IsLeastAbove}
use Rattle.cycle_search.proofs.Listing.{below-after, some-join, all-join, some-weaker, all-same, all-none, all-one}
use Rattle.trace_model.proofs.Lists.{length-push}
use Rattle.cycle_search.proofs.Positions.{below-next}
use Rattle.cycle_search.proofs.Paths.{cycle-from_path, follows-from_cycle, closed-no_more, closes-from_cycle, last-takes_back}

module _ (ds : List Dependency) (bound : ℕ) (path : List ℕ) (m : ℕ) where
  -- No cycle continues with a number that does not follow the path.
  pub rejected : 0 < length path → (ContinuesPath ds path m → ⊥) → AreAll (CycleThrough ds bound path m) []
  rejected begun none = all-none (CycleThrough ds bound path m)
      (λ n h. none (follows-from_cycle ds bound path m h.1.0 begun (subst (λ x. IsCycle ds bound x) h.1.1 h.0)))

  -- A path that closes is the only cycle through its last number.
  pub closed : IsPath ds (path ++ m ∷ []) → CompletesCycle ds (path ++ m ∷ []) → 0 < length path → length path < bound →
      AreAll (CycleThrough ds bound path m) ((path ++ m ∷ []) ∷ [])
  closed p closes begun room = all-one (CycleThrough ds bound path m) (path ++ m ∷ [])
      (cycle-from_path ds (path ++ m ∷ []) p closes bound (omega (arith, length-push path m)) (omega (arith, length-push path m)), ([], refl))
      (λ n h. only n h.0 h.1.0 h.1.1)
    where
      only : (n : List ℕ) → IsCycle ds bound n → (rest : List ℕ) → n ≡ path ++ m ∷ rest → path ++ m ∷ [] ≡ n
      only n c [] e = sym e
      only n c (x ∷ rest) e = absurd (closed-no_more ds bound (path ++ m ∷ []) x rest p.begun
          (subst (λ z. IsCycle ds bound z) (e ∙ sym (append_assoc path (m ∷ []) (x ∷ rest))) c) p.known closes)

  pub one-closed : IsPath ds (path ++ m ∷ []) → CompletesCycle ds (path ++ m ∷ []) → 0 < length path → length path < bound →
      AreSome (CycleThrough ds bound path m) ((path ++ m ∷ []) ∷ [])
  one-closed p closes begun room = let all = closed p closes begun room in all.some

  -- A longer cycle continues with a number above the first one.
  module _ (first : ℕ) (head : slice_get (path ++ m ∷ []) 0 ≡ Some first) where
    pub forth : (n : List ℕ) → CycleOver ds bound (path ++ m ∷ []) (λ x. first < x) n → CycleThrough ds bound path m n
    forth n (x, l, (c, (rest, e))) = (c, (x ∷ rest, e ∙ append_assoc path (m ∷ []) (x ∷ rest)))

    pub back : (CompletesCycle ds (path ++ m ∷ []) → ⊥) → (n : List ℕ) → CycleThrough ds bound path m n → CycleOver ds bound (path ++ m ∷ []) (λ x. first < x) n
    back open' n h = go h.0 h.1.0 h.1.1
      where
        go : IsCycle ds bound n → (rest : List ℕ) → n ≡ path ++ m ∷ rest → CycleOver ds bound (path ++ m ∷ []) (λ x. first < x) n
        go c [] e = absurd (open' (closes-from_cycle ds bound (path ++ m ∷ []) (subst (λ z. IsCycle ds bound z) e c)))
        go c (x ∷ rest) e =
            let longer : n ≡ (path ++ m ∷ []) ++ x ∷ rest = e ∙ sym (append_assoc path (m ∷ []) (x ∷ rest)) in
            let f = follows-from_cycle ds bound (path ++ m ∷ []) x rest (omega (arith, length-push path m)) (subst (λ z. IsCycle ds bound z) longer c) in
            (x, f.above first head, (c, (rest, longer)))

    -- A path that does not close begins only longer cycles.
    pub deeper : (more : List (List ℕ)) → (CompletesCycle ds (path ++ m ∷ []) → ⊥) → AreAll (CycleOver ds bound (path ++ m ∷ []) (λ x. first < x)) more →
        AreAll (CycleThrough ds bound path m) more
    deeper more open' a = all-same (CycleOver ds bound (path ++ m ∷ []) (λ x. first < x)) (CycleThrough ds bound path m) more forth (back open') a

    pub deeper-some : (more : List (List ℕ)) → AreSome (CycleOver ds bound (path ++ m ∷ []) (λ x. first < x)) more → AreSome (CycleThrough ds bound path m) more
    deeper-some more a = some-weaker (CycleOver ds bound (path ++ m ∷ []) (λ x. first < x)) (CycleThrough ds bound path m) more forth a

    pub deeper-until : (position : List ℕ) (more : List (List ℕ)) → (CompletesCycle ds (path ++ m ∷ []) → ⊥) →
        AreAll (IsListBefore (CycleOver ds bound (path ++ m ∷ []) (λ x. first < x)) position) more → AreAll (IsListBefore (CycleThrough ds bound path m) position) more
    deeper-until position more open' a = all-same (IsListBefore (CycleOver ds bound (path ++ m ∷ []) (λ x. first < x)) position)
        (IsListBefore (CycleThrough ds bound path m) position) more (λ n h. (forth n h.0, h.1)) (λ n h. (back open' n h.0, h.1)) a

  -- It begins none if it has as many members as the bound.
  pub full : (CompletesCycle ds (path ++ m ∷ []) → ⊥) → bound ≤ length (path ++ m ∷ []) → AreAll (CycleThrough ds bound path m) []
  full open' long = all-none (CycleThrough ds bound path m) (λ n h. go n h.0 h.1.0 h.1.1)
    where
      go : (n : List ℕ) → IsCycle ds bound n → (rest : List ℕ) → n ≡ path ++ m ∷ rest → ⊥
      go n c [] e = open' (closes-from_cycle ds bound (path ++ m ∷ []) (subst (λ z. IsCycle ds bound z) e c))
      go n c (x ∷ rest) e = omega (arith, c.at_most, ap length e, length-append path (m ∷ x ∷ rest), length-push path m, long)

  -- A search that is paused at the number has none of them.
  pub none-before : AreAll (IsListBefore (CycleThrough ds bound path m) (path ++ m ∷ [])) []
  none-before = all-none (IsListBefore (CycleThrough ds bound path m) (path ++ m ∷ [])) (λ n h. own path h.0.1.0 (subst (λ z. ListBelow z (path ++ m ∷ [])) h.0.1.1 h.1))
    where
      own : (xs rest : List ℕ) → ListBelow (xs ++ m ∷ rest) (xs ++ m ∷ []) → ⊥
      own [] [] (inl l) = omega (arith, l)
      own [] [] (inr h) = h.1
      own [] (x ∷ rest) (inl l) = omega (arith, l)
      own [] (x ∷ rest) (inr h) = h.1
      own (x ∷ xs) rest (inl l) = omega (arith, l)
      own (x ∷ xs) rest (inr h) = own xs rest h.1

module _ (ds : List Dependency) (bound : ℕ) (path : List ℕ) (P : ℕ → Type 0) where
  module _ (m : ℕ) (less : (n : ℕ) → P n → n < m) where
    below : (a b : List ℕ) → CycleOver ds bound path P a → CycleThrough ds bound path m b → ListBelow a b
    below a b (n, p, (c, (rest, e))) (d, (more, f)) =
        subst (λ z. ListBelow z b) (sym e) (subst (λ z. ListBelow (path ++ n ∷ rest) z) (sym f) (below-after path n m rest more (less n p)))

    -- The numbers so far, and a greater one.
    pub over-more : (Q : ℕ → Type 0) → ((n : ℕ) → P n → Q n) → Q m →
        ((n : ℕ) (numbers : List ℕ) → Q n → CycleThrough ds bound path n numbers → P n ⊎ (n ≡ m)) → (old mid new : List (List ℕ)) →
        CollectsAll (CycleOver ds bound path P) old mid → CollectsAll (CycleThrough ds bound path m) mid new → CollectsAll (CycleOver ds bound path Q) old new
    over-more Q grows here split old mid new (xs, e, p) (ys, f, q) = (
      xs ++ ys,
      f ∙ ap (λ z. z ++ ys) e ∙ append_assoc old xs ys,
      all-join (CycleOver ds bound path P) (CycleThrough ds bound path m) (CycleOver ds bound path Q) xs ys p q
          (λ n h. (h.0, grows h.0 h.1, h.2))
          (λ n h. (m, here, h))
          (λ n h. elim (split h.0 n h.1 h.2) [
            | inl u ↦ inl (h.0, u, h.2)
            | inr u ↦ inr (subst (λ x. CycleThrough ds bound path x n) u h.2)
          ])
          below,
    )

    pub over-some : (Q : ℕ → Type 0) → ((n : ℕ) → P n → Q n) → Q m → (old mid new : List (List ℕ)) → CollectsAll (CycleOver ds bound path P) old mid →
        AddsSome (CycleThrough ds bound path m) mid new → AddsSome (CycleOver ds bound path Q) old new
    over-some Q grows here old mid new (xs, e, p) (ys, f, q) = (
      xs ++ ys,
      f ∙ ap (λ z. z ++ ys) e ∙ append_assoc old xs ys,
      some-join (CycleOver ds bound path P) (CycleThrough ds bound path m) (CycleOver ds bound path Q) xs ys p.some q
          (λ n h. (h.0, grows h.0 h.1, h.2))
          (λ n h. (m, here, h))
          below,
    )

    -- The numbers so far, and a greater one at which the search is paused.
    pub over-until : (Q : ℕ → Type 0) → ((n : ℕ) → P n → Q n) → Q m →
        ((n : ℕ) (numbers : List ℕ) → Q n → CycleThrough ds bound path n numbers → n < m → P n) →
        (position rest : List ℕ) → position ≡ path ++ m ∷ rest → (old mid new : List (List ℕ)) → CollectsAll (CycleOver ds bound path P) old mid →
        CollectsAll (IsListBefore (CycleThrough ds bound path m) position) mid new → CollectsAll (IsListBefore (CycleOver ds bound path Q) position) old new
    over-until Q grows here split position rest at old mid new (xs, e, p) (ys, f, q) = (
      xs ++ ys,
      f ∙ ap (λ z. z ++ ys) e ∙ append_assoc old xs ys,
      all-join (CycleOver ds bound path P) (IsListBefore (CycleThrough ds bound path m) position) (IsListBefore (CycleOver ds bound path Q) position) xs ys p q
          (λ n h. (
            (h.0, grows h.0 h.1, h.2),
            subst (ListBelow n) (sym at)
                (subst (λ z. ListBelow z (path ++ m ∷ rest)) (sym h.2.1.1) (below-after path h.0 m h.2.1.0 rest (less h.0 h.1))),
          ))
          (λ n h. ((m, here, h.0), h.1))
          (λ n h.
          let (k, k-in, through) = h.0 in
          let most = below-next path k m through.1.0 rest (subst (λ z. ListBelow z (path ++ m ∷ rest)) through.1.1 (subst (ListBelow n) at h.1)) in
          elim (cases_lt k m) [
            | inl l ↦ inl (k, split k n k-in through l, through)
            | inr l ↦ let same : k ≡ m = omega (arith, l, most) in inr (subst (λ x. CycleThrough ds bound path x n) same through, h.1)
          ])
          (λ a b u v. below a b u v.0),
    )

  -- Every longer cycle continues with such a number.
  pub over-end : (Q : ℕ → Type 0) → ((n : ℕ) → P n → Q n) → ((n : ℕ) (numbers : List ℕ) → Q n → CycleThrough ds bound path n numbers → P n) → (old new : List (List ℕ)) →
      CollectsAll (CycleOver ds bound path P) old new → CollectsAll (CycleOver ds bound path Q) old new
  over-end Q grows covers old new (xs, e, p) = (
    xs,
    e,
    all-same (CycleOver ds bound path P) (CycleOver ds bound path Q) xs
        (λ n h. (h.0, grows h.0 h.1, h.2))
        (λ n h. (h.0, covers h.0 n h.1 h.2, h.2))
        p,
  )

-- The numbers of a list, one after another.
module _ (ds : List Dependency) (bound : ℕ) (path : List ℕ) (after : ℕ) (nexts : List ℕ) (begun : 0 < length path) (are : AreNexts ds path after nexts) where
  above : (i n : ℕ) → IsAmong nexts i n → after < n
  above i n (k, l, g) = are.above n (contains_had nexts n (k, g))

  listed : (n : ℕ) (numbers : List ℕ) → after < n → CycleThrough ds bound path n numbers → (k : ℕ) × (slice_get nexts k ≡ Some n)
  listed n numbers l h =
      let f = follows-from_cycle ds bound path n h.1.0 begun (subst (λ x. IsCycle ds bound x) h.1.1 h.0) in
      has_contained nexts n (are.complete n f.known l f.linked)

  module _ (i m : ℕ) (at : slice_get nexts i ≡ Some m) where
    less : (n : ℕ) → IsAmong nexts i n → n < m
    less n (k, l, g) = increasing_ordered nexts are.ascends k i n m l g at

    here : after < m
    here = are.above m (contains_had nexts m (i, at))

    pub adds-more : (old mid new : List (List ℕ)) → CollectsAll (CycleOver ds bound path (IsAmong nexts i)) old mid → CollectsAll (CycleThrough ds bound path m) mid new →
        CollectsAll (CycleOver ds bound path (IsAmong nexts (i + 1))) old new
    adds-more = over-more ds bound path (IsAmong nexts i) m less (IsAmong nexts (i + 1))
        (λ n h. (h.0, omega (arith, h.1), h.2))
        (i, omega arith, at)
        (λ n numbers h c. elim (cases_lt h.0 i) [
          | inl l ↦ inl (h.0, l, h.2)
          | inr l ↦ let same : h.0 ≡ i = omega (arith, l, h.1) in inr (same_Some n m (sym h.2 ∙ ap (slice_get nexts) same ∙ at))
        ])

    pub some-more : (old mid new : List (List ℕ)) → CollectsAll (CycleOver ds bound path (IsAmong nexts i)) old mid →
        AddsSome (CycleThrough ds bound path m) mid new → AddsSome (CycleOver ds bound path (λ n. after < n)) old new
    some-more = over-some ds bound path (IsAmong nexts i) m less (λ n. after < n) (above i) here

    pub until-more : (position rest : List ℕ) → position ≡ path ++ m ∷ rest → (old mid new : List (List ℕ)) →
        CollectsAll (CycleOver ds bound path (IsAmong nexts i)) old mid → CollectsAll (IsListBefore (CycleThrough ds bound path m) position) mid new →
        CollectsAll (IsListBefore (CycleOver ds bound path (λ n. after < n)) position) old new
    until-more = over-until ds bound path (IsAmong nexts i) m less (λ n. after < n) (above i) here
        (λ n numbers l c below.
        let k = listed n numbers l c in
        elim (cases_lt k.0 i) [
          | inl earlier ↦ (k.0, earlier, k.1)
          | inr later ↦ absurd (elim (cases_lt i k.0) [
            | inl l ↦ omega (arith, below, increasing_ordered nexts are.ascends i k.0 m n l at k.1)
            | inr l ↦ let same : k.0 ≡ i = omega (arith, l, later) in omega (arith, below, same_Some n m (sym k.1 ∙ ap (slice_get nexts) same ∙ at))
          ])
        ])

    -- The search is paused later than at the first number, if this is a later one.
    pub above-first : 0 < i → (first : ℕ) → slice_get nexts 0 ≡ Some first → suc after < m
    above-first l first start = omega (arith, are.above first (contains_had nexts first (0, start)), increasing_ordered nexts are.ascends 0 i first m l start at)

  pub adds-end : (i : ℕ) (old new : List (List ℕ)) → length nexts ≤ i →
      CollectsAll (CycleOver ds bound path (IsAmong nexts i)) old new → CollectsAll (CycleOver ds bound path (λ n. after < n)) old new
  adds-end i old new end = over-end ds bound path (IsAmong nexts i) (λ n. after < n) (above i)
      (λ n numbers l h.
      let k = listed n numbers l h in
      let inside = slice_get_within nexts k.0 n k.1 in
      (k.0, omega (arith, inside, end), k.1))
      old new

-- The last members, looked up by the locks that they acquire.
module _ (ds : List Dependency) (bound : ℕ) (path : List ℕ) (after : ℕ) (p : IsPath ds path) (one : length path + 1 ≡ bound) where
  closer : (n : ℕ) (numbers : List ℕ) → CycleThrough ds bound path n numbers → CompletesAsLast ds path n
  closer n numbers (c, (rest, e)) = last-takes_back ds bound path n rest p (omega arith) (subst (λ x. IsCycle ds bound x) e c)

  module _ (last m : ℕ) (from : after ≤ last) (least : IsLeastAbove last (CompletesAsLast ds path) (Some m)) where
    over : last < m
    over = (least.sound m refl).0

    pub closers-more : (old mid new : List (List ℕ)) → CollectsAll (CycleUpTo ds bound path after last) old mid → CollectsAll (CycleThrough ds bound path m) mid new →
        CollectsAll (CycleUpTo ds bound path after m) old new
    closers-more = over-more ds bound path (λ n. (after < n) × (n ≤ last)) m (λ n l. omega (arith, over, l.1)) (λ n. (after < n) × (n ≤ m))
        (λ n l. (l.0, omega (arith, over, l.1)))
        (omega (arith, over, from), omega arith)
        (λ n numbers l c. elim (cases_lt last n) [
          | inl more ↦
              let (k, e, within) = least.least n (more, closer n numbers c) in
              inr (omega (arith, same_Some m k e, within, l.1))
          | inr less ↦ inl (l.0, less)
        ])

    pub closers-some : (old mid new : List (List ℕ)) → CollectsAll (CycleUpTo ds bound path after last) old mid →
        AddsSome (CycleThrough ds bound path m) mid new → AddsSome (CycleOver ds bound path (λ n. after < n)) old new
    closers-some = over-some ds bound path (λ n. (after < n) × (n ≤ last)) m (λ n l. omega (arith, over, l.1)) (λ n. after < n) (λ n l. l.0) (omega (arith, over, from))

    pub closers-until : (position rest : List ℕ) → position ≡ path ++ m ∷ rest → (old mid new : List (List ℕ)) →
        CollectsAll (CycleUpTo ds bound path after last) old mid → CollectsAll (IsListBefore (CycleThrough ds bound path m) position) mid new →
        CollectsAll (IsListBefore (CycleOver ds bound path (λ n. after < n)) position) old new
    closers-until = over-until ds bound path (λ n. (after < n) × (n ≤ last)) m (λ n l. omega (arith, over, l.1)) (λ n. after < n) (λ n l. l.0) (omega (arith, over, from))
        (λ n numbers l c below. elim (cases_lt last n) [
          | inl more ↦ let (k, e, within) = least.least n (more, closer n numbers c) in absurd (omega (arith, same_Some m k e, within, below))
          | inr less ↦ (l, less)
        ])

  pub closers-end : (last : ℕ) → IsLeastAbove last (CompletesAsLast ds path) None → (old new : List (List ℕ)) →
      CollectsAll (CycleUpTo ds bound path after last) old new → CollectsAll (CycleOver ds bound path (λ n. after < n)) old new
  closers-end last least = over-end ds bound path (λ n. (after < n) × (n ≤ last)) (λ n. after < n) (λ n l. l.0)
      (λ n numbers l c. elim (cases_lt last n) [
        | inl more ↦ let (k, e, within) = least.least n (more, closer n numbers c) in absurd (none-some k e)
        | inr less ↦ (l, less)
      ])

  -- No cycle continues with a number above `after` and up to it.
  pub closers-begin : AreAll (CycleUpTo ds bound path after after) []
  closers-begin = all-none (CycleUpTo ds bound path after after) (λ n (m, l, h). omega (arith, l.0, l.1))

module _ (ds : List Dependency) (bound root : ℕ) where
  pub beyond-root : (n : List ℕ) → CycleOver ds bound (root ∷ []) (λ x. root < x) n → CycleFrom ds bound root n
  beyond-root n (x, l, (c, (rest, e))) = (c, ap (λ z. slice_get z 0) e)

  pub root-beyond : (n : List ℕ) → CycleFrom ds bound root n → CycleOver ds bound (root ∷ []) (λ x. root < x) n
  root-beyond [] h = absurd (none-some root h.1)
  root-beyond (x ∷ []) h = absurd (omega (arith, h.0.at_least_two))
  root-beyond (x ∷ y ∷ n) h =
      let e : x ∷ y ∷ n ≡ root ∷ y ∷ n = ap (λ z. z ∷ y ∷ n) (same_Some x root h.1) in
      let f = follows-from_cycle ds bound (root ∷ []) y n (omega arith) (subst (λ z. IsCycle ds bound z) e h.0) in
      (y, f.above root refl, (h.0, (n, e)))

  -- A cycle from the root is one that begins with the root and has more members.
  pub all-from_root : (before after : List (List ℕ)) → CollectsAll (CycleOver ds bound (root ∷ []) (λ x. root < x)) before after →
      CollectsAll (CycleFrom ds bound root) before after
  all-from_root before after (xs, e, p) =
      (xs, e, all-same (CycleOver ds bound (root ∷ []) (λ x. root < x)) (CycleFrom ds bound root) xs beyond-root root-beyond p)

  pub some-from_root : (before after : List (List ℕ)) → AddsSome (CycleOver ds bound (root ∷ []) (λ x. root < x)) before after →
      AddsSome (CycleFrom ds bound root) before after
  some-from_root before after (xs, e, p) =
      (xs, e, some-weaker (CycleOver ds bound (root ∷ []) (λ x. root < x)) (CycleFrom ds bound root) xs beyond-root p)

  -- All cycles from the root, after none.
  pub cycles-from : (after : List (List ℕ)) → CollectsAll (CycleFrom ds bound root) [] after → AreCyclesFrom ds bound root after
  cycles-from after (xs, e, p) = subst (λ z. AreCyclesFrom ds bound root z) (sym e) (record {
    exact = λ n. (p.some.sound n, p.complete n);
    in_order = p.some.in_order;
  })

  pub more-from : (most : ℕ) (after : List (List ℕ)) → AddsSome (CycleFrom ds bound root) [] after → most < length after →
      MoreThan (CycleFrom ds bound root) most
  more-from most after (xs, e, p) l = (xs, p, omega (arith, l, ap length e))
