-- One lock of a holding, at another depth.
use Rattle.std.proofs.Common.{◌≡◌, ℕ, zero, suc, ◌-◌, ◌<◌, ◌≤◌, ◌⊎◌, inl, inr, Bool, true, false, cond, not, ◌==◌, ◌||◌, leb, ltb, List, [], ◌∷◌, length, slice_get, slice_set, insert, Some, None, refl, sym, ap, subst, ◌∙◌, arith}
use Rattle.std.proofs.lemmas.Bool.{cases_lt, cases_eq, le-leb, lt-leb, lt-ltb, le-ltb, eq-eqb, eqb-true, ne_eqb, leb-true, leb-false, or_parts, false≢true}
use Rattle.std.proofs.lemmas.List.Kept.{IsStrictlyIncreasing-filter}
use Rattle.std.proofs.lemmas.Option.{none-some, same_Some}
use Rattle.std.specs.List.{AllByRecursion, refill, remove}
use Rattle.std.specs.List.Sorted.{IsStrictlyIncreasing}
use Rattle.trace_model.specs.declared.traces.event.Op.TheVariants.{Acquire, Release}
use Rattle.trace_model.specs.Theory.Held.{has, with_lock, without_lock}
use Rattle.trace_model.proofs.Theory.HeldAscends.{Above, Ascends, above_lower}
use Rattle.trace_model.proofs.Theory.Depths.{above_lacks, with-known}
use Rattle.held_sets.specs.declared.holding.LockDepth.{LockDepth}
use Rattle.held_sets.specs.Tables.{locks_of, depth_of, outer_locks, IsHolding, index_for, depth_at, HasDepth, IsHeldAfter}
use Rattle.held_sets.proofs.Locks.{ascends_from, with_increases}

-- ---- the index of a lock

pub index_most : (l : ℕ) (ds : List LockDepth) → index_for l ds ≤ length ds
index_most l [] = omega arith
index_most l (d ∷ ds) = go (index_most l ds) (leb l d.lock)
  where
    go : index_for l ds ≤ length ds → (b : Bool) → cond b 0 (suc (index_for l ds)) ≤ suc (length ds)
    go more true = omega arith
    go more false = omega arith

-- an index that is at most that of the lock: the lock is there or further
pub index_there : (l : ℕ) (ds : List LockDepth) (i : ℕ) (d : LockDepth) → slice_get ds i ≡ Some d → i ≤ index_for l ds →
    (l ≤ d.lock → i ≡ index_for l ds) × (d.lock < l → suc i ≤ index_for l ds)
index_there l [] i d at within = absurd (none-some d at)
index_there l (x ∷ ds) zero d at within = go (leb l x.lock) refl
  where
    same : x ≡ d
    same = same_Some x d at

    go : (b : Bool) → leb l x.lock ≡ b → (l ≤ d.lock → 0 ≡ cond b 0 (suc (index_for l ds))) × (d.lock < l → 1 ≤ cond b 0 (suc (index_for l ds)))
    go true e = ((λ _. refl), λ h. absurd (omega (arith, h, leb-true l x.lock e, ap (λ y. y.lock) same)))
    go false e = ((λ h. absurd (omega (arith, h, leb-false l x.lock e, ap (λ y. y.lock) same))), λ _. omega arith)
index_there l (x ∷ ds) (suc i) d at within = go (leb l x.lock) within (λ w. index_there l ds i d at w)
  where
    go : (b : Bool) → suc i ≤ cond b 0 (suc (index_for l ds)) →
        (i ≤ index_for l ds → (l ≤ d.lock → i ≡ index_for l ds) × (d.lock < l → suc i ≤ index_for l ds)) →
        (l ≤ d.lock → suc i ≡ cond b 0 (suc (index_for l ds))) × (d.lock < l → suc (suc i) ≤ cond b 0 (suc (index_for l ds)))
    go true w more = absurd (omega (arith, w))
    go false w more = let m = more (omega (arith, w)) in ((λ h. ap suc (m.0 h)), λ h. omega (arith, m.1 h))

-- ---- a lock is in the list exactly if its depth is above 0

abbrev pub AreHeld : List LockDepth → Type 0
AreHeld ds = AllByRecursion (λ d. 0 < d.depth) ds

pub none_at_zero : (l : ℕ) (ds : List LockDepth) → AreHeld ds → depth_of ds l ≡ 0 → has l (locks_of ds) ≡ false
none_at_zero l [] h z = refl
none_at_zero l (d ∷ ds) h z = go (none_at_zero l ds h.1) (d.lock == l) z
  where
    go : (depth_of ds l ≡ 0 → has l (locks_of ds) ≡ false) → (b : Bool) → cond b d.depth (depth_of ds l) ≡ 0 → (b || has l (locks_of ds)) ≡ false
    go more true e = absurd (omega (arith, e, h.0))
    go more false e = more e

pub zero_at_none : (l : ℕ) (ds : List LockDepth) → has l (locks_of ds) ≡ false → depth_of ds l ≡ 0
zero_at_none l [] h = refl
zero_at_none l (d ∷ ds) h = let r = or_parts (d.lock == l) (has l (locks_of ds)) h in rw r.0 (zero_at_none l ds r.1)

pub some_at_depth : (l : ℕ) (ds : List LockDepth) → 0 < depth_of ds l → has l (locks_of ds) ≡ true
some_at_depth l ds h = go (has l (locks_of ds)) refl
  where
    go : (b : Bool) → has l (locks_of ds) ≡ b → b ≡ true
    go true e = refl
    go false e = absurd (omega (arith, h, zero_at_none l ds e))

-- the depth of a lock below all
zero_below : (l : ℕ) (ds : List LockDepth) → Above l (locks_of ds) → Ascends (locks_of ds) → depth_of ds l ≡ 0
zero_below l ds a up = zero_at_none l ds (above_lacks l (locks_of ds) a up)

pub without_none : (l : ℕ) (ks : List ℕ) → has l ks ≡ false → without_lock l ks ≡ ks
without_none l [] h = refl
without_none l (k ∷ ks) h = let r = or_parts (k == l) (has l ks) h in rw r.0 (ap (λ xs. k ∷ xs) (without_none l ks r.1))

-- ---- comparison of two locks

abbrev Before : ℕ → ℕ → Type 0
Before l k = (leb l k ≡ true) × (ltb l k ≡ true) × ((l == k) ≡ false) × ((k == l) ≡ false) × (l < k)

abbrev Same : ℕ → ℕ → Type 0
Same l k = (leb l k ≡ true) × (ltb l k ≡ false) × ((l == k) ≡ true) × ((k == l) ≡ true) × (l ≡ k)

abbrev After : ℕ → ℕ → Type 0
After l k = (leb l k ≡ false) × (ltb l k ≡ false) × ((l == k) ≡ false) × ((k == l) ≡ false) × (k < l)

compared : (l k : ℕ) → Before l k ⊎ (Same l k ⊎ After l k)
compared l k = elim (cases_lt l k) [
  | inl a ↦ inl (le-leb l k (omega arith), lt-ltb l k a, ne_eqb l k (λ e. omega arith), ne_eqb k l (λ e. omega arith), a)
  | inr b ↦ elim (cases_eq l k) [
    | inl e ↦ inr (inl (le-leb l k (omega arith), le-ltb l k b, eq-eqb l k e, eq-eqb k l (sym e), e))
    | inr n ↦ let less : k < l = omega (arith, b, n) in inr (inr (lt-leb l k less, le-ltb l k b, ne_eqb l k n, ne_eqb k l (λ e. n (sym e)), less))
  ]
]

pub at_index : (l : ℕ) (ds : List LockDepth) → Ascends (locks_of ds) → depth_at l ds (index_for l ds) ≡ depth_of ds l
at_index l [] up = refl
at_index l (d ∷ ds) up = elim (compared l d.lock) [
  | inl h ↦ rw (h.0, h.3) (sym (zero_below l ds (above_lower l d.lock (locks_of ds) h.4 up.0) up.1))
  | inr (inl h) ↦ rw (h.0, h.3) refl
  | inr (inr h) ↦ rw (h.0, h.3) (at_index l ds up.1)
]

not_before : (l : ℕ) (d : LockDepth) (ds : List LockDepth) → Ascends (locks_of (d ∷ ds)) → 0 < depth_of (d ∷ ds) l → Before l d.lock → ⊥
not_before l d ds up h b = omega (arith, h, zero_below l (d ∷ ds) b.4 up)

pub index_within : (l : ℕ) (ds : List LockDepth) → Ascends (locks_of ds) → 0 < depth_of ds l → index_for l ds < length ds
index_within l [] up h = absurd (omega (arith, h))
index_within l (d ∷ ds) up h = elim (compared l d.lock) [
  | inl c ↦ absurd (not_before l d ds up h c)
  | inr (inl c) ↦ rw c.0 (omega arith)
  | inr (inr c) ↦ let more = index_within l ds up.1 (rw c.3 at h) in rw c.0 (omega arith)
]

-- ---- a held lock at another depth

pub refill_same : (xs ws : List LockDepth) → length ws ≡ length xs → refill (length xs) xs ws ≡ ws
refill_same [] [] e = refl
refill_same [] (w ∷ ws) e = absurd (omega (arith, e))
refill_same (x ∷ xs) [] e = absurd (omega (arith, e))
refill_same (x ∷ xs) (w ∷ ws) e = ap (λ ys. w ∷ ys) (refill_same xs ws (omega (arith, e)))

abbrev pub at_depth : ℕ → ℕ → LockDepth
at_depth l n = record { lock = l; depth = n }

pub set_locks : (l n : ℕ) (ds : List LockDepth) → Ascends (locks_of ds) → 0 < depth_of ds l →
    locks_of (slice_set ds (index_for l ds) (at_depth l n)) ≡ locks_of ds
set_locks l n [] up h = refl
set_locks l n (d ∷ ds) up h = elim (compared l d.lock) [
  | inl c ↦ absurd (not_before l d ds up h c)
  | inr (inl c) ↦ rw c.0 (ap (λ k. k ∷ locks_of ds) c.4)
  | inr (inr c) ↦ rw c.0 (ap (λ ks. d.lock ∷ ks) (set_locks l n ds up.1 (rw c.3 at h)))
]

-- a third lock does not equal both
apart : (l k m : ℕ) (a b x : ℕ) → k < l → cond (k == m) a (cond (l == m) b x) ≡ cond (l == m) b (cond (k == m) a x)
apart l k m a b x less = go (k == m) refl (l == m) refl
  where
    go : (p : Bool) → (k == m) ≡ p → (q : Bool) → (l == m) ≡ q → cond p a (cond q b x) ≡ cond q b (cond p a x)
    go true e true f = absurd (omega (arith, less, eqb-true k m e, eqb-true l m f))
    go true e false f = refl
    go false e q f = refl

pub set_depths : (l n : ℕ) (ds : List LockDepth) → Ascends (locks_of ds) → 0 < depth_of ds l → (m : ℕ) →
    depth_of (slice_set ds (index_for l ds) (at_depth l n)) m ≡ cond (l == m) n (depth_of ds m)
set_depths l n [] up h m = absurd (omega (arith, h))
set_depths l n (d ∷ ds) up h m = elim (compared l d.lock) [
  | inl c ↦ absurd (not_before l d ds up h c)
  | inr (inl c) ↦ rw c.0 (over c.4 (l == m) refl)
  | inr (inr c) ↦ rw c.0 (ap (cond (d.lock == m) d.depth) (set_depths l n ds up.1 (rw c.3 at h) m) ∙ apart l d.lock m d.depth n (depth_of ds m) c.4)
]
  where
    over : l ≡ d.lock → (b : Bool) → (l == m) ≡ b → cond b n (depth_of ds m) ≡ cond b n (cond (d.lock == m) d.depth (depth_of ds m))
    over same true e = refl
    over same false e = rw (subst (λ k. (k == m) ≡ false) same e) refl

pub set_held : (x : LockDepth) (ds : List LockDepth) (i : ℕ) → 0 < x.depth → AreHeld ds → AreHeld (slice_set ds i x)
set_held x [] i p h = h
set_held x (d ∷ ds) zero p h = (p, h.1)
set_held x (d ∷ ds) (suc i) p h = (h.0, set_held x ds i p h.1)

-- ---- a lock is inserted

pub insert_locks : (l n : ℕ) (ds : List LockDepth) → has l (locks_of ds) ≡ false → locks_of (insert ds (index_for l ds) (at_depth l n)) ≡ with_lock l (locks_of ds)
insert_locks l n [] h = refl
insert_locks l n (d ∷ ds) h = let r = or_parts (d.lock == l) (has l (locks_of ds)) h in elim (compared l d.lock) [
  | inl c ↦ rw (c.0, c.1) refl
  | inr (inl c) ↦ absurd (false≢true (sym r.0 ∙ c.3))
  | inr (inr c) ↦ rw (c.0, c.1, c.2) (ap (λ ks. d.lock ∷ ks) (insert_locks l n ds r.1))
]

pub insert_depths : (l n : ℕ) (ds : List LockDepth) (m : ℕ) → depth_of (insert ds (index_for l ds) (at_depth l n)) m ≡ cond (l == m) n (depth_of ds m)
insert_depths l n [] m = refl
insert_depths l n (d ∷ ds) m = elim (cases_lt d.lock l) [
  | inl less ↦ rw (lt-leb l d.lock less) (ap (cond (d.lock == m) d.depth) (insert_depths l n ds m) ∙ apart l d.lock m d.depth n (depth_of ds m) less)
  | inr more ↦ rw (le-leb l d.lock more) refl
]

pub insert_held : (x : LockDepth) (ds : List LockDepth) (i : ℕ) → 0 < x.depth → AreHeld ds → AreHeld (insert ds i x)
insert_held x [] zero p h = (p, h)
insert_held x [] (suc i) p h = (p, h)
insert_held x (d ∷ ds) zero p h = (p, h)
insert_held x (d ∷ ds) (suc i) p h = (h.0, insert_held x ds i p h.1)

-- ---- a lock is removed

pub remove_locks : (l : ℕ) (ds : List LockDepth) → Ascends (locks_of ds) → 0 < depth_of ds l → locks_of (remove ds (index_for l ds)) ≡ without_lock l (locks_of ds)
remove_locks l [] up h = refl
remove_locks l (d ∷ ds) up h = elim (compared l d.lock) [
  | inl c ↦ absurd (not_before l d ds up h c)
  | inr (inl c) ↦ rw (c.0, c.3) (sym (without_none l (locks_of ds) (subst (λ k. has k (locks_of ds) ≡ false) (sym c.4) (above_lacks d.lock (locks_of ds) up.0 up.1))))
  | inr (inr c) ↦ rw (c.0, c.3) (ap (λ ks. d.lock ∷ ks) (remove_locks l ds up.1 (rw c.3 at h)))
]

pub remove_depths : (l : ℕ) (ds : List LockDepth) → Ascends (locks_of ds) → 0 < depth_of ds l → (m : ℕ) →
    depth_of (remove ds (index_for l ds)) m ≡ cond (l == m) 0 (depth_of ds m)
remove_depths l [] up h m = absurd (omega (arith, h))
remove_depths l (d ∷ ds) up h m = elim (compared l d.lock) [
  | inl c ↦ absurd (not_before l d ds up h c)
  | inr (inl c) ↦ rw c.0 (gone c.4 (l == m) refl)
  | inr (inr c) ↦ rw c.0 (ap (cond (d.lock == m) d.depth) (remove_depths l ds up.1 (rw c.3 at h) m) ∙ apart l d.lock m d.depth 0 (depth_of ds m) c.4)
]
  where
    gone : l ≡ d.lock → (b : Bool) → (l == m) ≡ b → depth_of ds m ≡ cond b 0 (cond (d.lock == m) d.depth (depth_of ds m))
    gone same true e = subst (λ k. depth_of ds k ≡ 0) (sym same ∙ eqb-true l m e) (zero_below d.lock ds up.0 up.1)
    gone same false e = rw (subst (λ k. (k == m) ≡ false) same e) refl

pub remove_held : (ds : List LockDepth) (i : ℕ) → AreHeld ds → AreHeld (remove ds i)
remove_held [] zero h = h
remove_held [] (suc i) h = h
remove_held (d ∷ ds) zero h = h.1
remove_held (d ∷ ds) (suc i) h = (h.0, remove_held ds i h.1)

-- a lock that is not held is at depth 0
pub stays_depths : (l : ℕ) (ds : List LockDepth) → depth_of ds l ≡ 0 → (m : ℕ) → depth_of ds m ≡ cond (l == m) 0 (depth_of ds m)
stays_depths l ds z m = go (l == m) refl
  where
    go : (b : Bool) → (l == m) ≡ b → depth_of ds m ≡ cond b 0 (depth_of ds m)
    go true e = ap (depth_of ds) (sym (eqb-true l m e)) ∙ z
    go false e = refl

-- ---- the depth of one lock is set, and the others are unchanged

-- the depth that is found at the index
pub found : (l : ℕ) (ds xs : List LockDepth) (i r : ℕ) → xs ≡ ds → IsHolding ds → i ≡ index_for l xs → r ≡ depth_at l xs i →
    (i ≡ index_for l ds) × (r ≡ depth_of ds l)
found l ds xs i r same is at has_it =
    let there : i ≡ index_for l ds = at ∙ ap (index_for l) same in
    (there, has_it ∙ ap (λ ys. depth_at l ys i) same ∙ ap (depth_at l ds) there ∙ at_index l ds (ascends_from _ is.ascends))

abbrev Changed : ℕ → ℕ → List LockDepth → List LockDepth → Type 0
Changed l n ds new = HasDepth ds l n new × IsHolding new

pub changed_set : (l n : ℕ) (ds new : List LockDepth) → IsHolding ds → 0 < n → 0 < depth_of ds l →
    new ≡ slice_set ds (index_for l ds) (at_depth l n) → Changed l n ds new
changed_set l n ds new is some deep e =
    let up = ascends_from _ is.ascends in
    let same : locks_of new ≡ locks_of ds = ap locks_of e ∙ set_locks l n ds up deep in (
      record {
        locks = same ∙ sym (rw (ne_eqb n 0 (λ z. omega (arith, z, some))) (with-known l (locks_of ds) up (some_at_depth l ds deep)));
        depths = λ m. ap (λ ys. depth_of ys m) e ∙ set_depths l n ds up deep m;
        same = λ _ _. same;
      },
      record { ascends = subst IsStrictlyIncreasing (sym same) is.ascends; some = subst AreHeld (sym e) (set_held (at_depth l n) ds (index_for l ds) some is.some) },
    )

pub changed_insert : (l n : ℕ) (ds new : List LockDepth) → IsHolding ds → 0 < n → depth_of ds l ≡ 0 →
    new ≡ insert ds (index_for l ds) (at_depth l n) → Changed l n ds new
changed_insert l n ds new is some none e =
    let more : locks_of new ≡ with_lock l (locks_of ds) = ap locks_of e ∙ insert_locks l n ds (none_at_zero l ds is.some none) in (
      record {
        locks = more ∙ sym (rw (ne_eqb n 0 (λ z. omega (arith, z, some))) refl);
        depths = λ m. ap (λ ys. depth_of ys m) e ∙ insert_depths l n ds m;
        same = λ _ deep. absurd (omega (arith, deep, none));
      },
      record {
        ascends = subst IsStrictlyIncreasing (sym more) (with_increases l (locks_of ds) is.ascends);
        some = subst AreHeld (sym e) (insert_held (at_depth l n) ds (index_for l ds) some is.some);
      },
    )

pub changed_remove : (l n : ℕ) (ds new : List LockDepth) → IsHolding ds → n ≡ 0 → 0 < depth_of ds l →
    new ≡ remove ds (index_for l ds) → Changed l n ds new
changed_remove l n ds new is none deep e =
    let up = ascends_from _ is.ascends in
    let less : locks_of new ≡ without_lock l (locks_of ds) = ap locks_of e ∙ remove_locks l ds up deep in
    subst (λ k. Changed l k ds new) (sym none) (
      record {
        locks = less;
        depths = λ m. ap (λ ys. depth_of ys m) e ∙ remove_depths l ds up deep m;
        same = λ some _. absurd (omega (arith, some));
      },
      record {
        ascends = subst IsStrictlyIncreasing (sym less) (IsStrictlyIncreasing-filter (λ k. not (k == l)) (locks_of ds) is.ascends);
        some = subst AreHeld (sym e) (remove_held ds (index_for l ds) is.some);
      },
    )

pub changed_nothing : (l n : ℕ) (ds : List LockDepth) → IsHolding ds → n ≡ 0 → depth_of ds l ≡ 0 → HasDepth ds l n ds
changed_nothing l n ds is none lacks = subst (λ k. HasDepth ds l k ds) (sym none) (record {
  locks = sym (without_none l (locks_of ds) (none_at_zero l ds is.some lacks));
  depths = stays_depths l ds lacks;
  same = λ _ _. refl;
})

pub seen : (ds base new : List LockDepth) (l n : ℕ) → ds ≡ base → HasDepth ds l n new → HasDepth base l n new
seen ds base new l n same h = subst (λ old. HasDepth old l n new) same h

-- an acquire adds 1
pub acquired : (ds new : List LockDepth) (l n : ℕ) → n ≡ suc (depth_of ds l) → HasDepth ds l n new → IsHeldAfter ds (Acquire l) new
acquired ds new l n more h = record {
  locks = h.locks ∙ ap (λ c. cond c (without_lock l (locks_of ds)) (with_lock l (locks_of ds))) (ne_eqb n 0 (λ none. omega (arith, none, more)));
  depths = λ m. h.depths m ∙ one m (l == m) refl;
}
  where
    one : (m : ℕ) (b : Bool) → (l == m) ≡ b → cond b n (depth_of ds m) ≡ cond b (suc (depth_of ds m)) (depth_of ds m)
    one m true e = more ∙ ap (λ k. suc (depth_of ds k)) (eqb-true l m e)
    one m false e = refl

-- a release takes 1
pub released : (ds new : List LockDepth) (l n : ℕ) → n ≡ depth_of ds l - 1 → HasDepth ds l n new → IsHeldAfter ds (Release l) new
released ds new l n less h = record {
  locks = out (leb (depth_of ds l) 1) refl;
  depths = λ m. h.depths m ∙ one m (l == m) refl;
}
  where
    out : (b : Bool) → leb (depth_of ds l) 1 ≡ b → locks_of new ≡ cond b (without_lock l (locks_of ds)) (locks_of ds)
    out true e =
        h.locks ∙ ap (λ c. cond c (without_lock l (locks_of ds)) (with_lock l (locks_of ds))) (eq-eqb n 0 (omega (arith, less, leb-true (depth_of ds l) 1 e)))
    out false e = let deep = leb-false (depth_of ds l) 1 e in h.same (omega (arith, deep, less)) (omega (arith, deep))

    one : (m : ℕ) (b : Bool) → (l == m) ≡ b → cond b n (depth_of ds m) ≡ cond b (depth_of ds m - 1) (depth_of ds m)
    one m true e = less ∙ ap (λ k. depth_of ds k - 1) (eqb-true l m e)
    one m false e = refl

-- ---- the held set at an outermost acquire

pub outer_of_none : (l : ℕ) (ks : List ℕ) → length ks ≡ 0 → outer_locks l ks ≡ None
outer_of_none l [] e = refl
outer_of_none l (k ∷ ks) e = absurd (omega (arith, e))

pub outer_of_held : (l : ℕ) (ks : List ℕ) → has l ks ≡ true → outer_locks l ks ≡ None
outer_of_held l [] h = refl
outer_of_held l (k ∷ ks) h = ap (λ (b : Bool). cond b None (Some (k ∷ ks))) h

pub outer_of_some : (l : ℕ) (ks : List ℕ) → has l ks ≡ false → (length ks ≡ 0 → ⊥) → outer_locks l ks ≡ Some ks
outer_of_some l [] h some = absurd (some refl)
outer_of_some l (k ∷ ks) h some = ap (λ (b : Bool). cond b None (Some (k ∷ ks))) h
