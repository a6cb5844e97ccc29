-- The list `held` is the list of exactly the locks that are held, and these are those of open
-- sections.
use Rattle.std.proofs.Common.{◌≡◌, ℕ, zero, suc, ◌-◌, ◌<◌, ◌≤◌, ◌⊎◌, inl, inr, Bool, true, false, cond, not, ◌==◌, ltb, leb, List, [], ◌∷◌, slice_get, Option, Some, None, refl, sym, ap, subst, ◌∙◌, arith}
use Rattle.std.proofs.lemmas.Bool.{eqb-true, eqb-false, eq-eqb, false≢true, or_cases, or_left, or_right, leb-true, leb-false, cases_lt, cases_eq}
use Rattle.std.proofs.lemmas.Option.{none-some, same_Some}
use Rattle.trace_model.specs.declared.traces.event.Event.{Event}
use Rattle.trace_model.specs.declared.traces.event.Op.{Op}
use Rattle.trace_model.specs.declared.traces.event.Op.TheVariants.{Fork, Join, Acquire, Release, Read, Write}
use Rattle.trace_model.specs.Theory.Trace.{Trace, event}
use Rattle.trace_model.specs.Theory.Held.{depth, depth_after, depth_step, Ends, Holds, InSection, with_lock, without_lock, held_after, held_step, held_set, has}

pub has_with : (l m : ℕ) (ks : List ℕ) → has m (with_lock l ks) ≡ true → (l ≡ m) ⊎ (has m ks ≡ true)
has_with l m [] h = elim (or_cases (l == m) false h) [ inl a ↦ inl (eqb-true l m a) | inr b ↦ absurd (false≢true b) ]
has_with l m (k ∷ ks) h = go (has_with l m ks) (ltb l k) (l == k) h
  where
    go : (has m (with_lock l ks) ≡ true → (l ≡ m) ⊎ (has m ks ≡ true)) → (x y : Bool) →
        has m (cond x (l ∷ k ∷ ks) (cond y (k ∷ ks) (k ∷ with_lock l ks))) ≡ true → (l ≡ m) ⊎ (has m (k ∷ ks) ≡ true)
    go more true y e = elim (or_cases (l == m) (has m (k ∷ ks)) e) [ inl c ↦ inl (eqb-true l m c) | inr d ↦ inr d ]
    go more false true e = inr e
    go more false false e = elim (or_cases (k == m) (has m (with_lock l ks)) e) [
      | inl a ↦ inr (or_left (k == m) (has m ks) a)
      | inr b ↦ elim (more b) [ inl c ↦ inl c | inr d ↦ inr (or_right (k == m) (has m ks) d) ]
    ]

pub has_with_itself : (l : ℕ) (ks : List ℕ) → has l (with_lock l ks) ≡ true
has_with_itself l [] = or_left (l == l) false (eq-eqb l l refl)
has_with_itself l (k ∷ ks) = go (has_with_itself l ks) (ltb l k) (l == k) refl
  where
    go : has l (with_lock l ks) ≡ true → (x y : Bool) → (l == k) ≡ y →
        has l (cond x (l ∷ k ∷ ks) (cond y (k ∷ ks) (k ∷ with_lock l ks))) ≡ true
    go more true y e = or_left (l == l) (has l (k ∷ ks)) (eq-eqb l l refl)
    go more false true e = or_left (k == l) (has l ks) (eq-eqb k l (sym (eqb-true l k e)))
    go more false false e = or_right (k == l) (has l (with_lock l ks)) more

pub has_with_kept : (l m : ℕ) (ks : List ℕ) → has m ks ≡ true → has m (with_lock l ks) ≡ true
has_with_kept l m [] h = absurd (false≢true h)
has_with_kept l m (k ∷ ks) h = go (has_with_kept l m ks) (ltb l k) (l == k)
  where
    go : (has m ks ≡ true → has m (with_lock l ks) ≡ true) → (x y : Bool) →
        has m (cond x (l ∷ k ∷ ks) (cond y (k ∷ ks) (k ∷ with_lock l ks))) ≡ true
    go more true y = or_right (l == m) (has m (k ∷ ks)) h
    go more false true = h
    go more false false = elim (or_cases (k == m) (has m ks) h) [
      | inl a ↦ or_left (k == m) (has m (with_lock l ks)) a
      | inr b ↦ or_right (k == m) (has m (with_lock l ks)) (more b)
    ]

pub has_without : (l m : ℕ) (ks : List ℕ) → has m (without_lock l ks) ≡ true → (l ≡ m → ⊥) × (has m ks ≡ true)
has_without l m [] h = absurd (false≢true h)
has_without l m (k ∷ ks) h = go (has_without l m ks) (k == l) refl h
  where
    go : (has m (without_lock l ks) ≡ true → (l ≡ m → ⊥) × (has m ks ≡ true)) → (x : Bool) → (k == l) ≡ x →
        has m (cond (not x) (k ∷ without_lock l ks) (without_lock l ks)) ≡ true → (l ≡ m → ⊥) × (has m (k ∷ ks) ≡ true)
    go more true e h' = ((more h').0, or_right (k == m) (has m ks) (more h').1)
    go more false e h' = elim (or_cases (k == m) (has m (without_lock l ks)) h') [
      | inl a ↦ ((λ same. eqb-false k l e (eqb-true k m a ∙ sym same)), or_left (k == m) (has m ks) a)
      | inr b ↦ ((more b).0, or_right (k == m) (has m ks) (more b).1)
    ]

pub has_without_kept : (l m : ℕ) (ks : List ℕ) → (l ≡ m → ⊥) → has m ks ≡ true → has m (without_lock l ks) ≡ true
has_without_kept l m [] n h = absurd (false≢true h)
has_without_kept l m (k ∷ ks) n h = go (has_without_kept l m ks n) (k == l) refl
  where
    go : (has m ks ≡ true → has m (without_lock l ks) ≡ true) → (x : Bool) → (k == l) ≡ x →
        has m (cond (not x) (k ∷ without_lock l ks) (without_lock l ks)) ≡ true
    go more true e = elim (or_cases (k == m) (has m ks) h) [
      | inl a ↦ absurd (n (sym (eqb-true k l e) ∙ eqb-true k m a))
      | inr b ↦ more b
    ]
    go more false e = elim (or_cases (k == m) (has m ks) h) [
      | inl a ↦ or_left (k == m) (has m (without_lock l ks)) a
      | inr b ↦ or_right (k == m) (has m (without_lock l ks)) (more b)
    ]

-- ---- the list and the depths

-- the list contains the lock exactly if the depth is above 0
abbrev pub Fits : ℕ → List ℕ → ℕ → Type 0
Fits l ks n = (has l ks ≡ true → 0 < n) × (0 < n → has l ks ≡ true)

acquire_fits : (m l : ℕ) (ks : List ℕ) (n : ℕ) (b : Bool) → (m == l) ≡ b → Fits l ks n → Fits l (with_lock m ks) (cond b (suc n) n)
acquire_fits m l ks n true e h =
    ((λ _. omega arith), (λ _. subst (λ x. has l (with_lock x ks) ≡ true) (sym (eqb-true m l e)) (has_with_itself l ks)))
acquire_fits m l ks n false e h = (
  (λ k. elim (has_with m l ks k) [ inl a ↦ absurd (eqb-false m l e a) | inr b ↦ h.0 b ]),
  λ k. has_with_kept m l ks (h.1 k),
)

release_fits : (m l : ℕ) (ks : List ℕ) (n d : ℕ) (b : Bool) → (m == l) ≡ b → (m ≡ l → d ≡ n) → (c : Bool) → leb d 1 ≡ c →
    Fits l ks n → Fits l (cond c (without_lock m ks) ks) (cond b (n - 1) n)
release_fits m l ks n d true e same true f h = (
  (λ k. absurd ((has_without m l ks k).0 (eqb-true m l e))),
  λ k. absurd (omega (arith, k, leb-true d 1 f, same (eqb-true m l e))),
)
release_fits m l ks n d true e same false f h = (
  (λ k. omega (arith, leb-false d 1 f, same (eqb-true m l e))),
  λ k. h.1 (omega (arith, k)),
)
release_fits m l ks n d false e same true f h =
    ((λ k. h.0 (has_without m l ks k).1), λ k. has_without_kept m l ks (eqb-false m l e) (h.1 k))
release_fits m l ks n d false e same false f h = h

op_fits : (depths : ℕ → ℕ) (o : Op) (l : ℕ) (ks : List ℕ) → Fits l ks (depths l) → Fits l (held_after depths o ks) (depth_after o l (depths l))
op_fits depths (Acquire m) l ks h = acquire_fits m l ks (depths l) (m == l) refl h
op_fits depths (Release m) l ks h =
    release_fits m l ks (depths l) (depths m) (m == l) refl (λ e. ap depths e) (leb (depths m) 1) refl h
op_fits depths (Fork m) l ks h = h
op_fits depths (Join m) l ks h = h
op_fits depths (Read m) l ks h = h
op_fits depths (Write m) l ks h = h

step_fits : (depths : ℕ → ℕ) (r : Option Event) (t l : ℕ) (ks : List ℕ) → Fits l ks (depths l) →
    Fits l (held_step depths r t ks) (depth_step r t l (depths l))
step_fits depths None t l ks h = h
step_fits depths (Some x) t l ks h = go (x.thread == t)
  where
    go : (b : Bool) → Fits l (cond b (held_after depths x.op ks) ks) (cond b (depth_after x.op l (depths l)) (depths l))
    go true = op_fits depths x.op l ks h
    go false = h

pub held_fits : (s : Trace) (p t l : ℕ) → Fits l (held_set s p t) (depth s p t l)
held_fits s zero t l = ((λ k. absurd (false≢true k)), λ k. absurd (omega arith))
held_fits s (suc p) t l = step_fits (depth s p t) (slice_get s p) t l (held_set s p t) (held_fits s p t l)

-- the list contains the lock exactly if the thread holds it
pub held_so : (s : Trace) (p t l : ℕ) → has l (held_set s p t) ≡ true → Holds s p t l
held_so s p t l = (held_fits s p t l).0

pub held_from : (s : Trace) (p t l : ℕ) → Holds s p t l → has l (held_set s p t) ≡ true
held_from s p t l = (held_fits s p t l).1

-- ---- what an event does to a depth

pub same_acquire : (m l : ℕ) → Acquire m ≡ Acquire l → m ≡ l
same_acquire m l e = grind arith

pub same_release : (m l : ℕ) → Release m ≡ Release l → m ≡ l
same_release m l e = grind arith

abbrev pub DepthCases : Option Event → ℕ → ℕ → ℕ → ℕ → Type 0
DepthCases r t l n m =
    ((r ≡ Some (event t (Acquire l))) × (m ≡ suc n))
    ⊎ (((r ≡ Some (event t (Release l))) × (m ≡ n - 1))
    ⊎ ((r ≡ Some (event t (Acquire l)) → ⊥) × (r ≡ Some (event t (Release l)) → ⊥) × (m ≡ n)))

pub depth_cases : (r : Option Event) (t l n : ℕ) → DepthCases r t l n (depth_step r t l n)
depth_cases None t l n = inr (inr ((λ e. none-some _ e), (λ e. none-some _ e), refl))
depth_cases (Some x) t l n = go (x.thread == t) refl x.op refl
  where
    op_of : (o : Op) → Some x ≡ Some (event t o) → x.op ≡ o
    op_of o e = ap (λ y. y.op) (same_Some x (event t o) e)

    other : (y : Op) → x.op ≡ y → (y ≡ Acquire l → ⊥) → (y ≡ Release l → ⊥) →
        (Some x ≡ Some (event t (Acquire l)) → ⊥) × (Some x ≡ Some (event t (Release l)) → ⊥)
    other y e a b = ((λ f. a (sym e ∙ op_of (Acquire l) f)), (λ f. b (sym e ∙ op_of (Release l) f)))

    is : (x.thread == t) ≡ true → (o : Op) → x.op ≡ o → Some x ≡ Some (event t o)
    is e o f = λ i. Some (event (eqb-true x.thread t e i) (f i))

    acquires : (x.thread == t) ≡ true → (m : ℕ) → x.op ≡ Acquire m → (b : Bool) → (m == l) ≡ b → DepthCases (Some x) t l n (cond b (suc n) n)
    acquires e m f true g = inl (is e (Acquire l) (f ∙ ap Acquire (eqb-true m l g)), refl)
    acquires e m f false g = let k = other (Acquire m) f (λ h. eqb-false m l g (same_acquire m l h)) (λ h. cc) in inr (inr (k.0, k.1, refl))

    releases : (x.thread == t) ≡ true → (m : ℕ) → x.op ≡ Release m → (b : Bool) → (m == l) ≡ b → DepthCases (Some x) t l n (cond b (n - 1) n)
    releases e m f true g = inr (inl (is e (Release l) (f ∙ ap Release (eqb-true m l g)), refl))
    releases e m f false g = let k = other (Release m) f (λ h. cc) (λ h. eqb-false m l g (same_release m l h)) in inr (inr (k.0, k.1, refl))

    go : (b : Bool) → (x.thread == t) ≡ b → (o : Op) → x.op ≡ o → DepthCases (Some x) t l n (cond b (depth_after o l n) n)
    go false e o f = inr (inr (
      (λ h. eqb-false x.thread t e (ap (λ y. y.thread) (same_Some x (event t (Acquire l)) h))),
      (λ h. eqb-false x.thread t e (ap (λ y. y.thread) (same_Some x (event t (Release l)) h))),
      refl,
    ))
    go true e (Acquire m) f = acquires e m f (m == l) refl
    go true e (Release m) f = releases e m f (m == l) refl
    go true e (Fork m) f = let k = other (Fork m) f (λ h. cc) (λ h. cc) in inr (inr (k.0, k.1, refl))
    go true e (Join m) f = let k = other (Join m) f (λ h. cc) (λ h. cc) in inr (inr (k.0, k.1, refl))
    go true e (Read m) f = let k = other (Read m) f (λ h. cc) (λ h. cc) in inr (inr (k.0, k.1, refl))
    go true e (Write m) f = let k = other (Write m) f (λ h. cc) (λ h. cc) in inr (inr (k.0, k.1, refl))

pub acquire_no_release : (r : Option Event) (t l : ℕ) → r ≡ Some (event t (Acquire l)) → r ≡ Some (event t (Release l)) → ⊥
acquire_no_release r t l a b =
    let same : Acquire l ≡ Release l = ap (λ x. x.op) (same_Some (event t (Acquire l)) (event t (Release l)) (sym a ∙ b)) in cc

-- ---- a lock is held in its sections

pub section_of : (s : Trace) (p t l : ℕ) → Holds s p t l → InSection s p t l
section_of s zero t l h = absurd (omega arith)
section_of s (suc p) t l h = go (section_of s p t l) (depth_cases (slice_get s p) t l (depth s p t l))
  where
    longer : (Ends s p t l → ⊥) → InSection s p t l → InSection s (suc p) t l
    longer closed (a, below, begins, none) = (
      a,
      omega arith,
      begins,
      λ r x y e. elim (cases_lt r p) [
        | inl z ↦ none r x z e
        | inr z ↦ let same : r ≡ p = omega arith in closed (subst (λ u. Ends s u t l) same e)
      ],
    )

    go : (Holds s p t l → InSection s p t l) → DepthCases (slice_get s p) t l (depth s p t l) (depth s (suc p) t l) → InSection s (suc p) t l
    go more (inl (a, m)) = elim (cases_lt 0 (depth s p t l)) [
      | inl z ↦ longer (λ e. acquire_no_release (slice_get s p) t l a e.0) (more z)
      | inr z ↦ (p, omega arith, (a, omega arith), λ r x y e. omega arith)
    ]
    go more (inr (inl (a, m))) = longer (λ e. omega (arith, e.1, m, h)) (more (omega (arith, m, h)))
    go more (inr (inr (a, b, m))) = longer (λ e. b e.0) (more (omega (arith, m, h)))

pub section_holds : (s : Trace) (p t l : ℕ) → InSection s p t l → Holds s p t l
section_holds s zero t l h = absurd (omega (arith, h.1))
section_holds s (suc p) t l (a, below, begins, none) =
    go (section_holds s p t l) (depth_cases (slice_get s p) t l (depth s p t l)) (cases_lt a p)
  where
    go : (InSection s p t l → Holds s p t l) → DepthCases (slice_get s p) t l (depth s p t l) (depth s (suc p) t l) → (a < p) ⊎ (p ≤ a) → Holds s (suc p) t l
    go more (inl (b, m)) c = omega (arith, m)
    go more (inr (inl (b, m))) (inl c) =
        let k : 0 < depth s p t l = more (a, c, begins, λ r x y e. none r x (omega arith) e) in
        elim (cases_eq (depth s p t l) 1) [
          | inl z ↦ absurd (none p c (omega arith) (b, z))
          | inr z ↦ omega (arith, m, k, z)
        ]
    go more (inr (inl (b, m))) (inr c) =
        let same : a ≡ p = omega arith in
        absurd (acquire_no_release (slice_get s p) t l (subst (λ u. slice_get s u ≡ Some (event t (Acquire l))) same begins.0) b)
    go more (inr (inr (b, d, m))) (inl c) =
        let k : 0 < depth s p t l = more (a, c, begins, λ r x y e. none r x (omega arith) e) in omega (arith, m, k)
    go more (inr (inr (b, d, m))) (inr c) =
        let same : a ≡ p = omega arith in absurd (b (subst (λ u. slice_get s u ≡ Some (event t (Acquire l))) same begins.0))
