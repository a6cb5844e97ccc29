-- A member that is added.
use Rattle.std.proofs.Common.{◌≡◌, ◌≢◌, ℕ, zero, suc, ◌≤◌, max, inl, inr, List, [], ◌∷◌, ◌++◌, length, take, Option, refl, sym, ap, subst, ◌∙◌, arith}
use Rattle.std.specs.List.{Contains}
use Rattle.std.proofs.lemmas.Bool.{cases_lt}
use Rattle.trace_model.specs.Theory.Trace.{Trace}
use Rattle.trace_model.specs.Theory.Closure.{Places}
use Rattle.trace_model.proofs.Lists.{get-push}
use Rattle.fronts.specs.declared.requirements.ThreadPrefix.{ThreadPrefix}
use Rattle.fronts.specs.declared.requirements.Item.{Item}
use Rattle.fronts.specs.declared.members.Member.{Member}
use Rattle.fronts.specs.Slots.{AreSlots, HoldsFirst, HasFirst}
use Rattle.fronts.specs.Members.{Each, IsMember, IsAhead, Stops, StopsIn, IsNotPast, lists}
use Rattle.sp_closure.specs.Entering.{IsFirstMember}
use Rattle.fronts.specs.Propagation.{PropagationState, IsConsistent, Raises, AreAtFront, AreUpTo, AreSame}
use Rattle.fronts.proofs.MemberLemmas.{holds_upto}
use Rattle.fronts.proofs.SlotLemmas.{has_before}

pub each_push : {X : Type 0} (P : X → Type 0) (xs : List X) (y : X) → Each P xs → P y → Each P (xs ++ y ∷ [])
each_push P xs y all new i z h = elim (get-push xs y i z h) [
  | inl old ↦ all i z old
  | inr last ↦ subst P last.1 new
]

pub upto_pushed : (s : Trace) (slots : ℕ → Option ℕ) (front : ℕ → ℕ) (old new : List Member) (m : Member) (prefix : ThreadPrefix) → AreAtFront s slots front old → IsMember s slots m →
    new ≡ old ++ m ∷ [] → prefix.slot ≡ m.slot → prefix.count ≡ max (front m.slot) m.number → AreUpTo s slots front prefix new
upto_pushed s slots front old new m prefix b is e slot count =
    subst (AreUpTo s slots front prefix) (sym e)
    (record {
      each = each_push (IsMember s slots) old m b.each is;
      others = each_push (λ x. x.slot ≢ prefix.slot → x.number ≡ front x.slot) old m (λ i x h n. b.at i x h) (λ n. absurd (n (sym slot)));
      here = each_push (λ x. x.slot ≡ prefix.slot → x.number ≤ prefix.count) old m
          (λ i x h k. omega (arith, b.at i x h, ap front (k ∙ slot), count)) (λ k. omega (arith, count));
    })

pub reach_pushed : (s : Trace) (slots : ℕ → Option ℕ) (few : ℕ) (front : ℕ → ℕ) (m : Member) (n : ℕ) → AreSlots s slots few → ((a : ℕ) → HasFirst s slots a (front a)) →
    IsMember s slots m → n ≡ max (front m.slot) m.number → HasFirst s slots m.slot n
reach_pushed s slots few front m n known has is e i l = elim (cases_lt i (front m.slot)) [
  | inl less ↦ has m.slot i less
  | inr more ↦ has_before s slots few m.place m.slot m.number known is.positions i (omega (arith, l, e, more))
]

pub ahead_pushed : (s : Trace) (slots : ℕ → Option ℕ) (set : Places) (old new : List Member) (m : Member) (xs : List ℕ) → IsAhead s old set → IsFirstMember s slots xs m →
    new ≡ old ++ m ∷ [] → StopsIn s xs set → IsAhead s new set
ahead_pushed s slots set old new m xs a f e (q, c, stop) =
    subst (λ zs. IsAhead s zs set) (sym e)
    (record {
      closed = a.closed;
      stops = each_push (Stops s set) old m a.stops (q, subst (λ ps. Contains ps q) (sym f.places) c, stop);
      not_past = each_push (IsNotPast s set) old m a.not_past (λ z k w. f.first z (subst (λ ps. Contains ps z) f.places k));
    })

pub held_pushed : (s : Trace) (slots : ℕ → Option ℕ) (few : ℕ) (set : Places) (front : ℕ → ℕ) (m : Member) (xs : List ℕ) (n : ℕ) → AreSlots s slots few →
    ((a : ℕ) → HoldsFirst s slots set a (front a)) → IsFirstMember s slots xs m → StopsIn s xs set → n ≡ max (front m.slot) m.number → HoldsFirst s slots set m.slot n
held_pushed s slots few set front m xs n known holds f (q, c, stop) e p i x l = elim (cases_lt i (front m.slot)) [
  | inl less ↦ holds m.slot p i x less
  | inr more ↦
      holds_upto s slots few set m q known f.is_member (subst (λ ps. Contains ps q) (sym f.places) c) stop (f.first q c) p i x (omega (arith, l, e, more))
]

pub lists_push : (xs : List Member) (m : Member) → lists (xs ++ m ∷ []) ≡ lists xs ++ m.places ∷ []
lists_push [] m = refl
lists_push (x ∷ xs) m = ap (λ z. x.places ∷ z) (lists_push xs m)

pub same_lists : (xs ys : List Member) → AreSame xs ys → lists ys ≡ lists xs
same_lists [] [] a = refl
same_lists [] (y ∷ ys) a = absurd (omega (arith, a.same_length))
same_lists (x ∷ xs) [] a = absurd (omega (arith, a.same_length))
same_lists (x ∷ xs) (y ∷ ys) a =
    let more = same_lists xs ys (record { same_length = omega (arith, a.same_length); places = λ i u v h k. a.places (suc i) u v h k }) in
    let here = a.places zero x y refl refl in
    λ i. here i ∷ more i

pub lists_entered : (old pushed new : List Member) (m : Member) (xs : List ℕ) → pushed ≡ old ++ m ∷ [] → m.places ≡ xs → AreSame pushed new → lists new ≡ lists old ++ xs ∷ []
lists_entered old pushed new m xs e f a = same_lists pushed new a ∙ (ap lists e ∙ (lists_push old m ∙ ap (λ z. lists old ++ z ∷ []) f))

pub consistent_raised : (items : ℕ → ℕ → Option Item) (k : ℕ) (prefix : ThreadPrefix) (x y : PropagationState) → IsConsistent items x → Raises k prefix x y → IsConsistent items y
consistent_raised items k prefix x y w r = record {
  inside = λ b j i h l. omega (arith, w.inside b j i h (omega (arith, l, r.growth.done b)), r.growth.grows b);
  reached = λ b j n g h l. omega (arith, w.reached b j n g h (omega (arith, l, r.growth.done b)), r.growth.grows g.slot);
  lasts = λ m c h.
      let (b, j, n, l, i) = w.lasts m c (sym (r.last m) ∙ h) in
      (b, j, n, omega (arith, l, r.growth.done b), i);
  ended = λ b j n m c h l.
      let (s, was, both) = w.ended b j n m c h (omega (arith, l, r.growth.done b)) in (
        s,
        r.last m ∙ was,
        elim both [
          | inl z ↦ inl z
          | inr z ↦ inr (z.0, omega (arith, z.1, r.growth.grows c.end.slot))
        ],
      );
  queued = λ b j i h l. elim (r.growth.enqueued b) [
    | inr c ↦ inr c
    | inl same ↦ elim (w.queued b j i h (omega (arith, l, same))) [
      | inl z ↦ inl (omega (arith, z, r.growth.done b))
      | inr c ↦ inr (r.growth.kept b c)
    ]
  ];
}

-- A list that is written back to a vector of the same length.
pub written : {X : Type 0} (n : ℕ) (xs ys : List X) → n ≡ length xs → take n (xs ++ ys) ≡ xs
written zero [] ys e = refl
written zero (x ∷ xs) ys e = absurd (omega (arith, e))
written (suc n) [] ys e = absurd (omega (arith, e))
written (suc n) (x ∷ xs) ys e = ap (λ z. x ∷ z) (written n xs ys (omega (arith, e)))
