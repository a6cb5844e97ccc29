-- Properties that hold after a front is raised.
use Rattle.std.proofs.Common.{◌≡◌, ◌≢◌, ℕ, zero, suc, ◌+◌, ◌<◌, ◌≤◌, max, inl, inr, List, [], ◌∷◌, ◌++◌, length, Option, unwrap_or, refl, sym, ap, subst, ◌∙◌, arith}
use Rattle.std.specs.List.{Contains}
use Rattle.std.proofs.lemmas.Bool.{cases_lt}
use Rattle.std.proofs.lemmas.Bool.Decides.{eqb_tells}
use Rattle.std.proofs.lemmas.Option.{same_Some, slice_get_within}
use Rattle.trace_model.specs.Theory.Trace.{Trace}
use Rattle.trace_model.specs.Theory.Closure.{Places}
use Rattle.trace_model.proofs.Lists.{at_index, length-push}
use Rattle.fronts.specs.declared.requirements.ThreadPrefix.{ThreadPrefix}
use Rattle.fronts.specs.declared.members.Member.{Member}
use Rattle.fronts.specs.Slots.{HoldsFirst, HasFirst, AreSlots}
use Rattle.fronts.specs.declared.requirements.Section.{Section}
use Rattle.fronts.specs.declared.overlay.Overlay.{Overlay}
use Rattle.fronts.specs.declared.epoch_array.EpochArray.{EpochArray}
use Rattle.fronts.specs.EpochArrays.{value_at}
use Rattle.fronts.specs.Overlays.{Changes, first_some}
use Rattle.fronts.specs.Members.{Each, IsMember, IsAhead, AreMoved, AreAdvanced}
use Rattle.fronts.specs.Propagation.{PropagationState, Raises, IsBound, AreAtFront, AreUpTo, sum_to}
use Rattle.fronts.proofs.GrowingLemmas.{push_cases, push_kept, push_last}

pub record IsLifted (front new : ℕ → ℕ) (a n : ℕ) : Type 0 where
  pub here : new a ≡ n
  pub others : (b : ℕ) → b ≢ a → new b ≡ front b
  pub more : front a ≤ n

pub lifted_from : (front new : ℕ → ℕ) (slot other count most : ℕ) → Changes front other (max (front other) most) new → other ≡ slot →
    front slot ≤ count → count ≤ most → IsLifted front new slot most
lifted_from front new slot other count most c e l m =
    let d : Changes front slot (max (front slot) most) new = subst (λ a. Changes front a (max (front a) most) new) e c in
    record { here = d.here ∙ (omega (arith, l, m)); others = d.others; more = omega (arith, l, m) }

pub lifted_fits : (s : Trace) (slots : ℕ → Option ℕ) (front new : ℕ → ℕ) (a n : ℕ) → ((b : ℕ) → HasFirst s slots b (front b)) → HasFirst s slots a n →
    IsLifted front new a n → (b : ℕ) → HasFirst s slots b (new b)
lifted_fits s slots front new a n all has l b = elim (eqb_tells b a) [
  | inl e ↦ subst (λ z. HasFirst s slots z (new z)) (sym e.1) (subst (HasFirst s slots a) (sym l.here) has)
  | inr e ↦ subst (HasFirst s slots b) (sym (l.others b e.1)) (all b)
]

sum_same : (f g : ℕ → ℕ) (n : ℕ) → ((b : ℕ) → b < n → g b ≡ f b) → sum_to g n ≡ sum_to f n
sum_same f g zero h = refl
sum_same f g (suc n) h =
    let more = sum_same f g n (λ b l. h b (omega (arith, l))) in
    omega (arith, more, h n (omega arith))

pub sum_changes : (f g : ℕ → ℕ) (a n : ℕ) → a < n → ((b : ℕ) → b ≢ a → g b ≡ f b) → sum_to g n + f a ≡ sum_to f n + g a
sum_changes f g a zero l h = absurd (omega (arith, l))
sum_changes f g a (suc n) l h = elim (cases_lt a n) [
  | inl less ↦
      let more = sum_changes f g a n less h in
      omega (arith, more, h n (λ e. omega (arith, e, less)))
  | inr last ↦
      let e : a ≡ n = omega (arith, l, last) in
      let same = sum_same f g n (λ b k. h b (λ z. omega (arith, z, e, k))) in
      let x : f a ≡ f n = ap f e in
      let y : g a ≡ g n = ap g e in
      omega (arith, same, x, y)
]

pub lifted_steps : (front new : ℕ → ℕ) (a n k before after : ℕ) → IsLifted front new a n → a < k → after + front a ≡ before + new a →
    after + sum_to front k ≡ before + sum_to new k
lifted_steps front new a n k before after l less e =
    let c = sum_changes front new a k less l.others in
    omega (arith, c, e)

pub lifted_grows : (front new : ℕ → ℕ) (a n : ℕ) → IsLifted front new a n → (b : ℕ) → front b ≤ new b
lifted_grows front new a n l b = elim (eqb_tells b a) [
  | inl e ↦
      let x : front b ≡ front a = ap front e.1 in
      let y : new b ≡ new a = ap new e.1 in
      omega (arith, l.here, l.more, x, y)
  | inr e ↦ omega (arith, l.others b e.1)
]

-- The front is raised, and its slot is appended to the worklist.
pub lifted_raises : (k : ℕ) (prefix : ThreadPrefix) (x y : PropagationState) (n : ℕ) (a : ℕ) → IsLifted x.front y.front prefix.slot n → prefix.count ≤ n → prefix.slot < k →
    y.pending ≡ x.pending ++ a ∷ [] → a ≡ prefix.slot → ((b : ℕ) → y.done b ≡ x.done b) → ((b : ℕ) → y.last b ≡ x.last b) → Raises k prefix x y
lifted_raises k prefix x y n a l m less p same d e = record {
  upto = omega (arith, l.here, m);
  growth = record {
    grows = lifted_grows x.front y.front prefix.slot n l;
    enqueued = λ b. elim (eqb_tells b prefix.slot) [
      | inl i ↦ inr (subst (λ z. Contains z b) (sym p) (subst (λ z. Contains (x.pending ++ a ∷ []) z) (same ∙ sym i.1) (push_last x.pending a)))
      | inr i ↦ inl (l.others b i.1)
    ];
    kept = λ b c. subst (λ z. Contains z b) (sym p) (push_kept x.pending a b c);
    known = λ old b c. elim (push_cases x.pending a b (subst (λ z. Contains z b) p c)) [
      | inl was ↦ old b was
      | inr new ↦ omega (arith, sym new ∙ same, less)
    ];
    done = d;
    more = omega (arith, ap length p, length-push x.pending a);
  };
  last = e;
}

-- Advanced members are right after the raised front.
pub lifted_behind : (s : Trace) (slots : ℕ → Option ℕ) (front new : ℕ → ℕ) (prefix next : ThreadPrefix) (old members : List Member) →
    IsLifted front new prefix.slot next.count → AreUpTo s slots front prefix old → AreMoved prefix.slot old members → AreAdvanced s slots prefix members next →
    Each (IsMember s slots) members → AreAtFront s slots new members
lifted_behind s slots front new prefix next old members l upto moved advanced each = record {
  each = each;
  at = λ i y h. elim (eqb_tells y.slot prefix.slot) [
    | inl e ↦ advanced.at i y h (e.1 ∙ sym advanced.slot) ∙ sym l.here ∙ ap new (sym e.1)
    | inr e ↦
        let (x, was) = at_index old i (omega (arith, slice_get_within members i y h, moved.same_length)) in
        let same = moved.same i x y was h in
        let apart : x.slot ≢ prefix.slot = λ z. e.1 (same.slot ∙ z) in
        let is : x ≡ y = moved.others i x y was h apart in
        let value_at : x.number ≡ front x.slot = upto.others i x was apart in
        subst (λ z. z.number ≡ new z.slot) is (value_at ∙ sym (l.others x.slot apart))
  ];
}

pub lifted_bound : (s : Trace) (slots : ℕ → Option ℕ) (front new : ℕ → ℕ) (a n : ℕ) (old members : List Member) (set : Places) → IsLifted front new a n →
    IsBound s slots front old set → IsAhead s members set × HoldsFirst s slots set a n → IsBound s slots new members set
lifted_bound s slots front new a n old members set l b (ahead, holds) = record {
  ahead = ahead;
  holds = λ c. elim (eqb_tells c a) [
    | inl e ↦ subst (λ z. HoldsFirst s slots set z (new z)) (sym e.1) (subst (HoldsFirst s slots set a) (sym l.here) holds)
    | inr e ↦ subst (HoldsFirst s slots set c) (sym (l.others c e.1)) (b.holds c)
  ];
}

-- The prefix of a place has a slot.
pub prefix_slot : (s : Trace) (slots : ℕ → Option ℕ) (count : ℕ) (prefix : ThreadPrefix) → AreSlots s slots count → HasFirst s slots prefix.slot prefix.count → 0 < prefix.count →
    prefix.slot < count
prefix_slot s slots count prefix known has l =
    let (p, x) = has 0 l in
    let (t, o) = known.of_place p prefix.slot x.slot in
    let (a, e, less) = known.each p t o in
    omega (arith, less, same_Some a prefix.slot (sym e ∙ x.slot))

-- An overlay of which one array changed.
abbrev pub done_in : Overlay → EpochArray ℕ → ℕ → ℕ
done_in under epoch_array a = unwrap_or (value_at epoch_array a) (unwrap_or (value_at under.done a) 0)

abbrev pub last_in : Overlay → EpochArray Section → ℕ → Option Section
last_in under epoch_array l = first_some (value_at epoch_array l) (value_at under.last l)

abbrev pub front_in : Overlay → EpochArray ℕ → ℕ → ℕ
front_in under epoch_array a = unwrap_or (value_at epoch_array a) (unwrap_or (value_at under.fronts a) 0)
