-- The propagation ends, and a popped slot has no unprocessed requirement.
use Rattle.std.proofs.Common.{◌≡◌, ℕ, zero, suc, ◌+◌, ◌-◌, ◌*◌, ◌<◌, ◌≤◌, inl, inr, List, [], ◌∷◌, ◌++◌, length, take, slice_get, Option, Some, None, refl, sym, ap, subst, ◌∙◌, arith}
use Rattle.std.specs.List.{Contains}
use Rattle.std.specs.Option.{option_map_or, option_and_then}
use Rattle.std.proofs.lemmas.Option.{none-some, same_Some, slice_get_within}
use Rattle.trace_model.proofs.Lists.{at_index}
use Rattle.fronts.specs.declared.members.Member.{Member}
use Rattle.fronts.specs.declared.requirements.Item.{Item}
use Rattle.fronts.specs.declared.requirements.Requirements.{Requirements}
use Rattle.fronts.specs.Overlays.{Changes}
use Rattle.fronts.specs.Requirements.{item_at}
use Rattle.fronts.specs.Propagation.{PropagationState, IsConsistent, AreKnownSlots, AreSame, sum_to}
use Rattle.fronts.proofs.GrowingLemmas.{push_cases, push_kept}
use Rattle.fronts.proofs.RaiseLemmas.{sum_changes}

-- The number of items of the slot.
pub items_of : Requirements → ℕ → ℕ
items_of d a = option_map_or (λ xs. length xs.items) (slice_get d.items.items a) 0

-- The number of unprocessed items.
pub undone : Requirements → (ℕ → ℕ) → ℕ → ℕ
undone d done n = sum_to (λ a. items_of d a - done a) n

item_within : (d : Requirements) (a j : ℕ) (i : Item) → item_at d a j ≡ Some i → j < items_of d a
unfolding items_of
item_within d a j i h = go (slice_get d.items.items a) refl h
  where
    go : (o : _) → slice_get d.items.items a ≡ o → option_and_then (λ xs. slice_get xs.items j) o ≡ Some i → j < option_map_or (λ xs. length xs.items) o 0
    go None e k = absurd (none-some i k)
    go (Some xs) e k = slice_get_within xs.items j i k

pub less_undone : (d : Requirements) (old new : ℕ → ℕ) (a n : ℕ) (i : Item) → a < n → item_at d a (old a) ≡ Some i → Changes old a (old a + 1) new →
    suc (undone d new n) ≡ undone d old n
unfolding undone
less_undone d old new a n i l at c =
    let inside = item_within d a (old a) i at in
    let moved = sum_changes (λ b. items_of d b - old b) (λ b. items_of d b - new b) a n l (λ b ne. ap (λ z. items_of d b - z) (c.others b ne)) in
    omega (arith, moved, inside, c.here)

pub meet_less : (u v x y : ℕ) → suc v ≡ u → y ≤ x + 1 → 2 * v + y < 2 * u + x
meet_less u v x y e l = omega (arith, e, l)

last_split : (xs : List ℕ) (n x : ℕ) → length xs ≡ suc n → slice_get xs n ≡ Some x → xs ≡ take n xs ++ x ∷ []
last_split [] n x l h = absurd (none-some x h)
last_split (a ∷ []) zero x l h = ap (λ b. b ∷ []) (same_Some a x h)
last_split (a ∷ (b ∷ bs)) zero x l h = absurd (omega (arith, l))
last_split (a ∷ more) (suc n) x l h = ap (λ b. a ∷ b) (last_split more n x (omega (arith, l)) h)

pub last_taken : (xs ys : List ℕ) (x : ℕ) → slice_get xs (length xs - 1) ≡ Some x → ys ≡ take (length xs - 1) xs → xs ≡ ys ++ x ∷ []
last_taken xs ys x h e =
    let inside : length xs - 1 < length xs = slice_get_within xs (length xs - 1) x h in
    let l : length xs ≡ suc (length xs - 1) = omega (arith, inside) in
    subst (λ z. xs ≡ z ++ x ∷ []) (sym e) (last_split xs (length xs - 1) x l h)

pub popped : (xs ys : List ℕ) (a : ℕ) → slice_get xs (length xs - 1) ≡ Some a → ys ≡ take (length xs - 1) xs → xs ≡ ys ++ a ∷ []
popped xs ys a e n = last_taken xs ys a e n

pub pop_known : (k : ℕ) (xs ys : List ℕ) (a : ℕ) → xs ≡ ys ++ a ∷ [] → AreKnownSlots k xs → AreKnownSlots k ys
pop_known k xs ys a e known b c = known b (subst (λ z. Contains z b) (sym e) (push_kept ys a b c))

pub pop_consistent : (items : ℕ → ℕ → Option Item) (x y : PropagationState) (a : ℕ) → IsConsistent items x → x.pending ≡ y.pending ++ a ∷ [] →
    ((b : ℕ) → y.front b ≡ x.front b) → ((b : ℕ) → y.done b ≡ x.done b) → ((l : ℕ) → y.last l ≡ x.last l) →
    ((j : ℕ) (i : Item) → items a j ≡ Some i → i.number < x.front a → j < x.done a) → IsConsistent items y
pop_consistent items x y a w e f d l none = record {
  inside = λ b j i h k. omega (arith, w.inside b j i h (omega (arith, k, d b)), f b);
  reached = λ b j n g h k. omega (arith, w.reached b j n g h (omega (arith, k, d b)), f g.slot);
  lasts = λ m c h.
      let (b, j, n, k, i) = w.lasts m c (sym (l m) ∙ h) in
      (b, j, n, omega (arith, k, d b), i);
  ended = λ b j n m c h k.
      let (s, was, both) = w.ended b j n m c h (omega (arith, k, d b)) in (
        s,
        l m ∙ was,
        elim both [
          | inl z ↦ inl z
          | inr z ↦ inr (z.0, omega (arith, z.1, f c.end.slot))
        ],
      );
  queued = λ b j i h k. elim (w.queued b j i h (omega (arith, k, f b))) [
    | inl z ↦ inl (omega (arith, z, d b))
    | inr c ↦ elim (push_cases y.pending a b (subst (λ z. Contains z b) e c)) [
      | inl z ↦ inr z
      | inr z ↦
          let at : items a j ≡ Some i = subst (λ u. items u j ≡ Some i) (sym z) h in
          let m : y.front b ≡ y.front a = ap y.front (sym z) in
          let n : y.done b ≡ y.done a = ap y.done (sym z) in
          inl (omega (arith, none j i at (omega (arith, k, m, f a)), n, d a))
    ]
  ];
}

pub same_more : (xs ys zs : List Member) → AreSame xs ys → AreSame ys zs → AreSame xs zs
same_more xs ys zs a b = record {
  same_length = b.same_length ∙ a.same_length;
  places = λ i x z h k.
      let (y, g) = at_index ys i (omega (arith, slice_get_within xs i x h, a.same_length)) in
      b.places i y z g k ∙ a.places i x y h g;
}
