-- The tables while they are built, place by place.
use Rattle.std.proofs.Common.{◌≡◌, ℕ, zero, suc, ◌+◌, ◌<◌, ◌≤◌, ◌⊎◌, inl, inr, Vec, List, [], ◌∷◌, ◌++◌, length, slice_get, slice_set, Option, Some, None, refl, sym, ap, subst, ◌∙◌, add-one, get_or, arith}
use Rattle.std.specs.Global.{Global}
use Rattle.std.specs.List.{Contains}
use Rattle.std.specs.Arc.{arc_value}
use Rattle.std.specs.Option.{option_map, option_and_then}
use Rattle.std.proofs.lemmas.Bool.{cases_lt}
use Rattle.std.proofs.lemmas.Option.{none-some, same_Some, slice_get_within, slice_get_past, slice_get-get_or, slice_get_read, get_or_from_slice_get}
use Rattle.std.proofs.lemmas.List.Elements.{Contains-append_cases}
use Rattle.trace_model.specs.Theory.Trace.{Trace, OfThread}
use Rattle.trace_model.specs.Theory.Held.{BeginsOn}
use Rattle.trace_model.proofs.Lists.{at_index, length-push, get-push, get-set_same, get-set_other}
use Rattle.trace_model.specs.Theory.Closure.{ascending_places}
use Rattle.trace_index.specs.Numbers.{of_thread, number_at}
use Rattle.fronts.specs.declared.requirements.ThreadPrefix.{ThreadPrefix}
use Rattle.fronts.specs.declared.requirements.Requirement.{Requirement}
use Rattle.fronts.specs.declared.requirements.Requirement.TheVariants.{Reach, Begin}
use Rattle.fronts.specs.declared.requirements.Item.{Item}
use Rattle.fronts.specs.declared.requirements.Requirements.{Requirements}
use Rattle.fronts.specs.Slots.{place_slot, slots_of, AreSlots, AreSlotPlaces, HasSlotPosition}
use Rattle.fronts.specs.Firsts.{thread_slot_at, lock_slot_at, threads_below, locks_below}
use Rattle.fronts.specs.Tables.{AreSlotPositions}
use Rattle.fronts.specs.Requirements.{Needs, AreLocks, AreItems, AreRequirements, item, item_at}
use Rattle.fronts.specs.Pushing.{SlottedTrace, trace_with_slots, IsRequirement, IsForkLater, IsIncluded, AreUpTo, IsBegun, IsBegin, NeedsNone, requirement_items, AddsRequirements, AreBuilt, AreAllBuilt}
use Rattle.fronts.proofs.SlotLemmas.{before_position, earlier_position, has_upto}
use Rattle.fronts.proofs.ThreadLemmas.{place_below}
use Rattle.fronts.proofs.FirstLemmas.{thread_slots, lock_slots, thread_slot_below}
use Rattle.fronts.proofs.PushLemmas.{included_left, begun_left, begun_right, none_in, no_needs, requirements_from}

found_at : {X : Type 0} (xs : List X) (x : X) → Contains xs x → (k : ℕ) × (slice_get xs k ≡ Some x)
found_at xs x (k, l, e) = (k, slice_get-get_or xs k x l ∙ ap Some e)

contained : {X : Type 0} (xs : List X) (k : ℕ) (x : X) → slice_get xs k ≡ Some x → Contains xs x
contained xs k x h = (k, slice_get_within xs k x h, get_or_from_slice_get xs k x x h)

-- An element of two concatenated lists is in the first one, or after it.
two_lists : {X : Type 0} (xs ys : List X) (k : ℕ) (x : X) → slice_get (xs ++ ys) k ≡ Some x → (slice_get xs k ≡ Some x) ⊎ ((length xs ≤ k) × Contains ys x)
two_lists [] ys k x h = inr (omega arith, contained ys k x h)
two_lists (z ∷ zs) ys zero x h = inl h
two_lists (z ∷ zs) ys (suc k) x h = elim (two_lists zs ys k x h) [
  | inl a ↦ inl a
  | inr b ↦ inr (omega (arith, b.0), b.1)
]

-- The place `q` is below `p`, or is `p`.
upto : (p q : ℕ) → q < suc p → (q < p) ⊎ (q ≡ p)
upto p q l = elim (cases_lt q p) [
  | inl less ↦ inl less
  | inr not ↦ inr (omega (arith, l, not))
]

built_other : (v : SlottedTrace) (p a : ℕ) (xs : List Item) → (v.slots p ≡ Some a → ⊥) → AreBuilt v p a xs → AreBuilt v (suc p) a xs
built_other v p a xs apart b = record {
  only = λ i h. let (q, l, st, d) = b.only i h in (q, omega (arith, l), st, d);
  ascend = b.ascend;
  needs = λ q r n l st requirement. elim (upto p q l) [
    | inl less ↦ b.needs q r n less st requirement
    | inr e ↦ absurd (apart (subst (λ z. v.slots z ≡ Some a) e st.slot))
  ];
  begins = λ q k n l st on. elim (upto p q l) [
    | inl less ↦ b.begins q k n less st on
    | inr e ↦ absurd (apart (subst (λ z. v.slots z ≡ Some a) e st.slot))
  ];
}

built_pushed : (v : SlottedTrace) (count p a : ℕ) (xs ys : List Item) → AreSlots v.trace v.slots count → v.slots p ≡ Some a → AreBuilt v p a xs →
    AddsRequirements v p xs ys → AreBuilt v (suc p) a ys
built_pushed v count p a xs ys k slot b (n, added, num, is, d) = subst (AreBuilt v (suc p) a) (sym is) (record {
  only = λ i h. elim (Contains-append_cases xs added i h) [
    | inl old ↦ let (q, l, st, dem) = b.only i old in (q, omega (arith, l), st, dem)
    | inr new ↦
        let dem = d.only i new in
        let e : i.number ≡ n = dem.number in
        (p, omega arith, subst (HasSlotPosition v.trace v.slots p a) (sym e) here, subst (λ z. IsRequirement v p z i) (sym e) dem)
  ];
  ascend = λ i j x y l hx hy. elim (two_lists xs added i x hx) [
    | inl ox ↦ elim (two_lists xs added j y hy) [
      | inl oy ↦ b.ascend i j x y l ox oy
      | inr ny ↦
          let (q, less, st, dem) = b.only x (contained xs i x ox) in
          omega (arith, before_position v.trace v.slots count q p a x.number n k st here less, (d.only y ny.1).number)
    ]
    | inr nx ↦ elim (two_lists xs added j y hy) [
      | inl oy ↦ absurd (omega (arith, l, nx.0, slice_get_within xs j y oy))
      | inr ny ↦ omega (arith, (d.only x nx.1).number, (d.only y ny.1).number)
    ]
  ];
  needs = λ q r m l st requirement. elim (upto p q l) [
    | inl less ↦ elim (b.needs q r m less st requirement) [
      | inl later ↦ inl later
      | inr at ↦ inr (included_left v.trace v.slots q m r xs added at)
    ]
    | inr e ↦
        let same : n ≡ m = same_Some n m (sym num ∙ subst (λ z. number_at v.trace z ≡ Some m) e st.number) in
        let now = d.needs earlier r (subst (λ z. Needs v.trace z r) e requirement) in
        subst (λ z. IsForkLater v.trace z m r ⊎ IsIncluded v.trace v.slots z m r (xs ++ added)) (sym e)
        (subst (λ z. IsForkLater v.trace p z r ⊎ IsIncluded v.trace v.slots p z r (xs ++ added)) same now)
  ];
  begins = λ q j m l st on. elim (upto p q l) [
    | inl less ↦ begun_left q m xs added (b.begins q j m less st on)
    | inr e ↦
        let same : n ≡ m = same_Some n m (sym num ∙ subst (λ z. number_at v.trace z ≡ Some m) e st.number) in
        let now : IsBegun p m added = subst (λ z. IsBegun p z added) same (d.begins j (subst (λ z. BeginsOn v.trace z j) e on)) in
        begun_right q m xs added (subst (λ z. IsBegun z m added) (sym e) now)
  ];
})
  where
    here : HasSlotPosition v.trace v.slots p a n
    here = record { slot = slot; number = num }

    earlier : AreUpTo n xs
    earlier i h =
        let (q, l, st, dem) = b.only i h in
        omega (arith, before_position v.trace v.slots count q p a i.number n k st here l)

-- A property of each element, with one more element.
pub each_pushed : {X : Type 0} (P : ℕ → X → Type 0) (old new : List X) (n : ℕ) (x : X) → new ≡ old ++ x ∷ [] → length old ≡ n →
    ((k : ℕ) (y : X) → slice_get old k ≡ Some y → P k y) → P n x → (k : ℕ) (y : X) → slice_get new k ≡ Some y → P k y
each_pushed P old new n x is len each last k y at = elim (get-push old x k y (ap (λ z. slice_get z k) (sym is) ∙ at)) [
  | inl before ↦ each k y before
  | inr here ↦ subst (P k) here.1 (subst (λ z. P z x) (sym (here.0 ∙ len)) last)
]

pub length_pushed : {X : Type 0} (old new : List X) (n : ℕ) (x : X) → new ≡ old ++ x ∷ [] → length old ≡ n → length new ≡ n + 1
length_pushed old new n x is len = ap length is ∙ (length-push old x ∙ omega (arith, len))

-- A slot that no place has yet has no requirements.
none_built : (v : SlottedTrace) (p a : ℕ) → ((q : ℕ) → q < p → v.slots q ≡ Some a → ⊥) → AreBuilt v p a []
none_built v p a none = record {
  only = λ i h. absurd (none_in i h);
  ascend = λ j k x y l hx hy. absurd (none-some x hx);
  needs = λ q r n l st requirement. absurd (none q l st.slot);
  begins = λ q k n l st on. absurd (none q l st.slot);
}

-- One more list, for a new thread.
pub list_pushed : (s : Trace) (p : ℕ) (old new : List (Vec Item Global)) (one : Vec Item Global) → one.items ≡ [] → length old ≡ threads_below s p →
    new ≡ old ++ one ∷ [] → AreAllBuilt (trace_with_slots s) p old → AreAllBuilt (trace_with_slots s) p new
list_pushed s p old new one empty len is all =
    each_pushed (λ a (xs : Vec Item Global). AreBuilt (trace_with_slots s) p a xs.items) old new (threads_below s p) one is len all
    (subst (AreBuilt (trace_with_slots s) p (threads_below s p)) (sym empty)
    (none_built (trace_with_slots s) p (threads_below s p) (λ q l h. omega (arith, thread_slot_below s q (threads_below s p) p h l))))

-- One more place.
all_pushed : (v : SlottedTrace) (count p a : ℕ) (lists : List (Vec Item Global)) (old new : Vec Item Global) → AreSlots v.trace v.slots count → v.slots p ≡ Some a →
    slice_get lists a ≡ Some old → AddsRequirements v p old.items new.items → AreAllBuilt v p lists → AreAllBuilt v (suc p) (slice_set lists a new)
all_pushed v count p a lists old new k slot at adds all b zs h = elim (cases_lt a b) [
  | inl less ↦ other (λ e. omega (arith, less, e))
  | inr not ↦ elim (cases_lt b a) [
    | inl more ↦ other (λ e. omega (arith, more, e))
    | inr also ↦ same (omega (arith, not, also))
  ]
]
  where
    other : (a ≡ b → ⊥) → AreBuilt v (suc p) b zs.items
    other ne = built_other v p b zs.items (λ e. ne (same_Some a b (sym slot ∙ e))) (all b zs (sym (get-set_other lists a b new ne) ∙ h))

    same : a ≡ b → AreBuilt v (suc p) b zs.items
    same e =
        let is : new ≡ zs = same_Some new zs (sym (get-set_same lists a old new at) ∙ subst (λ z. slice_get (slice_set lists a new) z ≡ Some zs) (sym e) h) in
        subst (λ z. AreBuilt v (suc p) b z.items) is
        (subst (λ z. AreBuilt v (suc p) z new.items) e (built_pushed v count p a old.items new.items k slot (all a old at) adds))

-- One more place, whose requirements are added to the list of its thread.
pub place_built : (s : Trace) (p a : ℕ) (lists : List (Vec Item Global)) (old new : Vec Item Global) → thread_slot_at s p ≡ Some a → length lists ≡ threads_below s (p + 1) →
    old ≡ get_or lists a old → AreAllBuilt (trace_with_slots s) p lists → AddsRequirements (trace_with_slots s) p old.items new.items →
    AreAllBuilt (trace_with_slots s) (p + 1) (slice_set lists a new)
place_built s p a lists old new slot count value all adds =
    rw add-one (all_pushed (trace_with_slots s) _ p a lists old new (thread_slots s) slot at adds all)
  where
    few : a < threads_below s (p + 1)
    few = thread_slot_below s p a (p + 1) slot (omega arith)

    at : slice_get lists a ≡ Some old
    at = slice_get_read lists (threads_below s (p + 1)) a old (sym count) few value

-- A place that needs no place adds the item of its section, if one begins there.
pub begin_added : (v : SlottedTrace) (q n : ℕ) (o : Option Requirement) (old new : List Item) → number_at v.trace q ≡ Some n → NeedsNone v.trace q → IsBegin v q o →
    new ≡ old ++ requirement_items n o → AddsRequirements v q old new
begin_added v q n o old new num none begin is =
    requirements_from v q n None None None o old old old old new num none.start none.first none.last begin (no_needs v q n old) (no_needs v q n old) (no_needs v q n old) is

item_so : (d : Requirements) (a j : ℕ) (x : Item) → item_at d a j ≡ Some x → (xs : Vec Item Global) × (slice_get d.items.items a ≡ Some xs) × (slice_get xs.items j ≡ Some x)
item_so d a j x h = go (slice_get d.items.items a) refl h
  where
    go : (o : Option (Vec Item Global)) → slice_get d.items.items a ≡ o → option_and_then (λ xs. slice_get xs.items j) o ≡ Some x →
        (xs : Vec Item Global) × (slice_get d.items.items a ≡ Some xs) × (slice_get xs.items j ≡ Some x)
    go None e k = absurd (none-some x k)
    go (Some xs) e k = (xs, e, k)

item_from : (d : Requirements) (a : ℕ) (xs : Vec Item Global) (x : Item) → slice_get d.items.items a ≡ Some xs → Contains xs.items x → (j : ℕ) × (item_at d a j ≡ Some x)
item_from d a xs x h c =
    let (j, at) = found_at xs.items x c in
    (j, ap (option_and_then (λ z. slice_get z.items j)) h ∙ at)

pub items_built : (v : SlottedTrace) (d : Requirements) (count : ℕ) → AreSlots v.trace v.slots count → length d.items.items ≡ count →
    AreAllBuilt v (length v.trace) d.items.items → AreItems v.trace v.slots v.locks (item_at d)
items_built v d count k len all = record {
  ascend = λ a i j x y l hx hy.
      let (xs, at, fx) = item_so d a i x hx in
      let (ys, other, fy) = item_so d a j y hy in
      let e : ys ≡ xs = same_Some ys xs (sym other ∙ at) in
      (all a xs at).ascend i j x y l fx (subst (λ z. slice_get z.items j ≡ Some y) e fy);
  reach = λ a j n prefix h.
      let (xs, at, f) = item_so d a j (item n (Reach prefix)) h in
      let (q, l, st, dem) = (all a xs at).only (item n (Reach prefix)) (contained xs.items j (item n (Reach prefix)) f) in
      let (r, requirement, is) = dem.reach prefix refl in
      (q, r, st, requirement, is);
  begin = λ a j n l c h.
      let (xs, at, f) = item_so d a j (item n (Begin l c)) h in
      let (q, less, st, dem) = (all a xs at).only (item n (Begin l c)) (contained xs.items j (item n (Begin l c)) f) in
      let (i, e, on, lock, ends) = dem.begin l c refl in
      (i, subst (λ z. HasSlotPosition v.trace v.slots z a n) (sym e) st, subst (λ z. BeginsOn v.trace z i) (sym e) on, subst (λ z. v.locks z ≡ Some l) (sym e) lock, ends);
  needs = λ q r a n requirement st.
      let (t, oq) = k.of_place q a st.slot in
      let (xs, at) = list_of q a t st.slot oq in
      elim ((all a xs at).needs q r n (place_below v.trace t q oq) st requirement) [
        | inl (z, u, ou, fork) ↦
            let (p, sp) = has_upto v.trace v.slots count q a n k st 0 (omega arith) in
            let op = k.apart q p a u st.slot sp.slot ou in
            elim ((all a xs at).needs p r 0 (place_below v.trace u p op) sp (inl (inl (u, op, fork)))) [
              | inl later ↦ absurd (later.0 refl)
              | inr (inl own) ↦ let (i, sr, none) = earlier_position v.trace v.slots count r p a 0 k sp own in absurd (omega (arith, none))
              | inr (inr (h, prefix, m, c, few, sr, less)) ↦ let (j, f) = item_from d a xs (item h (Reach prefix)) at c in inr (j, h, prefix, m, f, omega (arith, few), sr, less)
            ]
        | inr (inl own) ↦ inl own
        | inr (inr (h, prefix, m, c, few, sr, less)) ↦ let (j, f) = item_from d a xs (item h (Reach prefix)) at c in inr (j, h, prefix, m, f, few, sr, less)
      ];
  begins = λ q i a n on st.
      let (t, oq) = k.of_place q a st.slot in
      let (xs, at) = list_of q a t st.slot oq in
      let (l, c, h, e) = (all a xs at).begins q i n (place_below v.trace t q oq) st on in
      let (j, f) = item_from d a xs (item n (Begin l c)) at h in
      (j, l, c, f, e);
}
  where
    list_of : (q a t : ℕ) → v.slots q ≡ Some a → OfThread v.trace q t → (xs : Vec Item Global) × (slice_get d.items.items a ≡ Some xs)
    list_of q a t e o =
        let (b, f, less) = k.each q t o in
        at_index d.items.items a (omega (arith, len, less, same_Some a b (sym e ∙ f)))

-- The listed slots are those that the first places give.
listed_slots : (s : Trace) (positions : List ThreadPrefix) → AreSlotPositions s positions → length positions ≡ length s → place_slot positions ≡ thread_slot_at s
listed_slots s positions are len i p = each p i
  where
    each : (p : ℕ) → place_slot positions p ≡ thread_slot_at s p
    each p = elim (cases_lt p (length s)) [
      | inl less ↦
          let (to, at) = at_index positions p (omega (arith, less, len)) in
          ap (option_map (λ to. to.slot)) at ∙ sym (are p to at).slot
      | inr not ↦
          ap (option_map (λ to. to.slot)) (slice_get_past positions p (omega (arith, not, len)))
          ∙ sym (ap (λ z. option_map (threads_below s) (option_and_then (λ e. slice_get (ascending_places (of_thread s e.thread) (length s)) 0) z)) (slice_get_past s p not))
    ]

pub requirements_built : (s : Trace) (d : Requirements) → AreSlotPositions s (arc_value d.threads.positions) → length (arc_value d.threads.positions) ≡ length s →
    d.threads.count ≡ threads_below s (length s) → d.lock_count ≡ locks_below s (length s) →
    length d.items.items ≡ d.threads.count → AreAllBuilt (trace_with_slots s) (length s) d.items.items → AreRequirements s d
requirements_built s d are long threads locks len all = record {
  slots = subst (λ f. AreSlots s f d.threads.count) (sym same) slots;
  lock_slots = lock_slot_at s;
  locks = subst (AreLocks s (lock_slot_at s)) (sym locks) (lock_slots s);
  positions = subst (λ f. AreSlotPlaces s f (arc_value d.threads.positions)) (sym same) (record { each = are; all = long });
  items = subst (λ f. AreItems s f (lock_slot_at s) (item_at d)) (sym same) (items_built (trace_with_slots s) d d.threads.count slots len all);
}
  where
    same : slots_of d.threads ≡ thread_slot_at s
    same = listed_slots s (arc_value d.threads.positions) are long

    slots : AreSlots s (thread_slot_at s) d.threads.count
    slots = subst (AreSlots s (thread_slot_at s)) (sym threads) (thread_slots s)
