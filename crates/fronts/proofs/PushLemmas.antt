-- The requirements of each place, and the items that it adds to its thread.
use Rattle.std.proofs.Common.{◌≡◌, ◌↔◌, ℕ, zero, suc, ◌<◌, ◌≤◌, ◌⊎◌, inl, inr, List, [], ◌∷◌, ◌++◌, Option, Some, None, MatchOption, refl, sym, ap, subst, ◌∙◌, arith, append_assoc, append-nil}
use Rattle.std.specs.List.{Contains}
use Rattle.std.specs.Option.{option_and_then}
use Rattle.std.proofs.lemmas.Bool.{cases_lt}
use Rattle.std.proofs.lemmas.Option.{none-some, same_Some}
use Rattle.std.proofs.lemmas.List.Elements.{Contains-append_left, Contains-append_right, Contains-append_cases, Contains-push, Contains-push_cases}
use Rattle.trace_model.specs.declared.traces.event.Op.{Op}
use Rattle.trace_model.specs.declared.traces.event.Op.TheVariants.{Fork, Join, Write}
use Rattle.trace_model.specs.Theory.Trace.{Trace, event, At, Does, OfThread}
use Rattle.trace_model.specs.Theory.Held.{BeginsOn}
use Rattle.trace_model.specs.Theory.Lawful.{IsWellFormed}
use Rattle.trace_model.specs.Theory.Lookups.{writer_of}
use Rattle.trace_model.proofs.Theory.Lookups.{writer_so}
use Rattle.trace_model.proofs.Theory.Least.{at_thread}
use Rattle.trace_index.specs.Numbers.{earlier_events, number_at}
use Rattle.trace_model.proofs.Theory.Existence.{needed_before}
use Rattle.fronts.specs.declared.requirements.ThreadPrefix.{ThreadPrefix}
use Rattle.fronts.specs.declared.requirements.Section.{Section}
use Rattle.fronts.specs.declared.requirements.Requirement.{Requirement}
use Rattle.fronts.specs.declared.requirements.Requirement.TheVariants.{Reach, Begin}
use Rattle.fronts.specs.declared.requirements.Item.{Item}
use Rattle.fronts.specs.Slots.{AreSlots, HasSlotPosition}
use Rattle.fronts.specs.Threads.{IsLastOfThread}
use Rattle.fronts.specs.Requirements.{Needs, IsPrefixThrough, EndsSection, item}
use Rattle.fronts.specs.Pushing.{SlottedTrace, requirement_items, IsRequired, IsRedundant, AddsPrefix, AddsReach, IsStart, IsFirstNeed, IsLastNeed, IsBegin, IsRequirement, IsForkLater, IsReached, IsIncluded, AreUpTo, IsBegun, AddsRequirements}
use Rattle.fronts.proofs.FrontLemmas.{earlier_lt}
use Rattle.fronts.proofs.SlotLemmas.{number_of, number_is, position_before}

abbrev joined_thread : Op → ℕ
joined_thread (Join c) = c
joined_thread _ = 0

same_joined : (s : Trace) (q t c d : ℕ) → At s q (event t (Join c)) → Does s q (Join d) → d ≡ c
same_joined s q t c d at (u, other) = ap (λ e. joined_thread e.op) (same_Some (event u (Join d)) (event t (Join c)) (sym other ∙ at))

pub start_is : (s : Trace) (q t : ℕ) (o : Option ℕ) → OfThread s q t → ((r : ℕ) → (o ≡ Some r) ↔ Does s r (Fork t)) → IsStart s q o
start_is s q t o here f = record {
  true_need = λ r h. inl (inl (t, here, (f r).0 h));
  fork = λ u r n other d. (f r).1 (subst (λ z. Does s r (Fork z)) (at_thread s q u t other here) d);
}

pub first_join : (s : Trace) (q t c : ℕ) (o : Option ℕ) → At s q (event t (Join c)) → ((r : ℕ) → (o ≡ Some r) ↔ Does s r (Fork c)) → IsFirstNeed s q o
first_join s q t c o at f = record {
  true_need = λ r h. inl (inr (c, (t, at), inl ((f r).0 h)));
  written = λ r w. absurd (none-some r (sym (ap (option_and_then (λ e. writer_of s q e.op)) at) ∙ w));
  fork = λ d r dq dr. (f r).1 (subst (λ z. Does s r (Fork z)) (same_joined s q t c d at dq) dr);
}

pub last_join : (s : Trace) (q t c : ℕ) (o : Option ℕ) → At s q (event t (Join c)) → MatchOption o ((p : ℕ) → OfThread s p c → ⊥) (IsLastOfThread s c) → IsLastNeed s q o
last_join s q t c None at h = record {
  true_need = λ r e. absurd (none-some r e);
  joined = λ d r dq o. absurd (h r (subst (OfThread s r) (same_joined s q t c d at dq) o));
}
last_join s q t c (Some p) at h = record {
  true_need = λ r e. inl (inr (c, (t, at), inr (subst (λ z. OfThread s z c) (same_Some p r e) h.0)));
  joined = λ d r dq o.
      let e = same_joined s q t c d at dq in
      (p, refl, subst (OfThread s p) (sym e) h.0, h.1 r (subst (OfThread s r) e o));
}

pub begin_is : (v : SlottedTrace) (q k l : ℕ) (c : Section) → BeginsOn v.trace q k → v.locks q ≡ Some l → c.place ≡ q → EndsSection v.trace v.slots c →
    IsBegin v q (Some (Begin l c))
begin_is v q k l c on lock e ends = record {
  true_need = λ requirement h. (l, c, k, sym (same_Some (Begin l c) requirement h), e, on, lock, ends);
  begun = λ j b. (Begin l c, refl);
}

-- If no section begins at a place, it has no such requirement.
pub begin_none : (v : SlottedTrace) (q : ℕ) → ((k : ℕ) → BeginsOn v.trace q k → ⊥) → IsBegin v q None
begin_none v q none = record {
  true_need = λ requirement h. absurd (none-some requirement h);
  begun = λ k on. absurd (none k on);
}

-- A required place is before the place that requires it.
pub need_before : (s : Trace) → IsWellFormed s → (q r : ℕ) → Needs s q r → r < q
need_before s well q r (inl fork_or_join) = needed_before s well r q fork_or_join
need_before s well q r (inr w) = let so = writer_so s q r w in so.2.0

need_thread : (s : Trace) (q r : ℕ) → Needs s q r → (t : ℕ) × OfThread s r t
need_thread s q r (inl (inl (t, o, (u, at)))) = (u, (Fork t, at))
need_thread s q r (inl (inr (c, d, inl (u, at)))) = (u, (Fork c, at))
need_thread s q r (inl (inr (c, d, inr o))) = (c, o)
need_thread s q r (inr w) = let so = writer_so s q r w in (so.2.1.0, (Write so.0, so.2.1.1))

pub none_in : {X : Type 0} (x : X) → Contains [] x → ⊥
none_in x (k, l, e) = omega arith

one_in : {X : Type 0} (y x : X) → Contains (y ∷ []) x → y ≡ x
one_in y x h = elim (Contains-push_cases [] y x h) [
  | inl none ↦ absurd (none_in x none)
  | inr e ↦ e
]

abbrev prefix_in : Requirement → ThreadPrefix → ThreadPrefix
prefix_in (Reach g) d = g
prefix_in (Begin l c) d = d

abbrev lock_in : Requirement → ℕ → ℕ
lock_in (Reach g) d = d
lock_in (Begin l c) d = l

abbrev section_in : Requirement → Section → Section
section_in (Reach g) d = d
section_in (Begin l c) d = c

abbrev IsReach : Requirement → Type 0
IsReach (Reach g) = Unit
IsReach (Begin l c) = ⊥

reach_only : (v : SlottedTrace) (q r n : ℕ) (g : ThreadPrefix) (i : Item) → Needs v.trace q r → IsPrefixThrough v.trace v.slots g r →
    Contains (item n (Reach g) ∷ []) i → IsRequirement v q n i
reach_only v q r n g i need through h =
    subst (IsRequirement v q n) (one_in (item n (Reach g)) i h) (record {
      number = refl;
      reach = λ prefix e. (r, need, subst (λ z. IsPrefixThrough v.trace v.slots z r) (ap (λ z. prefix_in z g) e) through);
      begin = λ l c e. absurd (subst IsReach e tt);
    })

begin_only : (v : SlottedTrace) (q n : ℕ) (o : Option Requirement) (i : Item) → IsBegin v q o → Contains (requirement_items n o) i → IsRequirement v q n i
begin_only v q n None i b h = absurd (none_in i h)
begin_only v q n (Some requirement) i b h =
    let (l, c, k, e, at, on, lock, ends) = b.true_need requirement refl in
    subst (IsRequirement v q n) (ap (item n) (sym e) ∙ one_in (item n requirement) i h) (record {
      number = refl;
      reach = λ prefix f. absurd (subst IsReach (sym f) tt);
      begin = λ m d f.
          let sec : c ≡ d = ap (λ z. section_in z c) f in
          let num : l ≡ m = ap (λ z. lock_in z l) f in
          (k, subst (λ z. z.place ≡ q) sec at, on, subst (λ z. v.locks q ≡ Some z) num lock, subst (EndsSection v.trace v.slots) sec ends);
    })

number_le : (s : Trace) (t p r : ℕ) → OfThread s r t → r ≤ p → earlier_events s t r ≤ earlier_events s t p
number_le s t p r o l = elim (cases_lt r p) [
  | inl less ↦ omega (arith, earlier_lt s t r p o less)
  | inr not ↦ let e : r ≡ p = omega (arith, l, not) in omega (arith, ap (earlier_events s t) e)
]

-- The prefix through a later place of the thread contains the place.
through_holds : (s : Trace) (slots : ℕ → Option ℕ) (count p r t : ℕ) (prefix : ThreadPrefix) → AreSlots s slots count → IsPrefixThrough s slots prefix p →
    OfThread s p t → OfThread s r t → r ≤ p → (m : ℕ) × HasSlotPosition s slots r prefix.slot m × (m < prefix.count)
through_holds s slots count p r t prefix k (n, at, e) op or l = (
  earlier_events s t r,
  record { slot = k.alike p r prefix.slot t at.slot op or; number = number_of s r t or },
  omega (arith, e, number_is s p t n op at.number, number_le s t p r or l),
)

-- What an item requires includes the shorter prefixes of the same thread.
required_holds : (s : Trace) (slots : ℕ → Option ℕ) (n r m : ℕ) (prefix : ThreadPrefix) (xs : List Item) → AreUpTo n xs → IsRequired prefix xs →
    HasSlotPosition s slots r prefix.slot m → m < prefix.count → IsReached s slots n r xs
required_holds s slots n r m prefix xs upto (k, known, c, slot, longer) at l = (
  k,
  known,
  m,
  c,
  upto (item k (Reach known)) c,
  subst (λ a. HasSlotPosition s slots r a m) (sym slot) at,
  omega (arith, longer, l),
)

redundant_holds : (s : Trace) (slots : ℕ → Option ℕ) (count q r m : ℕ) (position prefix : ThreadPrefix) (xs : List Item) → AreSlots s slots count →
    HasSlotPosition s slots q position.slot position.count → AreUpTo position.count xs → IsRedundant position prefix xs →
    HasSlotPosition s slots r prefix.slot m → m < prefix.count → IsIncluded s slots q position.count r xs
redundant_holds s slots count q r m position prefix xs k here upto (inl (slot, few)) at l =
    inl (position_before s slots count r q position.slot m position.count k (subst (λ a. HasSlotPosition s slots r a m) slot at) here (omega (arith, few, l)))
redundant_holds s slots count q r m position prefix xs k here upto (inr required) at l =
    inr (required_holds s slots position.count r m prefix xs upto required at l)

pub reached_left : (s : Trace) (slots : ℕ → Option ℕ) (n r : ℕ) (xs ys : List Item) → IsReached s slots n r xs → IsReached s slots n r (xs ++ ys)
reached_left s slots n r xs ys (k, prefix, m, c, few, st, l) = (k, prefix, m, Contains-append_left xs ys (item k (Reach prefix)) c, few, st, l)

pub included_left : (s : Trace) (slots : ℕ → Option ℕ) (q n r : ℕ) (xs ys : List Item) → IsIncluded s slots q n r xs → IsIncluded s slots q n r (xs ++ ys)
included_left s slots q n r xs ys (inl own) = inl own
included_left s slots q n r xs ys (inr at) = inr (reached_left s slots n r xs ys at)

pub begun_left : (q n : ℕ) (xs ys : List Item) → IsBegun q n xs → IsBegun q n (xs ++ ys)
begun_left q n xs ys (l, c, h, e) = (l, c, Contains-append_left xs ys (item n (Begin l c)) h, e)

pub begun_right : (q n : ℕ) (xs ys : List Item) → IsBegun q n ys → IsBegun q n (xs ++ ys)
begun_right q n xs ys (l, c, h, e) = (l, c, Contains-append_right xs ys (item n (Begin l c)) h, e)

begun_at : (v : SlottedTrace) (q n k : ℕ) (o : Option Requirement) → IsBegin v q o → BeginsOn v.trace q k → IsBegun q n (requirement_items n o)
begun_at v q n k o b on =
    let (requirement, e) = b.begun k on in
    let (l, c, j, f, at, here, lock, ends) = b.true_need requirement e in
    let last = Contains-push [] (item n (Begin l c)) in
    let there = subst (λ (z : Requirement). Contains (requirement_items n (Some z)) (item n (Begin l c))) (sym f) last in
    (l, c, subst (λ (z : Option Requirement). Contains (requirement_items n z) (item n (Begin l c))) (sym e) there, at)

-- The old items, followed by requirements of the place `q`. A place of the thread of `o`, up to `o`, is included afterwards.
pub record Adds (v : SlottedTrace) (q n : ℕ) (o : Option ℕ) (old new : List Item) : Type 0 where
  pub added : List Item
  pub is : new ≡ old ++ added
  pub only : (i : Item) → Contains added i → IsRequirement v q n i
  pub holds : AreUpTo n old → (p r t : ℕ) → o ≡ Some p → OfThread v.trace p t → OfThread v.trace r t → r ≤ p → IsIncluded v.trace v.slots q n r new

prefix_added : (v : SlottedTrace) (count q p : ℕ) (position prefix : ThreadPrefix) (old new : List Item) → AreSlots v.trace v.slots count →
    HasSlotPosition v.trace v.slots q position.slot position.count → Needs v.trace q p → IsPrefixThrough v.trace v.slots prefix p →
    AddsPrefix position prefix old new → Adds v q position.count (Some p) old new
prefix_added v count q p position prefix old new k here need through (inl is) =
    let one = item position.count (Reach prefix) in record {
      added = one ∷ [];
      is = is;
      only = λ i h. reach_only v q p position.count prefix i need through h;
      holds = λ upto z r t e oz or l.
          let op = subst (λ y. OfThread v.trace y t) (sym (same_Some p z e)) oz in
          let (m, at, less) = through_holds v.trace v.slots count p r t prefix k through op or (omega (arith, l, same_Some p z e)) in
          inr (position.count, prefix, m, subst (λ ys. Contains ys one) (sym is) (Contains-append_right old (one ∷ []) one (Contains-push [] one)), omega arith, at, less);
    }
prefix_added v count q p position prefix old new k here need through (inr (is, redundant)) = record {
  added = [];
  is = is ∙ sym (append-nil old);
  only = λ i h. absurd (none_in i h);
  holds = λ upto z r t e oz or l.
      let op = subst (λ y. OfThread v.trace y t) (sym (same_Some p z e)) oz in
      let (m, at, less) = through_holds v.trace v.slots count p r t prefix k through op or (omega (arith, l, same_Some p z e)) in
      subst (IsIncluded v.trace v.slots q position.count r) (sym is) (redundant_holds v.trace v.slots count q r m position prefix old k here upto redundant at less);
}

-- No place is added.
pub no_needs : (v : SlottedTrace) (q n : ℕ) (xs : List Item) → Adds v q n None xs xs
no_needs v q n xs = record {
  added = [];
  is = sym (append-nil xs);
  only = λ i h. absurd (none_in i h);
  holds = λ upto p r t e oz or l. absurd (none-some p e);
}

pub reach_added : (v : SlottedTrace) (count q : ℕ) (o : Option ℕ) (position : ThreadPrefix) (old new : List Item) → AreSlots v.trace v.slots count →
    HasSlotPosition v.trace v.slots q position.slot position.count → ((r : ℕ) → o ≡ Some r → Needs v.trace q r) →
    AddsReach v.trace v.slots position o old new → Adds v q position.count o old new
reach_added v count q None position old new k here so is = record {
  added = [];
  is = is ∙ sym (append-nil old);
  only = λ i h. absurd (none_in i h);
  holds = λ upto p r t e oz or l. absurd (none-some p e);
}
reach_added v count q (Some p) position old new k here so (prefix, through, adds) =
    prefix_added v count q p position prefix old new k here (so p refl) through adds

upto_added : (v : SlottedTrace) (q n : ℕ) (o : Option ℕ) (old new : List Item) → AreUpTo n old → Adds v q n o old new → AreUpTo n new
upto_added v q n o old new upto adds i h = elim (Contains-append_cases old adds.added i (subst (λ ys. Contains ys i) adds.is h)) [
  | inl before ↦ upto i before
  | inr now ↦ omega (arith, (adds.only i now).number)
]

included_added : (v : SlottedTrace) (q n r : ℕ) (o : Option ℕ) (old new : List Item) → Adds v q n o old new → IsIncluded v.trace v.slots q n r old → IsIncluded v.trace v.slots q n r new
included_added v q n r o old new adds at = subst (IsIncluded v.trace v.slots q n r) (sym adds.is) (included_left v.trace v.slots q n r old adds.added at)

four_pushed : (old one two three new x y z w : List Item) → one ≡ old ++ x → two ≡ one ++ y → three ≡ two ++ z → new ≡ three ++ w → new ≡ old ++ (x ++ (y ++ (z ++ w)))
four_pushed old one two three new x y z w a b c d =
    d ∙ (ap (λ l. l ++ w) (c ∙ (ap (λ l. l ++ z) (b ∙ (ap (λ l. l ++ y) a)))) ∙ simp append_assoc refl)

pub requirements_from : (v : SlottedTrace) (q n : ℕ) (a b c : Option ℕ) (o : Option Requirement) (old one two three new : List Item) → number_at v.trace q ≡ Some n →
    IsStart v.trace q a → IsFirstNeed v.trace q b → IsLastNeed v.trace q c → IsBegin v q o →
    Adds v q n a old one → Adds v q n b one two → Adds v q n c two three → new ≡ three ++ requirement_items n o → AddsRequirements v q old new
requirements_from v q n a b c o old one two three new num start first last begin first_adds second_adds third_adds is = (
  n,
  xs ++ (ys ++ (zs ++ ws)),
  num,
  all,
  record {
    only = λ i h. elim (Contains-append_cases xs (ys ++ (zs ++ ws)) i h) [
      | inl hx ↦ first_adds.only i hx
      | inr h1 ↦ elim (Contains-append_cases ys (zs ++ ws) i h1) [
        | inl hy ↦ second_adds.only i hy
        | inr h2 ↦ elim (Contains-append_cases zs ws i h2) [
          | inl hz ↦ third_adds.only i hz
          | inr hw ↦ begin_only v q n o i begin hw
        ]
      ]
    ];
    needs = λ upto r need. subst (λ l. IsForkLater v.trace q n r ⊎ IsIncluded v.trace v.slots q n r l) all (needed upto r need);
    begins = λ j on. begun_right q n xs (ys ++ (zs ++ ws)) (begun_right q n ys (zs ++ ws) (begun_right q n zs ws (begun_at v q n j o begin on)));
  },
)
  where
    xs : List Item
    xs = first_adds.added

    ys : List Item
    ys = second_adds.added

    zs : List Item
    zs = third_adds.added

    ws : List Item
    ws = requirement_items n o

    all : new ≡ old ++ (xs ++ (ys ++ (zs ++ ws)))
    all = four_pushed old one two three new xs ys zs ws first_adds.is second_adds.is third_adds.is is

    from_three : (r : ℕ) → IsIncluded v.trace v.slots q n r three → IsIncluded v.trace v.slots q n r new
    from_three r at = subst (IsIncluded v.trace v.slots q n r) (sym is) (included_left v.trace v.slots q n r three ws at)

    from_two : (r : ℕ) → IsIncluded v.trace v.slots q n r two → IsIncluded v.trace v.slots q n r new
    from_two r at = from_three r (included_added v q n r c two three third_adds at)

    by_start : AreUpTo n old → (r : ℕ) → Needs v.trace q r → a ≡ Some r → IsIncluded v.trace v.slots q n r new
    by_start upto r need e =
        let (t, here) = need_thread v.trace q r need in
        from_two r (included_added v q n r b one two second_adds (first_adds.holds upto r r t e here here (omega arith)))

    by_first : AreUpTo n old → (r : ℕ) → Needs v.trace q r → b ≡ Some r → IsIncluded v.trace v.slots q n r new
    by_first upto r need e =
        let (t, here) = need_thread v.trace q r need in
        from_two r (second_adds.holds (upto_added v q n a old one upto first_adds) r r t e here here (omega arith))

    by_last : AreUpTo n old → (r t : ℕ) → OfThread v.trace r t → (p : ℕ) × (c ≡ Some p) × OfThread v.trace p t × (r ≤ p) → IsIncluded v.trace v.slots q n r new
    by_last upto r t or (p, e, op, l) =
        from_three r (third_adds.holds (upto_added v q n b one two (upto_added v q n a old one upto first_adds) second_adds) p r t e op or l)

    own_fork : AreUpTo n old → (m r t : ℕ) → n ≡ m → OfThread v.trace q t → Does v.trace r (Fork t) → IsForkLater v.trace q n r ⊎ IsIncluded v.trace v.slots q n r new
    own_fork upto zero r t e oq d = inr (by_start upto r (inl (inl (t, oq, d))) (start.fork t r (num ∙ ap Some e) oq d))
    own_fork upto (suc m) r t e oq d = inl ((λ z. omega (arith, e, z)), t, oq, d)

    needed : AreUpTo n old → (r : ℕ) → Needs v.trace q r → IsForkLater v.trace q n r ⊎ IsIncluded v.trace v.slots q n r new
    needed upto r (inl (inl (t, oq, d))) = own_fork upto n r t refl oq d
    needed upto r (inl (inr (j, dq, inl dr))) = inr (by_first upto r (inl (inr (j, dq, inl dr))) (first.fork j r dq dr))
    needed upto r (inl (inr (j, dq, inr or))) = inr (by_last upto r j or (last.joined j r dq or))
    needed upto r (inr w) = inr (by_first upto r (inr w) (first.written r w))
