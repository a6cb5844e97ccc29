-- An advancing member skips no place at which a set stops.
use Rattle.std.proofs.Common.{◌≡◌, ℕ, zero, suc, ◌+◌, ◌-◌, ◌<◌, ◌≤◌, max, inl, inr, Bool, true, false, List, [], ◌∷◌, length, slice_get, slice_set, Option, Some, refl, sym, ap, subst, ◌∙◌, arith}
use Rattle.std.specs.List.{Contains}
use Rattle.std.proofs.lemmas.Bool.{cases_lt, false≢true}
use Rattle.std.proofs.lemmas.Bool.Decides.{eqb_tells}
use Rattle.std.proofs.lemmas.Option.{none-some, same_Some, slice_get_within}
use Rattle.trace_model.specs.Theory.Trace.{Trace}
use Rattle.std.specs.List.Sorted.{IsStrictlyIncreasing}
use Rattle.trace_model.specs.Theory.Closure.{Places}
use Rattle.trace_index.specs.Numbers.{number_at}
use Rattle.trace_model.proofs.Theory.Ascending.{place_of, contains_at}
use Rattle.trace_model.proofs.Lists.{at_index, get-set_same, get-set_other}
use Rattle.trace_model.proofs.Theory.Unique.{increasing_ordered}
use Rattle.std.proofs.Math.ListN.{length-set}
use Rattle.fronts.specs.declared.requirements.ThreadPrefix.{ThreadPrefix}
use Rattle.fronts.specs.declared.members.Member.{Member}
use Rattle.fronts.specs.Slots.{AreSlots, HasSlotPosition, HoldsFirst, HasFirst, HoldsPlaces}
use Rattle.fronts.specs.Members.{Each, ArePassed, IsMember, EndsBefore, Stops, IsNotPast, IsAhead, IsSameMember, AreMoved, IsWithinCount, Advances, HasMoved, AreAdvanced, steps_left}
use Rattle.fronts.proofs.FrontLemmas.{earlier_lt}
use Rattle.fronts.proofs.SlotLemmas.{number_is, position_before, has_before, has_number}

pub each_set : {X : Type 0} (P : X → Type 0) (xs : List X) (k : ℕ) (x y : X) → slice_get xs k ≡ Some x → Each P xs → P y → Each P (slice_set xs k y)
each_set P xs k x y at all new i z h = elim (eqb_tells i k) [
  | inl e ↦ subst P (same_Some y z (sym (get-set_same xs k x y at) ∙ subst (λ j. slice_get (slice_set xs k y) j ≡ Some z) e.1 h)) new
  | inr e ↦ all i z (sym (get-set_other xs k i y (λ f. e.1 (sym f))) ∙ h)
]

pub same_refl : (x : Member) → IsSameMember x x
same_refl x = record { places = refl; slot = refl }

pub moved_none : (slot : ℕ) (xs : List Member) → AreMoved slot xs xs
moved_none slot xs = record {
  same_length = refl;
  same = λ i x y h k. subst (IsSameMember x) (same_Some x y (sym h ∙ k)) (same_refl x);
  others = λ i x y h k n. same_Some x y (sym h ∙ k);
}

-- One more member advanced.
pub moved_more : (slot : ℕ) (old xs : List Member) (k : ℕ) (x y : Member) → AreMoved slot old xs → slice_get xs k ≡ Some x →
    x.slot ≡ slot → IsSameMember x y → AreMoved slot old (slice_set xs k y)
moved_more slot old xs k x y m at here same = record {
  same_length = length-set xs k y ∙ m.same_length;
  same = λ i a b h g. elim (eqb_tells i k) [
    | inl e ↦
        let is_y : y ≡ b = same_Some y b (sym (get-set_same xs k x y at) ∙ subst (λ j. slice_get (slice_set xs k y) j ≡ Some b) e.1 g) in
        let ax = m.same i a x h (subst (λ j. slice_get xs j ≡ Some x) (sym e.1) at) in
        subst (IsSameMember a) is_y (record { places = same.places ∙ ax.places; slot = same.slot ∙ ax.slot })
    | inr e ↦ m.same i a b h (sym (get-set_other xs k i y (λ f. e.1 (sym f))) ∙ g)
  ];
  others = λ i a b h g n. elim (eqb_tells i k) [
    | inl e ↦
        let ax = m.same i a x h (subst (λ j. slice_get xs j ≡ Some x) (sym e.1) at) in
        absurd (n (sym ax.slot ∙ here))
    | inr e ↦ m.others i a b h (sym (get-set_other xs k i y (λ f. e.1 (sym f))) ∙ g) n
  ];
}

-- The number of a place of the thread is below that of a later one.
number_less : (s : Trace) (slots : ℕ → Option ℕ) (few p q a n m : ℕ) → AreSlots s slots few → slots p ≡ Some a → slots q ≡ Some a → p < q →
    number_at s p ≡ Some n → number_at s q ≡ Some m → n < m
number_less s slots few p q a n m k sp sq less np nq =
    let (t, of_q) = k.of_place q a sq in
    let of_p = k.apart q p a t sq sp of_q in
    omega (arith, earlier_lt s t p q of_p less, number_is s p t n of_p np, number_is s q t m of_q nq)

-- If a place of the member is among the first `count` of the thread, then so are the places before it.
pub passed_before : (s : Trace) (slots : ℕ → Option ℕ) (few : ℕ) (x : Member) (count j : ℕ) → AreSlots s slots few → IsMember s slots x → IsStrictlyIncreasing x.places →
    j < length x.places → ((q n : ℕ) → slice_get x.places j ≡ Some q → number_at s q ≡ Some n → n < count) →
    ArePassed s count x.places x.entry (j + 1)
passed_before s slots few x count j k mx ascends inside here i q n low high at is =
    let (u, at_u) = at_index x.places j inside in
    let on_u = mx.thread u (contains_at x.places u j at_u) in
    let (m, is_m) = has_number s slots few u x.slot k on_u in
    elim (cases_lt i j) [
      | inl less ↦
          let lower = number_less s slots few q u x.slot n m k (mx.thread q (contains_at x.places q i at)) on_u (increasing_ordered x.places ascends i j q u less at at_u) is is_m.number in
          omega (arith, lower, here u m at_u is_m.number)
      | inr over ↦
          let e : i ≡ j = omega (arith, high, over) in
          here q n (subst (λ z. slice_get x.places z ≡ Some q) e at) is
    ]

-- A place of the list after entry `e` that is not passed is not before the new place.
pub after_entry : (s : Trace) (slots : ℕ → Option ℕ) (count : ℕ) (x y : Member) (q : ℕ) → IsMember s slots x → Advances s slots count true x y → Contains x.places q → x.place < q →
    ((n : ℕ) → number_at s q ≡ Some n → n < count → ⊥) → (n : ℕ) → number_at s q ≡ Some n → y.place ≤ q
after_entry s slots count x y q mx a c l stays n is =
    let up = increasing_ordered x.places a.ascends in
    let (j, h) = place_of x.places q c in
    let at_y : slice_get x.places y.entry ≡ Some y.place = subst (λ ps. slice_get ps y.entry ≡ Some y.place) a.same.places a.is_member.at in
    elim (cases_lt j y.entry) [
      | inl early ↦ elim (cases_lt x.entry j) [
        | inl passed ↦ absurd (stays n is ((a.next refl).1 j q n passed early h is))
        | inr before ↦ elim (cases_lt j x.entry) [
          | inl less ↦ absurd (omega (arith, l, up j x.entry q x.place less h mx.at))
          | inr here ↦
              let e : j ≡ x.entry = omega (arith, before, here) in
              let same : q ≡ x.place = same_Some q x.place (sym h ∙ subst (λ i. slice_get x.places i ≡ Some x.place) (sym e) mx.at) in
              absurd (omega (arith, l, same))
        ]
      ]
      | inr late ↦ elim (cases_lt y.entry j) [
        | inl more ↦ omega (arith, up y.entry j y.place q more at_y h)
        | inr last ↦
            let e : j ≡ y.entry = omega (arith, late, last) in
            let same : q ≡ y.place = same_Some q y.place (sym h ∙ subst (λ i. slice_get x.places i ≡ Some y.place) (sym e) at_y) in
            omega (arith, same)
      ]
    ]

-- If the member does not advance, each later place is passed.
pub after_last : (s : Trace) (slots : ℕ → Option ℕ) (count : ℕ) (x y : Member) (q : ℕ) → IsMember s slots x → Advances s slots count false x y → Contains x.places q → x.place < q →
    ((n : ℕ) → number_at s q ≡ Some n → n < count → ⊥) → (n : ℕ) → number_at s q ≡ Some n → ⊥
after_last s slots count x y q mx a c l stays n is =
    let up = increasing_ordered x.places a.ascends in
    let (j, h) = place_of x.places q c in
    let inside = slice_get_within x.places j q h in
    elim (cases_lt x.entry j) [
      | inl passed ↦ stays n is ((a.last refl).0 j q n passed inside h is)
      | inr before ↦ elim (cases_lt j x.entry) [
        | inl less ↦ omega (arith, l, up j x.entry q x.place less h mx.at)
        | inr here ↦
            let e : j ≡ x.entry = omega (arith, before, here) in
            let same : q ≡ x.place = same_Some q x.place (sym h ∙ subst (λ i. slice_get x.places i ≡ Some x.place) (sym e) mx.at) in
            omega (arith, l, same)
      ]
    ]

-- A set that contains the first places of the thread stops at none of them.
stays_out : (s : Trace) (slots : ℕ → Option ℕ) (set : Places) (x : Member) (count q : ℕ) → IsMember s slots x → HoldsFirst s slots set x.slot count →
    Contains x.places q → EndsBefore s set q → (n : ℕ) → number_at s q ≡ Some n → n < count → ⊥
stays_out s slots set x count q mx holds c stop n is less =
    false≢true (sym stop.out ∙ holds q n (record { slot = mx.thread q c; number = is }) less)

-- A set that contains the member's place stops later.
pub stops_later : (s : Trace) (slots : ℕ → Option ℕ) (set : Places) (x : Member) (count q : ℕ) → IsMember s slots x → x.number < count →
    HoldsFirst s slots set x.slot count → IsNotPast s set x → Contains x.places q → EndsBefore s set q → x.place < q
stops_later s slots set x count q mx l holds not c stop =
    let below : x.place ≤ q = not q c stop in
    let in_set : set x.place ≡ true = holds x.place x.number mx.positions l in
    elim (eqb_tells x.place q) [
      | inl e ↦ absurd (false≢true (sym stop.out ∙ subst (λ z. set z ≡ true) e.1 in_set))
      | inr e ↦ omega (arith, below, e.1)
    ]

-- The set contains all places before a place at which it stops, or before an earlier one.
pub holds_upto : (s : Trace) (slots : ℕ → Option ℕ) (count : ℕ) (set : Places) (y : Member) (q : ℕ) → AreSlots s slots count → IsMember s slots y →
    Contains y.places q → EndsBefore s set q → y.place ≤ q → HoldsFirst s slots set y.slot y.number
holds_upto s slots count set y q k my c stop l p n x less =
    let before = position_before s slots count p y.place y.slot n y.number k x my.positions less in
    let (t, o, u, lt) = before in
    let uq = k.apart y.place q y.slot t my.positions.slot (my.thread q c) u in
    stop.before p (t, o, uq, omega (arith, lt, l))

pub ahead_moves : (s : Trace) (slots : ℕ → Option ℕ) (count : ℕ) (set : Places) (xs : List Member) (k : ℕ) (x y : Member) (most : ℕ) → AreSlots s slots count →
    IsAhead s xs set → slice_get xs k ≡ Some x → IsMember s slots x → x.number < most → HoldsFirst s slots set x.slot most → Advances s slots most true x y →
    IsAhead s (slice_set xs k y) set × HoldsFirst s slots set y.slot y.number
ahead_moves s slots count set xs k x y most slot a at mx l holds adv =
    let (q, c, stop) = a.stops k x at in
    let later : (z : ℕ) → Contains x.places z → EndsBefore s set z → y.place ≤ z = λ z cz sz.
    let (n, is) = has_number s slots count z x.slot slot (mx.thread z cz) in
    after_entry s slots most x y z mx adv cz (stops_later s slots set x most z mx l holds (a.not_past k x at) cz sz)
    (stays_out s slots set x most z mx holds cz sz) n is.number in
    let cy : Contains y.places q = subst (λ ps. Contains ps q) (sym adv.same.places) c in (
      record {
        closed = a.closed;
        stops = each_set (Stops s set) xs k x y at a.stops (q, cy, stop);
        not_past = each_set (IsNotPast s set) xs k x y at a.not_past (λ z cz sz. later z (subst (λ ps. Contains ps z) adv.same.places cz) sz);
      },
      holds_upto s slots count set y q slot adv.is_member cy stop (later q c stop),
    )

pub ahead_ends : (s : Trace) (slots : ℕ → Option ℕ) (few : ℕ) (set : Places) (xs : List Member) (k : ℕ) (x y : Member) (most : ℕ) → AreSlots s slots few →
    IsAhead s xs set → slice_get xs k ≡ Some x → IsMember s slots x → x.number < most → HoldsFirst s slots set x.slot most → Advances s slots most false x y → ⊥
ahead_ends s slots few set xs k x y most known a at mx l holds adv =
    let (q, c, stop) = a.stops k x at in
    let (n, is) = has_number s slots few q x.slot known (mx.thread q c) in
    after_last s slots most x y q mx adv c (stops_later s slots set x most q mx l holds (a.not_past k x at) c stop)
    (stays_out s slots set x most q mx holds c stop) n is.number

pub left_less : (xs : List Member) (k : ℕ) (x y : Member) → slice_get xs k ≡ Some x → y.places ≡ x.places → x.entry < y.entry → x.entry < length x.places →
    steps_left (slice_set xs k y) < steps_left xs
left_less [] k x y h p e l = absurd (none-some x h)
left_less (a ∷ more) zero x y h p e l =
    let same : a ≡ x = same_Some a x h in
    let n : length a.places - a.entry ≡ length x.places - x.entry = ap (λ m. length m.places - m.entry) same in
    let m : length y.places ≡ length x.places = ap length p in
    omega (arith, n, m, e, l)
left_less (a ∷ more) (suc k) x y h p e l = omega (arith, left_less more k x y h p e l)

-- The same for a member that advanced in the list.
members_on : (s : Trace) (slots : ℕ → Option ℕ) (xs ys : List Member) (k : ℕ) (most : ℕ) (b : Bool) → HasMoved (Advances s slots most b) xs k ys →
    Each (IsMember s slots) xs → Each (IsMember s slots) ys
members_on s slots xs ys k most b m all =
    subst (Each (IsMember s slots)) (sym m.new_at) (each_set (IsMember s slots) xs k m.x m.y m.at all m.advances.is_member)

moved_on : (s : Trace) (slots : ℕ → Option ℕ) (slot : ℕ) (old xs ys : List Member) (k : ℕ) (most : ℕ) (b : Bool) (m : HasMoved (Advances s slots most b) xs k ys) →
    AreMoved slot old xs → m.x.slot ≡ slot → AreMoved slot old ys
moved_on s slots slot old xs ys k most b m all here =
    subst (AreMoved slot old) (sym m.new_at) (moved_more slot old xs k m.x m.y all m.at here m.advances.same)

within_on : (s : Trace) (slots : ℕ → Option ℕ) (slot count n : ℕ) (xs ys : List Member) (k : ℕ) (most : ℕ) (b : Bool) (m : HasMoved (Advances s slots most b) xs k ys) →
    m.y.number ≡ n → Each (IsWithinCount slot count) xs → Each (IsWithinCount slot (max count n)) ys
within_on s slots slot count n xs ys k most b m is all =
    subst (Each (IsWithinCount slot (max count n))) (sym m.new_at)
    (each_set (IsWithinCount slot (max count n)) xs k m.x m.y m.at (λ i z h e. omega (arith, all i z h e)) (λ e. omega (arith, is)))

has_on : (s : Trace) (slots : ℕ → Option ℕ) (few slot count n : ℕ) (xs ys : List Member) (k : ℕ) (most : ℕ) (b : Bool) (m : HasMoved (Advances s slots most b) xs k ys) →
    AreSlots s slots few → m.x.slot ≡ slot → m.y.number ≡ n → HasFirst s slots slot count → HasFirst s slots slot (max count n)
has_on s slots few slot count n xs ys k most b m known here is has i l = elim (cases_lt i count) [
  | inl less ↦ has i less
  | inr more ↦
      subst (λ a. (p : ℕ) × HasSlotPosition s slots p a i) (m.advances.same.slot ∙ here)
      (has_before s slots few m.y.place m.y.slot m.y.number known m.advances.is_member.positions i (omega (arith, l, more, is)))
]

ahead_on : (s : Trace) (slots : ℕ → Option ℕ) (few slot count n : ℕ) (set : Places) (xs ys : List Member) (k : ℕ) (m : HasMoved (Advances s slots count true) xs k ys) →
    AreSlots s slots few → Each (IsMember s slots) xs → m.x.slot ≡ slot → m.x.number < count → m.y.number ≡ n →
    IsAhead s xs set → HoldsFirst s slots set slot count → IsAhead s ys set × HoldsFirst s slots set slot (max count n)
ahead_on s slots few slot count n set xs ys k m known all here less is ahead holds =
    let held = subst (λ a. HoldsFirst s slots set a count) (sym here) holds in
    let both = ahead_moves s slots few set xs k m.x m.y count known ahead m.at (all k m.x m.at) less held m.advances in (
      subst (λ zs. IsAhead s zs set) (sym m.new_at) both.0,
      λ p i x l. elim (cases_lt i count) [
        | inl below ↦ holds p i x below
        | inr above ↦ subst (λ a. HoldsFirst s slots set a m.y.number) (m.advances.same.slot ∙ here) both.1 p i x (omega (arith, l, above, is))
      ],
    )

-- A member of the slot whose number is below the count.
pub record IsFound (a count : ℕ) (x : Member) : Type 0 where
  pub slot : x.slot ≡ a
  pub less : x.number < count

-- Member `k` is such a member.
abbrev pub IsFoundAt : ℕ → ℕ → List Member → ℕ → Type 0
IsFoundAt slot count xs k = (z : Member) × (slice_get xs k ≡ Some z) × (z.slot ≡ slot) × (z.number < count)

-- The found member is the one that advanced.
is_found : (s : Trace) (slots : ℕ → Option ℕ) (slot count : ℕ) (xs ys : List Member) (k : ℕ) (most : ℕ) (b : Bool) (m : HasMoved (Advances s slots most b) xs k ys) →
    IsFoundAt slot count xs k → IsFound slot count m.x
is_found s slots slot count xs ys k most b m (z, at, here, less) =
    subst (IsFound slot count) (same_Some z m.x (sym at ∙ m.at)) (record { slot = here; less = less })

-- The loop invariant.
pub record AreSettling (s : Trace) (slots : ℕ → Option ℕ) (prefix : ThreadPrefix) (old new : List Member) (count : ℕ) : Type 0 where
  pub members : Each (IsMember s slots) new
  pub moved : AreMoved prefix.slot old new
  pub within : Each (IsWithinCount prefix.slot count) new
  pub more : prefix.count ≤ count
  pub has : HasFirst s slots prefix.slot count
  pub ahead : (set : Places) → IsAhead s old set → HoldsFirst s slots set prefix.slot prefix.count →
      IsAhead s new set × HoldsFirst s slots set prefix.slot count

pub settling_on : (s : Trace) (slots : ℕ → Option ℕ) (few : ℕ) (prefix : ThreadPrefix) (count n : ℕ) (old xs ys : List Member) (k : ℕ) (m : HasMoved (Advances s slots count true) xs k ys) →
    AreSlots s slots few → IsFoundAt prefix.slot count xs k → m.y.number ≡ n → AreSettling s slots prefix old xs count → AreSettling s slots prefix old ys (max count n)
settling_on s slots few prefix count n old xs ys k m known at is all =
    let found = is_found s slots prefix.slot count xs ys k count true m at in
    record {
      members = members_on s slots xs ys k count true m all.members;
      moved = moved_on s slots prefix.slot old xs ys k count true m all.moved found.slot;
      within = within_on s slots prefix.slot count n xs ys k count true m is all.within;
      more = omega (arith, all.more);
      has = has_on s slots few prefix.slot count n xs ys k count true m known found.slot is all.has;
      ahead = λ set a h.
          let (b, g) = all.ahead set a h in
          ahead_on s slots few prefix.slot count n set xs ys k m known all.members found.slot found.less is b g;
    }

-- If a member has no further place, no set stops at a place of each member.
pub record HaveEnded (s : Trace) (slots : ℕ → Option ℕ) (prefix : ThreadPrefix) (old new : List Member) : Type 0 where
  pub members : Each (IsMember s slots) new
  pub moved : AreMoved prefix.slot old new
  pub ahead : (set : Places) → IsAhead s old set → HoldsPlaces s slots prefix set → ⊥

pub settling_ends : (s : Trace) (slots : ℕ → Option ℕ) (few : ℕ) (prefix : ThreadPrefix) (count : ℕ) (old xs ys : List Member) (k : ℕ) → HasMoved (Advances s slots count false) xs k ys → AreSlots s slots few →
    IsFoundAt prefix.slot count xs k → AreSettling s slots prefix old xs count → HaveEnded s slots prefix old ys
settling_ends s slots few prefix count old xs ys k m known at all =
    let found = is_found s slots prefix.slot count xs ys k count false m at in
    record {
      members = members_on s slots xs ys k count false m all.members;
      moved = moved_on s slots prefix.slot old xs ys k count false m all.moved found.slot;
      ahead = λ set a h.
          let (b, g) = all.ahead set a h in
          ahead_ends s slots few set xs k m.x m.y count known b m.at (all.members k m.x m.at) found.less
          (subst (λ z. HoldsFirst s slots set z count) (sym found.slot) g) m.advances;
    }

pub settling_less : (s : Trace) (slots : ℕ → Option ℕ) (count : ℕ) (xs ys : List Member) (k : ℕ) (m : HasMoved (Advances s slots count true) xs k ys) →
    Each (IsMember s slots) xs → steps_left ys < steps_left xs
settling_less s slots count xs ys k m all =
    subst (λ zs. steps_left zs < steps_left xs) (sym m.new_at)
    (left_less xs k m.x m.y m.at m.advances.same.places (m.advances.next refl).0 (slice_get_within m.x.places m.x.entry m.x.place (all k m.x m.at).at))

pub advanced : (s : Trace) (slots : ℕ → Option ℕ) (prefix : ThreadPrefix) (old xs : List Member) (count : ℕ) → AreSettling s slots prefix old xs count →
    Each (λ m. m.slot ≡ prefix.slot → count ≤ m.number) xs → AreAdvanced s slots prefix xs (record { slot = prefix.slot; count = count })
advanced s slots prefix old xs count all none = record {
  slot = refl;
  more = all.more;
  has = all.has;
  at = λ i m h e. omega (arith, all.within i m h e, none i m h e);
}
