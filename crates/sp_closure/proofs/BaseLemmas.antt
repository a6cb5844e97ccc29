-- Stacked overlays, and the number of included places.
use Rattle.std.proofs.Common.{◌≡◌, ℕ, zero, suc, ◌+◌, ◌<◌, ◌≤◌, Bool, true, false, cond, ◌==◌, ◌&&◌, nat_lt, nat_le, length, Option, Some, None, Result, Ok, Err, OnOk, IfOk, IfSome, List, refl, sym, ap, subst, inl, inr, slice_get, ◌∙◌, arith}
use Rattle.std.specs.Option.{option_map_or}
use Rattle.std.proofs.lemmas.Bool.{eq-eqb, eqb-true, false≢true, and_parts}
use Rattle.std.proofs.lemmas.Bool.Decides.{nat_tests}
use Rattle.std.proofs.lemmas.Option.{same_Some, none-some, slice_get_within}
use Rattle.trace_model.proofs.Lists.{at_index, same_bool}
use Rattle.trace_model.specs.Theory.Trace.{Trace, OfThread}
use Rattle.std.specs.Arc.{arc_value}
use Rattle.std.specs.List.{Contains}
use Rattle.trace_model.specs.Theory.Lawful.{IsWellFormed}
use Rattle.trace_model.specs.Theory.Closure.{Places, IsClosure}
use Rattle.trace_model.proofs.Theory.Stability.{closure_below}
use Rattle.segments.specs.Linking.{count_below}
use Rattle.segments.proofs.Counting.{count-agree}
use Rattle.trace_index.specs.Numbers.{of_thread, number_at}
use Rattle.fronts.specs.declared.requirements.ThreadPrefix.{ThreadPrefix}
use Rattle.fronts.specs.declared.requirements.Item.{Item}
use Rattle.fronts.specs.declared.requirements.Section.{Section}
use Rattle.fronts.specs.declared.requirements.Requirements.{Requirements}
use Rattle.fronts.specs.declared.overlay.Overlay.{Overlay}
use Rattle.fronts.specs.declared.propagation.Propagation.{Propagation}
use Rattle.fronts.specs.EpochArrays.{value_at}
use Rattle.fronts.specs.declared.fronts.Fronts.{Fronts}
use Rattle.fronts.specs.State.{included_count, included_set}
use Rattle.fronts.specs.Slots.{slots_of, AreSlots, AreSlotPlaces, HasFirst, among, front_test, in_front}
use Rattle.fronts.specs.Overlays.{front_of, done_of, last_of, first_some, IsEmptyOverlay}
use Rattle.fronts.specs.Requirements.{AreRequirements}
use Rattle.fronts.specs.Propagation.{PropagationState, IsFit, IsConsistent, sum_to}
use Rattle.sp_closure.specs.declared.scratch.ClosureScratch.{ClosureScratch}
use Rattle.sp_closure.specs.Scratches.{leads_to, CountsBut, HasBase, KeepsPlaces, KeepsFor, KeepsNothing, kept_places, prefix_before, total_over}
use Rattle.fronts.proofs.Counts.{count_le}
use Rattle.trace_model.proofs.Theory.Computed.{of_thread_from}
use Rattle.trace_model.proofs.Theory.Derivable.{of_thread_so}
use Rattle.fronts.proofs.FrontLemmas.{lt_true}
use Rattle.fronts.proofs.PlaceLemmas.{false_from}
use Rattle.fronts.proofs.ThreadLemmas.{place_below}
use Rattle.fronts.proofs.SlotLemmas.{number_is}

-- An empty overlay over an empty one.
pub front_none : (threads locks more less : ℕ) (under overlay : Overlay) → IsEmptyOverlay threads locks under → IsEmptyOverlay more less overlay → (a : ℕ) → front_of under overlay a ≡ 0
front_none threads locks more less under overlay u e a = rw (e.fronts.none a, u.fronts.none a) refl

-- An empty overlay over another one is that one over an empty overlay.
pub front_over : (threads locks more less : ℕ) (none base upper : Overlay) → IsEmptyOverlay threads locks none → IsEmptyOverlay more less upper → (a : ℕ) → front_of base upper a ≡ front_of none base a
front_over threads locks more less none base upper n e a = rw (e.fronts.none a, n.fronts.none a) refl

pub done_over : (threads locks more less : ℕ) (none base upper : Overlay) → IsEmptyOverlay threads locks none → IsEmptyOverlay more less upper → (a : ℕ) → done_of base upper a ≡ done_of none base a
done_over threads locks more less none base upper n e a = rw (e.done.none a, n.done.none a) refl

pub last_over : (threads locks more less : ℕ) (none base upper : Overlay) → IsEmptyOverlay threads locks none → IsEmptyOverlay more less upper → (l : ℕ) → last_of base upper l ≡ last_of none base l
last_over threads locks more less none base upper n e l = rw (e.last.none l, n.last.none l) (go (value_at base.last l))
  where
    go : (o : Option Section) → first_some None o ≡ first_some o None
    go None = refl
    go (Some c) = refl

-- The same state.
pub on_way_same : (items : ℕ → ℕ → Option Item) (x y : PropagationState) → IsConsistent items x → ((a : ℕ) → y.front a ≡ x.front a) → ((a : ℕ) → y.done a ≡ x.done a) → ((l : ℕ) → y.last l ≡ x.last l) →
    y.pending ≡ x.pending → IsConsistent items y
on_way_same items x y w f d l p =
    let same : x ≡ y = λ i. record { front = λ a. sym (f a) i; done = λ a. sym (d a) i; last = λ a. sym (l a) i; pending = sym p i } in
    subst (IsConsistent items) same w

pub sum_none : (f : ℕ → ℕ) (n : ℕ) → ((a : ℕ) → f a ≡ 0) → sum_to f n ≡ 0
sum_none f zero h = refl
sum_none f (suc n) h = omega (arith, sum_none f n h, h n)

pub sum_equal : (f g : ℕ → ℕ) (n : ℕ) → ((a : ℕ) → f a ≡ g a) → sum_to f n ≡ sum_to g n
sum_equal f g zero h = refl
sum_equal f g (suc n) h = omega (arith, sum_equal f g n h, h n)

-- The number of included places is at most the length of the trace.

pub in_slot : (ℕ → Option ℕ) → ℕ → Places
in_slot slots a p = option_map_or (λ b. b == a) (slots p) false

pub slot_so : (slots : ℕ → Option ℕ) (a p : ℕ) → in_slot slots a p ≡ true → slots p ≡ Some a
unfolding in_slot
slot_so slots a p h = go (slots p) refl h
  where
    go : (o : Option ℕ) → slots p ≡ o → option_map_or (λ b. b == a) o false ≡ true → slots p ≡ Some a
    go None e k = absurd (false≢true k)
    go (Some b) e k = e ∙ ap Some (eqb-true b a k)

pub slot_from : (slots : ℕ → Option ℕ) (a p : ℕ) → slots p ≡ Some a → in_slot slots a p ≡ true
unfolding in_slot
slot_from slots a p e = rw e (eq-eqb a a refl)

-- The places of a place's thread are those of its slot.
pub same_thread : (s : Trace) (slots : ℕ → Option ℕ) (count p a t : ℕ) → AreSlots s slots count → slots p ≡ Some a → OfThread s p t → (q : ℕ) → of_thread s t q ≡ in_slot slots a q
same_thread s slots count p a t known value_at o q = same_bool (of_thread s t q) (in_slot slots a q)
    (λ h. slot_from slots a q (known.alike p q a t value_at o (of_thread_so s t q h)))
    (λ h. of_thread_from s t q (known.apart p q a t value_at (slot_so slots a q h) o))

pub first_counted : (s : Trace) (slots : ℕ → Option ℕ) (count a c : ℕ) → AreSlots s slots count → HasFirst s slots a c → c ≤ count_below (in_slot slots a) (length s)
first_counted s slots count a zero known has = omega arith
first_counted s slots count a (suc c) known has =
    let (p, x) = has c (omega arith) in
    let (t, o) = known.of_place p a x.slot in
    let n = number_is s p t c o x.number in
    let here : count_below (of_thread s t) p ≡ count_below (in_slot slots a) p = count-agree (of_thread s t) (in_slot slots a) p (λ q l. same_thread s slots count p a t known x.slot o q) in
    let one : count_below (in_slot slots a) (suc p) ≡ suc (count_below (in_slot slots a) p) =
    ap (λ b. cond b (suc (count_below (in_slot slots a) p)) (count_below (in_slot slots a) p)) (slot_from slots a p x.slot) in
    omega (arith, n, here, one, count_le (in_slot slots a) (suc p) (length s) (omega (arith, place_below s t p o)))

unfoldable pub one_of : Bool → ℕ
one_of true = 1
one_of false = 0

sum_off : (slots : ℕ → Option ℕ) (p n a : ℕ) → n ≤ a → slots p ≡ Some a → sum_to (λ b. one_of (in_slot slots b p)) n ≡ 0
unfolding one_of
sum_off slots p zero a l e = refl
sum_off slots p (suc n) a l e =
    let out : in_slot slots n p ≡ false = false_from (in_slot slots n p) (λ h. omega (arith, l, same_Some n a (sym (slot_so slots n p h) ∙ e))) in
    omega (arith, sum_off slots p n a (omega (arith, l)) e, ap one_of out)

sum_one : (slots : ℕ → Option ℕ) (p n : ℕ) → sum_to (λ a. one_of (in_slot slots a p)) n ≤ 1
unfolding one_of
sum_one slots p zero = omega arith
sum_one slots p (suc n) = step (sum_one slots p n) (in_slot slots n p) refl
  where
    step : sum_to (λ a. one_of (in_slot slots a p)) n ≤ 1 → (b : Bool) → in_slot slots n p ≡ b → sum_to (λ a. one_of (in_slot slots a p)) n + one_of (in_slot slots n p) ≤ 1
    step more true e = omega (arith, sum_off slots p n n (omega arith) (slot_so slots n p e), ap one_of e)
    step more false e = omega (arith, more, ap one_of e)

pub sum_plus : (f g : ℕ → ℕ) (n : ℕ) → sum_to (λ a. f a + g a) n ≡ sum_to f n + sum_to g n
sum_plus f g zero = refl
sum_plus f g (suc n) = omega (arith, sum_plus f g n)

pub count_step : (test : Places) (k : ℕ) → count_below test (suc k) ≡ count_below test k + one_of (test k)
unfolding one_of
count_step test k = go (test k)
  where
    go : (b : Bool) → cond b (suc (count_below test k)) (count_below test k) ≡ count_below test k + one_of b
    go true = omega arith
    go false = omega arith

sum_counts : (slots : ℕ → Option ℕ) (n k : ℕ) → sum_to (λ a. count_below (in_slot slots a) k) n ≤ k
sum_counts slots n zero = omega (arith, sum_none (λ a. count_below (in_slot slots a) zero) n (λ a. refl))
sum_counts slots n (suc k) =
    omega (
      arith,
      sum_counts slots n k,
      sum_one slots k n,
      sum_equal (λ a. count_below (in_slot slots a) (suc k)) (λ a. count_below (in_slot slots a) k + one_of (in_slot slots a k)) n (λ a. count_step (in_slot slots a) k),
      sum_plus (λ a. count_below (in_slot slots a) k) (λ a. one_of (in_slot slots a k)) n,
    )

sum_most : (f g : ℕ → ℕ) (n : ℕ) → ((a : ℕ) → f a ≤ g a) → sum_to f n ≤ sum_to g n
sum_most f g zero h = omega arith
sum_most f g (suc n) h = omega (arith, sum_most f g n h, h n)

at_most_all : (s : Trace) (slots : ℕ → Option ℕ) (count n : ℕ) (front : ℕ → ℕ) → AreSlots s slots count → ((a : ℕ) → HasFirst s slots a (front a)) → sum_to front n ≤ length s
at_most_all s slots count n front known has =
    omega (arith, sum_most front (λ a. count_below (in_slot slots a) (length s)) n (λ a. first_counted s slots count a (front a) known (has a)), sum_counts slots n (length s))

-- A fit propagation includes at most the places of the trace.
pub total_most : (s : Trace) (d : Requirements) (under : Overlay) (w : Propagation) → AreRequirements s d → IsFit s d under w → total_over under w d ≤ length s
total_most s d under w known fits = at_most_all s (slots_of d.threads) d.threads.count d.threads.count (front_of under w.overlay) known.slots fits.fronts

-- Fronts that agree below the number of slots include the same places.
pub in_front_same : (s : Trace) (slots : ℕ → Option ℕ) (count : ℕ) (f g : ℕ → ℕ) → AreSlots s slots count → ((a : ℕ) → a < count → f a ≡ g a) →
    (p : ℕ) → in_front s slots f p ≡ in_front s slots g p
in_front_same s slots count f g known same p = go (slots p) refl
  where
    go : (o : Option ℕ) → slots p ≡ o →
        option_map_or (λ a. option_map_or (λ n. nat_lt n (f a)) (number_at s p) false) o false ≡ option_map_or (λ a. option_map_or (λ n. nat_lt n (g a)) (number_at s p) false) o false
    go None e = refl
    go (Some a) e =
        let (t, o) = known.of_place p a e in
        let (b, h, l) = known.each p t o in
        let eq : b ≡ a = same_Some b a (sym h ∙ e) in
        ap (λ k. option_map_or (λ n. nat_lt n k) (number_at s p) false) (same a (omega (arith, l, eq)))

pub if_ok_three : {X E : Type 0} (r : Result X E) (P Q R S : X → Type 0) → ((x : X) → P x → Q x → R x → S x) → IfOk r P → IfOk r Q → IfOk r R → IfOk r S
if_ok_three (Ok x) P Q R S f p q o = f x p q o
if_ok_three (Err e) P Q R S f p q o = tt

le_so : (a b : ℕ) → nat_le a b ≡ true → a ≤ b
le_so a b h = grind (arith, nat_tests)

-- A prefix that leads to another one.
pub leads_so : (base_of : Option ThreadPrefix) (prefix : ThreadPrefix) → leads_to base_of prefix ≡ true → (old : ThreadPrefix) × (base_of ≡ Some old) × (old.slot ≡ prefix.slot) × (old.count ≤ prefix.count)
leads_so None prefix h = absurd (false≢true h)
leads_so (Some old) prefix h =
    let (a, b) = and_parts (old.slot == prefix.slot) (nat_le old.count prefix.count) h in
    (old, refl, eqb-true old.slot prefix.slot a, le_so old.count prefix.count b)

pub by_ok : {X E : Type 0} (r : Result X E) (P : X → Type 0) → ((x : X) → r ≡ Ok x → P x) → IfOk r P
by_ok (Ok x) P f = f x refl
by_ok (Err e) P f = tt

pub on_ok : {X E P : Type 0} (r : Result X E) → P → OnOk r P
on_ok (Ok x) p = p
on_ok (Err e) p = tt

pub if_some_map : {X : Type 0} (o : Option X) (P Q : X → Type 0) → ((x : X) → P x → Q x) → IfSome o P → IfSome o Q
if_some_map (Some x) P Q f p = f x p
if_some_map None P Q f p = tt

pub on_ok_map_unit : {X E A B : Type 0} (r : Result X E) → OnOk r A → (A → B) → OnOk r B
on_ok_map_unit (Ok x) a f = f a
on_ok_map_unit (Err e) a f = tt

pub on_ok_map : {X E A : Type 0} (r : Result X E) (P Q : X → Type 0) → ((x : X) → A → P x → Q x) → OnOk r A → IfOk r P → IfOk r Q
on_ok_map (Ok x) P Q f a p = f x a p
on_ok_map (Err e) P Q f a p = tt

-- A scratch without a base keeps no places.
no_base : (s : Trace) (d : Requirements) (c : ClosureScratch) (m k : ℕ) → KeepsNothing c → KeepsPlaces s d c m k → k ≡ 0
no_base s d c m k none keeps = go keeps.has
  where
    nothing : keeps.of ≡ None → k ≡ 0
    nothing e = keeps.count ∙ ap (λ b. kept_places b (prefix_before s d keeps.p) keeps.places) e

    go : HasBase d c keeps.of keeps.places → k ≡ 0
    go (inl e) = nothing e
    go (inr (inl e)) = nothing (e.0 ∙ none.0)
    go (inr (inr o)) = absurd (none-some o.other (ap (λ xs. slice_get xs o.index) (sym none.1) ∙ o.at))

-- A scratch that keeps no places counts all included ones.
pub counted_all : (s : Trace) (d : Requirements) (c : ClosureScratch) (numbers : List ℕ) (before after all : ℕ) → KeepsNothing c →
    CountsBut (KeepsFor s d c numbers) before after all → after ≡ before + all
counted_all s d c numbers before after all none (k, (m, first, keeps), e) =
    omega (arith, e, no_base s d c m k none keeps)

and_off : (b : Bool) → false ≡ (b && false)
and_off true = refl
and_off false = refl

-- The closure of places contains only places before the greatest of them.
pub closure_cut : (s : Trace) (places : List ℕ) (set : Places) (end : ℕ) → IsWellFormed s → IsClosure s places set → ((p : ℕ) → Contains places p → p ≤ end) →
    (p : ℕ) → set p ≡ (nat_lt p end && set p)
closure_cut s places set end w closure most p = go (set p) refl
  where
    go : (b : Bool) → set p ≡ b → b ≡ (nat_lt p end && b)
    go true e = rw (lt_true p end (closure_below s w places end p most ((closure p).0 e))) refl
    go false e = and_off (nat_lt p end)

-- A place that is not listed has no slot.
no_slot : (s : Trace) (slots : ℕ → Option ℕ) (count : ℕ) (positions : List ThreadPrefix) → AreSlots s slots count → AreSlotPlaces s slots positions → (p : ℕ) → slice_get positions p ≡ None → slots p ≡ None
no_slot s slots count positions known are p none = go (slots p) refl
  where
    go : (o : Option ℕ) → slots p ≡ o → o ≡ None
    go None e = refl
    go (Some a) e =
        let of = known.of_place p a e in
        let there = at_index positions p (omega (arith, are.all, slice_get_within s p _ of.1.1)) in
        absurd (none-some there.0 (sym none ∙ there.1))

-- The listed places that the fronts include.
in_front_among : (s : Trace) (slots : ℕ → Option ℕ) (count : ℕ) (positions : List ThreadPrefix) (front : ℕ → ℕ) → AreSlots s slots count → AreSlotPlaces s slots positions → (p : ℕ) →
    in_front s slots front p ≡ among positions front p
in_front_among s slots count positions front known are p = go (slice_get positions p) refl
  where
    go : (o : Option ThreadPrefix) → slice_get positions p ≡ o → in_front s slots front p ≡ option_map_or (λ to. front_test front to.count to.slot) o false
    go None e = ap (λ o. option_map_or (λ a. option_map_or (λ n. front_test front n a) (number_at s p) false) o false) (no_slot s slots count positions known are p e)
    go (Some to) e =
        let x = are.each p to e in
        ap (λ o. option_map_or (λ a. option_map_or (λ n. front_test front n a) (number_at s p) false) o false) x.slot
        ∙ ap (λ o. option_map_or (λ n. front_test front n to.slot) o false) x.number

-- Fronts that agree with a closure below the number of slots, up to the greatest of the places,
-- contain it.
pub set_of_fronts : (s : Trace) (places : List ℕ) (slots : ℕ → Option ℕ) (count : ℕ) (front : ℕ → ℕ) (fronts : Fronts) → IsWellFormed s → AreSlots s slots count →
    AreSlotPlaces s slots (arc_value fronts.positions) → ((a : ℕ) → a < count → front a ≡ included_count fronts a) →
    ((p : ℕ) → Contains places p → p ≤ fronts.end) → IsClosure s places (in_front s slots front) → in_front s slots front ≡ included_set fronts
set_of_fronts s places slots count front fronts w known are same most closure = λ i p.
    (closure_cut s places (in_front s slots front) fronts.end w closure most p
    ∙ ap (λ b. nat_lt p fronts.end && b) (in_front_same s slots count front (included_count fronts) known same p
    ∙ in_front_among s slots count (arc_value fronts.positions) (included_count fronts) known are p)) i
