-- How the timestamps of places are computed and kept.
use Rattle.std.proofs.Common.{◌≡◌, ℕ, ◌+◌, ◌-◌, ◌<◌, ◌++◌, ◌⊎◌, inl, inr, List, [], ◌∷◌, length, slice_get, slice_set, Option, Some, None, subst, sym, ap, ◌∙◌, refl, arith}
use Rattle.std.proofs.Math.ListN.{length-set}
use Rattle.std.proofs.lemmas.List.{append-nil, append_assoc, length-append}
use Rattle.std.proofs.lemmas.Bool.{cases_lt}
use Rattle.std.proofs.lemmas.Bool.Decides.{eqb_tells}
use Rattle.std.specs.List.{Contains}
use Rattle.std.proofs.lemmas.Option.{none-some, slice_get_within, same_Some}
use Rattle.segments.proofs.Cut.{get-second}
use Rattle.trace_model.specs.Theory.Trace.{Trace}
use Rattle.trace_model.specs.Theory.Closure.{Places, IsClosed}
use Rattle.trace_model.proofs.Theory.Ascending.{place_of, contains_at}
use Rattle.trace_model.proofs.Lists.{at_index, get-append, get-push, get-set_same, get-set_other}
use Rattle.trace_model.proofs.Theory.Refutation.{set_cases}
use Rattle.trace_model.proofs.Theory.Unique.{increasing_ordered}
use Rattle.fronts.specs.declared.requirements.ThreadPrefix.{ThreadPrefix}
use Rattle.sp_closure.specs.declared.timelines.Timestamp.{Timestamp}
use Rattle.sp_closure.specs.declared.timelines.Timeline.{Timeline}
use Rattle.sp_closure.specs.declared.timelines.Timestamps.{Timestamps}
use Rattle.fronts.specs.Slots.{AreSlots, HasSlotPosition, HoldsFirst, HoldsPlaces}
use Rattle.sp_closure.specs.Timestamps.{AddsFronts, AddsTimeline, AreTimelines, HasEntry, IsEntryAt, IsFresh, IsWithinPrefix, IsTimeline, IsTimestamp, Puts, Stays}
use Rattle.fronts.proofs.BuildLemmas.{each_pushed, length_pushed}
use Rattle.fronts.proofs.SlotLemmas.{has_before, before_position}
use Rattle.sp_closure.proofs.PointerLemmas.{number_thread}
use Rattle.sp_closure.proofs.TableLemmas.{ArePlaces}

-- An entry for the place at `k`, without a clock.
pub record IsMade (s : Trace) (slots : ℕ → Option ℕ) (xs : List ℕ) (k : ℕ) (x : Timestamp) : Type 0 where
  pub place : ℕ
  pub at : slice_get xs k ≡ Some place
  pub positions : HasSlotPosition s slots place x.prefix.slot x.prefix.count
  pub clock : x.clock ≡ None

pub made_fresh : (s : Trace) (slots : ℕ → Option ℕ) (count : ℕ) (xs : List ℕ) (k : ℕ) (x : Timestamp) → AreSlots s slots count → IsMade s slots xs k x → IsFresh s slots x
made_fresh s slots count xs k x known is = record {
  reach = has_before s slots count is.place x.prefix.slot x.prefix.count known is.positions;
  clock = is.clock;
}

-- The entries of places in order are a timeline.
pub timeline_made : (s : Trace) (slots : ℕ → Option ℕ) (count m : ℕ) (xs : List ℕ) (old more : List Timestamp) (timeline : Timeline) → AreSlots s slots count → ArePlaces s m xs →
    timeline.first ≡ length old → timeline.count ≡ length more → length more ≡ length xs → ((k : ℕ) (x : Timestamp) → slice_get more k ≡ Some x → IsMade s slots xs k x) →
    IsTimeline s slots (old ++ more) m timeline
timeline_made s slots count m xs old more timeline known are first all len each = record {
  inside = omega (arith, first, all, length-append old more);
  places = λ q here.
      let (k, hq) = place_of xs q ((are.exact q).1 here) in
      let within = slice_get_within xs k q hq in
      let (x, at) = at_index more k (omega (arith, len, within)) in
      let is = each k x at in
      let same : is.place ≡ q = same_Some is.place q (sym is.at ∙ hq) in (
        k,
        record {
          timestamp = x;
          at = record { within = omega (arith, all, len, within); at = get-second old more (timeline.first + k) k (omega (arith, first)) ∙ at };
          positions = subst (λ z. HasSlotPosition s slots z x.prefix.slot x.prefix.count) same is.positions;
        },
      );
  ascend = λ i k x y le hx hy.
      let is = each i x (added i x hx) in
      let other = each k y (added k y hy) in
      let slot = same_slot is.place other.place x.prefix y.prefix (contains_at xs is.place i is.at) (contains_at xs other.place k other.at) is.positions other.positions in
      record {
        slot = slot;
        count = elim (eqb_tells i k) [
          | inl e ↦
              let same : x ≡ y = same_Some x y (sym (added i x hx) ∙ (ap (slice_get more) e.1 ∙ added k y hy)) in
              let number : x.prefix.count ≡ y.prefix.count = ap (λ (z : Timestamp). z.prefix.count) same in
              omega (arith, number)
          | inr e ↦
              let less : i < k = omega (arith, le, e.1) in
              let before : is.place < other.place = increasing_ordered xs are.ascends i k is.place other.place less is.at other.at in
              omega (
                arith,
                before_position s slots count is.place other.place x.prefix.slot x.prefix.count y.prefix.count known is.positions
                    (subst (λ a. HasSlotPosition s slots other.place a y.prefix.count) (sym slot) other.positions) before,
              )
        ];
      };
}
  where
    added : (k : ℕ) (x : Timestamp) → HasEntry (old ++ more) timeline k x → slice_get more k ≡ Some x
    added k x h = sym (get-second old more (timeline.first + k) k (omega (arith, first))) ∙ h.at

    same_slot : (p q : ℕ) (x y : ThreadPrefix) → Contains xs p → Contains xs q → HasSlotPosition s slots p x.slot x.count → HasSlotPosition s slots q y.slot y.count → x.slot ≡ y.slot
    same_slot p q x y hp hq at_p at_q =
        let (t, o, u) = number_thread s p q m ((are.exact p).0 hp) ((are.exact q).0 hq) in
        same_Some x.slot y.slot (sym (known.alike p q x.slot t at_p.slot o u) ∙ at_q.slot)

-- A timeline stays if more entries follow.
pub timeline_stays : (s : Trace) (slots : ℕ → Option ℕ) (m : ℕ) (old more : List Timestamp) (timeline : Timeline) → IsTimeline s slots old m timeline → IsTimeline s slots (old ++ more) m timeline
timeline_stays s slots m old more timeline is = record {
  inside = omega (arith, is.inside, length-append old more);
  places = λ q here.
      let (k, st) = is.places q here in
      (k, record { timestamp = st.timestamp; at = record { within = st.at.within; at = same k st.at.within ∙ st.at.at }; positions = st.positions });
  ascend = λ i k x y le hx hy. is.ascend i k x y le (was i x hx) (was k y hy);
}
  where
    same : (k : ℕ) → k < timeline.count → slice_get (old ++ more) (timeline.first + k) ≡ slice_get old (timeline.first + k)
    same k within = get-append old more (timeline.first + k) (omega (arith, is.inside, within))

    was : (k : ℕ) (x : Timestamp) → HasEntry (old ++ more) timeline k x → HasEntry old timeline k x
    was k x h = record { within = h.within; at = sym (same k h.within) ∙ h.at }

-- An element of two lists, one after the other, is one of them.
pub append_cases : {X : Type 0} (xs ys : List X) (i : ℕ) (x : X) → slice_get (xs ++ ys) i ≡ Some x → (slice_get xs i ≡ Some x) ⊎ ((k : ℕ) × (slice_get ys k ≡ Some x))
append_cases xs ys i x h = elim (cases_lt i (length xs)) [
  | inl less ↦ inl (sym (get-append xs ys i less) ∙ h)
  | inr past ↦ inr (i - length xs, sym (get-second xs ys i (i - length xs) (omega (arith, past))) ∙ h)
]

-- An entry without a clock counts nothing.
pub fresh_timestamp : (s : Trace) (slots : ℕ → Option ℕ) (threads : ℕ) (fronts : List ℕ) (x : Timestamp) → IsFresh s slots x → IsTimestamp s slots threads fronts x
fresh_timestamp s slots threads fronts x is = record {
  reach = is.reach;
  inside = λ clock h. absurd (none-some clock (sym is.clock ∙ h));
  bound = λ set closed holds a n counts. absurd (none-some counts.clock (sym is.clock ∙ counts.is));
}

-- A timestamp stays if more fronts follow.
pub timestamp_stays : (s : Trace) (slots : ℕ → Option ℕ) (threads : ℕ) (fronts more : List ℕ) (x : Timestamp) → IsTimestamp s slots threads fronts x → IsTimestamp s slots threads (fronts ++ more) x
timestamp_stays s slots threads fronts more x is = record {
  reach = is.reach;
  inside = λ clock h. omega (arith, is.inside clock h, length-append fronts more);
  bound = λ set closed holds a n c.
      let within = is.inside c.clock c.is in
      is.bound set closed holds a n
      (record { clock = c.clock; is = c.is; within = c.within; at = sym (get-append fronts more (c.clock + a) (omega (arith, within, c.within))) ∙ c.at });
}

-- A clock of the fronts of a base is within each closed set that contains the prefix.
pub timestamp_put : (s : Trace) (slots : ℕ → Option ℕ) (threads : ℕ) (fronts more : List ℕ) (front : ℕ → ℕ) (was : Timestamp) → IsTimestamp s slots threads fronts was → length more ≡ threads →
    ((a n : ℕ) → slice_get more a ≡ Some n → n ≡ front a) → ((set : Places) → IsClosed s set → HoldsPlaces s slots was.prefix set → (a : ℕ) → HoldsFirst s slots set a (front a)) →
    IsTimestamp s slots threads (fronts ++ more) (record { prefix = was.prefix; clock = Some (length fronts) })
timestamp_put s slots threads fronts more front was is all exact least = record {
  reach = is.reach;
  inside = λ clock h. omega (arith, same_Some (length fronts) clock h, all, length-append fronts more);
  bound = λ set closed holds a n c.
      let clock : length fronts ≡ c.clock = same_Some (length fronts) c.clock c.is in
      let at : slice_get more a ≡ Some n = sym (get-second fronts more (c.clock + a) a (omega (arith, clock))) ∙ c.at in
      subst (HoldsFirst s slots set a) (sym (exact a n at)) (least set closed holds a);
}

-- A timeline stays if an entry changes its clock.
pub timeline_put : (s : Trace) (slots : ℕ → Option ℕ) (m : ℕ) (old : List Timestamp) (i : ℕ) (was new : Timestamp) (timeline : Timeline) → slice_get old i ≡ Some was → was.prefix ≡ new.prefix →
    IsTimeline s slots old m timeline → IsTimeline s slots (slice_set old i new) m timeline
timeline_put s slots m old i was new timeline found prefix is = record {
  inside = omega (arith, is.inside, length-set old i new);
  places = λ q here. let (k, st) = is.places q here in (k, stays q k st);
  ascend = λ j k x y le hx hy.
      let (v, hv, same_v) = before j x hx in
      let (w, hw, same_w) = before k y hy in
      subst (λ a. IsWithinPrefix a y.prefix) same_v (subst (IsWithinPrefix v.prefix) same_w (is.ascend j k v w le hv hw));
}
  where
    before : (k : ℕ) (x : Timestamp) → HasEntry (slice_set old i new) timeline k x → (z : Timestamp) × HasEntry old timeline k z × (z.prefix ≡ x.prefix)
    before k x h = elim (set_cases old i (timeline.first + k) new x h.at) [
      | inl here ↦ (
        was,
        record { within = h.within; at = ap (slice_get old) here.0 ∙ found },
        prefix ∙ ap (λ (z : Timestamp). z.prefix) here.1,
      )
      | inr other ↦ (x, record { within = h.within; at = other }, refl)
    ]

    stays : (q k : ℕ) → IsEntryAt s slots old timeline k q → IsEntryAt s slots (slice_set old i new) timeline k q
    stays q k st = elim (eqb_tells (timeline.first + k) i) [
      | inl e ↦
          let same : st.timestamp ≡ was = same_Some st.timestamp was (sym st.at.at ∙ (ap (slice_get old) e.1 ∙ found)) in
          record {
            timestamp = new;
            at = record { within = st.at.within; at = ap (slice_get (slice_set old i new)) e.1 ∙ get-set_same old i was new found };
            positions = subst (λ (a : ThreadPrefix). HasSlotPosition s slots q a.slot a.count) (ap (λ (z : Timestamp). z.prefix) same ∙ prefix) st.positions;
          }
      | inr e ↦ record {
        timestamp = st.timestamp;
        at = record { within = st.at.within; at = get-set_other old i (timeline.first + k) new (λ f. e.1 (sym f)) ∙ st.at.at };
        positions = st.positions;
      }
    ]

pub timelines_put : (s : Trace) (slots : ℕ → Option ℕ) (old new : Timestamps) (entry : ℕ) (front : ℕ → ℕ) → AreTimelines s slots old → (p : Puts old entry front new) →
    ((set : Places) → IsClosed s set → HoldsPlaces s slots p.timestamp.prefix set → (a : ℕ) → HoldsFirst s slots set a (front a)) → AreTimelines s slots new
timelines_put s slots old new entry front are p least = record {
  each = λ m timeline found.
      subst (λ es. IsTimeline s slots es m timeline) (sym p.put)
      (timeline_put s slots m old.entries.items entry p.timestamp y timeline p.at refl (are.each m timeline (subst (λ ts. slice_get ts m ≡ Some (Some timeline)) (ap (λ v. v.items) p.timelines) found)));
  stamped = λ i x at.
      subst (λ n. IsTimestamp s slots n new.fronts.items x) (sym p.threads)
      (subst (λ fs. IsTimestamp s slots old.threads fs x) (sym p.fronts.added)
      (stamped i x (subst (λ es. slice_get es i ≡ Some x) p.put at)));
}
  where
    y : Timestamp
    y = record { prefix = p.timestamp.prefix; clock = Some (length old.fronts.items) }

    stamped : (i : ℕ) (x : Timestamp) → slice_get (slice_set old.entries.items entry y) i ≡ Some x → IsTimestamp s slots old.threads (old.fronts.items ++ p.fronts.more) x
    stamped i x at = elim (set_cases old.entries.items entry i y x at) [
      | inl here ↦
          subst (IsTimestamp s slots old.threads (old.fronts.items ++ p.fronts.more)) here.1
          (timestamp_put s slots old.threads old.fronts.items p.fronts.more front p.timestamp (are.stamped entry p.timestamp p.at) p.fronts.all p.fronts.exact least)
      | inr other ↦ timestamp_stays s slots old.threads old.fronts.items p.fronts.more x (are.stamped i x other)
    ]

pub timelines_stay : (s : Trace) (slots : ℕ → Option ℕ) (old new : Timestamps) → AreTimelines s slots old → Stays old new → AreTimelines s slots new
timelines_stay s slots old new are p = record {
  each = λ m timeline found.
      subst (λ es. IsTimeline s slots es m timeline) (sym (ap (λ v. v.items) p.entries))
      (are.each m timeline (subst (λ ts. slice_get ts m ≡ Some (Some timeline)) (ap (λ v. v.items) p.timelines) found));
  stamped = λ i x at.
      subst (λ n. IsTimestamp s slots n new.fronts.items x) (sym p.threads)
      (subst (λ fs. IsTimestamp s slots old.threads fs x) (sym p.fronts)
      (are.stamped i x (subst (λ es. slice_get es i ≡ Some x) (ap (λ v. v.items) p.entries) at)));
}

-- Entries follow for the first `n` places.
pub record AreMade (s : Trace) (slots : ℕ → Option ℕ) (xs : List ℕ) (old : List Timestamp) (n : ℕ) (new : List Timestamp) : Type 0 where
  pub more : List Timestamp
  pub added : new ≡ old ++ more
  pub all : length more ≡ n
  pub each : (k : ℕ) (x : Timestamp) → slice_get more k ≡ Some x → IsMade s slots xs k x

pub none_made : (s : Trace) (slots : ℕ → Option ℕ) (xs : List ℕ) (old : List Timestamp) → AreMade s slots xs old 0 old
none_made s slots xs old = record { more = []; added = sym (append-nil old); all = refl; each = λ k x h. absurd (none-some x h) }

pub more_made : (s : Trace) (slots : ℕ → Option ℕ) (xs : List ℕ) (old : List Timestamp) (n : ℕ) (now new : List Timestamp) (x : Timestamp) → AreMade s slots xs old n now → IsMade s slots xs n x →
    new ≡ now ++ x ∷ [] → AreMade s slots xs old (n + 1) new
more_made s slots xs old n now new x are is pushed = record {
  more = are.more ++ x ∷ [];
  added = pushed ∙ (ap (λ es. es ++ x ∷ []) are.added ∙ append_assoc old are.more (x ∷ []));
  all = length_pushed are.more (are.more ++ x ∷ []) n x refl are.all;
  each = each_pushed (IsMade s slots xs) are.more (are.more ++ x ∷ []) n x refl are.all are.each is;
}

pub no_fronts : (old : List ℕ) (front : ℕ → ℕ) → AddsFronts old front 0 old
no_fronts old front = record { more = []; added = sym (append-nil old); all = refl; exact = λ a n h. absurd (none-some n h) }

pub more_fronts : (old : List ℕ) (front : ℕ → ℕ) (n : ℕ) (now new : List ℕ) (x : ℕ) → AddsFronts old front n now → x ≡ front n → new ≡ now ++ x ∷ [] → AddsFronts old front (n + 1) new
more_fronts old front n now new x are is pushed = record {
  more = are.more ++ x ∷ [];
  added = pushed ∙ (ap (λ es. es ++ x ∷ []) are.added ∙ append_assoc old are.more (x ∷ []));
  all = length_pushed are.more (are.more ++ x ∷ []) n x refl are.all;
  exact = each_pushed (λ a y. y ≡ front a) are.more (are.more ++ x ∷ []) n x refl are.all are.exact is;
}

-- Nothing was added.
pub no_timeline : (s : Trace) (slots : ℕ → Option ℕ) (m : ℕ) (old : List Timestamp) → AddsTimeline s slots m old old None
no_timeline s slots m old = record {
  more = [];
  added = sym (append-nil old);
  fresh = λ k x h. absurd (none-some x h);
  is = λ timeline h. absurd (none-some timeline h);
}

-- The entries of all places were added.
pub adds_made : (s : Trace) (slots : ℕ → Option ℕ) (count m : ℕ) (xs : List ℕ) (old new : List Timestamp) (timeline : Timeline) → AreSlots s slots count → ArePlaces s m xs →
    AreMade s slots xs old (length xs) new → timeline.first ≡ length old → timeline.count ≡ length xs → AddsTimeline s slots m old new (Some timeline)
adds_made s slots count m xs old new timeline known are made first all = record {
  more = made.more;
  added = made.added;
  fresh = λ k x at. made_fresh s slots count xs k x known (made.each k x at);
  is = λ other h.
      subst (IsTimeline s slots new m) (same_Some timeline other h)
      (subst (λ es. IsTimeline s slots es m timeline) (sym made.added)
      (timeline_made s slots count m xs old made.more timeline known are first (all ∙ sym made.all) made.all made.each));
}

-- The timelines after one was added.
pub timelines_added : (s : Trace) (slots : ℕ → Option ℕ) (old new : List Timestamp) (timelines pushed : List (Option Timeline)) (n : ℕ) (made : Option Timeline) →
    ((m : ℕ) (t : Timeline) → slice_get timelines m ≡ Some (Some t) → IsTimeline s slots old m t) → AddsTimeline s slots n old new made → pushed ≡ timelines ++ made ∷ [] → length timelines ≡ n →
    (m : ℕ) (t : Timeline) → slice_get pushed m ≡ Some (Some t) → IsTimeline s slots new m t
timelines_added s slots old new timelines pushed n made each adds is len m t at = elim (get-push timelines made m (Some t) (ap (λ z. slice_get z m) (sym is) ∙ at)) [
  | inl before ↦ subst (λ es. IsTimeline s slots es m t) (sym adds.added) (timeline_stays s slots m old adds.more t (each m t before))
  | inr here ↦ subst (λ z. IsTimeline s slots new z t) (sym (here.0 ∙ len)) (adds.is t here.1)
]

pub fresh_added : (s : Trace) (slots : ℕ → Option ℕ) (old new : List Timestamp) (n : ℕ) (made : Option Timeline) →
    ((i : ℕ) (x : Timestamp) → slice_get old i ≡ Some x → IsFresh s slots x) → AddsTimeline s slots n old new made → (i : ℕ) (x : Timestamp) → slice_get new i ≡ Some x → IsFresh s slots x
fresh_added s slots old new n made each adds i x at = elim (append_cases old adds.more i x (ap (λ z. slice_get z i) (sym adds.added) ∙ at)) [
  | inl before ↦ each i x before
  | inr more ↦ adds.fresh more.0 x more.1
]
