-- Pointers into the places of dependencies, and the cycles that timestamps exclude.
use Rattle.std.proofs.Common.{◌≡◌, ℕ, zero, suc, ◌+◌, ◌<◌, ◌≤◌, ◌⊎◌, inl, inr, List, [], ◌∷◌, slice_get, slice_set, MatchOption, Option, Some, None, subst, sym, ap, ◌∙◌, arith}
use Rattle.std.proofs.lemmas.Bool.{cases_lt, false≢true}
use Rattle.std.proofs.lemmas.Bool.Decides.{eqb_tells}
use Rattle.std.proofs.lemmas.Option.{none-some, same_Some}
use Rattle.trace_model.specs.Theory.Trace.{Trace}
use Rattle.trace_model.specs.Theory.Closure.{Places, IsClosed}
use Rattle.trace_model.proofs.Lists.{get-set_same, get-set_other}
use Rattle.sp_closure.specs.declared.timelines.Timestamp.{Timestamp}
use Rattle.sp_closure.specs.declared.timelines.Timeline.{Timeline}
use Rattle.sp_closure.specs.declared.timelines.Timestamps.{Timestamps}
use Rattle.sp_closure.specs.declared.timelines.Pointer.{Pointer}
use Rattle.fronts.specs.Slots.{HasSlotPosition, HoldsFirst}
use Rattle.fronts.specs.Members.{EndsBefore}
use Rattle.sp_closure.specs.Pointers.{NumberAt}
use Rattle.sp_closure.specs.Timestamps.{AllFrom, AllHold, AreTimestamps, AreFrom, ClockCounts, HasEntry, HasEntryAt, HasTimeline, HoldsCounted, IsTimeline, Moves, NoneStops, IsEntryAt, StopsFrom, StopsFromAt, StopsNowhere}
use Rattle.fronts.proofs.SlotLemmas.{position_before}

-- A closed set that stops at none of the pointer's places before its entry contains what the
-- timestamp there counts.
pub timestamp_held : (s : Trace) (timestamps : Timestamps) (are : AreTimestamps s timestamps) (by : Pointer) (x : Timestamp) (set : Places) (q : ℕ) → IsClosed s set → NumberAt s q by.number →
    EndsBefore s set q → StopsFromAt s are.slots timestamps set by → HasEntryAt timestamps by x → HoldsCounted s are.slots timestamps x set
timestamp_held s timestamps are by x set q closed here stop from has =
    let timeline = has.timeline in
    let (k, le, at) = from timeline has.found q here stop in
    let to = at.timestamp.prefix in
    let part = (are.are.each by.number timeline has.found).ascend by.entry k x at.timestamp le has.entry at.at in
    (are.are.stamped (timeline.first + by.entry) x has.entry.at).bound set closed
    (λ p n positions less. stop.before p (position_before s are.slots are.count p q to.slot n to.count are.known (subst (λ a. HasSlotPosition s are.slots p a n) part.slot positions) at.positions
    (omega (arith, less, part.count))))

-- A closed set that stops at a place of each member contains what the timestamps of their entries
-- count.
pub all_hold : (timestamps : Timestamps) (numbers entries : List ℕ) (i m e : ℕ) (x : Timestamp) → slice_get numbers i ≡ Some m → slice_get entries i ≡ Some e → AllFrom timestamps numbers entries →
    HasEntryAt timestamps (record { number = m; entry = e }) x → AllHold timestamps numbers x
all_hold timestamps numbers entries i m e x at_m at_e all has = λ s are set closed stop.
    let (q, here, out) = stop i m at_m in
    timestamp_held s timestamps are (record { number = m; entry = e }) x set q closed here out ((all s are set closed stop).each i m e at_m at_e) has

-- The next entry is after one with fewer places before it.
pub next_after : (entries : List Timestamp) (timeline : Timeline) (next k count : ℕ) (x y : Timestamp) → HasEntry entries timeline next x → HasEntry entries timeline k y → next ≤ k →
    x.prefix.count < count → count ≤ y.prefix.count → next + 1 ≤ k
next_after entries timeline next k count x y at_next at_k le less above = elim (eqb_tells next k) [
  | inl e ↦
      let same : x ≡ y = same_Some x y (sym at_next.at ∙ (ap (λ i. slice_get entries (timeline.first + i)) e.1 ∙ at_k.at)) in
      let count_is : x.prefix.count ≡ y.prefix.count = ap (λ (z : Timestamp). z.prefix.count) same in
      absurd (omega (arith, less, above, count_is))
  | inr e ↦ omega (arith, le, e.1)
]

-- A set that contains these first places of the timeline's slot stops at none of them.
pub next_from : (s : Trace) (slots : ℕ → Option ℕ) (set : Places) (entries : List Timestamp) (timeline : Timeline) (of : Pointer) (x : Timestamp) (front : ℕ) (result : Option ℕ) →
    IsTimeline s slots entries of.number timeline → HasEntry entries timeline of.entry x → HoldsFirst s slots set x.prefix.slot front → StopsFrom s slots set entries timeline of →
    ((k : ℕ) (y : Timestamp) → HasEntry entries timeline k y → of.entry ≤ k → front ≤ y.prefix.count → MatchOption result ⊥ (λ e. e ≤ k)) →
    MatchOption result (StopsNowhere s set of.number) (λ e. StopsFrom s slots set entries timeline (record { number = of.number; entry = e }))
next_from s slots set entries timeline of x front result is here_at holds from next = go result next
  where
    not_in : (q : ℕ) → EndsBefore s set q → (k : ℕ) → of.entry ≤ k → (at : IsEntryAt s slots entries timeline k q) → front ≤ at.timestamp.prefix.count
    not_in q stop k le at =
        let to = at.timestamp.prefix in
        let part = is.ascend of.entry k x at.timestamp le here_at at.at in
        elim (cases_lt to.count front) [
          | inl less ↦ absurd (false≢true (sym stop.out ∙ holds q to.count (subst (λ a. HasSlotPosition s slots q a to.count) (sym part.slot) at.positions) less))
          | inr above ↦ above
        ]

    go : (r : Option ℕ) → ((k : ℕ) (y : Timestamp) → HasEntry entries timeline k y → of.entry ≤ k → front ≤ y.prefix.count → MatchOption r ⊥ (λ e. e ≤ k)) →
        MatchOption r (StopsNowhere s set of.number) (λ e. StopsFrom s slots set entries timeline (record { number = of.number; entry = e }))
    go None n = λ q here stop.
        let (k, le, at) = from q here stop in
        n k at.timestamp at.at le (not_in q stop k le at)
    go (Some e) n = λ q here stop.
        let (k, le, at) = from q here stop in
        (k, n k at.timestamp at.at le (not_in q stop k le at), at)

-- A member's entry advances, and the set still stops at or after it.
pub entry_set : (s : Trace) (slots : ℕ → Option ℕ) (timestamps : Timestamps) (numbers entries : List ℕ) (set : Places) (j m old new : ℕ) → AreFrom (StopsFromAt s slots timestamps set) numbers entries →
    slice_get numbers j ≡ Some m → slice_get entries j ≡ Some old → StopsFromAt s slots timestamps set (record { number = m; entry = new }) →
    AreFrom (StopsFromAt s slots timestamps set) numbers (slice_set entries j new)
entry_set s slots timestamps numbers entries set j m old new are at_m at_old from = record {
  each = λ i n e hn he. elim (eqb_tells i j) [
    | inl same ↦
        let number : m ≡ n = same_Some m n (sym at_m ∙ (ap (slice_get numbers) (sym same.1) ∙ hn)) in
        let entry : new ≡ e = same_Some new e (sym (get-set_same entries j old new at_old) ∙ subst (λ k. slice_get (slice_set entries j new) k ≡ Some e) same.1 he) in
        subst (λ z. StopsFromAt s slots timestamps set (record { number = z; entry = e })) number
        (subst (λ z. StopsFromAt s slots timestamps set (record { number = m; entry = z })) entry from)
    | inr other ↦ are.each i n e hn (sym (get-set_other entries j i new (λ f. other.1 (sym f))) ∙ he)
  ];
}

-- No place is before the first entries.
pub all_from_none : (s : Trace) (timestamps : Timestamps) (are : AreTimestamps s timestamps) (numbers entries : List ℕ) (set : Places) → ((j e : ℕ) → slice_get entries j ≡ Some e → e ≡ 0) →
    AreFrom (StopsFromAt s are.slots timestamps set) numbers entries
all_from_none s timestamps are numbers entries set first = record {
  each = λ j m e hm he timeline at q here stop.
      let (k, st) = (are.are.each m timeline at).places q here in
      let none = first j e he in
      (k, omega (arith, none), st);
}

-- The pointer advances to the first entry after the timestamp, or has none.
pub moves_after : (timestamps : Timestamps) (by : Timestamp) (of : Pointer) (timeline : Timeline) (x : Timestamp) (count : ℕ) (result : Option ℕ) → HasTimeline timestamps of.number timeline →
    HasEntry timestamps.entries.items timeline of.entry x → (count ≡ 0) ⊎ ClockCounts timestamps.threads timestamps.fronts.items by x.prefix.slot count →
    ((k : ℕ) (y : Timestamp) → HasEntry timestamps.entries.items timeline k y → of.entry ≤ k → count ≤ y.prefix.count → MatchOption result ⊥ (λ e. e ≤ k)) → Moves timestamps by of result
moves_after timestamps by of timeline x count result found here_at has next = λ s are set holds from_of.
    go s are.slots set result
    (next_from s are.slots set timestamps.entries.items timeline of x count result (are.are.each of.number timeline found) here_at (held s are.slots set holds has) (from_of timeline found) next)
  where
    held : (s : Trace) (slots : ℕ → Option ℕ) (set : Places) → HoldsCounted s slots timestamps by set → (count ≡ 0) ⊎ ClockCounts timestamps.threads timestamps.fronts.items by x.prefix.slot count →
        HoldsFirst s slots set x.prefix.slot count
    held s slots set holds (inl none) = λ p n positions less. absurd (omega (arith, none, less))
    held s slots set holds (inr counts) = holds x.prefix.slot count counts

    go : (s : Trace) (slots : ℕ → Option ℕ) (set : Places) (r : Option ℕ) →
        MatchOption r (StopsNowhere s set of.number) (λ e. StopsFrom s slots set timestamps.entries.items timeline (record { number = of.number; entry = e })) →
        MatchOption r (StopsNowhere s set of.number) (λ e. StopsFromAt s slots timestamps set (record { number = of.number; entry = e }))
    go s slots set None h = h
    go s slots set (Some e) h = λ other other_found.
        let same : timeline ≡ other = same_Some timeline other (same_Some (Some timeline) (Some other) (sym found ∙ other_found)) in
        subst (λ (t : Timeline). StopsFrom s slots set timestamps.entries.items t (record { number = of.number; entry = e })) same h

-- One member advanced past a timestamp.
pub one_moved : (timestamps : Timestamps) (numbers entries : List ℕ) (by : Timestamp) (j n f : ℕ) (result : Option ℕ) → slice_get numbers j ≡ Some n → slice_get entries j ≡ Some f →
    AllFrom timestamps numbers entries → AllHold timestamps numbers by → Moves timestamps by (record { number = n; entry = f }) result →
    MatchOption result (NoneStops timestamps numbers) (λ new. AllFrom timestamps numbers (slice_set entries j new))
one_moved timestamps numbers entries by j n f result at_n at_f all held moves = go result moves
  where
    go : (r : Option ℕ) → Moves timestamps by (record { number = n; entry = f }) r → MatchOption r (NoneStops timestamps numbers) (λ new. AllFrom timestamps numbers (slice_set entries j new))
    go None h = λ s are set closed stop.
        let is = all s are set closed stop in
        let (z, there, stops) = stop j n at_n in
        h s are set (held s are set closed stop) (is.each j n f at_n at_f) z there stops
    go (Some new) h = λ s are set closed stop.
        let is = all s are set closed stop in
        entry_set s are.slots timestamps numbers entries set j n f new is at_n at_f (h s are set (held s are set closed stop) (is.each j n f at_n at_f))

-- A list of zeros.
pub zeros_none : (j e : ℕ) → slice_get [] j ≡ Some e → e ≡ 0
zeros_none j e h = absurd (none-some e h)

pub zeros_more : (xs : List ℕ) → ((j e : ℕ) → slice_get xs j ≡ Some e → e ≡ 0) → (j e : ℕ) → slice_get (0 ∷ xs) j ≡ Some e → e ≡ 0
zeros_more xs zeros zero e h = sym (same_Some 0 e h)
zeros_more xs zeros (suc j) e h = zeros j e h

-- No closed set stops before the first entries.
pub all_zeros : (timestamps : Timestamps) (numbers : List ℕ) → AllFrom timestamps numbers (0 ∷ 0 ∷ 0 ∷ 0 ∷ 0 ∷ 0 ∷ 0 ∷ 0 ∷ [])
all_zeros timestamps numbers = λ s are set closed stop. all_from_none s timestamps are numbers (0 ∷ 0 ∷ 0 ∷ 0 ∷ 0 ∷ 0 ∷ 0 ∷ 0 ∷ []) set
    (zeros_more (0 ∷ 0 ∷ 0 ∷ 0 ∷ 0 ∷ 0 ∷ 0 ∷ []) (zeros_more (0 ∷ 0 ∷ 0 ∷ 0 ∷ 0 ∷ 0 ∷ []) (zeros_more (0 ∷ 0 ∷ 0 ∷ 0 ∷ 0 ∷ []) (zeros_more (0 ∷ 0 ∷ 0 ∷ 0 ∷ [])
    (zeros_more (0 ∷ 0 ∷ 0 ∷ []) (zeros_more (0 ∷ 0 ∷ []) (zeros_more (0 ∷ []) (zeros_more [] zeros_none))))))))
