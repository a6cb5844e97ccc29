-- The tables of segments: one more place, and what they say of the trace.
use Rattle.std.proofs.Common.{◌≡◌, ℕ, zero, suc, ◌+◌, ◌-◌, ◌*◌, ◌<◌, ◌≤◌, ◌==◌, ◌&&◌, ◌||◌, inl, inr, Bool, true, false, cond, List, [], ◌∷◌, ◌++◌, length, take, slice_get, Option, Some, None, refl, sym, ap, subst, ◌∙◌, arith}
use Rattle.std.proofs.lemmas.Bool.{false≢true, cases_lt, eqb-true, eqb-false, eq-eqb}
use Rattle.std.proofs.lemmas.Option.{none-some, same_Some, slice_get_within}
use Rattle.std.specs.Option.{option_or, option_map_or}
use Rattle.std.specs.Arc.{arc_value}
use Rattle.std.specs.declared.sync.Arc.{Arc}
use Rattle.std.specs.declared.alloc.Global.{Global}
use Rattle.std.specs.HashMap.{HashMap, get}
use Rattle.trace_model.specs.declared.traces.event.Event.{Event}
use Rattle.trace_model.specs.declared.traces.event.Op.{Op}
use Rattle.trace_model.specs.declared.traces.event.Op.TheVariants.{Fork, Acquire, Release, Write}
use Rattle.trace_model.specs.Theory.Trace.{Trace, event, At, op_eq, does, last_place}
use Rattle.trace_model.specs.Theory.Held.{depth, Begins, Ends, BeginsOn, begins_on}
use Rattle.trace_model.specs.Theory.Lookups.{release}
use Rattle.trace_model.specs.Theory.Lawful.{IsWellFormed}
use Rattle.trace_model.proofs.Theory.Held.{same_release, section_of, section_holds}
use Rattle.trace_model.proofs.Theory.Places.{last_place_some, last_place_is}
use Rattle.trace_model.proofs.Theory.Prefix.{depth-agree}
use Rattle.trace_model.proofs.Lists.{get-take, get-take_past, get-append, get-push_last, same_bool, length-push}
use Rattle.trace_model.proofs.Theory.Lookups.{begins_so, begins_from, release_so, release_is}
use Rattle.trace_model.proofs.Theory.Sections.{nobody_holds, released_between}
use Rattle.trace_model.proofs.Theory.Deadlock.{releaser_holds}
use Rattle.trace_index.specs.declared.row.Key.{Key}
use Rattle.trace_index.specs.declared.row.Key.TheVariants.{OfThread, ForkOf, AcquireOf, WriteOf}
use Rattle.trace_index.specs.declared.row.IndexRow.{IndexRow}
use Rattle.trace_index.specs.declared.segment_tables.SegmentTable.{SegmentTable}
use Rattle.trace_index.specs.Links.{same_key, matches, adds_to, touches, object_key, IsIndexRow, AreLastPlaces, AreLastOf, ended_at_depth, is_place, ends_acquire, ends_at, last_from}
use Rattle.trace_index.specs.Depths.{op_depth, event_depth}
use Rattle.trace_index.specs.SegmentTables.{AreSegmentTables, AreAllTables, IsSame}
use Rattle.trace_index.specs.Releases.{release_in}
use Rattle.trace_index.proofs.KeyLists.{matches-agree}

-- ---- the last place of a range

pub record IsLastFrom (test : ℕ → Bool) (k n p : ℕ) : Type 0 where
  pub from : k ≤ p
  pub below : p < k + n
  pub passes_is : test p ≡ true
  pub later : (u : ℕ) → p < u → u < k + n → test u ≡ false

pub from_some : (test : ℕ → Bool) (k n p : ℕ) → last_from test k n ≡ Some p → IsLastFrom test k n p
from_some test k zero p h = absurd (none-some p h)
from_some test k (suc n) p h = go (test (k + n)) refl (from_some test k n p) h
  where
    go : (b : Bool) → test (k + n) ≡ b → (last_from test k n ≡ Some p → IsLastFrom test k n p) → cond b (Some (k + n)) (last_from test k n) ≡ Some p → IsLastFrom test k (suc n) p
    go true e less f =
        let same : k + n ≡ p = same_Some (k + n) p f in
        record { from = omega arith; below = omega arith; passes_is = ap test (sym same) ∙ e; later = λ u a b. absurd (omega arith) }
    go false e less f =
        let i = less f in
        let a = i.from in
        let b = i.below in
        record {
          from = a;
          below = omega arith;
          passes_is = i.passes_is;
          later = λ u c d. elim (cases_lt u (k + n)) [
            | inl l ↦ i.later u c l
            | inr l ↦ let same : u ≡ k + n = omega arith in ap test same ∙ e
          ];
        }

pub from_none : (test : ℕ → Bool) (k n : ℕ) → last_from test k n ≡ None → (u : ℕ) → k ≤ u → u < k + n → test u ≡ false
from_none test k zero h u a b = absurd (omega arith)
from_none test k (suc n) h u a b = go (test (k + n)) refl (λ f l. from_none test k n f u a l) h
  where
    go : (c : Bool) → test (k + n) ≡ c → (last_from test k n ≡ None → u < k + n → test u ≡ false) → cond c (Some (k + n)) (last_from test k n) ≡ None → test u ≡ false
    go true e less f = absurd (none-some (k + n) (sym f))
    go false e less f = elim (cases_lt u (k + n)) [
      | inl l ↦ less f l
      | inr l ↦ let same : u ≡ k + n = omega arith in ap test same ∙ e
    ]

pub from-agree : (f g : ℕ → Bool) (k n : ℕ) → ((p : ℕ) → p < k + n → f p ≡ g p) → last_from f k n ≡ last_from g k n
from-agree f g k zero h = refl
from-agree f g k (suc n) h = rw (h (k + n) (omega arith), from-agree f g k n (λ p l. h p (omega arith))) refl

-- the last place of a range, or else of the places before it
pub last_split : (test : ℕ → Bool) (k n : ℕ) → last_place test (k + n) ≡ option_or (last_from test k n) (last_place test k)
last_split test k zero = let same : k + 0 ≡ k = omega arith in ap (last_place test) same
last_split test k (suc n) = let same : k + suc n ≡ suc (k + n) = omega arith in ap (last_place test) same ∙ step (test (k + n)) (last_split test k n)
  where
    step : (b : Bool) → last_place test (k + n) ≡ option_or (last_from test k n) (last_place test k) →
        cond b (Some (k + n)) (last_place test (k + n)) ≡ option_or (cond b (Some (k + n)) (last_from test k n)) (last_place test k)
    step true less = refl
    step false less = less

-- ---- the keys of an event

op_adds : (e : Event) (d : ℕ) (o : Op) (q : Key) → ((x : Op) → op_eq x o ≡ adds_to x d q) → (s : Trace) (k : ℕ) → At s k e → does s o k ≡ adds_to e.op d q
op_adds e d o q h s k a = ap (λ z. option_map_or (λ x. op_eq x.op o) z false) a ∙ h e.op

fork_adds : (c d : ℕ) (x : Op) → op_eq x (Fork c) ≡ adds_to x d (ForkOf c)
fork_adds c d (Fork a) = refl
fork_adds c d _ = refl

write_adds : (v d : ℕ) (x : Op) → op_eq x (Write v) ≡ adds_to x d (WriteOf v)
write_adds c d (Write a) = refl
write_adds c d _ = refl

take_adds : (s : Trace) (k t l : ℕ) (x : Op) → (op_eq x (Acquire l) && (depth s k t l == 0)) ≡ adds_to x (op_depth (depth s k t) x) (AcquireOf l)
take_adds s k t l (Acquire a) = go (a == l) refl
  where
    go : (b : Bool) → (a == l) ≡ b → (b && (depth s k t l == 0)) ≡ (b && (depth s k t a == 0))
    go true e = ap (λ m. depth s k t m == 0) (sym (eqb-true a l e))
    go false e = refl
take_adds s k t l _ = refl

no_thread : (t d : ℕ) (x : Op) → adds_to x d (OfThread t) ≡ false
no_thread t d (Fork a) = refl
no_thread t d _ = refl

or_none : (b c : Bool) → c ≡ false → (b || c) ≡ b
or_none true c h = refl
or_none false c h = h

pub touches_is : (s : Trace) (k : ℕ) (e : Event) → At s k e → (d : ℕ) → d ≡ event_depth s k e → (q : Key) → matches s q k ≡ touches e d q
touches_is s k e a d is (OfThread t) =
    ap (λ o. option_map_or (λ x. x.thread == t) o false) a ∙ sym (or_none (e.thread == t) (adds_to e.op d (OfThread t)) (no_thread t d e.op))
touches_is s k e a d is (ForkOf c) = op_adds e d (Fork c) (ForkOf c) (fork_adds c d) s k a
touches_is s k e a d is (AcquireOf l) =
    ap (λ o. option_map_or (λ x. op_eq x.op (Acquire l) && (depth s k x.thread l == 0)) o false) a
    ∙ take_adds s k e.thread l e.op ∙ ap (λ n. adds_to e.op n (AcquireOf l)) (sym is)
touches_is s k e a d is (WriteOf v) = op_adds e d (Write v) (WriteOf v) (write_adds v d) s k a

-- ---- releases

pub is_place_so : (o : Option ℕ) (p : ℕ) → is_place o p ≡ true → o ≡ Some p
is_place_so None p h = absurd (false≢true h)
is_place_so (Some r) p h = ap Some (eqb-true r p h)

pub is_place_from : (o : Option ℕ) (p : ℕ) → o ≡ Some p → is_place o p ≡ true
is_place_from o p h = ap (λ x. is_place x p) h ∙ eq-eqb p p refl

at_take : (n : ℕ) (s : Trace) (p : ℕ) (x : Event) → At (take n s) p x → At s p x
at_take n s p x h = sym (get-take n s p (get-take_past n s p x h)) ∙ h

at_back : (n : ℕ) (s : Trace) (p : ℕ) (x : Event) → p < n → At s p x → At (take n s) p x
at_back n s p x l h = get-take n s p l ∙ h

depth_up : (n : ℕ) (s : Trace) (p t l : ℕ) → p < n → depth s p t l ≡ depth (take n s) p t l
depth_up n s p t l below = depth-agree s (take n s) p t l (λ u k. sym (get-take n s u (omega arith)))

begins_up : (n : ℕ) (s : Trace) (p t l : ℕ) → Begins (take n s) p t l → Begins s p t l
begins_up n s p t l (at, none) = (at_take n s p (event t (Acquire l)) at, depth_up n s p t l (get-take_past n s p _ at) ∙ none)

begins_back : (n : ℕ) (s : Trace) (p t l : ℕ) → p < n → Begins s p t l → Begins (take n s) p t l
begins_back n s p t l below (at, none) = (at_back n s p (event t (Acquire l)) below at, sym (depth_up n s p t l below) ∙ none)

ends_up : (n : ℕ) (s : Trace) (p t l : ℕ) → Ends (take n s) p t l → Ends s p t l
ends_up n s p t l (at, one) = (at_take n s p (event t (Release l)) at, depth_up n s p t l (get-take_past n s p _ at) ∙ one)

ends_back : (n : ℕ) (s : Trace) (p t l : ℕ) → p < n → Ends s p t l → Ends (take n s) p t l
ends_back n s p t l below (at, one) = (at_back n s p (event t (Release l)) below at, sym (depth_up n s p t l below) ∙ one)

release_up : (n : ℕ) (s : Trace) (a p : ℕ) → release (take n s) a ≡ Some p → release s a ≡ Some p
release_up n s a p h =
    let (t, l, begins, (after, releases, none)) = release_so (take n s) a p h in
    let below = get-take_past n s p (event t (Release l)) releases.0 in
    release_is s a t l p (begins_up n s a t l begins)
    (after, ends_up n s p t l releases, λ v b c d. none v b c (ends_back n s v t l (omega arith) d))

release_down : (n : ℕ) (s : Trace) (a p : ℕ) → p < n → release s a ≡ Some p → release (take n s) a ≡ Some p
release_down n s a p below h =
    let (t, l, begins, (after, releases, none)) = release_so s a p h in
    release_is (take n s) a t l p (begins_back n s a t l (omega arith) begins)
    (after, ends_back n s p t l below releases, λ v b c d. none v b c (ends_up n s v t l d))

pub releases-take : (n : ℕ) (s : Trace) (a p : ℕ) → p < n → ends_at (take n s) a p ≡ ends_at s a p
releases-take n s a p l = same_bool (ends_at (take n s) a p) (ends_at s a p)
    (λ h. is_place_from (release s a) p (release_up n s a p (is_place_so (release (take n s) a) p h)))
    (λ h. is_place_from (release (take n s) a) p (release_down n s a p l (is_place_so (release s a) p h)))

pub matches-take : (n : ℕ) (s : Trace) (q : Key) (p : ℕ) → p < n → matches (take n s) q p ≡ matches s q p
matches-take n s q p l = matches-agree (take n s) s q p (λ u m. get-take n s u (omega arith))

-- an outermost release ends the last section that began on its lock
module _ (s : Trace) (w : IsWellFormed s) (k t l : ℕ) (here : Ends s k t l) where
  last_before : (a : ℕ) → release s a ≡ Some k → last_place (begins_on s l) k ≡ Some a
  last_before a h =
      let (u, m, begins, (after, releases, none)) = release_so s a k h in
      let both : Some (event u (Release m)) ≡ Some (event t (Release l)) = sym releases.0 ∙ here.0 in
      let same : m ≡ l = same_release m l (ap (λ x. x.op) (same_Some (event u (Release m)) (event t (Release l)) both)) in
      let taken : BeginsOn s a l = subst (BeginsOn s a) same (u, begins) in
      last_place_is (begins_on s l) k a (
        after,
        begins_from s l a taken,
        λ b c d e.
            let (r, is, _, before) = released_between s w a b l c taken (begins_so s l b e) in
            let twice : r ≡ k = same_Some r k (sym is ∙ h) in
            omega arith,
      )

  ends_last : (a : ℕ) → last_place (begins_on s l) k ≡ Some a → release s a ≡ Some k
  ends_last a h =
      let (below, taken, later) = last_place_some (begins_on s l) k a h in
      let (u, begins) = begins_so s l a taken in
      let (b, b_below, b_begins, b_none) = section_of s k t l (releaser_holds s w k t l here.0) in
      let first : b ≡ a = elim (cases_lt b a) [
        | inl y ↦ absurd (nobody_holds s w b a t u l (Acquire l) y b_begins.0 begins
            (section_holds s a t l (b, y, b_begins, λ r c d e. b_none r c (omega arith) e)))
        | inr y ↦ elim (cases_lt a b) [
          | inl z ↦ absurd (later b z b_below (begins_from s l b (t, b_begins)))
          | inr z ↦ omega arith
        ]
      ] in
      release_is s a t l k (subst (λ p. Begins s p t l) first b_begins) (below, here, λ v c d e. b_none v (omega arith) d e)

no_end_at : (s : Trace) (k : ℕ) → ((t l : ℕ) → Ends s k t l → ⊥) → (a : ℕ) → ends_at s a k ≡ false
no_end_at s k none a = go (ends_at s a k) refl
  where
    go : (b : Bool) → ends_at s a k ≡ b → b ≡ false
    go false f = refl
    go true f =
        let (t, l, begins, (after, releases, _)) = release_so s a k (is_place_so (release s a) k f) in
        absurd (none t l releases)

op_at : (s : Trace) (k : ℕ) (e : Event) → At s k e → (t : ℕ) (o : Op) → At s k (event t o) → (e.thread ≡ t) × (e.op ≡ o)
op_at s k e h t o f =
    let same = same_Some e (event t o) (sym h ∙ f) in
    (ap (λ x. x.thread) same, ap (λ x. x.op) same)

pub ends_here : (s : Trace) → IsWellFormed s → (k : ℕ) (row : IndexRow) → At s k row.event → IsIndexRow s k row → row.depth ≡ event_depth s k row.event → (a : ℕ) →
    ends_at s a k ≡ ends_acquire row a
ends_here s w k row h is deep a = go row.event.op refl
  where
    plain : (o : Op) → row.event.op ≡ o → ((l : ℕ) → o ≡ Release l → ⊥) → ends_at s a k ≡ false
    plain o e n = no_end_at s k (λ u l f. n l (sym e ∙ (op_at s k row.event h u (Release l) f.0).1)) a

    ended : (l : ℕ) → row.event.op ≡ Release l → (b : Bool) → (row.depth == 1) ≡ b →
        ends_at s a k ≡ is_place (cond b row.object None) a
    ended l e true f =
        let here : Ends s k row.event.thread l = (
          h ∙ ap (λ o. Some (event row.event.thread o)) e,
          ap (op_depth (depth s k row.event.thread)) (sym e) ∙ sym deep ∙ eqb-true row.depth 1 f,
        ) in
        let link : row.object ≡ last_place (begins_on s l) k = subst (λ o. row.object ≡ last_place (matches s (object_key o)) k) e is.object_is in
        same_bool (ends_at s a k) (is_place row.object a)
        (λ g. is_place_from row.object a (link ∙ last_before s w k row.event.thread l here a (is_place_so (release s a) k g)))
        (λ g. is_place_from (release s a) k (ends_last s w k row.event.thread l here a (sym link ∙ is_place_so row.object a g)))
    ended l e false f = no_end_at s k (λ u m releases.
        let (thread, op) = op_at s k row.event h u (Release m) releases.0 in
        let one : row.depth ≡ 1 = deep ∙ ap (op_depth (depth s k row.event.thread)) op ∙ ap (λ v. depth s k v m) thread ∙ releases.1 in
        eqb-false row.depth 1 f one) a

    go : (o : Op) → row.event.op ≡ o → ends_at s a k ≡ is_place (ended_at_depth o row.depth row.object) a
    go (Release l) e = ended l e (row.depth == 1) refl
    go o e = plain o e (λ m f. cc)

-- ---- what tables say of the trace

pub none_last : (test : ℕ → Bool) (n : ℕ) → ((u : ℕ) → u < n → test u ≡ false) → None ≡ last_place test n
none_last test n h = go (last_place test n) refl
  where
    go : (o : Option ℕ) → last_place test n ≡ o → None ≡ o
    go None e = refl
    go (Some p) e = let s = last_place_some test n p e in absurd (false≢true (sym (h p s.0) ∙ s.1))

last_here : (test : ℕ → Bool) (k m n p : ℕ) → k + m ≤ n → last_from test k m ≡ Some p → ((u : ℕ) → k + m ≤ u → u < n → test u ≡ false) → Some p ≡ last_place test n
last_here test k m n p fits h later =
    let i = from_some test k m p h in
    let b = i.below in
    sym (last_place_is test n p (
      omega arith,
      i.passes_is,
      λ u a l t. elim (cases_lt u (k + m)) [
        | inl y ↦ false≢true (sym (i.later u a y) ∙ t)
        | inr y ↦ false≢true (sym (later u y l) ∙ t)
      ],
    ))

module _ (s : Trace) (n : ℕ) (sealed : List (Arc SegmentTable Global)) (tail : SegmentTable) (are : AreAllTables s n sealed tail) where
  pub whole : 4096 * length sealed + (n - 4096 * length sealed) ≡ n
  whole = let b = are.begun in omega arith

  pub tail_last : (q : Key) (p : ℕ) → Some p ≡ get same_key tail.last q → Some p ≡ last_place (matches s q) n
  tail_last q p h =
      let w = whole in
      last_here (matches s q) (4096 * length sealed) (n - 4096 * length sealed) n p (omega arith) (sym (are.tail_are.last_are q) ∙ sym h)
      (λ u a l. absurd (omega arith))

  pub tail_no : (q : Key) → None ≡ get same_key tail.last q → (u : ℕ) → 4096 * length sealed ≤ u → u < n → matches s q u ≡ false
  tail_no q h u a l =
      let w = whole in
      from_none (matches s q) (4096 * length sealed) (n - 4096 * length sealed) (sym (are.tail_are.last_are q) ∙ sym h) u a (omega arith)

  pub sealed_last : (q : Key) (j p : ℕ) (m : Arc SegmentTable Global) → slice_get sealed j ≡ Some m → Some p ≡ get same_key (arc_value m).last q →
      ((u : ℕ) → 4096 * (j + 1) ≤ u → u < n → matches s q u ≡ false) → Some p ≡ last_place (matches s q) n
  sealed_last q j p m found h later =
      let b = are.begun in
      let within = slice_get_within sealed j m found in
      last_here (matches s q) (4096 * j) 4096 n p (omega arith) (sym ((are.sealed_are j m found).last_are q) ∙ sym h) (λ u a l. later u (omega arith) l)

  pub sealed_no : (q : Key) (j : ℕ) (m : Arc SegmentTable Global) → slice_get sealed j ≡ Some m → None ≡ get same_key (arc_value m).last q →
      (u : ℕ) → 4096 * j ≤ u → u < 4096 * (j + 1) → matches s q u ≡ false
  sealed_no q j m found h u a l = from_none (matches s q) (4096 * j) 4096 (sym ((are.sealed_are j m found).last_are q) ∙ sym h) u a (omega arith)

  pub tail_end : (a p : ℕ) → Some p ≡ release_in tail.releases a → ends_at s a p ≡ true
  tail_end a p h = (from_some (ends_at s a) (4096 * length sealed) (n - 4096 * length sealed) p (sym (are.tail_are.releases_are a) ∙ sym h)).passes_is

  pub tail_no_end : (a : ℕ) → None ≡ release_in tail.releases a → (u : ℕ) → 4096 * length sealed ≤ u → u < n → ends_at s a u ≡ false
  tail_no_end a h u b l =
      let w = whole in
      from_none (ends_at s a) (4096 * length sealed) (n - 4096 * length sealed) (sym (are.tail_are.releases_are a) ∙ sym h) u b (omega arith)

  pub sealed_end : (a j p : ℕ) (m : Arc SegmentTable Global) → slice_get sealed j ≡ Some m → Some p ≡ release_in (arc_value m).releases a → ends_at s a p ≡ true
  sealed_end a j p m found h = (from_some (ends_at s a) (4096 * j) 4096 p (sym ((are.sealed_are j m found).releases_are a) ∙ sym h)).passes_is

  pub sealed_no_end : (a j : ℕ) (m : Arc SegmentTable Global) → slice_get sealed j ≡ Some m → None ≡ release_in (arc_value m).releases a →
      (u : ℕ) → 4096 * j ≤ u → u < 4096 * (j + 1) → ends_at s a u ≡ false
  sealed_no_end a j m found h u b l = from_none (ends_at s a) (4096 * j) 4096 (sym ((are.sealed_are j m found).releases_are a) ∙ sym h) u b (omega arith)

  -- a full segment is sealed
  pub sealed_more : (fresh : SegmentTable) (m : Arc SegmentTable Global) → 4096 ≤ n - 4096 * length sealed → arc_value m ≡ tail →
      ((q : Key) → get same_key fresh.last q ≡ None) → ((a : ℕ) → release_in fresh.releases a ≡ None) → AreAllTables s n (sealed ++ m ∷ []) fresh
  sealed_more fresh m full same last releases =
      let len = length-push sealed m in
      let f = are.few in
      let size : n - 4096 * length sealed ≡ 4096 = omega arith in
      let none : n - 4096 * length (sealed ++ m ∷ []) ≡ 0 = omega arith in
      record {
        sealed_are = λ j x h. elim (cases_lt j (length sealed)) [
          | inl l ↦ are.sealed_are j x (sym (get-append sealed (m ∷ []) j l) ∙ h)
          | inr l ↦
              let within = slice_get_within (sealed ++ m ∷ []) j x h in
              let at : j ≡ length sealed = omega arith in
              let here : m ≡ x = same_Some m x (sym (get-push_last sealed m) ∙ ap (slice_get (sealed ++ m ∷ [])) (sym at) ∙ h) in
              let value : tail ≡ arc_value x = sym same ∙ ap (λ y. arc_value y) here in
              subst (λ i. AreSegmentTables s (4096 * i) 4096 (arc_value x)) (sym at)
              (subst (AreSegmentTables s (4096 * length sealed) 4096) value (subst (λ i. AreSegmentTables s (4096 * length sealed) i tail) size are.tail_are))
        ];
        tail_are = subst (λ i. AreSegmentTables s (4096 * length (sealed ++ m ∷ [])) i fresh) (sym none) (record { last_are = last; releases_are = releases });
        begun = omega arith;
        few = omega arith;
      }

-- the last places of one more segment
pub segment_noted : {S T : Type 0} (s : Trace) (i : ℕ) (m : SegmentTable) (last_places : HashMap Key ℕ S) (last_places' : HashMap Key ℕ T) → AreSegmentTables s (4096 * i) 4096 m → AreLastPlaces s (4096 * i) last_places →
    ((q : Key) → get same_key last_places' q ≡ option_or (get same_key m.last q) (get same_key last_places q)) → AreLastPlaces s (4096 * (i + 1)) last_places'
segment_noted s i m last_places last_places' tables are more q =
    let next : 4096 * i + 4096 ≡ 4096 * (i + 1) = omega arith in
    more q ∙ ap (λ o. option_or o (get same_key last_places q)) (tables.last_are q) ∙ ap (option_or (last_from (matches s q) (4096 * i) 4096)) (are q)
    ∙ sym (last_split (matches s q) (4096 * i) 4096) ∙ ap (last_place (matches s q)) next

-- the last places of all segments, if the sealed ones are noted
pub last_of_all : {S : Type 0} (s : Trace) (n : ℕ) (sealed : List (Arc SegmentTable Global)) (tail : SegmentTable) (older : HashMap Key ℕ S) → AreAllTables s n sealed tail →
    AreLastPlaces s (4096 * length sealed) older → AreLastOf s n tail.last older
last_of_all s n sealed tail older are last_places q =
    let k = 4096 * length sealed in
    ap (λ o. option_or o (get same_key older q)) (are.tail_are.last_are q) ∙ ap (option_or (last_from (matches s q) k (n - k))) (last_places q)
    ∙ sym (last_split (matches s q) k (n - k)) ∙ ap (last_place (matches s q)) (whole s n sealed tail are)

-- ---- one more place

tables-agree : (s r : Trace) (k n : ℕ) (m : SegmentTable) → ((q : Key) (p : ℕ) → p < k + n → matches s q p ≡ matches r q p) → ((a p : ℕ) → p < k + n → ends_at s a p ≡ ends_at r a p) →
    AreSegmentTables s k n m → AreSegmentTables r k n m
tables-agree s r k n m f g are = record {
  last_are = λ q. are.last_are q ∙ from-agree (matches s q) (matches r q) k n (f q);
  releases_are = λ a. are.releases_are a ∙ from-agree (ends_at s a) (ends_at r a) k n (g a);
}

-- the tables of a trace are those of a prefix of it, and conversely
pub tables_down : (s : Trace) (i k n : ℕ) (m : SegmentTable) → k + n ≤ i → AreSegmentTables s k n m → AreSegmentTables (take i s) k n m
tables_down s i k n m fits are =
    tables-agree s (take i s) k n m (λ q p l. sym (matches-take i s q p (omega arith))) (λ a p l. sym (releases-take i s a p (omega arith))) are

pub tables_up : (s : Trace) (i k n : ℕ) (m : SegmentTable) → k + n ≤ i → AreSegmentTables (take i s) k n m → AreSegmentTables s k n m
tables_up s i k n m fits are = tables-agree (take i s) s k n m (λ q p l. matches-take i s q p (omega arith)) (λ a p l. releases-take i s a p (omega arith)) are

from_next : (test : ℕ → Bool) (k n p : ℕ) (b : Bool) (o r : Option ℕ) → k + n ≡ p → test p ≡ b → o ≡ last_from test k n → r ≡ cond b (Some p) o → r ≡ last_from test k (suc n)
from_next test k n p b o r same e h g =
    g ∙ ap (cond b (Some p)) h ∙ ap (λ c. cond c (Some p) (last_from test k n)) (sym e) ∙ ap (λ x. cond (test x) (Some x) (last_from test k n)) (sym same)

-- the tables of one more place of the trace
-- the new tables have one more place, which has this row
pub record HasNoted (row : IndexRow) (place : ℕ) (old new : SegmentTable) : Type 0 where
  pub last : (q : Key) → get same_key new.last q ≡ cond (touches row.event row.depth q) (Some place) (get same_key old.last q)
  pub releases : (a : ℕ) → release_in new.releases a ≡ cond (ends_acquire row a) (Some place) (release_in old.releases a)

pub tables_next : (s : Trace) → IsWellFormed s → (p : ℕ) (row : IndexRow) → At s p row.event → IsIndexRow s p row → row.depth ≡ event_depth s p row.event →
    (k n : ℕ) → k + n ≡ p → (m new : SegmentTable) → AreSegmentTables s k n m → HasNoted row p m new → AreSegmentTables s k (suc n) new
tables_next s w p row here is deep k n same m new are noted = record {
  last_are = λ q. from_next (matches s q) k n p (touches row.event row.depth q) (get same_key m.last q) (get same_key new.last q) same
      (touches_is s p row.event here row.depth deep q) (are.last_are q) (noted.last q);
  releases_are = λ a. from_next (ends_at s a) k n p (ends_acquire row a) (release_in m.releases a) (release_in new.releases a) same
      (ends_here s w p row here is deep a) (are.releases_are a) (noted.releases a);
}

-- the same tables in another segment
pub same_marks : (s : Trace) (n : ℕ) (sealed : List (Arc SegmentTable Global)) (old new : SegmentTable) → IsSame new old → AreAllTables s n sealed old → AreAllTables s n sealed new
same_marks s n sealed old new same are = record {
  sealed_are = are.sealed_are;
  tail_are = record {
    last_are = λ q. same.last_same q ∙ are.tail_are.last_are q;
    releases_are = λ a. same.releases_same a ∙ are.tail_are.releases_are a;
  };
  begun = are.begun;
  few = are.few;
}
