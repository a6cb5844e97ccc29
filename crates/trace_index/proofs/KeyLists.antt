-- The linked lists of keys.
use Rattle.std.proofs.Common.{◌≡◌, ℕ, zero, suc, ◌<◌, ◌≤◌, inl, inr, Bool, true, false, List, [], ◌∷◌, ◌++◌, length, take, slice_get, Option, Some, None, IfSome, refl, sym, ap, subst, ◌∙◌, ◌==◌, arith}
use Rattle.std.proofs.lemmas.Bool.{cases_lt, eqb-true}
use Rattle.std.proofs.lemmas.Option.{none-some, same_Some, slice_get_within}
use Rattle.std.specs.Option.{option_map, option_map_or}
use Rattle.trace_model.specs.declared.traces.event.Event.{Event}
use Rattle.trace_model.specs.declared.traces.event.Op.{Op}
use Rattle.trace_model.specs.declared.traces.event.Op.TheVariants.{Fork, Acquire, Write}
use Rattle.trace_model.specs.declared.limits.TheConstants.{MAX_EVENTS}
use Rattle.trace_model.specs.Theory.Trace.{Trace, At, does, op_eq, last_place}
use Rattle.trace_model.proofs.Theory.Places.{op_eq_same, does_from}
use Rattle.trace_model.proofs.Theory.Lookups.{begins_so}
use Rattle.trace_model.proofs.Theory.Prefix.{Agree, does-agree, begins_on-agree, last_place-agree}
use Rattle.trace_model.proofs.Lists.{get-take, get-take_past, get-append, get-push_last, length-push}
use Rattle.segments.specs.Linking.{count_below}
use Rattle.segments.proofs.Counting.{count-agree, count_last, count_none}
use Rattle.segments.proofs.Linking.{last_is}
use Rattle.trace_index.specs.declared.row.Key.{Key}
use Rattle.trace_index.specs.declared.row.Key.TheVariants.{OfThread, ForkOf, AcquireOf, WriteOf}
use Rattle.trace_index.specs.declared.row.IndexRow.{IndexRow}
use Rattle.trace_index.specs.Numbers.{of_thread, earlier_events}
use Rattle.trace_index.specs.Links.{matches, object_key, IsIndexRow, link_of, trace_of, AreIndexRows}

-- the row of a place with the operation has its link
object_there : (s : Trace) (o : Op) (p : ℕ) (row : IndexRow) → At s p row.event → IsIndexRow s p row → does s o p ≡ true → row.object ≡ last_place (matches s (object_key o)) p
object_there s o p row a is h =
    let same : row.event.op ≡ o = op_eq_same row.event.op o (sym (ap (λ z. option_map_or (λ e. op_eq e.op o) z false) a) ∙ h) in
    subst (λ x. row.object ≡ last_place (matches s (object_key x)) p) same is.object_is

-- the row of a place of a thread is of this thread
thread_there : (s : Trace) (t p : ℕ) (row : IndexRow) → At s p row.event → of_thread s t p ≡ true → row.event.thread ≡ t
thread_there s t p row a h = eqb-true row.event.thread t (sym (ap (λ o. option_map_or (λ e. e.thread == t) o false) a) ∙ h)

-- the row of a place of a key has its link
pub link_there : (s : Trace) (q : Key) (p : ℕ) (row : IndexRow) → At s p row.event → IsIndexRow s p row → matches s q p ≡ true → link_of q row ≡ last_place (matches s q) p
link_there s (OfThread t) p row a is h = subst (λ u. row.thread ≡ last_place (matches s (OfThread u)) p) (thread_there s t p row a h) is.thread_is
link_there s (ForkOf c) p row a is h = object_there s (Fork c) p row a is h
link_there s (AcquireOf l) p row a is h =
    let (t, begins) = begins_so s l p h in
    object_there s (Acquire l) p row a is (does_from s (Acquire l) p (t, begins.0))
link_there s (WriteOf v) p row a is h = object_there s (Write v) p row a is h

-- ---- rows and their trace

pub get_trace : (rows : List IndexRow) (p : ℕ) (row : IndexRow) → slice_get rows p ≡ Some row → At (trace_of rows) p row.event
get_trace [] p row h = absurd (none-some row h)
get_trace (x ∷ rows) zero row h = ap (λ r. Some r.event) (same_Some x row h)
get_trace (x ∷ rows) (suc p) row h = get_trace rows p row h

pub get_trace_map : (rows : List IndexRow) (p : ℕ) → slice_get (trace_of rows) p ≡ option_map (λ row. row.event) (slice_get rows p)
get_trace_map [] p = refl
get_trace_map (x ∷ rows) zero = refl
get_trace_map (x ∷ rows) (suc p) = get_trace_map rows p

pub length_trace : (rows : List IndexRow) → length (trace_of rows) ≡ length rows
length_trace [] = refl
length_trace (x ∷ rows) = ap suc (length_trace rows)

pub trace_push : (rows : List IndexRow) (row : IndexRow) → trace_of (rows ++ row ∷ []) ≡ trace_of rows ++ row.event ∷ []
trace_push [] row = refl
trace_push (x ∷ rows) row = ap (λ s. x.event ∷ s) (trace_push rows row)

pub trace_take : (n : ℕ) (rows : List IndexRow) → trace_of (take n rows) ≡ take n (trace_of rows)
trace_take zero rows = refl
trace_take (suc n) [] = refl
trace_take (suc n) (x ∷ rows) = ap (λ s. x.event ∷ s) (trace_take n rows)

-- ---- facts of a place depend only on the events up to it

pub matches-agree : (s r : Trace) (q : Key) (p : ℕ) → Agree (suc p) s r → matches s q p ≡ matches r q p
matches-agree s r (OfThread t) p h = ap (λ o. option_map_or (λ e. e.thread == t) o false) (h p (omega arith))
matches-agree s r (ForkOf c) p h = does-agree s r (Fork c) p (h p (omega arith))
matches-agree s r (AcquireOf l) p h = begins_on-agree s r l p h
matches-agree s r (WriteOf v) p h = does-agree s r (Write v) p (h p (omega arith))

last_same : (s r : Trace) (q : Key) (p : ℕ) → Agree p s r → last_place (matches s q) p ≡ last_place (matches r q) p
last_same s r q p same = last_place-agree (matches s q) (matches r q) p (λ u l. matches-agree s r q u (λ p m. same p (omega arith)))

pub row-agree : (s r : Trace) (p : ℕ) (row : IndexRow) → Agree p s r → IsIndexRow s p row → IsIndexRow r p row
row-agree s r p row same is = record {
  number_is = is.number_is ∙ count-agree (of_thread s row.event.thread) (of_thread r row.event.thread) p (λ u l. matches-agree s r (OfThread row.event.thread) u (λ p m. same p (omega arith)));
  thread_is = is.thread_is ∙ last_same s r (OfThread row.event.thread) p same;
  object_is = is.object_is ∙ last_same s r (object_key row.event.op) p same;
}

agree_push : (s : Trace) (e : Event) (p : ℕ) → p ≤ length s → Agree p s (s ++ e ∷ [])
agree_push s e p h u l = sym (get-append s (e ∷ []) u (omega arith))

pub rows_push : (rows : List IndexRow) (row : IndexRow) → AreIndexRows rows → IsIndexRow (trace_of rows) (length rows) row → AreIndexRows (rows ++ row ∷ [])
rows_push rows row are next p x h = elim (cases_lt p (length rows)) [
  | inl l ↦
      let old : slice_get rows p ≡ Some x = sym (get-append rows (row ∷ []) p l) ∙ h in
      moved p x (omega (arith, length_trace rows)) (are p x old)
  | inr l ↦
      let within = slice_get_within (rows ++ row ∷ []) p x h in
      let len = length-push rows row in
      let same : p ≡ length rows = omega arith in
      let here : row ≡ x = same_Some row x (sym (get-push_last rows row) ∙ ap (slice_get (rows ++ row ∷ [])) (sym same) ∙ h) in
      moved p x (omega (arith, length_trace rows))
      (subst (λ n. IsIndexRow (trace_of rows) n x) (sym same) (subst (IsIndexRow (trace_of rows) (length rows)) here next))
]
  where
    moved : (p : ℕ) (x : IndexRow) → p ≤ length (trace_of rows) → IsIndexRow (trace_of rows) p x → IsIndexRow (trace_of (rows ++ row ∷ [])) p x
    moved p x l is = subst (λ s. IsIndexRow s p x) (sym (trace_push rows row)) (row-agree (trace_of rows) (trace_of rows ++ row.event ∷ []) p x (agree_push (trace_of rows) row.event p l) is)

pub rows_take : (n : ℕ) (rows : List IndexRow) → AreIndexRows rows → AreIndexRows (take n rows)
rows_take n rows are p x h =
    let below = get-take_past n rows p x h in
    let there : slice_get rows p ≡ Some x = sym (get-take n rows p below) ∙ h in
    subst (λ s. IsIndexRow s p x) (sym (trace_take n rows))
    (row-agree (trace_of rows) (take n (trace_of rows)) p x (λ u l. sym (get-take n (trace_of rows) u (omega arith))) (are p x there))

pub rows_none : AreIndexRows []
rows_none p x h = absurd (none-some x h)

pub link_found : (rows : List IndexRow) (q : Key) (p : ℕ) (row : IndexRow) → AreIndexRows rows → Some row ≡ slice_get rows p → matches (trace_of rows) q p ≡ true →
    link_of q row ≡ last_place (matches (trace_of rows) q) p
link_found rows q p row are found h = link_there (trace_of rows) q p row (get_trace rows p row (sym found)) (are p row (sym found)) h

-- the row of a thread's place has the number of its earlier events
pub number_found : (rows : List IndexRow) (t p : ℕ) (row : IndexRow) → AreIndexRows rows → Some row ≡ slice_get rows p → of_thread (trace_of rows) t p ≡ true →
    row.number ≡ earlier_events (trace_of rows) t p
number_found rows t p row are found h =
    subst (λ u. row.number ≡ earlier_events (trace_of rows) u p) (thread_there (trace_of rows) t p row (get_trace rows p row (sym found)) h) (are p row (sym found)).number_is

-- ---- walks back along the links

-- the number of places of a key up to a place of it
abbrev pub up_to : (ℕ → Bool) → Option ℕ → ℕ
up_to test None = 0
up_to test (Some p) = suc (count_below test p)

pub up_to_last : (test : ℕ → Bool) (n : ℕ) (o : Option ℕ) → o ≡ last_place test n → up_to test o ≡ count_below test n
up_to_last test n None h = sym (count_none test n (sym h))
up_to_last test n (Some p) h = sym (count_last test n p (sym h))

-- a place within the rows has a row
pub no_gap : (rows : List IndexRow) (p : ℕ) → p < length rows → slice_get rows p ≡ None → ⊥
no_gap [] p l h = absurd (omega arith)
no_gap (x ∷ rows) zero l h = none-some x (sym h)
no_gap (x ∷ rows) (suc p) l h = let less : p < length rows = omega arith in no_gap rows p less h

-- the number of events of a thread, by the row of its last place
pub counted : (rows : List IndexRow) (t p : ℕ) (row : IndexRow) → AreIndexRows rows → Some p ≡ last_place (of_thread (trace_of rows) t) (length rows) → Some row ≡ slice_get rows p →
    suc row.number ≡ earlier_events (trace_of rows) t (length rows)
counted rows t p row are last found =
    let e = last_is (of_thread (trace_of rows) t) (length rows) p (sym last) in
    ap suc (number_found rows t p row are found e.passes_is) ∙ sym e.one_less

-- a place of a trace within the limit is a link
pub small_place : (test : ℕ → Bool) (n : ℕ) (o : Option ℕ) → n ≤ MAX_EVENTS → o ≡ last_place test n → IfSome o (λ p. p < 4294967295)
small_place test n None short h = tt
small_place test n (Some p) short h = let below = (last_is test n p (sym h)).below in omega arith
