-- A confirmed row stays as the trace grows.
use Rattle.std.proofs.Common.{◌≡◌, ℕ, zero, suc, ◌<◌, ◌≤◌, inl, inr, min, Bool, true, false, cond, ◌&&◌, List, [], ◌∷◌, ◌++◌, length, length-append, take, map, slice_get, Option, Some, None, IsSome, refl, sym, ap, subst, ◌∙◌, arith}
use Rattle.std.proofs.Math.Seq.{take-length}
use Rattle.std.proofs.lemmas.List.{take-append-le}
use Rattle.std.proofs.lemmas.Bool.{false≢true, cases_lt, and_parts, and_from}
use Rattle.std.proofs.lemmas.Option.{none-some, same_Some, slice_get_within, get_or_from_slice_get}
use Rattle.std.specs.List.{Contains, All, list_any}
use Rattle.trace_model.specs.Theory.Trace.{Trace}
use Rattle.trace_model.specs.Theory.Lawful.{IsWellFormed}
use Rattle.trace_model.specs.Theory.Dependencies.{Dependency, dependency_at, same_dependency, with_new, dependencies_below, dependencies}
use Rattle.trace_model.specs.Theory.Cycles.{Member, next, IsCycle, IsInstance}
use Rattle.trace_model.specs.Theory.Reordering.{AreReached}
use Rattle.trace_model.specs.Theory.Closure.{Places, IsClosed, HoldsPredecessors, InClosure, IsClosure, ascending_places}
use Rattle.trace_model.specs.Theory.Rows.{Evidence, Row, IsLeastInstance, IsWitness, IsRow, AreRows}
use Rattle.trace_model.specs.Theory.Laws.{lesser}
use Rattle.trace_model.proofs.Theory.Prefix.{Agree}
use Rattle.trace_model.proofs.Lists.{at_index, get-append, get-push_kept}
use Rattle.trace_model.proofs.Theory.Ascending.{place_of, contains_at, ascending_contains, contains_ascending, listed, listed_contains, contains_listed}
use Rattle.trace_model.proofs.Theory.Growing.{well_formed_take}
use Rattle.trace_model.proofs.Theory.Existence.{closed_reorders, closed_reaches, reordering_closes, reaching_holds, is_closure_from}
use Rattle.trace_model.proofs.Theory.Stability.{both_closed, closure_longer, reached_longer}
use Rattle.trace_model.proofs.Theory.Least.{lesser_at, lesser_reached}
use Rattle.trace_model.proofs.Theory.Dependencies.{dependency_so, dependency_at-agree, dependencies-agree}
use Rattle.trace_model.proofs.Theory.Deadlock.{member_at, instances_same_threads}
use Rattle.trace_model.proofs.Theory.Unique.{same_list, has_contained, contains_had, increasing_ordered, closure_witness, row_unique}

-- ---- dependencies keep their numbers

kept : (ds : List Dependency) (o : Option Dependency) (m : ℕ) (d : Dependency) → slice_get ds m ≡ Some d → slice_get (with_new ds o) m ≡ Some d
kept ds None m d h = h
kept ds (Some e) m d h = go (list_any (same_dependency e) ds)
  where
    go : (b : Bool) → slice_get (cond b ds (ds ++ e ∷ [])) m ≡ Some d
    go true = h
    go false = get-push_kept ds e m d h

below_grows : (s : Trace) (n l m : ℕ) (d : Dependency) → n ≤ l → slice_get (dependencies_below s n) m ≡ Some d → slice_get (dependencies_below s l) m ≡ Some d
below_grows s n zero m d low h = let e : n ≡ 0 = omega arith in subst (λ x. slice_get (dependencies_below s x) m ≡ Some d) e h
below_grows s n (suc l) m d low h = elim (cases_lt l n) [
  | inl a ↦ let e : n ≡ suc l = omega arith in subst (λ x. slice_get (dependencies_below s x) m ≡ Some d) e h
  | inr a ↦ kept (dependencies_below s l) (dependency_at s l) m d (below_grows s n l m d a h)
]

module _ (s more : Trace) where
  agree : (n : ℕ) → n ≤ length s → Agree n s (s ++ more)
  agree n l p below = sym (get-append s more p (omega arith))

  dependency_longer : (m : ℕ) (d : Dependency) → slice_get (dependencies s) m ≡ Some d → slice_get (dependencies (s ++ more)) m ≡ Some d
  dependency_longer m d h = below_grows (s ++ more) (length s) (length (s ++ more)) m d (omega (arith, length-append s more))
      (subst (λ ds. slice_get ds m ≡ Some d) (dependencies-agree s (s ++ more) (length s) (agree (length s) (omega arith))) h)

  dependency_shorter : (m : ℕ) (d : Dependency) → m < length (dependencies s) → slice_get (dependencies (s ++ more)) m ≡ Some d →
      slice_get (dependencies s) m ≡ Some d
  dependency_shorter m d l h = let f = at_index (dependencies s) m l in f.1 ∙ sym (dependency_longer m f.0 f.1) ∙ h

  place_longer : (p : ℕ) → p < length s → dependency_at s p ≡ dependency_at (s ++ more) p
  place_longer p l = dependency_at-agree s (s ++ more) p (agree (suc p) (omega arith))

  place_within : (p : ℕ) (d : Dependency) → dependency_at s p ≡ Some d → p < length s
  place_within p d h = slice_get_within s p _ (dependency_so s p d h).0.0

  -- a cycle stays one
  cycle_longer : (bound higher : ℕ) (numbers : List ℕ) → bound ≤ higher → IsCycle (dependencies s) bound numbers → IsCycle (dependencies (s ++ more)) higher numbers
  cycle_longer bound higher numbers l c = record {
    at_least_two = c.at_least_two;
    at_most = omega (arith, c.at_most);
    known = λ m h. let k = at_index (dependencies s) m (c.known m h) in
        slice_get_within (dependencies (s ++ more)) m k.0 (dependency_longer m k.0 k.1);
    least_first = c.least_first;
    threads_distinct = λ i j a b below x y. c.threads_distinct i j a b below (member i a x) (member j b y);
    locks_distinct = λ i j a b below x y. c.locks_distinct i j a b below (member i a x) (member j b y);
    held_disjoint = λ i j lock a b below x y. c.held_disjoint i j lock a b below (member i a x) (member j b y);
    linked = λ i a b x y. c.linked i a b (member i a x) (member (next numbers i) b y);
  }
    where
      member : (i : ℕ) (a : Dependency) → Member (dependencies (s ++ more)) numbers i a → Member (dependencies s) numbers i a
      member i a (m, x, y) = (m, x, dependency_shorter m a (c.known m (contains_at numbers m i x)) y)

-- ---- its least instance stays

length-lesser : (xs ys : List ℕ) → length xs ≡ length ys → length (lesser xs ys) ≡ length xs
length-lesser [] ys e = refl
length-lesser (x ∷ xs) [] e = absurd (omega arith)
length-lesser (x ∷ xs) (y ∷ ys) e = omega (arith, length-lesser xs ys (omega arith))

at_lesser : (xs ys : List ℕ) (k x y : ℕ) → slice_get xs k ≡ Some x → slice_get ys k ≡ Some y → slice_get (lesser xs ys) k ≡ Some (min x y)
at_lesser [] ys k x y h i = absurd (none-some x h)
at_lesser (a ∷ xs) [] k x y h i = absurd (none-some y i)
at_lesser (a ∷ xs) (b ∷ ys) zero x y h i = ap Some (cc (same_Some a x h, same_Some b y i))
at_lesser (a ∷ xs) (b ∷ ys) (suc k) x y h i = at_lesser xs ys k x y h i

lesser_instance : (s : Trace) (numbers xs ys : List ℕ) → IsInstance s numbers xs → IsInstance s numbers ys → IsInstance s numbers (lesser xs ys)
lesser_instance s numbers xs ys (e, each) (f, other) = (
  length-lesser xs ys (e ∙ sym f) ∙ e,
  λ i m p d hm hd hp.
      let (x, y, hx, hy, least) = lesser_at xs ys i p hp in
      elim (cases_lt x y) [
        | inl l ↦ let is : x ≡ p = omega arith in subst (λ q. dependency_at s q ≡ Some d) is (each i m x d hm hd hx)
        | inr l ↦ let is : y ≡ p = omega arith in subst (λ q. dependency_at s q ≡ Some d) is (other i m y d hm hd hy)
      ],
)

module _ (s more : Trace) (v : IsWellFormed s) (w : IsWellFormed (s ++ more)) (bound : ℕ) (numbers : List ℕ) (c : IsCycle (dependencies s) bound numbers) where
  instance_longer : (places : List ℕ) → IsInstance s numbers places → IsInstance (s ++ more) numbers places
  instance_longer places (e, each) = (
    e,
    λ i m p d x y z.
        let at = each i m p d x (dependency_shorter s more m d (c.known m (contains_at numbers m i x)) y) z in
        sym (place_longer s more p (place_within s more p d at)) ∙ at,
  )

  instance_shorter : (places : List ℕ) → ((p : ℕ) → Contains places p → p < length s) → IsInstance (s ++ more) numbers places → IsInstance s numbers places
  instance_shorter places low (e, each) = (
    e,
    λ i m p d x y z.
        place_longer s more p (low p (contains_at places p i z)) ∙ each i m p d x (dependency_longer s more m d y) z,
  )

  instance_within : (places : List ℕ) → IsInstance s numbers places → (p : ℕ) → Contains places p → p < length s
  instance_within places is p h =
      let (k, at) = place_of places p h in
      let (d, member, here) = member_at s bound numbers places c is k p at in
      place_within s more p d here

  least_longer : (places : List ℕ) → IsLeastInstance s numbers places → IsLeastInstance (s ++ more) numbers places
  least_longer places h = record {
    is_instance = long;
    is_reached = reached;
    least = λ other is r k x y hx hy.
        let both = lesser places other in
        let within : (p : ℕ) → Contains both p → p < length s = λ p hp. below other p (place_of both p hp) in
        let same = instances_same_threads (s ++ more) bound numbers places other (cycle_longer s more bound bound numbers (omega arith) c) long is in
        let z = (reached_longer s more v w both within).1 (lesser_reached (s ++ more) w places other same reached r) in
        let low = h.least both (instance_shorter both within (lesser_instance (s ++ more) numbers places other long is)) z
        k x (min x y) hx (at_lesser places other k x y hx hy) in
        omega (arith, low);
  }
    where
      low : (p : ℕ) → Contains places p → p < length s
      low = instance_within places h.is_instance

      long : IsInstance (s ++ more) numbers places
      long = instance_longer places h.is_instance

      reached : AreReached (s ++ more) places
      reached = (reached_longer s more v w places low).0 h.is_reached

      below : (other : List ℕ) (p : ℕ) → (k : ℕ) × (slice_get (lesser places other) k ≡ Some p) → p < length s
      below other p (k, at) =
          let (x, y, hx, hy, least) = lesser_at places other k p at in
          omega (arith, low x (contains_at places x k hx))

-- ---- its witness stays

-- a witness is the closure of its places
witness_closure : (s : Trace) → IsWellFormed s → (places order : List ℕ) → IsWitness s places order → IsClosure s places (listed order)
witness_closure s v places order h = is_closure_from s places (listed order) closed holds inside
  where
    closed : IsClosed s (listed order)
    closed = reordering_closes s order h.reorders

    holds : HoldsPredecessors s places (listed order)
    holds = reaching_holds s order places h.reaches

    inside : (q : ℕ) → listed order q ≡ true → InClosure s places q
    inside q t set c d =
        let both : Places = λ x. set x && listed order x in
        let o = closed_reorders s v both (both_closed s set (listed order) c closed) in
        let r = closed_reaches s places both
        (λ p u hp e. and_from (set u) (listed order u) (d p u hp e) (holds p u hp e))
        (λ p hp k. (h.reaches p hp).0 (listed_contains order p (and_parts (set p) (listed order p) k).1)) in
        let k = h.smallest (ascending_places both (length s)) o r q (listed_contains order q t) in
        (and_parts (set q) (listed order q) (ascending_contains both (length s) q k).1).0

witness_longer : (s more : Trace) → IsWellFormed s → IsWellFormed (s ++ more) → (places order : List ℕ) →
    ((p : ℕ) → Contains places p → p < length s) → IsWitness s places order → IsWitness (s ++ more) places order
witness_longer s more v w places order low h = subst (λ list. IsWitness (s ++ more) places list) same found
  where
    closure : IsClosure (s ++ more) places (listed order)
    closure q =
        let k = witness_closure s v places order h q in
        let l = closure_longer s more v w places low q in
        (λ t. l.0 (k.0 t), λ i. k.1 (l.1 i))

    found : IsWitness (s ++ more) places (ascending_places (listed order) (length (s ++ more)))
    found = closure_witness (s ++ more) w places (listed order) closure
        ((reached_longer s more v w places low).0 (order, h.reorders, h.reaches))

    same : ascending_places (listed order) (length (s ++ more)) ≡ order
    same = same_list (λ x y. x < y) (λ x y l m. omega arith) (ascending_places (listed order) (length (s ++ more))) order
        (increasing_ordered (ascending_places (listed order) (length (s ++ more))) found.ascends) (increasing_ordered order h.ascends)
        (λ x k. has_contained order x (listed_contains order x
        (ascending_contains (listed order) (length (s ++ more)) x (contains_had (ascending_places (listed order) (length (s ++ more))) x k)).1))
        (λ x k.
        let here = contains_had order x k in
        has_contained (ascending_places (listed order) (length (s ++ more))) x (contains_ascending (listed order) (length (s ++ more)) x
        (omega (arith, h.reorders.in_trace x here, length-append s more)) (contains_listed order x here)))

-- ---- the row stays

row_longer : (s more : Trace) → IsWellFormed s → IsWellFormed (s ++ more) → (bound : ℕ) (numbers : List ℕ) (found : Option Evidence) → IsCycle (dependencies s) bound numbers →
    IsSome found → IsRow s (record { cycle = numbers; found = found }) → IsRow (s ++ more) (record { cycle = numbers; found = found })
row_longer s more v w bound numbers None c is h = absurd (false≢true is)
row_longer s more v w bound numbers (Some f) c is h = (
  least_longer s more v w bound numbers c f.places h.0,
  witness_longer s more v w f.places f.witness (instance_within s more v w bound numbers c f.places h.0.is_instance) h.1,
)

numbers_of : (rows : List Row) (k : ℕ) (row : Row) → slice_get rows k ≡ Some row → slice_get (map (λ row. row.cycle) rows) k ≡ Some row.cycle
numbers_of [] k row h = absurd (none-some row h)
numbers_of (x ∷ rows) zero row h = ap (λ (r : Row). Some r.cycle) (same_Some x row h)
numbers_of (x ∷ rows) (suc k) row h = numbers_of rows k row h

row_of : (rows : List Row) (k : ℕ) (numbers : List ℕ) → slice_get (map (λ row. row.cycle) rows) k ≡ Some numbers →
    (row : Row) × (slice_get rows k ≡ Some row) × (row.cycle ≡ numbers)
row_of [] k numbers h = absurd (none-some numbers h)
row_of (x ∷ rows) zero numbers h = (x, refl, same_Some x.cycle numbers h)
row_of (x ∷ rows) (suc k) numbers h = row_of rows k numbers h

is_row : (s : Trace) (rows : List Row) → All (IsRow s) rows → (k : ℕ) (row : Row) → slice_get rows k ≡ Some row → IsRow s row
is_row s rows all k row h = subst (IsRow s) (get_or_from_slice_get rows k row row h) (all k row (slice_get_within rows k row h))

pub confirmed_stays : (s more : Trace) → IsWellFormed (s ++ more) → (bound higher root : ℕ) → bound ≤ higher → (rows later : List Row) →
    AreRows s bound root rows → AreRows (s ++ more) higher root later → (row : Row) → Contains rows row → IsSome row.found → Contains later row
confirmed_stays s more w bound higher root low rows later a b row h is =
    let k = has_contained rows row h in
    let names = map (λ (r : Row). r.cycle) rows in
    let cycle = (a.cycles.exact row.cycle).0 (contains_had names row.cycle (k.0, numbers_of rows k.0 row k.1)) in
    let old : IsRow s row = is_row s rows a.exact k.0 row k.1 in
    let new : IsRow (s ++ more) row = row_longer s more v w bound row.cycle row.found cycle.0 is old in
    let there = (b.cycles.exact row.cycle).1 (cycle_longer s more bound higher row.cycle low cycle.0, cycle.1) in
    let l = has_contained (map (λ (r : Row). r.cycle) later) row.cycle there in
    let (other, at, same) = row_of later l.0 row.cycle l.1 in
    let one = row_unique (s ++ more) other row same (is_row (s ++ more) later b.exact l.0 other at) new in
    contains_had later row (l.0, at ∙ ap Some one)
  where
    whole : take (length s) (s ++ more) ≡ s
    whole = take-append-le (length s) s more (omega arith) ∙ take-length s

    v : IsWellFormed s
    v = subst IsWellFormed whole (well_formed_take (s ++ more) (length s) w)
