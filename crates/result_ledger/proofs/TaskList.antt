-- The tasks by their marks.
use Rattle.std.proofs.Common.{◌≡◌, ℕ, zero, suc, ◌+◌, ◌^◌, inl, inr, replicate, ◌<◌, ◌≤◌, Bool, true, false, List, [], ◌∷◌, ◌++◌, length, get_or, map, nat_lt, slice_get, slice_set, Option, Some, None, is_some, IsSome, Result, Ok, Err, OnErr, count_by, refl, sym, ap, ◌∙◌, subst, cond, arith, add-one}
use Rattle.std.proofs.lemmas.List.Sums.{sum_by-cons}
use Rattle.std.proofs.lemmas.List.Folds.{sum_by-replicate}
use Rattle.std.proofs.lemmas.Bool.{cases_lt, false≢true}
use Rattle.std.proofs.lemmas.Bool.Decides.{nat_tests}
use Rattle.std.proofs.lemmas.Option.{slice_get-get_or, slice_get_past, slice_get_read, slice_get_within}
use Rattle.std.specs.Prelude.{option_copied}
use Rattle.std.specs.Slice.{IsItemAt}
use denote.Ref.{Bor}
use Rattle.std.proofs.lemmas.List.{length-map, length-replicate}
use Rattle.std.proofs.Math.ListN.{length-set}
use Rattle.std.proofs.Math.Nat.{mul-zero}
use Rattle.reports.specs.Printed.{PrintedRow}
use Rattle.std.specs.Prelude.{Vec}
use Rattle.std.specs.declared.alloc.Global.{Global}
use Rattle.std.specs.declared.sync.Arc.{Arc}
use Rattle.result_ledger.specs.Inside.{task_of, tasks_of, row_lists, current_rows, IsInOrder, IsLedger}
use Rattle.result_ledger.specs.Tasks.{IsMissing, IsLeastMissing}

pub task_of_mark : (ms : List Bool) (rs : List (List PrintedRow)) (k : ℕ) (m : Bool) → length ms ≡ length rs → slice_get ms k ≡ Some m →
    (r : List PrintedRow) × (slice_get (tasks_of ms rs) k ≡ Some (task_of m r))
task_of_mark [] rs k m e h = absurd (cc)
task_of_mark (x ∷ ms) [] k m e h = absurd (omega arith)
task_of_mark (x ∷ ms) (r ∷ rs) zero m e h = let same : x ≡ m = cc in (r, ap (λ b. Some (task_of b r)) same)
task_of_mark (x ∷ ms) (r ∷ rs) (suc k) m e h = task_of_mark ms rs k m (omega arith) h

pub beyond : (ms : List Bool) (rs : List (List PrintedRow)) (k : ℕ) → slice_get ms k ≡ None → slice_get (tasks_of ms rs) k ≡ None
beyond [] rs k h = refl
beyond (x ∷ ms) [] k h = refl
beyond (x ∷ ms) (r ∷ rs) zero h = absurd (cc)
beyond (x ∷ ms) (r ∷ rs) (suc k) h = beyond ms rs k h

pub unmarked : (ms : List Bool) (rs : List (List PrintedRow)) (k : ℕ) → length ms ≡ length rs → IsMissing (tasks_of ms rs) k → slice_get ms k ≡ Some false
unmarked ms rs k e h = go (slice_get ms k) refl
  where
    go : (o : Option Bool) → slice_get ms k ≡ o → o ≡ Some false
    go None f = let b = beyond ms rs k f in absurd (cc)
    go (Some true) f = let t = task_of_mark ms rs k true e f in let u = t.1 in absurd (cc)
    go (Some false) f = refl

pub counted : (ms : List Bool) (rs : List (List PrintedRow)) → length ms ≡ length rs → count_by is_some (tasks_of ms rs) ≡ count_by (λ m. m) ms
counted [] rs e = refl
counted (x ∷ ms) [] e = absurd (omega arith)
counted (true ∷ ms) (r ∷ rs) e = sum_by-cons (λ t. cond (is_some t) 1 0) (Some r) (tasks_of ms rs) ∙ ap (λ n. 1 + n) (counted ms rs (omega arith)) ∙ sym (sum_by-cons (λ m. cond m 1 0) true ms)
counted (false ∷ ms) (r ∷ rs) e = sum_by-cons (λ t. cond (is_some t) 1 0) None (tasks_of ms rs) ∙ ap (λ n. 0 + n) (counted ms rs (omega arith)) ∙ sym (sum_by-cons (λ m. cond m 1 0) false ms)

pub all_delivered : {X : Type 0} (g : X → List PrintedRow) (ms : List Bool) (rs : List X) → length ms ≡ length rs → ((k : ℕ) → k < length ms → slice_get ms k ≡ Some true) →
    tasks_of ms (map g rs) ≡ map (λ r. Some (g r)) rs
all_delivered g [] [] e h = refl
all_delivered g [] (r ∷ rs) e h = absurd (omega arith)
all_delivered g (x ∷ ms) [] e h = absurd (omega arith)
all_delivered g (x ∷ ms) (r ∷ rs) e h =
    let here : Some x ≡ Some true = h 0 (omega arith) in
    let same : x ≡ true = cc in
    let rest = all_delivered g ms rs (omega arith) (λ k l. h (suc k) (omega arith)) in
    λ i. task_of (same i) (g r) ∷ rest i

pub tasks_more : {X : Type 0} (g : X → List PrintedRow) (ms : List Bool) (rs : List X) (i : ℕ) (r : X) → length ms ≡ length rs →
    tasks_of (slice_set ms i true) (map g (slice_set rs i r)) ≡ slice_set (tasks_of ms (map g rs)) i (Some (g r))
tasks_more g [] [] i r e = refl
tasks_more g [] (y ∷ rs) i r e = absurd (omega arith)
tasks_more g (x ∷ ms) [] i r e = absurd (omega arith)
tasks_more g (x ∷ ms) (y ∷ rs) zero r e = refl
tasks_more g (x ∷ ms) (y ∷ rs) (suc i) r e = ap (λ ts. task_of x (g y) ∷ ts) (tasks_more g ms rs i r (omega arith))

pub counted_more : (ms : List Bool) (i : ℕ) → slice_get ms i ≡ Some false → count_by (λ m. m) (slice_set ms i true) ≡ count_by (λ m. m) ms + 1
counted_more [] i h = absurd (cc)
counted_more (x ∷ ms) zero h =
    let same : x ≡ false = cc in
    sum_by-cons (λ m. cond m 1 0) true ms ∙ (let last : 1 + count_by (λ m. m) ms ≡ (0 + count_by (λ m. m) ms) + 1 = omega arith in last)
    ∙ ap (λ n. n + 1) (sym (sum_by-cons (λ m. cond m 1 0) false ms)) ∙ ap (λ b. count_by (λ m. m) (b ∷ ms) + 1) (sym same)
counted_more (x ∷ ms) (suc i) h =
    omega (arith, sum_by-cons (λ m. cond m 1 0) x (slice_set ms i true), sum_by-cons (λ m. cond m 1 0) x ms, counted_more ms i h)

pub still_marked : (ms : List Bool) (i k : ℕ) → slice_get ms k ≡ Some true → slice_get (slice_set ms i true) k ≡ Some true
still_marked [] i k h = absurd (cc)
still_marked (x ∷ ms) zero zero h = refl
still_marked (x ∷ ms) zero (suc k) h = h
still_marked (x ∷ ms) (suc i) zero h = h
still_marked (x ∷ ms) (suc i) (suc k) h = still_marked ms i k h

clash : (o : Option Bool) → o ≡ Some true → o ≡ Some false → ⊥
clash o e f = cc

pub least_missing : (ms : List Bool) (rs : List (List PrintedRow)) (n m : ℕ) → IsInOrder ms rs n m → m < length ms → IsLeastMissing (tasks_of ms rs) m
least_missing ms rs n m order l = (
  (task_of_mark ms rs m false order.long (order.first l)).1,
  λ other h. elim (cases_lt other m) [
    | inl e ↦ absurd (clash (slice_get ms other) (order.before other e) (unmarked ms rs other order.long h))
    | inr e ↦ e
  ],
)

pub none_missing : (ms : List Bool) (rs : List (List PrintedRow)) (n m : ℕ) → IsInOrder ms rs n m → length ms ≤ m → (task : ℕ) → IsMissing (tasks_of ms rs) task → ⊥
none_missing ms rs n m order l task h =
    let gone = unmarked ms rs task order.long h in
    clash (slice_get ms task) (order.before task (omega (arith, slice_get_within ms task false gone))) gone

pub marked_more : {X : Type 0} (g : X → List PrintedRow) (ms : List Bool) (rs : List X) (n m i last : ℕ) (r : X) → IsInOrder ms (map g rs) n m → slice_get ms i ≡ Some false →
    m ≤ last → last ≤ length (slice_set ms i true) → ((k : ℕ) → m ≤ k → k < last → slice_get (slice_set ms i true) k ≡ Some true) →
    (last < length (slice_set ms i true) → slice_get (slice_set ms i true) last ≡ Some false) →
    IsInOrder (slice_set ms i true) (map g (slice_set rs i r)) (n + 1) last
marked_more g ms rs n m i last r order h from within before first = record {
  long = length-set ms i true ∙ order.long ∙ length-map rs g ∙ sym (length-set rs i r) ∙ sym (length-map (slice_set rs i r) g);
  short = omega (arith, order.short, length-map rs g, length-set rs i r, length-map (slice_set rs i r) g);
  counted = ap (λ k. k + 1) order.counted ∙ sym (counted_more ms i h);
  within = within;
  before = λ k l. elim (cases_lt k m) [ inl e ↦ still_marked ms i k (order.before k e) | inr e ↦ before k e l ];
  first = first;
}

pub none_delivered : (n : ℕ) (rs : List (List PrintedRow)) → length rs ≡ n → tasks_of (replicate n false) rs ≡ replicate n None
none_delivered zero rs e = refl
none_delivered (suc n) [] e = absurd (omega arith)
none_delivered (suc n) (r ∷ rs) e = ap (λ ts. None ∷ ts) (none_delivered n rs (omega arith))

head_of : (n : ℕ) → 0 < n → slice_get (replicate n false) 0 ≡ Some false
head_of zero l = absurd (omega arith)
head_of (suc n) l = refl

pub opened : (n : ℕ) (ms : List Bool) (rs : List (List PrintedRow)) → ms ≡ replicate n false → length rs ≡ n → n < 2 ^ 32 → IsInOrder ms rs 0 0
opened n ms rs e f l = subst (λ xs. IsInOrder xs rs 0 0) (sym e) (record {
  long = length-replicate n false ∙ sym f;
  short = omega arith;
  counted = sym (sum_by-replicate (λ m. cond m 1 0) n false ∙ mul-zero n);
  within = omega arith;
  before = λ k h. absurd (omega arith);
  first = λ h. head_of n (omega (arith, length-replicate n false));
})

-- The same, for marks in a separate list.
pub marked_at : {X : Type 0} (g : X → List PrintedRow) (ms : List Bool) (rs : List X) (n m i last : ℕ) (r : X) (now : List Bool) → IsInOrder ms (map g rs) n m → slice_get ms i ≡ Some false →
    now ≡ slice_set ms i true → (m ≤ last) × (last ≤ length now) → ((k : ℕ) → m ≤ k → k < last → slice_get now k ≡ Some true) →
    (last < length now → slice_get now last ≡ Some false) → IsInOrder (slice_set ms i true) (map g (slice_set rs i r)) (n + 1) last
marked_at g ms rs n m i last r now order h e w b f = marked_more g ms rs n m i last r order h w.0
    (subst (λ xs. last ≤ length xs) e w.1)
    (λ k x y. subst (λ xs. slice_get xs k ≡ Some true) e (b k x y))
    (λ l. subst (λ xs. slice_get xs last ≡ Some false) e (f (subst (λ xs. last < length xs) (sym e) l)))

-- ---- marks

-- One more mark that is not set.
pub marks_more : (n : ℕ) (ms : List Bool) → ms ≡ replicate n false → ms ++ false ∷ [] ≡ replicate (n + 1) false
marks_more n ms is = rw add-one (ap (λ xs. xs ++ false ∷ []) is ∙ go n)
  where
    go : (k : ℕ) → replicate k false ++ false ∷ [] ≡ replicate (suc k) false
    go zero = refl
    go (suc k) = ap (λ xs. false ∷ xs) (go k)

-- One more mark that is set.
pub set_more : (ms : List Bool) (from place : ℕ) → place < length ms → get_or ms place false ≡ true → ((k : ℕ) → from ≤ k → k < place → slice_get ms k ≡ Some true) →
    (k : ℕ) → from ≤ k → k < place + 1 → slice_get ms k ≡ Some true
set_more ms from place within at before k low high = elim (cases_lt k place) [
  | inl less ↦ before k low less
  | inr more ↦
      let same : place ≡ k = omega arith in
      subst (λ n. slice_get ms n ≡ Some true) same (slice_get-get_or ms place false within ∙ ap (λ (b : Bool). Some b) at)
]

-- The mark of a lookup.
pub copied_of : (ms : List Bool) (k : ℕ) (lent : Option (Bor Bool)) → IsItemAt ms k lent → option_copied lent ≡ slice_get ms k
copied_of ms k None h = sym (slice_get_past ms k (not_below k (length ms) h.0))
  where
    not_below : (a b : ℕ) → false ≡ nat_lt a b → b ≤ a
    not_below a b e = grind (arith, nat_tests)
copied_of ms k (Some mark) h = sym (slice_get_read ms (length ms) k mark.now refl h.3.0 h.1)

-- The tasks once all are delivered.
pub settled_tasks : (ms : List Bool) (rows : List (Vec PrintedRow Global)) (n m : ℕ) → IsInOrder ms (row_lists rows) n m → length ms ≤ m →
    tasks_of ms (row_lists rows) ≡ map (λ task. Some task.items) rows
settled_tasks ms rows n m order l =
    all_delivered (λ task. task.items) ms rows (order.long ∙ length-map rows (λ task. task.items)) (λ k inside. order.before k (omega arith))

-- While a task is missing, no rows are shared.
pub not_shared : {S : Type 0} (ms : List Bool) (rs : List (List PrintedRow)) (n m task : ℕ) (shared : Option S) → IsInOrder ms rs n m → (IsSome shared → m ≡ length ms) →
    slice_get ms task ≡ Some false → shared ≡ None
not_shared ms rs n m task None order whole off = refl
not_shared ms rs n m task (Some s) order whole off =
    absurd (clash (slice_get ms task) (order.before task (omega (arith, whole refl, slice_get_within ms task false off))) off)

-- So then the rows are the ledger's own, and the task has no mark.
pub own_rows : (ms : List Bool) (own : List (Vec PrintedRow Global)) (shared : Option (Arc (Vec (Vec PrintedRow Global) Global) Global)) (n m task : ℕ) → IsLedger ms own shared n m →
    IsMissing (tasks_of ms (current_rows own shared)) task → (current_rows own shared ≡ row_lists own) × IsInOrder ms (row_lists own) n m × (slice_get ms task ≡ Some false)
own_rows ms own shared n m task are missing =
    let off = unmarked ms (current_rows own shared) task are.order.long missing in
    let same = ap (current_rows own) (not_shared ms (current_rows own shared) n m task shared are.order are.whole off) in
    (same, subst (λ rs. IsInOrder ms rs n m) same are.order, off)

-- One more task is delivered.
pub marked_ledger : (ms : List Bool) (own : List (Vec PrintedRow Global)) (shared : Option (Arc (Vec (Vec PrintedRow Global) Global) Global)) (n m i last : ℕ) (r : Vec PrintedRow Global)
    (now : List Bool) → IsLedger ms own shared n m → IsMissing (tasks_of ms (current_rows own shared)) i →
    now ≡ slice_set ms i true → (m ≤ last) × (last ≤ length now) → ((k : ℕ) → m ≤ k → k < last → slice_get now k ≡ Some true) →
    (last < length now → slice_get now last ≡ Some false) → IsLedger (slice_set ms i true) (slice_set own i r) shared (n + 1) last
marked_ledger ms own shared n m i last r now are missing e within before first =
    let rows = own_rows ms own shared n m i are missing in
    let none = not_shared ms (current_rows own shared) n m i shared are.order are.whole rows.2 in
    let order = marked_at (λ task. task.items) ms own n m i last r now rows.1 rows.2 e within before first in
    record {
      order = subst (λ s. IsInOrder (slice_set ms i true) (current_rows (slice_set own i r) s) (n + 1) last) (sym none) order;
      whole = λ some. absurd (false≢true (ap is_some (sym none) ∙ some));
    }

-- The tasks with these rows.
pub ledger_with : (ms : List Bool) (own : List (Vec PrintedRow Global)) (shared : Option (Arc (Vec (Vec PrintedRow Global) Global) Global)) (n m i : ℕ) (r : Vec PrintedRow Global) →
    IsLedger ms own shared n m → IsMissing (tasks_of ms (current_rows own shared)) i →
    tasks_of (slice_set ms i true) (current_rows (slice_set own i r) shared) ≡ slice_set (tasks_of ms (current_rows own shared)) i (Some r.items)
ledger_with ms own shared n m i r are missing =
    let rows = own_rows ms own shared n m i are missing in
    let none = not_shared ms (current_rows own shared) n m i shared are.order are.whole rows.2 in
    ap (λ s. tasks_of (slice_set ms i true) (current_rows (slice_set own i r) s)) none
    ∙ (tasks_more (λ task. task.items) ms own i r (rows.1.long ∙ length-map own (λ task. task.items))
    ∙ ap (λ rs. slice_set (tasks_of ms rs) i (Some r.items)) (sym rows.0))

-- A fact holds of a refusal too.
pub if_refused : {X Y : Type 0} {P : Type 0} (result : Result X Y) → P → OnErr result P
if_refused (Ok x) fact = tt
if_refused (Err y) fact = fact
