-- The report on all tasks, and the first event that is not lawful.
use Rattle.std.proofs.Common.{◌≡◌, ℕ, suc, ◌+◌, ◌<◌, ◌≤◌, ◌⊎◌, inl, inr, leb, true, false, sum_by, count_by, length-append, List, [], ◌∷◌, ◌++◌, append_assoc, length, map, slice_get, option_map, Option, Some, None, refl, sym, ap, subst, ◌∙◌, arith}
use Rattle.std.specs.List.{flat_map, All}
use Rattle.std.proofs.lemmas.List.{length-map, map-append}
use Rattle.std.proofs.lemmas.List.Concat.{flat_map-cons}
use Rattle.std.proofs.lemmas.List.Sums.{sum_by-cons}
use Rattle.std.proofs.lemmas.Bool.Decides.{leb_tells}
use Rattle.std.proofs.lemmas.List.Elements.{All-head, All-tail}
use Rattle.std.proofs.lemmas.Option.{none-some, same_Some, slice_get-map, slice_get_within, get_or_from_slice_get}
use Rattle.trace_model.specs.Theory.Trace.{Trace}
use Rattle.trace_model.specs.declared.limits.TheConstants.{MAX_REPORT}
use Rattle.trace_model.specs.Theory.Dependencies.{Dependency, dependencies}
use Rattle.trace_model.specs.Theory.Rows.{Row, AreRows}
use Rattle.reports.specs.Printed.{PrintedRow, with_dependencies}
use Rattle.reports.specs.Text.{about, counts, is_confirmed_row, report, row_text}
use Rattle.reports.proofs.Counting.{flat_map-flat_map}
use Rattle.std.specs.Global.{Vec}
use Rattle.std.proofs.lemmas.Grind.{flat_map-append}
use Rattle.offline_report.specs.Offline.{AreComputed, AreTasks, AreWhole, IsNotAdmitted, IsNotComputed, IsOfflineRefusal, IsTooLong, first_line_of, printed_rows, report_of, rows_by_task, rows_text, size_of, tasks_report, tasks_rows_text}
use Rattle.cycle_search.specs.CycleSearch.{CycleFrom}
use Rattle.findings.specs.Collecting.{AreSomeRows}
use Rattle.trace_model.proofs.Theory.Unique.{rows_unique}
use Rattle.offline_report.proofs.Lesser.{of_tasks}
use Rattle.offline_report.proofs.Sizes.{sizes_are}
use Rattle.offline_report.proofs.PlainRows.{CycleUp, joined, plain, some_rows, task_rows}
use Rattle.offline_report.specs.Parts.{PartView}
use Rattle.offline_report.specs.declared.refused.OfflineRefused.{OfflineRefused}
use Rattle.offline_report.specs.declared.refused.OfflineRefused.TheVariants.{Unlawful, TooLong, TooManyCycles, NoMemory}

-- The rows of each task without their dependencies.
abbrev pub all_plain : List (List PrintedRow) → List (List Row)
all_plain tasks = map plain tasks

named_rows : (ds : List Dependency) (rows : List PrintedRow) → All (λ p. p ≡ with_dependencies ds p.row) rows → map (with_dependencies ds) (map (λ p. p.row) rows) ≡ rows
named_rows ds [] h = refl
named_rows ds (p ∷ rows) h =
    let P : PrintedRow → Type 0 = λ q. q ≡ with_dependencies ds q.row in
    let first = All-head P p rows h in
    let rest = named_rows ds rows (All-tail P p rows h) in
    λ i. sym first i ∷ rest i

named_tasks : (ds : List Dependency) (tasks : List (List PrintedRow)) → ((k : ℕ) (rows : List PrintedRow) → slice_get tasks k ≡ Some rows → All (λ p. p ≡ with_dependencies ds p.row) rows) →
    map (with_dependencies ds) (flat_map (λ rows. rows) (all_plain tasks)) ≡ flat_map (λ rows. rows) tasks
named_tasks ds [] h = refl
named_tasks ds (v ∷ tasks) h =
    let first = named_rows ds v (h 0 v refl) in
    let rest = named_tasks ds tasks (λ k rows is. h (suc k) rows is) in
    ap (map (with_dependencies ds)) (flat_map-cons (λ (rows : List Row). rows) (plain v) (all_plain tasks))
    ∙ map-append (with_dependencies ds) (plain v) (flat_map (λ rows. rows) (all_plain tasks))
    ∙ (λ i. first i ++ rest i)
    ∙ sym (flat_map-cons (λ (rows : List PrintedRow). rows) v tasks)

-- The rows of a computed task name their dependencies.
named_in : (s : Trace) (bound n : ℕ) (tasks : List (List PrintedRow)) (parts : List PartView) → AreComputed s bound n tasks parts → (k : ℕ) (rows : List PrintedRow) → slice_get tasks k ≡ Some rows →
    All (λ p. p ≡ with_dependencies (dependencies s) p.row) rows
named_in s bound n tasks parts c k rows is = (c.each k rows is).2.some.2.named

-- The text on the computed parts is that on their rows.
pub report_is : (s : Trace) (bound n len : ℕ) (tasks : List (List PrintedRow)) (parts : List PartView) → AreComputed s bound n tasks parts → len ≡ length s →
    tasks_report len bound tasks ≡ report_of s bound (all_plain tasks)
unfolding report_of tasks_report
report_is s bound n len tasks parts c l =
    ap (λ k. report 0 k bound (flat_map (λ rows. rows) tasks)) l
    ∙ ap (report 0 (length s) bound) (sym (named_tasks (dependencies s) tasks (named_in s bound n tasks parts c)))

rows_at : (s : Trace) (bound n : ℕ) (tasks : List (List PrintedRow)) (parts : List PartView) (task : ℕ) (rows : List Row) (found : Option (List PrintedRow)) →
    AreComputed s bound n tasks parts → AreWhole parts → slice_get tasks task ≡ found → option_map plain found ≡ Some rows → AreRows s bound task rows
rows_at s bound n tasks parts task rows None c w f e = absurd (none-some rows e)
rows_at s bound n tasks parts task rows (Some v) c w f e =
    let (part, there, are) = c.each task v f in
    let all = are.whole (sym (ap (λ (p : PartView). p.is_whole) (get_or_from_slice_get parts task part part there)) ∙ w task part (slice_get_within parts task part there)) in
    subst (AreRows s bound task) (same_Some (plain v) rows e) (task_rows s bound task v all)

pub are_tasks : (s : Trace) (bound : ℕ) (tasks : List (List PrintedRow)) (parts : List PartView) → AreComputed s bound (length (dependencies s)) tasks parts → AreWhole parts → AreTasks s bound (all_plain tasks)
are_tasks s bound tasks parts c w = record {
  total = length-map tasks plain ∙ c.total;
  each = λ task rows e. rows_at s bound (length (dependencies s)) tasks parts task rows (slice_get tasks task) c w refl (sym (slice_get-map plain tasks task) ∙ e);
}

-- There is one list of the rows of all tasks.
same_lists : {X : Type 0} (xs ys : List X) → length xs ≡ length ys → ((k : ℕ) (x y : X) → slice_get xs k ≡ Some x → slice_get ys k ≡ Some y → x ≡ y) → xs ≡ ys
same_lists [] [] e each = refl
same_lists [] (y ∷ ys) e each = absurd (omega (arith, e))
same_lists (x ∷ xs) [] e each = absurd (omega (arith, e))
same_lists (x ∷ xs) (y ∷ ys) e each =
    let first = each 0 x y refl refl in
    let rest = same_lists xs ys (omega (arith, e)) (λ k v w p q. each (suc k) v w p q) in
    λ i. first i ∷ rest i

tasks_unique : (s : Trace) (bound : ℕ) (tasks others : List (List Row)) → AreTasks s bound tasks → AreTasks s bound others → tasks ≡ others
tasks_unique s bound tasks others are also = same_lists tasks others (are.total ∙ sym also.total) (λ k x y p q. rows_unique s bound k x y (are.each k x p) (also.each k y q))

-- The length of the text of rows is the sum of those of their own texts.
abbrev size : List Dependency → Row → ℕ
size ds row = length (row_text (with_dependencies ds row))

text_size : (ds : List Dependency) (rows : List Row) → length (flat_map row_text (map (with_dependencies ds) rows)) ≡ sum_by (size ds) rows
text_size ds [] = refl
text_size ds (row ∷ rows) = omega (
  arith,
  ap length (flat_map-cons row_text (with_dependencies ds row) (map (with_dependencies ds) rows)) ∙ length-append (row_text (with_dependencies ds row)) (flat_map row_text (map (with_dependencies ds) rows)),
  text_size ds rows,
  sum_by-cons (size ds) row rows,
)

module _ (s : Trace) (bound len : ℕ) (tasks : List (List PrintedRow)) (parts : List PartView) (c : AreComputed s bound (length (dependencies s)) tasks parts) (l : len ≡ length s)
    (over : MAX_REPORT < length (tasks_report len bound tasks)) where
  some_at : (k : ℕ) (rows : List PrintedRow) → slice_get tasks k ≡ Some rows → AreSomeRows s (CycleFrom (dependencies s) bound (0 + k)) rows
  some_at k rows is =
      let at : k ≡ 0 + k = omega arith in
      subst (λ root. AreSomeRows s (CycleFrom (dependencies s) bound root) rows) at (c.each k rows is).2.some

  abbrev all_rows : List PrintedRow
  all_rows = flat_map (λ (rows : List PrintedRow). rows) tasks

  names : map (with_dependencies (dependencies s)) (plain all_rows) ≡ all_rows
  names = let some = joined s bound 0 tasks some_at in named_rows (dependencies s) all_rows some.2.named

  -- The texts of the parts are not longer than that of the whole report.
  parts_within : (all : List (List Row)) → AreTasks s bound all → sum_by size_of parts ≤ length (report_of s bound all)
  unfolding report_of
  parts_within all are =
      let ds = dependencies s in
      let rows = flat_map (λ (rows : List Row). rows) all in
      let lesser = of_tasks s bound (size ds) 0 tasks all (c.total ∙ sym are.total) some_at (λ k v is.
      let at : k ≡ 0 + k = omega arith in subst (λ root. AreRows s bound root v) at (are.each k v is)) in
      let fact = ap length (sym (flat_map-flat_map row_text (λ (rows : List PrintedRow). rows) tasks) ∙ ap (flat_map row_text) (sym names)) ∙ text_size ds (plain all_rows) in
      let printed = map (with_dependencies ds) rows in
      let head = about 0 (length s) bound in
      let numbers = counts (length printed) (count_by is_confirmed_row printed) in
      omega (arith, (sizes_are tasks parts c.written).least, fact, lesser, text_size ds rows, length-append head (numbers ++ flat_map row_text printed), length-append numbers (flat_map row_text printed))

  every : (sum_by size_of parts ≤ MAX_REPORT → AreWhole parts) → (all : List (List Row)) → AreTasks s bound all → MAX_REPORT < length (report_of s bound all)
  every whole all are = by (leb_tells (sum_by size_of parts) MAX_REPORT)
    where
      by : ((leb (sum_by size_of parts) MAX_REPORT ≡ true) × (sum_by size_of parts ≤ MAX_REPORT)) ⊎ ((leb (sum_by size_of parts) MAX_REPORT ≡ false) × (MAX_REPORT < sum_by size_of parts)) →
          MAX_REPORT < length (report_of s bound all)
      by (inl few) =
          let same = tasks_unique s bound (all_plain tasks) all (are_tasks s bound tasks parts c (whole few.1)) are in
          subst (λ (rows : List (List Row)). MAX_REPORT < length (report_of s bound rows)) same
          (subst (λ (text : List ℕ). MAX_REPORT < length text) (report_is s bound (length (dependencies s)) len tasks parts c l) over)
      by (inr many) = omega (arith, many.1, parts_within all are)

  -- The rows of the parts are too long together.
  pub too_long : (sum_by size_of parts ≤ MAX_REPORT → AreWhole parts) → IsTooLong s bound
  unfolding tasks_report
  too_long whole =
      let some = joined s bound 0 tasks some_at in
      record {
        rows = plain all_rows;
        exact = some_rows s bound (CycleUp (dependencies s) bound 0) all_rows (λ numbers h. h.0) some;
        over = subst (λ (text : List ℕ). MAX_REPORT < length text) (ap (λ k. report 0 k bound all_rows) l ∙ ap (report 0 (length s) bound) (sym names)) over;
        every = every whole;
      }

-- The text of all rows, task by task.
texts_by_task : (s : Trace) (tasks : List (Vec Row)) → tasks_rows_text s tasks ≡ rows_text s (flat_map (λ rows. rows) (rows_by_task tasks))
texts_by_task s [] = refl
texts_by_task s (task ∷ tasks) =
    let ds = dependencies s in
    let rest = flat_map (λ (rows : List Row). rows) (rows_by_task tasks) in
    flat_map-cons (λ (task : Vec Row). rows_text s task.items) task tasks
    ∙ ap (λ (l : List ℕ). rows_text s task.items ++ l) (texts_by_task s tasks)
    ∙ sym (flat_map-append row_text (printed_rows s task.items) (printed_rows s rest))
    ∙ ap (flat_map row_text) (sym (map-append (with_dependencies ds) task.items rest))
    ∙ ap (rows_text s) (sym (flat_map-cons (λ (rows : List Row). rows) task.items (rows_by_task tasks)))

-- The rows of all tasks, with the dependencies of their members.
pub printed_all : (s : Trace) (bound n : ℕ) (tasks : List (List PrintedRow)) (parts : List PartView) → AreComputed s bound n tasks parts →
    printed_rows s (flat_map (λ rows. rows) (all_plain tasks)) ≡ flat_map (λ rows. rows) tasks
printed_all s bound n tasks parts c = named_tasks (dependencies s) tasks (named_in s bound n tasks parts c)

-- The report is its first line, and then the texts of the rows, task by task.
pub text_is : (s : Trace) (bound : ℕ) (tasks : List (Vec Row)) (first : List ℕ) → first ≡ first_line_of (length s) bound (printed_rows s (flat_map (λ rows. rows) (rows_by_task tasks))) →
    first ++ tasks_rows_text s tasks ≡ report_of s bound (rows_by_task tasks)
unfolding report_of
text_is s bound tasks first is =
    let rows = flat_map (λ (rows : List Row). rows) (rows_by_task tasks) in
    let printed = printed_rows s rows in
    (λ i. is i ++ texts_by_task s tasks i)
    ∙ append_assoc (about 0 (length s) bound) (counts (length printed) (count_by is_confirmed_row printed)) (flat_map row_text printed)

pub not_computed : (s : Trace) (bound : ℕ) (refused : OfflineRefused) → IsNotComputed refused → IsOfflineRefusal s bound refused
not_computed s bound (Unlawful first) h = absurd h
not_computed s bound TooLong h = absurd h
not_computed s bound TooManyCycles h = absurd h
not_computed s bound NoMemory h = tt

pub not_admitted : (s : Trace) (bound : ℕ) (refused : OfflineRefused) → IsNotAdmitted s refused → IsOfflineRefusal s bound refused
not_admitted s bound (Unlawful first) h = h
not_admitted s bound TooLong h = absurd h
not_admitted s bound TooManyCycles h = absurd h
not_admitted s bound NoMemory h = tt
