-- The texts of rows, with more of them.
use Rattle.std.proofs.Common.{◌≡◌, ◌≢◌, Bool, false, nat_eq, ℕ, zero, suc, ◌+◌, ◌<◌, ◌≤◌, get_or, List, [], ◌∷◌, ◌++◌, ◌∙◌, length, take, slice_get, arith, map, option_map, subst, Some, refl, sym, ap, true≢false}
use Rattle.std.specs.Global.{Vec}
use Rattle.std.specs.List.{All, AllZip, Contains, flat_map}
use Rattle.std.proofs.Math.ListN.{get_or-map}
use Rattle.std.specs.Cmp.Lexicographic.{pointwise, bytes_decides}
use Rattle.std.proofs.Math.Seq.{take-append-add}
use Rattle.std.proofs.lemmas.List.{append-nil, length-map, map-append}
use Rattle.std.proofs.Common.{append_assoc}
use Rattle.std.proofs.lemmas.List.Elements.{All-contains, All-map, Contains-get_or}
use Rattle.std.proofs.lemmas.Option.{slice_get-map, slice_get_within, get_or_from_slice_get}
use Rattle.std.proofs.lemmas.List.Concat.{flat_map-append, flat_map-cons}
use Rattle.trace_model.specs.Theory.Trace.{Trace}
use Rattle.trace_model.specs.Theory.Rows.{AreRows, IsRow, Row}
use Rattle.trace_model.specs.Theory.Dependencies.{dependencies}
use Rattle.trace_model.specs.Theory.Cycles.{IsCycle}
use Rattle.reports.specs.Printed.{PrintedRow, with_dependencies}
use Rattle.snapshots.specs.Found.{AreRowsOf}
use Rattle.offline_report.specs.Offline.{AreTasks, printed_rows, rows_by_task}
use Rattle.commands.specs.declared.refuting.RefutedRow.{RefutedRow}
use Rattle.commands.specs.Explain.{Explains, ExplainsSome, IsExplanation, IsKnownRow, all_rows, bare_rows}

zip_append : {X Y : Type 0} (P : X → Y → Type 0) (xs : List X) (ys : List Y) (vs : List X) (ws : List Y) → AllZip P xs ys → AllZip P vs ws → AllZip P (xs ++ vs) (ys ++ ws)
zip_append P [] [] vs ws h k = k
zip_append P [] (y ∷ ys) vs ws h k = absurd h
zip_append P (x ∷ xs) [] vs ws h k = absurd h
zip_append P (x ∷ xs) (y ∷ ys) vs ws h k = (h.0, zip_append P xs ys vs ws h.1 k)

pub explains_none : (s : Trace) → Explains s [] []
explains_none s = ([], tt, refl)

pub explains_more : (s : Trace) (rows others : List PrintedRow) (text more : List ℕ) → Explains s rows text → Explains s others more → Explains s (rows ++ others) (text ++ more)
explains_more s rows others text more (xs, are, is) (ys, also, too) =
    (xs ++ ys, zip_append (IsExplanation s) rows xs others ys are also, (λ i. is i ++ too i) ∙ sym (flat_map-append (λ (part : List ℕ). part) xs ys))

pub explains_one : (s : Trace) (row : PrintedRow) (text : List ℕ) → IsExplanation s row text → Explains s (row ∷ []) text
explains_one s row text is = (text ∷ [], (is, tt), sym (flat_map-cons (λ (part : List ℕ). part) text [] ∙ append-nil text))

-- The element at an index ends the list of one more element.
at_suc : {X : Type 0} (xs : List X) (i : ℕ) → i < length xs → (x : X) × (slice_get xs i ≡ Some x) × (take (suc i) xs ≡ take i xs ++ x ∷ [])
at_suc [] i l = absurd (omega (arith, l))
at_suc (x ∷ xs) zero l = (x, refl, refl)
at_suc (x ∷ xs) (suc i) l = let (y, at, more) = at_suc xs i (omega (arith, l)) in (y, at, ap (λ ys. x ∷ ys) more)

pub at_index : {X : Type 0} (xs : List X) (i : ℕ) → i < length xs → (x : X) × (slice_get xs i ≡ Some x) × (take (i + 1) xs ≡ take i xs ++ x ∷ [])
at_index xs i l =
    let (x, at, more) = at_suc xs i l in
    let next : i + 1 ≡ suc i = omega arith in
    (x, at, ap (λ n. take n xs) next ∙ more)

-- The row of a task is exact.
pub row_at : (s : Trace) (bound task : ℕ) (rows : List PrintedRow) (i : ℕ) (row : PrintedRow) → slice_get rows i ≡ Some row → AreRowsOf s bound task rows → IsRow s row.row
row_at s bound task rows i row at are =
    let there = slice_get-map (λ (p : PrintedRow). p.row) rows i ∙ ap (option_map (λ (p : PrintedRow). p.row)) at in
    let within = slice_get_within (map (λ (p : PrintedRow). p.row) rows) i row.row there in
    subst (IsRow s) (get_or_from_slice_get (map (λ (p : PrintedRow). p.row) rows) i row.row row.row there) (are.exact.exact i row.row within)

-- The numbers of a row are a cycle.
pub cycle_at : (s : Trace) (bound task : ℕ) (rows : List PrintedRow) (i : ℕ) (row : PrintedRow) → slice_get rows i ≡ Some row → AreRowsOf s bound task rows → IsCycle (dependencies s) bound row.row.cycle
cycle_at s bound task rows i row at are =
    let plain : List Row = map (λ (p : PrintedRow). p.row) rows in
    let cycles : List (List ℕ) = map (λ (r : Row). r.cycle) plain in
    let here = slice_get-map (λ (p : PrintedRow). p.row) rows i ∙ ap (option_map (λ (p : PrintedRow). p.row)) at in
    let there = slice_get-map (λ (r : Row). r.cycle) plain i ∙ ap (option_map (λ (r : Row). r.cycle)) here in
    let within = slice_get_within cycles i row.row.cycle there in
    let listed = subst (λ c. Contains cycles c) (get_or_from_slice_get cycles i row.row.cycle row.row.cycle there) (Contains-get_or cycles i row.row.cycle within) in
    ((are.exact.cycles.exact row.row.cycle).0 listed).0

-- Lists that a test finds different are different.
pub bytes_apart : (xs ys : List ℕ) (b : Bool) → b ≡ pointwise nat_eq xs ys → b ≡ false → xs ≢ ys
bytes_apart xs ys b outcome apart same = true≢false (sym ((bytes_decides xs ys).1 same) ∙ sym outcome ∙ apart)

-- If no row of the task has these numbers, then they are no cycle.
pub no_such_cycle : (s : Trace) (bound task : ℕ) (rows : List PrintedRow) (numbers : List ℕ) → AreRowsOf s bound task rows → slice_get numbers 0 ≡ Some task →
    All (λ row. row.row.cycle ≢ numbers) rows → IsCycle (dependencies s) bound numbers → ⊥
no_such_cycle s bound task rows numbers are first none is =
    let row : PrintedRow → Row = λ p. p.row in
    let cycle : Row → List ℕ = λ r. r.cycle in
    let differs : List ℕ → Type 0 = λ c. c ≢ numbers in
    let all = All-map differs cycle (map row rows) (All-map (λ r. differs (cycle r)) row rows none) in
    All-contains differs (map cycle (map row rows)) numbers all ((are.exact.cycles.exact numbers).1 (is, first)) refl

pub first_is : (xs : List ℕ) → 2 ≤ length xs → slice_get xs 0 ≡ Some (get_or xs 0 0)
first_is [] l = absurd (omega (arith, l))
first_is (x ∷ xs) l = refl

-- The row has the dependencies of its numbers.
pub named_at : (s : Trace) (bound task : ℕ) (rows : List PrintedRow) (i : ℕ) (row : PrintedRow) → slice_get rows i ≡ Some row → AreRowsOf s bound task rows → row ≡ with_dependencies (dependencies s) row.row
named_at s bound task rows i row at are =
    subst (λ (p : PrintedRow). p ≡ with_dependencies (dependencies s) p.row) (get_or_from_slice_get rows i row row at) (are.named i row (slice_get_within rows i row at))

-- ---- all tasks

-- The rows of a task with tasks before and after it.
pub rows_amid : (s : Trace) (tasks : List (Vec Row)) (task : Vec Row) (others : List (Vec Row)) →
    printed_rows s (all_rows (tasks ++ task ∷ others)) ≡ (printed_rows s (all_rows tasks) ++ printed_rows s task.items) ++ printed_rows s (all_rows others)
rows_amid s tasks task others =
    let printed : Row → PrintedRow = with_dependencies (dependencies s) in
    let items : Vec Row → List Row = λ t. t.items in
    let id : List Row → List Row = λ rows. rows in
    ap (λ (l : List (List Row)). map printed (flat_map id l)) (map-append items tasks (task ∷ others))
    ∙ ap (map printed) (flat_map-append id (rows_by_task tasks) (task.items ∷ rows_by_task others))
    ∙ map-append printed (all_rows tasks) (flat_map id (task.items ∷ rows_by_task others))
    ∙ ap (λ (l : List Row). printed_rows s (all_rows tasks) ++ map printed l) (flat_map-cons id task.items (rows_by_task others))
    ∙ ap (λ (l : List PrintedRow). printed_rows s (all_rows tasks) ++ l) (map-append printed task.items (all_rows others))
    ∙ sym (append_assoc (printed_rows s (all_rows tasks)) (printed_rows s task.items) (printed_rows s (all_rows others)))

pub rows_added : (s : Trace) (tasks : List (Vec Row)) (task : Vec Row) → printed_rows s (all_rows (tasks ++ task ∷ [])) ≡ printed_rows s (all_rows tasks) ++ printed_rows s task.items
rows_added s tasks task = rows_amid s tasks task [] ∙ append-nil (printed_rows s (all_rows tasks) ++ printed_rows s task.items)

-- The rows of a task, and of all tasks, are exact, with numbers of dependencies.
pub known_rows : (s : Trace) (bound task : ℕ) (rows : List Row) → AreRows s bound task rows → All (IsKnownRow s) rows
known_rows s bound task rows are i d within =
    let cycle : Row → List ℕ = λ r. r.cycle in
    let row = get_or rows i d in
    let listed : Contains (map cycle rows) row.cycle =
    subst (λ c. Contains (map cycle rows) c) (get_or-map cycle rows i d) (Contains-get_or (map cycle rows) i d.cycle (subst (λ n. i < n) (sym (length-map rows cycle)) within)) in
    record { exact = are.exact i d within; known = ((are.cycles.exact row.cycle).0 listed).0.known }

pub known_tasks : (s : Trace) (bound : ℕ) (tasks : List (Vec Row)) → AreTasks s bound (rows_by_task tasks) → All (λ task. All (IsKnownRow s) task.items) tasks
known_tasks s bound tasks are k d within =
    let items : Vec Row → List Row = λ t. t.items in
    let (task, at, more) = at_index tasks k within in
    let there = slice_get-map items tasks k ∙ ap (option_map items) at in
    subst (λ (t : Vec Row). All (IsKnownRow s) t.items) (sym (get_or_from_slice_get tasks k task d at)) (known_rows s bound k task.items (are.each k task.items there))

-- The rows with refutations, with the dependencies of their members.
abbrev pub shown_rows : Trace → List RefutedRow → List PrintedRow
shown_rows s refuted = printed_rows s (bare_rows refuted)

pub shown_append : (s : Trace) (some others : List RefutedRow) → shown_rows s (some ++ others) ≡ shown_rows s some ++ shown_rows s others
shown_append s some others =
    ap (printed_rows s) (map-append (λ (r : RefutedRow). r.row) some others) ∙ map-append (with_dependencies (dependencies s)) (bare_rows some) (bare_rows others)

-- The first elements of a list are first ones of a longer list.
first_of_more : {X : Type 0} (n : ℕ) (xs ys : List X) → (m : ℕ) × (take m (xs ++ ys) ≡ take n xs)
first_of_more zero xs ys = (0, refl)
first_of_more (suc n) [] ys = (0, refl)
first_of_more (suc n) (x ∷ xs) ys = let (m, e) = first_of_more n xs ys in (suc m, ap (λ l. x ∷ l) e)

-- The texts of some rows, and then of the first of others, are those of the first of all.
pub some_more : (s : Trace) (rows others rest : List PrintedRow) (text more : List ℕ) → Explains s rows text → ExplainsSome s others more → ExplainsSome s ((rows ++ others) ++ rest) (text ++ more)
some_more s rows others rest text more is (n, also) =
    let (m, e) = first_of_more n others rest in
    let same : take (length rows + m) ((rows ++ others) ++ rest) ≡ rows ++ take n others =
    ap (take (length rows + m)) (append_assoc rows others rest) ∙ take-append-add rows (others ++ rest) m ∙ ap (λ l. rows ++ l) e in
    (length rows + m, subst (λ l. Explains s l (text ++ more)) (sym same) (explains_more s rows (take n others) text more is also))

-- The texts of some rows are those of the first of all.
pub some_all : (s : Trace) (rows rest : List PrintedRow) (text : List ℕ) → Explains s rows text → ExplainsSome s (rows ++ rest) text
some_all s rows rest text is =
    let (m, e) = first_of_more (length rows) rows rest in
    (m, subst (λ l. Explains s l text) (sym (e ∙ take_whole rows)) is)
  where
    take_whole : (xs : List PrintedRow) → take (length xs) xs ≡ xs
    take_whole [] = refl
    take_whole (x ∷ xs) = ap (λ l. x ∷ l) (take_whole xs)
