-- The rows of tasks, in batches.
use Rattle.std.proofs.Common.{◌≡◌, List, [], ◌∷◌, ◌++◌, sym, ap, subst, ◌∙◌}
use Rattle.std.specs.Global.{Vec}
use Rattle.std.specs.List.{All, flat_map}
use Rattle.std.proofs.lemmas.List.Elements.{All-append, All-cons, All-head, All-nil, All-tail}
use Rattle.std.proofs.lemmas.List.{append-nil, map-append}
use Rattle.std.proofs.lemmas.List.Concat.{flat_map-append, flat_map-cons}
use Rattle.trace_model.specs.Theory.Trace.{Trace}
use Rattle.trace_model.specs.Theory.Rows.{Row}
use Rattle.offline_report.specs.Offline.{rows_by_task}
use Rattle.commands.specs.Explain.{IsKnownRow, all_rows}

pub all_rows-push : (tasks : List (Vec Row)) (task : Vec Row) → all_rows (tasks ++ task ∷ []) ≡ all_rows tasks ++ task.items
all_rows-push tasks task =
    let items : Vec Row → List Row = λ t. t.items in
    let id : List Row → List Row = λ rows. rows in
    ap (flat_map id) (map-append items tasks (task ∷ []))
    ∙ flat_map-append id (rows_by_task tasks) (task.items ∷ [])
    ∙ ap (λ l. all_rows tasks ++ l) (flat_map-cons id task.items [] ∙ append-nil task.items)

-- The rows of the batches, and of the batch that is not full.
abbrev pub rows_so_far : List (Vec Row) → Vec Row → List Row
rows_so_far batches batch = all_rows batches ++ batch.items

both : (P : Row → Type 0) (xs ys : List Row) → All P (xs ++ ys) → All P xs × All P ys
both P [] ys h = (All-nil P, h)
both P (x ∷ xs) ys h =
    let rest = both P xs ys (All-tail P x (xs ++ ys) h) in
    (All-cons P x xs (All-head P x (xs ++ ys) h) rest.0, rest.1)

all_in_all : (P : Row → Type 0) (tasks : List (Vec Row)) → All (λ t. All P t.items) tasks → All P (all_rows tasks)
all_in_all P [] each = All-nil P
all_in_all P (t ∷ ts) each =
    subst (All P) (sym (flat_map-cons (λ (rows : List Row). rows) t.items (rows_by_task ts)))
    (All-append P t.items (all_rows ts) (All-head (λ (t : Vec Row). All P t.items) t ts each) (all_in_all P ts (All-tail (λ (t : Vec Row). All P t.items) t ts each)))

all_in_each : (P : Row → Type 0) (tasks : List (Vec Row)) → All P (all_rows tasks) → All (λ t. All P t.items) tasks
all_in_each P [] all = All-nil (λ t. All P t.items)
all_in_each P (t ∷ ts) all =
    let parts = both P t.items (all_rows ts) (subst (All P) (flat_map-cons (λ (rows : List Row). rows) t.items (rows_by_task ts)) all) in
    All-cons (λ (t : Vec Row). All P t.items) t ts parts.0 (all_in_each P ts parts.1)

-- What the rows of the tasks have, those of the batches have.
pub known_batches : (s : Trace) (tasks batches : List (Vec Row)) → all_rows batches ≡ all_rows tasks → All (λ t. All (IsKnownRow s) t.items) tasks → All (λ t. All (IsKnownRow s) t.items) batches
known_batches s tasks batches same known = all_in_each (IsKnownRow s) batches (subst (All (IsKnownRow s)) (sym same) (all_in_all (IsKnownRow s) tasks known))
