use Rattle.std.proofs.Common.{◌≡◌, List, ℕ, [], ◌∷◌, ◌++◌, refl, sym, ap, subst, ◌∙◌, append_assoc, arith}
use Rattle.std.specs.Global.{Vec}
use Rattle.std.specs.Io.KnownBytes.{Appends}
use Rattle.std.proofs.lemmas.List.{append-nil, nil_from_length}
use Rattle.std.proofs.lemmas.Result.{err_from_is_err_and}
use Rattle.trace_model.specs.Theory.Rows.{Row}
use Rattle.offline_report.specs.Offline.{rows_text, tasks_rows_text}
use Rattle.offline_report.proofs.Pieces.{task_added, task_amid}
use Rattle.commands.specs.Exit.{error_status}
use Rattle.commands.specs.Output.{AppendsPart, IsJust}
use Rattle.commands.specs.declared.exit.Status.{Status}
use Rattle.commands.specs.declared.exit.Status.TheVariants.{Done}
use Rattle.commands.proofs.Outputs.{appends_more, cut_none, cut_part, ends_output, keeps_after, part_after, part_all, part_more}
use Rattle.commands.proofs.offline_command.write_report.Goals as goal

pub returns-in_err-printer : goal.returns-in_err-printer
returns-in_err-printer g c =
    let before = g.O.Write.contents c.args.out.now in
    let text = c.args.found.first_line.items ++ tasks_rows_text c.args.snapshot.now c.args.found.tasks.items in
    let p = err_from_is_err_and c.from_residual.result c.from_residual.ensures.1 in
    ends_output (IsJust Done text) _ _ p.0 before before p.1 (ap error_status p.2) (cut_none before (λ (x : List ℕ). (status : Status) × IsJust Done text status x))

pub returns-in_err-write_bytes : goal.returns-in_err-write_bytes
returns-in_err-write_bytes g c =
    let before = g.O.Write.contents c.args.out.now in
    let after = g.O.Write.contents c.write_bytes.new.out in
    let first = c.args.found.first_line.items in
    let rest = tasks_rows_text c.args.snapshot.now c.args.found.tasks.items in
    let p = err_from_is_err_and c.from_residual-in_err-write_bytes.result c.from_residual-in_err-write_bytes.ensures.1 in
    let cut = subst (AppendsPart before after) c.deref.ensures.value c.in_err-write_bytes.ensures.cut in
    ends_output (IsJust Done (first ++ rest)) _ _ p.0 before after p.1 (ap error_status p.2 ∙ c.in_err-write_bytes.ensures.failed)
    (cut_part before after _ (first ++ rest) (Done, (refl, refl)) (part_more before after first rest cut))

pub loop-rows-init : goal.loop-rows-init
loop-rows-init g c = record {
  written = subst (Appends (g.O.Write.contents c.args.out.now) (g.O.Write.contents c.write_bytes.new.out)) (c.deref.ensures.value ∙ sym (append-nil c.args.found.first_line.items)) c.in_ok-write_bytes.ensures.written;
  rest = c.into_iter-rows-iterator.ensures.into_iter_gives.0;
}

pub loop-rows-preserved : goal.loop-rows-preserved
loop-rows-preserved g c =
    let v = c.loop-rows.invariant in
    let s = c.args.snapshot.now in
    let tasks = c.loop-rows.yielded in
    let first = c.args.found.first_line.items in
    let own = rows_text s c.in-Some.rows.items in
    let before = g.O.Write.contents c.args.out.now in
    let mid = g.O.Write.contents c.loop-rows.out in
    let after = g.O.Write.contents c.write_rows.new.out in
    let all : (first ++ tasks_rows_text s tasks) ++ own ≡ first ++ tasks_rows_text s (tasks ++ c.in-Some.rows ∷ []) =
    append_assoc first (tasks_rows_text s tasks) own ∙ ap (λ (l : List ℕ). first ++ l) (sym (task_added s tasks c.in-Some.rows)) in
    record {
      written = subst (Appends before after) all (appends_more before mid after (first ++ tasks_rows_text s tasks) own v.written c.in_ok-write_rows.ensures.written);
      rest = append_assoc tasks (c.in-Some.rows ∷ []) c.next.new.self.rest.items
          ∙ ap (λ xs. tasks ++ xs) (sym c.in-Some.ensures.steps.0) ∙ v.rest;
    }

pub returns-in_err-write_rows : goal.returns-in_err-write_rows
returns-in_err-write_rows g c =
    let v = c.loop-rows.invariant in
    let s = c.args.snapshot.now in
    let tasks = c.loop-rows.yielded in
    let first = c.args.found.first_line.items in
    let own = rows_text s c.in-Some.rows.items in
    let before = g.O.Write.contents c.args.out.now in
    let mid = g.O.Write.contents c.loop-rows.out in
    let after = g.O.Write.contents c.write_rows.new.out in
    let others = c.next.new.self.rest.items in
    let text = first ++ tasks_rows_text s c.args.found.tasks.items in
    let is : c.args.found.tasks.items ≡ tasks ++ c.in-Some.rows ∷ others = sym v.rest ∙ ap (λ xs. tasks ++ xs) c.in-Some.ensures.steps.0 in
    let all : ((first ++ tasks_rows_text s tasks) ++ own) ++ tasks_rows_text s others ≡ text =
    append_assoc (first ++ tasks_rows_text s tasks) own (tasks_rows_text s others)
    ∙ append_assoc first (tasks_rows_text s tasks) (own ++ tasks_rows_text s others)
    ∙ ap (λ (l : List ℕ). first ++ l) (sym (append_assoc (tasks_rows_text s tasks) own (tasks_rows_text s others)) ∙ sym (task_amid s tasks c.in-Some.rows others) ∙ ap (tasks_rows_text s) (sym is)) in
    let p = err_from_is_err_and c.from_residual-in_err-write_rows.result c.from_residual-in_err-write_rows.ensures.1 in
    let part = part_after before mid after (first ++ tasks_rows_text s tasks) own v.written c.in_err-write_rows.ensures.cut in
    ends_output (IsJust Done text) _ _ p.0 before after p.1 (ap error_status p.2 ∙ c.in_err-write_rows.ensures.failed)
    (cut_part before after _ text (Done, (refl, refl)) (subst (AppendsPart before after) all (part_more before after ((first ++ tasks_rows_text s tasks) ++ own) (tasks_rows_text s others) part)))

pub returns-in_err-flush : goal.returns-in_err-flush
returns-in_err-flush g c =
    let before = g.O.Write.contents c.args.out.now in
    let mid = g.O.Write.contents c.loop-rows.out in
    let after = g.O.Write.contents c.flush.new.self in
    let v = c.loop-rows.invariant in
    let text = c.args.found.first_line.items ++ tasks_rows_text c.args.snapshot.now c.args.found.tasks.items in
    let rest = c.loop-rows.rows-iterator.rest in
    let none : rest.items ≡ [] = nil_from_length rest.items (omega (arith, rest.ok, c.in-None.ensures.steps.0)) in
    let all : c.loop-rows.yielded ≡ c.args.found.tasks.items = sym (append-nil c.loop-rows.yielded) ∙ (ap (λ (xs : List (Vec Row)). c.loop-rows.yielded ++ xs) (sym none) ∙ v.rest) in
    let written = subst (λ (xs : List (Vec Row)). Appends before mid (c.args.found.first_line.items ++ tasks_rows_text c.args.snapshot.now xs)) all v.written in
    let p = err_from_is_err_and c.from_residual-in_err-flush.result c.from_residual-in_err-flush.ensures.1 in
    ends_output (IsJust Done text) _ _ p.0 before after p.1 (ap error_status p.2)
    (cut_part before after _ text (Done, (refl, refl)) (part_all before after text (keeps_after before mid after text written c.in_err-flush.ensures.bytes)))

pub returns : goal.returns
returns g c =
    let before = g.O.Write.contents c.args.out.now in
    let mid = g.O.Write.contents c.loop-rows.out in
    let after = g.O.Write.contents c.flush.new.self in
    let v = c.loop-rows.invariant in
    let text = c.args.found.first_line.items ++ tasks_rows_text c.args.snapshot.now c.args.found.tasks.items in
    let rest = c.loop-rows.rows-iterator.rest in
    let none : rest.items ≡ [] = nil_from_length rest.items (omega (arith, rest.ok, c.in-None.ensures.steps.0)) in
    let all : c.loop-rows.yielded ≡ c.args.found.tasks.items = sym (append-nil c.loop-rows.yielded) ∙ (ap (λ (xs : List (Vec Row)). c.loop-rows.yielded ++ xs) (sym none) ∙ v.rest) in
    let written = subst (λ (xs : List (Vec Row)). Appends before mid (c.args.found.first_line.items ++ tasks_rows_text c.args.snapshot.now xs)) all v.written in
    (text, (refl, refl), keeps_after before mid after text written c.in_ok-flush.ensures.bytes)
