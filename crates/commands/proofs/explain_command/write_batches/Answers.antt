use Rattle.std.proofs.Common.{◌≡◌, List, [], ◌∷◌, ◌++◌, sym, ap, subst, ◌∙◌, append_assoc, arith}
use Rattle.std.specs.Prelude.{OnErr}
use Rattle.std.specs.Global.{Vec}
use Rattle.std.specs.List.{All}
use Rattle.std.proofs.lemmas.List.{append-nil, nil_from_length}
use Rattle.std.proofs.lemmas.Result.{err_from_is_err_and}
use Rattle.trace_model.specs.Theory.Trace.{Trace}
use Rattle.trace_model.specs.Theory.Rows.{Row}
use Rattle.reports.specs.Printed.{PrintedRow}
use Rattle.findings.proofs.Members.{all_in}
use Rattle.offline_report.specs.Offline.{printed_rows}
use Rattle.commands.specs.Explain.{Explains, ExplainsSome, IsKnownRow, IsRefutedRow, all_rows, bare_rows}
use Rattle.commands.specs.Output.{IsCutShort, Writes}
use Rattle.commands.proofs.ExplainedTexts.{explains_more, explains_none, rows_added, rows_amid, some_all, some_more}
use Rattle.commands.proofs.Outputs.{appends_more, appends_nothing, cut_after, cut_part, part_all}
use Rattle.commands.proofs.explain_command.write_batches.Goals as goal

pub refute_all-requires-after_bounds : goal.refute_all-requires-after_bounds
refute_all-requires-after_bounds g c κs bounds =
    let P : Vec Row → Type 0 = λ task. All (IsKnownRow c.args.refuter.now) task.items in
    let is = sym c.loop-rows.invariant.rest ∙ ap (λ xs. c.loop-rows.yielded ++ xs) c.in-Some.ensures.steps.0 in
    all_in P c.loop-rows.yielded c.in-Some.rows c.next.new.self.rest.items (subst (All P) is c.requires)

pub write_rows-requires : goal.write_rows-requires
write_rows-requires g c =
    subst (λ (s : Trace). All (IsRefutedRow s) c.in_ok-refuted.refuted.items) (sym c.snapshot.ensures) c.in_ok-refuted.ensures.each

pub loop-rows-init : goal.loop-rows-init
loop-rows-init g c = record {
  written = ([], explains_none c.args.refuter.now, appends_nothing (g.O.Write.contents c.args.out.now));
  rest = c.into_iter-rows-iterator.ensures.into_iter_gives.0;
}

pub loop-rows-preserved : goal.loop-rows-preserved
loop-rows-preserved g c =
    let v = c.loop-rows.invariant in
    let s = c.args.refuter.now in
    let tasks = c.loop-rows.yielded in
    let task = c.in-Some.rows in
    let before = g.O.Write.contents c.args.out.now in
    let mid = g.O.Write.contents c.loop-rows.out in
    let after = g.O.Write.contents c.write_rows.new.out in
    let (text, is, grew) = v.written in
    let (own, found, grown) = c.in_ok-write_rows.ensures.written in
    let also : Explains s (printed_rows s task.items) own =
    subst (λ (rows : List Row). Explains s (printed_rows s rows) own) c.in_ok-refuted.ensures.plain
    (subst (λ (e : Trace). Explains e (printed_rows e (bare_rows c.in_ok-refuted.refuted.items)) own) c.snapshot.ensures found) in
    record {
      written = (
        text ++ own,
        subst (λ (l : List PrintedRow). Explains s l (text ++ own)) (sym (rows_added s tasks task)) (explains_more s (printed_rows s (all_rows tasks)) (printed_rows s task.items) text own is also),
        appends_more before mid after text own grew grown,
      );
      rest = append_assoc tasks (task ∷ []) c.next.new.self.rest.items
          ∙ ap (λ xs. tasks ++ xs) (sym c.in-Some.ensures.steps.0) ∙ v.rest;
    }

pub returns-in_err-write_rows-clause-cut : goal.returns-in_err-write_rows-clause-cut
returns-in_err-write_rows-clause-cut g c =
    let v = c.loop-rows.invariant in
    let s = c.args.refuter.now in
    let tasks = c.loop-rows.yielded in
    let task = c.in-Some.rows in
    let before = g.O.Write.contents c.args.out.now in
    let mid = g.O.Write.contents c.loop-rows.out in
    let after = g.O.Write.contents c.write_rows.new.out in
    let others = c.next.new.self.rest.items in
    let all = printed_rows s (all_rows c.args.batches.items) in
    let first = printed_rows s (all_rows tasks) in
    let mine = printed_rows s task.items in
    let rest = printed_rows s (all_rows others) in
    let is = sym v.rest ∙ ap (λ xs. tasks ++ xs) c.in-Some.ensures.steps.0 in
    let whole : all ≡ (first ++ mine) ++ rest = ap (λ (xs : List (Vec Row)). printed_rows s (all_rows xs)) is ∙ rows_amid s tasks task others in
    let begins : all ≡ first ++ (mine ++ rest) = whole ∙ append_assoc first mine rest in
    let (text, explains, grew) = v.written in
    let p = err_from_is_err_and c.from_residual-in_err-write_rows.result c.from_residual-in_err-write_rows.ensures.1 in
    let cut = cut_after before mid after (ExplainsSome s mine) (ExplainsSome s all) text grew
    (subst (λ (l : List PrintedRow). ExplainsSome s l text) (sym begins) (some_all s first (mine ++ rest) text explains))
    (λ y some. subst (λ (l : List PrintedRow). ExplainsSome s l (text ++ y)) (sym whole) (some_more s first mine rest text y explains some))
    (subst (λ (rows : List Row). IsCutShort mid after (ExplainsSome s (printed_rows s rows))) c.in_ok-refuted.ensures.plain
    (subst (λ (e : Trace). IsCutShort mid after (ExplainsSome e (printed_rows e (bare_rows c.in_ok-refuted.refuted.items)))) c.snapshot.ensures
    c.in_err-write_rows.ensures.cut)) in
    subst (λ r. OnErr r (IsCutShort before after (ExplainsSome s all))) (sym p.1) cut

pub returns-in_err-refuted-clause-cut : goal.returns-in_err-refuted-clause-cut
returns-in_err-refuted-clause-cut g c =
    let v = c.loop-rows.invariant in
    let s = c.args.refuter.now in
    let tasks = c.loop-rows.yielded in
    let before = g.O.Write.contents c.args.out.now in
    let mid = g.O.Write.contents c.loop-rows.out in
    let task = c.in-Some.rows in
    let all = printed_rows s (all_rows c.args.batches.items) in
    let first = printed_rows s (all_rows tasks) in
    let rest = printed_rows s task.items ++ printed_rows s (all_rows c.next.new.self.rest.items) in
    let is = sym v.rest ∙ ap (λ xs. tasks ++ xs) c.in-Some.ensures.steps.0 in
    let whole : all ≡ first ++ rest = ap (λ (xs : List (Vec Row)). printed_rows s (all_rows xs)) is ∙ rows_amid s tasks task c.next.new.self.rest.items
    ∙ append_assoc first (printed_rows s task.items) (printed_rows s (all_rows c.next.new.self.rest.items)) in
    let (text, explains, grew) = v.written in
    let p = err_from_is_err_and c.from_residual.result c.from_residual.ensures.1 in
    let some = subst (λ (l : List PrintedRow). ExplainsSome s l text) (sym whole) (some_all s first rest text explains) in
    let cut = cut_part before mid (ExplainsSome s all) text some (part_all before mid text grew) in
    subst (λ r. OnErr r (IsCutShort before mid (ExplainsSome s all))) (sym p.1) cut

pub returns-clause-written : goal.returns-clause-written
returns-clause-written g c =
    let v = c.loop-rows.invariant in
    let s = c.args.refuter.now in
    let rest = c.loop-rows.rows-iterator.rest in
    let none : rest.items ≡ [] = nil_from_length rest.items (omega (arith, rest.ok, c.in-None.ensures.steps.0)) in
    let all : c.loop-rows.yielded ≡ c.args.batches.items = sym (append-nil c.loop-rows.yielded) ∙ (ap (λ (xs : List (Vec Row)). c.loop-rows.yielded ++ xs) (sym none) ∙ v.rest) in
    subst (λ (xs : List (Vec Row)). Writes (g.O.Write.contents c.args.out.now) (g.O.Write.contents c.loop-rows.out) (Explains s (printed_rows s (all_rows xs)))) all v.written
