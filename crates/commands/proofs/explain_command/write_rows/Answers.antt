use Rattle.std.proofs.Common.{◌≡◌, List, [], ◌∷◌, ◌++◌, sym, ap, subst, ◌∙◌, append_assoc, arith}
use Rattle.std.specs.Prelude.{OnErr}
use Rattle.std.specs.Io.KnownBytes.{Appends}
use Rattle.std.specs.List.{All}
use Rattle.std.proofs.lemmas.List.{append-nil, nil_from_length}
use Rattle.std.proofs.lemmas.Result.{err_from_is_err_and}
use Rattle.reports.specs.Printed.{PrintedRow}
use Rattle.findings.proofs.Members.{all_in}
use Rattle.commands.specs.declared.refuting.RefutedRow.{RefutedRow}
use Rattle.commands.specs.Explain.{Explains, ExplainsSome, IsRefutedRow}
use Rattle.commands.specs.Output.{AppendsPart, IsCutShort, Writes}
use Rattle.commands.proofs.ExplainedTexts.{explains_more, explains_none, explains_one, shown_append, shown_rows, some_all}
use Rattle.commands.proofs.Outputs.{appends_more, appends_nothing, cut_part, part_after, part_all}
use Rattle.commands.proofs.explain_command.write_rows.Goals as goal

pub text_of_row-requires : goal.text_of_row-requires
text_of_row-requires g c =
    let P = IsRefutedRow c.args.snapshot.now in
    let is = sym c.loop-row.invariant.rest ∙ ap (λ xs. c.loop-row.yielded ++ xs) c.in-Some.ensures.steps.0 in
    all_in P c.loop-row.yielded c.in-Some.row c.next.new.self.rest.items (subst (All P) is c.requires)

pub loop-row-init : goal.loop-row-init
loop-row-init g c = record {
  written = ([], explains_none c.args.snapshot.now, appends_nothing (g.O.Write.contents c.args.out.now));
  rest = c.into_iter-row-iterator.ensures.into_iter_gives.0;
}

pub loop-row-preserved : goal.loop-row-preserved
loop-row-preserved g c =
    let v = c.loop-row.invariant in
    let s = c.args.snapshot.now in
    let rows = c.loop-row.yielded in
    let one = c.in-Some.row ∷ [] in
    let before = g.O.Write.contents c.args.out.now in
    let mid = g.O.Write.contents c.loop-row.out in
    let after = g.O.Write.contents c.write_bytes.new.out in
    let own = c.in_ok-text.text.items in
    let (text, is, grew) = v.written in
    let more = explains_more s (shown_rows s rows) (shown_rows s one) text own is (explains_one s _ own c.in_ok-text.ensures) in
    record {
      written = (
        text ++ own,
        subst (λ (l : List PrintedRow). Explains s l (text ++ own)) (sym (shown_append s rows one)) more,
        appends_more before mid after text own grew (subst (Appends mid after) c.deref.ensures.value c.in_ok-write_bytes.ensures.written),
      );
      rest = append_assoc rows one c.next.new.self.rest.items ∙ ap (λ xs. rows ++ xs) (sym c.in-Some.ensures.steps.0) ∙ v.rest;
    }

pub returns-in_err-text-clause-cut : goal.returns-in_err-text-clause-cut
returns-in_err-text-clause-cut g c =
    let v = c.loop-row.invariant in
    let s = c.args.snapshot.now in
    let rows = c.loop-row.yielded in
    let before = g.O.Write.contents c.args.out.now in
    let mid = g.O.Write.contents c.loop-row.out in
    let others = c.in-Some.row ∷ c.next.new.self.rest.items in
    let is = sym v.rest ∙ ap (λ xs. rows ++ xs) c.in-Some.ensures.steps.0 in
    let all : shown_rows s c.args.rows.items ≡ shown_rows s rows ++ shown_rows s others = ap (shown_rows s) is ∙ shown_append s rows others in
    let (text, explains, grew) = v.written in
    let p = err_from_is_err_and c.from_residual.result c.from_residual.ensures.1 in
    let some = subst (λ (l : List PrintedRow). ExplainsSome s l text) (sym all) (some_all s (shown_rows s rows) (shown_rows s others) text explains) in
    let cut = cut_part before mid (ExplainsSome s (shown_rows s c.args.rows.items)) text some (part_all before mid text grew) in
    subst (λ r. OnErr r (IsCutShort before mid (ExplainsSome s (shown_rows s c.args.rows.items)))) (sym p.1) cut

pub returns-in_err-write_bytes-clause-cut : goal.returns-in_err-write_bytes-clause-cut
returns-in_err-write_bytes-clause-cut g c =
    let v = c.loop-row.invariant in
    let s = c.args.snapshot.now in
    let rows = c.loop-row.yielded in
    let before = g.O.Write.contents c.args.out.now in
    let mid = g.O.Write.contents c.loop-row.out in
    let after = g.O.Write.contents c.write_bytes.new.out in
    let others = c.next.new.self.rest.items in
    let own = c.in_ok-text.text.items in
    let is = sym v.rest ∙ ap (λ xs. rows ++ xs) c.in-Some.ensures.steps.0 in
    let one = c.in-Some.row ∷ [] in
    let all : shown_rows s c.args.rows.items ≡ (shown_rows s rows ++ shown_rows s one) ++ shown_rows s others =
    ap (shown_rows s) is ∙ shown_append s rows (c.in-Some.row ∷ others) ∙ sym (append_assoc (shown_rows s rows) (shown_rows s one) (shown_rows s others)) in
    let (text, explains, grew) = v.written in
    let p = err_from_is_err_and c.from_residual-in_err-write_bytes.result c.from_residual-in_err-write_bytes.ensures.1 in
    let more = explains_more s (shown_rows s rows) (shown_rows s one) text own explains (explains_one s _ own c.in_ok-text.ensures) in
    let some = subst (λ (l : List PrintedRow). ExplainsSome s l (text ++ own)) (sym all) (some_all s (shown_rows s rows ++ shown_rows s one) (shown_rows s others) (text ++ own) more) in
    let part = part_after before mid after text own grew (subst (AppendsPart mid after) c.deref.ensures.value c.in_err-write_bytes.ensures.cut) in
    let cut = cut_part before after (ExplainsSome s (shown_rows s c.args.rows.items)) (text ++ own) some part in
    subst (λ r. OnErr r (IsCutShort before after (ExplainsSome s (shown_rows s c.args.rows.items)))) (sym p.1) cut

pub returns-clause-written : goal.returns-clause-written
returns-clause-written g c =
    let v = c.loop-row.invariant in
    let s = c.args.snapshot.now in
    let rest = c.loop-row.row-iterator.rest in
    let none : rest.items ≡ [] = nil_from_length rest.items (omega (arith, rest.ok, c.in-None.ensures.steps.0)) in
    let all : c.loop-row.yielded ≡ c.args.rows.items = sym (append-nil c.loop-row.yielded) ∙ (ap (λ (xs : List RefutedRow). c.loop-row.yielded ++ xs) (sym none) ∙ v.rest) in
    subst (λ (xs : List RefutedRow). Writes (g.O.Write.contents c.args.out.now) (g.O.Write.contents c.loop-row.out) (Explains s (shown_rows s xs))) all v.written
