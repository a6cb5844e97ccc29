use Rattle.std.proofs.Common.{◌≡◌, ◌∙◌, ℕ, List, Err, Some, get_or, slice_get, sym, ap, subst, inl, inr}
use Rattle.std.specs.Arc.{arc_value}
use Rattle.std.proofs.lemmas.Result.{err_from_is_err_and}
use Rattle.trace_model.specs.Theory.Trace.{Trace}
use Rattle.trace_model.specs.Theory.Cycles.{IsCycle}
use Rattle.trace_model.specs.Theory.Dependencies.{dependencies}
use Rattle.findings.specs.Analyses.{AnalysisView}
use Rattle.findings.specs.Found.{AskedQuestion}
use Rattle.commands.specs.Exit.{error_status}
use Rattle.commands.specs.Explain.{ExplainsCycle, HasTooManyCycles, IsTooMany, PrintsOneOf, RefusesCycle, no_cycle_line}
use Rattle.commands.specs.Output.{IsJust}
use Rattle.commands.specs.declared.exit.Status.{Status}
use Rattle.commands.specs.declared.exit.Status.TheVariants.{Done, Refused}
use Rattle.commands.proofs.ExplainedTexts.{at_index, cycle_at, first_is, named_at, no_such_cycle, row_at}
use Rattle.commands.proofs.Outputs.{cut_none, ends_as_weaker, ends_output, just_is}
use Rattle.commands.proofs.explain_command.write_one.Goals as goal

pub returns-in-Err : goal.returns-in-Err
returns-in-Err g c =
    let a = arc_value c.args.analysis in
    let numbers = c.args.cycle.now in
    let prints = PrintsOneOf a.events a.bound numbers in
    let task = get_or c.numbers.result.now 0 0 in
    let first : slice_get numbers 0 ≡ Some task = first_is numbers c.numbers.ensures.low ∙ ap Some (sym (ap (λ (n : List ℕ). get_or n 0 0) c.numbers.ensures.value)) in
    ends_as_weaker (IsTooMany c.in-Err.refused) prints _ _ c.write_uncomputed.result (g.O.Write.contents c.args.out.now) (g.O.Write.contents c.write_uncomputed.new.out)
    (λ s x many.
    let more = c.compute.ensures.too_many (c.in-Err.is ∙ ap Err many.0) in
    let too = subst (λ (q : AskedQuestion). HasTooManyCycles q.events q.bound task) c.new.ensures more in
    let right : RefusesCycle a.events a.bound numbers x = inr (task, first, too, many.2) in
    subst (λ (t : Status). prints t x) (sym many.1) right) (λ none. none) c.write_uncomputed.ensures

pub returns-in_err-text-in-Some : goal.returns-in_err-text-in-Some
returns-in_err-text-in-Some g c =
    let a = arc_value c.args.analysis in
    let before = g.O.Write.contents c.args.out.now in
    let prints = PrintsOneOf a.events a.bound c.args.cycle.now in
    let p = err_from_is_err_and c.from_residual.result c.from_residual.ensures.1 in
    ends_output prints _ _ p.0 before before p.1 (ap error_status p.2) (cut_none before (λ (x : List ℕ). (status : Status) × prints status x))

pub returns-in-Some : goal.returns-in-Some
returns-in-Some g c =
    let f = c.in-Ok.finding in
    let a = arc_value c.args.analysis in
    let i = c.in-Some.index in
    let numbers = c.args.cycle.now in
    let asked = c.in-Ok.ensures.asked in
    let events = asked.3 ∙ ap (λ (q : AskedQuestion). q.events) c.new.ensures in
    let bound = asked.1 ∙ ap (λ (q : AskedQuestion). q.bound) c.new.ensures in
    let (row, at, more) = at_index f.rows i c.in-Some.ensures.within in
    let exact = c.index_of.ensures.exact in
    let cycle = c.in-Some.ensures.found row at in
    let is = subst (λ (b : ℕ). IsCycle (dependencies f.events) b numbers) bound (subst (λ (n : List ℕ). IsCycle (dependencies f.events) f.bound n) cycle (cycle_at f.events f.bound f.task f.rows i row at exact)) in
    let text = c.in_ok-text-in-Some.text.items in
    let right : ExplainsCycle f.events a.bound numbers text = (row, cycle, is, row_at f.events f.bound f.task f.rows i row at exact, named_at f.events f.bound f.task f.rows i row at exact, c.in_ok-text-in-Some.ensures row at) in
    let shown = c.deref-in-Some.result.now in
    let outcome : PrintsOneOf a.events a.bound numbers Done shown = subst (λ (t : List ℕ). ExplainsCycle a.events a.bound numbers t) (sym c.deref-in-Some.ensures.value) (subst (λ (s : Trace). ExplainsCycle s a.bound numbers text) events right) in
    ends_as_weaker (IsJust Done shown) (PrintsOneOf a.events a.bound numbers) _ _ c.write_text.result (g.O.Write.contents c.args.out.now) (g.O.Write.contents c.write_text.new.out)
    (just_is (PrintsOneOf a.events a.bound numbers) Done shown outcome) (λ none. none) c.write_text.ensures

pub returns-in_err-line-in-None : goal.returns-in_err-line-in-None
returns-in_err-line-in-None g c =
    let a = arc_value c.args.analysis in
    let before = g.O.Write.contents c.args.out.now in
    let prints = PrintsOneOf a.events a.bound c.args.cycle.now in
    let p = err_from_is_err_and c.from_residual-in_err-line-in-None.result c.from_residual-in_err-line-in-None.ensures.1 in
    ends_output prints _ _ p.0 before before p.1 (ap error_status p.2) (cut_none before (λ (x : List ℕ). (status : Status) × prints status x))

pub returns : goal.returns
returns g c =
    let f = c.in-Ok.finding in
    let a = arc_value c.args.analysis in
    let numbers = c.args.cycle.now in
    let asked = c.in-Ok.ensures.asked in
    let events = asked.3 ∙ ap (λ (q : AskedQuestion). q.events) c.new.ensures in
    let bound = asked.1 ∙ ap (λ (q : AskedQuestion). q.bound) c.new.ensures in
    let first : slice_get numbers 0 ≡ Some f.task = first_is numbers c.numbers.ensures.low ∙ ap Some (sym (asked.2 ∙ ap (λ (n : List ℕ). get_or n 0 0) c.numbers.ensures.value)) in
    let none = no_such_cycle f.events f.bound f.task f.rows numbers c.index_of.ensures.exact first (c.index_of.ensures.none c.in-None.is) in
    let shown = c.deref-in-None.result.now in
    let line = c.deref-in-None.ensures.value ∙ c.in_ok-line-in-None.ensures ∙ ap (no_cycle_line numbers) (c.bound-bound.ensures ∙ ap (λ (b : AnalysisView). b.bound) c.deref.ensures) in
    let outcome : PrintsOneOf a.events a.bound numbers Refused shown = inl (
      λ is. none (subst (λ (s : Trace). IsCycle (dependencies s) f.bound numbers) (sym events) (subst (λ (b : ℕ). IsCycle (dependencies a.events) b numbers) (sym bound) is)),
      line,
    ) in
    ends_as_weaker (IsJust Refused shown) (PrintsOneOf a.events a.bound numbers) _ _ c.write_text-in-None.result (g.O.Write.contents c.args.out.now) (g.O.Write.contents c.write_text-in-None.new.out)
    (just_is (PrintsOneOf a.events a.bound numbers) Refused shown outcome) (λ none. none) c.write_text-in-None.ensures
