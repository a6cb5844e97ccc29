use Rattle.std.proofs.Common.{ap, slice_get, sym, subst, ◌∙◌}
use Rattle.trace_model.specs.Theory.Trace.{Trace}
use Rattle.trace_index.specs.Facts.{ArePlaceFacts}
use Rattle.trace_index.proofs.Shown.{facts_found, event_none}
use Rattle.trace_index.proofs.TraceIndex.facts.Goals as goal

pub returns-in-Some : goal.returns-in-Some
returns-in-Some c =
    let shown = c.self.invariant.index.shown in
    subst (λ (s : Trace). ArePlaceFacts s c.args.place c.facts_in.result) (ap (λ v. v.events) c.self.view_is)
    (facts_found c.self.inside.parts.rows.0 c.get.result c.args.place c.in-Some.row c.facts_in.result shown.rows_are shown.depths_are c.get.ensures c.in-Some.ensures c.facts_in.ensures)

pub returns-in-None : goal.returns-in-None
returns-in-None c = sym (event_none c.self.inside.parts.rows.0 c.get.result c.args.place c.get.ensures c.in-None.ensures ∙ ap (λ v. slice_get v.events c.args.place) c.self.view_is)
