use Rattle.std.proofs.Common.{slice_get, ap, ◌∙◌}
use Rattle.trace_index.proofs.Shown.{event_found, event_none}
use Rattle.trace_index.proofs.TraceIndex.event.Goals as goal

pub returns-in-Some : goal.returns-in-Some
returns-in-Some c =
    event_found c.self.inside.parts.rows.0 c.get.result c.args.place c.in-Some.row c.get.ensures c.in-Some.ensures ∙ ap (λ v. slice_get v.events c.args.place) c.self.view_is

pub returns-in-None : goal.returns-in-None
returns-in-None c = event_none c.self.inside.parts.rows.0 c.get.result c.args.place c.get.ensures c.in-None.ensures ∙ ap (λ v. slice_get v.events c.args.place) c.self.view_is
