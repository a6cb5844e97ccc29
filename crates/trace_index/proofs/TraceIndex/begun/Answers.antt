use Rattle.std.proofs.Common.{ap, ◌∙◌}
use Rattle.trace_model.specs.Theory.Held.{begun_lock}
use Rattle.trace_index.proofs.Shown.{begun_found, begun_none}
use Rattle.trace_index.proofs.TraceIndex.begun.Goals as goal

pub returns-in-Some : goal.returns-in-Some
returns-in-Some c =
    c.begun_in.ensures ∙ begun_found c.self.inside.parts.rows.0 c.get.result c.args.place c.in-Some.row c.self.invariant.index.shown.depths_are c.get.ensures c.in-Some.ensures
    ∙ ap (λ v. begun_lock v.events c.args.place) c.self.view_is

pub returns-in-None : goal.returns-in-None
returns-in-None c = begun_none c.self.inside.parts.rows.0 c.get.result c.args.place c.get.ensures c.in-None.ensures ∙ ap (λ v. begun_lock v.events c.args.place) c.self.view_is
