use Rattle.std.proofs.Common.{ap, ◌∙◌}
use Rattle.trace_index.specs.Numbers.{acquire_before}
use Rattle.trace_index.proofs.Shown.{taken_found, taken_none}
use Rattle.trace_index.proofs.TraceIndex.acquire_before.Goals as goal

pub returns-in-Some : goal.returns-in-Some
returns-in-Some c =
    c.taken_in.ensures ∙ taken_found c.self.inside.parts.rows.0 c.get.result c.args.place c.in-Some.row c.self.invariant.index.shown.rows_are c.self.invariant.index.shown.depths_are c.get.ensures c.in-Some.ensures
    ∙ ap (λ v. acquire_before v.events c.args.place) c.self.view_is

pub returns-in-None : goal.returns-in-None
returns-in-None c = taken_none c.self.inside.parts.rows.0 c.get.result c.args.place c.get.ensures c.in-None.ensures ∙ ap (λ v. acquire_before v.events c.args.place) c.self.view_is
