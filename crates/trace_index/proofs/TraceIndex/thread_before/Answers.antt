use Rattle.std.proofs.Common.{ap, ◌∙◌}
use Rattle.trace_index.specs.Numbers.{thread_before}
use Rattle.trace_index.proofs.Shown.{before_found, before_none}
use Rattle.trace_index.proofs.TraceIndex.thread_before.Goals as goal

pub returns-in-Some : goal.returns-in-Some
returns-in-Some c =
    c.place_of.ensures ∙ before_found c.self.inside.parts.rows.0 c.get.result c.args.place c.in-Some.row c.self.invariant.index.shown.rows_are c.get.ensures c.in-Some.ensures
    ∙ ap (λ v. thread_before v.events c.args.place) c.self.view_is

pub returns-in-None : goal.returns-in-None
returns-in-None c = before_none c.self.inside.parts.rows.0 c.get.result c.args.place c.get.ensures c.in-None.ensures ∙ ap (λ v. thread_before v.events c.args.place) c.self.view_is
