use Rattle.std.proofs.Common.{ap, ◌∙◌}
use Rattle.trace_index.specs.Numbers.{number_at}
use Rattle.trace_index.proofs.Shown.{number_found, number_none}
use Rattle.trace_index.proofs.TraceIndex.number.Goals as goal

pub returns-in-Some : goal.returns-in-Some
returns-in-Some c =
    number_found c.self.inside.parts.rows.0 c.get.result c.args.place c.in-Some.row c.self.invariant.index.shown.rows_are c.get.ensures c.in-Some.ensures
    ∙ ap (λ v. number_at v.events c.args.place) c.self.view_is

pub returns-in-None : goal.returns-in-None
returns-in-None c = number_none c.self.inside.parts.rows.0 c.get.result c.args.place c.get.ensures c.in-None.ensures ∙ ap (λ v. number_at v.events c.args.place) c.self.view_is
