use Rattle.std.proofs.Common.{ℕ, ◌<◌, length, sym, subst, ◌∙◌}
use Rattle.std.specs.List.{Contains}
use Rattle.trace_model.specs.Theory.Trace.{Trace}
use Rattle.trace_model.specs.Theory.Cycles.{IsConfirmed}
use Rattle.trace_model.specs.Theory.Dependencies.{dependencies}
use Rattle.dependencies.specs.Tables.{HasDependenciesOf}
use Rattle.commands.proofs.refuting.Refuter.refute.Goals as goal

pub refutation_of-requires-clause-one_trace : goal.refutation_of-requires-clause-one_trace
refutation_of-requires-clause-one_trace c =
    subst (λ (e : Trace). HasDependenciesOf c.table-table.result.now e (length e)) (sym c.index-index.ensures) c.table-table.ensures

pub refutation_of-requires-clause-known : goal.refutation_of-requires-clause-known
refutation_of-requires-clause-known c =
    subst (λ (e : Trace). (m : ℕ) → Contains c.args.cycle.now m → m < length (dependencies e)) (sym (c.index-index.ensures ∙ c.self.view_is)) c.requires.known

pub unreachable-requires : goal.unreachable-requires
unreachable-requires c =
    let inside : IsConfirmed c.index-index.result.now.events c.args.cycle.now = rw c.in-None.is at c.in_ok-refutation.ensures in
    c.requires.not_confirmed (subst (λ (e : Trace). IsConfirmed e c.args.cycle.now) (c.index-index.ensures ∙ c.self.view_is) inside)
