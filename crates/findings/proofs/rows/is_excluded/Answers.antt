use Rattle.std.proofs.Common.{sym, subst}
use Rattle.trace_model.specs.Theory.Cycles.{IsConfirmed}
use Rattle.dependencies.specs.Tables.{AreDependencyNumbers}
use Rattle.findings.proofs.rows.is_excluded.Goals as goal

pub returns-in-Some : goal.returns-in-Some
returns-in-Some c = λ is s are known confirmed.
    let same = sym c.numbers.ensures.value in
    c.excludes.ensures is s (are c.in-Some.timestamps c.in-Some.is) (subst (AreDependencyNumbers s) same known) (subst (IsConfirmed s) same confirmed)
