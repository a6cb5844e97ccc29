use Rattle.std.proofs.Common.{◌↔◌, IsTrue, subst}
use Rattle.dependencies.specs.Tables.{table_dependencies}
use Rattle.guards.specs.Compatible.{IsCompatible}
use Rattle.cycle_search.proofs.search.fits.Goals as goal

pub returns : goal.returns
returns c =
    subst (λ z. IsTrue c.compatible.result ↔ IsCompatible z c.args.path.now.items c.args.next) c.search_input.view_is
    (subst (λ z. IsTrue c.compatible.result ↔ IsCompatible (table_dependencies c.search_input.inside.table.now) z c.args.next) c.as_slice.ensures.value c.compatible.ensures)
