use Rattle.std.proofs.Common.{length, sym, subst}
use Rattle.trace_model.specs.Theory.Trace.{Trace}
use Rattle.dependencies.specs.Tables.{HasDependenciesOf}
use Rattle.server_tests.proofs.closure_tests.found_over.Goals as goal

pub found_of-found-requires : goal.found_of-found-requires
found_of-found-requires c = subst (λ (s : Trace). HasDependenciesOf c.args.table.now s (length s)) (sym c.in-Ok.ensures) c.requires.one_trace
