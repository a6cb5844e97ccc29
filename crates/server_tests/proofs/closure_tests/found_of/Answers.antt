use Rattle.std.proofs.Common.{◌<◌, length, sym, subst}
use Rattle.std.specs.List.{Contains}
use Rattle.server_tests.proofs.closure_tests.found_of.Goals as goal

pub found_from-requires-clause-known : goal.found_from-requires-clause-known
found_from-requires-clause-known c = λ m h.
    subst (λ ds. m < length ds) c.requires.0
    (c.are_known.ensures c.if-are_known.true m (subst (λ xs. Contains xs m) (sym c.numbers.ensures.value) h))
