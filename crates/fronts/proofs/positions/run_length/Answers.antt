use Rattle.std.proofs.Common.{◌≡◌, ◌+◌, slice_get, Some, refl, get_or, subst, arith}
use Rattle.std.proofs.lemmas.Option.{slice_get-get_or, slice_get_within}
use Rattle.fronts.specs.Runs.{IsThreadRun}
use Rattle.fronts.proofs.FrontLemmas.{lent}
use Rattle.fronts.proofs.PositionLemmas.{run_with}
use Rattle.fronts.proofs.positions.run_length.Goals as goal

pub returns-in-Some : goal.returns-in-Some
returns-in-Some c =
    let xs = c.args.prefixes.now in
    let p = c.args.place in
    let next = c.in-Some.next in
    let at_next : slice_get xs (p + 1) ≡ Some next.now = lent xs (p + 1) next c.in-Some.ensures.lookup in
    let at = slice_get-get_or xs p (record { slot = 0; count = 0 }) c.requires.within in
    let later : IsThreadRun xs (p + 1) (p + 1 + c.args.later) = c.requires.later (slice_get_within xs (p + 1) next.now at_next) in
    let same : p + 1 + c.args.later ≡ p + (c.args.later + 1) = omega arith in
    subst (IsThreadRun xs p) same
    (run_with xs p (p + 1 + c.args.later) (get_or xs p (record { slot = 0; count = 0 })) next.now at at_next (c.if-is_next.ensures refl) later)
