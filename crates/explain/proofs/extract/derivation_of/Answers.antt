use Rattle.std.proofs.Common.{sym, subst, arith}
use Rattle.explain.specs.Needed.{IsNeeded, AreClosed}
use Rattle.explain.proofs.extract.derivation_of.Goals as goal

pub returns : goal.returns
returns c s places is d =
    let x = c.args.search.now in
    let v = c.as_slice.ensures.value in
    let (j, here, mark) = c.mark.ensures.marked is.indices d (omega (arith, c.in_ok-needed.ensures.len, c.in_ok-needed.needed.ok, c.len.ensures, x.entries.ok)) in
    let needed = subst (λ xs. IsNeeded xs j) (sym v) (c.mark_all.ensures.kept j mark) in
    c.in_ok-add_marked.ensures s places is (subst (λ xs. AreClosed x xs 0) (sym v) (c.mark_all.ensures.closed s places is)) j needed here
