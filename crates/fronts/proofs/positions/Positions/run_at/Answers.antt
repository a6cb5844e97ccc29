use Rattle.std.proofs.Common.{◌≡◌, ◌+◌, length, slice_get, Some, None, sym, subst, arith}
use Rattle.std.proofs.lemmas.Option.{slice_get_read, slice_get_within}
use Rattle.fronts.specs.Runs.{IsThreadRun}
use Rattle.fronts.proofs.FrontLemmas.{lent, not_lent}
use Rattle.fronts.proofs.positions.Positions.run_at.Goals as goal

pub returns-in-Some : goal.returns-in-Some
returns-in-Some c =
    let xs = c.self.inside.prefixes.items in
    let lengths = c.self.inside.lengths.items in
    let p = c.get-index.result in
    let n = c.index.result.now in
    let prefix = c.in-Some.prefix in
    let at : slice_get xs p ≡ Some prefix.now = subst (λ ys. slice_get ys p ≡ Some prefix.now) c.deref.ensures.value (lent c.deref.result.now p prefix c.in-Some.ensures.lookup) in
    let at_length : slice_get lengths p ≡ Some n = slice_get_read lengths (length xs) p n (sym c.self.invariant.all) (slice_get_within xs p prefix.now at) c.index.ensures in
    let end : p + n ≡ c.get-in-Some.result + n = omega (arith, c.get-index.ensures, c.get-in-Some.ensures) in
    let run : IsThreadRun xs p (p + n) = c.self.invariant.each p n at_length in (
      subst (λ q. slice_get c.args.self.now q ≡ Some prefix.now) c.get-index.ensures (subst (λ ys. slice_get ys p ≡ Some prefix.now) c.self.view_is at),
      subst (λ q. IsThreadRun c.args.self.now q (c.get-in-Some.result + n)) c.get-index.ensures
          (subst (IsThreadRun c.args.self.now p) end (subst (λ ys. IsThreadRun ys p (p + n)) c.self.view_is run)),
    )

pub returns-in-None : goal.returns-in-None
returns-in-None c =
    let xs = c.self.inside.prefixes.items in
    let p = c.get-index.result in
    let none : slice_get xs p ≡ None = subst (λ ys. slice_get ys p ≡ None) c.deref.ensures.value (not_lent c.deref.result.now p c.in-None.ensures.lookup) in
    subst (λ q. slice_get c.args.self.now q ≡ None) c.get-index.ensures (subst (λ ys. slice_get ys p ≡ None) c.self.view_is none)
