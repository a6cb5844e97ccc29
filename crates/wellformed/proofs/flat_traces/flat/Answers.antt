use Rattle.std.proofs.Common.{sym, ◌∙◌, arith, refl}
use Rattle.std.proofs.lemmas.Bool.{false≢true}
use Rattle.std.proofs.lemmas.Option.{slice_get-get_or}
use Rattle.wellformed.proofs.Taken.{not_flat, flat_more, flat_whole}
use Rattle.wellformed.proofs.Former.Rows.{agrees}
use Rattle.wellformed.proofs.flat_traces.flat.Goals as goal

pub returns-then-acquires_taken-clause-exact : goal.returns-then-acquires_taken-clause-exact
returns-then-acquires_taken-clause-exact c =
    let s = c.args.events.now in
    let p = c.loop-place.place in
    let at = slice_get-get_or s p _ c.loop-place-test.true in
    let taken = sym c.acquires_taken.ensures ∙ c.if-acquires_taken.true in
    ((λ h. absurd (false≢true h)), λ whole. absurd (not_flat s c.requires p c.loop-place.invariant _ _ at taken whole))

pub loop-place-preserved : goal.loop-place-preserved
loop-place-preserved c =
    let s = c.args.events.now in
    let p = c.loop-place.place in
    let at = slice_get-get_or s p _ c.loop-place-test.true in
    let free = sym c.acquires_taken.ensures ∙ c.if-acquires_taken.false in
    λ q t l below. flat_more s c.requires p c.loop-place.invariant _ at free q t l (omega arith)

pub returns-clause-exact : goal.returns-clause-exact
returns-clause-exact c =
    let s = c.args.events.now in
    let whole = flat_whole s (λ p t l below. c.loop-place.invariant p t l (omega (arith, c.loop-place-test.false))) in
    ((λ h. whole), λ h. refl)

pub returns-clause-former : goal.returns-clause-former
returns-clause-former c h = agrees c.args.events.now c.requires ((returns-clause-exact c).0 h)
