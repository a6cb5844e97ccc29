use Rattle.std.proofs.Common.{◌≡◌, sym, ap, subst, ◌∙◌, ℕ, ◌+◌, ◌<◌, ◌++◌, ◌∷◌, [], List, length, take, get_or}
use Rattle.std.specs.List.Sorted.{IsStrictlyIncreasing}
use Rattle.std.proofs.lemmas.List.{take_all, take_more, map-append}
use Rattle.held_sets.specs.declared.holding.LockDepth.{LockDepth}
use Rattle.held_sets.specs.Tables.{locks_of}
use Rattle.held_sets.proofs.set.HeldSet.of.Goals as goal

whole : (c : goal.After-loop-held) → c.loop-held.locks.items ≡ locks_of c.args.holding.now
whole c = c.loop-held.invariant ∙ ap locks_of (take_all c.loop-held.held-index c.args.holding.now c.loop-held-test.false)

pub invariant_of-result : goal.invariant_of-result
invariant_of-result c = subst IsStrictlyIncreasing (sym (whole c)) c.requires.ascends

pub returns : goal.returns
returns c = whole c

locks_more : (ds : List LockDepth) (i : ℕ) (d : LockDepth) → i < length ds → locks_of (take (i + 1) ds) ≡ locks_of (take i ds) ++ (get_or ds i d).lock ∷ []
locks_more ds i d l = ap locks_of (take_more ds i d l) ∙ map-append (λ (e : LockDepth). e.lock) (take i ds) (get_or ds i d ∷ [])

pub loop-held-preserved : goal.loop-held-preserved
loop-held-preserved c =
    c.push.ensures.items ∙ (rw c.loop-held.invariant (sym (locks_more c.args.holding.now c.loop-held.held-index _ c.loop-held-test.true)))
