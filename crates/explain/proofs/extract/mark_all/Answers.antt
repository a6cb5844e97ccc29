use Rattle.std.proofs.Common.{◌≡◌, suc, ◌+◌, ◌-◌, ◌<◌, inl, inr, length, Some, sym, ap, subst, ◌∙◌, arith}
use Rattle.std.proofs.lemmas.Option.{slice_get-get_or}
use Rattle.explain.specs.Needed.{KeepsMarks, AreClosed}
use Rattle.explain.proofs.NeededEntries.{closed_more, closed_skip}
use Rattle.explain.proofs.extract.mark_all.Goals as goal
use Rattle.explain.proofs.extract.mark_all.Goals.{then-index, else-index}

pub loop-k-preserved : goal.loop-k-preserved
loop-k-preserved c =
    let x = c.args.search.now in
    let n = length x.entries.items in
    let k = c.loop-k.k in
    let h = c.loop-k.invariant in
    let old = c.loop-k.needed.items in
    let i = c.len-count.result - 1 - k in
    let next : suc i ≡ n - k = omega (arith, c.loop-k-test.true, c.len-count.ensures, x.entries.ok) in
    let here : i ≡ n - (k + 1) = omega (arith, next) in
    let within : i < length old = omega (arith, next, h.sized) in
    let mark = slice_get-get_or old i c.index.result.now within ∙ ap Some (sym c.index.ensures) in
    elim c.if-index.branch [
      | then-index w ↦
          let d = w.index-then-index.result.now in
          let at = slice_get-get_or x.entries.items i d (omega (arith, next)) ∙ ap Some (sym w.index-then-index.ensures) in
          let e = w.mark_named.ensures in
          let new = w.mark_named.new.needed.items in
          record {
            sized = ap (λ (v : _). length v.items) w.needed-is ∙ e.sized ∙ h.sized;
            kept = subst (λ (v : _). KeepsMarks c.args.needed.now.items v.items) (sym w.needed-is) (λ j m. e.kept j (h.kept j m));
            closed = λ s places is. subst (λ (v : _). AreClosed x v.items (n - (k + 1))) (sym w.needed-is) (subst (AreClosed x new) here
                (closed_more s places x old new i (n - k) d is at next e.kept
                (λ m a. elim (e.only m a) [ inl b ↦ inl b | inr b ↦ inr (b is.indices) ])
                (e.marked is.indices h.sized) (h.closed s places is)));
          }
      | else-index w ↦ record {
        sized = ap (λ (v : _). length v.items) w.needed-is ∙ h.sized;
        kept = subst (λ (v : _). KeepsMarks c.args.needed.now.items v.items) (sym w.needed-is) h.kept;
        closed = λ s places is. subst (λ (v : _). AreClosed x v.items (n - (k + 1))) (sym w.needed-is) (subst (AreClosed x old) here
            (closed_skip x old i (n - k) (mark ∙ ap Some w.if-index.false) next (h.closed s places is)));
      }
    ]

pub returns-clause-closed : goal.returns-clause-closed
returns-clause-closed c s places is =
    let x = c.args.search.now in
    let done : length x.entries.items - c.loop-k.k ≡ 0 = omega (arith, c.loop-k-test.false, c.len-count.ensures, x.entries.ok) in
    subst (AreClosed x c.loop-k.needed.items) done (c.loop-k.invariant.closed s places is)
