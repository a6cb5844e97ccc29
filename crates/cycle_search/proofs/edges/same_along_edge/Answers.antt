use Rattle.std.proofs.Common.{◌+◌, Bool, List, length, refl, sym, ap, subst, ◌∙◌, arith}
use Rattle.std.proofs.lemmas.Option.{slice_get_within}
use Rattle.std.specs.Global.{Vec}
use Rattle.dependencies.specs.Tables.{table_dependencies}
use Rattle.cycle_search.proofs.EdgeLemmas.{MarkedBefore, held-known, marked-repeated, marked-set}
use Rattle.cycle_search.proofs.edges.same_along_edge.Goals as goal
use Rattle.cycle_search.proofs.edges.same_along_edge.Goals.{then-not-is_repeated, else-not-is_repeated}

pub mark-requires-clause-known : goal.mark-requires-clause-known
mark-requires-clause-known c n holds =
    let inside = held-known (table_dependencies c.args.table.now) c.loop-number.number c.successors-numbers.result.now (omega (arith, c.loop-number-test.true, c.len-number-end.ensures.value)) c.successors-numbers.ensures n holds in
    omega (arith, inside, c.requires.each)

pub loop-number-preserved : goal.loop-number-preserved
loop-number-preserved c =
    let ds = table_dependencies c.args.table.now in
    let values = c.args.values.now in
    let i = c.loop-number.number in
    let old = c.loop-number.marks.items in
    elim c.if-not-is_repeated.branch [
      | then-not-is_repeated w ↦
          let is = ap (λ (v : Vec Bool). v.items) w.marks-is in
          record {
            each = ap length is ∙ w.mark.ensures.each ∙ c.loop-number.invariant.each;
            marked = subst (λ (marks : List Bool). MarkedBefore ds values marks (i + 1)) (sym is)
                (marked-set ds values w.successors-numbers.result.now old _ i _ w.successors-numbers.ensures refl w.mark.ensures.kept w.mark.ensures.marked c.loop-number.invariant.marked);
          }
      | else-not-is_repeated w ↦
          let is = ap (λ (v : Vec Bool). v.items) w.marks-is in
          record {
            each = ap length is ∙ c.loop-number.invariant.each;
            marked = subst (λ (marks : List Bool). MarkedBefore ds values marks (i + 1)) (sym is)
                (marked-repeated ds values old i (omega (arith, c.loop-number-test.true, c.len-number-end.ensures.value)) c.loop-number.invariant.marked (c.is_repeated.ensures w.if-not-is_repeated.false));
          }
    ]

pub returns : goal.returns
returns c = record {
  each = c.loop-number.invariant.each;
  marked = λ m n a b x y holds same.
      c.loop-number.invariant.marked m (omega (arith, slice_get_within (table_dependencies c.args.table.now) m a x, c.loop-number-test.false, c.len-number-end.ensures.value)) n a b x y holds same;
}
