use Rattle.std.proofs.Common.{List, length, subst, sym, ◌∙◌, arith}
use Rattle.std.proofs.lemmas.Bool.{eqb-true}
use Rattle.trace_model.specs.Theory.Dependencies.{Dependency}
use Rattle.cycle_search.specs.Edges.{FallAtMost}
use Rattle.cycle_search.proofs.distances.are_distances.Goals as goal
use Rattle.cycle_search.proofs.distances.are_distances.Goals.{then-distances-len, else-distances-len}

pub returns-then-are_zero_at_root : goal.returns-then-are_zero_at_root
returns-then-are_zero_at_root c = λ fall. elim c.if-distances-len.branch [
  | then-distances-len w ↦ record {
    home = w.are_zero_at_root.ensures (sym w.value-is ∙ c.if-are_zero_at_root.true);
    along = λ m n a b over x y holds.
        omega (arith, subst (λ (ds : List Dependency). FallAtMost ds c.args.distances.now c.args.root 1) c.search_input.view_is (c.fall_at_most.ensures fall) m n a b over x y holds);
  }
  | else-distances-len w ↦ absurd (w.if-distances-len.false (eqb-true (length c.args.distances.now) c.len.result (sym w.value-is ∙ c.if-are_zero_at_root.true)))
]
