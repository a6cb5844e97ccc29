use Rattle.std.proofs.Common.{◌≡◌, ◌∙◌, ℕ, Some, inl, inr, get_or, slice_get, sym, ap, subst, arith, true≢false}
use Rattle.std.proofs.lemmas.Bool.{cases_lt}
use Rattle.std.proofs.lemmas.Option.{same_Some, slice_get_within}
use Rattle.std.specs.List.{Contains}
use Rattle.trace_model.specs.Theory.Dependencies.{Dependency}
use Rattle.trace_model.specs.Theory.Held.{has}
use Rattle.dependencies.specs.Tables.{table_dependencies}
use Rattle.cycle_search.proofs.Paths.{has-decided}
use Rattle.cycle_search.proofs.distances.are_zero_at_root.Goals as goal
use Rattle.cycle_search.proofs.distances.are_zero_at_root.Goals.{else-contains-via-then-contains+else-distance_of-gt0, else-contains-via-else-contains}

pub loop-number-preserved : goal.loop-number-preserved
loop-number-preserved c m a d below x y holds = elim (cases_lt m c.loop-number.number) [
  | inl less ↦ c.loop-number.invariant m a d less x y holds
  | inr more ↦
      let ds = table_dependencies c.search_input.inside.table.now in
      let same : c.loop-number.number ≡ m = omega arith in
      let is : c.get.result.now ≡ a = same_Some _ a (sym c.get.ensures ∙ ap (slice_get ds) same ∙ x) in
      let home : c.get-home.result.now ≡ d = same_Some _ d (sym c.get-home.ensures ∙ y) in
      elim c.else-contains.branch [
        | else-contains-via-then-contains+else-distance_of-gt0 w ↦
            omega (arith, w.if-distance_of-gt0.false, w.distance_of.ensures, ap (λ (j : ℕ). get_or c.args.distances.now j 0) same)
        | else-contains-via-else-contains w ↦
            let decided = has-decided c.contains.result c.get.result.now.lock c.get-home.result.now.held
            (c.contains.ensures ∙ ap (λ l. has l c.home.inside.held) (ap (λ (d : Dependency). d.lock) c.behind-search_input.view_is) ∙ ap (λ (d : Dependency). has c.get.result.now.lock d.held) c.home.view_is) in
            let held = subst (λ (z : Dependency). Contains z.held c.get.result.now.lock) (sym home) (subst (λ (z : Dependency). Contains d.held z.lock) (sym is) holds) in
            absurd (true≢false (sym (decided.1 held) ∙ w.if-contains.false))
      ]
]

pub returns : goal.returns
returns c t m a d x y holds =
    let ds = table_dependencies c.search_input.inside.table.now in
    let here = subst (λ z. slice_get z m ≡ Some a) (sym c.search_input.view_is) x in
    let home = subst (λ z. slice_get z c.args.root ≡ Some d) (sym c.search_input.view_is) y in
    c.loop-number.invariant m a d (omega (arith, slice_get_within ds m a here, c.loop-number-test.false, c.len-number-end.ensures.value)) here home holds
