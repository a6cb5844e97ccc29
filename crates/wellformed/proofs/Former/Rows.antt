-- Reorderings and rows of a well-formed flat trace agree in both definitions.
use Rattle.std.proofs.Common.{◌≡◌, ℕ, List, map, slice_get, Option, Some, None, MatchOption, sym, subst, ◌∙◌}
use Rattle.std.proofs.lemmas.List.Elements.{All-weaker}
use Rattle.trace_model.specs.Theory.Trace.{Trace}
use Rattle.trace_model.specs.Theory.Cycles.{AreCyclesFrom, IsInstance, IsConfirmed}
use Rattle.trace_model.specs.Theory.Lawful.{IsWellFormed}
use Rattle.trace_model.specs.Theory.Reordering.{IsReordering, AreReached}
use Rattle.trace_model.specs.Theory.Rows.{Evidence, Row, IsLeastInstance, IsWitness, IsRow, AreRows}
use Rattle.wellformed.specs.Flat.{AgreesWithFormer, IsFlat}
use Rattle.wellformed.specs.Former.Reordering as former_reordering
use Rattle.wellformed.specs.Former.Rows as former
use Rattle.wellformed.proofs.Former.Held.{acquires_on, begins_on, dependencies_are, dependency_at_is}
use Rattle.wellformed.proofs.Former.Lawful.{was_well_formed}
use Rattle.wellformed.proofs.Former.Lookups.{release_is}

module _ (s : Trace) (w : IsWellFormed s) (flat : IsFlat s) where
  -- ---- reorderings

  to_reordering : (order : List ℕ) → former_reordering.IsFormerReordering s order → IsReordering s order
  to_reordering order o = record {
    in_trace = o.in_trace;
    distinct = o.distinct;
    threads = o.threads;
    forks_joins = o.forks_joins;
    writers = o.writers;
    sections = λ p q l a b before.
        let r = o.sections p q l (acquires_on s flat p l a) (acquires_on s flat q l b) before in
        (r.0, sym (release_is s w flat p) ∙ r.1, r.2, r.3);
    lock_order = λ p q l a b before. o.lock_order p q l (acquires_on s flat p l a) (acquires_on s flat q l b) before;
  }

  from_reordering : (order : List ℕ) → IsReordering s order → former_reordering.IsFormerReordering s order
  from_reordering order o = record {
    in_trace = o.in_trace;
    distinct = o.distinct;
    threads = o.threads;
    forks_joins = o.forks_joins;
    writers = o.writers;
    sections = λ p q l a b before.
        let r = o.sections p q l (begins_on s flat p l a) (begins_on s flat q l b) before in
        (r.0, release_is s w flat p ∙ r.1, r.2, r.3);
    lock_order = λ p q l a b before. o.lock_order p q l (begins_on s flat p l a) (begins_on s flat q l b) before;
  }

  to_reached : (places : List ℕ) → former_reordering.AreFormerReached s places → AreReached s places
  to_reached places (order, o, r) = (order, to_reordering order o, r)

  from_reached : (places : List ℕ) → AreReached s places → former_reordering.AreFormerReached s places
  from_reached places (order, o, r) = (order, from_reordering order o, r)

  -- ---- instances

  to_instance : (numbers places : List ℕ) → former.IsFormerInstance s numbers places → IsInstance s numbers places
  to_instance numbers places is = (
    is.0,
    λ i m p d a b c. sym (dependency_at_is s flat p) ∙ is.1 i m p d a (subst (λ ds. slice_get ds m ≡ Some d) (sym (dependencies_are s flat)) b) c,
  )

  from_instance : (numbers places : List ℕ) → IsInstance s numbers places → former.IsFormerInstance s numbers places
  from_instance numbers places is = (
    is.0,
    λ i m p d a b c. dependency_at_is s flat p ∙ is.1 i m p d a (subst (λ ds. slice_get ds m ≡ Some d) (dependencies_are s flat) b) c,
  )

  to_confirmed : (numbers : List ℕ) → former.IsFormerConfirmed s numbers → IsConfirmed s numbers
  to_confirmed numbers (places, is, reached) = (places, to_instance numbers places is, to_reached places reached)

  from_confirmed : (numbers : List ℕ) → IsConfirmed s numbers → former.IsFormerConfirmed s numbers
  from_confirmed numbers (places, is, reached) = (places, from_instance numbers places is, from_reached places reached)

  to_least : (numbers places : List ℕ) → former.IsFormerLeastInstance s numbers places → IsLeastInstance s numbers places
  to_least numbers places is = record {
    is_instance = to_instance numbers places is.is_instance;
    is_reached = to_reached places is.is_reached;
    least = λ other a b. is.least other (from_instance numbers other a) (from_reached other b);
  }

  from_least : (numbers places : List ℕ) → IsLeastInstance s numbers places → former.IsFormerLeastInstance s numbers places
  from_least numbers places is = record {
    is_instance = from_instance numbers places is.is_instance;
    is_reached = from_reached places is.is_reached;
    least = λ other a b. is.least other (to_instance numbers other a) (to_reached other b);
  }

  to_witness : (places order : List ℕ) → former.IsFormerWitness s places order → IsWitness s places order
  to_witness places order is = record {
    ascends = is.ascends;
    reorders = to_reordering order is.reorders;
    reaches = is.reaches;
    smallest = λ other a b. is.smallest other (from_reordering other a) b;
  }

  from_witness : (places order : List ℕ) → IsWitness s places order → former.IsFormerWitness s places order
  from_witness places order is = record {
    ascends = is.ascends;
    reorders = from_reordering order is.reorders;
    reaches = is.reaches;
    smallest = λ other a b. is.smallest other (to_reordering other a) b;
  }

  -- ---- rows

  to_row : (row : Row) → former.IsFormerRow s row → IsRow s row
  to_row row is = go row.found is
    where
      go : (o : Option Evidence) →
          MatchOption o (former.IsFormerConfirmed s row.cycle → ⊥) (λ f. former.IsFormerLeastInstance s row.cycle f.places × former.IsFormerWitness s f.places f.witness) →
          MatchOption o (IsConfirmed s row.cycle → ⊥) (λ f. IsLeastInstance s row.cycle f.places × IsWitness s f.places f.witness)
      go None h = λ c. h (from_confirmed row.cycle c)
      go (Some f) h = (to_least row.cycle f.places h.0, to_witness f.places f.witness h.1)

  from_row : (row : Row) → IsRow s row → former.IsFormerRow s row
  from_row row is = go row.found is
    where
      go : (o : Option Evidence) →
          MatchOption o (IsConfirmed s row.cycle → ⊥) (λ f. IsLeastInstance s row.cycle f.places × IsWitness s f.places f.witness) →
          MatchOption o (former.IsFormerConfirmed s row.cycle → ⊥) (λ f. former.IsFormerLeastInstance s row.cycle f.places × former.IsFormerWitness s f.places f.witness)
      go None h = λ c. h (to_confirmed row.cycle c)
      go (Some f) h = (from_least row.cycle f.places h.0, from_witness f.places f.witness h.1)

  to_rows : (bound root : ℕ) (rows : List Row) → former.AreFormerRows s bound root rows → AreRows s bound root rows
  to_rows bound root rows are = record {
    cycles = subst (λ ds. AreCyclesFrom ds bound root (map (λ row. row.cycle) rows)) (dependencies_are s flat) are.cycles;
    exact = All-weaker (former.IsFormerRow s) (IsRow s) to_row rows are.exact;
  }

  from_rows : (bound root : ℕ) (rows : List Row) → AreRows s bound root rows → former.AreFormerRows s bound root rows
  from_rows bound root rows are = record {
    cycles = subst (λ ds. AreCyclesFrom ds bound root (map (λ row. row.cycle) rows)) (sym (dependencies_are s flat)) are.cycles;
    exact = All-weaker (IsRow s) (former.IsFormerRow s) from_row rows are.exact;
  }

  pub agrees : AgreesWithFormer s
  agrees = record {
    well_formed = was_well_formed s w flat;
    reorderings = λ order. (to_reordering order, from_reordering order);
    dependencies_are = dependencies_are s flat;
    row = λ row. (to_row row, from_row row);
    rows = λ bound root rows. (to_rows bound root rows, from_rows bound root rows);
  }
