use Rattle.std.proofs.Common.{◌≡◌, ℕ, true, false, List, Contains, Option, None, Some, is_some, MatchOption, true≢false, refl, sym, ap, subst}
use Rattle.trace_model.specs.declared.refutations.RefutationStep.{RefutationStep}
use Rattle.trace_model.specs.Theory.Trace.{Trace}
use Rattle.trace_model.specs.Theory.Cycles.{IsConfirmed}
use Rattle.trace_model.specs.Theory.Refutation.{IsRefutation}
use Rattle.trace_model.specs.Theory.Rows.{Evidence, Row, IsRow}
use Rattle.commands.specs.Explain.{HasRefutation}
use Rattle.commands.proofs.refuting.Refuter.refuted.Goals.{then-is_confirmed, else-is_confirmed+in_ok-refute}
use Rattle.commands.proofs.refuting.Refuter.refuted.Goals as goal

not_confirmed : (s : Trace) (cycle : List ℕ) (found : Option Evidence) → false ≡ is_some found → IsRow s (record { cycle = cycle; found = found }) → IsConfirmed s cycle → ⊥
not_confirmed s cycle None e exact = exact
not_confirmed s cycle (Some x) e exact = absurd (true≢false (sym e))

has_none : (s : Trace) (cycle : List ℕ) (found : Option Evidence) (refutation : Option (List RefutationStep)) → true ≡ is_some found → refutation ≡ None →
    HasRefutation s (record { cycle = cycle; found = found }) refutation
has_none s cycle None refutation e none = absurd (true≢false e)
has_none s cycle (Some x) refutation e none = none

has_some : (s : Trace) (cycle : List ℕ) (found : Option Evidence) (refutation : Option (List RefutationStep)) (steps : List RefutationStep) → false ≡ is_some found →
    refutation ≡ Some steps → IsRefutation s cycle steps → HasRefutation s (record { cycle = cycle; found = found }) refutation
has_some s cycle None refutation steps e some is = subst (λ o. MatchOption o ⊥ (IsRefutation s cycle)) (sym some) is
has_some s cycle (Some x) refutation steps e some is = absurd (true≢false (sym e))

pub refute-requires-clause-known : goal.refute-requires-clause-known
refute-requires-clause-known c = λ m h.
    c.requires.known m (subst (λ (ns : List ℕ). Contains ns m) (ap (λ (r : Row). r.cycle) c.row.view_is) h)

pub refute-requires-clause-not_confirmed : goal.refute-requires-clause-not_confirmed
refute-requires-clause-not_confirmed c = λ is.
    not_confirmed c.args.self.now c.args.row.cycle c.args.row.found c.if-is_confirmed.ensures c.requires.exact
    (subst (IsConfirmed c.args.self.now) (ap (λ (r : Row). r.cycle) c.row.view_is) is)

pub returns : goal.returns
returns c =
    let s = c.args.self.now in
    let row = c.args.row in
    let has : HasRefutation s row c.if-is_confirmed.refutation = elim c.if-is_confirmed.branch [
      | then-is_confirmed w ↦ has_none s row.cycle row.found _ w.if-is_confirmed.ensures w.refutation-is
      | else-is_confirmed+in_ok-refute w ↦
          has_some s row.cycle row.found _ w.in_ok-refute.field-0 w.if-is_confirmed.ensures w.refutation-is
          (subst (λ (ns : List ℕ). IsRefutation s ns w.in_ok-refute.field-0) (ap (λ (r : Row). r.cycle) c.row.view_is) w.in_ok-refute.ensures)
    ] in
    (refl, (c.requires, has))
