use Rattle.std.proofs.Common.{ℕ, ◌&&◌, List, sym, subst, arith}
use Rattle.std.proofs.lemmas.Result.{IfOk-from_err}
use Rattle.trace_model.specs.Theory.Dependencies.{Dependency}
use Rattle.dependencies.specs.Entries.{listing_from, IsKeptOf}
use Rattle.dependencies.proofs.Shown.{length_from}
use Rattle.dependencies.proofs.entries.Entries.reserve.Goals as goal

pub reserve-requires : goal.reserve-requires
reserve-requires c =
    let e = c.args.self.now in
    let len = length_from 0 e.keys.keys e.places.notes in
    let few = c.requires in
    omega arith

pub returns-in_err-reserve-clause-ok : goal.returns-in_err-reserve-clause-ok
returns-in_err-reserve-clause-ok c = IfOk-from_err c.from_residual.result _ c.from_residual.ensures.0

pub returns-in_err-reserve-2-clause-ok : goal.returns-in_err-reserve-2-clause-ok
returns-in_err-reserve-2-clause-ok c = IfOk-from_err c.from_residual-in_err-reserve-2.result _ c.from_residual-in_err-reserve-2.ensures.0

pub returns-clause-shown : goal.returns-clause-shown
returns-clause-shown c = λ i. listing_from 0 (c.reserve.ensures.shown i) (c.reserve-2.ensures.notes i)

pub returns-clause-kept : goal.returns-clause-kept
returns-clause-kept c kept =
    subst (λ (t : List Dependency × List (ℕ × ℕ) × ℕ). IsKeptOf t.0 t.1 t.2) (λ i. (sym c.reserve.ensures.shown i, sym c.reserve-2.ensures.notes i, sym c.reserve-2.ensures.numbers i)) kept

pub returns-in_err-reserve-2-clause-shown : goal.returns-in_err-reserve-2-clause-shown
returns-in_err-reserve-2-clause-shown c = λ i. listing_from 0 (c.reserve.ensures.shown i) (c.reserve-2.ensures.notes i)

pub returns-in_err-reserve-2-clause-kept : goal.returns-in_err-reserve-2-clause-kept
returns-in_err-reserve-2-clause-kept c kept =
    subst (λ (t : List Dependency × List (ℕ × ℕ) × ℕ). IsKeptOf t.0 t.1 t.2) (λ i. (sym c.reserve.ensures.shown i, sym c.reserve-2.ensures.notes i, sym c.reserve-2.ensures.numbers i)) kept

pub returns-clause-ok : goal.returns-clause-ok
returns-clause-ok c = λ i. c.in_ok-reserve-2.ensures.ok i && c.in_ok-reserve.ensures.ok i
