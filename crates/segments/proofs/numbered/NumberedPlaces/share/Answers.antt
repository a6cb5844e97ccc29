use Rattle.std.proofs.Common.{◌≡◌, ◌<◌, ℕ, Some, List, Option, length, slice_get, ap, subst, ◌∙◌, arith}
use Rattle.trace_model.specs.Theory.Trace.{last_place}
use Rattle.std.proofs.lemmas.Result.{IfOk-from_err}
use Rattle.segments.specs.Notes.{is_of_number, pairs_of, notes_below}
use Rattle.segments.proofs.Noted.{numbered_take, length_pairs, pairs_take}
use Rattle.segments.proofs.numbered.NumberedPlaces.share.Goals as goal

pub invariant_of-result : goal.invariant_of-result
invariant_of-result c =
    let i = c.self.inside in
    let notes = ap (λ v. length v.notes) c.self.view_is in
    let pairs = length_pairs i.notes.0 in
    let within = c.count_below-count.ensures.within in
    let below = c.in_ok-heads.heads.items in
    numbered_take i.notes.0 c.in_ok-notes.notes.0 i.heads.items below c.count_below-count.result c.self.invariant (omega arith) c.in_ok-notes.ensures
    (c.in_ok-heads.ensures.len ∙ ap length c.deref.ensures.value)
    (subst (λ (xs : List (Option ℕ)). (m : ℕ) → m < length xs → slice_get below m ≡ Some (last_place (is_of_number (pairs_of i.notes.0) m) c.count_below-count.result)) c.deref.ensures.value c.in_ok-heads.ensures.heads)

pub returns-clause-notes : goal.returns-clause-notes
returns-clause-notes c =
    let i = c.self.inside in
    ap pairs_of c.in_ok-notes.ensures ∙ pairs_take c.count_below-count.result i.notes.0 ∙ c.count_below-count.ensures.first ∙ ap (λ v. notes_below c.args.bound v.notes) c.self.view_is

pub returns-in_err-notes : goal.returns-in_err-notes
returns-in_err-notes c = record { notes = IfOk-from_err c.from_residual.result _ c.from_residual.ensures.0; numbers = IfOk-from_err c.from_residual.result _ c.from_residual.ensures.0 }

pub returns-in_err-heads : goal.returns-in_err-heads
returns-in_err-heads c = record {
  notes = IfOk-from_err c.from_residual-in_err-heads.result _ c.from_residual-in_err-heads.ensures.0;
  numbers = IfOk-from_err c.from_residual-in_err-heads.result _ c.from_residual-in_err-heads.ensures.0;
}
