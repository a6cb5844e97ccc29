use Rattle.std.proofs.Common.{◌≡◌, ◌≤◌, length, take, sym, ap, subst, ◌∙◌, arith}
use Rattle.std.proofs.lemmas.Result.{IfOk-from_err}
use Rattle.trace_model.specs.Theory.Trace.{Trace}
use Rattle.trace_model.specs.Theory.Dependencies.{dependencies}
use Rattle.wellformed.specs.Gate.{GateView}
use Rattle.lock_tables.specs.Tables.{AreLockPartsOf, CountsBelow}
use Rattle.sequencer.proofs.Beginnings.{dependencies_first}
use Rattle.sequencer.proofs.recorder.Recorder.snapshot.Goals as goal

pub share-requires : goal.share-requires
share-requires g c =
    let s = c.self.inside.index.events in
    let is : c.args.self.now.events ≡ s = ap (λ (a : GateView). a.events) (sym c.self.view_is) in
    let within : c.args.count ≤ length s = subst (λ (r : Trace). c.args.count ≤ length r) is c.requires.within in
    let total : c.args.total ≡ length (dependencies (take c.args.count s)) =
    subst (λ (r : Trace). c.args.total ≡ length (dependencies (take c.args.count r))) is c.requires.total in
    (s, c.self.invariant.tables_are, record { within = within; counted = total ∙ ap length (dependencies_first s c.args.count within) })

pub of-snapshot-requires : goal.of-snapshot-requires
of-snapshot-requires g c =
    let s = c.self.inside.index.events in
    let n = c.args.count in
    let is : c.args.self.now.events ≡ s = ap (λ (a : GateView). a.events) (sym c.self.view_is) in
    let within : n ≤ length s = subst (λ (r : Trace). n ≤ length r) is c.requires.within in
    let total : c.args.total ≡ length (dependencies (take n s)) =
    subst (λ (r : Trace). c.args.total ≡ length (dependencies (take n r))) is c.requires.total in
    let counts : CountsBelow s c.args.total n = record { within = within; counted = total ∙ ap length (dependencies_first s n within) } in
    subst (AreLockPartsOf c.in_ok-parts.parts) (sym c.in-Ok.ensures.index)
    (c.in_ok-parts.ensures s c.self.invariant.tables_are counts)

pub returns-in_err-parts : goal.returns-in_err-parts
returns-in_err-parts g c = record { events = IfOk-from_err c.from_residual.result _ c.from_residual.ensures.0; copies = omega arith }

pub returns-in-Err : goal.returns-in-Err
returns-in-Err g c = record { events = tt; copies = c.share-2.ensures.copies }

pub returns-in_err-new-in-Ok : goal.returns-in_err-new-in-Ok
returns-in_err-new-in-Ok g c = record { events = IfOk-from_err c.from_residual-in_err-new-in-Ok.result _ c.from_residual-in_err-new-in-Ok.ensures.0; copies = c.share-2.ensures.copies }

pub returns-in_ok-new-in-Ok : goal.returns-in_ok-new-in-Ok
returns-in_ok-new-in-Ok g c = record {
  events = c.in_ok-new-in-Ok.ensures.ok ∙ (c.of-snapshot.ensures ∙ (c.in-Ok.ensures.index ∙ ap (λ (a : GateView). take c.args.count a.events) c.self.view_is));
  copies = c.share-2.ensures.copies;
}
