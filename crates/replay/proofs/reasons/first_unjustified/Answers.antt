use Rattle.std.proofs.Common.{◌≡◌, ◌<◌, length, take, true, slice_get, Some, sym, ap, subst, ◌∙◌, arith}
use Rattle.std.proofs.lemmas.Bool.{false≢true}
use Rattle.std.proofs.lemmas.List.{length-set, take_all}
use Rattle.std.proofs.lemmas.Option.{slice_get-get_or}
use Rattle.trace_model.specs.Theory.Refutation.{Justifies, IsDerivation, derived_places}
use Rattle.trace_model.proofs.Theory.Derivable.{derivable_within}
use Rattle.replay.specs.Refuting.{AreMarksOf}
use Rattle.replay.proofs.Marks.{derives_more, entry_marked}
use Rattle.replay.proofs.reasons.first_unjustified.Goals as goal
use Rattle.replay.proofs.reasons.first_unjustified.Goals.{After-entry-item, After-get}

entry_at : (c : After-entry-item) → slice_get c.args.entries.now c.loop-entry.entry-index ≡ Some c.entry-item.result
entry_at c = slice_get-get_or c.args.entries.now c.loop-entry.entry-index c.entry-item.result c.loop-entry-test.true ∙ ap Some (sym c.entry-item.is)

justified : (c : After-get) → Justifies c.args.trace.now c.args.places.now (derived_places (take c.loop-entry.entry-index c.args.entries.now)) c.entry-item.result.reason c.entry-item.result.place
justified c =
    let derived = derived_places (take c.loop-entry.entry-index c.args.entries.now) in
    (c.is_justified.ensures derived (subst (λ xs. AreMarksOf xs derived) (sym c.deref.ensures.value) c.loop-entry.invariant.marked)).0 c.if-not-is_justified.false

within : (c : After-get) → c.get.result < length c.loop-entry.marks.items
within c =
    let d = c.entry-item.result in
    let low = derivable_within c.args.trace.now c.args.places.now (derived_places (take c.loop-entry.entry-index c.args.entries.now)) d.place d.reason (justified c) in
    omega (arith, c.get.ensures, low, c.loop-entry.invariant.sized)

pub returns-then-not-is_justified-clause-first : goal.returns-then-not-is_justified-clause-first
returns-then-not-is_justified-clause-first c =
    let derived = derived_places (take c.loop-entry.entry-index c.args.entries.now) in
    let marked = subst (λ xs. AreMarksOf xs derived) (sym c.deref.ensures.value) c.loop-entry.invariant.marked in (
      c.loop-entry.entry-index,
      entry_at (goal.at.returns-then-not-is_justified-clause-first c).After-entry-item,
      c.loop-entry.invariant.derives,
      λ j. false≢true (sym c.if-not-is_justified.true ∙ (c.is_justified.ensures derived marked).1 j),
    )

pub index_mut-requires : goal.index_mut-requires
index_mut-requires c = omega (arith, within (goal.at.index_mut-requires c).After-get, c.loop-entry.marks.ok)

pub loop-entry-preserved : goal.loop-entry-preserved
loop-entry-preserved c =
    let at = goal.at.loop-entry-preserved c in
    let entries = c.args.entries.now in
    let k = c.loop-entry.entry-index in
    let h = c.loop-entry.invariant in
    let d = c.entry-item.result in
    let here = entry_at at.After-entry-item in
    record {
      sized = length-set c.loop-entry.marks.items c.get.result true ∙ h.sized;
      derives = derives_more c.args.trace.now c.args.places.now entries k d here h.derives (justified at.After-get);
      marked = entry_marked c.loop-entry.marks.items c.get.result entries k d here c.get.ensures (within at.After-get) h.marked;
    }

pub returns-clause-first : goal.returns-clause-first
returns-clause-first c =
    let entries = c.args.entries.now in
    let all = take_all c.loop-entry.entry-index entries (omega (arith, c.loop-entry-test.false)) in (
      subst (IsDerivation c.args.trace.now c.args.places.now) all c.loop-entry.invariant.derives,
      subst (λ (xs : _). AreMarksOf c.loop-entry.marks.items (derived_places xs)) all c.loop-entry.invariant.marked,
    )
