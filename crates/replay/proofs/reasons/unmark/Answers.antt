use Rattle.std.proofs.Common.{◌≡◌, false, slice_get, Some, refl, sym, ap, ◌∙◌, arith}
use Rattle.std.proofs.lemmas.List.{length-set}
use Rattle.std.proofs.lemmas.Option.{slice_get-get_or}
use Rattle.replay.proofs.Marks.{marked_from_first, marked_within, one_unmarked, all_unmarked}
use Rattle.replay.proofs.reasons.unmark.Goals as goal
use Rattle.replay.proofs.reasons.unmark.Goals.{After-entry-item}

entry_at : (c : After-entry-item) → slice_get c.args.entries.now c.loop-entry.entry-index ≡ Some c.entry-item.result
entry_at c = slice_get-get_or c.args.entries.now c.loop-entry.entry-index c.entry-item.result c.loop-entry-test.true ∙ ap Some (sym c.entry-item.is)

pub loop-entry-init : goal.loop-entry-init
loop-entry-init c = record { sized = refl; left = marked_from_first c.args.marks.now.items c.args.entries.now c.requires }

pub index_mut-requires : goal.index_mut-requires
index_mut-requires c =
    let at = goal.at.index_mut-requires c in
    let low = marked_within c.args.marks.now.items c.args.entries.now c.loop-entry.entry-index c.get.result c.entry-item.result (entry_at at.After-entry-item) c.get.ensures c.requires in
    omega (arith, low, c.loop-entry.invariant.sized, c.loop-entry.marks.ok)

pub loop-entry-preserved : goal.loop-entry-preserved
loop-entry-preserved c =
    let at = goal.at.loop-entry-preserved c in
    let marks = c.loop-entry.marks.items in
    record {
      sized = length-set marks c.get.result false ∙ c.loop-entry.invariant.sized;
      left = one_unmarked marks c.args.entries.now c.loop-entry.entry-index c.get.result c.entry-item.result (entry_at at.After-entry-item) c.get.ensures c.loop-entry.invariant.left;
    }

pub returns : goal.returns
returns c = record {
  sized = c.loop-entry.invariant.sized;
  unmarked = all_unmarked c.loop-entry.marks.items c.args.entries.now c.loop-entry.entry-index (omega (arith, c.loop-entry-test.false)) c.loop-entry.invariant.left;
}
