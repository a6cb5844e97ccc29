use Rattle.std.proofs.Common.{◌==◌, cond, length, slice_set, Some, sym, ap, refl, ◌∙◌, arith}
use Rattle.std.proofs.lemmas.List.{length-map}
use Rattle.std.proofs.lemmas.Option.{slice_get_within}
use Rattle.std.specs.Vec.{with_item}
use Rattle.trace_model.specs.declared.refutations.Derived.{Derived}
use Rattle.trace_model.specs.Theory.Refutation.{derived_places}
use Rattle.explain.specs.Tables.{position_of_key}
use Rattle.explain.specs.EntryTable.{slot_of}
use Rattle.explain.proofs.Adding.{on_ok_then}
use Rattle.explain.proofs.EntryTables.{listed_beside, listed_in_slot}
use Rattle.explain.proofs.entry_table.EntryTable.put.Goals as goal

pub returns-then-is_taken : goal.returns-then-is_taken
returns-then-is_taken c =
    on_ok_then c.put_position.result c.put_position.ensures (λ put are fresh.
    let t = c.args.self.now in
    let entries = c.args.entries.now in
    let count = length entries in
    listed_beside t (derived_places entries) c.args.place count (sym (length-map entries (λ (d : Derived). d.place))) are fresh c.put_position.new.table
    (c.is_taken.ensures.taken c.if-is_taken.true)
    (λ q. put q ∙ ap (λ n. cond (n == q) (Some count) (position_of_key t.others q)) c.get.ensures))

pub returns : goal.returns
returns c are fresh =
    let t = c.args.self.now in
    let entries = c.args.entries.now in
    let count = length entries in
    let (i, was, free) = c.is_taken.ensures.free c.if-is_taken.false in
    listed_in_slot t (derived_places entries) c.args.place count (sym (length-map entries (λ (d : Derived). d.place))) are fresh
    (slice_set t.slots.items c.slot_of.result count) (ap (λ z. slice_set t.slots.items z count) c.slot_of.ensures) i was free
    (record t { slots = with_item t.slots c.slot_of.result count }) refl refl

pub index_mut-requires : goal.index_mut-requires
index_mut-requires c =
    let (i, was, free) = c.is_taken.ensures.free c.if-is_taken.false in
    omega (arith, slice_get_within c.args.self.now.slots.items (slot_of c.args.place) i was, c.slot_of.ensures, c.args.self.now.slots.ok)
