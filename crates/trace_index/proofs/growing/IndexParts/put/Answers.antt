use Rattle.std.proofs.Common.{refl, ◌∙◌}
use Rattle.trace_index.specs.Links.{trace_of}
use Rattle.trace_index.proofs.Deep.{next_shallow}
use Rattle.trace_index.proofs.OneFurther.{recorded_all, deep_pushed}
use Rattle.trace_index.proofs.growing.IndexParts.put.Goals as goal

pub record-requires-clause-room : goal.record-requires-clause-room
record-requires-clause-room g c = (c.requires.whole.index.ready c.args.ready refl).table_room

pub record-requires-2-clause-shallow : goal.record-requires-2-clause-shallow
record-requires-2-clause-shallow g c =
    let r = c.args.ready in
    next_shallow (trace_of c.args.self.now.rows.0) c.requires.whole.index.shown.well_formed r.row.event r.row.depth c.requires.lawful (c.requires.whole.deep.ready r refl)

pub put_row-requires : goal.put_row-requires
put_row-requires g c = (c.requires.whole.index.ready c.args.ready refl).row_room

pub returns-clause-whole : goal.returns-clause-whole
returns-clause-whole g c =
    let i = c.args.self.now in
    let r = c.args.ready in
    let is = c.requires.whole in
    record {
      index = recorded_all i.rows c.put_row.new.rows r i.tables.sealed.items i.tables.tail c.record.new.self i.last_places.places i.last_places.noted c.new-place.result
          is.index c.requires.lawful (c.new-place.ensures ∙ c.len.ensures) c.put_row.ensures.rows (is.deep.ready r refl)
          (record { last = c.record.ensures.last; releases = c.record.ensures.releases });
      deep = deep_pushed i.rows.0 c.put_row.new.rows.0 i.depths.table c.record-2.new.self.table i.depths.noted c.record-2.new.self.noted r is.deep
          c.put_row.ensures.rows c.record-2.ensures.depths c.record-2.ensures.noted;
      room = c.record.ensures.ahead;
    }
