use Rattle.std.proofs.Common.{◌*◌, length, refl, sym, subst, arith}
use Rattle.std.proofs.lemmas.Option.{slice_get_read}
use Rattle.trace_index.specs.SegmentTables.{AreSegmentTables}
use Rattle.trace_index.proofs.SegmentTables.{segment_noted}
use Rattle.trace_index.proofs.last_places.LastPlaces.follow.Goals as goal

pub loop-index-preserved : goal.loop-index-preserved
loop-index-preserved c =
    let i = c.loop-index.index in
    let t = c.loop-index-test.true in
    let found = slice_get_read c.args.sealed.now (length c.args.sealed.now) i c.index-sealed-index.result refl (omega arith) c.index-sealed-index.is in
    record {
      noted_is = refl;
      within = omega arith;
      last_places = λ s are old. segment_noted s i c.deref.result.now c.loop-index.self.places c.record_all.new.places
          (subst (AreSegmentTables s (4096 * i) 4096) (sym c.deref.ensures) (are i c.index-sealed-index.result found)) (c.loop-index.invariant.last_places s are old) c.in_ok-record_all.ensures.ok;
    }
