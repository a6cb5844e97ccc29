use Rattle.std.proofs.Common.{length, [], ◌∷◌, ◌++◌, sym, ap, subst, ◌∙◌, arith}
use Rattle.trace_model.proofs.Lists.{length-push}
use Rattle.trace_index.specs.SegmentTables.{AreAllTables, HasRoomAhead}
use Rattle.trace_index.proofs.SegmentTables.{sealed_more}
use Rattle.trace_index.proofs.segment_tables.SegmentTables.close.Goals as goal

pub returns-in-Ok : goal.returns-in-Ok
returns-in-Ok c =
    let old = c.args.self.now.sealed in
    let items = c.push_reserved.ensures.items in
    let len = ap length items in
    let more = length-push old.items c.in-Ok.table in
    record {
      same = λ s are. subst (λ xs. AreAllTables s c.args.len xs c.replace-full.new.dest) (sym items)
          (subst (AreAllTables s c.args.len (old.items ++ c.in-Ok.table ∷ [])) (sym c.replace-full.ensures.after)
          (sealed_more s c.args.len old.items c.args.self.now.tail are c.new-next.result c.in-Ok.table c.requires.full (c.in-Ok.ensures.ok ∙ c.replace-full.ensures.value)
          c.new-next.ensures.last c.new-next.ensures.releases));
      more = omega arith;
      ahead = subst HasRoomAhead (sym c.replace-full.ensures.after) c.new-next.ensures.room;
      ok = omega arith;
    }
