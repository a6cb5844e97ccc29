use Rattle.std.proofs.Common.{◌≡◌, ◌≤◌, get_or, nat_eq, length, ap, sym, subst, ◌∙◌, arith}
use Rattle.std.specs.HashMap.{get}
use Rattle.std.proofs.lemmas.Option.{slice_get-get_or}
use Rattle.trace_model.specs.declared.traces.event.Op.TheVariants.{Write}
use Rattle.trace_model.specs.Theory.Lookups.{writer}
use Rattle.std.proofs.lemmas.Result.{IfOk-from_err}
use Rattle.replay.specs.Facts.{each}
use Rattle.replay.proofs.FactLists.{no_event, each_more, has_each, does_more, writer_seen}
use Rattle.replay.proofs.facts.writers_of.Goals as goal

pub loop-index-preserved : goal.loop-index-preserved
loop-index-preserved c =
    let s = c.args.trace.now in
    let n = c.loop-index.index in
    let e = get_or s n no_event in
    let at = slice_get-get_or s n no_event c.loop-index-test.true in
    let h = c.loop-index.invariant in
    let seen = c.last_of_read-writer.ensures ∙ writer_seen s n e (get nat_eq c.loop-index.writes) at h.writes in
    record {
      writers = c.push_reserved.ensures.items ∙ each_more (writer s) n c.loop-index.writers.items c.last_of_read-writer.result h.writers seen;
      room = subst (λ z. length s ≤ z) (sym c.push_reserved.ensures.capacity) h.room;
      writes = λ v. does_more s Write n v e _ _ at (h.writes v) (rw c.new.ensures at c.in_ok-note_write.ensures v);
    }

pub push_reserved-requires : goal.push_reserved-requires
push_reserved-requires c = omega (arith, has_each (writer c.args.trace.now) c.loop-index.index c.loop-index.writers.items c.loop-index.invariant.writers, c.loop-index.invariant.room, c.loop-index-test.true)

pub returns-in_err-writers : goal.returns-in_err-writers
returns-in_err-writers c = IfOk-from_err c.from_residual.result _ c.from_residual.ensures.0

pub returns-in_err-note_write : goal.returns-in_err-note_write
returns-in_err-note_write c = IfOk-from_err c.from_residual-in_err-note_write.result _ c.from_residual-in_err-note_write.ensures.0

pub returns : goal.returns
returns c =
    let whole : c.loop-index.index ≡ length c.args.trace.now = omega (arith, c.loop-index-test.false, c.loop-index.auto.index-end) in
    c.loop-index.invariant.writers ∙ ap (each (writer c.args.trace.now)) whole
