use Rattle.std.proofs.Common.{◌-◌, ◌+◌, ◌*◌, inl, inr, length, refl, ap, ◌∙◌, arith}
use Rattle.std.proofs.lemmas.Bool.{cases_lt}
use Rattle.std.proofs.lemmas.Option.{slice_get_read}
use Rattle.std.specs.HashMap.{get}
use Rattle.trace_index.specs.declared.segment_tables.SegmentTable.{SegmentTable}
use Rattle.trace_index.specs.Links.{same_key, matches}
use Rattle.trace_index.proofs.SegmentTables.{tail_last, tail_no, sealed_last, sealed_no, none_last}
use Rattle.trace_index.proofs.segment_tables.last_in_segments.Goals as goal

pub returns-in-Some : goal.returns-in-Some
returns-in-Some c = λ s n are. tail_last s n c.args.sealed.now c.args.tail.now are c.args.key c.in-Some.place c.in-Some.ensures

pub loop-index-init : goal.loop-index-init
loop-index-init c = record {
  within = omega arith;
  later = λ s n u are a l. tail_no s n c.args.sealed.now c.args.tail.now are c.args.key c.in_default.ensures u a l;
}

pub returns-in-Some-last : goal.returns-in-Some-last
returns-in-Some-last c = λ s n are.
    let w = c.loop-index.invariant.within in
    let t = c.loop-index-test.true in
    let found = slice_get_read c.args.sealed.now (length c.args.sealed.now) (c.loop-index.index - 1) c.index-sealed-index.result refl (omega arith) c.index-sealed-index.is in
    sealed_last s n c.args.sealed.now c.args.tail.now are c.args.key (c.loop-index.index - 1) c.in-Some-last.place c.index-sealed-index.result found
    (c.in-Some-last.ensures ∙ ap (λ (m : SegmentTable). get same_key m.last c.args.key) c.deref.ensures)
    (λ u a l. c.loop-index.invariant.later s n u are (omega arith) l)

pub loop-index-preserved : goal.loop-index-preserved
loop-index-preserved c =
    let w = c.loop-index.invariant.within in
    let t = c.loop-index-test.true in
    let found = slice_get_read c.args.sealed.now (length c.args.sealed.now) (c.loop-index.index - 1) c.index-sealed-index.result refl (omega arith) c.index-sealed-index.is in
    record {
      within = omega arith;
      later = λ s n u are a l. elim (cases_lt u (4096 * (c.loop-index.index - 1 + 1))) [
        | inl y ↦ sealed_no s n c.args.sealed.now c.args.tail.now are c.args.key (c.loop-index.index - 1) c.index-sealed-index.result found
            (c.in_default-last.ensures ∙ ap (λ (m : SegmentTable). get same_key m.last c.args.key) c.deref.ensures) u a y
        | inr y ↦ c.loop-index.invariant.later s n u are (omega arith) l
      ];
    }

pub returns : goal.returns
returns c = λ s n are.
    let t = c.loop-index-test.false in
    none_last (matches s c.args.key) n (λ u l. c.loop-index.invariant.later s n u are (omega arith) l)
