use Rattle.std.proofs.Common.{◌≡◌, ◌*◌, inl, inr, Option, Some, None, ℕ, length, refl, sym, ap, ◌∙◌, arith, IfSome, true}
use Rattle.std.proofs.lemmas.Bool.{cases_lt}
use Rattle.std.proofs.lemmas.Option.{slice_get_read}
use Rattle.trace_model.specs.Theory.Trace.{Trace}
use Rattle.trace_index.specs.declared.segment_tables.SegmentTable.{SegmentTable}
use Rattle.trace_index.specs.Links.{ends_at}
use Rattle.trace_index.specs.SegmentTables.{AreAllTables}
use Rattle.trace_index.specs.Releases.{release_in}
use Rattle.trace_index.proofs.SegmentTables.{tail_end, tail_no_end, sealed_end, sealed_no_end}
use Rattle.trace_index.proofs.segment_tables.release_in_segments.Goals as goal

pub returns-in-Some-clause-some : goal.returns-in-Some-clause-some
returns-in-Some-clause-some c = λ s n are.
    let found = slice_get_read c.args.sealed.now (length c.args.sealed.now) c.loop-index.index c.index-sealed-index.result refl c.loop-index-test.true c.index-sealed-index.is in
    sealed_end s n c.args.sealed.now c.args.tail.now are c.args.acquire c.loop-index.index c.in-Some.release c.index-sealed-index.result found
    (c.in-Some.ensures ∙ ap (λ (m : SegmentTable). release_in m.releases c.args.acquire) c.deref.ensures)

pub loop-index-preserved : goal.loop-index-preserved
loop-index-preserved c = λ s n u are a b l.
    let found = slice_get_read c.args.sealed.now (length c.args.sealed.now) c.loop-index.index c.index-sealed-index.result refl c.loop-index-test.true c.index-sealed-index.is in
    elim (cases_lt u (4096 * c.loop-index.index)) [
      | inl y ↦ c.loop-index.invariant s n u are a y l
      | inr y ↦ sealed_no_end s n c.args.sealed.now c.args.tail.now are c.args.acquire c.loop-index.index c.index-sealed-index.result found
          (c.in_default.ensures ∙ ap (λ (m : SegmentTable). release_in m.releases c.args.acquire) c.deref.ensures) u y b
    ]

pub returns-clause-some : goal.returns-clause-some
returns-clause-some c = go c.of-2.result c.of-2.ensures
  where
    go : (o : Option ℕ) → o ≡ release_in c.args.tail.now.releases c.args.acquire →
        IfSome o (λ r. (s : Trace) (n : ℕ) → AreAllTables s n c.args.sealed.now c.args.tail.now → ends_at s c.args.acquire r ≡ true)
    go None e = tt
    go (Some r) e = λ s n are. tail_end s n c.args.sealed.now c.args.tail.now are c.args.acquire r e

pub returns-clause-none : goal.returns-clause-none
returns-clause-none c = λ e s n u are a l.
    let t = c.loop-index-test.false in
    elim (cases_lt u (4096 * length c.args.sealed.now)) [
      | inl y ↦ c.loop-index.invariant s n u are a (omega arith) l
      | inr y ↦ tail_no_end s n c.args.sealed.now c.args.tail.now are c.args.acquire (sym e ∙ c.of-2.ensures) u y l
    ]
