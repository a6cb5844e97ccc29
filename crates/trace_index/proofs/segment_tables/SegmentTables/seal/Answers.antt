use Rattle.std.proofs.Common.{length, sym, ap, subst, arith}
use Rattle.std.proofs.lemmas.Result.{IfOk-from_err}
use Rattle.trace_index.specs.SegmentTables.{AreAllTables}
use Rattle.trace_index.proofs.segment_tables.SegmentTables.seal.Goals as goal

pub returns-in_err-reserve : goal.returns-in_err-reserve
returns-in_err-reserve c =
    let items = c.in_err-reserve.ensures.items in
    let same = ap length items in
    record {
      same = λ s are. subst (λ xs. AreAllTables s c.args.len xs c.args.self.now.tail) (sym items) are;
      more = omega arith;
      ahead = c.requires.room;
      ok = IfOk-from_err c.from_residual.result _ c.from_residual.ensures.0;
    }

pub returns-in_err-close : goal.returns-in_err-close
returns-in_err-close c =
    let items = c.in_ok-reserve.ensures.items in
    let same = ap length items in
    let more = c.in_err-close.ensures.more in
    record {
      same = λ s are. c.in_err-close.ensures.same s (subst (λ xs. AreAllTables s c.args.len xs c.args.self.now.tail) (sym items) are);
      more = omega arith;
      ahead = c.in_err-close.ensures.ahead;
      ok = IfOk-from_err c.from_residual-in_err-close.result _ c.from_residual-in_err-close.ensures.0;
    }

pub returns-in_ok-close : goal.returns-in_ok-close
returns-in_ok-close c =
    let items = c.in_ok-reserve.ensures.items in
    let same = ap length items in
    let one = c.in_ok-close.ensures.ok in
    let few = c.requires.few in
    record {
      same = λ s are. c.in_ok-close.ensures.same s (subst (λ xs. AreAllTables s c.args.len xs c.args.self.now.tail) (sym items) are);
      more = omega arith;
      ahead = c.in_ok-close.ensures.ahead;
      ok = omega arith;
    }

pub returns-else-len-ge-SEGMENT : goal.returns-else-len-ge-SEGMENT
returns-else-len-ge-SEGMENT c =
    let below = c.if-len-ge-SEGMENT.false in
    let len = c.len.ensures in
    let begun = c.requires.begun in
    record { same = λ s are. are; more = omega arith; ahead = c.requires.room; ok = omega (arith, c.args.self.now.sealed.ok) }
