use Rattle.std.proofs.Common.{sym, subst}
use Rattle.snapshots.specs.Found.{RowsOfTask}
use Rattle.sequencer.specs.Book.{AreEventsIfOpen}
use Rattle.desk.specs.Deliveries.{WentSo}
use Rattle.desk.specs.Published.{After}
use Rattle.desk.proofs.Known.{known_of}
use Rattle.desk.proofs.locked.Locked.deliver_own.Goals as goal

pub admits_known-admitted-requires : goal.admits_known-admitted-requires
admits_known-admitted-requires g c =
    let limit = g.N.HistoryId.limit in
    let state = c.self.inside.book.state in
    let own = c.args.own in
    let parts = c.into_parts-finding in
    let both = c.later-later in
    let now = subst (λ run. After limit run state) (sym c.receipt.ensures) c.self.invariant.after in
    let known : AreEventsIfOpen state own.question own.events = known_of limit parts.result.1 c.receipt.result both.result state own.question own.events
    c.self.invariant.allowed both.ensures.own both.ensures.others both.ensures.either now parts.ensures.known in
    record { known = subst (λ (f : RowsOfTask). AreEventsIfOpen state f.question f.events) (sym parts.ensures.finding) known }

pub returns : goal.returns
returns g c =
    let taken = c.take_if.ensures in
    record {
      before = taken.before;
      after = taken.after;
      went = subst (λ (f : RowsOfTask). WentSo c.args.self.now c.take_if.new.self f c.take_if.result.0) c.into_parts-finding.ensures.finding taken.went;
      receipt = taken.receipt;
      legal = taken.legal;
    }
