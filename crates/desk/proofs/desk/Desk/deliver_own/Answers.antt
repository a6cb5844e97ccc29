use Rattle.desk.proofs.Outcome.{response_of}
use Rattle.desk.proofs.desk.Desk.deliver_own.Goals as goal

pub returns : goal.returns
returns g c =
    let d = c.deliver_own.ensures in
    let response = response_of g.N.HistoryId.limit c.deref_mut.result.now c.deliver_own.new.self c.args.own c.deliver_own.result.0 c.deliver_own.result.1 d.before d.after d.went d.receipt d.legal in
    record { taken = response.taken; exact = response.exact; refused = response.refused; back = response.back; legal = response.legal }
