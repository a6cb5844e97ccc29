use Rattle.desk.proofs.Outcome.{response_of}
use Rattle.desk.proofs.desk.Desk.deliver.Goals as goal

pub returns : goal.returns
returns g c =
    let d = c.deliver.ensures in
    let response = response_of g.N.HistoryId.limit c.deref_mut.result.now c.deliver.new.self c.args.finding c.deliver.result.0 c.deliver.result.1 d.before d.after d.went d.receipt d.legal in
    record { taken = response.taken; exact = response.exact; refused = response.refused; back = response.back; legal = response.legal }
