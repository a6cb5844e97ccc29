use Rattle.std.proofs.Common.{[], ap, subst, sym}
use Rattle.trace_model.specs.Protocol.Machine.{State}
use Rattle.sequencer.specs.Drains.{IsPlayed}
use Rattle.sequencer.proofs.Runs.{starts_played, all_sent}
use Rattle.sequencer.proofs.playing.play_over.Goals as goal

-- no input was played
fresh : (c : goal.After-run-1) → IsPlayed c.args.book.state [] c.new-run.result
fresh c =
    let new = c.new-run.ensures in
    let sessions = rw (sym new.sessions) at c.in-Ok.ensures in
    subst (λ (s : State). IsPlayed s [] c.new-run.result) (ap (λ b. b.state) new.book) (starts_played c.new-run.result sessions.0 sessions.1 new.deliveries)

-- all inputs are played
played : (c : goal.In_default) → IsPlayed c.args.book.state c.args.inputs.items c.take_all.new.run
played c =
    let new = c.new-run.ensures in
    let sessions = rw (sym new.sessions) at c.in-Ok.ensures in
    let none = subst (λ (s : State). IsPlayed s [] c.new-run.result) (ap (λ b. b.state) new.book) (starts_played c.new-run.result sessions.0 sessions.1 new.deliveries) in
    c.in_default.ensures c.args.book.state [] none

pub take_all-requires : goal.take_all-requires
take_all-requires c = (c.args.book.state, [], fresh c)

pub invariant_of-result : goal.invariant_of-result
invariant_of-result c = (played c).count

pub returns-clause-sent : goal.returns-clause-sent
returns-clause-sent c = all_sent c.args.book.state c.args.inputs.items _ (played c)

pub returns-clause-deliveries : goal.returns-clause-deliveries
returns-clause-deliveries c = (played c).deliveries

pub returns-clause-book : goal.returns-clause-book
returns-clause-book c = (played c).state

pub returns-clause-exact : goal.returns-clause-exact
returns-clause-exact c = (played c).exact
