use Rattle.trace_model.specs.Theory.Rows.{AreRows, AreSound}
use Rattle.trace_model.specs.Protocol.RunLaws.{RunSplits}
use Rattle.trace_model.specs.Protocol.Runs.{Good}
use Rattle.trace_model.proofs.Protocol.Taking.{run_joins, run_parts, machine_steps, run_unique, status_shown, run_sound, run_legal}
use Rattle.trace_model.proofs.laws.runs_go_on.Goals as goal

splits : (good : Good) → RunSplits good
splits good s last steps more = (run_parts good s last steps more, λ (mid, first, rest). run_joins good s mid last steps more first rest)

pub returns-clause-split : goal.returns-clause-split
returns-clause-split c = (splits AreRows, splits AreSound)

pub returns-clause-takes : goal.returns-clause-takes
returns-clause-takes c = (machine_steps AreRows, machine_steps AreSound)

pub returns-clause-unique : goal.returns-clause-unique
returns-clause-unique c = run_unique

pub returns-clause-status : goal.returns-clause-status
returns-clause-status c = status_shown

pub returns-clause-sound : goal.returns-clause-sound
returns-clause-sound c = run_sound

pub returns-clause-legal : goal.returns-clause-legal
returns-clause-legal c = run_legal
