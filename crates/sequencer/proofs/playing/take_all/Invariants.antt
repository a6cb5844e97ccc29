use Rattle.std.proofs.Common.{◌≡◌, List, ◌++◌}
use Rattle.trace_model.specs.Protocol.Machine.{State}
use Rattle.sequencer.specs.declared.input.Input.{Input}
use Rattle.sequencer.specs.Drains.{IsPlayed}
use Rattle.sequencer.proofs.playing.take_all.Given as goal

-- the inputs so far were played; the others follow
abbrev pub invariant-loop-input : goal.invariant-loop-input
invariant-loop-input l = record {
  some : (start : State) × (past : List Input) × IsPlayed start past l.run;
  played : (start : State) (past : List Input) → IsPlayed start past l.initial.run → IsPlayed start (past ++ l.yielded) l.run;
  rest : l.yielded ++ l.input-iterator.rest.items ≡ l.fn.inputs.items;
}
