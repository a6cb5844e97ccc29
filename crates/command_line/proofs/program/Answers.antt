use Rattle.std.proofs.lemmas.Result.{IfOk-weaker}
use Rattle.command_line.proofs.Plain.{taken}
use Rattle.command_line.proofs.program.Goals as goal

pub returns : goal.returns
returns c =
    let one = taken _ _ _ _ _ c.bare_program.ensures c.in_ok-serve.ensures c.in_ok-program.ensures in
    let two = taken _ _ _ _ _ one c.in_ok-script.ensures c.in_ok-program-2.ensures in
    let three = taken _ _ _ _ _ two c.in_ok-offline.ensures c.in_ok-program-3.ensures in
    let four = taken _ _ _ _ _ three c.in_ok-replay.ensures c.in_ok-program-4.ensures in
    let five = taken _ _ _ _ _ four c.in_ok-explain.ensures c.in_ok-program-5.ensures in
    IfOk-weaker c.add_command-6.result _ _ (λ new takes. taken _ _ _ _ _ five c.in_ok-check.ensures takes) c.add_command-6.ensures
