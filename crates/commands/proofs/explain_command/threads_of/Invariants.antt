use Rattle.std.proofs.Common.{◌≡◌, map, take}
use Rattle.commands.proofs.explain_command.threads_of.Given as goal

abbrev pub invariant-loop-dependency : goal.invariant-loop-dependency
invariant-loop-dependency l =
    l.threads.items ≡ map (λ d. d.thread) (take l.dependency-index l.dependencies)
