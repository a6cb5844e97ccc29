use Rattle.std.proofs.Common.{◌+◌, length}
use Rattle.std.specs.Option.{option_copied, option_map_or}
use Rattle.commands.specs.AdmittedBlocks.{IsReadTo}
use Rattle.commands.proofs.opening.open_blocks.Given as goal

-- the file is read up to the rest
abbrev pub invariant-loop-block : goal.invariant-loop-block
invariant-loop-block g l = IsReadTo l.file (option_copied l.rest) l.built l.block

abbrev pub decreases-loop-block : goal.decreases-loop-block
decreases-loop-block g l = option_map_or (λ rest. length rest + 1) (option_copied l.rest) 0
