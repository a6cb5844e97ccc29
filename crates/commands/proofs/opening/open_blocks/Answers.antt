use Rattle.std.proofs.Common.{◌+◌, ◌<◌, ◌++◌, ◌∙◌, [], length, ap, sym, subst}
use Rattle.std.specs.Option.{option_copied, option_map_or}
use Rattle.trace_model.specs.Theory.Trace.{Trace}
use Rattle.commands.specs.Admission.{AreLawfulEventsOf}
use Rattle.commands.specs.AdmittedBlocks.{IsReadTo}
use Rattle.commands.proofs.AdmittedBlocks.{all_before, block_refused, next_block, none_before, rest_shorter, split_is}
use Rattle.commands.proofs.opening.open_blocks.Goals as goal

pub refused_in-requires : goal.refused_in-requires
refused_in-requires g c =
    let file = c.args.file.now in
    let front = c.split_lines.result.0.now in
    let later = c.split_lines.result.1 in
    block_refused file file front (option_copied later) [] c.in-Err.refused (none_before file) (split_is file front later c.split_lines.ensures.lines) (rw c.in-Err.is at c.read_block.ensures.refused)

pub loop-block-init : goal.loop-block-init
loop-block-init g c =
    let file = c.args.file.now in
    let front = c.split_lines.result.0.now in
    let later = c.split_lines.result.1 in
    let block = c.in-Ok.block in
    let after = rw c.in-Ok.is at c.read_block.ensures.block in
    let read = next_block file file front (option_copied later) [] block (none_before file) (split_is file front later c.split_lines.ensures.lines) (after [] c.new.ensures) in
    subst (λ (s : Trace). IsReadTo file (option_copied later) s block) (sym c.new-built.ensures) read

pub returns-in_default-clause-opening : goal.returns-in_default-clause-opening
returns-in_default-clause-opening g c =
    let file = c.args.file.now in
    let built = c.loop-block.built in
    let all = built ++ c.in-Lawful.events.items in
    let read = rw c.in-Lawful.is at c.loop-block.invariant in
    let before = rw c.in_default.is at read.0 in
    let is = c.in_ok-snapshot-in-Lawful.ensures ∙ c.in_ok-extended-in-Lawful.ensures ∙ ap (λ (b : Trace). built ++ b) c.deref.ensures.value in
    subst (λ (s : Trace). AreLawfulEventsOf s file) (sym is) (all_before file all before, read.1.well_formed)

pub refused_in-requires-in-Err-add_and_read : goal.refused_in-requires-in-Err-add_and_read
refused_in-requires-in-Err-add_and_read g c =
    let file = c.args.file.now in
    let more = c.in-Some.more.now in
    let front = c.split_lines-in-Lawful.result.0.now in
    let later = c.split_lines-in-Lawful.result.1 in
    let all = c.loop-block.built ++ c.in-Lawful.events.items in
    let read = rw c.in-Lawful.is at c.loop-block.invariant in
    let before = rw c.in-Some.is at read.0 in
    block_refused file more front (option_copied later) all c.in-Err-add_and_read.refused before (split_is more front later c.split_lines-in-Lawful.ensures.lines) (rw c.in-Err-add_and_read.is at c.add_and_read.ensures.refused)

pub loop-block-smaller : goal.loop-block-smaller
loop-block-smaller g c =
    let later = c.split_lines-in-Lawful.result.1 in
    let bytes = length c.in-Some.more.now in
    subst (λ rest. option_map_or (λ r. length r + 1) (option_copied later) 0 < option_map_or (λ r. length r + 1) (option_copied rest) 0) (sym c.in-Some.is)
    (rest_shorter later bytes c.split_lines-in-Lawful.ensures.shorter)

pub loop-block-preserved : goal.loop-block-preserved
loop-block-preserved g c =
    let file = c.args.file.now in
    let more = c.in-Some.more.now in
    let front = c.split_lines-in-Lawful.result.0.now in
    let later = c.split_lines-in-Lawful.result.1 in
    let all = c.loop-block.built ++ c.in-Lawful.events.items in
    let block = c.in-Ok-add_and_read.next.0 in
    let read = rw c.in-Lawful.is at c.loop-block.invariant in
    let before = rw c.in-Some.is at read.0 in
    let after = rw c.in-Ok-add_and_read.is at c.add_and_read.ensures.block in
    let built = rw c.in-Ok-add_and_read.is at c.add_and_read.ensures.built in
    let next = next_block file more front (option_copied later) all block before (split_is more front later c.split_lines-in-Lawful.ensures.lines) after in
    subst (λ (s : Trace). IsReadTo file (option_copied later) s block) (sym built) next
