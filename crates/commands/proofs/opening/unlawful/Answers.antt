use Rattle.std.proofs.Common.{◌++◌}
use Rattle.commands.proofs.AdmittedBlocks.{last_before, more_unlawful}
use Rattle.commands.proofs.opening.unlawful.Goals as goal

pub returns-in_default-read_events-clause-opening :
    goal.returns-in_default-read_events-clause-opening
returns-in_default-read_events-clause-opening c =
    let (s, before, unlawful) = c.requires in
    let (events, are, is) = c.in_default-read_events.ensures.events in
    let to_rest = rw c.in-Some.is at before in
    (s ++ events, last_before c.args.file.now c.in-Some.text.now s events to_rest are, more_unlawful s events c.args.first unlawful)
