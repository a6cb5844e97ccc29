use Rattle.std.specs.Prelude.{codes}
use Rattle.commands.specs.Text.{labeled_line}
use Rattle.event_files.specs.Refutations.{label_and_number}
use Rattle.commands.proofs.Words.{added_twice}
use Rattle.commands.proofs.script_command.printing.push_rows.Goals as goal

pub returns : goal.returns
returns c = added_twice c.args.text.now.items c.push_number.new.text.items c.push_last.new.text.items (label_and_number (codes " cycles ") c.args.status.now.cycles) (labeled_line (codes " confirmed ") c.args.status.now.confirmed) c.in_ok-push_number.ensures c.in_ok-push_last.ensures
