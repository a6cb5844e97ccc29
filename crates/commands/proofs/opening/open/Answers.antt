use Rattle.commands.specs.Admission.{HasBadLine, refused_at_line}
use Rattle.commands.specs.Output.{IsJust}
use Rattle.commands.specs.Replay.{UnlawfulPrints}
use Rattle.commands.specs.declared.exit.Status.TheVariants.{Refused}
use Rattle.commands.proofs.Admissions.{unlawful_prints}
use Rattle.commands.proofs.Outputs.{ends_as_weaker, reported_ends}
use Rattle.commands.proofs.opening.open.Goals as goal

pub returns-in-Ok-Refused-clause-refused : goal.returns-in-Ok-Refused-clause-refused
returns-in-Ok-Refused-clause-refused g c =
    let trace = c.args.trace.bytes.now in
    let before = g.O.Write.contents c.args.out.now in
    let after = g.O.Write.contents c.write_unlawful-ended.new.out in
    let first = c.in-Ok-Refused.first in
    let refused = rw c.in-Ok-Refused.field-0-is at c.in-Ok-Refused.ensures.opening in
    reported_ends (UnlawfulPrints trace) (HasBadLine trace) c.write_unlawful-ended.result c.reported.result before after
    (ends_as_weaker (IsJust Refused (refused_at_line first)) (UnlawfulPrints trace) _ (HasBadLine trace) c.write_unlawful-ended.result before after
    (λ s x just. unlawful_prints trace first refused s x just) (λ none. absurd none) c.write_unlawful-ended.ensures) c.reported.ensures
