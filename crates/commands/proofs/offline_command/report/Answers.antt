use Rattle.std.proofs.Common.{List, ℕ, subst}
use Rattle.commands.specs.Admission.{HasBadLine}
use Rattle.commands.specs.Offline.{OfflinePrints, ReportPrints, refused_line}
use Rattle.commands.specs.Opening.{IsOpeningOf}
use Rattle.commands.specs.Output.{IsJust}
use Rattle.commands.specs.declared.exit.Status.TheVariants.{Refused}
use Rattle.offline_report.specs.declared.refused.OfflineRefused.TheVariants.{Unlawful}
use Rattle.commands.proofs.FirstEvents.{unlawful_report}
use Rattle.commands.proofs.Outputs.{ends_as_weaker, just_is}
use Rattle.commands.proofs.offline_command.report.Goals as goal

pub returns-in-Opened : goal.returns-in-Opened
returns-in-Opened g c =
    let file = c.args.file.items in
    let bound = c.args.bound in
    let s = c.in-Opened.snapshot in
    let opening = subst (λ (f : List ℕ). IsOpeningOf f c.in_ok-snapshot.field-0) c.deref.ensures.value c.in_ok-snapshot.ensures.opening in
    let are = rw c.in-Opened.is at opening in
    ends_as_weaker (ReportPrints s bound) (OfflinePrints file bound) _ (HasBadLine file) c.report_snapshot.result (g.O.Write.contents c.args.out.now) (g.O.Write.contents c.report_snapshot.new.out)
    (λ status text prints. (s, are.0, prints)) (λ none. absurd none) c.report_snapshot.ensures

pub returns-in-Refused : goal.returns-in-Refused
returns-in-Refused g c =
    let file = c.args.file.items in
    let bound = c.args.bound in
    let first = c.in-Refused.first in
    let line = refused_line (Unlawful first) in
    let opening = subst (λ (f : List ℕ). IsOpeningOf f c.in_ok-snapshot.field-0) c.deref.ensures.value c.in_ok-snapshot.ensures.opening in
    let unlawful = rw c.in-Refused.is at opening in
    ends_as_weaker (IsJust Refused line) (OfflinePrints file bound) _ (HasBadLine file) c.write_refused.result (g.O.Write.contents c.args.out.now) (g.O.Write.contents c.write_refused.new.out)
    (just_is (OfflinePrints file bound) Refused line (unlawful_report file bound first unlawful)) (λ none. absurd none) c.write_refused.ensures
