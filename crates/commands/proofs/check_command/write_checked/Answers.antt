use Rattle.std.proofs.Common.{List, ℕ, sym, subst}
use Rattle.event_files.specs.ExplainedText.{contents_of}
use Rattle.commands.specs.Check.{ChecksAs, IsCheckOf, IsNotExplained}
use Rattle.commands.specs.Output.{IsJust}
use Rattle.commands.proofs.Outputs.{ends_as_weaker, just_is}
use Rattle.commands.proofs.check_command.write_checked.Goals as goal

pub returns : goal.returns
returns g c =
    let s = c.args.events.now in
    let file = c.args.file.now in
    let status = c.in_ok-text.field-0.status in
    let text = c.deref.result.now in
    let checks = subst (λ (t : List ℕ). IsCheckOf s (contents_of c.in_ok-explained.explained) status t) (sym c.deref.ensures.value) c.in_ok-text.ensures in
    let right : ChecksAs s file status text = (c.in_ok-explained.explained, c.in_ok-explained.ensures.read, checks) in
    ends_as_weaker (IsJust status text) (ChecksAs s file) _ (IsNotExplained file) c.write_text.result (g.O.Write.contents c.args.out.now) (g.O.Write.contents c.write_text.new.out)
    (just_is (ChecksAs s file) status text right) (λ none. absurd none) c.write_text.ensures
