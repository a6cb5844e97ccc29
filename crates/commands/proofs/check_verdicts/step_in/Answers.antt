use Rattle.std.proofs.Common.{◌==◌, ◌≡◌, ◌∙◌, ap, length, sym}
use Rattle.std.specs.Prelude.{unwrap_or}
use Rattle.event_files.specs.ExplainedText.{StatedMember, stated_member}
use Rattle.commands.proofs.StepMembers.{position-map}
use Rattle.commands.proofs.check_verdicts.step_in.Goals as goal
use Rattle.commands.proofs.check_verdicts.step_in.Goals.{in-Some, in-None}

pub returns : goal.returns
returns c =
    let members = c.args.members.now in
    let step = c.args.step.now in
    let same = sym (position-map (λ (m : StatedMember). m.thread == step.thread) stated_member members) in
    let at : c.match-position_of.member ≡ unwrap_or c.position_of.result (length members) = elim c.match-position_of.branch [
      | in-Some w ↦ w.member-is ∙ ap (λ o. unwrap_or o (length members)) (sym w.in-Some.is)
      | in-None w ↦ w.member-is ∙ ap (λ o. unwrap_or o (length members)) (sym w.in-None.is)
    ] in
    let all = at ∙ ap (λ o. unwrap_or o (length members)) c.position_of.ensures ∙ same in
    λ i. record { member = all i; derivation = c.in_ok-derivation.ensures i }
