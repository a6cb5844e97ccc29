use Rattle.std.proofs.Common.{◌≡◌, List, ℕ, ◌++◌, ap, subst, ◌∙◌}
use Rattle.replay.specs.Verdict.{IsVerdict}
use Rattle.commands.specs.Output.{IsJust}
use Rattle.commands.specs.Replay.{HasWrongWitness, VerdictPrints, verdict_line}
use Rattle.commands.proofs.Outputs.{ends_as_weaker, just_is}
use Rattle.commands.proofs.replay_command.write_verdict.Goals as goal

pub returns : goal.returns
returns g c =
    let v = c.in_ok-verdict.verdict in
    let w = c.in_ok-witness.witness in
    let status = c.status_of.result in
    let text = c.deref-2.result.now in
    let prints = VerdictPrints c.args.events.now c.args.witness.now in
    let verdict = subst (λ (order : List ℕ). IsVerdict c.args.events.now order w.instance v) c.deref.ensures.value c.in_ok-verdict.ensures.verdict in
    let line : text ≡ verdict_line v = c.deref-2.ensures.value ∙ (c.in_ok-push_verdict.ensures ∙ ap (λ l. l ++ verdict_line v) c.new-text.ensures.items) in
    let right : prints status text = (v, (w.instance, w.order.items, c.in_ok-witness.ensures.witness, verdict), c.status_of.ensures, line) in
    ends_as_weaker (IsJust status text) prints _ (HasWrongWitness c.args.witness.now) c.write_text.result (g.O.Write.contents c.args.out.now) (g.O.Write.contents c.write_text.new.out)
    (just_is prints status text right) (λ none. absurd none) c.write_text.ensures
