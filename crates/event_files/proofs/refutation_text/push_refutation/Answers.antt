use Rattle.std.proofs.Common.{◌++◌, ap, ◌∙◌}
use Rattle.event_files.specs.Refutations.{step_text}
use Rattle.event_files.proofs.RefutationTexts.{one_more_item}
use Rattle.event_files.proofs.refutation_text.push_refutation.Goals as goal

pub loop-step-preserved : goal.loop-step-preserved
loop-step-preserved c =
    one_more_item (step_text c.args.threads.now) c.args.steps.now c.loop-step.step-index c.step-item.result c.args.text.now.items c.loop-step.text.items c.push_step.new.text.items
    c.loop-step-test.true c.loop-step.invariant (c.in_ok-push_step.ensures ∙ ap (λ st. c.loop-step.text.items ++ step_text c.args.threads.now st) c.step-item.is)
