use Rattle.std.proofs.Common.{◌++◌, ap, ◌∙◌}
use Rattle.std.proofs.lemmas.Result.{IfOk-weaker}
use Rattle.trace_model.specs.Theory.Trace.{Trace}
use Rattle.snapshots.proofs.snapshot.Snapshot.build.Goals as goal

pub returns : goal.returns
returns g c = IfOk-weaker c.into_snapshot.result _ _ (λ snapshot is. is ∙ c.in_ok-extended.ensures ∙ ap (λ (s : Trace). s ++ c.args.events.now) c.new.ensures) c.into_snapshot.ensures
