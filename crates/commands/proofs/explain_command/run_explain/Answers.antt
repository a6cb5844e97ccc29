use Rattle.commands.specs.Admission.{HasBadLine}
use Rattle.commands.specs.Explain.{PrintsChosen}
use Rattle.commands.proofs.Admissions.{admitted_ends, refused_ends}
use Rattle.commands.proofs.explain_command.run_explain.Goals as goal

pub returns-in-Err : goal.returns-in-Err
returns-in-Err g c =
    let trace = c.args.file.bytes.now in
    refused_ends (λ s. PrintsChosen s c.args.bound c.args.cycle.now) (HasBadLine trace) trace c.in-Err.status (g.O.Write.contents c.args.out.now) (g.O.Write.contents c.open.new.out) (λ wrong. wrong) c.in-Err.ensures.refused

pub returns : goal.returns
returns g c =
    let trace = c.args.file.bytes.now in
    admitted_ends (λ s. PrintsChosen s c.args.bound c.args.cycle.now) ⊥ (HasBadLine trace) trace c.in-Ok.snapshot c.write_chosen-ended.result c.reported.result (g.O.Write.contents c.args.out.now) (g.O.Write.contents c.open.new.out) (g.O.Write.contents c.write_chosen-ended.new.out)
    c.in-Ok.ensures.opened (λ none. absurd none) c.in-Ok.ensures.kept c.write_chosen-ended.ensures c.reported.ensures
