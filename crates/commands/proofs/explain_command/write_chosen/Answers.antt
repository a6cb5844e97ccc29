use Rattle.std.proofs.Common.{ℕ, List, Option, sym, subst}
use Rattle.std.specs.Arc.{arc_value}
use Rattle.trace_model.specs.Theory.Trace.{Trace}
use Rattle.commands.specs.Explain.{PrintsAllOf, PrintsChosen, PrintsOneOf}
use Rattle.commands.specs.Output.{EndsWithResult}
use Rattle.commands.proofs.explain_command.write_chosen.Goals as goal

pub returns-in-Some : goal.returns-in-Some
returns-in-Some g c =
    let before = g.O.Write.contents c.args.out.now in
    let after = g.O.Write.contents c.write_one.new.out in
    let n = c.in-Some.cycle in
    let r = c.write_one.result in
    subst (λ (x : Option (List ℕ)). EndsWithResult (PrintsChosen c.args.snapshot c.args.bound x) ⊥ r before after) (sym c.in-Some.is)
    (subst (λ (b : ℕ). EndsWithResult (PrintsOneOf c.args.snapshot b n) ⊥ r before after) c.in_ok-analysis.ensures.1
    (subst (λ (s : Trace). EndsWithResult (PrintsOneOf s (arc_value c.in_ok-analysis.analysis).bound n) ⊥ r before after) c.in_ok-analysis.ensures.0 c.write_one.ensures))

pub returns-in-None : goal.returns-in-None
returns-in-None g c =
    let before = g.O.Write.contents c.args.out.now in
    let after = g.O.Write.contents c.write_all.new.out in
    let r = c.write_all.result in
    subst (λ (x : Option (List ℕ)). EndsWithResult (PrintsChosen c.args.snapshot c.args.bound x) ⊥ r before after) (sym c.in-None.is)
    (subst (λ (b : ℕ). EndsWithResult (PrintsAllOf c.args.snapshot b) ⊥ r before after) c.in_ok-analysis.ensures.1
    (subst (λ (s : Trace). EndsWithResult (PrintsAllOf s (arc_value c.in_ok-analysis.analysis).bound) ⊥ r before after) c.in_ok-analysis.ensures.0 c.write_all.ensures))
