use Rattle.std.proofs.Common.{◌≡◌, ℕ, ◌++◌, length, map, sym, ap, subst, ◌∙◌}
use Rattle.std.specs.List.{All}
use Rattle.std.proofs.lemmas.List.{length-map}
use Rattle.std.proofs.lemmas.Result.{on_ok_weaker}
use Rattle.trace_model.specs.Theory.Dependencies.{Dependency, dependencies}
use Rattle.event_files.specs.Refutations.{IsWritable, refutation_text}
use Rattle.reports.specs.Printed.{PrintedRow}
use Rattle.commands.proofs.PotentialRows.{length_named}
use Rattle.commands.proofs.explain_command.push_reasons.Goals as goal
use Rattle.commands.proofs.explain_command.push_reasons.Goals.{After-steps}

threads_are : (c : After-steps) → c.deref-2.result.now ≡ map (λ (d : Dependency). d.thread) c.args.row.now.dependencies
threads_are c =
    let thread : Dependency → ℕ = λ d. d.thread in
    c.deref-2.ensures.value ∙ c.in_ok-threads.ensures ∙ ap (map thread) (c.deref.ensures.value ∙ ap (λ (q : PrintedRow). q.dependencies) c.row.view_is)

pub push_refutation-requires : goal.push_refutation-requires
push_refutation-requires c =
    let p = c.args.row.now in
    let thread : Dependency → ℕ = λ d. d.thread in
    let (s, named, refuted) = c.requires in
    let lengths : length p.dependencies ≡ length p.row.cycle =
    ap (λ (q : PrintedRow). length q.dependencies) named.named ∙ length_named (dependencies s) p.row.cycle named.known in
    let threads = c.deref-2.result.now in
    let sized : length threads ≡ length p.row.cycle = ap length (threads_are c) ∙ length-map p.dependencies thread ∙ lengths in
    subst (All (IsWritable threads)) (sym c.steps.ensures) (c.refutations_are_writable.ensures s p.row.cycle threads c.args.refutation.now sized refuted)

pub returns : goal.returns
returns c =
    let old = c.args.text.now.items in
    on_ok_weaker c.push_refutation.result (λ e. e ∙ (λ i. old ++ refutation_text (threads_are (goal.at.returns c).After-steps i) (c.steps.ensures i))) c.push_refutation.ensures
