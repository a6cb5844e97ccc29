use Rattle.std.proofs.Common.{◌∙◌, sym}
use Rattle.std.proofs.lemmas.List.{length-map}
use Rattle.event_files.specs.ExplainedText.{StatedCycle, is_witness, stated_cycle}
use Rattle.commands.proofs.HeadCounts.{count-map, none_longer, one_longer}
use Rattle.std.proofs.Common.{refl}
use Rattle.commands.proofs.check_verdicts.head_verdict.Goals as goal

pub returns-then-has_longer : goal.returns-then-has_longer
returns-then-has_longer c = (c.if-head-events.false, one_longer c.args.head.now.bound c.args.cycles.now (sym c.has_longer.ensures ∙ c.if-has_longer.true), refl)

pub returns-then-head-cycles : goal.returns-then-head-cycles
returns-then-head-cycles c =
    let cycles = c.args.cycles.now in
    let long = length-map cycles stated_cycle in
    (c.if-head-events.false, none_longer c.args.head.now.bound cycles (sym c.has_longer.ensures ∙ c.if-has_longer.false), λ same. c.if-head-cycles.true (same ∙ long), sym long)

pub returns-then-head-confirmed : goal.returns-then-head-confirmed
returns-then-head-confirmed c =
    let cycles = c.args.cycles.now in
    let long = length-map cycles stated_cycle in
    let counted = c.confirmed_among-confirmed.ensures ∙ count-map (λ (r : StatedCycle). is_witness r.evidence) stated_cycle cycles in
    (c.if-head-events.false, none_longer c.args.head.now.bound cycles (sym c.has_longer.ensures ∙ c.if-has_longer.false), c.if-head-cycles.false ∙ sym long, λ same. c.if-head-confirmed.true (same ∙ sym counted), counted)

pub returns-else-head-confirmed : goal.returns-else-head-confirmed
returns-else-head-confirmed c =
    let cycles = c.args.cycles.now in
    let long = length-map cycles stated_cycle in
    let counted = c.confirmed_among-confirmed.ensures ∙ count-map (λ (r : StatedCycle). is_witness r.evidence) stated_cycle cycles in
    (c.if-head-events.false, none_longer c.args.head.now.bound cycles (sym c.has_longer.ensures ∙ c.if-has_longer.false), c.if-head-cycles.false ∙ sym long, c.if-head-confirmed.false ∙ counted)
