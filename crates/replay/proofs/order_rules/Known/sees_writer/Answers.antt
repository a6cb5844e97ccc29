use Rattle.std.proofs.Common.{◌≡◌, ℕ, nat_eq, Option, MatchOption, sym, subst, ◌∙◌, eqb}
use Rattle.std.proofs.lemmas.Option.{slice_get_within}
use Rattle.std.specs.HashMap.{get}
use Rattle.std.specs.Option.{option_eq}
use Rattle.trace_model.specs.declared.traces.event.Op.TheVariants.{Write}
use Rattle.trace_model.specs.Theory.Trace.{Does}
use Rattle.trace_model.specs.Theory.Lookups.{writer}
use Rattle.trace_model.specs.Theory.Walk.{LastIn}
use Rattle.trace_model.proofs.Theory.Lookups.{writer_of_read}
use Rattle.replay.specs.Tests.{NoWriteIn}
use Rattle.replay.proofs.Lists.{entry_is}
use Rattle.replay.proofs.LastPlaces.{kept_write}
use Rattle.replay.proofs.Verdicts.{sees_decided}
use Rattle.replay.proofs.order_rules.Known.sees_writer.Goals as goal

pub returns : goal.returns
returns c =
    let k = c.args.self.now in
    let s = k.trace.now in
    let passed = k.passed.now in
    let v = c.args.variable in
    let q = c.args.place in
    let w = c.entry.result in
    let known = c.requires.known in
    let is : writer s q ≡ w = entry_is c.deref.result.now k.facts.now.writers.items q w (writer s q) c.deref.ensures.value c.entry.ensures
    (known.0.writers q (slice_get_within s q _ c.requires.reads.1)) in
    let last = subst (λ o. MatchOption o (NoWriteIn s passed v) (λ w. LastIn s passed v w × Does s w (Write v))) (sym c.last.ensures)
    (kept_write s passed known.1.walked v (get nat_eq k.walked.now.writes v) (known.1.writes v)) in
    let d = sees_decided s passed v c.last.result w last (λ u e. (writer_of_read s q v u c.requires.reads (is ∙ e)).1) in
    let same : c.eq.result ≡ option_eq eqb c.last.result w = c.eq.ensures in
    let P : Option ℕ → Type 0 = λ o. MatchOption o (NoWriteIn s passed v) (LastIn s passed v) in
    (λ h. subst P (sym is) (d.0 (sym same ∙ h)), λ h. same ∙ d.1 (subst P is h))
