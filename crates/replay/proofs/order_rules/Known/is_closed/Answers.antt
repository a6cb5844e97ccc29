use Rattle.std.proofs.Common.{Some, None, sym, subst, ◌∙◌}
use Rattle.std.proofs.lemmas.Bool.{false≢true}
use Rattle.std.proofs.lemmas.Option.{none-some, same_Some, slice_get_within}
use Rattle.std.specs.List.{Contains}
use Rattle.trace_model.specs.Theory.Lookups.{release}
use Rattle.trace_model.proofs.Theory.Lookups.{release_so}
use Rattle.replay.proofs.Lists.{entry_is}
use Rattle.replay.proofs.order_rules.Known.is_closed.Goals as goal

pub is_passed-requires-clause-in_trace : goal.is_passed-requires-clause-in_trace
is_passed-requires-clause-in_trace c =
    let k = c.args.self.now in
    let q = c.args.place in
    let is = entry_is c.deref.result.now k.facts.now.releases.items q (Some c.in-Some.release) (release k.trace.now q) c.deref.ensures.value c.in-Some.ensures (c.requires.known.0.releases q c.requires.in_trace) in
    slice_get_within k.trace.now c.in-Some.release _ (release_so k.trace.now q c.in-Some.release is).3.1.0

pub returns-in-Some : goal.returns-in-Some
returns-in-Some c =
    let k = c.args.self.now in
    let q = c.args.place in
    let is = entry_is c.deref.result.now k.facts.now.releases.items q (Some c.in-Some.release) (release k.trace.now q) c.deref.ensures.value c.in-Some.ensures (c.requires.known.0.releases q c.requires.in_trace) in (
      λ h. (c.in-Some.release, is, c.is_passed.ensures.0 h),
      λ (r, e, m). c.is_passed.ensures.1 (subst (Contains k.passed.now) (same_Some r c.in-Some.release (sym e ∙ is)) m),
    )

pub returns-in-None : goal.returns-in-None
returns-in-None c =
    let k = c.args.self.now in
    let q = c.args.place in
    let is = entry_is c.deref.result.now k.facts.now.releases.items q None (release k.trace.now q) c.deref.ensures.value c.in-None.ensures (c.requires.known.0.releases q c.requires.in_trace) in
    (λ h. absurd (false≢true h), λ (r, e, m). absurd (none-some r (sym is ∙ e)))
