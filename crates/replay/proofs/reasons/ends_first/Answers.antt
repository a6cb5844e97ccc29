use Rattle.std.proofs.Common.{slice_get, ap, sym, ◌∙◌}
use Rattle.std.proofs.lemmas.Bool.{false≢true}
use Rattle.replay.proofs.ReasonTests.{one_lock}
use Rattle.replay.proofs.reasons.ends_first.Goals as goal

pub returns-then-not-begin_on_one_lock : goal.returns-then-not-begin_on_one_lock
returns-then-not-begin_on_one_lock c s are a b =
    let lock = one_lock s c.args.facts.now.begins.items are.begins c.args.first c.args.second a b in
    (λ h. absurd (false≢true h), λ (l, one, r). let x = lock.1 one in sym c.if-not-begin_on_one_lock.true ∙ c.begin_on_one_lock.ensures.1 (x.0, ap (λ xs. slice_get xs c.args.first) c.deref.ensures.value ∙ x.1, ap (λ xs. slice_get xs c.args.second) c.deref.ensures.value ∙ x.2))
