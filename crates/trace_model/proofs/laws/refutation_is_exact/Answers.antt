use Rattle.trace_model.proofs.Theory.Refutation.{derived_in_closure, refuted_not_confirmed}
use Rattle.trace_model.proofs.Theory.NotConfirmed.{not_confirmed_refuted}
use Rattle.trace_model.proofs.laws.refutation_is_exact.Goals as goal

pub returns-clause-derived : goal.returns-clause-derived
returns-clause-derived c = derived_in_closure

pub returns-clause-sound : goal.returns-clause-sound
returns-clause-sound c = refuted_not_confirmed

pub returns-clause-complete : goal.returns-clause-complete
returns-clause-complete c = not_confirmed_refuted
