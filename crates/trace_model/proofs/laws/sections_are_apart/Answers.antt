use Rattle.trace_model.proofs.Theory.Sections.{released_between}
use Rattle.trace_model.proofs.Theory.Lookups.{release_of_acquire}
use Rattle.trace_model.proofs.laws.sections_are_apart.Goals as goal

pub returns-clause-own : goal.returns-clause-own
returns-clause-own c s w p t l r begins e = let is = release_of_acquire s p t l r begins e in (is.0, is.1)

pub returns-clause-apart : goal.returns-clause-apart
returns-clause-apart c = released_between
