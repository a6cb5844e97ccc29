use Rattle.std.proofs.Common.{sym, ap, ◌∙◌}
use Rattle.replay.specs.OpenSections.{begun_if}
use Rattle.replay.proofs.sections.begun_by.Goals as goal

pub returns-in-Some : goal.returns-in-Some
returns-in-Some c = rw c.in-Acquire.is (ap (begun_if c.in-Acquire.lock) (sym c.in-Some.is ∙ c.section.ensures))
