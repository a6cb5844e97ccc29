use Rattle.std.proofs.Common.{refl, ap}
use Rattle.trace_model.proofs.Theory.Growing.{well_formed_nil}
use Rattle.wellformed.specs.Owners.{owner_in}
use Rattle.wellformed.specs.Threads.{thread_in}
use Rattle.wellformed.proofs.TableSteps.{tables-none}
use Rattle.wellformed.proofs.tables.AdmissionTables.new.Goals as goal

pub returns : goal.returns
returns c = record {
  counted = refl;
  well_formed = well_formed_nil;
  shown = tables-none _ _ (λ t. ap (λ m. thread_in m t) c.new.ensures) (λ l. ap (λ m. owner_in m l) c.new-2.ensures);
}
