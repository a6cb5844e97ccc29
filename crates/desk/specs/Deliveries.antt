-- The outcome of one delivered finding (this project's profile).
use Rattle.std.specs.Prelude.{◌≡◌, [], ◌∷◌, ◌++◌, None, Ok, Err}
use Rattle.trace_model.specs.declared.refusal.Refusal.{Refusal}
use Rattle.snapshots.specs.Found.{AreRowsOf, RowsOfTask}
use Rattle.sequencer.specs.Deliveries.{DeliveryResult, delivery}
use Rattle.desk.specs.Published.{DeskView, delivery_step}
use Rattle.desk.specs.Refused.{RefusesFinding}

-- the machine takes the finding, its step is published, and its rows are exact
pub record IsTaken (old new : DeskView) (f : RowsOfTask) : Type 0 where
  pub taken : delivery old.state f ≡ (None, new.state)
  pub published : new.published ≡ old.published ++ delivery_step f ∷ []
  pub exact : AreRowsOf f.events f.bound f.task f.rows

-- the finding is refused and given back; nothing changes
pub record IsHandedBack (old new : DeskView) (f : RowsOfTask)
    (refused : Refusal × RowsOfTask) : Type 0 where
  pub refuses : RefusesFinding old.state f refused.0
  pub back : refused.1 ≡ f
  pub same : new ≡ old

-- the outcome of the finding is right
abbrev pub WentSo : DeskView → DeskView → RowsOfTask → DeliveryResult → Type 0
WentSo old new f (Ok u) = IsTaken old new f
WentSo old new f (Err refused) = IsHandedBack old new f refused
