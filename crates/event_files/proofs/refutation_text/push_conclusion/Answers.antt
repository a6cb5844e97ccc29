use Rattle.event_files.proofs.RefutationTexts.{added_four}
use Rattle.event_files.proofs.refutation_text.push_conclusion.Goals as goal

pub returns : goal.returns
returns c = added_four _ _ _ _ _ _ _ _ _ c.in_ok-push_place.ensures c.in_ok-push_number.ensures c.in_ok-extend_from_slice.ensures.items c.in_ok-push.ensures.items
