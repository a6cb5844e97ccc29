use Rattle.std.proofs.Common.{lit<, Some, refl}
use Rattle.std.proofs.lemmas.Option.{none-some, some_pair_parts}
use Rattle.event_files.proofs.explained_lines.conclusion_in.Goals as goal

pub returns-in_err-place-clause-complete : goal.returns-in_err-place-clause-complete
returns-in_err-place-clause-complete c = λ thread place small is.
    absurd (none-some _ (c.in_err-place.ensures.complete place thread (small 1 0 (lit< tt)) (small 0 0 (lit< tt)) refl refl is))

pub returns-clause-complete : goal.returns-clause-complete
returns-clause-complete c = λ thread place small is.
    let pair = some_pair_parts _ _ _ _ (c.in_ok-place.ensures.complete place thread (small 1 0 (lit< tt)) (small 0 0 (lit< tt)) refl refl is) in
    λ i. Some (pair.1 i, pair.0 i)
