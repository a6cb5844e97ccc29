use Rattle.std.proofs.Common.{◌∙◌, sym, ap, subst, length}
use Rattle.std.specs.List.Sorted.{IsStrictlyIncreasing}
use Rattle.trace_model.proofs.Theory.Unique.{ascending_strict}
use Rattle.segments.proofs.Counting.{length_ascending}
use Rattle.trace_index.specs.Links.{matches, trace_of}
use Rattle.trace_index.proofs.key_places.KeyPlaces.len.Goals as goal

pub returns-clause-length : goal.returns-clause-length
returns-clause-length c =
    let i = c.self.inside in
    c.count.ensures ∙ sym (length_ascending (matches (trace_of i.list.rows.now.0) i.list.key) (length i.list.rows.now.0)) ∙ ap length c.self.view_is

pub returns-clause-ascends : goal.returns-clause-ascends
returns-clause-ascends c =
    let i = c.self.inside in
    subst IsStrictlyIncreasing c.self.view_is (ascending_strict (matches (trace_of i.list.rows.now.0) i.list.key) (length i.list.rows.now.0))
