use Rattle.std.proofs.Common.{◌∙◌, sym, ap, length, slice_get, arith, Some}
use Rattle.trace_model.specs.Theory.Closure.{ascending_places}
use Rattle.segments.proofs.Counting.{length_ascending, nth}
use Rattle.trace_index.specs.Links.{matches, trace_of}
use Rattle.trace_index.proofs.key_places.KeyPlaces.get.Goals as goal

pub place_at-requires-clause-number : goal.place_at-requires-clause-number
place_at-requires-clause-number c =
    let i = c.self.inside in
    let n = length_ascending (matches (trace_of i.list.rows.now.0) i.list.key) (length i.list.rows.now.0) in
    let same = ap length c.self.view_is in
    let more = c.requires in
    let count = c.count-count.ensures in
    omega arith

pub returns : goal.returns
returns c =
    let i = c.self.inside in
    let test = matches (trace_of i.list.rows.now.0) i.list.key in
    ap (λ xs. slice_get xs c.args.index) (sym c.self.view_is)
    ∙ ap (slice_get (ascending_places test (length i.list.rows.now.0))) (sym c.place_at.ensures.number)
    ∙ nth test (length i.list.rows.now.0) c.place_at.result c.place_at.ensures.within c.place_at.ensures.matches ∙ ap Some (sym c.new.ensures)
