use Rattle.std.proofs.Common.{◌∙◌, sym, ap, length, slice_get, arith}
use Rattle.std.proofs.lemmas.Option.{none-some}
use Rattle.trace_model.proofs.Lists.{at_index}
use Rattle.segments.specs.Notes.{pairs_of, noted_places}
use Rattle.segments.proofs.Noted.{length_in, nth_in, get_pair}
use Rattle.segments.proofs.numbered.list.PlacesOf.get.Goals as goal

pub entry_at-found-requires : goal.entry_at-found-requires
entry_at-found-requires c =
    let i = c.self.inside in
    let n = length_in i.list.notes.now.0 i.list.number in
    let same = ap length c.self.view_is in
    let more = c.requires in
    record { last = c.self.invariant.last_is; number = omega arith; few = c.self.invariant.few }

pub unreachable-requires : goal.unreachable-requires
unreachable-requires c =
    let x = at_index c.self.inside.list.notes.now.0 c.entry_at-found.result c.entry_at-found.ensures.within in
    none-some x.0 (c.in_default.ensures ∙ x.1)

pub returns : goal.returns
returns c =
    let i = c.self.inside in
    let note = c.in-Some.note in
    let found = get_pair i.list.notes.now.0 c.entry_at-found.result note (sym c.in-Some.ensures) in
    ap (λ xs. slice_get xs c.args.index) (sym c.self.view_is)
    ∙ ap (slice_get (noted_places (pairs_of i.list.notes.now.0) i.list.number)) (sym c.entry_at-found.ensures.number)
    ∙ nth_in (pairs_of i.list.notes.now.0) i.list.number c.entry_at-found.result (note.number, note.place) found c.entry_at-found.ensures.matches
