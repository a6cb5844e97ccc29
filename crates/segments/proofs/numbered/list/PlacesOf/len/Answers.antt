use Rattle.std.proofs.Common.{◌∙◌, sym, ap, length}
use Rattle.segments.proofs.Noted.{length_in}
use Rattle.segments.proofs.numbered.list.PlacesOf.len.Goals as goal

pub returns-clause-length : goal.returns-clause-length
returns-clause-length c =
    let i = c.self.inside in
    c.count_passing.ensures ∙ sym (length_in i.list.notes.now.0 i.list.number) ∙ ap length c.self.view_is
