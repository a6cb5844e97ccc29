use Rattle.std.proofs.Common.{length, ap, arith}
use Rattle.segments.specs.declared.numbered.note.Note.{Note}
use Rattle.segments.proofs.Noted.{numbered_push, length_pairs, one_more}
use Rattle.segments.proofs.numbered.NumberedPlaces.record.Goals as goal

pub invariant_of-self : goal.invariant_of-self
invariant_of-self c =
    let i = c.self.inside in
    let note : Note = record { number = c.args.number; place = c.args.place; link = c.link_after-link.result } in
    let notes = ap (λ v. length v.notes) c.self.view_is in
    let pairs = length_pairs i.notes.0 in
    let few = c.requires.few in
    let numbers = ap (λ v. v.numbers) c.self.view_is in
    let numbers_few = c.self.invariant.numbers_few in
    let range = c.ranges.number.fits in
    let old_ok = i.heads.ok in
    let more = one_more c.args.number c.set_head.new.heads.len i.heads.len (omega arith) c.set_head.ensures.numbers in
    let ok = c.set_head.new.heads.ok in
    numbered_push i.notes.0 c.put.new.self.0 note i.heads.items c.set_head.new.heads.items c.len-index.result c.self.invariant c.put.ensures c.len-index.ensures
    c.link_after-link.ensures c.set_head.ensures.heads (omega arith) (omega arith)
