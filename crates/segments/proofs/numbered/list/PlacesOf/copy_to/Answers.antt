use Rattle.std.proofs.Common.{◌∙◌, sym, ap, subst, length, slice_set, arith}
use Rattle.std.proofs.lemmas.Option.{none-some}
use Rattle.trace_model.proofs.Lists.{at_index}
use Rattle.segments.proofs.Followed.{IsFollowed, followed_none, followed_within, followed_falls, followed_more, followed_all}
use Rattle.segments.proofs.numbered.list.PlacesOf.copy_to.Goals as goal

pub loop-at-init : goal.loop-at-init
loop-at-init c =
    let i = c.self.inside in
    followed_none i.list.notes.now.0 i.list.number i.last c.resize.new.self.items c.self.invariant.last_is
    (omega (arith, c.in_ok-resize.ensures.len, c.resize.new.self.ok.0, c.len.ensures.length, ap length c.self.view_is))

pub unreachable-requires : goal.unreachable-requires
unreachable-requires c =
    let x = at_index c.self.inside.list.notes.now.0 c.in-Some.index (c.loop-at.invariant.there c.in-Some.index c.in-Some.is).0 in
    none-some x.0 (sym c.in_default-get.is ∙ c.get.ensures ∙ x.1)

pub index_mut-requires : goal.index_mut-requires
index_mut-requires c =
    let i = c.self.inside in
    omega (
      arith,
      followed_within i.list.notes.now.0 i.list.number c.in-Some.index c.in-Some-get.note c.loop-at.places.items i.list.linked (subst (λ o. IsFollowed i.list.notes.now.0 i.list.number o c.loop-at.places.items) c.in-Some.is c.loop-at.invariant) (sym c.in-Some-get.is ∙ c.get.ensures),
      c.loop-at.places.ok.0,
    )

pub loop-at-smaller : goal.loop-at-smaller
loop-at-smaller c =
    let i = c.self.inside in
    followed_falls i.list.notes.now.0 i.list.number c.in-Some.index c.loop-at.at c.get-at.result c.in-Some-get.note c.loop-at.places.items i.list.linked (subst (λ o. IsFollowed i.list.notes.now.0 i.list.number o c.loop-at.places.items) c.in-Some.is c.loop-at.invariant)
    (sym c.in-Some-get.is ∙ c.get.ensures) c.in-Some.is c.get-at.ensures

pub loop-at-preserved : goal.loop-at-preserved
loop-at-preserved c =
    let i = c.self.inside in
    subst (λ o. IsFollowed i.list.notes.now.0 i.list.number o (slice_set c.loop-at.places.items c.in-Some-get.note.link.number c.in-Some-get.note.place)) (sym c.get-at.ensures)
    (followed_more i.list.notes.now.0 i.list.number c.in-Some.index c.in-Some-get.note c.loop-at.places.items i.list.linked (subst (λ o. IsFollowed i.list.notes.now.0 i.list.number o c.loop-at.places.items) c.in-Some.is c.loop-at.invariant) (sym c.in-Some-get.is ∙ c.get.ensures))

pub returns : goal.returns
returns c =
    let i = c.self.inside in
    followed_all i.list.notes.now.0 i.list.number c.loop-at.at c.loop-at.places.items c.loop-at.invariant c.in_default.is ∙ c.self.view_is
