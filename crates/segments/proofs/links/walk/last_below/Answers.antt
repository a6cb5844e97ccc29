use Rattle.std.proofs.Common.{◌≡◌, ◌≤◌, sym, ap, subst, ◌∙◌, arith}
use Rattle.std.proofs.lemmas.Option.{same_Some}
use Rattle.std.specs.Option.{IsSomeAnd}
use Rattle.trace_model.proofs.Theory.Places.{last_place_is}
use Rattle.segments.proofs.Linking.{last_is, earlier_is, jump_ok, covers, none_last, falls}
use Rattle.segments.proofs.links.walk.last_below.Goals as goal

pub loop-at-init : goal.loop-at-init
loop-at-init g c =
    let test = g.L.Linked.matches c.args.list.now in
    let size = g.L.Linked.size c.args.list.now in
    let w = c.requires.within in
    record {
      there = λ i h. let e = last_is test size i (sym c.requires.last ∙ h) in (e.below, e.passes_is);
      later = λ u l t. covers test size c.args.last c.requires.last u (omega arith) t;
    }

pub returns-then-index-bound : goal.returns-then-index-bound
returns-then-index-bound g c =
    let test = g.L.Linked.matches c.args.list.now in
    let here = c.loop-at.invariant.there c.in-Some.index c.in-Some.is in
    sym (last_place_is test c.args.bound c.in-Some.index (
      c.if-index-bound.true,
      here.1,
      λ u a l t.
          let most : u ≤ c.in-Some.index = subst (λ o. IsSomeAnd o (λ i. u ≤ i)) c.in-Some.is (c.loop-at.invariant.later u l t) in
          omega arith,
    ))

pub link_at-link-requires : goal.link_at-link-requires
link_at-link-requires g c = let here = c.loop-at.invariant.there c.in-Some.index c.in-Some.is in record { within = here.0; passing = here.1 }

pub loop-at-preserved-then-link-bound : goal.loop-at-preserved-then-link-bound
loop-at-preserved-then-link-bound g c =
    let test = g.L.Linked.matches c.args.list.now in
    let here = c.loop-at.invariant.there c.in-Some.index c.in-Some.is in
    let a = here.0 in
    let b = c.link_at-link.ensures.jump_within in
    let d = c.if-link-bound.true in
    let t = jump_ok test c.in-Some.index c.link_at-link.result c.link_at-link.ensures here.1 in
    record {
      there = λ i h. let same : c.link_at-link.result.jump ≡ i = same_Some c.link_at-link.result.jump i h in (omega arith, ap test (sym same) ∙ t);
      later = λ u l k. omega arith;
    }

pub loop-at-smaller : goal.loop-at-smaller
loop-at-smaller g c =
    falls c.loop-at.at c.get-at.result c.in-Some.index c.in-Some.is
    (λ i h. (earlier_is (g.L.Linked.matches c.args.list.now) c.in-Some.index i c.link_at-link.result c.link_at-link.ensures (sym c.get-at.ensures ∙ h)).below)

pub loop-at-preserved : goal.loop-at-preserved
loop-at-preserved g c =
    let test = g.L.Linked.matches c.args.list.now in
    let a = (c.loop-at.invariant.there c.in-Some.index c.in-Some.is).0 in
    let d = c.if-index-bound.false in
    record {
      there = λ i h.
          let e = earlier_is test c.in-Some.index i c.link_at-link.result c.link_at-link.ensures (sym c.get-at.ensures ∙ h) in
          let b = e.below in
          (omega arith, e.passes_is);
      later = λ u l t. covers test c.in-Some.index c.get-at.result (c.get-at.ensures ∙ c.link_at-link.ensures.earlier_is) u (omega arith) t;
    }

pub returns : goal.returns
returns g c = none_last (g.L.Linked.matches c.args.list.now) c.args.bound (λ u l t. subst (λ o. IsSomeAnd o (λ i. u ≤ i)) c.in_default.is (c.loop-at.invariant.later u l t))
