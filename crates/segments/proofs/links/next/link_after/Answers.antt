use Rattle.std.proofs.Common.{◌+◌, refl, sym, subst, ◌∙◌, w32, arith}
use Rattle.std.proofs.Math.Facts.{Fits-below}
use Rattle.segments.specs.declared.links.link.Link.{Link}
use Rattle.segments.specs.Linking.{IsLink}
use Rattle.segments.proofs.Counting.{count_max}
use Rattle.segments.proofs.Linking.{IsEarlier, last_is, first_link, next_link}
use Rattle.segments.proofs.links.next.link_after.Given.{Over}
use Rattle.segments.proofs.links.next.link_after.Goals as goal
use Rattle.segments.proofs.links.next.link_after.Goals.{In-Some}

pub returns-in_default : goal.returns-in_default
returns-in_default g c =
    let test = g.L.Linked.matches c.args.list.now in
    let link : Link = record { number = 0; earlier = c.none.result; jump = c.args.index } in
    subst (λ n. IsLink test n link) (sym c.requires.index) (first_link test (g.L.Linked.size c.args.list.now) link (sym c.requires.last ∙ c.in_default.is) refl c.none.ensures c.requires.index)

is_last : (g : Over) (c : In-Some g) → IsEarlier (g.L.Linked.matches c.args.list.now) (g.L.Linked.size c.args.list.now) c.in-Some.before
is_last g c = last_is (g.L.Linked.matches c.args.list.now) (g.L.Linked.size c.args.list.now) c.in-Some.before (sym c.requires.last ∙ c.in-Some.is)

pub link_at-link-requires : goal.link_at-link-requires
link_at-link-requires g c = let e = is_last g c in record { within = e.below; passing = e.passes_is }

pub overflow_add-number : goal.overflow_add-number
overflow_add-number g c =
    let below = (is_last g c.before.before).below in
    let number = c.link_at-link.ensures.number_is in
    let most = count_max (g.L.Linked.matches c.args.list.now) c.in-Some.before in
    let short = c.ranges.index.fits in
    let at = c.requires.index in
    Fits-below {w = w32} {m = c.link_at-link.result.number + 1} {n = 4294967295} tt (omega arith)

pub further-requires : goal.further-requires
further-requires g c = let e = is_last g c.before.before.before in record { within = e.below; passing = e.passes_is; link = c.link_at-link.ensures }

pub at-requires : goal.at-requires
at-requires g c =
    let below = (is_last g c.before.before).below in
    let short = c.ranges.index.fits in
    let at = c.requires.index in
    omega arith

pub returns : goal.returns
returns g c =
    let link : Link = record { number = c.link_at-link.result.number + 1; earlier = c.at.result; jump = c.further.result } in
    subst (λ n. IsLink (g.L.Linked.matches c.args.list.now) n link) (sym c.requires.index)
    (next_link (g.L.Linked.matches c.args.list.now) (g.L.Linked.size c.args.list.now) c.in-Some.before c.link_at-link.result link (sym c.requires.last ∙ c.in-Some.is)
    c.link_at-link.ensures refl c.at.ensures c.further.ensures.within c.further.ensures.matches)
