use Rattle.std.proofs.Common.{◌≡◌, ◌<◌, ◌-◌, ◌+◌, ◌++◌, inl, inr, length, refl, sym, ap, ◌∙◌, arith}
use Rattle.std.proofs.lemmas.List.{set-get_or}
use Rattle.std.specs.Prelude.{vec_len, option_to_list, slice_set}
use Rattle.std.specs.Vec.{with_item}
use Rattle.lock_graph.specs.Graph.{holders_at}
use Rattle.cycle_search.specs.declared.tarjan.Walk.{Walk}
use Rattle.cycle_search.proofs.Remaining.{on-followed, on-left, stays-left, enters-left}
use Rattle.cycle_search.proofs.tarjan.Walk.step.Goals as goal

pub returns-in_ok-follow-in-Some-get : goal.returns-in_ok-follow-in-Some-get
returns-in_ok-follow-in-Some-get c more =
    let graph = holders_at c.args.graph.now (length c.args.positions.now) in
    let walk = c.args.self.now in
    let frame = c.in-Some.frame.now in
    let item = c.in-Some.ensures.item in
    let edge = c.in-Some-get.ensures.lookup in
    let last = vec_len walk.path - 1 in
    let inside : last < length walk.path.items = omega (arith, item.3.0) in
    let unread : frame.followed < length (graph frame.lock) = omega (arith, edge.3.0, ap length c.at.ensures) in
    let fell = on-followed graph walk.path.items last frame inside (c.in-Some.ensures.value) unread in
    let mid : Walk = record walk { path = with_item walk.path last (record { lock = frame.lock; followed = frame.followed + 1 }) } in
    elim c.in_ok-follow-in-Some-get.ensures [
      | inl stays ↦ omega (arith, fell, stays-left graph mid c.follow.new.self stays)
      | inr enters ↦ omega (arith, fell, enters-left graph mid c.follow.new.self _ enters)
    ]

pub returns-in-None : goal.returns-in-None
returns-in-None c more =
    let graph = holders_at c.args.graph.now (length c.args.positions.now) in
    let walk = c.args.self.now in
    let frame = c.in-Some.frame.now in
    let last = vec_len walk.path - 1 in
    let same : slice_set walk.path.items last frame ≡ walk.path.items = ap (slice_set walk.path.items last) c.in-Some.ensures.value ∙ set-get_or walk.path.items last frame in
    let popped = c.pop.ensures.value frame (c.in-Some.ensures.variant.0 refl) in
    let parts = sym same ∙ c.pop.ensures.items ∙ ap (λ o. c.pop.new.self.items ++ option_to_list o) popped in
    let fell = on-left graph walk.path.items c.pop.new.self.items _ parts in
    let mid : Walk = record walk { path = c.pop.new.self } in
    omega (arith, fell, stays-left graph mid c.leave.new.self c.leave.ensures)
