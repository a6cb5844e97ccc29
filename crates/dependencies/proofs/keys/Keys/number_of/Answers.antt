use Rattle.std.proofs.Common.{◌≡◌, ◌==◌, false, length, sym, ap, subst, ◌∙◌}
use Rattle.std.proofs.lemmas.Option.{slice_get_within}
use Rattle.segments.proofs.Linking.{falls}
use Rattle.trace_model.specs.Theory.Dependencies.{same_dependency}
use Rattle.dependencies.specs.HashedNumbers.{passes_at, last_passing}
use Rattle.dependencies.proofs.Hashed.{last_up_to, skipped, stepped, last_passes, hash_here}
use Rattle.dependencies.proofs.Numbering.{HashTells, hash_tells, RoomTells, room_tells, none_position}
use Rattle.dependencies.proofs.keys.Keys.number_of.Goals as goal

pub loop-at-init : goal.loop-at-init
loop-at-init c =
    let v = c.args.self.now in
    let hs = c.self.inside.numbers.hashes in
    let complete = subst RoomTells c.self.view_is (room_tells c.self.inside.list c.self.inside.numbers c.self.inside.state) c.requires.room in
    let known = subst (HashTells hs) c.self.view_is (hash_tells c.self.inside.list c.self.inside.numbers c.self.inside.state c.self.invariant) in
    let all : length hs ≡ length v.keys = ap (λ w. w.numbered) c.self.view_is ∙ complete in
    record {
      here = λ m h. hash_here c.args.hash hs m (last_passes (passes_at (◌==◌ c.args.hash) hs) (length hs) m c.last-at.result c.last-at.ensures h).1;
      left = ap (last_up_to (same_dependency c.args.dependency.now) v.keys) (c.last-at.ensures ∙ ap (last_passing (◌==◌ c.args.hash) hs) all)
          ∙ sym (skipped (same_dependency c.args.dependency.now) v.keys (passes_at (◌==◌ c.args.hash) hs) (length v.keys)
          (λ j l. known c.args.hash c.args.dependency.now c.requires.hash complete j));
    }

earlier_is : (c : goal.After-earlier-at) → c.earlier-at.result ≡ last_passing (◌==◌ c.args.hash) c.self.inside.numbers.hashes c.in-Some.number
earlier_is c = c.earlier-at.ensures c.args.hash (c.loop-at.invariant.here c.in-Some.number c.in-Some.is)

pub earlier-at-requires : goal.earlier-at-requires
earlier-at-requires c = slice_get_within c.self.inside.numbers.hashes c.in-Some.number c.args.hash (c.loop-at.invariant.here c.in-Some.number c.in-Some.is)

pub loop-at-smaller : goal.loop-at-smaller
loop-at-smaller c =
    falls c.loop-at.at c.earlier-at.result c.in-Some.number c.in-Some.is
    (λ i h. (last_passes (passes_at (◌==◌ c.args.hash) c.self.inside.numbers.hashes) c.in-Some.number i c.earlier-at.result (earlier_is c) h).0)

pub loop-at-preserved : goal.loop-at-preserved
loop-at-preserved c =
    let v = c.args.self.now in
    let hs = c.self.inside.numbers.hashes in
    let m = c.in-Some.number in
    let test = passes_at (◌==◌ c.args.hash) hs in
    let complete = subst RoomTells c.self.view_is (room_tells c.self.inside.list c.self.inside.numbers c.self.inside.state) c.requires.room in
    let known = subst (HashTells hs) c.self.view_is (hash_tells c.self.inside.list c.self.inside.numbers c.self.inside.state c.self.invariant) in
    let fails : passes_at (same_dependency c.args.dependency.now) v.keys m ≡ false = sym c.is_at.ensures.there ∙ c.if-is_at.false in
    record {
      here = λ i h. hash_here c.args.hash hs i (last_passes test m i c.earlier-at.result (earlier_is c) h).1;
      left = ap (last_up_to (same_dependency c.args.dependency.now) v.keys) (earlier_is c)
          ∙ sym (stepped (same_dependency c.args.dependency.now) v.keys test m fails
          (λ j l. known c.args.hash c.args.dependency.now c.requires.hash complete j))
          ∙ ap (last_up_to (same_dependency c.args.dependency.now) v.keys) (sym c.in-Some.is) ∙ c.loop-at.invariant.left;
    }

pub returns : goal.returns
returns c =
    let v = c.args.self.now in
    let none = ap (last_up_to (same_dependency c.args.dependency.now) v.keys) (sym c.in_default.is) ∙ c.loop-at.invariant.left in
    sym (none_position v.keys c.args.dependency.now (sym none))
