use Rattle.std.proofs.Common.{◌≡◌, position, ◌++◌, ◌∷◌, [], length, map, slice_get, Some, sym, ap, subst, ◌∙◌, arith}
use Rattle.std.proofs.lemmas.List.{map-append, length-map}
use Rattle.std.specs.List.{IsDistinct}
use Rattle.trace_model.specs.Theory.Dependencies.{same_dependency}
use Rattle.trace_model.proofs.Lists.{get-push_last}
use Rattle.dependencies.specs.Hashing.{dependency_hash}
use Rattle.dependencies.proofs.Shown.{take_past, unlisted, position_of}
use Rattle.dependencies.proofs.Numbering.{distinct_push, room_tells}
use Rattle.dependencies.proofs.keys.Keys.add.Goals as goal

all : (c : goal.After-put) → length c.self.inside.numbers.hashes ≡ length c.self.inside.list.0
all c = room_tells c.self.inside.list c.self.inside.numbers c.self.inside.state (ap (λ l. l.room) c.self.view_is ∙ c.requires.room)

puts : (c : goal.After-put) → c.put.new.self.0 ≡ c.self.inside.list.0 ++ c.args.dependency.now ∷ []
puts c = c.put.ensures ∙ ap (λ d. c.self.inside.list.0 ++ d ∷ []) c.copied.ensures

once : (c : goal.After-put) → IsDistinct same_dependency c.put.new.self.0
once c =
    let gone = ap (position (same_dependency c.args.dependency.now)) (ap (λ l. l.keys) c.self.view_is) ∙ c.requires.new in
    subst (IsDistinct same_dependency) (sym (puts c)) (distinct_push c.self.inside.list.0 c.args.dependency.now c.self.invariant.once (unlisted c.args.dependency.now c.self.inside.list.0 gone))

pub invariant_of-self : goal.invariant_of-self
invariant_of-self c =
    let s = c.self.inside in
    let hs = s.numbers.hashes in
    let ds = s.list.0 in
    let f = dependency_hash s.state in
    let count : length hs ≡ length ds = all c in
    let hash : c.args.hash ≡ f c.args.dependency.now = c.requires.hash ∙ ap (λ l. dependency_hash l.state c.args.dependency.now) (sym c.self.view_is) in
    let whole : c.push.new.self.hashes ≡ map f c.put.new.self.0 =
    c.push.ensures ∙ ap (λ xs. xs ++ c.args.hash ∷ []) (c.self.invariant.first ∙ ap (map f) (take_past (length hs) ds (omega arith)))
    ∙ ap (λ x. map f ds ++ x ∷ []) hash ∙ sym (map-append f ds (c.args.dependency.now ∷ [])) ∙ ap (map f) (sym (puts c)) in
    let long = ap length whole ∙ length-map c.put.new.self.0 f in
    record { once = once c; first = whole ∙ ap (map f) (sym (take_past (length c.push.new.self.hashes) c.put.new.self.0 (omega arith))) }

pub returns-clause-number : goal.returns-clause-number
returns-clause-number c =
    let ds = c.self.inside.list.0 in
    let here = ap (λ ks. slice_get ks (length ds)) (puts c) ∙ get-push_last ds c.args.dependency.now in
    position_of c.args.dependency.now c.put.new.self.0 (length ds) (once c) here ∙ ap Some (sym (c.len-number.ensures ∙ all c))
