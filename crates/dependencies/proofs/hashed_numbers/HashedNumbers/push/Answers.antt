use Rattle.std.proofs.Common.{◌≡◌, ◌==◌, ℕ, cond, length, Some, sym, ap, subst, ◌∙◌, arith}
use Rattle.std.proofs.lemmas.List.{length-map}
use Rattle.std.specs.HashMap.{get}
use Rattle.dependencies.specs.declared.hashed_numbers.Link.{Link}
use Rattle.dependencies.specs.HashedNumbers.{AreLinked, passes_at, hashes_of}
use Rattle.dependencies.proofs.Hashed.{linked_push, is_below}
use Rattle.dependencies.proofs.hashed_numbers.HashedNumbers.push.Goals as goal

pub maybe_index-earlier-requires : goal.maybe_index-earlier-requires
maybe_index-earlier-requires c =
    let i = c.self.inside in
    is_below (passes_at (◌==◌ c.args.hash) (hashes_of i.links.items)) (length i.links.items) c.in-Ok.before (c.in-Ok.ensures.old ∙ c.self.invariant.last c.args.hash)
    (omega (arith, c.requires.few, ap (λ v. length v.hashes) c.self.view_is, length-map i.links.items (λ (x : Link). x.hash)))

pub invariant_of-self : goal.invariant_of-self
invariant_of-self c =
    let i = c.self.inside in
    let x : Link = record { hash = c.args.hash; earlier = c.maybe_index-earlier.result } in
    let number = c.len-number.ensures ∙ i.links.ok.0 in
    let put : (q : ℕ) → get (◌==◌) c.insert.new.self q ≡ cond (c.args.hash == q) (Some (length i.links.items)) (get (◌==◌) i.lasts q) =
    λ q. c.in-Ok.ensures.updates.0 q ∙ ap (λ n. cond (c.args.hash == q) (Some n) (get (◌==◌) i.lasts q)) number in
    subst (AreLinked c.insert.new.self) (sym c.push_reserved.ensures.items)
    (linked_push i.lasts c.insert.new.self i.links.items x c.self.invariant (c.maybe_index-earlier.ensures ∙ c.in-Ok.ensures.old) put)
