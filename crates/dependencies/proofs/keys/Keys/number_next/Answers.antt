use Rattle.std.proofs.Common.{◌≡◌, suc, ◌++◌, ◌∷◌, [], length, map, take, slice_get, Some, sym, ap, ◌∙◌, arith}
use Rattle.std.proofs.lemmas.List.{map-append, length_push}
use Rattle.trace_model.proofs.Lists.{take_next}
use Rattle.dependencies.specs.Hashing.{dependency_hash}
use Rattle.dependencies.proofs.keys.Keys.number_next.Goals as goal

pub invariant_of-self-2 : goal.invariant_of-self-2
invariant_of-self-2 c =
    let s = c.self.inside in
    let hs = s.numbers.hashes in
    let ds = s.list.0 in
    let f = dependency_hash s.state in
    let d = c.get.result.now in
    let hashes : c.push.new.self.hashes ≡ hs ++ c.hash_of-hash.result ∷ [] = c.push.ensures ∙ ap (λ xs. xs ++ c.hash_of-hash.result ∷ []) c.reserve.ensures.hashes in
    let count : length hs ≡ c.args.number = ap (λ l. l.numbered) c.self.view_is ∙ c.requires.next in
    let at : slice_get ds (length hs) ≡ Some d = ap (slice_get ds) count ∙ ap (λ l. slice_get l.keys c.args.number) c.self.view_is ∙ c.get.ensures in
    let next : take (suc (length hs)) ds ≡ take (length hs) ds ++ d ∷ [] = take_next (length hs) ds d at in
    let long : length c.push.new.self.hashes ≡ suc (length hs) = omega (arith, ap length hashes, length_push hs c.hash_of-hash.result) in
    record {
      once = c.self.invariant.once;
      first = hashes ∙ ap (λ xs. xs ++ c.hash_of-hash.result ∷ []) c.self.invariant.first ∙ ap (λ x. map f (take (length hs) ds) ++ x ∷ []) c.hash_of-hash.ensures
          ∙ sym (map-append f (take (length hs) ds) (d ∷ [])) ∙ ap (map f) (sym next) ∙ ap (λ n. map f (take n ds)) (sym long);
    }
