use Rattle.std.proofs.Common.{◌≡◌, ◌∙◌, ◌+◌, ◌++◌, ◌∷◌, [], ℕ, List, length, map, slice_get, take, Some, sym, ap, subst, arith}
use Rattle.std.proofs.lemmas.List.{length-append, map-append, take_all, take_more}
use Rattle.std.proofs.lemmas.Option.{none-some, get_or_from_slice_get, slice_get_within}
use Rattle.trace_model.specs.Theory.Dependencies.{Dependency}
use Rattle.dependencies.specs.Tables.{table_dependencies}
use Rattle.lock_graph.specs.Graph.{holders}
use Rattle.cycle_search.specs.LockNumbers.{AreLockNumbers}
use Rattle.cycle_search.proofs.EdgeLemmas.{numbered-more, numbered-none}
use Rattle.cycle_search.proofs.lock_numbers.LockNumbers.new.Goals as goal

-- One more element.
take_at : {X : Type 0} (xs : List X) (n : ℕ) (x : X) → slice_get xs n ≡ Some x → take (n + 1) xs ≡ take n xs ++ x ∷ []
take_at xs n x at =
    let within = slice_get_within xs n x at in
    take_more xs n x within ∙ ap (λ y. take n xs ++ y ∷ []) (get_or_from_slice_get xs n x x at)

pub loop-number-init : goal.loop-number-init
loop-number-init c = record {
  locks = c.in_ok-locks.ensures.items;
  each = ap length c.in_ok-positions.ensures.items;
  counted = (c.in_ok-locks.ensures.len, c.in_ok-firsts.ensures.len);
  room = (omega (arith, c.in_ok-locks.ensures.capacity, c.len.ensures), omega (arith, c.in_ok-positions.ensures.capacity, c.len-2.ensures), omega (arith, c.in_ok-firsts.ensures.capacity, c.len-3.ensures));
  numbered = λ m n a b here x y holds. none-some 4294967295 (subst (λ (xs : List ℕ). slice_get xs m ≡ Some 4294967295) c.in_ok-positions.ensures.items here);
}

pub loop-number-preserved : goal.loop-number-preserved
loop-number-preserved c =
    let ds = table_dependencies c.args.table.now in
    let graph = c.args.graph.now in
    let old = c.loop-number.positions.items in
    let position = c.position-position.result in
    let pushed = c.push_reserved-in-loop-number.ensures.items in
    let v = c.loop-number.invariant in
    let lock : Dependency → ℕ = λ d. d.lock in
    let n = c.loop-number.number in
    record {
      locks = c.push_reserved.ensures.items
          ∙ (λ i. c.loop-number.invariant.locks i ++ ap lock c.behind-table.view_is i ∷ [])
          ∙ sym (ap (map lock) (take_at ds n c.get.result.now c.get.ensures) ∙ map-append lock (take n ds) (c.get.result.now ∷ []));
      each = omega (arith, ap length pushed, length-append old (position ∷ []), c.loop-number.invariant.each);
      counted = (omega (arith, c.push_reserved.ensures.len, v.counted.0), omega (arith, c.push_reserved-in-loop-number-2.ensures.len, v.counted.1));
      room = (omega (arith, c.push_reserved.ensures.capacity, v.room.0), omega (arith, c.push_reserved-in-loop-number.ensures.capacity, v.room.1), omega (arith, c.push_reserved-in-loop-number-2.ensures.capacity, v.room.2));
      numbered = subst (AreLockNumbers ds) (sym pushed) (numbered-more ds old c.loop-number.number position c.get.result.now c.loop-number.invariant.each c.get.ensures
          (λ none. numbered-none ds graph c.requires c.get.result.now.lock (ap (λ (d : Dependency). holders graph d.lock) (sym c.behind-table.view_is) ∙ c.position-position.ensures none))
          c.loop-number.invariant.numbered);
    }

pub returns-clause-locks : goal.returns-clause-locks
returns-clause-locks c =
    let ds = table_dependencies c.args.table.now in
    let end = take_all c.loop-number.number ds (omega (arith, c.loop-number-test.false, c.len-number-end.ensures)) in
    c.loop-number.invariant.locks ∙ ap (map (λ (d : Dependency). d.lock)) end
