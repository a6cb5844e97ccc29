use Rattle.std.proofs.Common.{◌≡◌, ◌+◌, suc, sym, ◌∙◌, ap, cond, length, Some, slice_get, take, arith}
use Rattle.std.proofs.lemmas.List.{take_all}
use Rattle.std.specs.Option.{option_or}
use Rattle.std.specs.Map.{lookup}
use Rattle.std.specs.HashMap.{get}
use Rattle.trace_index.specs.Links.{same_key}
use Rattle.trace_index.proofs.Keys.{get_same}
use Rattle.trace_index.proofs.KeyPositions.{over_next}
use Rattle.trace_index.proofs.places.record_all.Goals as goal

pub set_near-requires : goal.set_near-requires
set_near-requires c =
    let room = c.loop-index.invariant.room in
    let t = c.loop-index-test.true in
    let len = c.len-index-end.ensures.len in
    omega (arith, ap (λ m. length m.entries) c.later.view_is)

pub loop-index-init : goal.loop-index-init
loop-index-init c = record {
  within = omega arith;
  shown = λ q. ap (lookup (same_key q)) c.in_ok-reserve.ensures.entries ∙ ap (λ m. get same_key m q) c.places.view_is;
  room = let r = c.in_ok-reserve.ensures.ok in let len = c.len.ensures.len in omega (arith, ap (λ m. length m.entries) c.later.view_is);
}

pub loop-index-preserved : goal.loop-index-preserved
loop-index-preserved c =
    let i = c.loop-index.index in
    let es = c.args.later.now.entries in
    let k = c.in-Some.key.now in
    let p = c.in-Some.place.now in
    let next : suc i ≡ i + 1 = omega arith in
    let room = c.loop-index.invariant.room in
    let used = c.set_near.ensures.room in
    let t = c.loop-index-test.true in
    let len = c.len-index-end.ensures.len in
    record {
      within = omega (arith, ap (λ m. length m.entries) c.later.view_is);
      shown = λ q.
          let old = get same_key c.args.places.now q in
          c.set_near.ensures.last q ∙ ap (cond (same_key k q) (Some p)) (c.loop-index.invariant.shown q)
          ∙ over_next es i k q p old (ap (λ m. slice_get m.entries i) (sym c.later.view_is) ∙ sym c.in-Some.ensures.entry)
          (ap (λ m. get same_key m k) (sym c.later.view_is) ∙ sym (get_same c.later.inside.map k) ∙ c.in-Some.ensures.value)
          ∙ ap (λ n. option_or (lookup (same_key q) (take n es)) old) next;
      room = omega arith;
    }

pub returns-clause-ok : goal.returns-clause-ok
returns-clause-ok c = λ q.
    let es = c.args.later.now.entries in
    let past = c.loop-index-test.false in
    let len = c.len-index-end.ensures.len in
    c.loop-index.invariant.shown q ∙ ap (λ xs. option_or (lookup (same_key q) xs) (get same_key c.args.places.now q)) (take_all c.loop-index.index es (omega (arith, ap (λ m. length m.entries) c.later.view_is)))
