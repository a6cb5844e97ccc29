use Rattle.std.proofs.Common.{◌≡◌, suc, ◌+◌, ◌≤◌, get_or, length, Some, sym, ap, subst, ◌∙◌, arith}
use Rattle.std.proofs.lemmas.Option.{slice_get-get_or}
use Rattle.trace_model.specs.Theory.Trace.{event}
use Rattle.trace_model.proofs.Lists.{length-push}
use Rattle.trace_model.proofs.Theory.OneMore.{length_well_formed}
use Rattle.held_sets.specs.Tables as Held
use Rattle.dependencies.specs.Tables.{AllBelow, HasDependenciesOf, next_of}
use Rattle.replay.proofs.FactLists.{no_event}
use Rattle.replay.proofs.NumberTables.{Noted, Lists, follows_more, lists_more}
use Rattle.replay.proofs.numbers.numbers_of.Goals as goal

pub overflow_cast-index : goal.overflow_cast-index
overflow_cast-index c = omega (arith, length_well_formed c.args.trace.now c.requires, c.loop-index-test.true)

pub note_place-requires : goal.note_place-requires
note_place-requires c =
    let t = c.loop-index.table in
    subst (AllBelow t) (sym c.new.ensures) (c.tables_follow.ensures.follow t t c.args.trace.now c.loop-index.index c.loop-index.invariant.table).0

pub note_locks-requires : goal.note_locks-requires
note_locks-requires c lock acquires =
    let s = c.args.trace.now in
    let n = c.loop-index.index in
    let e = get_or s n no_event in
    c.acquires_fit.ensures.placed c.loop-index.held s n e.thread lock c.requires c.loop-index.invariant.held
    (slice_get-get_or s n no_event c.loop-index-test.true ∙ ap (λ o. Some (event e.thread o)) acquires)

pub loop-index-preserved : goal.loop-index-preserved
loop-index-preserved c =
    let s = c.args.trace.now in
    let n = c.loop-index.index in
    let e = get_or s n no_event in
    let at = slice_get-get_or s n no_event c.loop-index-test.true in
    let h = c.loop-index.invariant in
    let old = c.loop-index.table in
    let new = c.note_place.new.table in
    let o = next_of c.loop-index.held e in
    let up : suc n ≡ n + 1 = omega arith in
    let is = c.tables_follow.ensures.next c.loop-index.held s n e h.held at in
    let noted = subst (λ p. Noted o old p c.in_ok-number.number new) c.new.ensures c.in_ok-number.ensures in
    record {
      numbers = subst (λ xs. Lists xs new) (sym c.push_reserved.ensures.items) (lists_more old new n o c.in_ok-number.number c.loop-index.numbers.items h.sized noted h.numbers);
      sized = omega (arith, ap length c.push_reserved.ensures.items, length-push c.loop-index.numbers.items c.in_ok-number.number, h.sized);
      room = subst (λ z. length s ≤ z) (sym c.push_reserved.ensures.capacity) h.room;
      held = subst (Held.HasHeldSetsOf c.note_locks.new.held s) up (c.in_ok-note_locks.ensures s n h.held at);
      table = subst (HasDependenciesOf new s) up (follows_more c.tables_follow.ensures.follow c.tables_follow.ensures.stay s n old new o c.in_ok-number.number h.table is noted);
    }

pub returns-clause-numbers : goal.returns-clause-numbers
returns-clause-numbers c p m =
    let s = c.args.trace.now in
    let t = c.loop-index.table in
    let whole : c.loop-index.index ≡ length s = omega (arith, c.loop-index-test.false, c.loop-index.auto.index-end) in
    let a = c.loop-index.invariant.numbers p m in
    let b = (c.tables_follow.ensures.number t s (subst (HasDependenciesOf t s) whole c.loop-index.invariant.table)).1 m p in
    (λ h. b.0 (a.0 h), λ h. a.1 (b.1 h))
