use Rattle.std.proofs.Common.{◌≡◌, ◌*◌, length, refl, sym, ap, subst, ◌∙◌, arith}
use Rattle.std.proofs.lemmas.Option.{same_Some}
use Rattle.trace_index.specs.Depths.{lock_depth, op_depth, HasOpEntry, HasOpEntryAt}
use Rattle.trace_index.specs.Links.{trace_of, AreLastPlaces}
use Rattle.trace_index.specs.Positions.{AreKeyPositions}
use Rattle.trace_index.proofs.Deep.{owned_in, op_depth-agree}
use Rattle.trace_index.proofs.SegmentTables.{last_of_all}
use Rattle.trace_index.proofs.OneFurther.{rows_short, followed, ready_next, deep_still, deep_entered, depths_of_all}
use Rattle.trace_index.proofs.growing.IndexParts.prepare.Goals as goal

pub len-len-requires : goal.len-len-requires
len-len-requires c = let s = rows_short c.args.self.now.rows.0 c.requires.index.shown.well_formed in omega arith

pub returns-in_err-follow-clause-whole : goal.returns-in_err-follow-clause-whole
returns-in_err-follow-clause-whole c =
    let i = c.args.self.now in
    let is = c.requires in
    record {
      index = followed _ c.reserve.new.self _ _ _ _ _ _ c.follow.new.self.places _ _ _ _ is.index c.in_ok-reserve.ensures.shown c.deref.ensures.value c.len-len.ensures c.in_ok-reserve-2.ensures.same
          c.in_err-follow.ensures.last_places c.in_err-follow.ensures.within;
      deep = deep_still i.rows.0 c.reserve.new.self.0 i.depths.table i.depths.noted is.deep.depths_are is.deep.within c.in_ok-reserve.ensures.shown;
      room = c.in_ok-reserve-2.ensures.ahead;
    }

pub follow-requires-2-clause-short : goal.follow-requires-2-clause-short
follow-requires-2-clause-short c = rows_short c.reserve.new.self.0 (followed _ c.reserve.new.self _ _ _ _ _ _ c.follow.new.self.places _ _ _ _ c.requires.index c.in_ok-reserve.ensures.shown c.deref.ensures.value c.len-len.ensures c.in_ok-reserve-2.ensures.same
    c.in_ok-follow.ensures.last_places c.in_ok-follow.ensures.within).shown.well_formed

pub returns-in_err-follow-2-clause-whole : goal.returns-in_err-follow-2-clause-whole
returns-in_err-follow-2-clause-whole c =
    let d = c.follow-2.new.self in
    let deep = c.in_err-follow-2.ensures in
    record {
      index = followed _ c.reserve.new.self _ _ _ _ _ _ c.follow.new.self.places _ _ _ _ c.requires.index c.in_ok-reserve.ensures.shown c.deref.ensures.value c.len-len.ensures c.in_ok-reserve-2.ensures.same
          c.in_ok-follow.ensures.last_places c.in_ok-follow.ensures.within;
      deep = deep_still c.reserve.new.self.0 c.reserve.new.self.0 d.table d.noted deep.depths deep.within refl;
      room = c.in_ok-reserve-2.ensures.ahead;
    }

pub returns-in_err-lock-clause-whole : goal.returns-in_err-lock-clause-whole
returns-in_err-lock-clause-whole c =
    let d = c.reserve-3.new.self in
    record {
      index = followed _ c.reserve.new.self _ _ _ _ _ _ c.follow.new.self.places _ _ _ _ c.requires.index c.in_ok-reserve.ensures.shown c.deref.ensures.value c.len-len.ensures c.in_ok-reserve-2.ensures.same
          c.in_ok-follow.ensures.last_places c.in_ok-follow.ensures.within;
      deep = deep_entered c.reserve.new.self.0 c.follow-2.new.self.table d.table c.follow-2.new.self.noted d.noted c.in_ok-follow-2.ensures.depths c.in_ok-follow-2.ensures.within
          c.in_err-lock.ensures.shown c.in_err-lock.ensures.noted;
      room = c.in_ok-reserve-2.ensures.ahead;
    }

pub ready_for-ready-requires-clause-last : goal.ready_for-ready-requires-clause-last
ready_for-ready-requires-clause-last c =
    let is = followed _ c.reserve.new.self _ _ _ _ _ _ c.follow.new.self.places _ _ _ _ c.requires.index c.in_ok-reserve.ensures.shown c.deref.ensures.value c.len-len.ensures c.in_ok-reserve-2.ensures.same
    c.in_ok-follow.ensures.last_places c.in_ok-follow.ensures.within in
    let s = trace_of c.reserve.new.self.0 in
    let all : c.follow.new.self.noted ≡ length c.reserve-2.new.self.sealed.items = c.in_ok-follow.ensures.ok ∙ ap length c.deref.ensures.value in
    last_of_all s (length c.reserve.new.self.0) c.reserve-2.new.self.sealed.items c.reserve-2.new.self.tail c.follow.new.self.places is.shown.tables_are
    (subst (λ n. AreLastPlaces s (4096 * n) c.follow.new.self.places) all is.last_places_are)

pub ready_for-ready-requires-clause-short : goal.ready_for-ready-requires-clause-short
ready_for-ready-requires-clause-short c = rows_short c.reserve.new.self.0 (followed _ c.reserve.new.self _ _ _ _ _ _ c.follow.new.self.places _ _ _ _ c.requires.index c.in_ok-reserve.ensures.shown c.deref.ensures.value c.len-len.ensures c.in_ok-reserve-2.ensures.same
    c.in_ok-follow.ensures.last_places c.in_ok-follow.ensures.within).shown.well_formed

pub returns-clause-whole : goal.returns-clause-whole
returns-clause-whole c =
    let d = c.reserve-3.new.self in
    record {
      index = followed _ c.reserve.new.self _ _ _ _ _ _ c.follow.new.self.places _ _ _ _ c.requires.index c.in_ok-reserve.ensures.shown c.deref.ensures.value c.len-len.ensures c.in_ok-reserve-2.ensures.same
          c.in_ok-follow.ensures.last_places c.in_ok-follow.ensures.within;
      deep = deep_entered c.reserve.new.self.0 c.follow-2.new.self.table d.table c.follow-2.new.self.noted d.noted c.in_ok-follow-2.ensures.depths c.in_ok-follow-2.ensures.within
          c.in_ok-lock.ensures.shown c.in_ok-lock.ensures.noted;
      room = c.in_ok-reserve-2.ensures.ahead;
    }

pub returns-clause-ok : goal.returns-clause-ok
returns-clause-ok c =
    let l = c.follow.new.self in
    let m = c.reserve-2.new.self in
    let d = c.reserve-3.new.self in
    let r = c.ready_for-ready.result in
    let rows = c.reserve.new.self.0 in
    let len = ap length c.in_ok-reserve.ensures.shown in
    let fits = c.in_ok-reserve-2.ensures.fits in
    let count = c.len-len.ensures in
    let still = deep_entered rows c.follow-2.new.self.table d.table c.follow-2.new.self.noted d.noted c.in_ok-follow-2.ensures.depths c.in_ok-follow-2.ensures.within
    c.in_ok-lock.ensures.shown c.in_ok-lock.ensures.noted in
    let all : d.noted ≡ length rows = c.in_ok-lock.ensures.noted ∙ c.in_ok-follow-2.ensures.ok in
    record {
      index = ready_next c.reserve.new.self m.sealed.items m.tail l.places l.noted r
          (followed _ c.reserve.new.self _ _ _ _ _ _ c.follow.new.self.places _ _ _ _ c.requires.index c.in_ok-reserve.ensures.shown c.deref.ensures.value c.len-len.ensures c.in_ok-reserve-2.ensures.same
          c.in_ok-follow.ensures.last_places c.in_ok-follow.ensures.within)
          (record {
            row_is = c.ready_for-ready.ensures.row;
            positions_are = subst (λ e. AreKeyPositions m.tail.last e r.positions) (sym c.ready_for-ready.ensures.event) c.ready_for-ready.ensures.positions;
            row_room = c.in_ok-reserve.ensures.ok;
            table_room = c.in_ok-reserve-2.ensures.room;
            tables_fit = omega arith;
          });
      deep = record {
        depths_are = still.depths_are;
        within = still.within;
        all = λ x h. all;
        entry = λ x h. subst (λ y. HasOpEntry d.table y.row.event.op) (same_Some r x h) (subst (λ e. HasOpEntry d.table e.op) (sym c.ready_for-ready.ensures.event) c.in_ok-lock.ensures.ok);
        position = λ x h. subst (λ y. HasOpEntryAt d.table y.row.event.op y.lock) (same_Some r x h)
            (subst (λ e. HasOpEntryAt d.table e.op r.lock) (sym c.ready_for-ready.ensures.event)
            (subst (HasOpEntryAt d.table c.args.event.op) (sym c.ready_for-ready.ensures.lock) c.in_ok-lock.ensures.position));
        ready = λ x h. subst (λ y. y.row.depth ≡ op_depth (owned_in (trace_of rows)) y.row.event.op) (same_Some r x h)
            (c.ready_for-ready.ensures.depth ∙ c.in_ok-lock.ensures.depth
            ∙ op_depth-agree (lock_depth d.table) (owned_in (trace_of rows)) c.args.event.op (depths_of_all rows d.table d.noted still.depths_are all)
            ∙ ap (λ e. op_depth (owned_in (trace_of rows)) e.op) (sym c.ready_for-ready.ensures.event));
      };
      room = c.in_ok-reserve-2.ensures.ahead;
    }
