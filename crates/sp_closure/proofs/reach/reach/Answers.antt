use Rattle.std.proofs.Common.{◌≡◌, ◌<◌, [], ◌∷◌, ◌++◌, length, map, get_or, take, refl, sym, ap, subst, ◌∙◌, arith}
use Rattle.std.specs.List.{Contains}
use Rattle.std.proofs.lemmas.Bool.{false≢true}
use Rattle.std.proofs.lemmas.Result.{IfOk-from_err, IfOk-at_ok, IfOk-weaker}
use Rattle.std.proofs.lemmas.List.{take_more, take_all}
use Rattle.std.proofs.lemmas.Option.{slice_get-get_or, none-some}
use Rattle.trace_model.specs.Theory.Closure.{Places, IsClosed}
use Rattle.dependencies.specs.Tables.{dependency_places}
use Rattle.fronts.specs.Members.{lists}
use Rattle.fronts.specs.Context.{fronts, slots, state, items, inside, context_events}
use Rattle.fronts.proofs.InvariantLemmas.{done_closes}
use Rattle.sp_closure.specs.Reaching.{AllStop, IsLeastWith}
use Rattle.sp_closure.proofs.BaseLemmas.{by_ok}
use Rattle.sp_closure.proofs.EnterLemmas.{same_lists, written}
use Rattle.sp_closure.proofs.LeastLemmas.{AreReached, bound_alone, none_confirmed, stops_in, map_push, least_found, closure_found}
use Rattle.sp_closure.proofs.reach.reach.Goals as goal
use Rattle.fronts.specs.Propagation.{AreAtFront, IsBound}

pub loop-number-init : goal.loop-number-init
loop-number-init g c =
    let gr = c.args.context.now in
    let none = c.requires.nobody in
    record {
      fits = c.requires.fixpoint.fits;
      consistent = c.requires.fixpoint.consistent;
      pending = λ a k. let (i, l, e) = subst (λ z. Contains z a) c.requires.fixpoint.nothing k in absurd (omega (arith, l));
      behind = subst (AreAtFront (context_events gr) (slots gr) (fronts gr c.args.propagation.now)) (sym none) (record { each = λ i x h. absurd (none-some x h); at = λ i x h. absurd (none-some x h) });
      listed = ap lists none;
      steps = refl;
      bound = λ set d h. subst (λ ms. IsBound (context_events gr) (slots gr) (fronts gr c.args.propagation.now) ms set) (sym none)
          (bound_alone gr.index.now.events (slots gr) (fronts gr c.args.propagation.now) set d (c.requires.within set d h));
    }

pub add_member-requires : goal.add_member-requires
add_member-requires g c =
    let inv = c.loop-number.invariant in
    let xs = c.args.numbers.now in
    let i = c.loop-number.number-index in
    let m = get_or xs i 0 in
    record {
      ready = record { sound = c.requires.fixpoint.sound; fits = inv.fits; behind = inv.behind };
      consistent = inv.consistent;
      pending = inv.pending;
      one_trace = c.requires.one_trace;
      known = subst (λ ds. m < length ds) (sym c.requires.one_trace.0) (c.requires.known i m (slice_get-get_or xs i 0 c.loop-number-test.true));
    }

pub run-requires : goal.run-requires
run-requires g c =
    let inv = c.loop-number.invariant in
    record {
      ready = record {
        sound = c.requires.fixpoint.sound;
        fits = inv.fits;
        behind = subst (AreAtFront (context_events c.args.context.now) (slots c.args.context.now) (fronts c.args.context.now c.loop-number.propagation)) (sym c.as_mut_slice.ensures.value) inv.behind;
      };
      consistent = inv.consistent;
      known = inv.pending;
    }

pub returns-in_err-add_member : goal.returns-in_err-add_member
returns-in_err-add_member g c =
    let is_err = c.from_residual.ensures.0 in
    record {
      fits = c.add_member.ensures.fits;
      steps = omega (arith, c.loop-number.invariant.steps, c.add_member.ensures.steps);
      none = IfOk-from_err c.from_residual.result _ is_err;
      least = IfOk-from_err c.from_residual.result _ is_err;
    }

pub returns-then-not-branch : goal.returns-then-not-branch
returns-then-not-branch g c =
    let s = c.args.context.now.index.now.events in
    let xs = c.args.numbers.now in
    let i = c.loop-number.number-index in
    let m = get_or xs i 0 in
    record {
      fits = c.add_member.ensures.fits;
      steps = omega (arith, c.loop-number.invariant.steps, c.add_member.ensures.steps);
      none = λ is. none_confirmed s xs c.requires.known (λ set d stop.
          false≢true (sym c.if-not-branch.true ∙ (c.in_ok-add_member.ensures.bound set (c.loop-number.invariant.bound set d stop)
          (stops_in s c.args.table.now xs i m set c.requires.one_trace stop (slice_get-get_or xs i 0 c.loop-number-test.true))).0));
      least = λ is. absurd (false≢true is);
    }

pub loop-number-preserved : goal.loop-number-preserved
loop-number-preserved g c =
    let gr = c.args.context.now in
    let s = gr.index.now.events in
    let inv = c.loop-number.invariant in
    let xs = c.args.numbers.now in
    let i = c.loop-number.number-index in
    let m = get_or xs i 0 in
    let f = dependency_places c.args.table.now in
    let e = c.in_ok-add_member.ensures in
    let goes = c.if-not-branch.false in
    record {
      fits = c.add_member.ensures.fits;
      consistent = e.consistent goes;
      pending = e.pending goes;
      behind = e.behind goes;
      listed = e.lists ∙ (ap (λ z. z ++ f m ∷ []) inv.listed ∙ (sym (map_push f (take i xs) m) ∙ ap (map f) (sym (take_more xs i 0 c.loop-number-test.true))));
      steps = omega (arith, inv.steps, c.add_member.ensures.steps);
      bound = λ set d stop. (e.bound set (inv.bound set d stop)
          (stops_in s c.args.table.now xs i m set c.requires.one_trace stop (slice_get-get_or xs i 0 c.loop-number-test.true))).1;
    }

pub returns : goal.returns
returns g c =
    let gr = c.args.context.now in
    let s = gr.index.now.events in
    let d = gr.requirements.now in
    let inv = c.loop-number.invariant in
    let xs = c.args.numbers.now in
    let table = c.args.table.now in
    let ran = c.run.ensures in
    let new = c.run.new.self in
    let ms = c.run.new.members in
    let value = c.as_mut_slice.ensures.value in
    let bounds : (set : Places) → IsClosed s set → AllStop s xs set → IsBound (context_events gr) (slots gr) (fronts gr c.loop-number.propagation) c.as_mut_slice.result.now set =
    λ set k stop. subst (λ zs. IsBound (context_events gr) (slots gr) (fronts gr c.loop-number.propagation) zs set) (sym value) (inv.bound set k stop) in
    record {
      fits = ran.carries.fits;
      steps = omega (arith, inv.steps, ran.carries.steps);
      none = IfOk-weaker c.run.result _ _ (λ goes bound is.
          none_confirmed s xs c.requires.known (λ set k stop. false≢true (sym is ∙ (bound set (bounds set k stop) tt).0))) ran.carries.bound;
      least = by_ok c.run.result _ (λ goes ok is.
          let whole : take c.loop-number.number-index xs ≡ xs = take_all c.loop-number.number-index xs (omega arith) in
          let reached : AreReached s (slots gr) d.threads.count table xs (fronts gr new) ms = record {
            known = c.requires.fixpoint.sound.slots;
            follows = c.requires.one_trace;
            numbers_known = c.requires.known;
            closed = done_closes s (slots gr) c.requires.fixpoint.sound.lock_slots d.threads.count d.lock_count (items gr) (state gr new) c.requires.fixpoint.sound.slots c.requires.fixpoint.sound.locks c.requires.fixpoint.sound.items
                (IfOk-at_ok _ ok ran.consistent is) (IfOk-at_ok _ ok ran.nothing is);
            behind = IfOk-at_ok _ ok ran.carries.behind is;
            listed = same_lists c.as_mut_slice.result.now ms ran.carries.same ∙ (ap lists value ∙ (inv.listed ∙ ap (map (dependency_places table)) whole));
            bound = λ set k stop. (IfOk-at_ok _ ok ran.carries.bound set (bounds set k stop) tt).1;
          } in
          let back = written c.loop-number.members.len ms _
          (c.loop-number.members.ok.0 ∙ (ap length (sym value) ∙ sym ran.carries.same.same_length)) in
          subst (λ zs. IsLeastWith s xs (map (λ m. m.place) zs) (inside gr new)) (sym back) (
            least_found s (slots gr) d.threads.count table xs (fronts gr new) ms c.len-len.ensures.well_formed reached,
            closure_found s (slots gr) d.threads.count table xs (fronts gr new) ms reached,
          ));
    }
