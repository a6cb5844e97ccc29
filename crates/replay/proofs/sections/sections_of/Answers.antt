use Rattle.std.proofs.Common.{◌≡◌, ℕ, ◌≤◌, ◌⊎◌, inl, inr, Option, suc, ◌+◌, get_or, length, slice_get, nat_eq, replicate, Some, None, refl, ap, sym, subst, ◌∙◌, arith}
use Rattle.std.specs.HashMap.{get}
use Rattle.std.specs.Map.{lookup}
use Rattle.std.proofs.lemmas.Option.{slice_get-get_or}
use Rattle.std.proofs.Math.ListN.{length-replicate}
use Rattle.trace_model.specs.Theory.Lookups.{release}
use Rattle.trace_model.proofs.Theory.OneMore.{length_well_formed}
use Rattle.trace_model.specs.Theory.Held.{begun_lock}
use Rattle.std.proofs.lemmas.Result.{IfOk-from_err}
use Rattle.replay.specs.Facts.{each}
use Rattle.replay.specs.OpenSections.{open_after, ended_section, with_end}
use Rattle.replay.proofs.FactLists.{no_event, each_more, has_each}
use Rattle.replay.proofs.OpenSections.{IsOpen, so_far, so_far_all, none_so_far, none_open, open_more, has_room, begun_seen, ended_so, ended_from, releases_more, length-with_end}
use Rattle.replay.proofs.sections.sections_of.Goals as goal

none_or_some : (o : Option ℕ) → (o ≡ None) ⊎ ((x : ℕ) × (o ≡ Some x))
none_or_some None = inl refl
none_or_some (Some x) = inr (x, refl)

pub loop-index-init : goal.loop-index-init
loop-index-init c =
    let s = c.args.trace.now in
    let blank : c.in_ok-releases.releases.items ≡ replicate (length s) None = c.in_ok-releases.ensures.items_if_clones_equal (λ y h. elim (none_or_some y) [ inl is ↦ is | inr (x, is) ↦ absurd (rw is at h) ]) in
    record {
      begins = c.in_ok-begins.ensures.items;
      room = c.in_ok-begins.ensures.capacity;
      sized = ap length blank ∙ length-replicate (length s) None;
      releases = λ q l. ap (λ xs. slice_get xs q) blank ∙ none_so_far s q l;
      sections = λ l. subst (λ es. IsOpen s 0 l (lookup (nat_eq l) es)) (sym c.with_hasher-opened.ensures.empty) (none_open s l);
    }

pub push_reserved-requires : goal.push_reserved-requires
push_reserved-requires c = omega (arith, has_each (begun_lock c.args.trace.now) c.loop-index.index c.loop-index.begins.items c.loop-index.invariant.begins, c.loop-index.invariant.room, c.loop-index-test.true)

pub overflow_cast-index : goal.overflow_cast-index
overflow_cast-index c = omega (arith, length_well_formed c.args.trace.now c.requires, c.loop-index-test.true)

pub note-requires : goal.note-requires
note-requires c =
    let s = c.args.trace.now in
    let n = c.loop-index.index in
    has_room s c.requires n (get_or s n no_event) (slice_get-get_or s n no_event c.loop-index-test.true) (get nat_eq c.loop-index.opened) c.loop-index.invariant.sections

pub loop-index-preserved : goal.loop-index-preserved
loop-index-preserved c =
    let s = c.args.trace.now in
    let n = c.loop-index.index in
    let e = get_or s n no_event in
    let at = slice_get-get_or s n no_event c.loop-index-test.true in
    let h = c.loop-index.invariant in
    let table = get nat_eq c.loop-index.opened in
    let up : suc n ≡ n + 1 = omega arith in
    let made : c.end.new.releases.items ≡ with_end c.loop-index.releases.items (ended_section table e.op) n
    = c.end.ensures ∙ ap (λ k. with_end c.loop-index.releases.items c.ended_by-ended.result k) c.new-place.ensures
    ∙ ap (λ o. with_end c.loop-index.releases.items o n) c.ended_by-ended.ensures in
    let more = releases_more s n c.loop-index.releases.items (ended_section table e.op) h.sized
    (ended_so s c.requires n e at table h.sections) (ended_from s c.requires n e at table h.sections) h.releases in
    record {
      begins = c.push_reserved.ensures.items
          ∙ each_more (begun_lock s) n c.loop-index.begins.items c.begun_by-begun.result h.begins
          (c.begun_by-begun.ensures ∙ begun_seen s c.requires n e at table h.sections);
      room = subst (λ z. length s ≤ z) (sym c.push_reserved.ensures.capacity) h.room;
      sized = ap length made ∙ length-with_end c.loop-index.releases.items (ended_section table e.op) n ∙ h.sized;
      releases = λ q l. ap (λ xs. slice_get xs q) made ∙ more q l ∙ ap (λ k. Some (so_far k (release s q))) up;
      sections = λ l. subst (λ k. IsOpen s k l (get nat_eq c.note.new.opened l)) up
          (subst (IsOpen s (suc n) l) (sym (c.in_ok-note.ensures l ∙ ap (λ p. open_after e.op p table l) c.new-place.ensures)) (open_more s c.requires n e at table h.sections l));
    }

pub returns-in_err-begins : goal.returns-in_err-begins
returns-in_err-begins c =
    let is = c.from_residual.ensures.0 in
    record { begins = IfOk-from_err c.from_residual.result _ is; releases = IfOk-from_err c.from_residual.result _ is }

pub returns-in_err-releases : goal.returns-in_err-releases
returns-in_err-releases c =
    let is = c.from_residual-in_err-releases.ensures.0 in
    record { begins = IfOk-from_err c.from_residual-in_err-releases.result _ is; releases = IfOk-from_err c.from_residual-in_err-releases.result _ is }

pub returns-in_err-note : goal.returns-in_err-note
returns-in_err-note c =
    let is = c.from_residual-in_err-note.ensures.0 in
    record { begins = IfOk-from_err c.from_residual-in_err-note.result _ is; releases = IfOk-from_err c.from_residual-in_err-note.result _ is }

pub returns : goal.returns
returns c =
    let s = c.args.trace.now in
    let whole : c.loop-index.index ≡ length s = omega (arith, c.loop-index-test.false, c.loop-index.auto.index-end) in
    record {
      begins = c.loop-index.invariant.begins ∙ ap (each (begun_lock s)) whole;
      releases = λ q l. c.loop-index.invariant.releases q l ∙ ap (λ k. Some (so_far k (release s q))) whole ∙ ap Some (so_far_all s q);
    }
