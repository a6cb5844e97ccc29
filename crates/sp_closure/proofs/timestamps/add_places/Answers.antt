use Rattle.std.proofs.Common.{◌≡◌, ◌<◌, length, Some, None, refl, sym, ap, subst, ◌∙◌, arith}
use Rattle.std.proofs.lemmas.Option.{slice_get-get_or}
use Rattle.std.specs.List.{Contains}
use Rattle.std.specs.List.Sorted.{IsStrictlyIncreasing}
use Rattle.trace_model.proofs.Theory.Ascending.{contains_at}
use Rattle.dependencies.proofs.Follow.{tables_number}
use Rattle.fronts.specs.Slots.{slots_of}
use Rattle.sp_closure.specs.declared.timelines.Timestamp.{Timestamp}
use Rattle.sp_closure.proofs.TimestampLemmas.{AreMade, adds_made, more_made, none_made}
use Rattle.sp_closure.proofs.PointerLemmas.{number_in_trace}
use Rattle.sp_closure.proofs.TableLemmas.{ArePlaces, table_places}
use Rattle.sp_closure.proofs.timestamps.add_places.Goals as goal

pub prefix_before-prefix-requires-clause-in_trace : goal.prefix_before-prefix-requires-clause-in_trace
prefix_before-prefix-requires-clause-in_trace c =
    let s = c.args.index.now.events in
    let m = c.args.number in
    let place = c.index-place.result.now in
    let size = c.len-count.ensures.length ∙ ap length (sym c.in_ok-copy_to.ensures) in
    let within : c.loop-entry.entry < length c.copy_to.new.places.items = omega (arith, c.loop-entry-test.true, size) in
    let at = slice_get-get_or c.copy_to.new.places.items c.loop-entry.entry c.index-place.result.now within ∙ ap Some (sym c.index-place.ensures) in
    number_in_trace s place m (((tables_number c.args.table.now s c.requires.one_trace).1 m place).0
    (subst (λ xs. Contains xs place) (c.in_ok-copy_to.ensures ∙ c.places-list.ensures) (contains_at c.copy_to.new.places.items place c.loop-entry.entry at)))

pub loop-entry-init : goal.loop-entry-init
loop-entry-init c = none_made c.args.index.now.events (slots_of c.args.threads.now) c.copy_to.new.places.items c.args.entries.now.items

pub loop-entry-preserved : goal.loop-entry-preserved
loop-entry-preserved c =
    let size = c.len-count.ensures.length ∙ ap length (sym c.in_ok-copy_to.ensures) in
    let within : c.loop-entry.entry < length c.copy_to.new.places.items = omega (arith, c.loop-entry-test.true, size) in
    let at = slice_get-get_or c.copy_to.new.places.items c.loop-entry.entry c.index-place.result.now within ∙ ap Some (sym c.index-place.ensures) in
    let fresh : Timestamp = record { prefix = c.prefix_before-prefix.result; clock = None } in
    more_made c.args.index.now.events (slots_of c.args.threads.now) c.copy_to.new.places.items c.args.entries.now.items c.loop-entry.entry c.loop-entry.entries.items
    c.push-in-loop-entry.new.self.items fresh c.loop-entry.invariant
    (record {
      place = c.index-place.result.now;
      at = at;
      positions = c.prefix_before-prefix.ensures;
      clock = refl;
    }) c.in_ok-push-2.ensures.items

pub returns : goal.returns
returns c =
    let s = c.args.index.now.events in
    let slots = slots_of c.args.threads.now in
    let m = c.args.number in
    let places = c.copy_to.new.places.items in
    let size = c.len-count.ensures.length ∙ ap length (sym c.in_ok-copy_to.ensures) in
    let old = c.args.entries.now in
    let new = c.loop-entry.entries.items in
    let are = subst (ArePlaces s m) (sym (c.in_ok-copy_to.ensures ∙ c.places-list.ensures))
    (table_places c.args.table.now s m c.requires.one_trace (subst IsStrictlyIncreasing c.places-list.ensures c.len-count.ensures.ascends)) in
    let all : c.loop-entry.entry ≡ length places = omega (arith, c.loop-entry.auto.entry-end, c.loop-entry-test.false, size) in
    let made = subst (λ n. AreMade s slots places old.items n new) all c.loop-entry.invariant in
    adds_made s slots c.args.threads.now.count m places old.items new (record { first = c.len-first.result; count = c.len-count.result }) c.requires.slots are made
    (c.len-first.ensures ∙ old.ok.0) size
