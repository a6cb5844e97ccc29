use Rattle.std.proofs.Common.{◌≡◌, ◌<◌, length, slice_get, Some, sym, subst}
use Rattle.std.specs.List.{Contains}
use Rattle.std.specs.List.Sorted.{IsStrictlyIncreasing}
use Rattle.trace_model.proofs.Theory.Ascending.{contains_at}
use Rattle.dependencies.specs.Tables.{dependency_places}
use Rattle.sp_closure.proofs.TableLemmas.{table_places, some_entry, first_entry}
use Rattle.sp_closure.proofs.PointerLemmas.{number_thread, number_in_trace}
use Rattle.sp_closure.proofs.add_member.first_member.Goals as goal

pub get-place-requires : goal.get-place-requires
get-place-requires c =
    subst (λ xs. 0 < length xs) (sym c.places-places.ensures) (some_entry c.args.table.now c.args.index.now.events c.args.number c.requires.one_trace c.requires.known)

pub prefix_before-prefix-requires-clause-in_trace : goal.prefix_before-prefix-requires-clause-in_trace
prefix_before-prefix-requires-clause-in_trace c =
    let s = c.args.index.now.events in
    let m = c.args.number in
    let xs = dependency_places c.args.table.now m in
    let at = subst (λ ys. slice_get ys 0 ≡ Some c.get-place.result) c.places-places.ensures c.get-place.ensures in
    let are = table_places c.args.table.now s m c.requires.one_trace (subst IsStrictlyIncreasing c.places-places.ensures c.len-count.ensures.ascends) in
    number_in_trace s c.get-place.result m ((are.exact c.get-place.result).0 (contains_at xs c.get-place.result 0 at))

pub returns-clause-first : goal.returns-clause-first
returns-clause-first c =
    let s = c.args.index.now.events in
    let m = c.args.number in
    let p = c.get-place.result in
    let at = subst (λ ys. slice_get ys 0 ≡ Some p) c.places-places.ensures c.get-place.ensures in
    first_entry s m (dependency_places c.args.table.now m) p
    (table_places c.args.table.now s m c.requires.one_trace (subst IsStrictlyIncreasing c.places-places.ensures c.len-count.ensures.ascends)) at

pub returns-clause-member : goal.returns-clause-member
returns-clause-member c =
    let s = c.args.index.now.events in
    let m = c.args.number in
    let xs = dependency_places c.args.table.now m in
    let p = c.get-place.result in
    let at = subst (λ ys. slice_get ys 0 ≡ Some p) c.places-places.ensures c.get-place.ensures in
    let are = table_places c.args.table.now s m c.requires.one_trace (subst IsStrictlyIncreasing c.places-places.ensures c.len-count.ensures.ascends) in
    let first = first_entry s m xs p are at in
    record {
      is_member = record {
        at = c.get-place.ensures;
        positions = c.prefix_before-prefix.ensures;
        thread = λ q k.
            let (t, o, u) = number_thread s p q m first.number ((are.exact q).0 (subst (λ ys. Contains ys q) c.places-places.ensures k)) in
            c.requires.slots.alike p q c.prefix_before-prefix.result.slot t c.prefix_before-prefix.ensures.slot o u;
      };
      places = c.places-places.ensures;
      first = λ q k. first.least q ((are.exact q).0 k);
    }
