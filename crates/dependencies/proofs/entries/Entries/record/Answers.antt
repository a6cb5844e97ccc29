use Rattle.std.proofs.Common.{◌≡◌, ◌<◌, ◌≤◌, ℕ, Fits, w32, List, length, inl, inr, sym, subst, arith}
use Rattle.std.proofs.Math.Facts.{Fits-below}
use Rattle.std.proofs.lemmas.Option.{slice_get_within}
use Rattle.trace_model.specs.Theory.Dependencies.{Dependency}
use Rattle.dependencies.specs.Tables.{HaveOneMore}
use Rattle.dependencies.specs.Entries.{listing_of, listing_from, IsKeptOf}
use Rattle.dependencies.proofs.Noting.{number_small}
use Rattle.dependencies.proofs.Shown.{length_from, few_notes, known_noted, new_noted, kept_known, kept_new}
use Rattle.dependencies.proofs.Numbering.{IsRecorded, recorded}
use Rattle.dependencies.proofs.entries.Entries.record.Goals as goal

fits : (n p q : ℕ) → n ≤ p → q ≡ p → q < 4294967296 → Fits w32 n
fits n p q l e h = Fits-below {w = w32} {m = n} {n = 4294967295} tt (omega arith)

within : (ds new : List Dependency) (d : Dependency) (n : ℕ) → IsRecorded ds new d n → n ≤ length ds
within ds new d n r = elim r [ inl a ↦ omega (arith, slice_get_within ds n d a.1) | inr a ↦ omega (arith, a.1) ]

pub record-number-requires-clause-few : goal.record-number-requires-clause-few
record-number-requires-clause-few c =
    let e = c.args.self.now in
    let len = length_from 0 e.keys.keys e.places.notes in
    omega (arith, number_small (listing_of e) c.args.place (length e.keys.keys) c.requires.listing c.requires.below (omega (arith, len)), c.get-index.ensures, c.get-index.type_inv)

pub overflow_cast-number : goal.overflow_cast-number
overflow_cast-number c =
    let e = c.args.self.now in
    let most = within e.keys.keys c.record-number.new.self.keys c.args.dependency.now c.record-number.result
    (recorded e.keys.keys c.record-number.new.self.keys c.args.dependency.now c.record-number.result c.record-number.ensures.keys c.record-number.ensures.number) in
    let len = length_from 0 e.keys.keys e.places.notes in
    fits c.record-number.result c.args.place c.get-index.result (number_small (listing_of e) c.args.place c.record-number.result c.requires.listing c.requires.below (omega (arith, most, len))) c.get-index.ensures c.get-index.type_inv

pub returns-clause-noted : goal.returns-clause-noted
returns-clause-noted c =
    let e = c.args.self.now in
    let ds = e.keys.keys in
    let n = c.record-number.result in
    let notes = c.record.new.self.notes in
    elim (recorded e.keys.keys c.record-number.new.self.keys c.args.dependency.now c.record-number.result c.record-number.ensures.keys c.record-number.ensures.number) [
      | inl a ↦
          subst (λ ks. HaveOneMore (listing_of e) c.args.place c.args.dependency.now n (listing_from 0 ks notes)) (sym a.0)
          (known_noted ds e.places.notes notes c.args.place c.args.dependency.now n c.requires.kept.beyond a.1 (slice_get_within ds n c.args.dependency.now a.1) c.record.ensures.notes)
      | inr a ↦ new_noted ds c.record-number.new.self.keys e.places.notes notes c.args.place c.args.dependency.now n c.requires.kept.beyond a.2 a.1 c.record.ensures.notes a.0
    ]

pub returns-clause-kept : goal.returns-clause-kept
returns-clause-kept c =
    let e = c.args.self.now in
    let ds = e.keys.keys in
    let n = c.record-number.result in
    let notes = c.record.new.self.notes in
    let numbers = c.record.new.self.numbers in
    elim (recorded e.keys.keys c.record-number.new.self.keys c.args.dependency.now c.record-number.result c.record-number.ensures.keys c.record-number.ensures.number) [
      | inl a ↦
          subst (λ ks. IsKeptOf ks notes numbers) (sym a.0)
          (kept_known ds e.places.notes notes c.args.place n e.places.numbers numbers c.requires.kept c.requires.below (slice_get_within ds n c.args.dependency.now a.1) c.record.ensures.notes c.record.ensures.numbers)
      | inr a ↦
          kept_new ds c.record-number.new.self.keys e.places.notes notes c.args.place c.args.dependency.now n e.places.numbers numbers c.requires.kept c.requires.below a.1 c.record.ensures.notes a.0 c.record.ensures.numbers
    ]

pub record-requires-clause-few : goal.record-requires-clause-few
record-requires-clause-few c =
    let e = c.args.self.now in
    let few = few_notes e.keys.keys e.places.notes e.places.numbers c.args.place c.requires.kept c.requires.below in
    omega (arith, few, c.get-index.ensures, c.get-index.type_inv)

pub record-requires-clause-number : goal.record-requires-clause-number
record-requires-clause-number c =
    let e = c.args.self.now in
    let most = within e.keys.keys c.record-number.new.self.keys c.args.dependency.now c.record-number.result
    (recorded e.keys.keys c.record-number.new.self.keys c.args.dependency.now c.record-number.result c.record-number.ensures.keys c.record-number.ensures.number) in
    omega (arith, most, c.requires.kept.counted)
