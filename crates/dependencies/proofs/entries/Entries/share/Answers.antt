use Rattle.std.proofs.Common.{sym, subst, arith}
use Rattle.std.proofs.lemmas.Result.{IfOk-from_err}
use Rattle.dependencies.specs.Entries.{IsKeptOf}
use Rattle.dependencies.proofs.Shown.{length_from}
use Rattle.dependencies.proofs.Parts.{part_is, part_listing, part_kept}
use Rattle.dependencies.proofs.entries.Entries.share.Goals as goal

pub share-requires-clause-within : goal.share-requires-clause-within
share-requires-clause-within c =
    let e = c.args.self.now in
    let len = length_from 0 e.keys.keys e.places.notes in
    let within = c.requires.total.within in
    omega arith

pub share-requires-clause-few : goal.share-requires-clause-few
share-requires-clause-few c =
    let e = c.args.self.now in
    let len = length_from 0 e.keys.keys e.places.notes in
    let few = c.requires.listing.few in
    omega arith

pub returns-clause-part : goal.returns-clause-part
returns-clause-part c =
    let e = c.args.self.now in
    part_is e.keys.keys c.in_ok-share.field-0.keys e.places.notes c.in_ok-share-2.field-0.notes e.places.numbers c.args.total c.args.bound
    c.requires.kept c.requires.listing c.requires.total c.in_ok-share.ensures c.in_ok-share-2.ensures.notes

pub returns-clause-listing : goal.returns-clause-listing
returns-clause-listing c =
    let e = c.args.self.now in
    part_listing e.keys.keys c.in_ok-share.field-0.keys e.places.notes c.in_ok-share-2.field-0.notes e.places.numbers c.args.total c.args.bound
    c.requires.kept c.requires.listing c.requires.total c.in_ok-share.ensures c.in_ok-share-2.ensures.notes

pub returns-clause-kept : goal.returns-clause-kept
returns-clause-kept c =
    let e = c.args.self.now in
    subst (IsKeptOf c.in_ok-share.field-0.keys c.in_ok-share-2.field-0.notes) (sym c.in_ok-share-2.ensures.numbers)
    (part_kept e.keys.keys c.in_ok-share.field-0.keys e.places.notes c.in_ok-share-2.field-0.notes e.places.numbers c.args.total c.args.bound
    c.requires.kept c.requires.listing c.requires.total c.in_ok-share.ensures c.in_ok-share-2.ensures.notes)

pub returns-in_err-share : goal.returns-in_err-share
returns-in_err-share c = record {
  part = IfOk-from_err c.from_residual.result _ c.from_residual.ensures.0;
  listing = IfOk-from_err c.from_residual.result _ c.from_residual.ensures.0;
  kept = IfOk-from_err c.from_residual.result _ c.from_residual.ensures.0;
}

pub returns-in_err-share-2 : goal.returns-in_err-share-2
returns-in_err-share-2 c = record {
  part = IfOk-from_err c.from_residual-in_err-share-2.result _ c.from_residual-in_err-share-2.ensures.0;
  listing = IfOk-from_err c.from_residual-in_err-share-2.result _ c.from_residual-in_err-share-2.ensures.0;
  kept = IfOk-from_err c.from_residual-in_err-share-2.result _ c.from_residual-in_err-share-2.ensures.0;
}
