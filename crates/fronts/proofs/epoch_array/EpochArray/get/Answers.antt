use Rattle.std.proofs.Common.{◌<◌, length, refl, arith}
use Rattle.std.proofs.lemmas.Option.{slice_get_read}
use Rattle.fronts.proofs.EpochLemmas.{stamped}
use Rattle.fronts.proofs.epoch_array.EpochArray.get.Goals as goal

pub returns-then-index-self : goal.returns-then-index-self
returns-then-index-self g c =
    let self = c.args.self.now in
    let e = c.args.entry in
    let within : e < length self.epochs.items = omega (arith, c.if-entry-len.true, c.len.ensures, self.epochs.ok.0) in
    stamped self.values.items self.epochs.items self.epoch e c.index.result.now c.index-then-index-self.result.now
    (slice_get_read self.epochs.items (length self.epochs.items) e c.index.result.now refl within c.index.ensures) c.if-index-self.true
    (slice_get_read self.values.items (length self.epochs.items) e c.index-then-index-self.result.now self.same_length within c.index-then-index-self.ensures)
