use Rattle.std.proofs.Common.{get_or}
use Rattle.std.proofs.lemmas.Option.{slice_get-get_or}
use Rattle.fronts.proofs.MemberLemmas.{each_set}
use Rattle.sp_closure.specs.Timestamps.{AllHold}
use Rattle.sp_closure.proofs.TimelineLemmas.{all_hold}
use Rattle.sp_closure.proofs.timelines.Timestamps.stamp.Goals as goal

pub returns-in-Some-clause-held : goal.returns-in-Some-clause-held
returns-in-Some-clause-held c =
    let xs = c.args.numbers.now in
    let es = c.args.entries.now in
    let stamps = c.args.stamps.now in
    let j = c.args.j in
    let x = c.in-Some.timestamp in
    each_set (AllHold c.args.self.now xs) stamps j (get_or stamps j x) x (slice_get-get_or stamps j x c.requires.room) c.requires.held
    (all_hold c.args.self.now xs es j (get_or xs j 0) (get_or es j 0) x (slice_get-get_or xs j 0 c.requires.of.0) (slice_get-get_or es j 0 c.requires.of.1) c.requires.from c.in-Some.ensures)
