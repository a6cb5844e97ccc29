use Rattle.std.proofs.Common.{sym, ◌∙◌}
use Rattle.fronts.specs.Pushing.{trace_with_slots}
use Rattle.fronts.proofs.FirstLemmas.{lock_begun, lock_none}
use Rattle.fronts.proofs.PushLemmas.{begin_is, begin_none}
use Rattle.fronts.proofs.requirements.begin_of.Goals as goal

pub returns-in-Some : goal.returns-in-Some
returns-in-Some c =
    let s = c.args.index.now.events in
    let lock = c.requires.lock ∙ (sym c.get.ensures ∙ c.in-Some.is) in
    let (k, on) = lock_begun s c.args.place c.in-Some.lock lock in
    begin_is (trace_with_slots s) c.args.place k c.in-Some.lock c.section_at.result on lock c.section_at.ensures.place c.section_at.ensures.end

pub returns-in-None : goal.returns-in-None
returns-in-None c =
    let s = c.args.index.now.events in
    begin_none (trace_with_slots s) c.args.place (lock_none s c.args.place (c.requires.lock ∙ (sym c.get.ensures ∙ c.in-None.is)))
