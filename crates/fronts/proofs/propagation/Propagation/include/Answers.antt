use Rattle.std.proofs.Common.{arith}
use Rattle.fronts.specs.Context.{slots, context_events}
use Rattle.fronts.proofs.RaiseLemmas.{prefix_slot}
use Rattle.fronts.proofs.StageLemmas.{carries_here}
use Rattle.fronts.proofs.propagation.Propagation.include.Goals as goal
use Rattle.fronts.specs.Slots.{HoldsPlaces}

pub returns-then-prefix-count-clause-carries : goal.returns-then-prefix-count-clause-carries
returns-then-prefix-count-clause-carries g c =
    let gr = c.args.context.now in
    carries_here gr (HoldsPlaces (context_events gr) (slots gr) c.args.prefix) c.args.self.now c.args.members.now c.args.steps.now c.requires.ready.fits c.requires.ready.behind

pub returns : goal.returns
returns g c = record { raises = c.raise_to.ensures.raises; carries = c.raise_to.ensures.carries }

pub raise_to-requires-clause-slot : goal.raise_to-requires-clause-slot
raise_to-requires-clause-slot g c =
    let gr = c.args.context.now in
    prefix_slot gr.index.now.events (slots gr) gr.requirements.now.threads.count c.args.prefix c.requires.ready.sound.slots c.requires.reach (omega (arith, c.if-prefix-count.false))
