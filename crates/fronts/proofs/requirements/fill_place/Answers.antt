use Rattle.std.proofs.Common.{◌+◌, arith}
use Rattle.std.proofs.lemmas.Result.{on_ok_weaker}
use Rattle.fronts.proofs.BuildLemmas.{place_built}
use Rattle.fronts.proofs.FirstLemmas.{thread_slot_below}
use Rattle.fronts.proofs.requirements.fill_place.Goals as goal

pub index_mut-items-requires : goal.index_mut-items-requires
index_mut-items-requires c =
    omega (arith, thread_slot_below c.args.index.now.events c.args.place c.args.position.slot (c.args.place + 1) c.requires.position.slot (omega arith), c.requires.count)

pub returns-clause-built : goal.returns-clause-built
returns-clause-built c =
    on_ok_weaker c.push_requirements.result (place_built c.args.index.now.events c.args.place c.args.position.slot c.args.lists.now.items c.index_mut-items.result.now c.push_requirements.new.items
    c.requires.position.slot c.requires.count c.index_mut-items.ensures.value c.requires.built) c.push_requirements.ensures

pub returns-then-needs_none-clause-built : goal.returns-then-needs_none-clause-built
returns-then-needs_none-clause-built c =
    on_ok_weaker c.push_begin.result (place_built c.args.index.now.events c.args.place c.args.position.slot c.args.lists.now.items c.index_mut-items.result.now c.push_begin.new.items
    c.requires.position.slot c.requires.count c.index_mut-items.ensures.value c.requires.built) c.push_begin.ensures
