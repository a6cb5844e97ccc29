use Rattle.std.proofs.Common.{◌≡◌, ◌+◌, cond, ap, sym, ◌∙◌, arith}
use Rattle.std.proofs.lemmas.Bool.{eq-eqb}
use Rattle.fronts.specs.Firsts.{threads_below, slot_count_after}
use Rattle.fronts.proofs.BuildLemmas.{length_pushed, list_pushed}
use Rattle.fronts.proofs.FirstLemmas.{threads_after}
use Rattle.fronts.proofs.requirements.push_list.Goals as goal

pub returns-in_ok-push-clause-count : goal.returns-in_ok-push-clause-count
returns-in_ok-push-clause-count c =
    let s = c.args._index.now.events in
    let count = threads_below s c.args._place in
    let new : c.args.slot ≡ count = omega (arith, c.if-slot-len.true, c.len.ensures, c.requires.count) in
    length_pushed c.args.lists.now.items _ count c.new.result c.in_ok-push.ensures.items c.requires.count
    ∙ sym (threads_after s c.args._place ∙ (ap (λ z. slot_count_after z count) c.requires.slot
    ∙ ap (λ b. cond b (count + 1) count) (eq-eqb c.args.slot count new)))

pub returns-in_ok-push-clause-built : goal.returns-in_ok-push-clause-built
returns-in_ok-push-clause-built c =
    list_pushed c.args._index.now.events c.args._place c.args.lists.now.items _ c.new.result c.new.ensures.items c.requires.count c.in_ok-push.ensures.items c.requires.built
