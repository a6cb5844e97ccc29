use Rattle.std.proofs.Common.{◌≡◌, ◌<◌, [], ◌∷◌, ◌++◌, length, refl, ap, subst, arith}
use Rattle.std.proofs.lemmas.List.{length-append}
use Rattle.cycle_search.specs.Collecting.{TakesSoFar}
use Rattle.cycle_search.specs.CycleSearch.{CycleOver}
use Rattle.cycle_search.specs.Keeping.{keeps}
use Rattle.cycle_search.proofs.Paths.{root-alone}
use Rattle.cycle_search.proofs.ComponentLemmas.{another-bound}
use Rattle.cycle_search.proofs.Keeping.{kept-more}
use Rattle.cycle_search.proofs.Turns.{all-from_root}
use Rattle.cycle_search.proofs.absence.keep_cycles.Goals as goal

pub returns-in-Ok-clause-most : goal.returns-in-Ok-clause-most
returns-in-Ok-clause-most c t =
    let ds = c.args.search_input.now in
    (kept-more (CycleOver ds c.most_members-members.result c.push.new.self.items (λ x. c.args.root < x)) c.args.kept.now c.extend.new.collector c.in-Ok.ensures.all).0

pub returns-in-Ok-clause-each : goal.returns-in-Ok-clause-each
returns-in-Ok-clause-each c t numbers cycle =
    let ds = c.args.search_input.now in
    let root = c.args.root in
    let members = c.most_members-members.result in
    let old = c.args.kept.now in
    let new = c.extend.new.collector in
    let one = root-alone root _ _ c.new-path.ensures c.push.ensures.items in
    let over = CycleOver ds members (root ∷ []) (λ x. root < x) in
    let (most, (more, e, all)) = kept-more over old new (subst (λ p. TakesSoFar keeps (CycleOver ds members p (λ x. root < x)) old new) one c.in-Ok.ensures.all) in
    let (found, same, are) = all-from_root ds members root [] more (more, refl, all) in
    let (k, l, at) = are.complete numbers (another-bound ds c.args.bound members numbers cycle.0 (c.most_members-members.ensures.all numbers cycle), cycle.1) in
    omega (arith, l, ap length same, ap length e, length-append old.cycles.items more)
