use Rattle.std.proofs.Common.{◌<◌, ◌≤◌, [], ◌∷◌, List, ℕ, length, subst, arith}
use Rattle.trace_model.specs.Theory.Dependencies.{Dependency}
use Rattle.cycle_search.specs.Collecting.{CollectsAll, AddsSome, TakesSoFar}
use Rattle.cycle_search.specs.CycleSearch.{CycleFrom, CycleOver}
use Rattle.cycle_search.proofs.Paths.{root-alone}
use Rattle.cycle_search.proofs.Collecting.{takes-as, refuses-as, refuses-for, until-refused}
use Rattle.cycle_search.proofs.ComponentLemmas.{another-bound}
use Rattle.cycle_search.proofs.Listing.{all-same, some-weaker}
use Rattle.cycle_search.proofs.Turns.{all-from_root, some-from_root}
use Rattle.cycle_search.proofs.search.collect_cycles.Goals as goal

module _ (ds : List Dependency) (members bound root : ℕ) (within : members ≤ bound) where
  -- A cycle of the search is one up to the bound.
  wider : (numbers : List ℕ) → CycleFrom ds members root numbers → CycleFrom ds bound root numbers
  wider numbers h = (another-bound ds members bound numbers h.0 (omega (arith, within, h.0.at_most)), h.1)

  wider-all : ((numbers : List ℕ) → CycleFrom ds bound root numbers → length numbers ≤ members) → (before after : List (List ℕ)) →
      CollectsAll (CycleOver ds members (root ∷ []) (λ x. root < x)) before after → CollectsAll (CycleFrom ds bound root) before after
  wider-all all before after h =
      let k = all-from_root ds members root before after h in
      (k.0, k.1, all-same (CycleFrom ds members root) (CycleFrom ds bound root) k.0 wider (λ numbers c. (another-bound ds bound members numbers c.0 (all numbers c), c.1)) k.2)

  wider-some : (before after : List (List ℕ)) → AddsSome (CycleOver ds members (root ∷ []) (λ x. root < x)) before after → AddsSome (CycleFrom ds bound root) before after
  wider-some before after h =
      let k = some-from_root ds members root before after h in
      (k.0, k.1, some-weaker (CycleFrom ds members root) (CycleFrom ds bound root) k.0 wider k.2)

pub returns-in-Ok : goal.returns-in-Ok
returns-in-Ok g c =
    let taking = g.C.Collector.taking in
    let ds = c.args.search_input.now in
    let root = c.args.root in
    let members = c.most_members-members.result in
    let most = c.most_members-members.ensures in
    let one = root-alone root _ _ c.new-path.ensures c.push.ensures.items in
    takes-as taking (CycleOver ds members (root ∷ []) (λ x. root < x)) (CycleFrom ds c.args.bound root) c.args.collector.now c.extend.new.collector
    (wider-all ds members c.args.bound root most.within most.all)
    (subst (λ p. TakesSoFar taking (CycleOver ds members p (λ x. root < x)) c.args.collector.now c.extend.new.collector) one c.in-Ok.ensures.all)

pub returns-in-Err-Refused : goal.returns-in-Err-Refused
returns-in-Err-Refused g c =
    let taking = g.C.Collector.taking in
    let ds = c.args.search_input.now in
    let root = c.args.root in
    let members = c.most_members-members.result in
    let most = c.most_members-members.ensures in
    let one = root-alone root _ _ c.new-path.ensures c.push.ensures.items in
    refuses-as taking (CycleOver ds members (root ∷ []) (λ x. root < x)) (CycleFrom ds c.args.bound root) c.args.collector.now c.in-Err-Refused.refused
    (wider-some ds members c.args.bound root most.within)
    (refuses-for taking (λ p. CycleOver ds members p (λ x. root < x)) c.push.new.self.items (root ∷ []) c.args.collector.now c.in-Err-Refused.refused one
    (until-refused taking (CycleOver ds members c.push.new.self.items (λ x. root < x)) c.args.collector.now c.extend.new.collector c.extend.new.path.items
    c.in-Err-Refused.field-0 c.in-Err-Refused.refused c.in-Err-Refused.field-0-is c.in-Err-Refused.ensures.all))
