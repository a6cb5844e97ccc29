use Rattle.std.proofs.Common.{◌≡◌, ◌≤◌, length, rules, ap, sym, subst, ◌∙◌, arith}
use Rattle.segments.proofs.Counting.{count_max}
use Rattle.fronts.specs.Firsts.{first_of_thread, is_first}
use Rattle.fronts.specs.Tables.{AreSlotPositions}
use Rattle.fronts.proofs.BuildLemmas.{requirements_built}
use Rattle.fronts.proofs.requirements.Tables.into_requirements.Goals as goal

pub overflow_cast-count : goal.overflow_cast-count
overflow_cast-count c =
    let s = c.args.index.now.events in
    let few : c.len-count.result ≤ 1048576 = omega (arith, c.len-count.ensures, c.requires.thread_count, count_max (is_first (first_of_thread s)) (length s), c.len-len.ensures.short) in
    search rules

pub of-requires : goal.of-requires
of-requires c = omega (arith, c.requires.positions_length, c.len-len.ensures.short)

pub returns : goal.returns
returns c =
    let s = c.args.index.now.events in
    let count : c.len-count.result ≡ length c.args.self.items.items = omega (arith, c.len-count.ensures) in
    let listed = sym (c.in_ok-new.ensures.ok ∙ c.in_ok-positions.ensures) in
    requirements_built s _ (subst (AreSlotPositions s) listed c.requires.positions) (ap length (sym listed) ∙ c.requires.positions_length)
    (count ∙ c.requires.thread_count) c.requires.lock_count (sym count) c.requires.built
