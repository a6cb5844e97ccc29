use Rattle.std.proofs.Common.{◌≡◌, ◌<◌, [], length, nat_eq, IsSome, unwrap_or, sym, ap, subst, ◌∙◌}
use Rattle.std.specs.Map.{lookup}
use Rattle.std.specs.Option.{option_copied_mut}
use Rattle.trace_model.specs.declared.traces.event.Op.TheVariants.{Acquire}
use Rattle.trace_model.specs.declared.limits.TheConstants.{MAX_HELD, MAX_DEPTH}
use Rattle.held_sets.specs.Tables.{locks_of, depth_of, holding_in}
use Rattle.held_sets.proofs.Written.{after_set}
use Rattle.held_sets.proofs.table.HeldTable.record.Goals.{in-Some, in_default}
use Rattle.held_sets.proofs.table.HeldTable.record.Goals as goal

pub acquire-requires-clause-nested : goal.acquire-requires-clause-nested
acquire-requires-clause-nested c =
    let was = ap (λ o. unwrap_or o []) (sym c.in-Some.ensures.value) in
    subst (λ ds. depth_of ds c.args.lock < MAX_DEPTH) (sym (ap (λ t. holding_in t c.args.thread) c.self.view_is) ∙ was) c.requires.nested

pub acquire-requires-clause-room : goal.acquire-requires-clause-room
acquire-requires-clause-room c =
    let was = ap (λ o. unwrap_or o []) (sym c.in-Some.ensures.value) in
    subst (λ ds. depth_of ds c.args.lock ≡ 0 → length (locks_of ds) < MAX_HELD) (sym (ap (λ t. holding_in t c.args.thread) c.self.view_is) ∙ was) c.requires.room

pub returns : goal.returns
returns c = elim c.match-get_mut.branch [
  | in-Some w ↦ rw w.self-inside-is
      (after_set c.self.inside.threads c.args.self.now c.args.thread (Acquire c.args.lock) w.in-Some.holding.now w.acquire.new.self c.self.view_is w.in-Some.ensures.value w.acquire.ensures)
  | in_default w ↦
      let none = sym (ap (λ t. lookup (nat_eq c.args.thread) t) c.self.view_is) ∙ sym c.get_mut.ensures.value ∙ ap option_copied_mut w.in_default.is in
      absurd (cc (subst IsSome none c.requires.entry))
]
