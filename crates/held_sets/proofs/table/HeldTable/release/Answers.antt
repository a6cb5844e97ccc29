use Rattle.std.proofs.Common.{[], unwrap_or, sym, ap, subst, ◌∙◌}
use Rattle.std.specs.Option.{option_copied_mut}
use Rattle.trace_model.specs.declared.traces.event.Op.TheVariants.{Release}
use Rattle.held_sets.specs.Tables.{IsAfter}
use Rattle.held_sets.proofs.Written.{after_set, after_nothing}
use Rattle.held_sets.proofs.table.HeldTable.release.Goals.{in-Some, in_default}
use Rattle.held_sets.proofs.table.HeldTable.release.Goals as goal

pub returns : goal.returns
returns c = elim c.match-get_mut.branch [
  | in-Some w ↦ rw w.self-inside-is
      (after_set c.self.inside.threads c.args.self.now c.args.thread (Release c.args.lock) w.in-Some.holding.now w.release.new.self c.self.view_is w.in-Some.ensures.value w.release.ensures)
  | in_default w ↦
      let none = ap (λ o. unwrap_or o []) (sym c.get_mut.ensures.value ∙ ap option_copied_mut w.in_default.is) in
      rw w.self-inside-is
      (subst (λ t. IsAfter t c.args.thread (Release c.args.lock) c.self.inside.threads) c.self.view_is (after_nothing c.self.inside.threads c.args.thread c.args.lock none))
]
