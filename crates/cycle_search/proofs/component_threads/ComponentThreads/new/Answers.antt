use Rattle.std.proofs.Common.{◌+◌, ◌∙◌, ℕ, Bool, Some, false, get_or, eqb, sym, ap, subst, arith}
use Rattle.std.proofs.lemmas.Option.{slice_get-get_or}
use Rattle.std.specs.Global.{Vec}
use Rattle.std.specs.List.{Contains}
use Rattle.trace_model.specs.Theory.Dependencies.{Dependency}
use Rattle.cycle_search.specs.Acquirers.{key_of}
use Rattle.std.proofs.lemmas.List.Filters.{dedup_is}
use Rattle.dependencies.specs.Tables.{table_dependencies}
use Rattle.cycle_search.proofs.ThreadKeys.{HasThreadKeys, thread_keys-more, thread_keys-skip, threads-known}
use Rattle.cycle_search.proofs.component_threads.ComponentThreads.new.Goals as goal
use Rattle.cycle_search.proofs.component_threads.ComponentThreads.new.Goals.{then-cyclic-number+in_ok-add, else-cyclic-number}

pub loop-number-preserved : goal.loop-number-preserved
loop-number-preserved c =
    let ds = table_dependencies c.args.table.now in
    let components = c.args.components.now in
    let cyclic = c.args.cyclic.now in
    let i = c.loop-number.number in
    elim c.if-cyclic-number.branch [
      | then-cyclic-number+in_ok-add w ↦
          let keys = w.add.new.keys.items in
          let same = w.key.ensures ∙ ap (λ (d : Dependency). key_of (get_or components i 0) d.thread) w.behind-table.view_is in
          subst (HasThreadKeys ds components cyclic (i + 1)) (sym (ap (λ (v : Vec ℕ). v.items) w.keys-is))
          (thread_keys-more ds components cyclic i w.get.result.now c.loop-number.keys.items keys (omega arith) w.get.ensures w.add.ensures.kept
          (subst (Contains keys) same w.in_ok-add.ensures.added) c.loop-number.invariant)
      | else-cyclic-number w ↦
          subst (HasThreadKeys ds components cyclic (i + 1)) (sym (ap (λ (v : Vec ℕ). v.items) w.keys-is))
          (thread_keys-skip ds components cyclic i c.loop-number.keys.items
          (slice_get-get_or cyclic i false (omega (arith, c.loop-number-test.true, c.len-number-end.ensures.value, c.requires.marked)) ∙ ap (λ (b : Bool). Some b) w.if-cyclic-number.false) c.loop-number.invariant)
    ]

pub returns : goal.returns
returns c =
    threads-known (table_dependencies c.args.table.now) c.args.components.now c.args.cyclic.now c.loop-number.number c.loop-number.keys.items c.sort_unstable.new.self.items _ (omega arith) c.loop-number.invariant
    c.sort_unstable.ensures.permutation c.sort_unstable.ensures.sorted (dedup_is eqb _ _ c.dedup.ensures.filtered)
