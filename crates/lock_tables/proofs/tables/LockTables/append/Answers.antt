use Rattle.std.proofs.Common.{◌≡◌, ◌≤◌, Option, length, take, sym, subst, ap, ◌∙◌, arith, None}
use Rattle.std.proofs.lemmas.Result.{IfOk-from_err}
use Rattle.trace_model.specs.Theory.Dependencies.{Dependency, dependency_of, with_new}
use Rattle.trace_model.specs.Theory.Held.{held_set}
use Rattle.trace_model.proofs.Lists.{length-push}
use Rattle.trace_model.proofs.Theory.OneMore.{dependencies-push, lawful_room}
use Rattle.dependencies.specs.Tables.{AllBelow, table_dependencies}
use Rattle.lock_graph.specs.Graph.{IsGraphOf}
use Rattle.trace_model.specs.declared.limits.TheConstants.{MAX_EVENTS}
use Rattle.trace_model.specs.Theory.Lawful.{refusal_of}
use Rattle.lock_tables.specs.Tables.{shared_holders}
use Rattle.lock_tables.proofs.OneFurther.{grown}
use Rattle.lock_tables.proofs.tables.LockTables.append.Goals as goal

pub note_place-requires : goal.note_place-requires
note_place-requires c =
    let (s, f, lawful) = c.requires in
    subst (AllBelow c.args.self.now.dependencies) (sym f.counted ∙ sym c.new-place.ensures)
    (c.tables_follow.ensures.grow c.args.self.now.held c.args.self.now.dependencies c.args.self.now.dependencies s c.args.event.now f.held f.dependencies).0

pub append_locks-requires : goal.append_locks-requires
append_locks-requires c lock acquires =
    let (s, f, lawful) = c.requires in
    let e = c.args.event.now in
    c.acquires_fit.ensures.next c.args.self.now.held MAX_EVENTS s e.thread lock f.held
    (subst (λ o. refusal_of MAX_EVENTS s (record { thread = e.thread; op = o }) ≡ None) acquires lawful)

pub overflow_add-self : goal.overflow_add-self
overflow_add-self c =
    let (s, f, lawful) = c.requires in
    omega (arith, f.counted, lawful_room MAX_EVENTS s c.args.event.now lawful)

pub returns : goal.returns
returns c s f =
    let e = c.args.event.now in
    let old = c.args.self.now in
    let table = c.in_ok-note_place.ensures s (c.new-place.ensures ∙ f.counted) f.held f.dependencies in
    let next : Option Dependency = dependency_of e.thread e.op (held_set s (length s) e.thread) in
    let more = grown (table_dependencies old.dependencies) next old.graphed f.graphed in
    let is : table_dependencies c.note_place.new.table ≡ with_new (table_dependencies old.dependencies) next = table.0 ∙ dependencies-push s e ∙ ap (λ ds. with_new ds next) (sym f.dependencies.0) in
    let len = length-push s e in
    let count = f.counted in
    record {
      counted = omega arith;
      held = c.in_ok-append_locks.ensures s f.held;
      dependencies = table;
      graphed = subst (λ ds. old.graphed ≤ length ds) (sym is) more.0;
      graph = subst (λ ds. IsGraphOf ds (shared_holders old.graph)) (sym (ap (take old.graphed) is ∙ more.1)) f.graph;
    }

pub returns-in_err-note_place : goal.returns-in_err-note_place
returns-in_err-note_place c = IfOk-from_err c.from_residual.result _ c.from_residual.ensures.0

pub returns-in_err-append_locks : goal.returns-in_err-append_locks
returns-in_err-append_locks c = IfOk-from_err c.from_residual-in_err-append_locks.result _ c.from_residual-in_err-append_locks.ensures.0
