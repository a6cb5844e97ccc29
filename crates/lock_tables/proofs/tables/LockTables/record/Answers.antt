use Rattle.std.proofs.Common.{◌≡◌, ◌≤◌, Option, length, take, sym, subst, ap, ◌∙◌, arith, None}
use Rattle.trace_model.specs.Theory.Dependencies.{Dependency, dependency_of, with_new}
use Rattle.trace_model.specs.Theory.Held.{held_set}
use Rattle.trace_model.proofs.Lists.{length-push}
use Rattle.trace_model.proofs.Theory.OneMore.{dependencies-push, lawful_room}
use Rattle.dependencies.specs.Tables.{AllBelow, table_dependencies}
use Rattle.lock_graph.specs.Graph.{IsGraphOf}
use Rattle.trace_model.specs.declared.limits.TheConstants.{MAX_EVENTS}
use Rattle.trace_model.specs.Theory.Lawful.{refusal_of}
use Rattle.lock_tables.specs.Tables.{shared_holders}
use Rattle.lock_tables.proofs.OneFurther.{grown}
use Rattle.lock_tables.proofs.tables.LockTables.record.Goals as goal

pub record_place-requires-clause-below : goal.record_place-requires-clause-below
record_place-requires-clause-below c =
    let (s, f, lawful) = c.requires.lawful in
    subst (AllBelow c.args.self.now.dependencies) (sym f.counted ∙ sym c.new.ensures)
    (c.tables_follow.ensures.grow c.args.self.now.held c.args.self.now.dependencies c.args.self.now.dependencies s c.args.event.now f.held f.dependencies).0

pub returns : goal.returns
returns c s f =
    let e = c.args.event.now in
    let old = c.args.self.now in
    let table = c.record_place.ensures s (c.new.ensures ∙ f.counted) f.held f.dependencies in
    let next : Option Dependency = dependency_of e.thread e.op (held_set s (length s) e.thread) in
    let more = grown (table_dependencies old.dependencies) next old.graphed f.graphed in
    let is : table_dependencies c.record_place.new.table ≡ with_new (table_dependencies old.dependencies) next = table.0 ∙ dependencies-push s e ∙ ap (λ ds. with_new ds next) (sym f.dependencies.0) in
    let len = length-push s e in
    let count = f.counted in
    record {
      counted = omega arith;
      held = c.record_locks.ensures s f.held;
      dependencies = table;
      graphed = subst (λ ds. old.graphed ≤ length ds) (sym is) more.0;
      graph = subst (λ ds. IsGraphOf ds (shared_holders old.graph)) (sym (ap (take old.graphed) is ∙ more.1)) f.graph;
    }

pub record_place-requires-clause-room : goal.record_place-requires-clause-room
record_place-requires-clause-room c = c.requires.room.place

pub record_locks-requires-clause-entry : goal.record_locks-requires-clause-entry
record_locks-requires-clause-entry c = c.requires.room.entry

pub record_locks-requires-clause-fits : goal.record_locks-requires-clause-fits
record_locks-requires-clause-fits c lock acquires =
    let (s, f, lawful) = c.requires.lawful in
    let e = c.args.event.now in
    c.acquires_fit.ensures.next c.args.self.now.held MAX_EVENTS s e.thread lock f.held
    (subst (λ o. refusal_of MAX_EVENTS s (record { thread = e.thread; op = o }) ≡ None) acquires lawful)

pub overflow_add-self : goal.overflow_add-self
overflow_add-self c =
    let (s, f, lawful) = c.requires.lawful in
    omega (arith, f.counted, lawful_room MAX_EVENTS s c.args.event.now lawful)
