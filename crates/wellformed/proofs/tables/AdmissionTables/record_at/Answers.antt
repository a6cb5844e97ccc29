use Rattle.std.proofs.Common.{◌≡◌, ap, subst, sym, ◌∙◌, ◌<◌, length, None, arith}
use Rattle.trace_model.specs.declared.limits.TheConstants.{MAX_DEPTH}
use Rattle.trace_model.specs.Theory.Holders.{owner_depth}
use Rattle.trace_model.specs.Theory.Lawful.{op_refusal_of}
use Rattle.wellformed.specs.Owners.{op_owner}
use Rattle.wellformed.specs.Threads.{thread_in, thread_after}
use Rattle.trace_model.proofs.Theory.Depths.{held_shallow}
use Rattle.trace_model.proofs.Theory.Growing.{well_formed_push}
use Rattle.trace_model.proofs.Lists.{length-push}
use Rattle.trace_model.proofs.Theory.OneMore.{lawful_op}
use Rattle.wellformed.proofs.TableSteps.{acquire_room, tables-push}
use Rattle.wellformed.proofs.tables.AdmissionTables.record_at.Goals as goal

pub record_thread-requires-clause-few : goal.record_thread-requires-clause-few
record_thread-requires-clause-few c =
    let (s, f, lawful) = c.requires.lawful in
    omega (arith, held_shallow s f.well_formed c.args.event.now.thread (length s), f.shown.held_is c.args.event.now.thread, ap (λ x. x.held) c.requires.own)

pub record_lock-requires-clause-room : goal.record_lock-requires-clause-room
record_lock-requires-clause-room c lock acquires =
    let (s, f, lawful) = c.requires.lawful in
    let e = c.args.event.now in
    let passed = subst (λ o. op_refusal_of s e.thread o ≡ None) acquires (lawful_op _ s e lawful) in
    let room = acquire_room s f.well_formed e.thread lock passed in
    let same = c.requires.was ∙ ap (op_owner c.args.self.now.owners) acquires ∙ f.shown.owner_is lock in
    subst (λ o. owner_depth o < MAX_DEPTH) (sym same) room

pub returns : goal.returns
returns c s f lawful = record {
  counted = omega (arith, f.counted, length-push s c.args.event.now);
  well_formed = well_formed_push s c.args.event.now f.well_formed lawful;
  shown = tables-push s c.args.event.now _ _ _ _ _ _ f.well_formed f.shown (lawful_op _ s c.args.event.now lawful) (λ t. c.record_thread.ensures t ∙ ap (λ d. thread_after d c.args.event.now t (thread_in c.args.self.now.threads t)) (c.depth_of-depth.ensures ∙ ap owner_depth c.requires.was)) c.record_lock.ensures c.forks_after-self.ensures;
}
