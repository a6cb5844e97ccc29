use Rattle.std.proofs.Common.{◌++◌, ◌∷◌, [], ◌<◌, ◌∙◌, Ok, Some, sym, ap, subst, append_assoc, arith}
use Rattle.std.specs.List.{All}
use Rattle.std.proofs.lemmas.List.{length-set}
use Rattle.findings.proofs.Members.{all_in}
use Rattle.offline_report.proofs.Gathered.{hold_set}
use Rattle.offline_report.specs.declared.gathering.Done.{Done}
use Rattle.offline_report.proofs.gathering.put_results.Goals as goal

pub loop-one-preserved-then-task-len : goal.loop-one-preserved-then-task-len
loop-one-preserved-then-task-len g c =
    let may_give = g.C.Computes.may_give in
    let P = λ (one : Done g.row.C-Given.Denot). (one.task < c.args._tasks) × may_give one.task (Ok one.given) in
    let v = c.loop-one.invariant in
    let is = sym v.rest ∙ ap (λ xs. c.loop-one.yielded ++ xs) c.in-Some.ensures.steps.0 in
    let one = all_in P c.loop-one.yielded c.in-Some.one c.next.new.self.rest.items (subst (All P) is c.requires.given) in
    record {
      each = omega (arith, length-set c.loop-one.slots.items c.in-Some.one.task (Some c.in-Some.one.given), v.each);
      held = hold_set may_give c.loop-one.slots.items c.in-Some.one.task c.in-Some.one.given v.held one.1;
      rest = append_assoc c.loop-one.yielded (c.in-Some.one ∷ []) c.next.new.self.rest.items
          ∙ ap (λ xs. c.loop-one.yielded ++ xs) (sym c.in-Some.ensures.steps.0) ∙ v.rest;
    }

pub loop-one-preserved-then-task-len-2 : goal.loop-one-preserved-then-task-len-2
loop-one-preserved-then-task-len-2 g c =
    let may_give = g.C.Computes.may_give in
    let P = λ (one : Done g.row.C-Given.Denot). (one.task < c.args._tasks) × may_give one.task (Ok one.given) in
    let v = c.loop-one.invariant in
    let is = sym v.rest ∙ ap (λ xs. c.loop-one.yielded ++ xs) c.in-Some.ensures.steps.0 in
    let one = all_in P c.loop-one.yielded c.in-Some.one c.next.new.self.rest.items (subst (All P) is c.requires.given) in
    record {
      each = omega (arith, length-set c.loop-one.slots.items c.in-Some.one.task (Some c.in-Some.one.given), v.each);
      held = hold_set may_give c.loop-one.slots.items c.in-Some.one.task c.in-Some.one.given v.held one.1;
      rest = append_assoc c.loop-one.yielded (c.in-Some.one ∷ []) c.next.new.self.rest.items
          ∙ ap (λ xs. c.loop-one.yielded ++ xs) (sym c.in-Some.ensures.steps.0) ∙ v.rest;
    }
