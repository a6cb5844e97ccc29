use Rattle.std.proofs.Common.{◌≡◌, List, [], ◌∷◌, ◌++◌, length, refl, sym, ap, subst, ◌∙◌, arith, append_assoc}
use Rattle.std.proofs.lemmas.List.{append-nil, nil_from_length}
use Rattle.snapshots.specs.Found.{RowsOfTask}
use Rattle.sequencer.specs.Deliveries.{DeliveryResult}
use Rattle.trace_model.specs.Protocol.Runs.{IsLegal}
use Rattle.desk.specs.Published.{After, DeskView}
use Rattle.desk.specs.Together.{AreOutcomes, taken_steps}
use Rattle.desk.proofs.Steps.{after_shown, legal_kept}
use Rattle.desk.proofs.Together.{none_yet, outcome_of, outcomes_more, steps_more, steps_of}
use Rattle.desk.proofs.locked.Locked.deliver_all.Goals as goal

pub push_reserved-requires : goal.push_reserved-requires
push_reserved-requires g c =
    omega (arith, c.loop-finding.invariant.room, ap length c.in-Some.ensures.steps.0)

pub loop-finding-init : goal.loop-finding-init
loop-finding-init g c = record {
  are = none_yet g.N.HistoryId.limit _ _ c.in-Ok.ensures.items;
  run = sym (append-nil c.args.self.now.published);
  after = subst (λ (k : DeskView). After g.N.HistoryId.limit k.published k.state) c.self.view_is c.self.invariant.after;
  rest = c.into_iter-finding-iterator.ensures.into_iter_gives.0;
  room = omega (arith, c.in-Ok.ensures.capacity, c.in-Ok.ensures.len, c.len.ensures, ap length c.into_iter-finding-iterator.ensures.into_iter_gives.0);
}

pub loop-finding-preserved : goal.loop-finding-preserved
loop-finding-preserved g c =
    let i = c.loop-finding.invariant in
    let d = c.deliver-outcome.ensures in
    let f = c.in-Some.finding in
    let o = c.deliver-outcome.result.0 in
    let is = outcome_of g.N.HistoryId.limit c.loop-finding.self c.deliver-outcome.new.self f o i.after d.went in
    let items = c.push_reserved.ensures.items in
    record {
      are = subst (λ (os : List DeliveryResult). AreOutcomes g.N.HistoryId.limit c.args.self.now.published (c.loop-finding.yielded ++ f ∷ []) os) (sym items)
          (outcomes_more g.N.HistoryId.limit c.args.self.now.published c.loop-finding.self.published c.loop-finding.yielded c.loop-finding.outcomes.items f o i.are i.run is);
      run = steps_more c.args.self.now.published c.loop-finding.self.published c.deliver-outcome.new.self.published c.loop-finding.yielded c.loop-finding.outcomes.items f o i.are.count i.run
          (steps_of c.loop-finding.self c.deliver-outcome.new.self f o d.went)
          ∙ ap (λ (os : List DeliveryResult). c.args.self.now.published ++ taken_steps (c.loop-finding.yielded ++ f ∷ []) os) (sym items);
      after = d.after;
      rest = append_assoc c.loop-finding.yielded (f ∷ []) c.next.new.self.rest.items
          ∙ ap (λ (xs : List RowsOfTask). c.loop-finding.yielded ++ xs) (sym c.in-Some.ensures.steps.0) ∙ i.rest;
      room = omega (arith, i.room, c.push_reserved.ensures.len, c.push_reserved.ensures.capacity, ap length c.in-Some.ensures.steps.0);
    }

pub returns-in_default : goal.returns-in_default
returns-in_default g c =
    let limit = g.N.HistoryId.limit in
    let b = c.self.inside.board in
    let k = c.self.invariant in
    record {
      after = after_shown limit _ _ c.self.view_is k.after;
      outcomes = tt;
      published = tt;
      receipt = tt;
      back = refl;
      same = refl;
      some = grind (arith, c.in_default.ensures.succeeds, c.len.ensures);
      legal = subst (λ (x : DeskView). IsLegal x.published) c.self.view_is (legal_kept limit b.published b.waiting c.self.inside.book.state k);
    }

pub returns : goal.returns
returns g c =
    let i = c.loop-finding.invariant in
    let rest = c.loop-finding.finding-iterator.rest in
    let outcomes = c.loop-finding.outcomes.items in
    let run = c.args.self.now.published in
    let none : rest.items ≡ [] = nil_from_length rest.items (omega (arith, rest.ok.0, c.in-None.ensures.steps.0)) in
    let all : c.loop-finding.yielded ≡ c.args.findings.items =
    sym (append-nil c.loop-finding.yielded) ∙ (ap (λ (xs : List RowsOfTask). c.loop-finding.yielded ++ xs) (sym none) ∙ i.rest) in
    record {
      after = i.after;
      outcomes = subst (λ (fs : List RowsOfTask). AreOutcomes g.N.HistoryId.limit run fs outcomes) all i.are;
      published = i.run ∙ ap (λ (fs : List RowsOfTask). run ++ taken_steps fs outcomes) all;
      receipt = c.receipt.ensures.published;
      back = tt;
      same = tt;
      some = tt;
      legal = c.receipt.ensures.legal;
    }
