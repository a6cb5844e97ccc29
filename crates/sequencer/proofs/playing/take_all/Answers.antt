use Rattle.std.proofs.Common.{◌≡◌, List, ◌++◌, ◌∷◌, [], sym, ap, subst, ◌∙◌, append_assoc, arith}
use Rattle.std.proofs.lemmas.List.{append-nil, nil_from_length}
use Rattle.sequencer.specs.declared.input.Input.{Input}
use Rattle.sequencer.specs.Drains.{IsPlayed}
use Rattle.sequencer.proofs.playing.take_all.Goals as goal

pub loop-input-init : goal.loop-input-init
loop-input-init c = record {
  some = c.requires;
  played = λ start past h. subst (λ (xs : List Input). IsPlayed start xs c.args.run.now) (sym (append-nil past)) h;
  rest = c.into_iter-input-iterator.ensures.into_iter_gives.0;
}

pub take-requires : goal.take-requires
take-requires c = c.loop-input.invariant.some.2.count

pub loop-input-preserved : goal.loop-input-preserved
loop-input-preserved c =
    let i = c.loop-input.invariant in
    let some = i.some in
    record {
      some = (some.0, some.1 ++ c.in-Some.input ∷ [], c.in_ok-take.ensures some.0 some.1 some.2);
      played = λ start past h. subst (λ (xs : List Input). IsPlayed start xs c.take.new.self)
          (append_assoc past c.loop-input.yielded (c.in-Some.input ∷ []))
          (c.in_ok-take.ensures start (past ++ c.loop-input.yielded) (i.played start past h));
      rest = append_assoc c.loop-input.yielded (c.in-Some.input ∷ []) c.next.new.self.rest.items
          ∙ ap (λ xs. c.loop-input.yielded ++ xs) (sym c.in-Some.ensures.steps.0) ∙ i.rest;
    }

pub returns : goal.returns
returns c start past h =
    let i = c.loop-input.invariant in
    let rest = c.loop-input.input-iterator.rest in
    let none : rest.items ≡ [] = nil_from_length rest.items (omega (arith, rest.ok.0, c.in-None.ensures.steps.0)) in
    let all : c.loop-input.yielded ≡ c.args.inputs.items = sym (append-nil c.loop-input.yielded) ∙ (ap (λ (xs : List Input). c.loop-input.yielded ++ xs) (sym none) ∙ i.rest) in
    subst (λ (xs : List Input). IsPlayed start (past ++ xs) c.loop-input.run) all (i.played start past h)
