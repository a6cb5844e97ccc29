use Rattle.std.proofs.Common.{rules, ◌<◌, ◌^◌, sym, subst}
use Rattle.std.proofs.lemmas.List.Elements.{All-push, All-same}
use Rattle.event_files.proofs.NumberedTexts.{LeftOf, IsOneNumber, reads_one, reads_all, one_more_spaced}
use Rattle.event_files.proofs.numbered_text.numbers_in.Goals as goal

pub loop-number-preserved : goal.loop-number-preserved
loop-number-preserved c =
    let items = c.loop-number.numbers.items in
    let n = c.in-Some.number in
    let next = c.in-Some.more.now in
    let small : n < 2 ^ 32 = search rules in
    let read : IsOneNumber c.loop-number.rest.now n next =
    record { small = small; is = c.in-Some.ensures.sound; only = c.in-Some.ensures.complete } in
    record {
      text_is = one_more_spaced c.args.text.now items c.push.new.self.items c.loop-number.rest.now next n c.loop-number.invariant.text_is c.in-Some.ensures.sound c.in_ok-push.ensures.items;
      small = All-same (λ k. k < 2 ^ 32) _ _ c.in_ok-push.ensures.items (All-push (λ k. k < 2 ^ 32) items n c.loop-number.invariant.small small);
      left = λ numbers rest are_small stops is. subst (λ xs. LeftOf xs next numbers rest) (sym c.in_ok-push.ensures.items)
          (reads_one items c.loop-number.rest.now next numbers rest n read are_small stops (c.loop-number.invariant.left numbers rest are_small stops is));
    }

pub returns-clause-complete : goal.returns-clause-complete
returns-clause-complete c = λ numbers rest small stops is.
    reads_all c.loop-number.numbers.items c.loop-number.rest.now numbers rest c.in_default.ensures.complete small stops (c.loop-number.invariant.left numbers rest small stops is)
