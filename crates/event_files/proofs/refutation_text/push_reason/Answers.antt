use Rattle.std.proofs.Common.{◌++◌, ◌∙◌, ap, sym}
use Rattle.event_files.specs.Refutations.{reason_line}
use Rattle.event_files.proofs.RefutationTexts.{added_two, added_three, added_four}
use Rattle.event_files.proofs.refutation_text.push_reason.Goals as goal

pub returns-in_ok-push_place-in-BeforeMember-2 : goal.returns-in_ok-push_place-in-BeforeMember-2
returns-in_ok-push_place-in-BeforeMember-2 c =
    added_two _ _ _ _ _ c.in_ok-push_place-in-BeforeMember.ensures c.in_ok-push_place-in-BeforeMember-2.ensures
    ∙ ap (λ r. c.args.text.now.items ++ reason_line r c.args.place) (sym c.in-BeforeMember.is)

pub returns-in_ok-extend_from_slice-in-ThreadOrder : goal.returns-in_ok-extend_from_slice-in-ThreadOrder
returns-in_ok-extend_from_slice-in-ThreadOrder c =
    added_three _ _ _ _ _ _ _ c.in_ok-push_place-in-ThreadOrder.ensures c.in_ok-push_place-in-ThreadOrder-2.ensures c.in_ok-extend_from_slice-in-ThreadOrder.ensures.items
    ∙ ap (λ r. c.args.text.now.items ++ reason_line r c.args.place) (sym c.in-ThreadOrder.is)

pub returns-in_ok-extend_from_slice-in-ForkJoin : goal.returns-in_ok-extend_from_slice-in-ForkJoin
returns-in_ok-extend_from_slice-in-ForkJoin c =
    added_three _ _ _ _ _ _ _ c.in_ok-push_place-in-ForkJoin.ensures c.in_ok-push_place-in-ForkJoin-2.ensures c.in_ok-extend_from_slice-in-ForkJoin.ensures.items
    ∙ ap (λ r. c.args.text.now.items ++ reason_line r c.args.place) (sym c.in-ForkJoin.is)

pub returns-in_ok-extend_from_slice-in-ReadsFrom : goal.returns-in_ok-extend_from_slice-in-ReadsFrom
returns-in_ok-extend_from_slice-in-ReadsFrom c =
    added_three _ _ _ _ _ _ _ c.in_ok-push_place-in-ReadsFrom.ensures c.in_ok-push_place-in-ReadsFrom-2.ensures c.in_ok-extend_from_slice-in-ReadsFrom.ensures.items
    ∙ ap (λ r. c.args.text.now.items ++ reason_line r c.args.place) (sym c.in-ReadsFrom.is)

pub returns-in_ok-extend_from_slice-in-Sections : goal.returns-in_ok-extend_from_slice-in-Sections
returns-in_ok-extend_from_slice-in-Sections c =
    added_four _ _ _ _ _ _ _ _ _ c.in_ok-push_place-in-Sections.ensures c.in_ok-push_place-in-Sections-2.ensures c.in_ok-push_place-in-Sections-3.ensures c.in_ok-extend_from_slice-in-Sections.ensures.items
    ∙ ap (λ r. c.args.text.now.items ++ reason_line r c.args.place) (sym c.in-Sections.is)
