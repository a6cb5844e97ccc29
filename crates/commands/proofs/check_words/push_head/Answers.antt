use Rattle.std.proofs.Common.{◌≡◌, ◌&&◌, ◌∙◌, ◌++◌, Bool, true, false, List, [], ◌∷◌, Option, ap, length, map, refl, sym, subst}
use Rattle.std.specs.Prelude.{option_to_list}
use Rattle.std.specs.List.{AllZip}
use Rattle.std.proofs.lemmas.List.{append-nil}
use Rattle.std.proofs.lemmas.List.Concat.{flat_map-cons}
use Rattle.event_files.specs.ExplainedText.{stated_cycle}
use Rattle.event_files.specs.declared.explanations.Explained.{Explained}
use Rattle.event_files.specs.declared.explanations.ReportHead.{ReportHead}
use Rattle.commands.specs.Check.{IsHeadVerdict}
use Rattle.commands.specs.CheckWords.{head_verdict_line}
use Rattle.commands.proofs.check_words.push_head.Goals as goal

and_true : (b : Bool) → b ≡ (b && true)
and_true true = refl
and_true false = refl

pub returns : goal.returns
returns c =
    let s = c.args.events.now in
    let v = c.head_verdict-verdict.result in
    let head = c.in-Some.head in
    let rows = map stated_cycle c.args.file.now.cycles.items in
    let is = subst (λ (l : List Explained). IsHeadVerdict (length s) (map stated_cycle l) head v) c.deref.ensures.value c.head_verdict-verdict.ensures in
    let old = c.args.text.now.items in (
      v ∷ [],
      subst (λ (o : Option ReportHead). AllZip (IsHeadVerdict (length s) rows) (option_to_list o) (v ∷ [])) (sym c.in-Some.is) (is, tt),
      c.is_valid_head.ensures ∙ and_true _,
      c.in_ok-push_head_verdict.ensures ∙ ap (λ l. old ++ l) (sym (flat_map-cons head_verdict_line v [] ∙ append-nil (head_verdict_line v))),
    )
