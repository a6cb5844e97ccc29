use Rattle.std.proofs.Common.{ℕ, ap, sym, ◌∙◌}
use Rattle.std.specs.Global.{Vec}
use Rattle.std.specs.Prelude.{option_map}
use Rattle.std.proofs.lemmas.Option.{none-some, MatchOption-at_some}
use Rattle.event_files.specs.ExplainedText.{stated_member}
use Rattle.event_files.proofs.StatedLines.{head_alone, member_alone, no_line}
use Rattle.event_files.proofs.explained_lines.line_in.Goals as goal

pub returns-in-Some-clause-complete : goal.returns-in-Some-clause-complete
returns-in-Some-clause-complete c = λ l line.
    head_alone c.in-Some.head c.args.text.now l c.in-Some.ensures.sound c.in-Some.ensures.complete line

pub returns-in-Some-3-clause-complete : goal.returns-in-Some-3-clause-complete
returns-in-Some-3-clause-complete c = λ l line.
    let text = c.args.text.now in
    let sound = MatchOption-at_some _ _ c.in-Some-3.member c.in-Some-3.is c.in_ok-member.ensures.sound in
    member_alone (stated_member c.in-Some-3.member) text l sound (λ m small e. ap (option_map stated_member) (sym c.in-Some-3.is) ∙ c.in_ok-member.ensures.complete m small e) line

pub returns-in-None-clause-complete : goal.returns-in-None-clause-complete
returns-in-None-clause-complete c = λ l line.
    absurd (no_line c.args.text.now l (record {
      head = λ h s e. none-some _ (c.in_default.ensures.complete h s e);
      row = λ cycle confirmed s low high e. none-some _ (sym c.in_default-2.is ∙ c.in_ok-cycle.ensures.complete cycle confirmed s low high e);
      member = λ m s e. none-some _ (ap (option_map stated_member) (sym c.in_default-3.is) ∙ c.in_ok-member.ensures.complete m s e);
      places = λ order s e. none-some _ (ap (option_map (λ (v : Vec ℕ). v.items)) (sym c.in_default-4.is) ∙ c.in_ok-places.ensures.complete order s e);
      entry = λ d s e. none-some _ (c.in-None.ensures.complete d s e);
      conclusion = λ thread place s e. none-some _ (c.in_default-conclusion_in.ensures.complete thread place s e);
    }) line)
