use Rattle.std.proofs.Common.{rules, ◌≡◌, sym, ap, ◌∙◌}
use Rattle.std.proofs.lemmas.List.{append-nil}
use Rattle.std.proofs.lemmas.Option.{none-some}
use Rattle.trace_model.specs.declared.refutations.Reason.TheVariants.{BeforeMember, ThreadOrder, ForkJoin, ReadsFrom}
use Rattle.event_files.specs.ExplainedText.{entry_numbers}
use Rattle.event_files.specs.NumberedText.{AreSmall}
use Rattle.event_files.specs.Refutations.{entry_line}
use Rattle.event_files.proofs.ExplainedTexts.{no_entry, only_entry}
use Rattle.event_files.proofs.explained_lines.entry_in.Goals as goal

pub returns-in-Some-clause-sound : goal.returns-in-Some-clause-sound
returns-in-Some-clause-sound c =
    let found : c.entry.result ≡ record { place = c.in-Some.p; reason = BeforeMember c.in-Some.of } =
    c.entry.ensures ∙ (λ i. record { place = c.in-Some.p; reason = BeforeMember (c.new.ensures i) }) in
    c.in-Some.ensures.sound ∙ append-nil _ ∙ ap entry_line (sym found)

pub returns-in-Some-clause-complete : goal.returns-in-Some-clause-complete
returns-in-Some-clause-complete c = λ d small is.
    let found : c.entry.result ≡ record { place = c.in-Some.p; reason = BeforeMember c.in-Some.of } =
    c.entry.ensures ∙ (λ i. record { place = c.in-Some.p; reason = BeforeMember (c.new.ensures i) }) in
    let own : AreSmall (entry_numbers c.entry.result) = search rules in
    only_entry c.args.text.now c.entry.result d (c.in-Some.ensures.sound ∙ append-nil _ ∙ ap entry_line (sym found)) own small is

pub returns-in-Some-pair_in-clause-complete : goal.returns-in-Some-pair_in-clause-complete
returns-in-Some-pair_in-clause-complete c = λ d small is.
    let found : c.entry-in-Some-pair_in.result ≡ record { place = c.in-Some-pair_in.p; reason = ThreadOrder c.in-Some-pair_in.of } =
    c.entry-in-Some-pair_in.ensures ∙ (λ i. record { place = c.in-Some-pair_in.p; reason = ThreadOrder (c.new-in-Some-pair_in.ensures i) }) in
    let own : AreSmall (entry_numbers c.entry-in-Some-pair_in.result) = search rules in
    only_entry c.args.text.now c.entry-in-Some-pair_in.result d (c.in-Some-pair_in.ensures.sound ∙ ap entry_line (sym found)) own small is

pub returns-in-Some-pair_in-2-clause-sound : goal.returns-in-Some-pair_in-2-clause-sound
returns-in-Some-pair_in-2-clause-sound c =
    let found : c.entry-in-Some-pair_in-2.result ≡ record { place = c.in-Some-pair_in-2.p; reason = ForkJoin c.in-Some-pair_in-2.of } =
    c.entry-in-Some-pair_in-2.ensures ∙ (λ i. record { place = c.in-Some-pair_in-2.p; reason = ForkJoin (c.new-in-Some-pair_in-2.ensures i) }) in
    c.in-Some-pair_in-2.ensures.sound ∙ ap entry_line (sym found)

pub returns-in-Some-pair_in-2-clause-complete : goal.returns-in-Some-pair_in-2-clause-complete
returns-in-Some-pair_in-2-clause-complete c = λ d small is.
    let found : c.entry-in-Some-pair_in-2.result ≡ record { place = c.in-Some-pair_in-2.p; reason = ForkJoin c.in-Some-pair_in-2.of } =
    c.entry-in-Some-pair_in-2.ensures ∙ (λ i. record { place = c.in-Some-pair_in-2.p; reason = ForkJoin (c.new-in-Some-pair_in-2.ensures i) }) in
    let own : AreSmall (entry_numbers c.entry-in-Some-pair_in-2.result) = search rules in
    only_entry c.args.text.now c.entry-in-Some-pair_in-2.result d (c.in-Some-pair_in-2.ensures.sound ∙ ap entry_line (sym found)) own small is

pub returns-in-Some-pair_in-3-clause-sound : goal.returns-in-Some-pair_in-3-clause-sound
returns-in-Some-pair_in-3-clause-sound c =
    let found : c.entry-in-Some-pair_in-3.result ≡ record { place = c.in-Some-pair_in-3.p; reason = ReadsFrom c.in-Some-pair_in-3.of } =
    c.entry-in-Some-pair_in-3.ensures ∙ (λ i. record { place = c.in-Some-pair_in-3.p; reason = ReadsFrom (c.new-in-Some-pair_in-3.ensures i) }) in
    c.in-Some-pair_in-3.ensures.sound ∙ ap entry_line (sym found)

pub returns-in-Some-pair_in-3-clause-complete : goal.returns-in-Some-pair_in-3-clause-complete
returns-in-Some-pair_in-3-clause-complete c = λ d small is.
    let found : c.entry-in-Some-pair_in-3.result ≡ record { place = c.in-Some-pair_in-3.p; reason = ReadsFrom c.in-Some-pair_in-3.of } =
    c.entry-in-Some-pair_in-3.ensures ∙ (λ i. record { place = c.in-Some-pair_in-3.p; reason = ReadsFrom (c.new-in-Some-pair_in-3.ensures i) }) in
    let own : AreSmall (entry_numbers c.entry-in-Some-pair_in-3.result) = search rules in
    only_entry c.args.text.now c.entry-in-Some-pair_in-3.result d (c.in-Some-pair_in-3.ensures.sound ∙ ap entry_line (sym found)) own small is

pub returns-in_err-first-clause-complete : goal.returns-in_err-first-clause-complete
returns-in_err-first-clause-complete c = λ d small is.
    absurd (no_entry d.reason d.place c.args.text.now small is
    (λ m n ms ns a b e. none-some _ (c.in_default.ensures.complete m n ms ns a b e))
    (λ m n ms ns a b e. none-some _ (c.in_default-pair_in.ensures.complete m n ms ns a b e))
    (λ m n ms ns a b e. none-some _ (c.in_default-pair_in-2.ensures.complete m n ms ns a b e))
    (λ m n ms ns a b e. none-some _ (c.in_default-pair_in-3.ensures.complete m n ms ns a b e))
    (λ m n k ss e. none-some _ (c.in_err-first.ensures.complete m n k ss e)))

pub returns-clause-complete : goal.returns-clause-complete
returns-clause-complete c = λ d small is.
    let own : AreSmall (entry_numbers c.entry-2.result) = search rules in
    let sound : c.args.text.now ≡ entry_line c.entry-2.result = search rules in
    only_entry c.args.text.now c.entry-2.result d sound own small is
