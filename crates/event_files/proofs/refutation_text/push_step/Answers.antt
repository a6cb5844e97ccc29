use Rattle.std.proofs.Common.{◌≡◌, ◌-◌, ◌<◌, List, ◌++◌, ◌∙◌, ap, sym, subst, length, get_or, arith}
use Rattle.std.specs.List.{flat_map}
use Rattle.std.specs.Prelude.{slice_index}
use Rattle.std.specs.Option.{option_map_or}
use Rattle.std.proofs.lemmas.Option.{slice_get-get_or}
use Rattle.std.proofs.lemmas.Result.{on_ok_weaker}
use Rattle.trace_model.specs.declared.refutations.Derived.{Derived}
use Rattle.event_files.specs.Refutations.{entry_text, conclusion_text, last_derived_place}
use Rattle.event_files.proofs.RefutationTexts.{added_two}
use Rattle.event_files.proofs.refutation_text.push_step.Goals as goal

last_is : (entries : List Derived) (d : Derived) → 0 < length entries → (get_or entries (length entries - 1) d).place ≡ last_derived_place entries
last_is entries d some =
    sym (ap (λ o. option_map_or (λ (x : Derived). x.place) o 0) (slice_get-get_or entries (length entries - 1) d (omega arith)))

pub returns : goal.returns
returns c =
    let text = c.args.text.now.items in
    let entries = c.args.step.now.derivation in
    let thread = slice_index c.args.threads.now c.args.step.now.member in
    let d = c.index-entries-entries.result in
    let read = c.entries-entries.result.now in
    let place : (get_or read (length read - 1) d).place ≡ last_derived_place entries =
    subst (λ es. (get_or es (length es - 1) d).place ≡ last_derived_place entries) (sym c.entries-entries.ensures) (last_is entries d c.requires.1) in
    let first = subst (λ es. c.push_entries.new.text.items ≡ text ++ flat_map entry_text es) c.entries-entries.ensures c.in_ok-push_entries.ensures in
    on_ok_weaker c.push_conclusion.result (λ e.
    added_two text c.push_entries.new.text.items c.push_conclusion.new.text.items (flat_map entry_text entries) (conclusion_text thread (last_derived_place entries)) first
    (e ∙ ap (λ p. c.push_entries.new.text.items ++ conclusion_text thread p) place)) c.push_conclusion.ensures
