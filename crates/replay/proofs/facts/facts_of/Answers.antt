use Rattle.std.proofs.Common.{length, ap, ◌∙◌}
use Rattle.std.specs.List.{slice_get}
use Rattle.trace_model.specs.Theory.Lookups.{writer}
use Rattle.trace_model.proofs.Theory.OneMore.{length_well_formed}
use Rattle.trace_model.specs.Theory.Held.{begun_lock}
use Rattle.std.proofs.lemmas.Result.{IfOk-from_err}
use Rattle.replay.specs.Facts.{previous}
use Rattle.replay.proofs.FactLists.{get-each}
use Rattle.replay.proofs.facts.facts_of.Goals as goal

pub previous_places-requires : goal.previous_places-requires
previous_places-requires c = length_well_formed c.args.trace.now c.requires

pub writers_of-requires : goal.writers_of-requires
writers_of-requires c = length_well_formed c.args.trace.now c.requires

pub returns : goal.returns
returns c =
    let s = c.args.trace.now in
    record {
      previous = λ q l. ap (λ xs. slice_get xs q) c.in_ok-previous.ensures.previous ∙ get-each (previous s) (length s) q l;
      writers = λ q l. ap (λ xs. slice_get xs q) c.in_ok-writers.ensures ∙ get-each (writer s) (length s) q l;
      begins = λ q l. ap (λ xs. slice_get xs q) c.in_ok-begins.ensures.begins ∙ get-each (begun_lock s) (length s) q l;
      releases = c.in_ok-begins.ensures.releases;
      lasts = c.in_ok-previous.ensures.lasts;
    }

pub returns-in_err-previous : goal.returns-in_err-previous
returns-in_err-previous c = IfOk-from_err c.from_residual.result _ c.from_residual.ensures.0

pub returns-in_err-writers : goal.returns-in_err-writers
returns-in_err-writers c = IfOk-from_err c.from_residual-in_err-writers.result _ c.from_residual-in_err-writers.ensures.0

pub returns-in_err-begins : goal.returns-in_err-begins
returns-in_err-begins c = IfOk-from_err c.from_residual-in_err-begins.result _ c.from_residual-in_err-begins.ensures.0
