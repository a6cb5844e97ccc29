use Rattle.std.proofs.Common.{get_or, sym, ◌∙◌, subst}
use Rattle.std.proofs.lemmas.Option.{slice_get-get_or, get_or_from_slice_get}
use Rattle.cycle_search.specs.ComponentThreads.{HasComponentThread}
use Rattle.cycle_search.proofs.components.Components.thread_count.Goals as goal

pub returns : goal.returns
returns c = λ threads apart has.
    let numbers = c.args.self.now.numbers.items in
    let m = c.args.number in
    let same = c.index.ensures ∙ get_or_from_slice_get numbers m (get_or numbers m 0) c.index.result.now (slice_get-get_or numbers m 0 c.requires.number) in
    c.count.ensures threads apart (λ thread h. subst (λ component. HasComponentThread c.args.self.now.threads component thread) (sym same) (has thread h))
