use Rattle.std.proofs.Common.{◌∙◌, ◌↔◌, ◌-◌, IsTrue, List, ℕ, length, get_or, slice_get, sym, ap, subst}
use Rattle.trace_model.specs.Theory.Dependencies.{Dependency}
use Rattle.trace_model.specs.Theory.Held.{has}
use Rattle.dependencies.specs.Tables.{table_dependencies}
use Rattle.cycle_search.specs.CycleSearch.{IsPath, LinksTo}
use Rattle.cycle_search.proofs.Paths.{links-decided, has-decided}
use Rattle.cycle_search.proofs.search.links.Goals as goal

pub returns : goal.returns
returns c =
    let ds = table_dependencies c.search_input.inside.table.now in let path = c.args.path.now.items in
    let last = ap (slice_get ds) (ap (λ (xs : List ℕ). get_or xs (length path - 1) 0) (sym c.deref.ensures.0) ∙ ap (λ (n : ℕ). get_or c.deref.result.now (n - 1) 0) (sym c.len.ensures.value)) ∙ c.get-last.ensures in
    subst (λ z. IsTrue c.contains.result ↔ LinksTo z path c.args.next) c.search_input.view_is
    (links-decided ds path (subst (λ z. IsPath z path) (sym c.search_input.view_is) c.requires.path) c.get-last.result.now last c.args.next c.get.result.now c.get.ensures c.contains.result
    (has-decided c.contains.result c.get-last.result.now.lock c.get.result.now.held
    (c.contains.ensures ∙ ap (λ l. has l c.behind-search_input.inside.held) (ap (λ (d : Dependency). d.lock) c.last.view_is) ∙ ap (λ (d : Dependency). has c.get-last.result.now.lock d.held) c.behind-search_input.view_is)))
