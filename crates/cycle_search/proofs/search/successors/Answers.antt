use Rattle.std.proofs.Common.{◌∙◌, ◌-◌, List, ℕ, length, get_or, sym, ap, subst, arith}
use Rattle.cycle_search.specs.Edges.{AreHolders}
use Rattle.cycle_search.proofs.Paths.{found, nexts-known}
use Rattle.cycle_search.proofs.search.successors.Goals as goal

pub returns : goal.returns
returns c =
    let ds = c.args.search_input.now in let path = c.args.path.now.items in
    let at = ap (λ (xs : List ℕ). get_or xs (length path - 1) 0) (sym c.deref.ensures.0) ∙ ap (λ (n : ℕ). get_or c.deref.result.now (n - 1) 0) (sym c.len.ensures.value) in
    let last = found ds (get_or path (length path - 1) 0) (c.requires.known (length path - 1) 0 (omega (arith, c.requires.begun))) in
    let all = subst (λ n. AreHolders ds n c.successors-holders.result.now) (sym at) c.successors-holders.ensures in
    nexts-known ds path c.requires last.0 last.1 c.successors-holders.result.now (all.exact last.0 last.1) c.args.after c.above.result.now c.above.ensures.exact c.above.ensures.ascends
