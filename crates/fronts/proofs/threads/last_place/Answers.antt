use Rattle.std.proofs.Common.{◌≡◌, ◌-◌, length, slice_get, Some, sym, ap, subst, ◌∙◌}
use Rattle.fronts.proofs.ThreadLemmas.{last_listed, none_listed}
use Rattle.fronts.proofs.threads.last_place.Goals as goal

pub returns-then-count-eq0 : goal.returns-then-count-eq0
returns-then-count-eq0 c =
    none_listed c.args.index.now.events c.args.thread
    (sym (c.len-count.ensures.length ∙ ap length c.thread_places-places.ensures) ∙ c.if-count-eq0.true)

pub returns-else-count-eq0 : goal.returns-else-count-eq0
returns-else-count-eq0 c =
    last_listed c.args.index.now.events c.args.thread c.get.result
    (subst (λ xs. slice_get xs (length xs - 1) ≡ Some c.get.result) c.thread_places-places.ensures
    (subst (λ n. slice_get c.thread_places-places.result (n - 1) ≡ Some c.get.result) c.len-count.ensures.length c.get.ensures))
