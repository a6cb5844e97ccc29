use Rattle.std.proofs.Common.{◌≡◌, ap, sym, subst, ◌∙◌}
use Rattle.std.specs.Option.{option_map}
use Rattle.explain.specs.declared.tables.Prefix.{Prefix}
use Rattle.explain.specs.Tables.{prefix_at}
use Rattle.explain.specs.DerivationSearch.{IsUpTo}
use Rattle.explain.proofs.Covering.{covered}
use Rattle.explain.proofs.search.DerivationSearch.cover.Goals as goal
use Rattle.explain.proofs.search.DerivationSearch.cover.Goals.{in-Some-known, in-None}

pub returns-clause-covered : goal.returns-clause-covered
returns-clause-covered c places is covers =
    let s = c.args.index.now.events in
    let x = c.args.self.now in
    let t = c.in-Some-event.event.thread in
    let place = c.in-Some.place in
    let after = c.match-known.after in
    let known : after ≡ option_map (λ (k : Prefix). k.last) (prefix_at x.threads t) = elim c.match-known.branch [
      | in-Some-known w ↦ w.after-is ∙ ap (option_map (λ (k : Prefix). k.last)) (sym (sym c.prefix_at-known.ensures ∙ w.in-Some-known.is))
      | in-None w ↦ w.after-is ∙ ap (option_map (λ (k : Prefix). k.last)) (sym (sym c.prefix_at-known.ensures ∙ w.in-None.is))
    ] in
    covered s places x (record x { threads = c.put_prefix.new.table; ranges = c.push.new.self }) t place c.args.reason.now after 16
    (c.in-Some-event.event.op, sym c.event.ensures ∙ c.in-Some-event.is) known
    (c.is_past.ensures.not_past c.if-is_past.false) c.in_ok-put_prefix.ensures c.in_ok-push.ensures.items is
    (λ p up. covers p (subst (IsUpTo s p) (sym c.in-Some.is) up)) c.args.last c.in-Some.is
