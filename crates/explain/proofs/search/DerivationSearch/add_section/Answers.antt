use Rattle.std.proofs.Common.{◌≡◌, ℕ, ◌<◌, Some, refl, sym, ap, subst, ◌∙◌, arith}
use Rattle.std.proofs.lemmas.Option.{none-some, same_Some}
use Rattle.trace_model.specs.Theory.Lookups.{release}
use Rattle.trace_model.proofs.Theory.Begun.{begun_so}
use Rattle.explain.specs.declared.tables.Prefix.{Prefix}
use Rattle.explain.specs.declared.search.DerivationSearch.{DerivationSearch}
use Rattle.explain.specs.DerivationSearch.{IsDerived, IsSearch, Extends}
use Rattle.explain.proofs.Adding.{on_ok_then, extends_refl, in_more}
use Rattle.explain.proofs.LastSections.{not_begun, follows_none, follows_earlier, follows_later, last_is, with_lock, extends_by_lock}
use Rattle.explain.proofs.search.DerivationSearch.add_section.Goals as goal
use Rattle.explain.proofs.search.DerivationSearch.add_section.Goals.{then-get-2+in_ok-require, else-get-2}

pub returns-in_default : goal.returns-in_default
returns-in_default c places followed is here at up derived f =
    let s = c.args.index.now.events in
    let x = c.args.self.now in
    (is, extends_refl s x, follows_none s followed x c.args.here.now.last (not_begun s c.args.here.now.last c.args.event at (λ l e. c.in_default.not-Acquire l e)) f)

pub returns-in_default-begun : goal.returns-in_default-begun
returns-in_default-begun c places followed is here at_event up derived f =
    let s = c.args.index.now.events in
    let x = c.args.self.now in
    (is, extends_refl s x, follows_none s followed x c.args.here.now.last (sym c.begun.ensures ∙ c.in_default-begun.is) f)

pub returns-in_default-prefix_at : goal.returns-in_default-prefix_at
returns-in_default-prefix_at c =
    on_ok_then c.put_prefix.result c.put_prefix.ensures (λ put places followed is here at_event up derived f.
    let s = c.args.index.now.events in
    let x = c.args.self.now in
    let l = c.in-Some.lock in
    let locks = c.put_prefix.new.table in
    let begins = sym c.begun.ensures ∙ c.in-Some.is in
    let none = sym c.prefix_at.ensures ∙ c.in_default-prefix_at.is in (
      with_lock s places x l c.args.here.now locks put here is,
      extends_by_lock s x x locks (extends_refl s x),
      follows_later s followed x x l c.args.here.now locks begins (λ p k. k) refl put (λ a e. absurd (none-some a (sym none ∙ e))) f,
    ))

pub returns-then-get : goal.returns-then-get
returns-then-get c =
    on_ok_then c.add_release.result c.add_release.ensures.released (λ h places followed is here at_event up derived f.
    let s = c.args.index.now.events in
    let x = c.args.self.now in
    let y = c.add_release.new.self in
    let q = c.args.here.now.last in
    let l = c.in-Some.lock in
    let last = c.in-Some-prefix_at.last in
    let begins = sym c.begun.ensures ∙ c.in-Some.is in
    let at = sym c.prefix_at.ensures ∙ c.in-Some-prefix_at.is in
    let less : q < last.last = omega (arith, c.if-get.true, c.get.ensures, c.get-2.ensures) in
    let (a, e, all) = h places is here (is.locks l last at) up derived less l (begun_so s q l begins) (last_is s followed x l last f at).1 in
    (a, e, follows_earlier s followed x y q l last begins at less e.has c.add_release.ensures.locks all f))

pub returns : goal.returns
returns c =
    on_ok_then c.put_prefix-2.result c.put_prefix-2.ensures (λ put places followed is here at_event up derived f.
    let s = c.args.index.now.events in
    let x = c.args.self.now in
    let y = c.if-get-2.self in
    let q = c.args.here.now.last in
    let l = c.in-Some.lock in
    let last = c.in-Some-prefix_at.last in
    let locks = c.put_prefix-2.new.table in
    let begins = sym c.begun.ensures ∙ c.in-Some.is in
    let at = sym c.prefix_at.ensures ∙ c.in-Some-prefix_at.is in
    let is_last = last_is s followed x l last f at in
    let mid : IsSearch s places y × Extends s x y × (y.locks ≡ x.locks) × (last.last < q → (r : ℕ) → release s last.last ≡ Some r → IsDerived s y r) =
    elim c.if-get-2.branch [
      | then-get-2+in_ok-require w ↦
          let z = w.require.new.self in
          let less : last.last < q = omega (arith, w.if-get-2.true, c.get-3.ensures, c.get-4.ensures) in
          let (a, e, all) = w.in_ok-require.ensures.required places is (is.locks l last at) here
          (λ r k xs d g. (d, g, less, (l, is_last.1, begun_so s q l begins), sym w.release_of.ensures ∙ k)) in
          subst (λ (v : DerivationSearch). IsSearch s places v × Extends s x v × (v.locks ≡ x.locks) × (last.last < q → (r : ℕ) → release s last.last ≡ Some r → IsDerived s v r))
          (sym w.self-is) (a, e, w.in_ok-require.ensures.locks, λ _ r k. all r (w.release_of.ensures ∙ k))
      | else-get-2 w ↦
          subst (λ (v : DerivationSearch). IsSearch s places v × Extends s x v × (v.locks ≡ x.locks) × (last.last < q → (r : ℕ) → release s last.last ≡ Some r → IsDerived s v r))
          (sym w.self-is) (is, extends_refl s x, refl, λ less. absurd (omega (arith, less, w.if-get-2.false, c.get-3.ensures, c.get-4.ensures)))
    ] in (
      with_lock s places y l c.args.here.now locks put (in_more s places x y mid.1 c.args.here.now here) mid.0,
      extends_by_lock s x y locks mid.1,
      follows_later s followed x y l c.args.here.now locks begins mid.1.has mid.2 put
          (λ a e. let same : last ≡ a = same_Some last a (sym at ∙ e) in
          let place : last.last ≡ a.last = ap (λ (z : Prefix). z.last) same in
          (omega (arith, place, c.if-get.false, c.get.ensures, c.get-2.ensures), λ less r k. mid.3 (omega (arith, place, less)) r (ap (release s) place ∙ k)))
          f,
    ))
