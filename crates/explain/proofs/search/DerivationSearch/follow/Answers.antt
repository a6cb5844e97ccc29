use Rattle.std.proofs.Common.{ℕ, inl, inr, sym, subst, ◌∙◌}
use Rattle.std.proofs.lemmas.List.Elements.{Contains-push_cases}
use Rattle.explain.specs.DerivationSearch.{IsDerived, IsDirectlyRequired}
use Rattle.explain.proofs.Adding.{on_ok_then, extends_trans, in_more, has_earlier}
use Rattle.explain.proofs.LastSections.{follows_stays}
use Rattle.explain.proofs.search.DerivationSearch.follow.Goals as goal

pub returns : goal.returns
returns c =
    on_ok_then c.add_section.result c.add_section.ensures (λ h places followed is here up derived fork f.
    let s = c.args.index.now.events in
    let x = c.args.self.now in
    let y = c.add_joined.new.self in
    let z = c.add_writer.new.self in
    let w = c.add_section.new.self in
    let place = c.args.here.now.last in
    let at = sym c.event.ensures ∙ c.in-Some.is in
    let (i1, e1, joined) = c.in_ok-add_joined.ensures.joined places is here at in
    let here1 = in_more s places x y e1 c.args.here.now here in
    let (i2, e2, written) = c.in_ok-add_writer.ensures.written places i1 here1 at in
    let e12 = extends_trans s x y z e1 e2 in
    let here2 = in_more s places x z e12 c.args.here.now here in
    let (i3, e3, last) = h places followed i2 here2 at up (e12.has c.args.end derived)
    (follows_stays s followed x z e12.has (c.in_ok-add_writer.ensures.locks ∙ c.in_ok-add_joined.ensures.locks) f.sections) in
    let e = extends_trans s x z w e12 e3 in
    let all : (p : ℕ) → IsDirectlyRequired s place p → IsDerived s z p = λ p r. elim r [
      | inl a ↦ has_earlier s z p place a here2.0
      | inr a ↦ elim a [
        | inl b ↦ elim b [
          | inl (t, o, d) ↦ e12.has p (fork t p o d)
          | inr j ↦ e2.has p (joined p j)
        ]
        | inr b ↦ written p b
      ]
    ] in (
      i3,
      e,
      record {
        derived = λ q k. elim (Contains-push_cases followed place q k) [
          | inl i ↦ e.has q (f.derived q i)
          | inr i ↦ subst (IsDerived s w) i (e.has place here.0)
        ];
        required = λ q p k r. elim (Contains-push_cases followed place q k) [
          | inl i ↦ e.has p (f.required q p i r)
          | inr i ↦ e3.has p (all p (subst (λ v. IsDirectlyRequired s v p) (sym i) r))
        ];
        sections = last;
      },
    ))
