-- Links of entries, and of the next entry.
use Rattle.std.proofs.Common.{◌≡◌, ℕ, suc, ◌+◌, ◌<◌, ◌≤◌, inl, inr, true, Option, Some, None, refl, sym, ap, subst, ◌∙◌, arith}
use Rattle.std.proofs.lemmas.Bool.{cases_lt}
use Rattle.std.specs.Option.{option_map_or, IsSomeAnd}
use Rattle.trace_model.specs.Theory.Trace.{last_place}
use Rattle.trace_model.specs.Theory.Closure.{Places}
use Rattle.trace_model.proofs.Theory.Places.{last_place_some, last_place_none}
use Rattle.trace_model.proofs.Theory.Prefix.{last_place-agree}
use Rattle.segments.specs.declared.links.link.Link.{Link}
use Rattle.segments.specs.Linking.{count_below, IsLink}
use Rattle.segments.proofs.Counting.{count_last, count_none, count-agree}

pub link_earlier : (test : Places) (p number : ℕ) (link : Link) → IsLink test p link → number < link.number → link.earlier ≡ None → ⊥
link_earlier test p number link is more none = let zero_is = count_none test p (sym is.earlier_is ∙ none) in let n = is.number_is in omega arith

-- the entry is the last one below p that matches
pub record IsEarlier (test : Places) (p q : ℕ) : Type 0 where
  pub below : q < p
  pub passes_is : test q ≡ true
  pub one_less : count_below test p ≡ suc (count_below test q)

pub last_is : (test : Places) (p q : ℕ) → last_place test p ≡ Some q → IsEarlier test p q
last_is test p q h = let s = last_place_some test p q h in record { below = s.0; passes_is = s.1; one_less = count_last test p q h }

pub earlier_is : (test : Places) (p q : ℕ) (link : Link) → IsLink test p link → link.earlier ≡ Some q → IsEarlier test p q
earlier_is test p q link is e = last_is test p q (sym is.earlier_is ∙ e)

pub jump_ok : (test : Places) (p : ℕ) (link : Link) → IsLink test p link → test p ≡ true → test link.jump ≡ true
jump_ok test p link is h = elim (cases_lt link.jump p) [
  | inl l ↦ is.jump_passes l
  | inr l ↦ let w = is.jump_within in let same : p ≡ link.jump = omega arith in ap test (sym same) ∙ h
]

-- a link depends only on the entries before it
pub link-agree : (f g : Places) (p : ℕ) (link : Link) → ((u : ℕ) → u < p → f u ≡ g u) → IsLink f p link → IsLink g p link
link-agree f g p link each is = record {
  number_is = is.number_is ∙ count-agree f g p each;
  earlier_is = is.earlier_is ∙ last_place-agree f g p each;
  jump_within = is.jump_within;
  jump_passes = λ l. sym (each link.jump l) ∙ is.jump_passes l;
}

-- ---- the link of the next entry

pub first_link : (test : Places) (p : ℕ) (link : Link) → last_place test p ≡ None → link.number ≡ 0 → link.earlier ≡ None → link.jump ≡ p → IsLink test p link
first_link test p link none number earlier jump = record {
  number_is = number ∙ sym (count_none test p none);
  earlier_is = earlier ∙ sym none;
  jump_within = omega arith;
  jump_passes = λ l. absurd (omega arith);
}

pub next_link : (test : Places) (p q : ℕ) (link new : Link) → last_place test p ≡ Some q → IsLink test q link → new.number ≡ link.number + 1 → new.earlier ≡ Some q →
    new.jump ≤ q → test new.jump ≡ true → IsLink test p new
next_link test p q link new last is number earlier within passes_it =
    let e = last_is test p q last in
    let b = e.below in
    let one = e.one_less in
    let n = is.number_is in
    record {
      number_is = omega arith;
      earlier_is = earlier ∙ sym last;
      jump_within = omega arith;
      jump_passes = λ l. passes_it;
    }

-- ---- the last entry below a bound

pub covers : (test : Places) (n : ℕ) (o : Option ℕ) → o ≡ last_place test n → (u : ℕ) → u < n → test u ≡ true → IsSomeAnd o (λ i. u ≤ i)
covers test n None h u l t = absurd (last_place_none test n (sym h) u l t)
covers test n (Some i) h u l t = elim (cases_lt i u) [
  | inl y ↦ absurd ((last_place_some test n i (sym h)).2 u y l t)
  | inr y ↦ y
]

pub none_last : (test : Places) (n : ℕ) → ((u : ℕ) → u < n → test u ≡ true → ⊥) → None ≡ last_place test n
none_last test n h = go (last_place test n) refl
  where
    go : (o : Option ℕ) → last_place test n ≡ o → None ≡ o
    go None e = refl
    go (Some p) e = let s = last_place_some test n p e in absurd (h p s.0 s.1)

-- a step to an earlier entry
pub falls : (at earlier : Option ℕ) (index : ℕ) → at ≡ Some index → ((i : ℕ) → earlier ≡ Some i → i < index) → option_map_or (λ i. suc i) earlier 0 < option_map_or (λ i. suc i) at 0
falls at earlier index is below = subst (λ o. option_map_or (λ i. suc i) earlier 0 < option_map_or (λ i. suc i) o 0) (sym is) (go earlier refl)
  where
    go : (o : Option ℕ) → earlier ≡ o → option_map_or (λ i. suc i) o 0 < suc index
    go None e = omega arith
    go (Some i) e = let l = below i e in omega arith
