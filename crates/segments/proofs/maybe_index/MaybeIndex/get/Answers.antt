use Rattle.std.proofs.Common.{◌≡◌, ◌-◌, ℕ, zero, suc, Some, sym, refl, ap, ◌∙◌, arith}
use Rattle.segments.specs.Links.{index_of}
use Rattle.segments.proofs.maybe_index.MaybeIndex.get.Goals as goal

later : (n : ℕ) → (n ≡ 0 → ⊥) → Some (n - 1) ≡ index_of n
later zero some = absurd (some refl)
later (suc n) some = let same : suc n - 1 ≡ n = omega arith in ap Some same

pub returns-then-self-eq0 : goal.returns-then-self-eq0
returns-then-self-eq0 c = sym (ap index_of c.if-self-eq0.true) ∙ c.self.view_is

pub returns-else-self-eq0 : goal.returns-else-self-eq0
returns-else-self-eq0 c = later c.self.inside.0 c.if-self-eq0.false ∙ c.self.view_is
