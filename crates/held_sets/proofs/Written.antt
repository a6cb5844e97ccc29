-- Tables in which the holding of one thread is replaced.
use Rattle.std.proofs.Common.{◌≡◌, ℕ, Bool, true, false, cond, nat_eq, ◌==◌, ◌-◌, List, [], Option, Some, IsSome, unwrap_or, refl, sym, ap, subst, ◌∙◌}
use Rattle.std.proofs.lemmas.Bool.{eqb-true}
use Rattle.std.proofs.lemmas.Map.{lookup-set_value}
use Rattle.std.specs.Cmp.{nat_eq_equiv}
use Rattle.std.specs.Map.{lookup, set_value}
use Rattle.trace_model.specs.declared.traces.event.Op.{Op}
use Rattle.trace_model.specs.declared.traces.event.Op.TheVariants.{Release}
use Rattle.trace_model.specs.Theory.Held.{held_after, depth_after}
use Rattle.held_sets.specs.declared.holding.LockDepth.{LockDepth}
use Rattle.held_sets.specs.Tables.{HoldingTable, locks_of, depth_of, IsHeldAfter, holding_in, held_in, holding_depth, HasThreadEntry, IsAfter}

written : (t u : ℕ) (o : Option (List LockDepth)) (x : List LockDepth) → unwrap_or (cond (nat_eq t u) (Some x) o) [] ≡ cond (nat_eq t u) x (unwrap_or o [])
written t u o x = elim (nat_eq t u) as (λ b. unwrap_or (cond b (Some x) o) [] ≡ cond b x (unwrap_or o [])) [ true ↦ refl | false ↦ refl ]

-- a table in which the holding of one thread, which has an entry, is set
pub holding_set : (table : HoldingTable) (t : ℕ) (x : List LockDepth) → HasThreadEntry table t → (u : ℕ) →
    holding_in (set_value (nat_eq t) table x) u ≡ cond (nat_eq t u) x (holding_in table u)
holding_set table t x there u =
    ap (λ o. unwrap_or o []) (lookup-set_value nat_eq_equiv (nat_eq t) (λ k m h. ap (λ n. nat_eq n m) (eqb-true t k h)) u x table there)
    ∙ written t u (lookup (nat_eq u) table) x

-- a table in which the holding of one thread is the old one after an operation
pub after_from : (old base new : HoldingTable) (t : ℕ) (o : Op) (x : List LockDepth) → old ≡ base → ((u : ℕ) → holding_in new u ≡ cond (nat_eq t u) x (holding_in old u)) →
    IsHeldAfter (holding_in old t) o x → IsAfter base t o new
after_from old base new t o x seen h is = subst (λ table. IsAfter table t o new) seen (record {
  held = λ u. ap locks_of (h u) ∙ locks u (nat_eq t u) refl;
  depth = λ u l. ap (λ ds. depth_of ds l) (h u) ∙ depths u l (nat_eq t u) refl;
})
  where
    locks : (u : ℕ) (b : Bool) → nat_eq t u ≡ b → locks_of (cond b x (holding_in old u)) ≡ cond b (held_after (holding_depth old u) o (held_in old u)) (held_in old u)
    locks u true e = subst (λ v. locks_of x ≡ held_after (holding_depth old v) o (held_in old v)) (eqb-true t u e) is.locks
    locks u false e = refl

    depths : (u l : ℕ) (b : Bool) → nat_eq t u ≡ b → depth_of (cond b x (holding_in old u)) l ≡ cond b (depth_after o l (holding_depth old u l)) (holding_depth old u l)
    depths u l true e = subst (λ v. depth_of x l ≡ depth_after o l (holding_depth old v l)) (eqb-true t u e) (is.depths l)
    depths u l false e = refl

-- a release by a thread that holds nothing changes nothing
pub after_nothing : (table : HoldingTable) (t l : ℕ) → holding_in table t ≡ [] → IsAfter table t (Release l) table
after_nothing table t l none = after_from table table table t (Release l) [] refl (λ u. same u (nat_eq t u) refl)
    (subst (λ ds. IsHeldAfter ds (Release l) []) (sym none) (record { locks = refl; depths = λ m. nought (l == m) }))
  where
    nought : (b : Bool) → depth_of [] l ≡ cond b (depth_of [] l - 1) (depth_of [] l)
    nought true = refl
    nought false = refl

    same : (u : ℕ) (b : Bool) → nat_eq t u ≡ b → holding_in table u ≡ cond b [] (holding_in table u)
    same u true e = subst (λ v. holding_in table v ≡ []) (eqb-true t u e) none
    same u false e = refl

-- the same for a thread that has an entry, by a write of its value
pub after_set : (table base : HoldingTable) (t : ℕ) (o : Op) (was x : List LockDepth) → table ≡ base → Some was ≡ lookup (nat_eq t) table → IsHeldAfter was o x →
    IsAfter base t o (set_value (nat_eq t) table x)
after_set table base t o was x seen found is = after_from table base (set_value (nat_eq t) table x) t o x seen
    (holding_set table t x (subst IsSome found refl))
    (subst (λ ds. IsHeldAfter ds o x) (ap (λ h. unwrap_or h []) found) is)
