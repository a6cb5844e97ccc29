-- Fronts as sets of places.
use Rattle.std.proofs.Common.{◌≡◌, ℕ, ◌<◌, ◌≤◌, true, false, nat_lt, Bor, List, length, slice_get, Some, None, refl, sym, ap, ◌∙◌, arith}
use Rattle.std.specs.Option.{option_map_or}
use Rattle.std.specs.Slice.{IsItemAt}
use Rattle.std.proofs.lemmas.Bool.Decides.{nat_tests}
use Rattle.std.proofs.lemmas.Option.{slice_get_read, slice_get_past}
use Rattle.trace_model.specs.Theory.Trace.{Trace, OfThread}
use Rattle.trace_index.specs.Numbers.{of_thread, earlier_events}
use Rattle.fronts.specs.declared.requirements.ThreadPrefix.{ThreadPrefix}
use Rattle.fronts.specs.Slots.{among, front_test}
use Rattle.fronts.proofs.Counts.{count_lt}
use Rattle.trace_model.proofs.Theory.Computed.{of_thread_from}

pub lt_true : (a b : ℕ) → a < b → nat_lt a b ≡ true
lt_true a b h = grind (arith, nat_tests)

pub lt_so : (a b : ℕ) → nat_lt a b ≡ true → a < b
lt_so a b h = grind (arith, nat_tests)

pub lt_false : (a b : ℕ) → b ≤ a → nat_lt a b ≡ false
lt_false a b h = grind (arith, nat_tests)

pub earlier_lt : (s : Trace) (t p q : ℕ) → OfThread s p t → p < q → earlier_events s t p < earlier_events s t q
earlier_lt s t p q o l = count_lt (of_thread s t) p q l (of_thread_from s t p o)

-- The value of a lookup.
pub lent : {X : Type 0} (xs : List X) (k : ℕ) (x : Bor X) → IsItemAt xs k (Some x) → slice_get xs k ≡ Some x.now
lent xs k x h = slice_get_read xs (length xs) k x.now refl h.3.0 h.1

lt_not : (a b : ℕ) → false ≡ nat_lt a b → b ≤ a
lt_not a b h = grind (arith, nat_tests)

pub not_lent : {X : Type 0} (xs : List X) (k : ℕ) → IsItemAt xs k None → slice_get xs k ≡ None
not_lent xs k h = slice_get_past xs k (lt_not k (length xs) h.0)

pub among_at : (positions : List ThreadPrefix) (front : ℕ → ℕ) (p n : ℕ) (to : ThreadPrefix) → slice_get positions p ≡ Some to → n ≡ front to.slot → nat_lt to.count n ≡ among positions front p
among_at positions front p n to at is = ap (nat_lt to.count) is ∙ sym (ap (λ o. option_map_or (λ (z : ThreadPrefix). front_test front z.count z.slot) o false) at)

pub among_none : (positions : List ThreadPrefix) (front : ℕ → ℕ) (p : ℕ) → slice_get positions p ≡ None → false ≡ among positions front p
among_none positions front p none = sym (ap (λ o. option_map_or (λ (z : ThreadPrefix). front_test front z.count z.slot) o false) none)
