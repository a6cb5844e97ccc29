-- Tests on the lock on which a section begins.
use Rattle.std.proofs.Common.{◌≡◌, ℕ, Bool, true, false, Some, None, sym, subst, ◌∙◌}
use Rattle.std.proofs.lemmas.Bool.{false≢true}
use Rattle.std.proofs.lemmas.Option.{none-some, same_Some}
use Rattle.trace_model.specs.Theory.Trace.{Trace}
use Rattle.trace_model.specs.Theory.Held.{BeginsOn, begun_lock}
use Rattle.trace_model.proofs.Theory.Begun.{begun_so, begun_from}

-- A test on the lock on which a section begins decides a property of the place.
pub begun_decided : (P : ℕ → Type 0) (s : Trace) (q : ℕ) (b : Bool) (x : ℕ) → begun_lock s q ≡ Some x → (b ≡ true → P x) × (P x → b ≡ true) →
    (b ≡ true → (y : ℕ) × BeginsOn s q y × P y) × ((y : ℕ) × BeginsOn s q y × P y → b ≡ true)
begun_decided P s q b x is h =
    ((λ t. (x, begun_so s q x is, h.0 t)), λ (y, k, m). h.1 (subst P (same_Some y x (sym (begun_from s q y k) ∙ is)) m))

pub begun_undone : (P : ℕ → Type 0) (s : Trace) (q : ℕ) → begun_lock s q ≡ None →
    (false ≡ true → (y : ℕ) × BeginsOn s q y × P y) × ((y : ℕ) × BeginsOn s q y × P y → false ≡ true)
begun_undone P s q is = ((λ h. absurd (false≢true h)), λ (y, k, m). absurd (none-some y (sym is ∙ begun_from s q y k)))
