-- Words that are appended one after the other.
use Rattle.std.proofs.Common.{◌≡◌, ℕ, List, ◌++◌, ap, ◌∙◌, append_assoc}

pub added_twice : (text first both p q : List ℕ) → first ≡ text ++ p → both ≡ first ++ q → both ≡ text ++ (p ++ q)
added_twice text first both p q e f = f ∙ (ap (λ (x : List ℕ). x ++ q) e ∙ append_assoc text p q)

pub added_thrice : (text first second third p q r : List ℕ) → first ≡ text ++ p → second ≡ first ++ q → third ≡ second ++ r → third ≡ text ++ (p ++ (q ++ r))
added_thrice text first second third p q r e f g =
    added_twice text first third p (q ++ r) e (added_twice first second third q r f g)

pub added_all : (text first second third p q r : List ℕ) → first ≡ text ++ p → second ≡ first ++ q → third ≡ second ++ r → third ≡ text ++ (p ++ q ++ r)
added_all text first second third p q r e f g = added_twice text second third (p ++ q) r (added_twice text first second p q e f) g
