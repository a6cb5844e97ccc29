-- Texts that are appended one after the other.
use Rattle.std.proofs.Common.{◌≡◌, ℕ, ◌+◌, ◌<◌, List, [], ◌∷◌, ◌++◌, length, take, get_or, ap, sym, ◌∙◌, append_assoc}
use Rattle.std.specs.List.{flat_map}
use Rattle.std.proofs.lemmas.List.{append-nil, take_more}
use Rattle.std.proofs.lemmas.List.Concat.{flat_map-cons}
use Rattle.std.proofs.lemmas.Grind.{flat_map-append}

pub added_two : (text first second p q : List ℕ) → first ≡ text ++ p → second ≡ first ++ q → second ≡ text ++ (p ++ q)
added_two text first second p q e f = f ∙ (ap (λ (x : List ℕ). x ++ q) e ∙ append_assoc text p q)

pub added_three : (text first second third p q r : List ℕ) → first ≡ text ++ p → second ≡ first ++ q → third ≡ second ++ r → third ≡ text ++ (p ++ q ++ r)
added_three text first second third p q r e f g =
    added_two text second third (p ++ q) r (added_two text first second p q e f) g

pub added_four : (text first second third fourth p q r s : List ℕ) → first ≡ text ++ p → second ≡ first ++ q → third ≡ second ++ r → fourth ≡ third ++ s →
    fourth ≡ text ++ (p ++ q ++ r ++ s)
added_four text first second third fourth p q r s e f g h =
    added_two text third fourth (p ++ q ++ r) s (added_three text first second third p q r e f g) h

pub read_three : (line rest a b e : List ℕ) → line ≡ a ++ rest → rest ≡ b ++ e → line ≡ a ++ b ++ e
read_three line rest a b e f g = f ∙ (ap (λ (x : List ℕ). a ++ x) g ∙ sym (append_assoc a b e))

pub read_two : (line rest a b : List ℕ) → line ≡ a ++ rest → rest ≡ b ++ [] → line ≡ a ++ b
read_two line rest a b f g = read_three line rest a b [] f g ∙ append-nil (a ++ b)

pub read_four : (line first rest a b d e : List ℕ) → line ≡ a ++ first → first ≡ b ++ rest → rest ≡ d ++ e → line ≡ a ++ b ++ d ++ e
read_four line first rest a b d e f g h =
    read_three line rest (a ++ b) d e (read_three line first a b rest f g) h

pub one_more_item : {A : Type 0} (f : A → List ℕ) (xs : List A) (i : ℕ) (d : A) (text before after : List ℕ) → i < length xs →
    before ≡ text ++ flat_map f (take i xs) → after ≡ before ++ f (get_or xs i d) → after ≡ text ++ flat_map f (take (i + 1) xs)
one_more_item f xs i d text before after within b a =
    let x = get_or xs i d in
    let one : flat_map f (x ∷ []) ≡ f x = flat_map-cons f x [] ∙ append-nil (f x) in
    let whole : flat_map f (take (i + 1) xs) ≡ flat_map f (take i xs) ++ f x =
    ap (λ l. flat_map f l) (take_more xs i d within) ∙ (flat_map-append f (take i xs) (x ∷ []) ∙ ap (λ l. flat_map f (take i xs) ++ l) one) in
    added_two text before after (flat_map f (take i xs)) (f x) b a ∙ sym (ap (λ l. text ++ l) whole)
