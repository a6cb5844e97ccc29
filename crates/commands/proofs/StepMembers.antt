-- The members of steps, by their threads.
use Rattle.std.proofs.Common.{◌≡◌, ◌+◌, Bool, cond, List, [], ◌∷◌, Some, None, length, map, refl, ap}
use Rattle.std.specs.Prelude.{nat_lt, not, position, unwrap_or}
use Rattle.std.specs.List.{prefix_len}
use Rattle.std.proofs.lemmas.List.{length-map}

prefix-map : {X Y : Type 0} (p : Y → Bool) (f : X → Y) (xs : List X) → prefix_len p (map f xs) ≡ prefix_len (λ x. p (f x)) xs
prefix-map p f [] = refl
prefix-map p f (x ∷ xs) = ap (λ n. cond (p (f x)) (1 + n) 0) (prefix-map p f xs)

pub position-map : {X Y : Type 0} (p : Y → Bool) (f : X → Y) (xs : List X) → unwrap_or (position p (map f xs)) (length (map f xs)) ≡ unwrap_or (position (λ x. p (f x)) xs) (length xs)
position-map p f xs =
    let n = prefix-map (λ y. not (p y)) f xs in
    let long = length-map xs f in
    λ i. unwrap_or (cond (nat_lt (n i) (long i)) (Some (n i)) None) (long i)

pub map-map : {X Y Z : Type 0} (g : Y → Z) (f : X → Y) (xs : List X) → map g (map f xs) ≡ map (λ x. g (f x)) xs
map-map g f [] = refl
map-map g f (x ∷ xs) = ap (λ l. g (f x) ∷ l) (map-map g f xs)
