-- Appended and refused texts, piece by piece.
use Rattle.std.proofs.Common.{◌≡◌, ℕ, ◌+◌, ◌<◌, ◌≤◌, List, length, ◌++◌, get_or, take, flat_map, decimal, Result, Ok, Err, ap, sym, subst, arith, append_assoc, length-append}
use Rattle.std.specs.Result.{IsErr}
use Rattle.std.proofs.lemmas.List.Folds.{length-flat_map-take}
use Rattle.reports.specs.Sinks.{Room, AppendsText, Lacks, Appends}
use Rattle.reports.proofs.Pairs.{flat_more}

pub adds_both : {S : Type 0} (room : Room S) (a b c : S) (x y : List ℕ) → AppendsText room a x b → AppendsText room b y c → AppendsText room a (x ++ y) c
adds_both room a b c x y h k written has = subst (room.has c) (append_assoc written x y) (k (written ++ x) (h written has))

pub appends_second : {S E : Type 0} (room : Room S) (a b c : S) (x y : List ℕ) (r : Result (Unit {0}) E) →
    AppendsText room a x b → Appends room b y r c → Appends room a (x ++ y) r c
appends_second room a b c x y (Ok _) h k = adds_both room a b c x y h k
appends_second room a b c x y (Err _) h k = λ written has. subst (λ t. room.least ≤ length t) (append_assoc written x y) (k (written ++ x) (h written has))

-- If there is no room for a part, there is none for the whole.
pub lacks_begun : {S E : Type 0} (room : Room S) (a b : S) (text all : List ℕ) (r : Result (Unit {0}) E) →
    IsErr r → length text ≤ length all → Lacks room a text → Appends room a all r b
lacks_begun room a b text all (Ok _) is l k = absurd (cc)
lacks_begun room a b text all (Err _) is l k = λ written has.
    omega (arith, k written has, l, length-append written text, length-append written all)

-- A number, and the text before it.
pub adds_number : {S : Type 0} (room : Room S) (a b c : S) (x before : List ℕ) (n m : ℕ) → m ≡ n → AppendsText room a x b → AppendsText room b (before ++ decimal m) c → AppendsText room a (x ++ before ++ decimal n) c
adds_number room a b c x before n m e h k =
    subst (λ t. AppendsText room a t c) (sym (append_assoc x before (decimal n)))
    (adds_both room a b c x (before ++ decimal n) h (subst (λ j. AppendsText room b (before ++ decimal j) c) e k))

pub appends_number : {S E : Type 0} (room : Room S) (a b c : S) (x before : List ℕ) (n m : ℕ) (r : Result (Unit {0}) E) → m ≡ n →
    AppendsText room a x b → Appends room b (before ++ decimal m) r c → Appends room a (x ++ before ++ decimal n) r c
appends_number room a b c x before n m r e h k =
    subst (λ t. Appends room a t r c) (sym (append_assoc x before (decimal n)))
    (appends_second room a b c x (before ++ decimal n) r h (subst (λ j. Appends room b (before ++ decimal j) r c) e k))

-- A prefix is not longer than the whole.
pub length-begin : (x y : List ℕ) → length x ≤ length (x ++ y)
length-begin x y = omega (arith, length-append x y)

-- One more element.
pub adds_next : {S X : Type 0} (room : Room S) (a b c : S) (f : X → List ℕ) (xs : List X) (i : ℕ) (x : X) → i < length xs → x ≡ get_or xs i x →
    AppendsText room a (flat_map f (take i xs)) b → AppendsText room b (f x) c → AppendsText room a (flat_map f (take (i + 1) xs)) c
adds_next room a b c f xs i x l e h k = subst (λ t. AppendsText room a t c) (sym (flat_more f xs i x l e)) (adds_both room a b c (flat_map f (take i xs)) (f x) h k)

-- If there is no room for a part, there is none for the whole.
pub lacks_part : {S E : Type 0} (room : Room S) (a b c : S) (before text all : List ℕ) (r : Result (Unit {0}) E) →
    IsErr r → length before + length text ≤ length all → AppendsText room a before b → Lacks room b text → Appends room a all r c
lacks_part room a b c before text all (Ok _) is l h k = absurd (cc)
lacks_part room a b c before text all (Err _) is l h k = λ written has.
    omega (arith, k (written ++ before) (h written has), l, length-append written before, length-append (written ++ before) text, length-append written all)

-- The same for a number.
pub lacks_number : {S E : Type 0} (room : Room S) (a b c : S) (x before all : List ℕ) (n m : ℕ) (r : Result (Unit {0}) E) → m ≡ n →
    IsErr r → length (x ++ before ++ decimal n) ≤ length all → AppendsText room a x b → Lacks room b (before ++ decimal m) → Appends room a all r c
lacks_number room a b c x before all n m r e is l h k =
    lacks_part room a b c x (before ++ decimal n) all r is (omega (arith, l, ap length (append_assoc x before (decimal n)), length-append x (before ++ decimal n))) h
    (subst (λ j. Lacks room b (before ++ decimal j)) e k)

-- The same for one element.
pub lacks_one : {S X E : Type 0} (room : Room S) (a b c : S) (f : X → List ℕ) (xs : List X) (i : ℕ) (d : X) (text : List ℕ) (r : Result (Unit {0}) E) →
    IsErr r → i < length xs → text ≡ f (get_or xs i d) → AppendsText room a (flat_map f (take i xs)) b → Lacks room b text → Appends room a (flat_map f xs) r c
lacks_one room a b c f xs i d text r is l e h k =
    lacks_part room a b c (flat_map f (take i xs)) text (flat_map f xs) r is (omega (arith, length-flat_map-take f xs i d l, ap length e)) h k
