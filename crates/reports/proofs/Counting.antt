-- The counts of a report, task by task.
use Rattle.std.proofs.Common.{◌≡◌, ℕ, ◌+◌, ◌≤◌, ◌<◌, Bool, List, [], ◌∷◌, ◌++◌, length, get_or, take, flat_map, count_by, sum_by, refl, sym, ap, ◌∙◌, ◌-◌, arith, length-append, cond}
use Rattle.std.proofs.lemmas.List.Concat.{flat_map-append, flat_map-cons}
use Rattle.std.proofs.lemmas.List.{take_all}
use Rattle.std.proofs.lemmas.List.Sums.{sum_by-append, sum_by-cons, sum_by_more, sum_by-take-le, count_by-le-length}
use Rattle.std.proofs.lemmas.List.Concat.{length-flat_map}
use Rattle.reports.specs.Printed.{PrintedRow}
use Rattle.reports.specs.Text.{row_text, about, counts, report, is_confirmed_row, IsPlan}

-- Nested pieces.
pub flat_map-flat_map : {X Y : Type 0} (f : Y → List ℕ) (g : X → List Y) (xs : List X) → flat_map f (flat_map g xs) ≡ flat_map (λ x. flat_map f (g x)) xs
flat_map-flat_map f g [] = refl
flat_map-flat_map f g (x ∷ xs) = ap (flat_map f) (flat_map-cons g x xs) ∙ flat_map-append f (g x) (flat_map g xs)
    ∙ ap (λ ys. flat_map f (g x) ++ ys) (flat_map-flat_map f g xs) ∙ sym (flat_map-cons (λ y. flat_map f (g y)) x xs)

-- Counts of pieces.
pub sum_by-flat_map : {X Y : Type 0} (f : Y → ℕ) (g : X → List Y) (xs : List X) → sum_by f (flat_map g xs) ≡ sum_by (λ x. sum_by f (g x)) xs
sum_by-flat_map f g [] = refl
sum_by-flat_map f g (x ∷ xs) = ap (sum_by f) (flat_map-cons g x xs) ∙ sum_by-append f (g x) (flat_map g xs)
    ∙ ap (λ n. sum_by f (g x) + n) (sum_by-flat_map f g xs) ∙ sym (sum_by-cons (λ y. sum_by f (g y)) x xs)

pub count_by-flat_map : {X Y : Type 0} (p : Y → Bool) (g : X → List Y) (xs : List X) → count_by p (flat_map g xs) ≡ sum_by (λ x. count_by p (g x)) xs
count_by-flat_map p g xs = sum_by-flat_map (λ y. cond (p y) 1 0) g xs

-- A text has at least as many bytes as rows.
pub rows-le : (rows : List PrintedRow) → length rows ≤ length (flat_map row_text rows)
rows-le [] = omega arith
rows-le (r ∷ rows) = omega (arith, rows-le rows, ap length (flat_map-cons row_text r rows) ∙ length-append (row_text r) (flat_map row_text rows))

-- The numbers of rows and of confirmed rows are at most the length of the text.
pub rows_within : {X : Type 0} (g : X → List PrintedRow) (xs : List X) → sum_by (λ x. length (g x)) xs ≤ length (flat_map (λ x. flat_map row_text (g x)) xs)
rows_within g xs = omega (arith, rows-le (flat_map g xs), length-flat_map g xs, ap length (flat_map-flat_map row_text g xs))

pub confirmed_within : {X : Type 0} (p : PrintedRow → Bool) (g : X → List PrintedRow) (xs : List X) → sum_by (λ x. count_by p (g x)) xs ≤ length (flat_map (λ x. flat_map row_text (g x)) xs)
confirmed_within p g xs = omega (arith, rows-le (flat_map g xs), count_by-le-length p (flat_map g xs), count_by-flat_map p g xs, ap length (flat_map-flat_map row_text g xs))

-- A count that grows piece by piece: with one more piece, at most the total, and the total.
module _ {X : Type 0} (f : X → ℕ) (xs : List X) (i n : ℕ) where
  pub counted_more : (x : X) (m : ℕ) → i < length xs → x ≡ get_or xs i x → n ≡ sum_by f (take i xs) → m ≡ f x → n + m ≡ sum_by f (take (i + 1) xs)
  counted_more x m l is so e = (λ j. so j + (e ∙ ap f is) j) ∙ sym (sum_by_more f xs i x l)

  pub counted_within : (x : X) (m : ℕ) → i < length xs → x ≡ get_or xs i x → n ≡ sum_by f (take i xs) → m ≡ f x → n + m ≤ sum_by f xs
  counted_within x m l is so e = omega (arith, counted_more x m l is so e, sum_by-take-le f xs (i + 1))

  pub counted_all : length xs ≤ i → n ≡ sum_by f (take i xs) → n ≡ sum_by f xs
  counted_all l so = so ∙ ap (sum_by f) (take_all i xs l)

-- The report, task by task.
pub report_by_tasks : {X : Type 0} (question events bound : ℕ) (g : X → List PrintedRow) (xs : List X) →
    report question events bound (flat_map g xs) ≡ about question events bound ++ (counts (length (flat_map g xs)) (count_by is_confirmed_row (flat_map g xs)) ++ flat_map (λ x. flat_map row_text (g x)) xs)
report_by_tasks question events bound g xs =
    ap (λ rows. about question events bound ++ (counts (length (flat_map g xs)) (count_by is_confirmed_row (flat_map g xs)) ++ rows)) (flat_map-flat_map row_text g xs)

sum3 : (a b c : List ℕ) → length (a ++ (b ++ c)) ≡ length a + (length b + length c)
sum3 a b c = length-append a (b ++ c) ∙ ap (λ n. length a + n) (length-append b c)

pub length-report : {X : Type 0} (question events bound : ℕ) (g : X → List PrintedRow) (xs : List X) (cycles confirmed : ℕ) →
    cycles ≡ length (flat_map g xs) → confirmed ≡ count_by is_confirmed_row (flat_map g xs) →
    length (report question events bound (flat_map g xs)) ≡ length (about question events bound) + (length (counts cycles confirmed) + length (flat_map (λ x. flat_map row_text (g x)) xs))
length-report question events bound g xs cycles confirmed e f =
    ap length (report_by_tasks question events bound g xs) ∙ sum3 (about question events bound) (counts (length (flat_map g xs)) (count_by is_confirmed_row (flat_map g xs))) (flat_map (λ x. flat_map row_text (g x)) xs)
    ∙ (λ i. length (about question events bound) + (length (counts (sym e i) (sym f i)) + length (flat_map (λ x. flat_map row_text (g x)) xs)))

-- The text is too long, as it is measured: its rows, and the two parts of its first line.
module _ {X : Type 0} (question events bound : ℕ) (g : X → List PrintedRow) (xs : List X) where
  pub over_rows : (most : ℕ) → most + 1 ≤ length (flat_map (λ x. flat_map row_text (g x)) xs) → most < length (report question events bound (flat_map g xs))
  over_rows most h = omega (arith, h, length-report question events bound g xs _ _ refl refl)

  pub over_about : (most : ℕ) → most + 1 ≤ length (flat_map (λ x. flat_map row_text (g x)) xs ++ about question events bound) →
      most < length (report question events bound (flat_map g xs))
  over_about most h = omega (arith, h, length-report question events bound g xs _ _ refl refl, length-append (flat_map (λ x. flat_map row_text (g x)) xs) (about question events bound))

  length-measured : (cycles confirmed : ℕ) → cycles ≡ sum_by (λ x. length (g x)) xs → confirmed ≡ sum_by (λ x. count_by is_confirmed_row (g x)) xs →
      length (flat_map (λ x. flat_map row_text (g x)) xs ++ about question events bound ++ counts cycles confirmed) ≡ length (report question events bound (flat_map g xs))
  length-measured cycles confirmed e f =
      let written = flat_map (λ x. flat_map row_text (g x)) xs in
      omega (
        arith,
        length-report question events bound g xs cycles confirmed (e ∙ sym (length-flat_map g xs)) (f ∙ sym (count_by-flat_map is_confirmed_row g xs)),
        length-append written (about question events bound),
        length-append (written ++ about question events bound) (counts cycles confirmed),
      )

  pub over_counts : (most cycles confirmed : ℕ) → cycles ≡ sum_by (λ x. length (g x)) xs → confirmed ≡ sum_by (λ x. count_by is_confirmed_row (g x)) xs →
      most + 1 ≤ length (flat_map (λ x. flat_map row_text (g x)) xs ++ about question events bound ++ counts cycles confirmed) → most < length (report question events bound (flat_map g xs))
  over_counts most cycles confirmed e f h = omega (arith, h, length-measured cycles confirmed e f)

  -- The plan of a text that is not too long.
  pub planned : (most left cycles confirmed : ℕ) → cycles ≡ sum_by (λ x. length (g x)) xs → confirmed ≡ sum_by (λ x. count_by is_confirmed_row (g x)) xs →
      left + length (flat_map (λ x. flat_map row_text (g x)) xs ++ about question events bound ++ counts cycles confirmed) ≡ most →
      IsPlan question events bound (flat_map g xs) (record { length = most - left; cycles = cycles; confirmed = confirmed }) × (most - left ≤ most)
  planned most left cycles confirmed e f h =
      ((omega (arith, h, length-measured cycles confirmed e f), e ∙ sym (length-flat_map g xs), f ∙ sym (count_by-flat_map is_confirmed_row g xs)), omega arith)
