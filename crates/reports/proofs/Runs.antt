-- Consecutive numbers in decimal.
use Rattle.std.proofs.Common.{Bool, true, false, cond, ◌≡◌, ℕ, zero, suc, ◌+◌, ◌*◌, ◌-◌, ◌<◌, ◌≤◌, List, [], ◌∷◌, ◌++◌, length, codes, decimal, take, drop, max, ap, sym, ◌∙◌, arith, append-nil, append_assoc, length-append}
use Rattle.std.proofs.lemmas.List.Concat.{flat_map-append, flat_map-cons}
use Rattle.std.proofs.Math.Seq.{take-append_seam, drop-append_seam}
use Rattle.std.specs.List.{range_with_len, slice_range}
use Rattle.trace_model.specs.Theory.Closure.{Places, ascending_places}
use Rattle.fronts.specs.declared.fronts.Fronts.{Fronts}
use Rattle.fronts.specs.State.{IsNextRange, included_set, included_places}
use Rattle.fronts.proofs.PlaceLemmas.{range_split}
use Rattle.reports.specs.Text.{number_list, run_text}

abbrev piece : ℕ → List ℕ
piece n = codes " " ++ decimal n

pub run_split : (a m n : ℕ) → run_text a (m + n) ≡ run_text a m ++ run_text (a + m) n
run_split a m n = ap number_list (range_split a m n) ∙ flat_map-append piece (range_with_len a m) (range_with_len (a + m) n)

run_one : (a : ℕ) → run_text a 1 ≡ piece a
run_one a = flat_map-cons piece a [] ∙ append-nil (piece a)

-- One more number.
pub run_more : (a n : ℕ) → run_text a (n + 1) ≡ run_text a n ++ (codes " " ++ decimal (a + n))
run_more a n = run_split a n 1 ∙ ap (λ t. run_text a n ++ t) (run_one (a + n))

-- Numbers of the same length.
pub run_level : (a n w : ℕ) → ((x : ℕ) → a ≤ x → x < a + n → 1 + length (decimal x) ≡ w) → length (run_text a n) ≡ n * w
run_level a zero w each = omega arith
run_level a (suc n) w each =
    let rest : length (run_text (a + 1) n) ≡ n * w = run_level (a + 1) n w (λ x l m. each x (omega arith) (omega arith)) in
    let long : length (run_text a (suc n)) ≡ length (piece a) + length (run_text (a + 1) n) = length-append (piece a) (run_text (a + 1) n) in
    omega (arith, rest, long, each a (omega arith) (omega arith), length-append (codes " ") (decimal a))

-- Numbers, followed by numbers of the same length.
pub run_longer : (first next past w bytes : ℕ) → first ≤ next → next ≤ past → bytes ≡ length (run_text first (next - first)) →
    ((x : ℕ) → next ≤ x → x < past → 1 + length (decimal x) ≡ w) → bytes + (past - next) * w ≡ length (run_text first (past - first))
run_longer first next past w bytes l m are each =
    let n = next - first in
    let k = past - next in
    let e : past - first ≡ n + k = omega arith in
    let f : first + n ≡ next = omega arith in
    let level : length (run_text next k) ≡ k * w = run_level next k w (λ x below above. each x below (omega arith)) in
    let split : run_text first (past - first) ≡ run_text first n ++ run_text next k = ap (run_text first) e ∙ run_split first n k ∙ ap (λ a. run_text first n ++ run_text a k) f in
    omega (arith, are, level, ap length split, length-append (run_text first n) (run_text next k))

-- A text of numbers, and one more number.
pub run_pushed : (before text all : List ℕ) (a n number : ℕ) → a + n ≡ number → text ≡ before ++ run_text a n → all ≡ text ++ (codes " " ++ decimal number) → all ≡ before ++ run_text a (n + 1)
run_pushed before text all a n number e is whole =
    whole ∙ (λ i. is i ++ (codes " " ++ decimal (sym e i))) ∙ append_assoc before (run_text a n) (codes " " ++ decimal (a + n))
    ∙ ap (λ t. before ++ t) (sym (run_more a n))

-- The first numbers, known or wanted.
pub run_up_to : (text all : List ℕ) (known count : ℕ) → text ≡ run_text 0 known → all ≡ text ++ run_text known (count - known) → all ≡ run_text 0 (max known count)
run_up_to text all known count is whole =
    let e : known + (count - known) ≡ max known count = omega arith in
    let f : 0 + known ≡ known = omega arith in
    whole ∙ ap (λ t. t ++ run_text known (count - known)) is ∙ ap (λ n. run_text 0 known ++ run_text n (count - known)) (sym f)
    ∙ sym (run_split 0 known (count - known)) ∙ ap (run_text 0) e

-- A part of the first numbers.
module _ (all first count : ℕ) (within : first + count ≤ all) where
  rest : ℕ
  rest = all - (first + count)

  parts : run_text 0 all ≡ run_text 0 first ++ (run_text first count ++ run_text (first + count) rest)
  unfolding rest
  parts =
      let e : all ≡ first + (count + rest) = omega (arith, within) in
      let f : 0 + first ≡ first = omega arith in
      ap (run_text 0) e ∙ run_split 0 first (count + rest) ∙ ap (λ a. run_text 0 first ++ run_text a (count + rest)) f
      ∙ ap (λ t. run_text 0 first ++ t) (run_split first count rest)

  pub part_within : length (run_text 0 first) + length (run_text first count) ≤ length (run_text 0 all)
  part_within =
      let a = run_text 0 first in
      let b = run_text first count in
      let c = run_text (first + count) rest in
      omega (arith, ap length parts, length-append a (b ++ c), length-append b c)

  pub run_part : slice_range (run_text 0 all) (length (run_text 0 first)) (length (run_text 0 first) + length (run_text first count)) ≡ run_text first count
  run_part =
      let a = run_text 0 first in
      let b = run_text first count in
      let c = run_text (first + count) rest in
      let e : length a + length b - length a ≡ length b = omega arith in
      ap (λ t. take (length a + length b - length a) (drop (length a) t)) parts
      ∙ ap (take (length a + length b - length a)) (drop-append_seam a (b ++ c))
      ∙ ap (λ n. take n (b ++ c)) e ∙ take-append_seam b c

-- The text of the places up to the end of a range.
pub spaced_next : (f : Fronts) (at start end : ℕ) → IsNextRange f at start end →
    number_list (ascending_places (included_set f) end) ≡ number_list (ascending_places (included_set f) at) ++ run_text start (end - start)
spaced_next f at start end next =
    ap number_list next.places ∙ flat_map-append piece (ascending_places (included_set f) at) (range_with_len start (end - start))

spaced_grows : (set : Places) (m k : ℕ) → length (number_list (ascending_places set m)) ≤ length (number_list (ascending_places set (m + k)))
spaced_grows set m zero = let e : m + 0 ≡ m = omega arith in rw e (omega arith)
spaced_grows set m (suc k) = let e : m + suc k ≡ suc (m + k) = omega arith in rw e (one (spaced_grows set m k) (set (m + k)))
  where
    one : (length (number_list (ascending_places set m)) ≤ length (number_list (ascending_places set (m + k)))) → (b : Bool) →
        length (number_list (ascending_places set m)) ≤ length (number_list (cond b (ascending_places set (m + k) ++ (m + k) ∷ []) (ascending_places set (m + k))))
    one before true =
        omega (
          arith,
          before,
          ap length (flat_map-append piece (ascending_places set (m + k)) ((m + k) ∷ [])),
          length-append (number_list (ascending_places set (m + k))) (number_list ((m + k) ∷ [])),
        )
    one before false = before

-- It is not longer than that of all places.
pub spaced_within : (f : Fronts) (at start end : ℕ) → IsNextRange f at start end →
    length (number_list (ascending_places (included_set f) at)) + length (run_text start (end - start)) ≤ length (number_list (included_places f))
spaced_within f at start end next =
    let set = included_set f in
    let k = f.end - end in
    let e : end + k ≡ f.end = omega (arith, next.within) in
    omega (
      arith,
      spaced_grows set end k,
      ap (λ n. length (number_list (ascending_places set n))) e,
      ap length (spaced_next f at start end next),
      length-append (number_list (ascending_places set at)) (run_text start (end - start)),
    )
