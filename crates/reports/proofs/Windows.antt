-- The part of a text from an index on, of a bounded length.
use Rattle.std.proofs.Common.{◌≡◌, ℕ, zero, suc, ◌+◌, ◌-◌, ◌*◌, ◌^◌, ◌<◌, ◌≤◌, min, List, [], ◌∷◌, ◌++◌, length, take, drop, replicate, codes, decimal, refl, sym, ap, ◌∙◌, arith, lit<, length-append}
use Rattle.std.proofs.lemmas.List.{length-take, length-drop, length-replicate, take_all, take_min, drop_all, drop_min, drop-drop, take-append-drop}
use Rattle.std.proofs.lemmas.Fmt.{length-decimal-le}
use Rattle.reports.specs.Sinks.{KeepsWindow}
use Rattle.reports.specs.Text.{run_text}
use Rattle.reports.proofs.Runs.{run_split}

drop-both : {X : Type 0} (n : ℕ) (xs ys : List X) → drop n (xs ++ ys) ≡ drop n xs ++ drop (n - length xs) ys
drop-both zero xs ys = let e : 0 - length xs ≡ 0 = omega arith in rw e refl
drop-both (suc n) [] ys = let e : suc n - 0 ≡ suc n = omega arith in rw e refl
drop-both (suc n) (x ∷ xs) ys = let e : suc n - suc (length xs) ≡ n - length xs = omega arith in rw e (drop-both n xs ys)

take-both : {X : Type 0} (n : ℕ) (xs ys : List X) → take n (xs ++ ys) ≡ take n xs ++ take (n - length xs) ys
take-both zero xs ys = let e : 0 - length xs ≡ 0 = omega arith in rw e refl
take-both (suc n) [] ys = let e : suc n - 0 ≡ suc n = omega arith in rw e refl
take-both (suc n) (x ∷ xs) ys =
    let e : suc n - suc (length xs) ≡ n - length xs = omega arith in
    rw e (ap (λ zs. x ∷ zs) (take-both n xs ys))

-- More bytes are kept of a text that goes on.
pub kept_on : (at size : ℕ) (taken bytes kept : List ℕ) (skip skipped count room : ℕ) → skip ≡ at - length taken → kept ≡ take size (drop at taken) →
    skipped ≡ min skip (length bytes) → count ≡ min (length bytes - skipped) room → room + length kept ≡ size →
    (skip - skipped ≡ at - length (taken ++ bytes)) × (kept ++ take count (drop skipped bytes) ≡ take size (drop at (taken ++ bytes)))
kept_on at size taken bytes kept skip skipped count room left is s c r =
    let later = drop skip bytes in
    let e : drop skipped bytes ≡ later = ap (λ n. drop n bytes) s ∙ drop_min skip bytes in
    let long : count ≡ min room (length later) = omega (arith, s, c, length-drop skip bytes) in
    let much : room ≡ size - length (drop at taken) = omega (arith, r, ap length is, length-take size (drop at taken)) in
    let put : take count (drop skipped bytes) ≡ take (size - length (drop at taken)) (drop (at - length taken) bytes) =
    ap (take count) e ∙ ap (λ n. take n later) long ∙ take_min room later ∙ (λ i. take (much i) (drop (left i) bytes)) in (
      omega (arith, left, s, length-append taken bytes),
      (λ i. is i ++ put i) ∙ sym (take-both size (drop at taken) (drop (at - length taken) bytes)) ∙ ap (take size) (sym (drop-both at taken bytes)),
    )

-- The bytes that are kept of a text from an index on.
pub window_of : (from skip skip' : ℕ) (kept kept' text : List ℕ) → from ≤ 2 ^ 64 → skip ≡ from → kept ≡ [] → ((taken : List ℕ) → KeepsWindow skip kept taken → KeepsWindow skip' kept' (taken ++ text)) →
    kept' ≡ take 4096 (drop from text)
window_of from skip skip' kept kept' text l s k h =
    let blank = replicate (2 ^ 64 - from) 0 in
    let long : length blank ≡ 2 ^ 64 - from = length-replicate (2 ^ 64 - from) 0 in
    let none : drop (2 ^ 64) blank ≡ [] = drop_all (2 ^ 64) blank (omega (arith, long)) in
    let rest : 2 ^ 64 - length blank ≡ from = omega (arith, long, l) in
    let has = h blank (record { left = s ∙ sym rest; bytes = k ∙ ap (take 4096) (sym none) }) in
    has.bytes ∙ ap (take 4096) (drop-both (2 ^ 64) blank text ∙ (λ i. none i ++ drop (rest i) text))

-- The kept bytes are all that is left, or they fill the room.
pub window_whole : (from : ℕ) (kept text : List ℕ) → kept ≡ take 4096 (drop from text) → (length kept ≡ 4096 → ⊥) → drop from text ≡ kept
window_whole from kept text is n =
    sym (is ∙ take_all 4096 (drop from text) (omega (arith, n, ap length is, length-take 4096 (drop from text))))

pub window_full : (from : ℕ) (kept text : List ℕ) → kept ≡ take 4096 (drop from text) → drop from text ≡ kept ++ drop (from + 4096) text
window_full from kept text is =
    sym (take-append-drop 4096 (drop from text)) ∙ (λ i. sym is i ++ drop-drop 4096 from text i)

-- An index after as many bytes as there is room for is within the text.
pub window_within : (from : ℕ) (kept text : List ℕ) → kept ≡ take 4096 (drop from text) → length kept ≡ 4096 → from + 4096 ≤ length text
window_within from kept text is n = omega (arith, n, ap length is, length-take 4096 (drop from text), length-drop from text)

-- A number takes at most 11 bytes with its space.
pub run_short : (a n : ℕ) → a + n ≤ 2 ^ 32 → length (run_text a n) ≤ 11 * n
run_short a zero h = omega arith
run_short a (suc n) h =
    let rest = run_short (a + 1) n (omega (arith, h)) in
    let digits : length (decimal a) ≤ 10 = length-decimal-le 10 a (lit< tt) (omega (arith, h)) (omega (arith, h)) in
    omega (arith, rest, digits, length-append (codes " " ++ decimal a) (run_text (a + 1) n), length-append (codes " ") (decimal a))

-- Numbers that fit are all kept.
pub run_kept : (a n : ℕ) (kept : List ℕ) → a + n ≤ 2 ^ 32 → n ≤ 372 → kept ≡ take 4096 (drop 0 (run_text a n)) → kept ≡ run_text a n
run_kept a n kept h few is = is ∙ take_all 4096 (run_text a n) (omega (arith, run_short a n h, few))

-- The next numbers of a run, and the rest of it.
pub run_next : (next count end : ℕ) → next + count ≤ end → run_text next (end - next) ≡ run_text next count ++ run_text (next + count) (end - (next + count))
run_next next count end h =
    let e : end - next ≡ count + (end - (next + count)) = omega (arith, h) in
    ap (run_text next) e ∙ run_split next count (end - (next + count))
