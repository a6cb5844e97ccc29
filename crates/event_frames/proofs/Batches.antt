-- The events of a batch, read one after another.
use Rattle.std.proofs.Common.{◌≡◌, ℕ, zero, suc, ◌+◌, ◌-◌, ◌*◌, ◌<◌, ◌≤◌, cond, List, [], ◌∷◌, ◌++◌, length, get_or, drop, Some, None, refl, sym, ap, ◌∙◌, arith}
use Rattle.std.proofs.Math.ListN.{drop_of_length-le}
use Rattle.std.proofs.Math.Seq.{drop-cons}
use Rattle.std.proofs.lemmas.List.{drop-drop}
use Rattle.trace_model.specs.declared.messages.session.Fault.TheVariants.{BadBatch}
use Rattle.trace_model.specs.Protocol.Frames.{cells_fault, event_of, events_in, is_event_kind}

-- the event at an index, and those after it
pub cell_here : (n i kind : ℕ) (cells : List ℕ) → i < n → 9 * i < length cells → kind ≡ get_or cells (9 * i) kind →
    cells_fault (n - i) (drop (9 * i) cells) ≡ cond (is_event_kind kind) (cells_fault (n - (i + 1)) (drop (9 * (i + 1)) cells)) (Some BadBatch)
cell_here n i kind cells low within at =
    let more : n - i ≡ suc (n - (i + 1)) = omega (arith, low) in
    let nine : 9 * i + 1 + 8 ≡ 9 * (i + 1) = omega arith in
    let one : suc (9 * i) ≡ 9 * i + 1 = omega arith in
    let after : drop 8 (drop (suc (9 * i)) cells) ≡ drop (9 * (i + 1)) cells = ap (λ (k : ℕ). drop 8 (drop k cells)) one ∙ (drop-drop 8 (9 * i + 1) cells ∙ ap (λ (k : ℕ). drop k cells) nine) in
    let first : drop (9 * i) cells ≡ kind ∷ drop (suc (9 * i)) cells = drop-cons cells (9 * i) kind within ∙ ap (λ (k : ℕ). k ∷ drop (suc (9 * i)) cells) (sym at) in
    (λ i'. cells_fault (more i') (first i'))
    ∙ ap (λ (xs : List ℕ). cond (is_event_kind kind) (cells_fault (n - (i + 1)) xs) (Some BadBatch)) after

-- no event is left of the bytes
pub cells_end : (n i : ℕ) (cells : List ℕ) → i < n → length cells ≤ 9 * i → cells_fault (n - i) (drop (9 * i) cells) ≡ None
cells_end n i cells low past =
    let more : n - i ≡ suc (n - (i + 1)) = omega (arith, low) in
    λ i'. cells_fault (more i') (drop_of_length-le cells past i')

pub events_more : (n : ℕ) (cells : List ℕ) → events_in (suc n) cells ≡ events_in n cells ++ event_of (drop (9 * n) cells) ∷ []
events_more zero cells = refl
events_more (suc n) cells =
    let nine : 9 + 9 * n ≡ 9 * suc n = omega arith in
    let place : drop (9 * n) (drop 9 cells) ≡ drop (9 * suc n) cells = drop-drop (9 * n) 9 cells ∙ ap (λ (k : ℕ). drop k cells) nine in
    ap (λ xs. event_of cells ∷ xs) (events_more n (drop 9 cells) ∙ ap (λ (x : List ℕ). events_in n (drop 9 cells) ++ event_of x ∷ []) place)

pub length_events : (n : ℕ) (cells : List ℕ) → length (events_in n cells) ≡ n
length_events zero cells = refl
length_events (suc n) cells = ap suc (length_events n (drop 9 cells))
