-- The buffer of a sink.
use Rattle.std.proofs.Common.{◌≡◌, ℕ, ◌+◌, ◌≤◌, List, ◌++◌, length, take, drop, Option, None, Some, sym, ap, ◌∙◌, append_assoc, arith}
use Rattle.std.specs.Io.KnownBytes.{Appends, Keeps, append_known}
use Rattle.std.proofs.lemmas.List.{drop-append-le, drop-drop, take-append-drop, length-take}
use Rattle.std.proofs.lemmas.Slice.{take-put_mid}
use borrow.Rule.Slice.PartMut.{put_mid}
use Rattle.sessions.specs.Pending.{buffered_bytes}

-- some buffered bytes are written
pub handed_on : (old new : Option (List ℕ)) (buffer : List ℕ) (start end n : ℕ) → Appends old new (take n (buffered_bytes buffer start end)) → Keeps (append_known old (buffered_bytes buffer start end)) (append_known new (buffered_bytes buffer (start + n) end))
handed_on None new buffer start end n p = tt
handed_on (Some front) None buffer start end n p = absurd p
handed_on (Some front) (Some back) buffer start end n p =
    let held = buffered_bytes buffer start end in
    ap (λ (x : List ℕ). x ++ buffered_bytes buffer (start + n) end) p
    ∙ (append_assoc front (take n held) (buffered_bytes buffer (start + n) end)
    ∙ (ap (λ (x : List ℕ). front ++ (take n held ++ x)) (sym (drop-drop n start (take end buffer)))
    ∙ ap (λ (x : List ℕ). front ++ x) (take-append-drop n held)))

-- some more bytes are buffered
pub buffer_more : (buffer copied bytes : List ℕ) (start end k count : ℕ) → start ≤ end → end ≤ length buffer → copied ≡ bytes → length copied ≡ count → buffered_bytes (put_mid end k buffer copied) start (end + count) ≡ buffered_bytes buffer start end ++ bytes
buffer_more buffer copied bytes start end k count s e b len =
    ap (drop start) (take-put_mid end k buffer copied (end + count) (ap (λ (n : ℕ). end + n) (sym len)) e)
    ∙ (drop-append-le start (take end buffer) copied (omega (arith, length-take end buffer))
    ∙ ap (λ (x : List ℕ). drop start (take end buffer) ++ x) b)
