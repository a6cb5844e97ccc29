use Rattle.std.proofs.Common.{◌≡◌, ℕ, ◌+◌, ◌-◌, List, ◌++◌, length, take, drop, sym, ap, ◌∙◌, arith}
use Rattle.std.proofs.lemmas.List.{take_at, drop-drop, take-append-drop, length-take}
use Rattle.sessions.proofs.memory.MemorySourceSource.read.Goals as goal

piece : (items copied tail : List ℕ) (at n m : ℕ) → copied ≡ take m (drop at items) → m ≡ n → length copied ≡ n → drop at items ≡ take n (copied ++ tail) ++ drop (at + n) items
piece items copied tail at n m e f len =
    let front : take n (copied ++ tail) ≡ take n (drop at items) = take_at copied tail n len ∙ (e ∙ ap (λ (k : ℕ). take k (drop at items)) f) in
    sym (take-append-drop n (drop at items)) ∙ (ap (λ (x : List ℕ). x ++ drop n (drop at items)) (sym front) ∙ ap (λ (x : List ℕ). take n (copied ++ tail) ++ x) (drop-drop n at items))

pub returns-clause-bytes : goal.returns-clause-bytes
returns-clause-bytes g c =
    let s = c.args.self.now in
    let n = c.min-len.result in
    piece s.bytes.items c.copy_from_slice.new.self (drop n c.args.buffer.now) s.at n ((s.at + n) - s.at) (c.copy_from_slice.ensures.after ∙ ap (λ (x : List ℕ). take ((s.at + n) - s.at) (drop s.at x)) c.deref.ensures.value) (omega arith) (omega (arith, c.copy_from_slice.ensures.len, length-take n c.args.buffer.now))
