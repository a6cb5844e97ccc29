use Rattle.std.proofs.Common.{◌≡◌, ◌+◌, ℕ, List, Bor, length, sym, arith}
use Rattle.std.proofs.lemmas.Bool.Decides.{nat_tests}
use Rattle.event_files.proofs.WitnessLines.{empty_last, full_last}
use Rattle.event_files.proofs.witness_file.after_last.Goals as goal

pub returns-then-is_empty : goal.returns-then-is_empty
returns-then-is_empty c =
    let shown : Bor (List ℕ) → List ℕ = λ piece. piece.now in
    let empty : length c.in-Some.last.now.now ≡ 0 = grind (arith, nat_tests) in
    empty_last shown c.args.pieces.now c.in-Some.last.now (sym c.in-Some.ensures.value) empty

pub returns-else-is_empty : goal.returns-else-is_empty
returns-else-is_empty c =
    let shown : Bor (List ℕ) → List ℕ = λ piece. piece.now in
    let full : length c.in-Some.last.now.now ≡ 0 → ⊥ = λ empty. grind (arith, nat_tests) in
    let lines = full_last shown c.args.pieces.now c.in-Some.last.now (sym c.in-Some.ensures.value) full in
    let next : c.saturating_add.result ≡ length c.args.pieces.now + 1 = omega (arith, c.saturating_add.ensures) in
    omega (arith, next, lines)
