-- How many bytes a frame takes.
use Rattle.std.proofs.Common.{◌≡◌, ℕ, ◌+◌, ◌-◌, ◌<◌, ◌≤◌, Bool, true, false, cond, eqb, ltb, List, [], ◌∷◌, length, drop, Some, None, Ok, refl, arith}
use Rattle.std.specs.Int.{w16, from_be_bytes}
use Rattle.std.proofs.lemmas.Bool.{ltb-true}
use Rattle.std.proofs.lemmas.List.{length-drop}
use Rattle.std.proofs.lemmas.Bool.Decides.{nat_tests}
use Rattle.trace_model.specs.declared.messages.session.Request.{Request}
use Rattle.trace_model.specs.Protocol.Frames.{is_kind, is_length_of, fields_fault, header_fault, request_of, whole_frame, leading_of}
use Rattle.trace_model.proofs.Protocol.Leading.{leading_found, no_header_fault, has_frame}

drop_shorter : (n : ℕ) (fields rest : List ℕ) → drop n fields ≡ rest → length rest ≤ length fields
drop_shorter n fields rest e = rw (← e) (omega (arith, length-drop n fields))

-- a frame has at least one byte
pub leading_shorter : (text : List ℕ) (request : Request) (rest : List ℕ) → leading_of text ≡ Ok (Some (request, rest)) → length rest < length text
unfolding whole_frame
leading_shorter [] request rest e = let f = leading_found [] (Some (request, rest)) e in absurd cc
leading_shorter (high ∷ []) request rest e = let f = leading_found (high ∷ []) (Some (request, rest)) e in absurd cc
leading_shorter (high ∷ low ∷ []) request rest e = let f = leading_found (high ∷ low ∷ []) (Some (request, rest)) e in absurd cc
leading_shorter (high ∷ low ∷ kind ∷ fields) request rest e =
    let f = leading_found (high ∷ low ∷ kind ∷ fields) (Some (request, rest)) e in
    let h = has_frame high low kind fields request rest f.0 f.1 in
    omega (arith, drop_shorter (from_be_bytes w16 (high ∷ low ∷ []) - 1) fields rest h.rest_is)

guard_none : {A : Type 0} (b : Bool) (x : A) → cond b None (Some x) ≡ None → b ≡ true
guard_none true x e = refl
guard_none false x e = absurd cc

length_of_least : (kind len : ℕ) → is_length_of kind len ≡ true → len ≤ 578
length_of_least kind len e = grind (arith, nat_tests)

pub few_by : (text : List ℕ) → header_fault text ≡ None → whole_frame text ≡ None → length text < 580
unfolding header_fault whole_frame
few_by [] h w = omega arith
few_by (high ∷ []) h w = omega arith
few_by (high ∷ low ∷ []) h w = omega arith
few_by (high ∷ low ∷ kind ∷ fields) h w =
    let len = from_be_bytes w16 (high ∷ low ∷ []) in
    let f = no_header_fault (eqb len 0) (is_kind kind) (is_length_of kind len) (fields_fault kind len fields) h in
    let g = guard_none (ltb (length fields + 1) len) (request_of kind fields, drop (len - 1) fields) w in
    omega (arith, ltb-true _ _ g, length_of_least kind len f.1)
