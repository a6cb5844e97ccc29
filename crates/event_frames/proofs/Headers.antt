-- A frame by the indices of its bytes.
use Rattle.std.proofs.Common.{◌≡◌, ℕ, ◌+◌, ◌-◌, ◌≤◌, Bool, true, false, cond, not, eqb, leb, ltb, List, [], ◌∷◌, ◌++◌, length, get_or, drop, Option, Some, None, Ok, refl, sym, ap, subst, ◌∙◌, arith}
use Rattle.std.specs.Int.{w16, from_be_bytes}
use Rattle.std.proofs.lemmas.Bool.{le-ltb, ne_eqb}
use Rattle.std.proofs.lemmas.Bool.Decides.{nat_tests}
use Rattle.std.proofs.lemmas.List.{drop-drop}
use Rattle.trace_model.specs.declared.messages.session.Fault.{Fault}
use Rattle.trace_model.specs.declared.messages.session.Fault.TheVariants.{BadKind, BadLength}
use Rattle.trace_model.proofs.Protocol.Leading.{leading_takes, no_header_fault}
use Rattle.trace_model.specs.declared.traces.event.Event.{Event}
use Rattle.trace_model.specs.declared.traces.event.Op.{Op}
use Rattle.trace_model.specs.declared.traces.event.Op.TheVariants.{Fork, Join, Acquire, Release, Read, Write}
use Rattle.trace_model.specs.declared.messages.session.Request.TheVariants.{Offer}
use Rattle.trace_model.specs.Protocol.Frames.{IsBytes, frame, kind_of, batch_fault, ok_unless, is_event_kind, is_kind, is_length_of, fields_fault, header_fault, whole_frame, leading_of, request_of}
use Rattle.event_frames.specs.Leading.{IsLeading}

abbrev pub len_at : List ℕ → ℕ
len_at bytes = from_be_bytes w16 (get_or bytes 0 0 ∷ get_or bytes 1 0 ∷ [])

-- the first frame of a text that shows no fault
pub record IsHeader (bytes : List ℕ) : Type 0 where
  pub known : is_kind (get_or bytes 2 0) ≡ true
  pub right : is_length_of (get_or bytes 2 0) (len_at bytes) ≡ true
  pub sound : fields_fault (get_or bytes 2 0) (len_at bytes) (drop 3 bytes) ≡ None

pub header_is : (bytes : List ℕ) → 3 ≤ length bytes → header_fault bytes ≡ None → IsHeader bytes
unfolding header_fault
header_is [] long h = absurd (omega arith)
header_is (a ∷ []) long h = absurd (omega arith)
header_is (a ∷ b ∷ []) long h = absurd (omega arith)
header_is (high ∷ low ∷ kind ∷ fields) long h =
    let len = from_be_bytes w16 (high ∷ low ∷ []) in
    let p = no_header_fault (eqb len 0) (is_kind kind) (is_length_of kind len) (fields_fault kind len fields) h in
    record { known = p.0; right = p.1; sound = p.2 }

-- an unknown kind is a fault if the length is not 0
pub unknown_kind : (bytes : List ℕ) (len : ℕ) → 3 ≤ length bytes → len ≡ len_at bytes → (len ≡ 0 → ⊥) → is_kind (get_or bytes 2 0) ≡ false → Some BadKind ≡ header_fault bytes
unfolding header_fault
unknown_kind [] len long is some unknown = absurd (omega arith)
unknown_kind (a ∷ []) len long is some unknown = absurd (omega arith)
unknown_kind (a ∷ b ∷ []) len long is some unknown = absurd (omega arith)
unknown_kind (high ∷ low ∷ kind ∷ fields) len long is some unknown =
    let n = from_be_bytes w16 (high ∷ low ∷ []) in
    let after : Bool → Option Fault = λ b. cond (not b) (Some BadKind) (cond (not (is_length_of kind n)) (Some BadLength) (fields_fault kind n fields)) in
    let there : eqb n 0 ≡ false = ap (λ m. eqb m 0) (sym is) ∙ ne_eqb len 0 some in
    sym (ap (λ (b : Bool). cond b (Some BadLength) (after (is_kind kind))) there ∙ ap after unknown)

length_positive : (kind len : ℕ) → is_length_of kind len ≡ true → 2 ≤ len
length_positive kind len right = grind (arith, nat_tests)

pub whole_at : (bytes : List ℕ) → 3 ≤ length bytes → header_fault bytes ≡ None → len_at bytes ≤ length (drop 3 bytes) + 1 → leading_of bytes ≡ Ok (Some (request_of (get_or bytes 2 0) (drop 3 bytes), drop (len_at bytes + 2) bytes))
unfolding leading_of whole_frame
whole_at [] long h le = absurd (omega arith)
whole_at (a ∷ []) long h le = absurd (omega arith)
whole_at (a ∷ b ∷ []) long h le = absurd (omega arith)
whole_at (high ∷ low ∷ kind ∷ fields) long h le =
    let len = from_be_bytes w16 (high ∷ low ∷ []) in
    let enough : ltb (length fields + 1) len ≡ false = le-ltb _ _ le in
    let place : 3 + (len - 1) ≡ len + 2 = omega (arith, length_positive kind len (header_is (high ∷ low ∷ kind ∷ fields) long h).right) in
    ap (λ (f : Option Fault). ok_unless f (cond (ltb (length fields + 1) len) None (Some (request_of kind fields, drop (len - 1) fields)))) h
    ∙ ap (λ (b : Bool). ok_unless None (cond b None (Some (request_of kind fields, drop (len - 1) fields)))) enough
    ∙ ap (λ (t : List ℕ). ok_unless None (Some (request_of kind fields, t))) (drop-drop (len - 1) 3 (high ∷ low ∷ kind ∷ fields) ∙ ap (λ (n : ℕ). drop n (high ∷ low ∷ kind ∷ fields)) place)

-- ---- the frame of an offer

pub event_kind_most : (kind : ℕ) → is_event_kind kind ≡ true → leb kind 6 ≡ true
event_kind_most kind known = grind (arith, nat_tests)

-- a body of 9 bytes whose kind is that of an event shows no fault
offer_header : (high low kind : ℕ) (fields : List ℕ) → from_be_bytes w16 (high ∷ low ∷ []) ≡ 9 → is_event_kind kind ≡ true → header_fault (high ∷ low ∷ kind ∷ fields) ≡ None
unfolding header_fault
offer_header high low kind fields nine event =
    let known : is_kind kind ≡ true = grind (arith, nat_tests) in
    let right : is_length_of kind 9 ≡ true = grind (arith, nat_tests) in
    let single : eqb kind 10 ≡ false = grind (arith, nat_tests) in
    let fault : ℕ → Option Fault = λ len. cond (eqb len 0) (Some BadLength) (cond (not (is_kind kind)) (Some BadKind) (cond (not (is_length_of kind len)) (Some BadLength) (fields_fault kind len fields))) in
    ap fault nine
    ∙ ap (λ (b : Bool). cond (not b) (Some BadKind) (cond (not (is_length_of kind 9)) (Some BadLength) (fields_fault kind 9 fields))) known
    ∙ ap (λ (b : Bool). cond (not b) (Some BadLength) (fields_fault kind 9 fields)) right
    ∙ ap (λ (b : Bool). cond b (batch_fault 1 fields) None) single

pub offer_leads : (bytes : List ℕ) (event : Event) → IsBytes bytes → 3 ≤ length bytes → len_at bytes ≡ 9 → is_event_kind (get_or bytes 2 0) ≡ true → 8 ≤ length (drop 3 bytes) → Offer event ≡ request_of (get_or bytes 2 0) (drop 3 bytes) →
    IsLeading bytes (Ok (Some (Offer event, 11)))
offer_leads [] event fits long nine known whole is = absurd (omega arith)
offer_leads (a ∷ []) event fits long nine known whole is = absurd (omega arith)
offer_leads (a ∷ b ∷ []) event fits long nine known whole is = absurd (omega arith)
offer_leads (high ∷ low ∷ kind ∷ fields) event fits long nine known whole is =
    let bytes = high ∷ low ∷ kind ∷ fields in
    let found = whole_at bytes long (offer_header high low kind fields nine known) (omega (arith, nine, whole)) in
    let taken = leading_takes bytes (Offer event) (drop 11 bytes) fits (found ∙ (λ i. Ok (Some (sym is i, drop (nine i + 2) bytes)))) in
    (taken.0, taken.1, omega (arith, whole))

-- a text that begins with the frame of an offer, by the indices of its bytes
pub record BeginsWithOffer (bytes : List ℕ) : Type 0 where
  pub long : 3 ≤ length bytes
  pub nine : len_at bytes ≡ 9
  pub known : is_event_kind (get_or bytes 2 0) ≡ true
  pub whole : 8 ≤ length (drop 3 bytes)

kind_known : (op : Op) → is_event_kind (kind_of op) ≡ true
kind_known (Fork o) = refl
kind_known (Join o) = refl
kind_known (Acquire o) = refl
kind_known (Release o) = refl
kind_known (Read o) = refl
kind_known (Write o) = refl

offer_begins : (event : Event) (rest : List ℕ) → BeginsWithOffer (frame (Offer event) ++ rest)
unfolding frame
offer_begins event rest = record { long = omega arith; nine = refl; known = kind_known event.op; whole = omega arith }

pub begins_with : (bytes : List ℕ) (event : Event) (rest : List ℕ) → bytes ≡ frame (Offer event) ++ rest → BeginsWithOffer bytes
begins_with bytes event rest is = subst BeginsWithOffer (sym is) (offer_begins event rest)
