-- The start of a text: a frame and its request.
use Rattle.std.proofs.Common.{◌≡◌, ℕ, suc, ◌+◌, ◌-◌, ◌*◌, ◌/◌, ◌≤◌, Bool, true, false, cond, eqb, ltb, leb, List, [], ◌∷◌, ◌++◌, length, get_or, take, drop, Option, Some, None, Ok, refl, sym, ap, subst, ◌∙◌, append_assoc, arith, inl, inr, ◌⊎◌, not}
use Rattle.std.specs.Int.{w16, w32, from_be_bytes, to_be_bytes}
use Rattle.std.specs.List.{flat_map}
use Rattle.std.proofs.lemmas.Bool.{cases_lt, ltb-false}
use Rattle.std.proofs.lemmas.List.{take-append-drop, length-drop}
use Rattle.std.proofs.lemmas.Bool.Decides.{nat_tests}
use Rattle.trace_model.specs.declared.messages.session.Request.{Request}
use Rattle.trace_model.specs.declared.messages.session.Request.TheVariants.{Ask, Answer, Status, Batch}
use Rattle.trace_model.specs.declared.messages.session.Fault.{Fault}
use Rattle.trace_model.specs.declared.messages.session.Fault.TheVariants.{BadKind, BadLength}
use Rattle.trace_model.specs.Protocol.Frames.{kind_of, object_of, frame, IsRequest, ok_unless, is_kind, is_length_of, fields_fault, header_fault, op_of, events_in, event_bytes, request_of, whole_frame, leading_of, IsBytes}
use Rattle.trace_model.proofs.Protocol.Bytes.{IsBytes-drop, IsBytes-take, word_takes, word_below, half_takes}
use Rattle.trace_model.proofs.Protocol.BatchFrames.{batch_length, batch_sound, cells_take, eight_cells, length_cells, op_takes}
use Rattle.trace_model.proofs.Protocol.Written.{offer, request_event}

ok_unless_ok : {A : Type 0} (fault : Option Fault) (x y : A) → ok_unless fault x ≡ Ok y → (fault ≡ None) × (x ≡ y)
ok_unless_ok (Some fault) x y e = absurd cc
ok_unless_ok None x y e = (refl, cc)

pub leading_found : (text : List ℕ) (found : Option (Request × List ℕ)) → leading_of text ≡ Ok found → (header_fault text ≡ None) × (whole_frame text ≡ found)
unfolding leading_of
leading_found text found e = ok_unless_ok (header_fault text) (whole_frame text) found e

guard_some : {A : Type 0} (b : Bool) (x y : A) → cond b None (Some x) ≡ Some y → (b ≡ false) × (x ≡ y)
guard_some true x y e = absurd cc
guard_some false x y e = (refl, cc)

pub no_header_fault : (a b c : Bool) (f : Option Fault) → cond a (Some BadLength) (cond (not b) (Some BadKind) (cond (not c) (Some BadLength) f)) ≡ None → (b ≡ true) × (c ≡ true) × (f ≡ None)
no_header_fault true b c f e = absurd cc
no_header_fault false false c f e = absurd cc
no_header_fault false true false f e = absurd cc
no_header_fault false true true f e = (refl, refl, e)

-- a text that is long enough for a kind, and what was found there
pub record HasFrame (high low kind : ℕ) (fields : List ℕ) (request : Request) (rest : List ℕ) : Type 0 where
  pub known : is_kind kind ≡ true
  pub right : is_length_of kind (from_be_bytes w16 (high ∷ low ∷ [])) ≡ true
  pub sound : fields_fault kind (from_be_bytes w16 (high ∷ low ∷ [])) fields ≡ None
  pub long : from_be_bytes w16 (high ∷ low ∷ []) ≤ length fields + 1
  pub request_is : request_of kind fields ≡ request
  pub rest_is : drop (from_be_bytes w16 (high ∷ low ∷ []) - 1) fields ≡ rest

pub has_frame : (high low kind : ℕ) (fields : List ℕ) (request : Request) (rest : List ℕ) → header_fault (high ∷ low ∷ kind ∷ fields) ≡ None → whole_frame (high ∷ low ∷ kind ∷ fields) ≡ Some (request, rest) → HasFrame high low kind fields request rest
unfolding header_fault whole_frame
has_frame high low kind fields request rest h w =
    let len = from_be_bytes w16 (high ∷ low ∷ []) in
    let f = no_header_fault (eqb len 0) (is_kind kind) (is_length_of kind len) (fields_fault kind len fields) h in
    let g = guard_some (ltb (length fields + 1) len) (request_of kind fields, drop (len - 1) fields) (request, rest) w in
    record {
      known = f.0;
      right = f.1;
      sound = f.2;
      long = ltb-false _ _ g.0;
      request_is = ap (λ (p : Request × List ℕ). p.0) g.1;
      rest_is = ap (λ (p : Request × List ℕ). p.1) g.1;
    }

record IsEventKind (kind len : ℕ) : Type 0 where
  low : 1 ≤ kind
  high : kind ≤ 6
  len_is : len ≡ 9

event_kind : (kind len : ℕ) → is_kind kind ≡ true → is_length_of kind len ≡ true → leb kind 6 ≡ true → IsEventKind kind len
event_kind kind len k l e = record { low = grind (arith, nat_tests); high = grind (arith, nat_tests); len_is = grind (arith, nat_tests) }

same_cells : (p q : List ℕ) (j k : ℕ) (a b c d rest : List ℕ) → p ≡ q → j ≡ k → a ≡ b → c ≡ d → (p ++ (j ∷ a ++ c)) ++ rest ≡ (q ++ (k ∷ b ++ d)) ++ rest
same_cells p q j k a b c d rest e f g h = cc

IsBytes-fields : (high low kind : ℕ) (fields : List ℕ) → IsBytes (high ∷ low ∷ kind ∷ fields) → IsBytes fields
IsBytes-fields high low kind fields h i = h (suc (suc (suc i)))

half_is : (high low kind : ℕ) (fields : List ℕ) (len : ℕ) → IsBytes (high ∷ low ∷ kind ∷ fields) → from_be_bytes w16 (high ∷ low ∷ []) ≡ len → to_be_bytes w16 len ≡ high ∷ low ∷ []
half_is high low kind fields len h e = half_takes high low len (IsBytes-take 2 (high ∷ low ∷ kind ∷ fields) h) (sym e)

-- the request and the text that it was read from
abbrev IsTaken : ℕ → ℕ → ℕ → List ℕ → Request → List ℕ → Type 0
IsTaken high low kind fields request rest = IsRequest request × (high ∷ low ∷ kind ∷ fields ≡ frame request ++ rest)

event_taken : (high low kind : ℕ) (fields : List ℕ) → IsBytes (high ∷ low ∷ kind ∷ fields) → IsEventKind kind (from_be_bytes w16 (high ∷ low ∷ [])) → 8 ≤ length fields → IsTaken high low kind fields (offer (from_be_bytes w32 (take 4 fields)) kind (from_be_bytes w32 (take 4 (drop 4 fields)))) (drop 8 fields)
unfolding frame
event_taken high low kind fields fits k long =
    let bytes = IsBytes-fields high low kind fields fits in
    let thread = from_be_bytes w32 (take 4 fields) in
    let object = from_be_bytes w32 (take 4 (drop 4 fields)) in
    let o = op_takes kind object k.low k.high in
    let t = word_takes fields (omega arith) bytes in
    let u = word_takes (drop 4 fields) (omega (arith, length-drop 4 fields)) (IsBytes-drop 4 fields bytes) in
    let l = half_is high low kind fields 9 fits k.len_is in (
      (word_below (take 4 fields) (IsBytes-take 4 fields bytes), rw o.1 (word_below (take 4 (drop 4 fields)) (IsBytes-take 4 (drop 4 fields) (IsBytes-drop 4 fields bytes)))),
      sym (same_cells (to_be_bytes w16 9) (high ∷ low ∷ []) (kind_of (op_of kind object)) kind (to_be_bytes w32 thread) (take 4 fields) (to_be_bytes w32 (object_of (op_of kind object))) (take 4 (drop 4 fields)) (drop 8 fields) l o.0 t (ap (to_be_bytes w32) o.1 ∙ u)
          ∙ ap (λ (f : List ℕ). high ∷ low ∷ kind ∷ f) (eight_cells fields)),
    )

short_cells : (p q : List ℕ) (kind : ℕ) (a b rest : List ℕ) → p ≡ q → a ≡ b → (p ++ (kind ∷ a)) ++ rest ≡ (q ++ (kind ∷ b)) ++ rest
short_cells p q kind a b rest e f = cc

answer_taken : (high low : ℕ) (fields : List ℕ) → IsBytes (high ∷ low ∷ 8 ∷ fields) → from_be_bytes w16 (high ∷ low ∷ []) ≡ 5 → 4 ≤ length fields → IsTaken high low 8 fields (Answer (from_be_bytes w32 (take 4 fields))) (drop 4 fields)
unfolding frame
answer_taken high low fields fits len long =
    let bytes = IsBytes-fields high low 8 fields fits in (
      word_below (take 4 fields) (IsBytes-take 4 fields bytes),
      sym (short_cells (to_be_bytes w16 5) (high ∷ low ∷ []) 8 (to_be_bytes w32 (from_be_bytes w32 (take 4 fields))) (take 4 fields) (drop 4 fields) (half_is high low 8 fields 5 fits len) (word_takes fields long bytes)
          ∙ ap (λ (f : List ℕ). high ∷ low ∷ 8 ∷ f) (take-append-drop 4 fields)),
    )

status_taken : (high low : ℕ) (fields : List ℕ) → IsBytes (high ∷ low ∷ 9 ∷ fields) → from_be_bytes w16 (high ∷ low ∷ []) ≡ 5 → 4 ≤ length fields → IsTaken high low 9 fields (Status (from_be_bytes w32 (take 4 fields))) (drop 4 fields)
unfolding frame
status_taken high low fields fits len long =
    let bytes = IsBytes-fields high low 9 fields fits in (
      word_below (take 4 fields) (IsBytes-take 4 fields bytes),
      sym (short_cells (to_be_bytes w16 5) (high ∷ low ∷ []) 9 (to_be_bytes w32 (from_be_bytes w32 (take 4 fields))) (take 4 fields) (drop 4 fields) (half_is high low 9 fields 5 fits len) (word_takes fields long bytes)
          ∙ ap (λ (f : List ℕ). high ∷ low ∷ 9 ∷ f) (take-append-drop 4 fields)),
    )

ask_taken : (high low : ℕ) (fields : List ℕ) → IsBytes (high ∷ low ∷ 7 ∷ fields) → from_be_bytes w16 (high ∷ low ∷ []) ≡ 2 → 1 ≤ length fields → IsTaken high low 7 fields (Ask (get_or fields 0 0)) (drop 1 fields)
unfolding frame
ask_taken high low [] fits len long = absurd (omega arith)
ask_taken high low (bound ∷ rest) fits len long =
    (fits 3, sym (short_cells (to_be_bytes w16 2) (high ∷ low ∷ []) 7 (bound ∷ []) (bound ∷ []) rest (half_is high low 7 (bound ∷ rest) 2 fits len) refl))

taken_is : (high low kind : ℕ) (fields : List ℕ) (request : Request) (rest : List ℕ) (len : ℕ) (r : Request) → HasFrame high low kind fields request rest → from_be_bytes w16 (high ∷ low ∷ []) ≡ len → request_of kind fields ≡ r → IsTaken high low kind fields r (drop (len - 1) fields) → IsTaken high low kind fields request rest
taken_is high low kind fields request rest len r h e f t =
    subst (λ (x : Request). IsTaken high low kind fields x rest) (sym f ∙ h.request_is)
    (subst (λ (x : List ℕ). IsTaken high low kind fields r x) (ap (λ (n : ℕ). drop (n - 1) fields) (sym e) ∙ h.rest_is) t)

request_ask : (fields : List ℕ) → request_of 7 fields ≡ Ask (get_or fields 0 0)
unfolding request_of
request_ask fields = refl

request_answer : (fields : List ℕ) → request_of 8 fields ≡ Answer (from_be_bytes w32 (take 4 fields))
unfolding request_of
request_answer fields = refl

request_status : (fields : List ℕ) → request_of 9 fields ≡ Status (from_be_bytes w32 (take 4 fields))
unfolding request_of
request_status fields = refl

request_batch : (fields : List ℕ) → request_of 10 fields ≡ Batch (events_in (get_or fields 0 0) (drop 1 fields))
unfolding request_of
request_batch fields = refl

batch_cells : (p q : List ℕ) (n : ℕ) (a b rest : List ℕ) → p ≡ q → a ++ rest ≡ b → (p ++ (10 ∷ n ∷ a)) ++ rest ≡ q ++ (10 ∷ n ∷ b)
batch_cells p q n a b rest e f = append_assoc p (10 ∷ n ∷ a) rest ∙ (λ i. e i ++ (10 ∷ n ∷ f i))

batch_taken : (high low : ℕ) (fields : List ℕ) → IsBytes (high ∷ low ∷ 10 ∷ fields) → is_length_of 10 (from_be_bytes w16 (high ∷ low ∷ [])) ≡ true →
    fields_fault 10 (from_be_bytes w16 (high ∷ low ∷ [])) fields ≡ None → from_be_bytes w16 (high ∷ low ∷ []) ≤ length fields + 1 →
    IsTaken high low 10 fields (Batch (events_in (get_or fields 0 0) (drop 1 fields))) (drop (from_be_bytes w16 (high ∷ low ∷ []) - 1) fields)
unfolding frame
batch_taken high low [] fits right sound long = let l = batch_length (from_be_bytes w16 (high ∷ low ∷ [])) right in absurd (omega (arith, l.0, l.1, long))
batch_taken high low (count ∷ cells) fits right sound long =
    let len = from_be_bytes w16 (high ∷ low ∷ []) in
    let n = len / 9 in
    let l = batch_length len right in
    let s = batch_sound n count cells sound in
    let taken = cells_take n cells (λ i. fits (suc (suc (suc (suc i))))) (omega (arith, long, l.0)) s.1 in
    let es = events_in n cells in
    let size : length (10 ∷ length es ∷ flat_map event_bytes es) ≡ len = omega (arith, length_cells es, taken.count, l.0) in
    let half : to_be_bytes w16 (length (10 ∷ length es ∷ flat_map event_bytes es)) ≡ high ∷ low ∷ [] = ap (to_be_bytes w16) size ∙ half_is high low 10 (count ∷ cells) len fits refl in
    let place : len - 1 ≡ suc (9 * n) = omega (arith, l.0) in
    let after : drop (len - 1) (count ∷ cells) ≡ drop (9 * n) cells = ap (λ (k : ℕ). drop k (count ∷ cells)) place in
    let written = batch_cells _ _ (length es) (flat_map event_bytes es) cells (drop (9 * n) cells) half taken.written in
    let counted : length es ≡ count = taken.count ∙ sym s.0 in
    subst (λ (k : ℕ). IsTaken high low 10 (count ∷ cells) (Batch (events_in k cells)) (drop (len - 1) (count ∷ cells))) (sym s.0) (
      ((omega (arith, taken.count, l.1), omega (arith, taken.count, l.2)), taken.ranges),
      sym (ap (λ (t : List ℕ). (to_be_bytes w16 (length (10 ∷ length es ∷ flat_map event_bytes es)) ++ (10 ∷ length es ∷ flat_map event_bytes es)) ++ t) after
          ∙ (written ∙ ap (λ (k : ℕ). high ∷ low ∷ 10 ∷ k ∷ cells) counted)),
    )

other_kind : (kind len : ℕ) → is_kind kind ≡ true → is_length_of kind len ≡ true → leb kind 6 ≡ false → ((kind ≡ 7) × (len ≡ 2)) ⊎ (((kind ≡ 8) × (len ≡ 5)) ⊎ (((kind ≡ 9) × (len ≡ 5)) ⊎ (kind ≡ 10)))
other_kind kind len k l e =
    let low : 7 ≤ kind = grind (arith, nat_tests) in
    let high : kind ≤ 10 = grind (arith, nat_tests) in
    elim (cases_lt kind 8) [
      | inl lt ↦ inl (omega arith, grind (arith, nat_tests))
      | inr le ↦ elim (cases_lt kind 9) [
        | inl lt ↦ inr (inl (omega arith, grind (arith, nat_tests)))
        | inr ge ↦ elim (cases_lt kind 10) [
          | inl lt ↦ inr (inr (inl (omega arith, grind (arith, nat_tests))))
          | inr most ↦ inr (inr (inr (omega arith)))
        ]
      ]
    ]

frame_takes : (high low kind : ℕ) (fields : List ℕ) (request : Request) (rest : List ℕ) → IsBytes (high ∷ low ∷ kind ∷ fields) → HasFrame high low kind fields request rest → (b : Bool) → leb kind 6 ≡ b → IsTaken high low kind fields request rest
frame_takes high low kind fields request rest fits h true e =
    let k = event_kind kind (from_be_bytes w16 (high ∷ low ∷ [])) h.known h.right e in
    taken_is high low kind fields request rest 9 _ h k.len_is (request_event kind fields e) (event_taken high low kind fields fits k (omega (arith, h.long, k.len_is)))
frame_takes high low kind fields request rest fits h false e =
    elim (other_kind kind (from_be_bytes w16 (high ∷ low ∷ [])) h.known h.right e) [
      | inl k ↦ ask_frame kind (sym k.0) k.1 fits h
      | inr l ↦ elim l [
        | inl k ↦ answer_frame kind (sym k.0) k.1 fits h
        | inr m ↦ elim m [ inl k ↦ status_frame kind (sym k.0) k.1 fits h | inr k ↦ batch_frame kind (sym k) fits h ]
      ]
    ]
  where
    ask_frame : (k : ℕ) → 7 ≡ k → from_be_bytes w16 (high ∷ low ∷ []) ≡ 2 → IsBytes (high ∷ low ∷ k ∷ fields) → HasFrame high low k fields request rest → IsTaken high low k fields request rest
    ask_frame k i l = subst (λ (x : ℕ). IsBytes (high ∷ low ∷ x ∷ fields) → HasFrame high low x fields request rest → IsTaken high low x fields request rest) i (λ f g. taken_is high low 7 fields request rest 2 _ g l (request_ask fields) (ask_taken high low fields f l (omega (arith, g.long, l))))

    answer_frame : (k : ℕ) → 8 ≡ k → from_be_bytes w16 (high ∷ low ∷ []) ≡ 5 → IsBytes (high ∷ low ∷ k ∷ fields) → HasFrame high low k fields request rest → IsTaken high low k fields request rest
    answer_frame k i l = subst (λ (x : ℕ). IsBytes (high ∷ low ∷ x ∷ fields) → HasFrame high low x fields request rest → IsTaken high low x fields request rest) i (λ f g. taken_is high low 8 fields request rest 5 _ g l (request_answer fields) (answer_taken high low fields f l (omega (arith, g.long, l))))

    status_frame : (k : ℕ) → 9 ≡ k → from_be_bytes w16 (high ∷ low ∷ []) ≡ 5 → IsBytes (high ∷ low ∷ k ∷ fields) → HasFrame high low k fields request rest → IsTaken high low k fields request rest
    status_frame k i l = subst (λ (x : ℕ). IsBytes (high ∷ low ∷ x ∷ fields) → HasFrame high low x fields request rest → IsTaken high low x fields request rest) i (λ f g. taken_is high low 9 fields request rest 5 _ g l (request_status fields) (status_taken high low fields f l (omega (arith, g.long, l))))

    batch_frame : (k : ℕ) → 10 ≡ k → IsBytes (high ∷ low ∷ k ∷ fields) → HasFrame high low k fields request rest → IsTaken high low k fields request rest
    batch_frame k i = subst (λ (x : ℕ). IsBytes (high ∷ low ∷ x ∷ fields) → HasFrame high low x fields request rest → IsTaken high low x fields request rest) i (λ f g. taken_is high low 10 fields request rest (from_be_bytes w16 (high ∷ low ∷ [])) _ g refl (request_batch fields) (batch_taken high low fields f g.right g.sound g.long))

pub leading_takes : (text : List ℕ) (request : Request) (rest : List ℕ) → IsBytes text → leading_of text ≡ Ok (Some (request, rest)) → IsRequest request × (text ≡ frame request ++ rest)
unfolding whole_frame
leading_takes [] request rest fits e = let f = leading_found [] (Some (request, rest)) e in absurd cc
leading_takes (high ∷ []) request rest fits e = let f = leading_found (high ∷ []) (Some (request, rest)) e in absurd cc
leading_takes (high ∷ low ∷ []) request rest fits e = let f = leading_found (high ∷ low ∷ []) (Some (request, rest)) e in absurd cc
leading_takes (high ∷ low ∷ kind ∷ fields) request rest fits e =
    let f = leading_found (high ∷ low ∷ kind ∷ fields) (Some (request, rest)) e in
    frame_takes high low kind fields request rest fits (has_frame high low kind fields request rest f.0 f.1) (leb kind 6) refl
