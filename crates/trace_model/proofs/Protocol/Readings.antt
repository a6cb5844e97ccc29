-- Each text of bytes has one reading.
use Rattle.std.proofs.Common.{◌≡◌, ℕ, zero, suc, ◌<◌, ◌≤◌, Bool, List, [], ◌∷◌, ◌++◌, length, Option, Some, None, Result, Ok, Err, refl, sym, ap, subst, ◌∙◌, arith}
use Rattle.std.proofs.lemmas.List.{drop_at}
use Rattle.trace_model.proofs.Protocol.Bytes.{IsBytes-drop}
use Rattle.std.specs.Option.{option_or}
use Rattle.trace_model.specs.declared.messages.session.Request.{Request}
use Rattle.trace_model.specs.declared.messages.session.Fault.{Fault}
use Rattle.trace_model.specs.Protocol.Frames.{frame, IsRequest, ok_unless, header_fault, cut_fault, fault_at, BeginsNoFrame, Reads, leading_of, whole_frame, split_then, split_up_to, requests_in, rest_in, fault_in, OneReading, IsBytes}
use Rattle.trace_model.proofs.Protocol.Leading.{leading_takes, leading_found}
use Rattle.trace_model.proofs.Protocol.Written.{leading_again}
use Rattle.trace_model.proofs.Protocol.LeadingSizes.{leading_shorter, few_by}

-- ---- enough rounds

same_then : (n m : ℕ) (text : List ℕ) → length text ≤ suc n → length text ≤ suc m → ((t : List ℕ) → length t ≤ n → length t ≤ m → split_up_to n t ≡ split_up_to m t) → (r : Result (Option (Request × List ℕ)) Fault) → leading_of text ≡ r → split_then (split_up_to n) text r ≡ split_then (split_up_to m) text r
same_then n m text p q again (Err fault) e = refl
same_then n m text p q again (Ok None) e = refl
same_then n m text p q again (Ok (Some found)) e =
    let s = leading_shorter text found.0 found.1 e in
    ap (λ (x : List Request × List ℕ). (found.0 ∷ x.0, x.1)) (again found.1 (omega arith) (omega arith))

leading_nil : leading_of [] ≡ Ok None
unfolding leading_of header_fault whole_frame
leading_nil = refl

same_up_to : (n m : ℕ) (text : List ℕ) → length text ≤ n → length text ≤ m → split_up_to n text ≡ split_up_to m text
same_up_to zero zero text p q = refl
same_up_to zero (suc m) [] p q = sym (ap (split_then (split_up_to m) []) leading_nil)
same_up_to zero (suc m) (x ∷ text) p q = absurd (omega arith)
same_up_to (suc n) zero [] p q = ap (split_then (split_up_to n) []) leading_nil
same_up_to (suc n) zero (x ∷ text) p q = absurd (omega arith)
same_up_to (suc n) (suc m) text p q = same_then n m text p q (same_up_to n m) (leading_of text) refl

-- a text as its requests and the bytes after them
abbrev split : List ℕ → List Request × List ℕ
split text = split_up_to (length text) text

split_turn : (text : List ℕ) (r : Result (Option (Request × List ℕ)) Fault) → leading_of text ≡ r → split text ≡ split_then split text r
split_turn text r e = same_up_to (length text) (suc (length text)) text (omega arith) (omega arith) ∙ (ap (split_then (split_up_to (length text)) text) e ∙ after r e)
  where
    after : (r : Result (Option (Request × List ℕ)) Fault) → leading_of text ≡ r → split_then (split_up_to (length text)) text r ≡ split_then split text r
    after (Err fault) e = refl
    after (Ok None) e = refl
    after (Ok (Some found)) e =
        let s = leading_shorter text found.0 found.1 e in
        ap (λ (x : List Request × List ℕ). (found.0 ∷ x.0, x.1)) (same_up_to (length text) (length found.1) found.1 (omega arith) (omega arith))

-- ---- one round

pub record IsTurn (text : List ℕ) (request : Request) (rest : List ℕ) : Type 0 where
  pub requests : requests_in text ≡ request ∷ requests_in rest
  pub after : rest_in text ≡ rest_in rest

-- if a request is at the start
pub found_turn : (text : List ℕ) (request : Request) (rest : List ℕ) → leading_of text ≡ Ok (Some (request, rest)) → IsTurn text request rest
unfolding requests_in rest_in
found_turn text request rest e =
    let t = split_turn text (Ok (Some (request, rest))) e in
    record { requests = ap (λ (x : List Request × List ℕ). x.0) t; after = ap (λ (x : List Request × List ℕ). x.1) t }

-- a frame that was written
pub frame_turn : (request : Request) (rest : List ℕ) → IsRequest request → IsTurn (frame request ++ rest) request rest
frame_turn request rest h = found_turn (frame request ++ rest) request rest (leading_again request rest h)

-- if no frame is at the start
pub record IsStop (text : List ℕ) : Type 0 where
  pub requests : requests_in text ≡ []
  pub after : rest_in text ≡ text

pub none_stop : (text : List ℕ) → leading_of text ≡ Ok None → IsStop text
unfolding requests_in rest_in
none_stop text e =
    let t = split_turn text (Ok None) e in
    record { requests = ap (λ (x : List Request × List ℕ). x.0) t; after = ap (λ (x : List Request × List ℕ). x.1) t }

pub fault_stop : (text : List ℕ) (fault : Fault) → leading_of text ≡ Err fault → IsStop text
unfolding requests_in rest_in
fault_stop text fault e =
    let t = split_turn text (Err fault) e in
    record { requests = ap (λ (x : List Request × List ℕ). x.0) t; after = ap (λ (x : List Request × List ℕ). x.1) t }

no_frame : (text : List ℕ) (r : Result (Option (Request × List ℕ)) Fault) → leading_of text ≡ r → ((found : Request × List ℕ) → r ≡ Ok (Some found) → ⊥) → BeginsNoFrame text
no_frame text r e never request rest h t = never (request, rest) (sym e ∙ (ap leading_of t ∙ leading_again request rest h))

stop_of : (text : List ℕ) → IsBytes text → BeginsNoFrame text → (r : Result (Option (Request × List ℕ)) Fault) → leading_of text ≡ r → IsStop text
stop_of text fits none (Err fault) e = fault_stop text fault e
stop_of text fits none (Ok None) e = none_stop text e
stop_of text fits none (Ok (Some found)) e = let t = leading_takes text found.0 found.1 fits e in absurd (none found.0 found.1 t.0 t.1)

-- ---- the law

IsBytes-after : (a b : List ℕ) → IsBytes (a ++ b) → IsBytes b
IsBytes-after a b h = subst IsBytes (drop_at a b (length a) refl) (IsBytes-drop (length a) (a ++ b) h)

reads_only : (text : List ℕ) (ended : Bool) → IsBytes text → (requests : List Request) (fault : Option Fault) → Reads text ended requests fault → (requests ≡ requests_in text) × (fault ≡ fault_in text ended)
reads_only text ended fits [] fault h =
    let s = stop_of text fits h.0 (leading_of text) refl in
    (sym s.requests, h.1 ∙ ap (λ (t : List ℕ). fault_at t ended) (sym s.after))
reads_only text ended fits (request ∷ requests) fault h =
    let rest = h.1.0 in
    let t = frame_turn request rest h.0 in
    let fits_too : IsBytes (frame request ++ rest) = subst IsBytes h.1.1 fits in
    let more = reads_only rest ended (IsBytes-after (frame request) rest fits_too) requests fault h.1.2 in (
      ap (λ (x : List Request). request ∷ x) more.0 ∙ (sym t.requests ∙ ap requests_in (sym h.1.1)),
      more.1 ∙ (ap (λ (x : List ℕ). fault_at x ended) (sym t.after) ∙ ap (λ (x : List ℕ). fault_in x ended) (sym h.1.1)),
    )

-- how a text reads
abbrev IsRead : List ℕ → Bool → Type 0
IsRead text ended = Reads text ended (requests_in text) (fault_in text ended)

stopped : (text : List ℕ) (ended : Bool) → IsStop text → BeginsNoFrame text → IsRead text ended
stopped text ended s none = subst (λ (x : List Request). Reads text ended x (fault_in text ended)) (sym s.requests) (none, ap (λ (t : List ℕ). fault_at t ended) s.after)

reads_by : (n : ℕ) (text : List ℕ) (ended : Bool) → IsBytes text → length text ≤ n → ((t : List ℕ) → IsBytes t → length t < n → IsRead t ended) → (r : Result (Option (Request × List ℕ)) Fault) → leading_of text ≡ r → IsRead text ended
reads_by n text ended fits le again (Err fault) e = stopped text ended (fault_stop text fault e) (no_frame text (Err fault) e (λ found i. cc))
reads_by n text ended fits le again (Ok None) e = stopped text ended (none_stop text e) (no_frame text (Ok None) e (λ found i. cc))
reads_by n text ended fits le again (Ok (Some found)) e =
    let t = leading_takes text found.0 found.1 fits e in
    let s = leading_shorter text found.0 found.1 e in
    let u = found_turn text found.0 found.1 e in
    let fits_too : IsBytes (frame found.0 ++ found.1) = subst IsBytes t.1 fits in
    let more = again found.1 (IsBytes-after (frame found.0) found.1 fits_too) (omega arith) in
    subst (λ (x : List Request). Reads text ended x (fault_in text ended)) (sym u.requests)
    (t.0, (found.1, t.1, subst (λ (x : List ℕ). Reads found.1 ended (requests_in found.1) (fault_at x ended)) (sym u.after) more))

reads_up_to : (n : ℕ) (text : List ℕ) (ended : Bool) → IsBytes text → length text < n → IsRead text ended
reads_up_to zero text ended fits le = absurd (omega arith)
reads_up_to (suc n) text ended fits le = reads_by n text ended fits (omega arith) (λ t f l. reads_up_to n t ended f l) (leading_of text) refl

pub one_reading : OneReading
one_reading text ended fits = (reads_up_to (suc (length text)) text ended fits (omega arith), reads_only text ended fits)

-- ---- what a reader needs

err_is : {A : Type 0} (fault : Option Fault) (x : A) (f : Fault) → ok_unless fault x ≡ Err f → fault ≡ Some f
err_is (Some fault) x f e = cc
err_is None x f e = absurd cc

pub header_err : (text : List ℕ) (fault : Fault) → leading_of text ≡ Err fault → header_fault text ≡ Some fault
unfolding leading_of
header_err text fault e = err_is (header_fault text) (whole_frame text) fault e

pub record IsFaulty (text : List ℕ) (ended : Bool) (fault : Fault) : Type 0 where
  pub requests : requests_in text ≡ []
  pub stands : fault_in text ended ≡ Some fault

pub fault_stands : (text : List ℕ) (ended : Bool) (fault : Fault) → leading_of text ≡ Err fault → IsFaulty text ended fault
fault_stands text ended fault e =
    let s = fault_stop text fault e in
    record {
      requests = s.requests;
      stands = ap (λ (t : List ℕ). fault_at t ended) s.after ∙ ap (λ (f : Option Fault). option_or f (cut_fault text ended)) (header_err text fault e);
    }

pub record IsPartial (text : List ℕ) (ended : Bool) : Type 0 where
  pub requests : requests_in text ≡ []
  pub fault : fault_in text ended ≡ cut_fault text ended

pub partial_stands : (text : List ℕ) (ended : Bool) → leading_of text ≡ Ok None → IsPartial text ended
partial_stands text ended e =
    let s = none_stop text e in
    record {
      requests = s.requests;
      fault = ap (λ (t : List ℕ). fault_at t ended) s.after ∙ ap (λ (f : Option Fault). option_or f (cut_fault text ended)) (leading_found text None e).0;
    }

-- bytes that no whole frame begins are few
pub partial_few : (text : List ℕ) → leading_of text ≡ Ok None → length text < 580
partial_few text e = let f = leading_found text None e in few_by text f.0 f.1
