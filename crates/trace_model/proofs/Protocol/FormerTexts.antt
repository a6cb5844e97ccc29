-- A text without batches is read as in the protocol without batches.
use Rattle.std.proofs.Common.{◌≡◌, ℕ, ◌+◌, ◌*◌, ◌/◌, not, Bool, true, false, cond, eqb, List, [], ◌∷◌, ◌++◌, length, slice_get, Option, Some, None, refl, sym, ap, subst, ◌∙◌, arith}
use Rattle.std.specs.Option.{option_or}
use Rattle.std.specs.Int.{w16, from_be_bytes, to_be_bytes}
use Rattle.std.proofs.lemmas.Bool.{eqb-true}
use Rattle.std.proofs.lemmas.Bool.Decides.{nat_tests}
use Rattle.trace_model.specs.declared.traces.event.Event.{Event}
use Rattle.trace_model.specs.declared.messages.session.Request.{Request}
use Rattle.trace_model.specs.declared.messages.session.Request.TheVariants.{Offer, Ask, Answer, Status, Batch}
use Rattle.trace_model.specs.declared.messages.session.Fault.{Fault}
use Rattle.trace_model.specs.declared.messages.session.Fault.TheVariants.{BadKind, BadLength}
use Rattle.trace_model.specs.Protocol.Frames.{body, frame, BeginsNoFrame, IsRequest, Reads, batch_fault, cut_fault, fields_fault, header_fault, is_batch_length, is_kind, is_length_of, length_of}
use Rattle.trace_model.specs.Protocol.FormerFrames.{BeginsNoFormer, FormerlyReads, FormerTextsKeep, IsFormer, IsNotForBatch, former_fault_at, former_header_fault, is_former_kind}
use Rattle.trace_model.proofs.Protocol.Readings.{one_reading}
use Rattle.trace_model.proofs.Protocol.Written.{batch_size}

is_request : (request : Request) → IsFormer request → IsRequest request
is_request (Offer e) h = h
is_request (Ask bound) h = h
is_request (Answer question) h = h
is_request (Status question) h = h
is_request (Batch events) h = absurd h

-- a batch was an unknown kind
batch_was_fault : (events : List Event) (rest : List ℕ) → IsRequest (Batch events) →
    (former_header_fault (frame (Batch events) ++ rest) ≡ Some BadKind) × (slice_get (frame (Batch events) ++ rest) 2 ≡ Some 10)
unfolding former_header_fault frame
batch_was_fault events rest h =
    let n = length events in
    let positive : eqb (2 + 9 * n) 0 ≡ false = grind (arith, nat_tests) in
    let some : eqb (from_be_bytes w16 (to_be_bytes w16 (length (body (Batch events))))) 0 ≡ false = ap (λ (k : ℕ). eqb k 0) (batch_size events h) ∙ positive in
    (ap (λ (b : Bool). cond b (Some BadLength) (Some BadKind)) some, refl)

begins_none : (text : List ℕ) (ended : Bool) (fault : Option Fault) → BeginsNoFormer text → fault ≡ former_fault_at text ended → IsNotForBatch text fault → BeginsNoFrame text
begins_none text ended fault none is other (Offer e) rest h t = none (Offer e) rest h t
begins_none text ended fault none is other (Ask bound) rest h t = none (Ask bound) rest h t
begins_none text ended fault none is other (Answer question) rest h t = none (Answer question) rest h t
begins_none text ended fault none is other (Status question) rest h t = none (Status question) rest h t
begins_none text ended fault none is other (Batch events) rest h t =
    let was = batch_was_fault events rest h in
    other (is ∙ ap (λ (f : Option Fault). option_or f (cut_fault text ended)) (ap former_header_fault t ∙ was.0)) (ap (λ (x : List ℕ). slice_get x 2) t ∙ was.1)

-- the tests of a header of another kind are the same in both protocols
other_tests : (kind len : ℕ) (fields : List ℕ) → eqb kind 10 ≡ false →
    cond (eqb len 0) (Some BadLength) (cond (not (is_former_kind kind)) (Some BadKind) (cond (not (eqb len (length_of kind))) (Some BadLength) None))
    ≡ cond (eqb len 0) (Some BadLength) (cond (not (is_kind kind)) (Some BadKind) (cond (not (is_length_of kind len)) (Some BadLength) (fields_fault kind len fields)))
other_tests kind len fields other =
    let kinds : is_former_kind kind ≡ is_kind kind = grind (arith, nat_tests) in
    let lengths : eqb len (length_of kind) ≡ is_length_of kind len = ap (λ (b : Bool). cond b (is_batch_length len) (eqb len (length_of kind))) (sym other) in
    let sound : None ≡ fields_fault kind len fields = ap (λ (b : Bool). cond b (batch_fault (len / 9) fields) None) (sym other) in
    λ i. cond (eqb len 0) (Some BadLength) (cond (not (kinds i)) (Some BadKind) (cond (not (lengths i)) (Some BadLength) (sound i)))

same_header : (text : List ℕ) (ended : Bool) → IsNotForBatch text (former_fault_at text ended) → former_header_fault text ≡ header_fault text
unfolding former_header_fault header_fault
same_header [] ended other = refl
same_header (high ∷ []) ended other = refl
same_header (high ∷ low ∷ []) ended other = refl
same_header (high ∷ low ∷ kind ∷ fields) ended other = by (eqb kind 10) refl
  where
    len : ℕ
    len = from_be_bytes w16 (high ∷ low ∷ [])

    was : ℕ → Bool → Option Fault
    was k empty = cond empty (Some BadLength) (cond (not (is_former_kind k)) (Some BadKind) (cond (not (eqb len (length_of k))) (Some BadLength) None))

    now : ℕ → Bool → Option Fault
    now k empty = cond empty (Some BadLength) (cond (not (is_kind k)) (Some BadKind) (cond (not (is_length_of k len)) (Some BadLength) (fields_fault k len fields)))

    batch : (empty : Bool) → eqb len 0 ≡ empty → kind ≡ 10 → was kind empty ≡ now kind empty
    batch true is ten = refl
    batch false is ten =
        let bad : was kind (eqb len 0) ≡ Some BadKind = ap (was kind) is ∙ ap (λ (k : ℕ). was k false) ten in
        absurd (other (ap (λ (f : Option Fault). option_or f (cut_fault (high ∷ low ∷ kind ∷ fields) ended)) bad) (ap Some ten))

    by : (b : Bool) → eqb kind 10 ≡ b → was kind (eqb len 0) ≡ now kind (eqb len 0)
    by true is = batch (eqb len 0) refl (eqb-true kind 10 is)
    by false is = other_tests kind len fields is

reads : (text : List ℕ) (ended : Bool) (requests : List Request) (fault : Option Fault) → FormerlyReads text ended requests fault → Reads text ended requests fault
reads text ended [] fault (none, is, other) = (
  begins_none text ended fault none is other,
  is ∙ ap (λ (f : Option Fault). option_or f (cut_fault text ended)) (same_header text ended (subst (IsNotForBatch text) is other)),
)
reads text ended (request ∷ requests) fault (h, (rest, whole, more)) = (is_request request h, (rest, whole, reads rest ended requests fault more))

pub former_texts_keep : FormerTextsKeep
former_texts_keep text ended fits requests fault h = (one_reading text ended fits).1 requests fault (reads text ended requests fault h)
