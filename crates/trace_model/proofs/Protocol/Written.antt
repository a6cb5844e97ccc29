-- A frame that was written is read as its request.
use Rattle.std.proofs.Common.{◌≡◌, ℕ, suc, ◌+◌, ◌-◌, ◌*◌, ◌/◌, ◌^◌, ◌<◌, ◌≤◌, not, Bool, true, false, cond, eqb, ltb, leb, List, [], ◌∷◌, ◌++◌, length, take, drop, Option, Some, None, Ok, refl, ap, ◌∙◌, length-append, arith}
use Rattle.std.specs.Int.{w16, w32, from_be_bytes, to_be_bytes}
use Rattle.std.specs.List.{flat_map}
use Rattle.std.proofs.lemmas.Bool.{le-ltb}
use Rattle.std.proofs.lemmas.Bool.Decides.{nat_tests}
use Rattle.std.proofs.lemmas.Nat.{from_be_bytes-to_be_bytes_2}
use Rattle.trace_model.specs.declared.traces.event.Event.{Event}
use Rattle.trace_model.specs.declared.traces.event.Op.{Op}
use Rattle.trace_model.specs.declared.traces.event.Op.TheVariants.{Fork, Join, Acquire, Release, Read, Write}
use Rattle.trace_model.specs.declared.messages.session.Request.{Request}
use Rattle.trace_model.specs.declared.messages.session.Request.TheVariants.{Offer, Ask, Answer, Status, Batch}
use Rattle.trace_model.specs.declared.messages.session.Fault.{Fault}
use Rattle.trace_model.specs.declared.messages.session.Fault.TheVariants.{BadLength}
use Rattle.trace_model.specs.Protocol.Frames.{kind_of, object_of, event_bytes, body, frame, IsRequest, is_batch_length, batch_fault, ok_unless, header_fault, op_of, events_in, request_of, whole_frame, leading_of}
use Rattle.trace_model.proofs.Protocol.Bytes.{word_again}
use Rattle.trace_model.proofs.Protocol.BatchFrames.{batch_length_of, batch_sound_again, cells_again, length_cells, op_again}

pub whole_again : (high low kind : ℕ) (fields : List ℕ) → from_be_bytes w16 (high ∷ low ∷ []) ≤ length fields + 1 → whole_frame (high ∷ low ∷ kind ∷ fields) ≡ Some (request_of kind fields, drop (from_be_bytes w16 (high ∷ low ∷ []) - 1) fields)
unfolding whole_frame
whole_again high low kind fields le =
    let e : ltb (length fields + 1) (from_be_bytes w16 (high ∷ low ∷ [])) ≡ false = le-ltb _ _ le in
    ap (λ (b : Bool). cond b None (Some (request_of kind fields, drop (from_be_bytes w16 (high ∷ low ∷ []) - 1) fields))) e

leading_again_by : (text : List ℕ) (found : Request × List ℕ) → header_fault text ≡ None → whole_frame text ≡ Some found → leading_of text ≡ Ok (Some found)
unfolding leading_of
leading_again_by text found h w = ap (λ (f : Option Fault). ok_unless f (whole_frame text)) h ∙ ap (λ (x : Option (Request × List ℕ)). ok_unless None x) w

event_header : (thread : ℕ) (op : Op) (rest : List ℕ) → header_fault (frame (Offer (record { thread = thread; op = op })) ++ rest) ≡ None
unfolding header_fault frame
event_header thread (Fork child) rest = refl
event_header thread (Join child) rest = refl
event_header thread (Acquire lock) rest = refl
event_header thread (Release lock) rest = refl
event_header thread (Read variable) rest = refl
event_header thread (Write variable) rest = refl

-- a request of an event, by the numbers that are read
abbrev pub offer : ℕ → ℕ → ℕ → Request
offer thread kind object = Offer (record { thread = thread; op = op_of kind object })

pub request_event : (kind : ℕ) (fields : List ℕ) → leb kind 6 ≡ true → request_of kind fields ≡ offer (from_be_bytes w32 (take 4 fields)) kind (from_be_bytes w32 (take 4 (drop 4 fields)))
unfolding request_of
request_event kind fields e = rw e refl

pub is_event_kind : (op : Op) → leb (kind_of op) 6 ≡ true
is_event_kind (Fork child) = refl
is_event_kind (Join child) = refl
is_event_kind (Acquire lock) = refl
is_event_kind (Release lock) = refl
is_event_kind (Read variable) = refl
is_event_kind (Write variable) = refl

event_again : (thread : ℕ) (op : Op) (rest : List ℕ) → thread < 2 ^ 32 → object_of op < 2 ^ 32 → request_of (kind_of op) (to_be_bytes w32 thread ++ to_be_bytes w32 (object_of op) ++ rest) ≡ Offer (record { thread = thread; op = op })
event_again thread op rest t o =
    request_event (kind_of op) (to_be_bytes w32 thread ++ to_be_bytes w32 (object_of op) ++ rest) (is_event_kind op)
    ∙ ap (λ (n : ℕ). offer n (kind_of op) (from_be_bytes w32 (to_be_bytes w32 (object_of op)))) (word_again thread t)
    ∙ ap (λ (n : ℕ). offer thread (kind_of op) n) (word_again (object_of op) o)
    ∙ ap (λ (p : Op). Offer (record { thread = thread; op = p })) (op_again op)

answer_again : (question : ℕ) (rest : List ℕ) → question < 2 ^ 32 → request_of 8 (to_be_bytes w32 question ++ rest) ≡ Answer question
unfolding request_of
answer_again question rest h = ap Answer (word_again question h)

status_again : (question : ℕ) (rest : List ℕ) → question < 2 ^ 32 → request_of 9 (to_be_bytes w32 question ++ rest) ≡ Status question
unfolding request_of
status_again question rest h = ap Status (word_again question h)

ask_again : (bound : ℕ) (rest : List ℕ) → request_of 7 (bound ∷ rest) ≡ Ask bound
unfolding request_of
ask_again bound rest = refl

-- the length of a batch's body, as it is read
pub batch_size : (events : List Event) → IsRequest (Batch events) → from_be_bytes w16 (to_be_bytes w16 (length (body (Batch events)))) ≡ 2 + 9 * length events
batch_size events h =
    let size : length (body (Batch events)) ≡ 2 + 9 * length events = omega (arith, length_cells events) in
    from_be_bytes-to_be_bytes_2 (length (body (Batch events))) (omega (arith, size, h.0.1)) ∙ size

batch_header : (events : List Event) (rest : List ℕ) → IsRequest (Batch events) → header_fault (frame (Batch events) ++ rest) ≡ None
unfolding header_fault frame
batch_header events rest h =
    let size = batch_size events h in
    let len = from_be_bytes w16 (to_be_bytes w16 (length (body (Batch events)))) in
    let n = length events in
    let cells = flat_map event_bytes events ++ rest in
    let of = batch_length_of n h.0.0 h.0.1 in
    let positive : eqb (2 + 9 * n) 0 ≡ false = grind (arith, nat_tests) in
    let some : eqb len 0 ≡ false = ap (λ (k : ℕ). eqb k 0) size ∙ positive in
    let right : is_batch_length len ≡ true = ap is_batch_length size ∙ of.0 in
    let sound : batch_fault (len / 9) (n ∷ cells) ≡ None = ap (λ (k : ℕ). batch_fault (k / 9) (n ∷ cells)) size ∙ (ap (λ (k : ℕ). batch_fault k (n ∷ cells)) of.1 ∙ batch_sound_again n cells (cells_again events rest h.1).sound) in
    (λ i. cond (some i) (Some BadLength) (cond (not (right i)) (Some BadLength) (batch_fault (len / 9) (n ∷ cells)))) ∙ sound

batch_again : (n : ℕ) (cells : List ℕ) → request_of 10 (n ∷ cells) ≡ Batch (events_in n cells)
unfolding request_of
batch_again n cells = refl

header_again : (request : Request) (rest : List ℕ) → IsRequest request → header_fault (frame request ++ rest) ≡ None
unfolding header_fault frame
header_again (Offer e) rest h = event_header e.thread e.op rest
header_again (Ask bound) rest h = refl
header_again (Answer question) rest h = refl
header_again (Status question) rest h = refl
header_again (Batch events) rest h = batch_header events rest h

frame_again : (request : Request) (rest : List ℕ) → IsRequest request → whole_frame (frame request ++ rest) ≡ Some (request, rest)
unfolding frame
frame_again (Offer e) rest h =
    whole_again 0 9 (kind_of e.op) (to_be_bytes w32 e.thread ++ to_be_bytes w32 (object_of e.op) ++ rest) (omega arith)
    ∙ ap (λ (r : Request). Some (r, rest)) (event_again e.thread e.op rest h.0 h.1)
frame_again (Ask bound) rest h = whole_again 0 2 7 (bound ∷ rest) (omega arith) ∙ ap (λ (r : Request). Some (r, rest)) (ask_again bound rest)
frame_again (Answer question) rest h = whole_again 0 5 8 (to_be_bytes w32 question ++ rest) (omega arith) ∙ ap (λ (r : Request). Some (r, rest)) (answer_again question rest h)
frame_again (Status question) rest h = whole_again 0 5 9 (to_be_bytes w32 question ++ rest) (omega arith) ∙ ap (λ (r : Request). Some (r, rest)) (status_again question rest h)
frame_again (Batch events) rest h =
    let cells = flat_map event_bytes events in
    let size = batch_size events h in
    let len = from_be_bytes w16 (to_be_bytes w16 (length (body (Batch events)))) in
    let again = cells_again events rest h.1 in
    let place : len - 1 ≡ suc (9 * length events) = omega (arith, size) in
    let after : drop (len - 1) (length events ∷ cells ++ rest) ≡ rest = ap (λ (k : ℕ). drop k (length events ∷ cells ++ rest)) place ∙ again.after in
    whole_again _ _ 10 (length events ∷ cells ++ rest) (omega (arith, size, length_cells events, length-append cells rest))
    ∙ (λ i. Some ((batch_again (length events) (cells ++ rest) ∙ ap Batch again.events) i, after i))

pub leading_again : (request : Request) (rest : List ℕ) → IsRequest request → leading_of (frame request ++ rest) ≡ Ok (Some (request, rest))
leading_again request rest h = leading_again_by (frame request ++ rest) (request, rest) (header_again request rest h) (frame_again request rest h)
