-- Request frames: their grammar, and the reading of a text of bytes from left to right.
use Rattle.std.specs.Prelude.{◌≡◌, ℕ, zero, suc, ◌+◌, ◌-◌, ◌/◌, ◌%◌, ◌^◌, ◌<◌, Bool, ◌&&◌, not, List, [], ◌∷◌, ◌++◌, length, take, drop, slice_index, Option, Some, None, Result, Ok, Err, nat_lt, nat_le, ◌==◌, if◌then◌else◌}
use Rattle.std.specs.Option.{option_or}
use Rattle.std.specs.List.{flat_map, AllByRecursion}
use Rattle.std.specs.Int.{w16, w32, from_be_bytes, to_be_bytes}
use Rattle.trace_model.specs.declared.traces.event.Event.{Event}
use Rattle.trace_model.specs.declared.traces.event.Op.{Op}
use Rattle.trace_model.specs.declared.traces.event.Op.TheVariants.{Fork, Join, Acquire, Release, Read, Write}
use Rattle.trace_model.specs.declared.messages.session.Request.{Request}
use Rattle.trace_model.specs.declared.messages.session.Request.TheVariants.{Offer, Ask, Answer, Status, Batch}
use Rattle.trace_model.specs.declared.messages.session.Fault.{Fault}
use Rattle.trace_model.specs.declared.messages.session.Fault.TheVariants.{BadKind, BadLength, Truncated, BadBatch}
use Rattle.trace_model.specs.Protocol.Batches.{IsBatch}

-- ---- what a frame is

-- The kind byte of an operation.
abbrev pub kind_of : Op → ℕ
kind_of (Fork child) = 1
kind_of (Join child) = 2
kind_of (Acquire lock) = 3
kind_of (Release lock) = 4
kind_of (Read variable) = 5
kind_of (Write variable) = 6

-- The object of an operation: the thread, lock or variable that it names.
abbrev pub object_of : Op → ℕ
object_of (Fork child) = child
object_of (Join child) = child
object_of (Acquire lock) = lock
object_of (Release lock) = lock
object_of (Read variable) = variable
object_of (Write variable) = variable

-- The nine bytes of an event: kind, thread, object.
abbrev pub event_bytes : Event → List ℕ
event_bytes e = kind_of e.op ∷ to_be_bytes w32 e.thread ++ to_be_bytes w32 (object_of e.op)

-- The body of a request frame.
abbrev pub body : Request → List ℕ
body (Offer e) = event_bytes e
body (Ask bound) = 7 ∷ bound ∷ []
body (Answer question) = 8 ∷ to_be_bytes w32 question
body (Status question) = 9 ∷ to_be_bytes w32 question
body (Batch events) = 10 ∷ length events ∷ flat_map event_bytes events

-- The frame of a request: the length of its body in two bytes, and the body.
unfoldable pub frame : Request → List ℕ
frame request = to_be_bytes w16 (length (body request)) ++ body request

-- The numbers of the event fit in 32 bits.
abbrev pub FitsWords : Event → Type 0
FitsWords e = (e.thread < 2 ^ 32) × (object_of e.op < 2 ^ 32)

-- The fields of the request are in range.
abbrev pub IsRequest : Request → Type 0
IsRequest (Offer e) = FitsWords e
IsRequest (Ask bound) = bound < 2 ^ 8
IsRequest (Answer question) = question < 2 ^ 32
IsRequest (Status question) = question < 2 ^ 32
IsRequest (Batch events) = IsBatch events × AllByRecursion FitsWords events

-- ---- faults

-- `Err` of the fault if there is one, else `Ok` of the value.
abbrev pub ok_unless : {A : Type 0} → Option Fault → A → Result A Fault
ok_unless (Some fault) x = Err fault
ok_unless None x = Ok x

-- The byte is the kind of some request.
abbrev pub is_kind : ℕ → Bool
is_kind kind = nat_lt 0 kind && nat_le kind 10

-- The length of a body of this known kind, which is not a batch.
abbrev pub length_of : ℕ → ℕ
length_of kind = if nat_le kind 6 then 9 else (if kind == 7 then 2 else 5)

-- The length is that of a batch of 1 to 64 events.
abbrev pub is_batch_length : ℕ → Bool
is_batch_length len = nat_le 11 len && nat_le len 578 && (len % 9 == 2)

-- The length is one that a body of this known kind can have.
abbrev pub is_length_of : ℕ → ℕ → Bool
is_length_of kind len = if kind == 10 then is_batch_length len else len == length_of kind

-- The byte is the kind of an event.
abbrev pub is_event_kind : ℕ → Bool
is_event_kind kind = nat_lt 0 kind && nat_le kind 6

-- The fault of n events of nine bytes each, in the bytes that are present.
abbrev pub cells_fault : ℕ → List ℕ → Option Fault
cells_fault zero cells = None
cells_fault (suc n) [] = None
cells_fault (suc n) (kind ∷ cells) = if is_event_kind kind then cells_fault n (drop 8 cells)
    else Some BadBatch

-- The fault of a batch of n events, in the bytes that are present.
abbrev pub batch_fault : ℕ → List ℕ → Option Fault
batch_fault n [] = None
batch_fault n (count ∷ cells) = if count == n then cells_fault n cells else Some BadBatch

-- The fault in the bytes after the kind byte, for a body of this length.
abbrev pub fields_fault : ℕ → ℕ → List ℕ → Option Fault
fields_fault kind len fields = if kind == 10 then batch_fault (len / 9) fields else None

-- The fault that the bytes show at the start of a frame, in any continuation.
unfoldable pub header_fault : List ℕ → Option Fault
header_fault [] = None
header_fault (high ∷ []) = None
header_fault (high ∷ low ∷ []) = if from_be_bytes w16 (high ∷ low ∷ []) == 0 then Some BadLength
    else None
header_fault (high ∷ low ∷ kind ∷ fields) =
    let len = from_be_bytes w16 (high ∷ low ∷ []) in
    if len == 0 then Some BadLength else (
    if not (is_kind kind) then Some BadKind else (
    if not (is_length_of kind len) then Some BadLength else fields_fault kind len fields))

-- The fault of bytes that are not a whole frame, if the text has ended.
abbrev pub cut_fault : List ℕ → Bool → Option Fault
cut_fault [] ended = None
cut_fault (byte ∷ text) ended = if ended then Some Truncated else None

-- The fault at the start of a text without a whole frame, or none.
abbrev pub fault_at : List ℕ → Bool → Option Fault
fault_at text ended = option_or (header_fault text) (cut_fault text ended)

-- ---- the grammar

-- The text does not begin with a whole frame of a valid request.
abbrev pub BeginsNoFrame : List ℕ → Type 0
BeginsNoFrame text = (request : Request) (rest : List ℕ) → IsRequest request →
    text ≡ frame request ++ rest → ⊥

-- The text, ended or not, consists of frames of these requests, followed by this fault or none.
abbrev pub Reads : List ℕ → Bool → List Request → Option Fault → Type 0
Reads text ended [] fault = BeginsNoFrame text × (fault ≡ fault_at text ended)
Reads text ended (request ∷ requests) fault =
    IsRequest request × ((rest : List ℕ) × (text ≡ frame request ++ rest)
    × Reads rest ended requests fault)

-- ---- reading from left to right

-- The operation with this kind byte and object.
abbrev pub op_of : ℕ → ℕ → Op
op_of kind object =
    if kind == 1 then Fork object else (
    if kind == 2 then Join object else (
    if kind == 3 then Acquire object else (
    if kind == 4 then Release object else (
    if kind == 5 then Read object else Write object))))

-- The event in the first nine bytes.
abbrev pub event_of : List ℕ → Event
event_of cells =
    record {
      thread = from_be_bytes w32 (take 4 (drop 1 cells));
      op = op_of (slice_index cells 0) (from_be_bytes w32 (take 4 (drop 5 cells)));
    }

-- The n events in the first 9 * n bytes.
abbrev pub events_in : ℕ → List ℕ → List Event
events_in zero cells = []
events_in (suc n) cells = event_of cells ∷ events_in n (drop 9 cells)

-- The request of a known kind with these fields.
unfoldable pub request_of : ℕ → List ℕ → Request
request_of kind fields =
    if nat_le kind 6 then Offer
    (record {
      thread = from_be_bytes w32 (take 4 fields);
      op = op_of kind (from_be_bytes w32 (take 4 (drop 4 fields)));
    }) else (
    if kind == 7 then Ask (slice_index fields 0) else (
    if kind == 8 then Answer (from_be_bytes w32 (take 4 fields)) else (
    if kind == 9 then Status (from_be_bytes w32 (take 4 fields))
    else Batch (events_in (slice_index fields 0) (drop 1 fields)))))

-- The first request and the bytes after it, if the bytes, which show no fault, begin with a whole
-- frame.
unfoldable pub whole_frame : List ℕ → Option (Request × List ℕ)
whole_frame [] = None
whole_frame (high ∷ []) = None
whole_frame (high ∷ low ∷ []) = None
whole_frame (high ∷ low ∷ kind ∷ fields) =
    let len = from_be_bytes w16 (high ∷ low ∷ []) in
    if nat_lt (length fields + 1) len then None
    else Some (request_of kind fields, drop (len - 1) fields)

-- The start of a text: a fault, no whole frame, or a request and the bytes after it.
unfoldable pub leading_of : List ℕ → Result (Option (Request × List ℕ)) Fault
leading_of text = ok_unless (header_fault text) (whole_frame text)

-- The requests of a text and the bytes after them, if its start is given.
abbrev pub split_then : (List ℕ → List Request × List ℕ) → List ℕ →
    Result (Option (Request × List ℕ)) Fault → List Request × List ℕ
split_then others text (Err fault) = ([], text)
split_then others text (Ok None) = ([], text)
split_then others text (Ok (Some found)) = (found.0 ∷ (others found.1).0, (others found.1).1)

-- The first n requests of a text, or fewer if it has fewer, and the bytes after them.
abbrev pub split_up_to : ℕ → List ℕ → List Request × List ℕ
split_up_to zero text = ([], text)
split_up_to (suc n) text = split_then (split_up_to n) text (leading_of text)

-- The requests of a text.
unfoldable pub requests_in : List ℕ → List Request
requests_in text = (split_up_to (length text) text).0

-- The bytes after the requests of a text.
unfoldable pub rest_in : List ℕ → List ℕ
rest_in text = (split_up_to (length text) text).1

-- The fault after the requests of a text, or none.
abbrev pub fault_in : List ℕ → Bool → Option Fault
fault_in text ended = fault_at (rest_in text) ended

-- ---- the law

-- Each number of the list is a byte.
abbrev pub IsBytes : List ℕ → Type 0
IsBytes bytes = (i : ℕ) → slice_index bytes i < 256

-- Each text has exactly one reading: its requests and its fault.
abbrev pub OneReading : Type 0
OneReading =
    (text : List ℕ) (ended : Bool) → IsBytes text →
    Reads text ended (requests_in text) (fault_in text ended)
    × ((requests : List Request) (fault : Option Fault) → Reads text ended requests fault →
    (requests ≡ requests_in text) × (fault ≡ fault_in text ended))
