-- Request frames of the protocol without batches, and the law that such texts are read as they
-- were.
use Rattle.std.specs.Prelude.{◌≡◌, ℕ, ◌==◌, Bool, ◌&&◌, not, List, [], ◌∷◌, ◌++◌, slice_get, Option, Some, None, nat_lt, nat_le, if◌then◌else◌}
use Rattle.std.specs.Option.{option_or}
use Rattle.std.specs.Int.{w16, from_be_bytes}
use Rattle.trace_model.specs.declared.messages.session.Request.{Request}
use Rattle.trace_model.specs.declared.messages.session.Request.TheVariants.{Batch}
use Rattle.trace_model.specs.declared.messages.session.Fault.{Fault}
use Rattle.trace_model.specs.declared.messages.session.Fault.TheVariants.{BadKind, BadLength}
use Rattle.trace_model.specs.Protocol.Frames.{frame, IsBytes, IsRequest, cut_fault, fault_in, length_of, requests_in}

-- The kind is one that existed before batches.
abbrev pub is_former_kind : ℕ → Bool
is_former_kind kind = nat_lt 0 kind && nat_le kind 9

-- The fault that the bytes show at the start of a frame, without batches.
unfoldable pub former_header_fault : List ℕ → Option Fault
former_header_fault [] = None
former_header_fault (high ∷ []) = None
former_header_fault (high ∷ low ∷ []) = if from_be_bytes w16 (high ∷ low ∷ []) == 0
    then Some BadLength else None
former_header_fault (high ∷ low ∷ kind ∷ fields) =
    let len = from_be_bytes w16 (high ∷ low ∷ []) in
    if len == 0 then Some BadLength else (
    if not (is_former_kind kind) then Some BadKind else (
    if not (len == length_of kind) then Some BadLength else None))

-- The fault at the start of a text without a whole frame, without batches.
abbrev pub former_fault_at : List ℕ → Bool → Option Fault
former_fault_at text ended = option_or (former_header_fault text) (cut_fault text ended)

-- The request is valid and not a batch.
abbrev pub IsFormer : Request → Type 0
IsFormer (Batch events) = ⊥
IsFormer request = IsRequest request

-- The text does not begin with a frame of a request that is not a batch.
abbrev pub BeginsNoFormer : List ℕ → Type 0
BeginsNoFormer text = (request : Request) (rest : List ℕ) → IsFormer request →
    text ≡ frame request ++ rest → ⊥

-- The fault is not an unknown kind at the kind of a batch.
abbrev pub IsNotForBatch : List ℕ → Option Fault → Type 0
IsNotForBatch text fault = fault ≡ Some BadKind → slice_get text 2 ≡ Some 10 → ⊥

-- The text, ended or not, was read as these requests and then this fault or none, and the fault was
-- not at a batch.
abbrev pub FormerlyReads : List ℕ → Bool → List Request → Option Fault → Type 0
FormerlyReads text ended [] fault = BeginsNoFormer text × (fault ≡ former_fault_at text ended)
    × IsNotForBatch text fault
FormerlyReads text ended (request ∷ requests) fault =
    IsFormer request × ((rest : List ℕ) × (text ≡ frame request ++ rest)
    × FormerlyReads rest ended requests fault)

-- A text that had no fault at a batch keeps its requests and its fault.
abbrev pub FormerTextsKeep : Type 0
FormerTextsKeep =
    (text : List ℕ) (ended : Bool) → IsBytes text →
    (requests : List Request) (fault : Option Fault) →
    FormerlyReads text ended requests fault → (requests ≡ requests_in text)
    × (fault ≡ fault_in text ended)
