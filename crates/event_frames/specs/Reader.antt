-- The value of a frame reader, and what its calls do.
use Rattle.std.specs.Prelude.{◌≡◌, ℕ, ◌<◌, Bool, List, [], ◌∷◌, ◌++◌, length, Option, Some, None, Result, Ok, Err, IsSome}
use Rattle.std.specs.List.{flat_map, AllByRecursion}
use Rattle.trace_model.specs.declared.messages.session.Request.{Request}
use Rattle.trace_model.specs.declared.messages.session.Fault.{Fault}
use Rattle.trace_model.specs.Protocol.Frames.{frame, IsRequest, requests_in, fault_in}

-- The value of a reader: the unread bytes, whether the input has ended, the fault that was
-- returned, and the length and capacity of the buffer.
pub record FrameReaderView : Type 0 where
  pub rest : List ℕ
  pub ended : Bool
  pub returned : Option Fault
  pub buffered : ℕ
  pub capacity : ℕ

-- The new reader is the old one with a piece added. After a fault the piece is dropped.
abbrev pub IsFed : FrameReaderView → List ℕ → FrameReaderView → Type 0
IsFed old piece new = (new.returned ≡ old.returned) × (new.ended ≡ old.ended)
    × (old.returned ≡ None → new.rest ≡ old.rest ++ piece)

-- The call removes the frame of this request from the front of the unread bytes.
pub record TakesRequest (old : FrameReaderView) (request : Request)
    (new : FrameReaderView) : Type 0 where
  pub fits : IsRequest request
  pub leading : old.rest ≡ frame request ++ new.rest
  pub fault_free : old.returned ≡ None
  pub same : (new.returned ≡ None) × (new.ended ≡ old.ended)

-- The unread bytes have no whole frame and no fault.
pub record AwaitsMore (old new : FrameReaderView) : Type 0 where
  pub requests : requests_in old.rest ≡ []
  pub fault : fault_in old.rest old.ended ≡ None
  pub fault_free : old.returned ≡ None
  pub same : (new.rest ≡ old.rest) × (new.returned ≡ None) × (new.ended ≡ old.ended)
  pub few : (length old.rest < 580) × (new.buffered ≡ length old.rest)

-- The call returns the fault: the one that was returned before, or the one at the front of the
-- unread bytes.
pub record TellsFault (old : FrameReaderView) (fault : Fault) (new : FrameReaderView) : Type 0 where
  pub stands : old.returned ≡ None → (requests_in old.rest ≡ [])
      × (fault_in old.rest old.ended ≡ Some fault)
  pub again : IsSome old.returned → old.returned ≡ Some fault
  pub returned : new.returned ≡ Some fault
  pub same : new.ended ≡ old.ended
  pub keeps_nothing : new.buffered ≡ 0

-- What a call of `next` returns and leaves.
abbrev pub Answers : FrameReaderView → Result (Option Request) Fault → FrameReaderView → Type 0
Answers old (Err fault) new = TellsFault old fault new
Answers old (Ok None) new = AwaitsMore old new
Answers old (Ok (Some request)) new = TakesRequest old request new

-- ---- facts of the whole text

-- The reader has this rest of the text, or has returned its fault.
pub record FollowsText (rest : List ℕ) (v : FrameReaderView) : Type 0 where
  pub fault_free : v.returned ≡ None → v.rest ≡ rest
  pub returned : (fault : Fault) → v.returned ≡ Some fault → (requests_in rest ≡ [])
      × (fault_in rest v.ended ≡ Some fault)

-- The reader was fed this text, in any pieces, and has returned these requests.
pub record HasRead (text : List ℕ) (given : List Request) (v : FrameReaderView) : Type 0 where
  pub each : AllByRecursion IsRequest given
  pub rest : List ℕ
  pub whole : text ≡ flat_map frame given ++ rest
  pub follows : FollowsText rest v

-- What a call of `next` returns, as a fact of the whole text.
abbrev pub Tells : List ℕ → List Request → Bool → Result (Option Request) Fault → FrameReaderView →
    Type 0
Tells text given ended (Ok (Some request)) new = HasRead text (given ++ request ∷ []) new
Tells text given ended (Ok None) new = (given ≡ requests_in text) × (fault_in text ended ≡ None)
    × HasRead text given new
Tells text given ended (Err fault) new = (given ≡ requests_in text)
    × (fault_in text ended ≡ Some fault) × HasRead text given new
