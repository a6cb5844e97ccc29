-- What a session reads, calls and writes (this project's profile).
use Rattle.std.specs.Prelude.{◌≡◌, ℕ, ◌<◌, ◌≤◌, Bool, true, false, List, [], ◌∷◌, ◌++◌, length, map, Option, None, Some, Result, Ok, Err, option_to_list}
use Rattle.std.specs.List.{flat_map}
use Rattle.std.specs.Io.KnownBytes.{Consumes, Appends, IsAtEnd}
use Rattle.trace_model.specs.declared.messages.session.Request.{Request}
use Rattle.trace_model.specs.declared.messages.session.Reply.{Reply}
use Rattle.trace_model.specs.declared.messages.session.Reply.TheVariants.{Fault as FaultReply}
use Rattle.trace_model.specs.declared.messages.session.Fault.{Fault}
use Rattle.trace_model.specs.declared.messages.session.Fault.TheVariants.{BadKind, BadLength, Truncated, BadBatch}
use Rattle.trace_model.specs.Protocol.Frames.{requests_in, fault_in}
use Rattle.trace_model.specs.Protocol.Replies.{reply_frame}
use Rattle.sessions.specs.declared.serving.TheConstants.{PIECE}
use Rattle.sessions.specs.declared.serving.Ended.{Ended}
use Rattle.sessions.specs.declared.serving.Ended.TheVariants.{Input, Frame}
use Rattle.sessions.specs.declared.serving.ServeFault.{ServeFault}
use Rattle.sessions.specs.declared.serving.ServeFault.TheVariants.{Read, Write, Memory}
use Rattle.event_frames.specs.Reader.{FrameReaderView, HasRead}
use Rattle.sequencer.specs.Sessions.{fault_reply}

-- if both lists are known, the first is a prefix of the second
abbrev pub IsKnownPrefix : Option (List ℕ) → Option (List ℕ) → Type 0
IsKnownPrefix None whole = Unit {0}
IsKnownPrefix (Some front) None = ⊥
IsKnownPrefix (Some front) (Some whole) = (rest : List ℕ) × (front ++ rest ≡ whole)

-- ---- calls

-- a request and its reply
abbrev pub Call : Type 0
Call = Request × Reply

-- the calls, in order, lead from one state to the other
abbrev pub Chain : {C : Type 0} → (C → Request → Reply → C → Type 0) → C → List Call → C → Type 0
Chain steps old [] new = new ≡ old
Chain {C} steps old (call ∷ calls) new = (mid : C)
    × (steps old call.0 call.1 mid × Chain steps mid calls new)

abbrev pub requests_called : List Call → List Request
requests_called calls = map (λ (c : Call). c.0) calls

abbrev pub frames_of : List Call → List ℕ
frames_of calls = flat_map (λ (c : Call). reply_frame c.1) calls

-- the fault is to be written once no request is left
abbrev pub owed_fault : List Request → Option Fault → List ℕ
owed_fault [] fault = fault_reply fault
owed_fault (request ∷ requests) fault = []

-- ---- a whole session

-- exactly the requests of the text were called
abbrev pub CallsAll : List ℕ → List Call → Type 0
CallsAll text done = requests_called done ≡ requests_in text

-- All replies except the last are written whole. The rest of `out` is a prefix of what is to be
-- written next: the last reply, and the fault if no request is left.
pub record AreRepliesInProgress (done : List Call) (out owed : List ℕ) : Type 0 where
  pub whole : List Call
  pub last : Option Call
  pub called : done ≡ whole ++ option_to_list last
  pub part : List ℕ
  pub rest : List ℕ
  pub written : out ≡ frames_of whole ++ part
  pub goes_on : part ++ rest ≡ frames_of (option_to_list last) ++ owed

-- the text has ended only if nothing is left to read
abbrev pub EndsOnlyAt : Bool → Option (List ℕ) → Type 0
EndsOnlyAt ended left = ended ≡ true → IsAtEnd left

-- The calls and the written bytes are prefixes of what the text asks for.
pub record ServesPrefix (text : List ℕ) (left : Option (List ℕ)) (done : List Call)
    (out : List ℕ) : Type 0 where
  pub more : List Request
  pub called : requests_called done ++ more ≡ requests_in text
  pub ended : Bool
  pub at_end : EndsOnlyAt ended left
  pub begun : AreRepliesInProgress done out (owed_fault more (fault_in text ended))

-- the text has this fault: a truncated frame only at the end of the input, any other fault
-- regardless of what follows
abbrev pub StandsIn : List ℕ → Option (List ℕ) → Fault → Type 0
StandsIn text left Truncated = (fault_in text true ≡ Some Truncated) × IsAtEnd left
StandsIn text left BadKind = fault_in text false ≡ Some BadKind
StandsIn text left BadLength = fault_in text false ≡ Some BadLength
StandsIn text left BadBatch = fault_in text false ≡ Some BadBatch

-- the text before the last piece has no fault
pub record StopsAtFault (text : List ℕ) : Type 0 where
  pub before : List ℕ
  pub last : List ℕ
  pub whole : text ≡ before ++ last
  pub short : length last ≤ PIECE
  pub sound : fault_in before false ≡ None

-- how a session ends: the text that was read, the bytes left to read, the calls, and the written
-- bytes
abbrev pub EndsAs : Result Ended ServeFault → List ℕ → Option (List ℕ) → List Call → List ℕ → Type 0
EndsAs (Ok Input) text left done out = CallsAll text done × (fault_in text true ≡ None)
    × IsAtEnd left × (out ≡ frames_of done)
EndsAs (Ok (Frame fault)) text left done out = CallsAll text done × StandsIn text left fault
    × (out ≡ frames_of done ++ reply_frame (FaultReply fault))
EndsAs (Err Read) text left done out = CallsAll text done × (fault_in text false ≡ None)
    × (out ≡ frames_of done)
EndsAs (Err Write) text left done out = ServesPrefix text left done out
EndsAs (Err Memory) text left done out = ServesPrefix text left done out

-- all written bytes were sent, or a prefix of them if the session broke off
abbrev pub WentOut : Result Ended ServeFault → Option (List ℕ) → Option (List ℕ) → Type 0
WentOut (Ok ended) sent written = sent ≡ written
WentOut (Err Read) sent written = sent ≡ written
WentOut (Err Write) sent written = IsKnownPrefix sent written
WentOut (Err Memory) sent written = IsKnownPrefix sent written

-- a session at its begin or end: the bytes left to read, the written bytes, and the state of the
-- calls
pub record SessionPoint (C : Type 0) : Type 0 where
  pub left : Option (List ℕ)
  pub written : Option (List ℕ)
  pub calls : C

abbrev pub session_point : {C : Type 0} → Option (List ℕ) → Option (List ℕ) → C → SessionPoint C
session_point left written calls = record { left = left; written = written; calls = calls }

-- A text was read up to its first fault, its requests were called in order, and their replies were
-- written.
pub record ServesText {C : Type 0} (steps : C → Request → Reply → C →
    Type 0) (old new : SessionPoint C)
    (sent : Option (List ℕ)) (result : Result Ended ServeFault) : Type 0 where
  pub text : List ℕ
  pub took : Consumes old.left new.left text
  pub stops : StopsAtFault text
  pub done : List Call
  pub chain : Chain steps old.calls done new.calls
  pub out : List ℕ
  pub put : Appends old.written new.written out
  pub ends : EndsAs result text new.left done out
  pub went : WentOut result sent new.written

-- a fault of the source or the sink is reported only if its count of failures rose
abbrev pub Counts : Result Ended ServeFault → ℕ → ℕ → ℕ → ℕ → Type 0
Counts (Err Read) reads reads' writes writes' = reads < reads'
Counts (Err Write) reads reads' writes writes' = writes < writes'
Counts (Err Memory) reads reads' writes writes' = Unit {0}
Counts (Ok ended) reads reads' writes writes' = Unit {0}

-- ---- what a reader has

-- a session between two reads: the state of the calls, the frame reader, and the written bytes
pub record Between (C : Type 0) : Type 0 where
  pub calls : C
  pub reader : FrameReaderView
  pub written : Option (List ℕ)

abbrev pub between : {C : Type 0} → C → FrameReaderView → Option (List ℕ) → Between C
between calls reader written = record { calls = calls; reader = reader; written = written }

-- all whole requests of the reader were called and answered, and then its fault was reported
pub record AnswersRequests {C : Type 0} (steps : C → Request → Reply → C →
    Type 0) (old new : Between C)
    (fault : Option Fault) : Type 0 where
  pub fresh : List Call
  pub chain : Chain steps old.calls fresh new.calls
  pub called : requests_called fresh ≡ requests_in old.reader.rest
  pub stands : fault_in old.reader.rest old.reader.ended ≡ fault
  pub put : Appends old.written new.written (frames_of fresh ++ fault_reply fault)
  pub returned : new.reader.returned ≡ fault
  pub ended : new.reader.ended ≡ old.reader.ended
  pub read : (text : List ℕ) (given : List Request) → HasRead text given old.reader →
      HasRead text (requests_in text) new.reader

-- a prefix of the requests was called, and a prefix of what was to be written for them was written
pub record BreaksOff {C : Type 0} (steps : C → Request → Reply → C → Type 0) (old : Between C)
    (calls : C) (written : Option (List ℕ)) : Type 0 where
  pub fresh : List Call
  pub chain : Chain steps old.calls fresh calls
  pub more : List Request
  pub called : requests_called fresh ++ more ≡ requests_in old.reader.rest
  pub out : List ℕ
  pub begun : AreRepliesInProgress fresh out (owed_fault more
      (fault_in old.reader.rest old.reader.ended))
  pub put : Appends old.written written out

-- A write fault occurs only if the count of failures rose. A read fault does not occur here.
abbrev pub IsCountedFault : ServeFault → ℕ → ℕ → Type 0
IsCountedFault Write before after = before < after
IsCountedFault Memory before after = Unit {0}
IsCountedFault Read before after = ⊥
