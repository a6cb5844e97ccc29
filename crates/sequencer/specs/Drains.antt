-- Answering all requests of a reader, and the invariant of a run after some inputs (this project's
-- profile).
use Rattle.std.specs.Prelude.{◌≡◌, ℕ, ◌<◌, length, slice_index_or, false, List, [], ◌++◌, None}
use Rattle.trace_model.specs.declared.messages.session.Request.{Request}
use Rattle.trace_model.specs.Protocol.Frames.{requests_in, fault_in}
use Rattle.event_frames.specs.Reader.{FrameReaderView, HasRead}
use Rattle.trace_model.specs.Theory.Rows.{AreRows}
use Rattle.trace_model.specs.Protocol.Machine.{State}
use Rattle.trace_model.specs.Protocol.Bounds.{StateFits}
use Rattle.sequencer.specs.declared.input.Input.{Input}
use Rattle.sequencer.specs.declared.playing.PlayedSession.{PlayedSession}
use Rattle.sequencer.specs.declared.playing.Run.{Run}
use Rattle.sequencer.specs.Called.{state_called, answer_to}
use Rattle.sequencer.specs.Exact.{IsAlwaysExact}
use Rattle.sequencer.specs.Sessions.{actions, fault_reply, sent_text, has_ended, requests_of, fault_of, deliveries_of, final_state, sent_to}

pub record Drains (book : State) (reader : FrameReaderView) (sent : List ℕ) (book' : State)
    (reader' : FrameReaderView) (sent' : List ℕ) : Type 0 where
  pub state : book' ≡ state_called book (requests_in reader.rest)
  pub out : sent' ≡ sent ++
      (answer_to book (requests_in reader.rest) ++ fault_reply (fault_in reader.rest reader.ended))
  pub returned : reader'.returned ≡ fault_in reader.rest reader.ended
  pub ended : reader'.ended ≡ reader.ended
  pub whole : (text : List ℕ) (given : List Request) → HasRead text given reader →
      HasRead text (requests_in text) reader'

-- the session's reader has read all of the session's bytes so far, and reported its fault if there
-- is one
pub record IsReadAt (s : ℕ) (past : List Input) (session : PlayedSession) : Type 0 where
  pub read : HasRead (sent_text s past) (requests_of s past) session.reader
  pub ended : session.reader.returned ≡ None → session.reader.ended ≡ has_ended s past
  pub not_ended : has_ended s past ≡ false → session.reader.ended ≡ false
  pub returned : session.reader.returned ≡ fault_of s past

-- in addition the session was sent exactly the bytes of `sent_to`
pub record IsServed (s : ℕ) (start : State) (past : List Input)
    (session : PlayedSession) : Type 0 where
  pub read : IsReadAt s past session
  pub sent : session.sent.items ≡ sent_to s start past

-- a session and the machine after the inputs so far
pub record IsAnswered (s : ℕ) (start : State) (past : List Input) (book : State)
    (session : PlayedSession) : Type 0 where
  pub served : IsServed s start past session
  pub state : book ≡ final_state start past

-- a session without inputs
pub record IsNew (session : PlayedSession) : Type 0 where
  pub read : HasRead [] [] session.reader
  pub not_ended : session.reader.ended ≡ false
  pub fault_free : session.reader.returned ≡ None
  pub unsent : session.sent.items ≡ []

abbrev pub AreNew : List PlayedSession → Type 0
AreNew sessions = (s : ℕ) (d : PlayedSession) → s < length sessions →
    IsNew (slice_index_or sessions s d)

-- the invariant of a run after the inputs so far
pub record IsPlayed (start : State) (past : List Input) (run : Run) : Type 0 where
  pub count : length run.sessions.items ≡ 64
  pub each : (s : ℕ) (d : PlayedSession) → s < 64 →
      IsServed s start past (slice_index_or run.sessions.items s d)
  pub deliveries : run.deliveries.items ≡ deliveries_of start past
  pub state : run.book.state ≡ final_state start past
  pub exact : StateFits AreRows start → IsAlwaysExact start (actions past)
