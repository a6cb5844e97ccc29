-- The invariant of the loop that answers a session.
use Rattle.std.proofs.Common.{◌≡◌, ℕ, Bool, List, [], ◌∷◌, ◌++◌, Option, Some, None, Ok, Err, sym, ap, subst, ◌∙◌, append_assoc}
use Rattle.std.proofs.lemmas.List.{append-nil}
use Rattle.trace_model.specs.declared.messages.session.Request.{Request}
use Rattle.trace_model.specs.declared.messages.session.Reply.{Reply}
use Rattle.trace_model.specs.declared.messages.session.Reply.TheVariants.{Fault as FaultReply}
use Rattle.trace_model.specs.declared.messages.session.Fault.{Fault}
use Rattle.trace_model.specs.Protocol.Frames.{requests_in, fault_in, fault_at}
use Rattle.trace_model.specs.Protocol.Replies.{reply_frame}
use Rattle.trace_model.proofs.Protocol.Readings.{frame_turn}
use Rattle.event_frames.specs.Reader.{FrameReaderView, HasRead, TakesRequest, AwaitsMore, TellsFault, Tells}
use Rattle.trace_model.specs.Protocol.Machine.{State, step}
use Rattle.sequencer.specs.Printing.{report_printer}
use Rattle.sequencer.specs.Sessions.{fault_reply}
use Rattle.sequencer.specs.Called.{state_called, answer_to}
use Rattle.sequencer.specs.Drains.{Drains}

-- the answered and the remaining requests are all requests
pub record IsDrained (book : State) (reader : FrameReaderView) (sent : List ℕ) (now : State) (left : FrameReaderView) (out : List ℕ) : Type 0 where
  pub fault_free : left.returned ≡ None
  pub ended : left.ended ≡ reader.ended
  pub state : state_called now (requests_in left.rest) ≡ state_called book (requests_in reader.rest)
  pub answers : out ++ answer_to now (requests_in left.rest) ≡ sent ++ answer_to book (requests_in reader.rest)
  pub fault : fault_in left.rest left.ended ≡ fault_in reader.rest reader.ended
  pub whole : (text : List ℕ) (given : List Request) → HasRead text given reader → (now_given : List Request) × HasRead text now_given left

pub goes_on : (book : State) (reader : FrameReaderView) (sent : List ℕ) (now : State) (left : FrameReaderView) (out : List ℕ) (request : Request) (after : FrameReaderView) (next : State) (reply : Reply) (longer : List ℕ) → IsDrained book reader sent now left out → TakesRequest left request after → ((text : List ℕ) (given : List Request) → HasRead text given left → HasRead text (given ++ request ∷ []) after) → step report_printer now request ≡ (reply, next) → longer ≡ out ++ reply_frame reply → IsDrained book reader sent next after longer
goes_on book reader sent now left out request after next reply longer d t w s l =
    let turn = frame_turn request after.rest t.fits in
    let requests_are : requests_in left.rest ≡ request ∷ requests_in after.rest = ap requests_in t.leading ∙ turn.requests in
    let next_is : next ≡ (step report_printer now request).1 = sym (ap (λ (p : Reply × State). p.1) s) in
    let reply_is : reply ≡ (step report_printer now request).0 = sym (ap (λ (p : Reply × State). p.0) s) in
    let fault_is : fault_in left.rest left.ended ≡ fault_in after.rest left.ended = ap (λ (x : List ℕ). fault_in x left.ended) t.leading ∙ ap (λ (x : List ℕ). fault_at x left.ended) turn.after in
    record {
      fault_free = t.same.0;
      ended = t.same.1 ∙ d.ended;
      state = ap (λ (x : State). state_called x (requests_in after.rest)) next_is ∙ (ap (state_called now) (sym requests_are) ∙ d.state);
      answers =
          ap (λ (x : List ℕ). x ++ answer_to next (requests_in after.rest)) l
          ∙ (append_assoc out (reply_frame reply) (answer_to next (requests_in after.rest))
          ∙ (ap (λ (p : Reply × State). out ++ (reply_frame p.0 ++ answer_to p.1 (requests_in after.rest))) (sym s)
          ∙ (ap (λ (x : List Request). out ++ answer_to now x) (sym requests_are) ∙ d.answers)));
      fault = ap (λ (b : Bool). fault_in after.rest b) t.same.1 ∙ (sym fault_is ∙ d.fault);
      whole = λ text given h. let k = d.whole text given h in (k.0 ++ request ∷ [], w text k.0 k.1);
    }

-- no request is left, and there is no fault
pub stops : (book : State) (reader : FrameReaderView) (sent : List ℕ) (now : State) (left : FrameReaderView) (out : List ℕ) (after : FrameReaderView) → IsDrained book reader sent now left out → AwaitsMore left after → ((text : List ℕ) (given : List Request) → HasRead text given left → Tells text given left.ended (Ok None) after) → Drains book reader sent now after out
stops book reader sent now left out after d a w =
    let no_fault : fault_in reader.rest reader.ended ≡ None = sym d.fault ∙ a.fault in
    record {
      state = ap (state_called now) (sym a.requests) ∙ d.state;
      out = sym (append-nil out) ∙ (ap (λ (x : List Request). out ++ answer_to now x) (sym a.requests) ∙ (d.answers ∙ (ap (λ (x : List ℕ). sent ++ x) (sym (append-nil (answer_to book (requests_in reader.rest)))) ∙ ap (λ (f : Option Fault). sent ++ (answer_to book (requests_in reader.rest) ++ fault_reply f)) (sym no_fault))));
      returned = a.same.1 ∙ sym no_fault;
      ended = a.same.2 ∙ d.ended;
      whole = λ text given h. let k = d.whole text given h in let t = w text k.0 k.1 in subst (λ (g : List Request). HasRead text g after) t.0 t.2;
    }

-- there is a fault
pub fails : (book : State) (reader : FrameReaderView) (sent : List ℕ) (now : State) (left : FrameReaderView) (out : List ℕ) (fault : Fault) (after : FrameReaderView) (longer : List ℕ) → IsDrained book reader sent now left out → TellsFault left fault after → ((text : List ℕ) (given : List Request) → HasRead text given left → Tells text given left.ended (Err fault) after) → longer ≡ out ++ reply_frame (FaultReply fault) → Drains book reader sent now after longer
fails book reader sent now left out fault after longer d a w l =
    let s = a.stands d.fault_free in
    let a_fault : fault_in reader.rest reader.ended ≡ Some fault = sym d.fault ∙ s.1 in
    let all_answered : out ≡ sent ++ answer_to book (requests_in reader.rest) = sym (append-nil out) ∙ (ap (λ (x : List Request). out ++ answer_to now x) (sym s.0) ∙ d.answers) in
    record {
      state = ap (state_called now) (sym s.0) ∙ d.state;
      out = l ∙ (ap (λ (x : List ℕ). x ++ reply_frame (FaultReply fault)) all_answered ∙ (append_assoc sent (answer_to book (requests_in reader.rest)) (reply_frame (FaultReply fault)) ∙ ap (λ (f : Option Fault). sent ++ (answer_to book (requests_in reader.rest) ++ fault_reply f)) (sym a_fault)));
      returned = a.returned ∙ sym a_fault;
      ended = a.same ∙ d.ended;
      whole = λ text given h. let k = d.whole text given h in let t = w text k.0 k.1 in subst (λ (g : List Request). HasRead text g after) t.0 t.2;
    }
