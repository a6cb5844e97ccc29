-- What one input does to its session and to the machine.
use Rattle.std.proofs.Common.{◌≡◌, ℕ, Bool, true, false, cond, eqb, ◌||◌, List, [], ◌∷◌, ◌++◌, length, drop, Option, Some, None, refl, sym, ap, subst, ◌∙◌, append_assoc, arith}
use Rattle.std.specs.Option.{is_some}
use Rattle.std.specs.Global.{Vec}
use Rattle.std.proofs.lemmas.List.{append-nil, drop_at, drop_all}
use Rattle.trace_model.specs.declared.messages.session.Request.{Request}
use Rattle.trace_model.specs.declared.messages.session.Fault.{Fault}
use Rattle.trace_model.specs.Protocol.Frames.{requests_in, fault_in}
use Rattle.trace_model.specs.Protocol.Machine.{State}
use Rattle.event_frames.specs.Reader.{FrameReaderView, HasRead, IsFed}
use Rattle.event_frames.proofs.Wholes.{returned_whole, returned_always, leaves, fed_nothing, feeds}
use Rattle.sequencer.specs.declared.input.Input.{Input}
use Rattle.sequencer.specs.declared.input.Input.TheVariants.{Piece, End}
use Rattle.sequencer.specs.declared.playing.PlayedSession.{PlayedSession}
use Rattle.sequencer.specs.Sessions.{session_of, sent_text, has_ended, requests_of, fault_of, fresh, actions, frames_to, fault_reply, final_state}
use Rattle.sequencer.specs.Drains.{Drains, IsReadAt, IsAnswered}
use Rattle.sequencer.specs.Called.{state_called, answer_to}
use Rattle.sequencer.proofs.Sent.{added, ends, same_session, text_more, text_ended, ended_more, state_own, own_more}

-- the input belongs to the session
abbrev Own : ℕ → Input → Type 0
Own s input = session_of input ≡ Some s

-- ---- an open session

-- a reader that was fed the input and not yet asked for requests
pub record IsHanded (s : ℕ) (input : Input) (past : List Input) (v : FrameReaderView) : Type 0 where
  pub read : HasRead (sent_text s (past ++ input ∷ [])) (requests_of s past) v
  pub fault_free : v.returned ≡ None
  pub ended : v.ended ≡ has_ended s (past ++ input ∷ [])

no_fault_sent : (s : ℕ) (past : List Input) (session : PlayedSession) → IsReadAt s past session → session.reader.returned ≡ None → fault_reply (fault_of s past) ≡ []
no_fault_sent s past session r e = ap fault_reply (sym r.returned ∙ e)

taken_open : (s : ℕ) (start : State) (past : List Input) (input : Input) (old : PlayedSession) (v : FrameReaderView) (book next : State) (new : PlayedSession) → Own s input → IsAnswered s start past book old → old.reader.returned ≡ None → IsHanded s input past v → Drains book v old.sent.items next new.reader new.sent.items → IsAnswered s start (past ++ input ∷ []) next new
taken_open s start past input old v book next new own a fault_free h d =
    let more = past ++ input ∷ [] in
    let given = requests_of s past in
    let final = final_state start past in
    let before = frames_to s start (actions past) in
    let l = leaves (sent_text s more) given v v.ended h.read h.fault_free in
    let fresh_is : fresh s past input ≡ requests_in v.rest = ap (drop (length given)) l.requests ∙ drop_at given (requests_in v.rest) (length given) refl in
    let fault_is : fault_of s more ≡ fault_in v.rest v.ended = ap (λ (x : Bool). fault_in (sent_text s more) x) (sym h.ended) ∙ l.fault in
    let sent_before : old.sent.items ≡ before = a.served.sent ∙ (ap (λ (x : List ℕ). before ++ x) (no_fault_sent s past old a.served.read fault_free) ∙ append-nil before) in
    let answered : answer_to book (requests_in v.rest) ≡ answer_to final (fresh s past input) = ap (λ (x : State). answer_to x (requests_in v.rest)) a.state ∙ ap (answer_to final) (sym fresh_is) in
    record {
      served = record {
        read = record {
          read = d.whole (sent_text s more) given h.read;
          ended = λ _. d.ended ∙ h.ended;
          not_ended = λ e. d.ended ∙ (h.ended ∙ e);
          returned = d.returned ∙ sym fault_is;
        };
        sent =
            d.out ∙ (ap (λ (x : List ℕ). x ++ (answer_to book (requests_in v.rest) ++ fault_reply (fault_in v.rest v.ended))) sent_before
            ∙ (ap (λ (x : List ℕ). before ++ (x ++ fault_reply (fault_in v.rest v.ended))) answered
            ∙ (ap (λ (x : Option Fault). before ++ (answer_to final (fresh s past input) ++ fault_reply x)) (sym fault_is)
            ∙ (sym (append_assoc before (answer_to final (fresh s past input)) (fault_reply (fault_of s more)))
            ∙ ap (λ (x : List ℕ). x ++ fault_reply (fault_of s more)) (sym (own_more s start past input own))))));
      };
      state = d.state ∙ (ap (λ (x : State). state_called x (requests_in v.rest)) a.state ∙ (ap (state_called final) (sym fresh_is) ∙ sym (state_own s start past input own)));
    }

-- ---- a closed session

-- no request becomes whole, and the fault is the same
taken_same : (s : ℕ) (start : State) (past : List Input) (input : Input) (session : PlayedSession) (book : State) → Own s input → requests_of s (past ++ input ∷ []) ≡ requests_of s past → fault_of s (past ++ input ∷ []) ≡ fault_of s past → IsReadAt s (past ++ input ∷ []) session → IsAnswered s start past book session → IsAnswered s start (past ++ input ∷ []) book session
taken_same s start past input session book own q f r a =
    let more = past ++ input ∷ [] in
    let final = final_state start past in
    let before = frames_to s start (actions past) in
    let nothing : fresh s past input ≡ [] = ap (drop (length (requests_of s past))) q ∙ drop_all (length (requests_of s past)) (requests_of s past) (omega arith) in
    record {
      served = record {
        read = r;
        sent =
            a.served.sent ∙ (ap (λ (x : Option Fault). before ++ fault_reply x) (sym f)
            ∙ ap (λ (x : List ℕ). x ++ fault_reply (fault_of s more)) (sym (append-nil before) ∙ (ap (λ (x : List Request). before ++ answer_to final x) (sym nothing) ∙ sym (own_more s start past input own))));
      };
      state = a.state ∙ (ap (state_called final) (sym nothing) ∙ sym (state_own s start past input own));
    }

or_true : (a b : Bool) → a ≡ true → (a || b) ≡ true
or_true true b e = refl
or_true false b e = absurd cc

closed_ended : (s : ℕ) (start : State) (past : List Input) (input : Input) (session : PlayedSession) (book : State) → Own s input → has_ended s past ≡ true → IsAnswered s start past book session → IsAnswered s start (past ++ input ∷ []) book session
closed_ended s start past input session book own e a =
    let more = past ++ input ∷ [] in
    let r = a.served.read in
    let text = text_ended s past input e in
    let still : has_ended s more ≡ true = ended_more s past input ∙ or_true (has_ended s past) (ends s input) e in
    let fault_is : fault_of s more ≡ fault_of s past = ap (λ (x : List ℕ). fault_in x (has_ended s more)) text ∙ ap (λ (x : Bool). fault_in (sent_text s past) x) (still ∙ sym e) in
    taken_same s start past input session book own (ap requests_in text) fault_is (record {
      read = subst (λ (x : List ℕ). HasRead x (requests_in x) session.reader) (sym text) r.read;
      ended = λ u. r.ended u ∙ (e ∙ sym still);
      not_ended = λ f. let t : true ≡ false = sym still ∙ f in absurd cc;
      returned = r.returned ∙ sym fault_is;
    }) a

closed_returned : (s : ℕ) (start : State) (past : List Input) (input : Input) (session : PlayedSession) (book : State) (fault : Fault) → Own s input → has_ended s past ≡ false → session.reader.returned ≡ Some fault → IsAnswered s start past book session → IsAnswered s start (past ++ input ∷ []) book session
closed_returned s start past input session book fault own e t a =
    let more = past ++ input ∷ [] in
    let r = a.served.read in
    let n = r.not_ended e in
    let fed = feeds session.reader (added s input) session.reader n (fed_nothing session.reader (added s input) fault t) (sent_text s past) (requests_of s past) r.read in
    let read : HasRead (sent_text s more) (requests_of s past) session.reader = subst (λ (x : List ℕ). HasRead x (requests_of s past) session.reader) (sym (text_more s past input e)) fed in
    let same : requests_of s past ≡ requests_of s more = returned_whole (sent_text s more) (requests_of s past) session.reader fault read t in
    let fault_now : fault_of s more ≡ Some fault = returned_always (sent_text s more) (requests_of s past) session.reader fault read n t (has_ended s more) in
    let fault_is : fault_of s more ≡ fault_of s past = fault_now ∙ (sym t ∙ r.returned) in
    taken_same s start past input session book own (sym same) fault_is (record {
      read = subst (λ (x : List Request). HasRead (sent_text s more) x session.reader) same read;
      ended = λ u. let fault_and_none : ◌≡◌ {A = Option Fault} (Some fault) None = sym t ∙ u in absurd cc;
      not_ended = λ _. n;
      returned = r.returned ∙ sym fault_is;
    }) a

closed_by : (s : ℕ) (start : State) (past : List Input) (input : Input) (session : PlayedSession) (book : State) (ended : Bool) (returned : Option Fault) → Own s input → has_ended s past ≡ ended → session.reader.returned ≡ returned → (is_some session.reader.returned || session.reader.ended) ≡ true → IsAnswered s start past book session → IsAnswered s start (past ++ input ∷ []) book session
closed_by s start past input session book true returned own e t c a = closed_ended s start past input session book own e a
closed_by s start past input session book false (Some fault) own e t c a = closed_returned s start past input session book fault own e t a
closed_by s start past input session book false None own e t c a =
    let n : session.reader.ended ≡ false = a.served.read.not_ended e in
    let open_now : (is_some session.reader.returned || session.reader.ended) ≡ false = ap (λ (x : Option Fault). is_some x || session.reader.ended) t ∙ n in
    absurd cc

pub taken_closed : (s : ℕ) (start : State) (past : List Input) (input : Input) (session : PlayedSession) (book : State) → session_of input ≡ Some s → (is_some session.reader.returned || session.reader.ended) ≡ true → IsAnswered s start past book session → IsAnswered s start (past ++ input ∷ []) book session
taken_closed s start past input session book own c a = closed_by s start past input session book (has_ended s past) session.reader.returned own refl refl c a

-- ---- what an open session is handed

record IsOpen (v : FrameReaderView) : Type 0 where
  fault_free : v.returned ≡ None
  not_ended : v.ended ≡ false

is_open : (v : FrameReaderView) → (is_some v.returned || v.ended) ≡ false → IsOpen v
is_open v e = by_cases v.returned v.ended refl refl e
  where
    by_cases : (returned : Option Fault) (ended : Bool) → v.returned ≡ returned → v.ended ≡ ended → (is_some returned || ended) ≡ false → IsOpen v
    by_cases (Some fault) ended t n e = absurd cc
    by_cases None true t n e = absurd cc
    by_cases None false t n e = record { fault_free = t; not_ended = n }

abbrev pub Feeds : List ℕ → FrameReaderView → FrameReaderView → Type 0
Feeds piece old v = (text : List ℕ) (given : List Request) → HasRead text given old → HasRead (text ++ piece) given v

handed_piece : (s : ℕ) (past : List Input) (bytes : Vec ℕ) (session : PlayedSession) (v : FrameReaderView) → IsReadAt s past session → IsOpen session.reader → IsFed session.reader bytes.items v → Feeds bytes.items session.reader v → IsHanded s (Piece s bytes) past v
handed_piece s past bytes session v r o f w =
    let n : has_ended s past ≡ false = sym (r.ended o.fault_free) ∙ o.not_ended in
    let text : sent_text s (past ++ Piece s bytes ∷ []) ≡ sent_text s past ++ bytes.items = text_more s past (Piece s bytes) n ∙ ap (λ (b : Bool). sent_text s past ++ cond b bytes.items []) (same_session s) in
    record {
      read = subst (λ (x : List ℕ). HasRead x (requests_of s past) v) (sym text) (w (sent_text s past) (requests_of s past) r.read);
      fault_free = f.0 ∙ o.fault_free;
      ended = f.1 ∙ (o.not_ended ∙ sym (ended_more s past (Piece s bytes) ∙ ap (λ (b : Bool). b || false) n));
    }

handed_end : (s : ℕ) (past : List Input) (session : PlayedSession) (v : FrameReaderView) → IsReadAt s past session → IsOpen session.reader → v ≡ record (session.reader) { ended = true } → ((text : List ℕ) (given : List Request) → HasRead text given session.reader → HasRead text given v) → IsHanded s (End s) past v
handed_end s past session v r o f w =
    let n : has_ended s past ≡ false = sym (r.ended o.fault_free) ∙ o.not_ended in
    let text : sent_text s (past ++ End s ∷ []) ≡ sent_text s past = text_more s past (End s) n ∙ append-nil (sent_text s past) in
    record {
      read = subst (λ (x : List ℕ). HasRead x (requests_of s past) v) (sym text) (w (sent_text s past) (requests_of s past) r.read);
      fault_free = ap (λ (x : FrameReaderView). x.returned) f ∙ o.fault_free;
      ended = ap (λ (x : FrameReaderView). x.ended) f ∙ sym (ended_more s past (End s) ∙ (ap (λ (b : Bool). b || eqb s s) n ∙ same_session s));
    }

-- ---- an input of an open session

pub piece_taken : (s : ℕ) (start : State) (past : List Input) (piece : List ℕ) (bytes : Vec ℕ) (old : PlayedSession) (v : FrameReaderView) (book next : State) (new : PlayedSession) → bytes.items ≡ piece → (is_some old.reader.returned || old.reader.ended) ≡ false → IsFed old.reader piece v → Feeds piece old.reader v → Drains book v old.sent.items next new.reader new.sent.items → IsAnswered s start past book old → IsAnswered s start (past ++ Piece s bytes ∷ []) next new
piece_taken s start past piece bytes old v book next new same c f w d a =
    let o = is_open old.reader c in
    let fed : IsFed old.reader bytes.items v = subst (λ (x : List ℕ). IsFed old.reader x v) (sym same) f in
    let feeds_it : Feeds bytes.items old.reader v = subst (λ (x : List ℕ). Feeds x old.reader v) (sym same) w in
    taken_open s start past (Piece s bytes) old v book next new refl a o.fault_free (handed_piece s past bytes old v a.served.read o fed feeds_it) d

pub end_taken : (s : ℕ) (start : State) (past : List Input) (old : PlayedSession) (v : FrameReaderView) (book next : State) (new : PlayedSession) → (is_some old.reader.returned || old.reader.ended) ≡ false → v ≡ record (old.reader) { ended = true } → ((text : List ℕ) (given : List Request) → HasRead text given old.reader → HasRead text given v) → Drains book v old.sent.items next new.reader new.sent.items → IsAnswered s start past book old → IsAnswered s start (past ++ End s ∷ []) next new
end_taken s start past old v book next new c f w d a =
    let o = is_open old.reader c in
    taken_open s start past (End s) old v book next new refl a o.fault_free (handed_end s past old v a.served.read o f w) d
