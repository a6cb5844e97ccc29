-- The invariant of the loop that answers the requests of a reader.
use Rattle.std.proofs.Common.{◌≡◌, ℕ, ◌<◌, Bool, List, [], ◌∷◌, ◌++◌, length, take, drop, Option, Some, None, Ok, Err, refl, sym, ap, subst, ◌∙◌, append_assoc, arith, length-append}
use Rattle.std.specs.Io.KnownBytes.{Appends}
use Rattle.std.proofs.lemmas.List.{append-nil, take-append-drop, map-append}
use Rattle.std.proofs.lemmas.List.Concat.{flat_map-append}
use Rattle.trace_model.specs.declared.messages.session.Request.{Request}
use Rattle.trace_model.specs.declared.messages.session.Reply.{Reply}
use Rattle.trace_model.specs.declared.messages.session.Reply.TheVariants.{Fault as FaultReply}
use Rattle.trace_model.specs.declared.messages.session.Fault.{Fault}
use Rattle.trace_model.specs.Protocol.Frames.{frame, requests_in, fault_in, fault_at}
use Rattle.trace_model.specs.Protocol.Replies.{reply_frame}
use Rattle.trace_model.proofs.Protocol.Readings.{frame_turn}
use Rattle.event_frames.specs.Reader.{FrameReaderView, HasRead, TakesRequest, AwaitsMore, TellsFault, Tells}
use Rattle.sessions.specs.Serving.{between, Call, Chain, requests_called, frames_of, owed_fault, AnswersRequests, BreaksOff}
use Rattle.sequencer.specs.Sessions.{fault_reply}
use Rattle.sessions.proofs.Puts.{put_none, put_then}

pub chain_push : {C : Type 0} (steps : C → Request → Reply → C → Type 0) (old mid new : C) (calls : List Call) (request : Request) (reply : Reply) → Chain steps old calls mid → steps mid request reply new → Chain steps old (calls ++ (request, reply) ∷ []) new
chain_push steps old mid new [] request reply c s = (new, (subst (λ m. steps m request reply new) c s, refl))
chain_push steps old mid new (call ∷ calls) request reply c s = (c.0, (c.1.0, chain_push steps c.0 mid new calls request reply c.1.1 s))

frames_push : (calls : List Call) (request : Request) (reply : Reply) → frames_of (calls ++ (request, reply) ∷ []) ≡ frames_of calls ++ reply_frame reply
frames_push calls request reply = flat_map-append (λ (c : Call). reply_frame c.1) calls ((request, reply) ∷ []) ∙ ap (λ (x : List ℕ). frames_of calls ++ x) (append-nil (reply_frame reply))

called_push : (calls : List Call) (request : Request) (reply : Reply) (more : List Request) → requests_called (calls ++ (request, reply) ∷ []) ++ more ≡ requests_called calls ++ (request ∷ more)
called_push calls request reply more = ap (λ (x : List Request). x ++ more) (map-append (λ (c : Call). c.0) calls ((request, reply) ∷ [])) ∙ append_assoc (requests_called calls) (request ∷ []) more

-- the called and the remaining requests are all requests, and the called ones are answered
pub record IsAnswering {C : Type 0} (steps : C → Request → Reply → C → Type 0) (calls : C) (reader : FrameReaderView) (written : Option (List ℕ)) (failures : ℕ) (now : C) (left : FrameReaderView) (out : Option (List ℕ)) (counted : ℕ) : Type 0 where
  pub fresh : List Call
  pub chain : Chain steps calls fresh now
  pub called : requests_called fresh ++ requests_in left.rest ≡ requests_in reader.rest
  pub put : Appends written out (frames_of fresh)
  pub same : counted ≡ failures
  pub fault_free : left.returned ≡ None
  pub ended : left.ended ≡ reader.ended
  pub fault : fault_in left.rest left.ended ≡ fault_in reader.rest reader.ended
  pub read : (text : List ℕ) (given : List Request) → HasRead text given reader → (now_given : List Request) × HasRead text now_given left

pub begins : {C : Type 0} (steps : C → Request → Reply → C → Type 0) (calls : C) (reader : FrameReaderView) (written : Option (List ℕ)) (failures : ℕ) → reader.returned ≡ None → IsAnswering steps calls reader written failures calls reader written failures
begins steps calls reader written failures e = record { fresh = []; chain = refl; called = refl; put = put_none written; same = refl; fault_free = e; ended = refl; fault = refl; read = λ text given h. (given, h) }

-- the first remaining request, and the rest
record IsNext (left : FrameReaderView) (request : Request) (after : FrameReaderView) : Type 0 where
  requests : requests_in left.rest ≡ request ∷ requests_in after.rest
  fault : fault_in left.rest left.ended ≡ fault_in after.rest left.ended

is_next : (left : FrameReaderView) (request : Request) (after : FrameReaderView) → TakesRequest left request after → IsNext left request after
is_next left request after t =
    let turn = frame_turn request after.rest t.fits in
    record {
      requests = ap requests_in t.leading ∙ turn.requests;
      fault = ap (λ (x : List ℕ). fault_in x left.ended) t.leading ∙ ap (λ (x : List ℕ). fault_at x left.ended) turn.after;
    }

pub answered_one : {C : Type 0} (steps : C → Request → Reply → C → Type 0) (calls : C) (reader : FrameReaderView) (written : Option (List ℕ)) (failures : ℕ) (now : C) (left : FrameReaderView) (out : Option (List ℕ)) (counted : ℕ) (request : Request) (after : FrameReaderView) (reply : Reply) (next : C) (longer : Option (List ℕ)) (counted' : ℕ) → IsAnswering steps calls reader written failures now left out counted → TakesRequest left request after → ((text : List ℕ) (given : List Request) → HasRead text given left → HasRead text (given ++ request ∷ []) after) → steps now request reply next → Appends out longer (reply_frame reply) → counted' ≡ counted → IsAnswering steps calls reader written failures next after longer counted'
answered_one steps calls reader written failures now left out counted request after reply next longer counted' d t w s p e =
    let n = is_next left request after t in
    record {
      fresh = d.fresh ++ (request, reply) ∷ [];
      chain = chain_push steps calls now next d.fresh request reply d.chain s;
      called = called_push d.fresh request reply (requests_in after.rest) ∙ (ap (λ (x : List Request). requests_called d.fresh ++ x) (sym n.requests) ∙ d.called);
      put = subst (λ (x : List ℕ). Appends written longer x) (sym (frames_push d.fresh request reply)) (put_then written out longer (frames_of d.fresh) (reply_frame reply) d.put p);
      same = e ∙ d.same;
      fault_free = t.same.0;
      ended = t.same.1 ∙ d.ended;
      fault = ap (λ (b : Bool). fault_in after.rest b) t.same.1 ∙ (sym n.fault ∙ d.fault);
      read = λ text given h. let k = d.read text given h in (k.0 ++ request ∷ [], w text k.0 k.1);
    }

-- a reply that was not written whole
pub broken_reply : {C : Type 0} (steps : C → Request → Reply → C → Type 0) (calls : C) (reader : FrameReaderView) (written : Option (List ℕ)) (failures : ℕ) (now : C) (left : FrameReaderView) (out : Option (List ℕ)) (counted : ℕ) (request : Request) (after : FrameReaderView) (reply : Reply) (next : C) (longer : Option (List ℕ)) (n : ℕ) → IsAnswering steps calls reader written failures now left out counted → TakesRequest left request after → steps now request reply next → Appends out longer (take n (reply_frame reply)) → BreaksOff steps (between calls reader written) next longer
broken_reply steps calls reader written failures now left out counted request after reply next longer n d t s p =
    let m = is_next left request after t in
    let owed = owed_fault (requests_in after.rest) (fault_in reader.rest reader.ended) in
    record {
      fresh = d.fresh ++ (request, reply) ∷ [];
      chain = chain_push steps calls now next d.fresh request reply d.chain s;
      more = requests_in after.rest;
      called = called_push d.fresh request reply (requests_in after.rest) ∙ (ap (λ (x : List Request). requests_called d.fresh ++ x) (sym m.requests) ∙ d.called);
      out = frames_of d.fresh ++ take n (reply_frame reply);
      begun = record {
        whole = d.fresh;
        last = Some (request, reply);
        called = refl;
        part = take n (reply_frame reply);
        rest = drop n (reply_frame reply) ++ owed;
        written = refl;
        goes_on = sym (append_assoc (take n (reply_frame reply)) (drop n (reply_frame reply)) owed) ∙ ap (λ (x : List ℕ). x ++ owed) (take-append-drop n (reply_frame reply) ∙ sym (append-nil (reply_frame reply)));
      };
      put = put_then written out longer (frames_of d.fresh) (take n (reply_frame reply)) d.put p;
    }

pub answered_all : {C : Type 0} (steps : C → Request → Reply → C → Type 0) (calls : C) (reader : FrameReaderView) (written : Option (List ℕ)) (failures : ℕ) (now : C) (left : FrameReaderView) (out : Option (List ℕ)) (counted : ℕ) (after : FrameReaderView) → IsAnswering steps calls reader written failures now left out counted → AwaitsMore left after → ((text : List ℕ) (given : List Request) → HasRead text given left → Tells text given left.ended (Ok None) after) → AnswersRequests steps (between calls reader written) (between now after out) None
answered_all steps calls reader written failures now left out counted after d a w =
    record {
      fresh = d.fresh;
      chain = d.chain;
      called = sym (append-nil (requests_called d.fresh)) ∙ (ap (λ (x : List Request). requests_called d.fresh ++ x) (sym a.requests) ∙ d.called);
      stands = sym d.fault ∙ a.fault;
      put = subst (λ (x : List ℕ). Appends written out x) (sym (append-nil (frames_of d.fresh))) d.put;
      returned = a.same.1;
      ended = a.same.2 ∙ d.ended;
      read = λ text given h. let k = d.read text given h in let t = w text k.0 k.1 in subst (λ (g : List Request). HasRead text g after) t.0 t.2;
    }

-- a fault that was written whole
pub answered_fault : {C : Type 0} (steps : C → Request → Reply → C → Type 0) (calls : C) (reader : FrameReaderView) (written : Option (List ℕ)) (failures : ℕ) (now : C) (left : FrameReaderView) (out : Option (List ℕ)) (counted : ℕ) (fault : Fault) (after : FrameReaderView) (longer : Option (List ℕ)) → IsAnswering steps calls reader written failures now left out counted → TellsFault left fault after → ((text : List ℕ) (given : List Request) → HasRead text given left → Tells text given left.ended (Err fault) after) → Appends out longer (reply_frame (FaultReply fault)) → AnswersRequests steps (between calls reader written) (between now after longer) (Some fault)
answered_fault steps calls reader written failures now left out counted fault after longer d a w p =
    let s = a.stands d.fault_free in
    record {
      fresh = d.fresh;
      chain = d.chain;
      called = sym (append-nil (requests_called d.fresh)) ∙ (ap (λ (x : List Request). requests_called d.fresh ++ x) (sym s.0) ∙ d.called);
      stands = sym d.fault ∙ s.1;
      put = put_then written out longer (frames_of d.fresh) (reply_frame (FaultReply fault)) d.put p;
      returned = a.returned;
      ended = a.same ∙ d.ended;
      read = λ text given h. let k = d.read text given h in let t = w text k.0 k.1 in subst (λ (g : List Request). HasRead text g after) t.0 t.2;
    }

-- a fault that was not written whole
pub broken_fault : {C : Type 0} (steps : C → Request → Reply → C → Type 0) (calls : C) (reader : FrameReaderView) (written : Option (List ℕ)) (failures : ℕ) (now : C) (left : FrameReaderView) (out : Option (List ℕ)) (counted : ℕ) (fault : Fault) (after : FrameReaderView) (longer : Option (List ℕ)) (n : ℕ) → IsAnswering steps calls reader written failures now left out counted → TellsFault left fault after → Appends out longer (take n (reply_frame (FaultReply fault))) → BreaksOff steps (between calls reader written) now longer
broken_fault steps calls reader written failures now left out counted fault after longer n d a p =
    let s = a.stands d.fault_free in
    let f = reply_frame (FaultReply fault) in
    let stands : fault_in reader.rest reader.ended ≡ Some fault = sym d.fault ∙ s.1 in
    record {
      fresh = d.fresh;
      chain = d.chain;
      more = [];
      called = ap (λ (x : List Request). requests_called d.fresh ++ x) (sym s.0) ∙ d.called;
      out = frames_of d.fresh ++ take n f;
      begun = record {
        whole = d.fresh;
        last = None;
        called = sym (append-nil d.fresh);
        part = take n f;
        rest = drop n f;
        written = refl;
        goes_on = take-append-drop n f ∙ ap fault_reply (sym stands);
      };
      put = put_then written out longer (frames_of d.fresh) (take n f) d.put p;
    }

-- a request frame is not empty
pub frame_positive : (text : List ℕ) (request : Request) (rest : List ℕ) → text ≡ frame request ++ rest → length rest < length text
unfolding frame
frame_positive text request rest e = subst (λ (t : List ℕ). length rest < length t) (sym e) (omega (arith, length-append (frame request) rest))
