-- The invariant of the loop of a session.
use Rattle.std.proofs.Common.{◌≡◌, ℕ, ◌<◌, ◌≤◌, Bool, true, false, List, [], ◌∷◌, ◌++◌, length, Option, Some, None, Result, Ok, Err, IfOk, IfErr, refl, sym, ap, subst, ◌∙◌, append_assoc}
use Rattle.std.specs.Io.KnownBytes.{Consumes, Appends, Keeps, IsAtEnd}
use Rattle.std.specs.Option.{option_to_list}
use Rattle.std.proofs.lemmas.List.{append-nil, map-append}
use Rattle.std.proofs.lemmas.List.Concat.{flat_map-append}
use Rattle.trace_model.specs.declared.messages.session.Request.{Request}
use Rattle.trace_model.specs.declared.messages.session.Reply.{Reply}
use Rattle.trace_model.specs.declared.messages.session.Fault.{Fault}
use Rattle.trace_model.specs.Protocol.Frames.{requests_in, fault_in}
use Rattle.trace_model.specs.Protocol.Replies.{reply_frame}
use Rattle.event_frames.specs.Reader.{FrameReaderView, HasRead, IsFed}
use Rattle.event_frames.proofs.Wholes.{leaves, feeds, nothing_read}
use Rattle.sessions.specs.Serving.{session_point, between, IsKnownPrefix, Call, Chain, requests_called, frames_of, owed_fault, AreRepliesInProgress, ServesPrefix, CallsAll, EndsOnlyAt, EndsAs, WentOut, ServesText, AnswersRequests, BreaksOff, Counts, IsCountedFault}
use Rattle.sequencer.specs.Sessions.{fault_reply}
use Rattle.sessions.specs.declared.serving.Ended.{Ended}
use Rattle.sessions.specs.declared.serving.Ended.TheVariants.{Input, Frame}
use Rattle.sessions.specs.declared.serving.ServeFault.{ServeFault}
use Rattle.sessions.specs.declared.serving.ServeFault.TheVariants.{Read, Write, Memory}
use Rattle.sessions.specs.declared.serving.TheConstants.{PIECE}
use Rattle.sessions.proofs.Faults.{stands_in, stops_before, stops_after}
use Rattle.sessions.proofs.Puts.{put_none, put_then, put_kept, took_none, took_then, took_kept}

chain_then : {C : Type 0} (steps : C → Request → Reply → C → Type 0) (old mid new : C) (xs ys : List Call) → Chain steps old xs mid → Chain steps mid ys new → Chain steps old (xs ++ ys) new
chain_then steps old mid new [] ys p q = subst (λ m. Chain steps m ys new) p q
chain_then steps old mid new (x ∷ xs) ys p q = (p.0, (p.1.0, chain_then steps p.0 mid new xs ys p.1.1 q))

frames_then : (done fresh : List Call) → frames_of (done ++ fresh) ≡ frames_of done ++ frames_of fresh
frames_then done fresh = flat_map-append (λ (c : Call). reply_frame c.1) done fresh

called_then : (done fresh : List Call) → requests_called (done ++ fresh) ≡ requests_called done ++ requests_called fresh
called_then done fresh = map-append (λ (c : Call). c.0) done fresh

pub not_ended_at : (left : Option (List ℕ)) (ended : Bool) → ended ≡ false → EndsOnlyAt ended left
not_ended_at left ended n e = let both : true ≡ false = sym e ∙ n in absurd cc

-- ---- faults are counted

-- the outcome of sending the last bytes, if nothing failed before
pub counted_end : (result : Result Ended ServeFault) (reads reads' writes before writes' : ℕ) → before ≡ writes → IfErr result (λ fault. (fault ≡ Write) × (before < writes')) → Counts result reads reads' writes writes'
counted_end (Ok ended) reads reads' writes before writes' same h = tt
counted_end (Err fault) reads reads' writes before writes' same h =
    subst (λ (f : ServeFault). Counts (Err f) reads reads' writes writes') (sym h.0) (subst (λ n. n < writes') same h.1)

-- the fault that broke an answer off, if nothing failed before
pub counted_broken : (fault : ServeFault) (reads reads' writes before writes' : ℕ) → before ≡ writes → IsCountedFault fault before writes' → Counts (Err fault) reads reads' writes writes'
counted_broken Read reads reads' writes before writes' same h = absurd h
counted_broken Write reads reads' writes before writes' same h = subst (λ n. n < writes') same h
counted_broken Memory reads reads' writes before writes' same h = tt

-- ---- between two reads

-- all requests read so far are answered, and there is no fault
pub record IsServing {C : Type 0} (steps : C → Request → Reply → C → Type 0) (left written : Option (List ℕ)) (calls : C) (reads writes : ℕ) (reader : FrameReaderView) (left' written' : Option (List ℕ)) (calls' : C) (reads' writes' : ℕ) : Type 0 where
  pub text : List ℕ
  pub took : Consumes left left' text
  pub done : List Call
  pub chain : Chain steps calls done calls'
  pub put : Appends written written' (frames_of done)
  pub read : HasRead text (requests_called done) reader
  pub all : CallsAll text done
  pub sound : fault_in text false ≡ None
  pub fault_free : reader.returned ≡ None
  pub not_ended : reader.ended ≡ false
  pub same_reads : reads' ≡ reads
  pub same_writes : writes' ≡ writes

pub serving_starts : {C : Type 0} (steps : C → Request → Reply → C → Type 0) (left written : Option (List ℕ)) (calls : C) (reads writes : ℕ) (reader : FrameReaderView) → HasRead [] [] reader → reader.returned ≡ None → reader.ended ≡ false → IsServing steps left written calls reads writes reader left written calls reads writes
serving_starts steps left written calls reads writes reader h t n =
    record { text = []; took = took_none left; done = []; chain = refl; put = put_none written; read = h; all = sym (nothing_read false).requests; sound = (nothing_read false).fault; fault_free = t; not_ended = n; same_reads = refl; same_writes = refl }

-- ---- what is owed

-- all calls are answered, and a prefix of what is to be written next was written
after_all : (done : List Call) (part rest owed : List ℕ) → part ++ rest ≡ owed → AreRepliesInProgress done (frames_of done ++ part) owed
after_all done part rest owed e = record { whole = done; last = None; called = sym (append-nil done); part = part; rest = rest; written = refl; goes_on = e }

-- the earlier answers precede the present ones
begun_then : (done fresh : List Call) (out owed : List ℕ) → AreRepliesInProgress fresh out owed → AreRepliesInProgress (done ++ fresh) (frames_of done ++ out) owed
begun_then done fresh out owed b = record {
  whole = done ++ b.whole;
  last = b.last;
  called = ap (λ (x : List Call). done ++ x) b.called ∙ sym (append_assoc done b.whole (option_to_list b.last));
  part = b.part;
  rest = b.rest;
  written = ap (λ (x : List ℕ). frames_of done ++ x) b.written ∙ (sym (append_assoc (frames_of done) (frames_of b.whole) b.part) ∙ ap (λ (x : List ℕ). x ++ b.part) (sym (frames_then done b.whole)));
  goes_on = b.goes_on;
}

-- ---- what the reader was handed, after what is served

pub record IsHanded (text : List ℕ) (given : List Request) (piece : List ℕ) (v : FrameReaderView) : Type 0 where
  pub read : HasRead (text ++ piece) given v
  pub fault_free : v.returned ≡ None

pub fed_handed : (text : List ℕ) (given : List Request) (piece part : List ℕ) (old v : FrameReaderView) → part ≡ piece → HasRead text given old → old.returned ≡ None → IsFed old part v → ((text : List ℕ) (given : List Request) → HasRead text given old → HasRead (text ++ part) given v) → IsHanded text given piece v
fed_handed text given piece part old v e h t f w = record { read = subst (λ (x : List ℕ). HasRead (text ++ x) given v) e (w text given h); fault_free = f.0 ∙ t }

pub end_handed : (text : List ℕ) (given : List Request) (piece : List ℕ) (old v : FrameReaderView) → piece ≡ [] → HasRead text given old → old.returned ≡ None → v ≡ record old { ended = true } → ((text : List ℕ) (given : List Request) → HasRead text given old → HasRead text given v) → IsHanded text given piece v
end_handed text given piece old v e h t n w = record { read = subst (λ (x : List ℕ). HasRead x given v) (sym (ap (λ (x : List ℕ). text ++ x) e ∙ append-nil text)) (w text given h); fault_free = ap (λ (x : FrameReaderView). x.returned) n ∙ t }

module _ {C : Type 0} (steps : C → Request → Reply → C → Type 0) (left written : Option (List ℕ)) (calls : C) (reads writes : ℕ) (reader : FrameReaderView) (left' written' : Option (List ℕ)) (calls' : C) (reads' writes' : ℕ) (s : IsServing steps left written calls reads writes reader left' written' calls' reads' writes') where
  -- the written bytes are sent
  pub sent_on : (written'' : Option (List ℕ)) (writes'' : ℕ) → Keeps written' written'' → writes'' ≡ writes' → IsServing steps left written calls reads writes reader left' written'' calls' reads' writes''
  sent_on written'' writes'' k w = record {
    text = s.text;
    took = s.took;
    done = s.done;
    chain = s.chain;
    put = put_kept written written' written'' (frames_of s.done) s.put k;
    read = s.read;
    all = s.all;
    sound = s.sound;
    fault_free = s.fault_free;
    not_ended = s.not_ended;
    same_reads = s.same_reads;
    same_writes = w ∙ s.same_writes;
  }

  pub ends_unsent : (written'' sent : Option (List ℕ)) → Keeps written' written'' → IsKnownPrefix sent written'' → ServesText steps (session_point left written calls) (session_point left' written'' calls') sent (Err Write)
  ends_unsent written'' sent k b =
      let l = leaves s.text (requests_called s.done) reader false s.read s.fault_free in
      let owed = owed_fault (requests_in reader.rest) (fault_in s.text false) in
      record {
        text = s.text;
        took = s.took;
        stops = stops_before s.text s.sound;
        done = s.done;
        chain = s.chain;
        out = frames_of s.done ++ [];
        put = subst (λ (x : List ℕ). Appends written written'' x) (sym (append-nil (frames_of s.done))) (put_kept written written' written'' (frames_of s.done) s.put k);
        ends = record { more = requests_in reader.rest; called = sym l.requests; ended = false; at_end = λ e. absurd cc; begun = after_all s.done [] owed owed refl };
        went = b;
      }

  pub ends_unread : (left'' sent : Option (List ℕ)) → Keeps left' left'' → sent ≡ written' → ServesText steps (session_point left written calls) (session_point left'' written' calls') sent (Err Read)
  ends_unread left'' sent k went = record {
    text = s.text;
    took = took_kept left left' left'' s.text s.took k;
    stops = stops_before s.text s.sound;
    done = s.done;
    chain = s.chain;
    out = frames_of s.done;
    put = s.put;
    ends = (s.all, s.sound, refl);
    went = went;
  }

  -- the session ended in the piece that it read last
  ended_in : (piece : List ℕ) (left'' written'' sent : Option (List ℕ)) (calls'' : C) (done : List Call) (out : List ℕ) (result : Result Ended ServeFault) → Consumes left' left'' piece → length piece ≤ PIECE → Chain steps calls done calls'' → Appends written written'' out → EndsAs result (s.text ++ piece) left'' done out × WentOut result sent written'' → ServesText steps (session_point left written calls) (session_point left'' written'' calls'') sent result
  ended_in piece left'' written'' sent calls'' done out result t short chain put ends = record {
    text = s.text ++ piece;
    took = took_then left left' left'' s.text piece s.took t;
    stops = stops_after s.text piece s.sound short;
    done = done;
    chain = chain;
    out = out;
    put = put;
    ends = ends.0;
    went = ends.1;
  }

  pub ends_unfed : (piece : List ℕ) (left'' sent : Option (List ℕ)) → Consumes left' left'' piece → length piece ≤ PIECE → IsKnownPrefix sent written' → ServesText steps (session_point left written calls) (session_point left'' written' calls') sent (Err Memory)
  ends_unfed piece left'' sent t short b =
      let v : FrameReaderView = record reader { rest = reader.rest ++ piece } in
      let h = feeds reader piece v s.not_ended (refl, refl, λ _. refl) s.text (requests_called s.done) s.read in
      let l = leaves (s.text ++ piece) (requests_called s.done) v false h s.fault_free in
      let owed = owed_fault (requests_in v.rest) (fault_in (s.text ++ piece) false) in
      ended_in piece left'' written' sent calls' s.done (frames_of s.done ++ []) (Err Memory) t short s.chain
      (subst (λ (x : List ℕ). Appends written written' x) (sym (append-nil (frames_of s.done))) s.put)
      (record { more = requests_in v.rest; called = sym l.requests; ended = false; at_end = λ e. absurd cc; begun = after_all s.done [] owed owed refl }, b)

  -- the earlier and the present calls
  pub record IsAnsweredBy (text : List ℕ) (ended : Bool) (fault : Option Fault) (written'' : Option (List ℕ)) (calls'' : C) : Type 0 where
    pub done : List Call
    pub chain : Chain steps calls done calls''
    pub all : CallsAll text done
    pub stands : fault_in text ended ≡ fault
    pub put : Appends written written'' (frames_of done ++ fault_reply fault)

  answered_by : (piece : List ℕ) (v : FrameReaderView) (written'' : Option (List ℕ)) (calls'' : C) (reader' : FrameReaderView) (fault : Option Fault) → IsHanded s.text (requests_called s.done) piece v → AnswersRequests steps (between calls' v written') (between calls'' reader' written'') fault → IsAnsweredBy (s.text ++ piece) v.ended fault written'' calls''
  answered_by piece v written'' calls'' reader' fault h a =
      let l = leaves (s.text ++ piece) (requests_called s.done) v v.ended h.read h.fault_free in
      record {
        done = s.done ++ a.fresh;
        chain = chain_then steps calls calls' calls'' s.done a.fresh s.chain a.chain;
        all = called_then s.done a.fresh ∙ (ap (λ (x : List Request). requests_called s.done ++ x) a.called ∙ sym l.requests);
        stands = l.fault ∙ a.stands;
        put = subst (λ (x : List ℕ). Appends written written'' x) (sym (append_assoc (frames_of s.done) (frames_of a.fresh) (fault_reply fault)) ∙ ap (λ (x : List ℕ). x ++ fault_reply fault) (sym (frames_then s.done a.fresh))) (put_then written written' written'' (frames_of s.done) (frames_of a.fresh ++ fault_reply fault) s.put a.put);
      }

  -- what remains once all requests are answered
  all_begun : (text : List ℕ) (left'' : Option (List ℕ)) (ended : Bool) (fault : Option Fault) (written'' : Option (List ℕ)) (calls'' : C) (b : IsAnsweredBy text ended fault written'' calls'') → EndsOnlyAt ended left'' → ServesPrefix text left'' b.done (frames_of b.done ++ fault_reply fault)
  all_begun text left'' ended fault written'' calls'' b at = record {
    more = [];
    called = append-nil (requests_called b.done) ∙ b.all;
    ended = ended;
    at_end = at;
    begun = after_all b.done (fault_reply fault) [] (fault_reply (fault_in text ended)) (append-nil (fault_reply fault) ∙ ap fault_reply (sym b.stands));
  }

  -- the outcome of sending the last bytes
  pub record IsConcluded (ended : Ended) (result : Result Ended ServeFault) (sent written'' written''' : Option (List ℕ)) (m n : ℕ) : Type 0 where
    pub kept : Keeps written'' written'''
    pub ok : IfOk result (λ e. (e ≡ ended) × (sent ≡ written'''))
    pub err : IfErr result (λ fault. (fault ≡ Write) × (m < n))
    pub begins : IsKnownPrefix sent written'''

  concluded : (ended : Ended) (result : Result Ended ServeFault) (sent written'' written''' : Option (List ℕ)) (m n : ℕ) (text : List ℕ) (done : List Call) (out : List ℕ) (left'' : Option (List ℕ)) → IsConcluded ended result sent written'' written''' m n → EndsAs (Ok ended) text left'' done out → ServesPrefix text left'' done out → EndsAs result text left'' done out × WentOut result sent written'''
  concluded ended (Ok e) sent written'' written''' m n text done out left'' c ends begun =
      (subst (λ (x : Ended). EndsAs (Ok x) text left'' done out) (sym c.ok.0) ends, c.ok.1)
  concluded ended (Err fault) sent written'' written''' m n text done out left'' c ends begun =
      subst (λ (x : ServeFault). EndsAs (Err x) text left'' done out × WentOut (Err x) sent written''') (sym c.err.0) (begun, c.begins)

  pub ends_fault : (piece : List ℕ) (left'' : Option (List ℕ)) (v : FrameReaderView) (calls'' : C) (reader' : FrameReaderView) (written'' : Option (List ℕ)) (answer : Option Fault) (fault : Fault) (result : Result Ended ServeFault) (sent written''' : Option (List ℕ)) (m n : ℕ) → Consumes left' left'' piece → length piece ≤ PIECE → EndsOnlyAt v.ended left'' → IsHanded s.text (requests_called s.done) piece v → AnswersRequests steps (between calls' v written') (between calls'' reader' written'') answer → answer ≡ Some fault → IsConcluded (Frame fault) result sent written'' written''' m n → ServesText steps (session_point left written calls) (session_point left'' written''' calls'') sent result
  ends_fault piece left'' v calls'' reader' written'' answer fault result sent written''' m n t short at h a e c =
      let b = answered_by piece v written'' calls'' reader' answer h a in
      let out = frames_of b.done ++ fault_reply answer in
      let done = concluded (Frame fault) result sent written'' written''' m n (s.text ++ piece) b.done out left'' c (b.all, stands_in (s.text ++ piece) left'' v.ended fault at (b.stands ∙ e), ap (λ (x : Option Fault). frames_of b.done ++ fault_reply x) e) (all_begun (s.text ++ piece) left'' v.ended answer written'' calls'' b at) in
      ended_in piece left'' written''' sent calls'' b.done out result t short b.chain (put_kept written written'' written''' out b.put c.kept) done

  pub ends_input : (piece : List ℕ) (left'' : Option (List ℕ)) (v : FrameReaderView) (calls'' : C) (reader' : FrameReaderView) (written'' : Option (List ℕ)) (answer : Option Fault) (result : Result Ended ServeFault) (sent written''' : Option (List ℕ)) (m n : ℕ) → Consumes left' left'' piece → length piece ≤ PIECE → IsAtEnd left'' → IsHanded s.text (requests_called s.done) piece v → v ≡ record reader { ended = true } → AnswersRequests steps (between calls' v written') (between calls'' reader' written'') answer → answer ≡ None → IsConcluded Input result sent written'' written''' m n → ServesText steps (session_point left written calls) (session_point left'' written''' calls'') sent result
  ends_input piece left'' v calls'' reader' written'' answer result sent written''' m n t short at h v_is a e c =
      let b = answered_by piece v written'' calls'' reader' answer h a in
      let out = frames_of b.done ++ fault_reply answer in
      let v_ended : v.ended ≡ true = ap (λ (x : FrameReaderView). x.ended) v_is in
      let no_fault : fault_in (s.text ++ piece) true ≡ None = ap (λ (x : Bool). fault_in (s.text ++ piece) x) (sym v_ended) ∙ (b.stands ∙ e) in
      let done = concluded Input result sent written'' written''' m n (s.text ++ piece) b.done out left'' c (b.all, no_fault, at, ap (λ (x : Option Fault). frames_of b.done ++ fault_reply x) e ∙ append-nil (frames_of b.done)) (all_begun (s.text ++ piece) left'' v.ended answer written'' calls'' b (λ _. at)) in
      ended_in piece left'' written''' sent calls'' b.done out result t short b.chain (put_kept written written'' written''' out b.put c.kept) done

  broken_ends : (fault : ServeFault) (m n : ℕ) (text : List ℕ) (left'' : Option (List ℕ)) (done : List Call) (out : List ℕ) (sent written'' : Option (List ℕ)) → IsCountedFault fault m n → ServesPrefix text left'' done out → IsKnownPrefix sent written'' → EndsAs (Err fault) text left'' done out × WentOut (Err fault) sent written''
  broken_ends Read m n text left'' done out sent written'' c b w = absurd c
  broken_ends Write m n text left'' done out sent written'' c b w = (b, w)
  broken_ends Memory m n text left'' done out sent written'' c b w = (b, w)

  pub ends_broken : (piece : List ℕ) (left'' : Option (List ℕ)) (v : FrameReaderView) (calls'' : C) (written'' sent : Option (List ℕ)) (fault : ServeFault) (m n : ℕ) → Consumes left' left'' piece → length piece ≤ PIECE → EndsOnlyAt v.ended left'' → IsHanded s.text (requests_called s.done) piece v → BreaksOff steps (between calls' v written') calls'' written'' → IsCountedFault fault m n → IsKnownPrefix sent written'' → ServesText steps (session_point left written calls) (session_point left'' written'' calls'') sent (Err fault)
  ends_broken piece left'' v calls'' written'' sent fault m n t short at h b c w =
      let l = leaves (s.text ++ piece) (requests_called s.done) v v.ended h.read h.fault_free in
      let begun : ServesPrefix (s.text ++ piece) left'' (s.done ++ b.fresh) (frames_of s.done ++ b.out) = record {
        more = b.more;
        called = ap (λ (x : List Request). x ++ b.more) (called_then s.done b.fresh) ∙ (append_assoc (requests_called s.done) (requests_called b.fresh) b.more ∙ (ap (λ (x : List Request). requests_called s.done ++ x) b.called ∙ sym l.requests));
        ended = v.ended;
        at_end = at;
        begun = subst (λ (x : Option Fault). AreRepliesInProgress (s.done ++ b.fresh) (frames_of s.done ++ b.out) (owed_fault b.more x)) (sym l.fault) (begun_then s.done b.fresh b.out (owed_fault b.more (fault_in v.rest v.ended)) b.begun);
      } in
      ended_in piece left'' written'' sent calls'' (s.done ++ b.fresh) (frames_of s.done ++ b.out) (Err fault) t short (chain_then steps calls calls' calls'' s.done b.fresh s.chain b.chain)
      (put_then written written' written'' (frames_of s.done) b.out s.put b.put)
      (broken_ends fault m n (s.text ++ piece) left'' (s.done ++ b.fresh) (frames_of s.done ++ b.out) sent written'' c begun w)

  pub serving_on : (piece : List ℕ) (left'' : Option (List ℕ)) (v : FrameReaderView) (calls'' : C) (reader' : FrameReaderView) (written'' : Option (List ℕ)) (answer : Option Fault) (reads'' writes'' : ℕ) → Consumes left' left'' piece → IsHanded s.text (requests_called s.done) piece v → v.ended ≡ false → AnswersRequests steps (between calls' v written') (between calls'' reader' written'') answer → answer ≡ None → reads'' ≡ reads' → writes'' ≡ writes' → IsServing steps left written calls reads writes reader' left'' written'' calls'' reads'' writes''
  serving_on piece left'' v calls'' reader' written'' answer reads'' writes'' t h n a e q w =
      let b = answered_by piece v written'' calls'' reader' answer h a in
      record {
        text = s.text ++ piece;
        took = took_then left left' left'' s.text piece s.took t;
        done = b.done;
        chain = b.chain;
        put = subst (λ (x : List ℕ). Appends written written'' x) (ap (λ (x : Option Fault). frames_of b.done ++ fault_reply x) e ∙ append-nil (frames_of b.done)) b.put;
        read = subst (λ (x : List Request). HasRead (s.text ++ piece) x reader') (sym b.all) (a.read (s.text ++ piece) (requests_called s.done) h.read);
        all = b.all;
        sound = ap (λ (x : Bool). fault_in (s.text ++ piece) x) (sym n) ∙ (b.stands ∙ e);
        fault_free = a.returned ∙ e;
        not_ended = a.ended ∙ n;
        same_reads = q ∙ s.same_reads;
        same_writes = w ∙ s.same_writes;
      }
