-- What a call of `next` returns and leaves, from the start of the unread bytes.
use Rattle.std.proofs.Common.{◌≡◌, ℕ, ◌+◌, ◌-◌, ◌<◌, ◌≤◌, Bool, true, false, List, [], ◌∷◌, ◌++◌, length, take, drop, Option, Some, None, Ok, Err, refl, ap, subst, ◌∙◌, arith}
use Rattle.std.specs.Prelude.{IsSome}
use Rattle.std.specs.List.{copy_within}
use Rattle.std.proofs.lemmas.List.{drop-drop, take_all, length-drop}
use Rattle.std.proofs.lemmas.List.Edits.{take-paste}
use Rattle.trace_model.specs.declared.messages.session.Request.{Request}
use Rattle.trace_model.specs.declared.messages.session.Fault.{Fault}
use Rattle.trace_model.specs.declared.messages.session.Fault.TheVariants.{Truncated}
use Rattle.trace_model.specs.Protocol.Frames.{frame, IsRequest, leading_of, cut_fault}
use Rattle.trace_model.proofs.Lists.{take-drop_rest}
use Rattle.trace_model.proofs.Protocol.Readings.{fault_stands, partial_stands, partial_few}
use Rattle.event_frames.specs.Reader.{FrameReaderView, TakesRequest, AwaitsMore, TellsFault}

-- the bytes from an index on, as a slice
pub rest_at : (slice bytes : List ℕ) (start : ℕ) → slice ≡ bytes → take (length slice - start) (drop start slice) ≡ drop start bytes
rest_at slice bytes start e = subst (λ (b : List ℕ). take (length slice - start) (drop start slice) ≡ drop start b) e (take-drop_rest slice start)

-- the bytes from an index on, after they were moved to the front and the rest was truncated
pub moved_rest : (bytes moved cut : List ℕ) (start end : ℕ) → start ≤ end → end ≡ length bytes → moved ≡ copy_within bytes start end 0 → cut ≡ take (end - start) moved → cut ≡ drop start bytes
moved_rest bytes moved cut start end within all moves cuts =
    let long = length-drop start bytes in
    let front : end - start ≡ 0 + (end - start) = omega arith in
    cuts
    ∙ ap (take (end - start)) moves
    ∙ ap (λ n. take n (copy_within bytes start end 0)) front
    ∙ take-paste bytes 0 (drop start bytes) (end - start) (omega arith) (omega (arith, all, long))
    ∙ take_all (end - start) (drop start bytes) (omega (arith, all, long))

abbrev pub reading : List ℕ → Bool → Option Fault → ℕ → ℕ → FrameReaderView
reading rest ended returned buffered capacity = record { rest = rest; ended = ended; returned = returned; buffered = buffered; capacity = capacity }

is_none : (returned : Option Fault) → returned ≡ None → IsSome returned → {A : Type 0} → A
is_none returned e s {A} = let t : IsSome {T = Fault} None = subst (λ (o : Option Fault). IsSome o) e s in absurd cc

-- a reader that has unread bytes has returned no fault
pub no_fault : {n : ℕ} (returned : Option Fault) → (IsSome returned → n ≡ 0) → 0 < n → returned ≡ None
no_fault None nothing some = refl
no_fault (Some fault) nothing some = absurd (omega (arith, some, nothing refl))

pub tells_header : (rest : List ℕ) (ended : Bool) (returned : Option Fault) (buffered capacity : ℕ) (fault : Fault) (old new : FrameReaderView) → reading rest ended returned buffered capacity ≡ old → returned ≡ None → leading_of rest ≡ Err fault → new ≡ reading [] old.ended (Some fault) 0 old.capacity → TellsFault old fault new
tells_header rest ended returned buffered capacity fault old new e fault_free f n =
    subst (λ (o : FrameReaderView). new ≡ reading [] o.ended (Some fault) 0 o.capacity → TellsFault o fault new) e (λ m.
    let s = fault_stands rest ended fault f in
    record {
      stands = λ _. (s.requests, s.stands);
      again = λ i. is_none returned fault_free i;
      returned = ap (λ (r : FrameReaderView). r.returned) m;
      same = ap (λ (r : FrameReaderView). r.ended) m;
      keeps_nothing = ap (λ (r : FrameReaderView). r.buffered) m;
    }) n

cut_some : (text : List ℕ) (ended : Bool) → ended ≡ true → 0 < length text → cut_fault text ended ≡ Some Truncated
cut_some [] ended e l = absurd (omega arith)
cut_some (x ∷ text) ended e l = rw e refl

pub cut_none : (text : List ℕ) (ended : Bool) → ended ≡ false → cut_fault text ended ≡ None
cut_none [] ended e = refl
cut_none (x ∷ text) ended e = rw e refl

pub cut_nil : (text : List ℕ) (ended : Bool) → length text ≡ 0 → cut_fault text ended ≡ None
cut_nil [] ended e = refl
cut_nil (x ∷ text) ended e = absurd (omega arith)

pub tells_cut : (rest : List ℕ) (ended : Bool) (returned : Option Fault) (buffered capacity : ℕ) (old new : FrameReaderView) → reading rest ended returned buffered capacity ≡ old → returned ≡ None → leading_of rest ≡ Ok None → ended ≡ true → 0 < length rest → new ≡ reading [] old.ended (Some Truncated) 0 old.capacity → TellsFault old Truncated new
tells_cut rest ended returned buffered capacity old new e fault_free f at_end some n =
    subst (λ (o : FrameReaderView). new ≡ reading [] o.ended (Some Truncated) 0 o.capacity → TellsFault o Truncated new) e (λ m.
    let s = partial_stands rest ended f in
    record {
      stands = λ _. (s.requests, s.fault ∙ cut_some rest ended at_end some);
      again = λ i. is_none returned fault_free i;
      returned = ap (λ (r : FrameReaderView). r.returned) m;
      same = ap (λ (r : FrameReaderView). r.ended) m;
      keeps_nothing = ap (λ (r : FrameReaderView). r.buffered) m;
    }) n

pub awaits : (rest : List ℕ) (ended : Bool) (returned : Option Fault) (buffered capacity : ℕ) (old new : FrameReaderView) → reading rest ended returned buffered capacity ≡ old → returned ≡ None → leading_of rest ≡ Ok None → cut_fault rest ended ≡ None → new ≡ record old { buffered = length old.rest } → AwaitsMore old new
awaits rest ended returned buffered capacity old new e fault_free f uncut n =
    subst (λ (o : FrameReaderView). new ≡ record o { buffered = length o.rest } → AwaitsMore o new) e (λ m.
    let s = partial_stands rest ended f in
    record {
      requests = s.requests;
      fault = s.fault ∙ uncut;
      fault_free = fault_free;
      same = (ap (λ (r : FrameReaderView). r.rest) m, ap (λ (r : FrameReaderView). r.returned) m ∙ fault_free, ap (λ (r : FrameReaderView). r.ended) m);
      few = (partial_few rest f, ap (λ (r : FrameReaderView). r.buffered) m);
    }) n

pub takes : (bytes : List ℕ) (start len : ℕ) (ended : Bool) (returned : Option Fault) (buffered capacity : ℕ) (request : Request) (old : FrameReaderView) → reading (drop start bytes) ended returned buffered capacity ≡ old → returned ≡ None → IsRequest request → drop start bytes ≡ frame request ++ drop len (drop start bytes) → TakesRequest old request (reading (drop (start + len) bytes) ended returned buffered capacity)
takes bytes start len ended returned buffered capacity request old e fault_free fits parts =
    subst (λ (o : FrameReaderView). TakesRequest o request (reading (drop (start + len) bytes) ended returned buffered capacity)) e (
    record {
      fits = fits;
      leading = parts ∙ ap (λ (r : List ℕ). frame request ++ r) (drop-drop len start bytes);
      fault_free = fault_free;
      same = (fault_free, refl);
    })
