-- The calls of a reader, as facts of the whole text.
use Rattle.std.proofs.Common.{◌≡◌, ℕ, Bool, true, false, List, [], ◌∷◌, ◌++◌, Option, Some, None, Result, Ok, Err, refl, sym, ap, ◌∙◌, append_assoc}
use Rattle.std.specs.Option.{is_some}
use Rattle.std.specs.List.{flat_map, AllByRecursion}
use Rattle.std.proofs.lemmas.List.{append-nil}
use Rattle.std.proofs.lemmas.List.Concat.{flat_map-append}
use Rattle.trace_model.specs.declared.messages.session.Request.{Request}
use Rattle.trace_model.specs.declared.messages.session.Fault.{Fault}
use Rattle.trace_model.specs.Protocol.Frames.{frame, IsRequest, fault_at, header_fault, requests_in, rest_in, fault_in}
use Rattle.trace_model.proofs.Protocol.Texts.{frames_after, fault_stays}
use Rattle.event_frames.specs.Reader.{FrameReaderView, IsFed, TellsFault, Answers, FollowsText, HasRead, Tells}

all_push : (given : List Request) (request : Request) → AllByRecursion IsRequest given → IsRequest request → AllByRecursion IsRequest (given ++ request ∷ [])
all_push [] request h k = (k, tt)
all_push (r ∷ given) request h k = (h.0, all_push given request h.1 k)

frames_push : (given : List Request) (request : Request) (rest : List ℕ) → flat_map frame given ++ (frame request ++ rest) ≡ flat_map frame (given ++ request ∷ []) ++ rest
frames_push given request rest =
    sym (append_assoc (flat_map frame given) (frame request) rest)
    ∙ ap (λ (x : List ℕ). x ++ rest) (ap (λ (x : List ℕ). flat_map frame given ++ x) (sym (append-nil (frame request))) ∙ sym (flat_map-append frame given (request ∷ [])))

-- if the rest has no request at its start, then all requests were returned
pub all_given : (text : List ℕ) (given : List Request) (rest : List ℕ) → AllByRecursion IsRequest given → text ≡ flat_map frame given ++ rest → requests_in rest ≡ [] → given ≡ requests_in text
all_given text given rest each whole none =
    sym (ap requests_in whole ∙ ((frames_after given rest each).requests ∙ (ap (λ (x : List Request). given ++ x) none ∙ append-nil given)))

pub fault_of_rest : (text : List ℕ) (given : List Request) (rest : List ℕ) (ended : Bool) → AllByRecursion IsRequest given → text ≡ flat_map frame given ++ rest → fault_in text ended ≡ fault_in rest ended
fault_of_rest text given rest ended each whole = ap (λ (x : List ℕ). fault_in x ended) whole ∙ ap (λ (x : List ℕ). fault_at x ended) (frames_after given rest each).after

fault_free_follows : (rest : List ℕ) (v : FrameReaderView) → v.returned ≡ None → v.rest ≡ rest → FollowsText rest v
fault_free_follows rest v e r = record { fault_free = λ _. r; returned = λ fault t. let no_fault : ◌≡◌ {A = Option Fault} None (Some fault) = sym e ∙ t in absurd cc }

-- the fault that is returned is that of the rest of the text
returned_at : (rest : List ℕ) (old : FrameReaderView) (fault : Fault) (new : FrameReaderView) → FollowsText rest old → TellsFault old fault new → (o : Option Fault) → old.returned ≡ o → (requests_in rest ≡ []) × (fault_in rest old.ended ≡ Some fault)
returned_at rest old fault new f h None e =
    let s = h.stands e in
    let r = f.fault_free e in
    (ap requests_in (sym r) ∙ s.0, ap (λ (x : List ℕ). fault_in x old.ended) (sym r) ∙ s.1)
returned_at rest old fault new f h (Some g) e = f.returned fault (h.again (ap is_some e))

pub tells : (old : FrameReaderView) (answer : Result (Option Request) Fault) (new : FrameReaderView) → Answers old answer new → (text : List ℕ) (given : List Request) → HasRead text given old → Tells text given old.ended answer new
tells old (Ok (Some request)) new h text given k =
    record {
      each = all_push given request k.each h.fits;
      rest = new.rest;
      whole = k.whole ∙ (ap (λ (x : List ℕ). flat_map frame given ++ x) (sym (k.follows.fault_free h.fault_free) ∙ h.leading) ∙ frames_push given request new.rest);
      follows = fault_free_follows new.rest new h.same.0 refl;
    }
tells old (Ok None) new h text given k =
    let r = k.follows.fault_free h.fault_free in
    let none = ap requests_in (sym r) ∙ h.requests in (
      all_given text given k.rest k.each k.whole none,
      fault_of_rest text given k.rest old.ended k.each k.whole ∙ (ap (λ (x : List ℕ). fault_in x old.ended) (sym r) ∙ h.fault),
      record { each = k.each; rest = k.rest; whole = k.whole; follows = fault_free_follows k.rest new h.same.1 (h.same.0 ∙ r) },
    )
tells old (Err fault) new h text given k =
    let t = returned_at k.rest old fault new k.follows h old.returned refl in (
      all_given text given k.rest k.each k.whole t.0,
      fault_of_rest text given k.rest old.ended k.each k.whole ∙ t.1,
      record {
        each = k.each;
        rest = k.rest;
        whole = k.whole;
        follows = record {
          fault_free = λ e. let fault_and_none : ◌≡◌ {A = Option Fault} (Some fault) None = sym h.returned ∙ e in absurd cc;
          returned = λ g e. (t.0, ap (λ (b : Bool). fault_in k.rest b) h.same ∙ (t.1 ∙ (sym h.returned ∙ e)));
        };
      },
    )

pub feeds : (old : FrameReaderView) (piece : List ℕ) (new : FrameReaderView) → old.ended ≡ false → IsFed old piece new → (text : List ℕ) (given : List Request) → HasRead text given old → HasRead (text ++ piece) given new
feeds old piece new not_ended f text given k =
    record {
      each = k.each;
      rest = k.rest ++ piece;
      whole = ap (λ (x : List ℕ). x ++ piece) k.whole ∙ append_assoc (flat_map frame given) k.rest piece;
      follows = record {
        fault_free = λ e. let u = sym f.0 ∙ e in f.2 u ∙ ap (λ (x : List ℕ). x ++ piece) (k.follows.fault_free u);
        returned = λ g e.
            let t = k.follows.returned g (sym f.0 ∙ e) in
            let s = fault_stays k.rest piece new.ended g t.0 (ap (λ (b : Bool). fault_in k.rest b) (sym not_ended) ∙ t.1) in
            (s.requests, s.stands);
      };
    }

ends_at : (rest : List ℕ) (g : Fault) (b : Bool) → requests_in rest ≡ [] → fault_in rest b ≡ Some g → fault_in rest true ≡ Some g
ends_at rest g true n e = e
ends_at rest g false n e = ap (λ (x : List ℕ). fault_in x true) (sym (append-nil rest)) ∙ (fault_stays rest [] true g n e).stands

-- after a fault, all requests were returned, and the fault is that of the text, ended or not
pub returned_whole : (text : List ℕ) (given : List Request) (v : FrameReaderView) (fault : Fault) → HasRead text given v → v.returned ≡ Some fault → given ≡ requests_in text
returned_whole text given v fault k e = all_given text given k.rest k.each k.whole (k.follows.returned fault e).0

pub returned_always : (text : List ℕ) (given : List Request) (v : FrameReaderView) (fault : Fault) → HasRead text given v → v.ended ≡ false → v.returned ≡ Some fault → (b : Bool) → fault_in text b ≡ Some fault
returned_always text given v fault k n e b =
    let t = k.follows.returned fault e in
    let f : fault_in k.rest false ≡ Some fault = ap (λ (x : Bool). fault_in k.rest x) (sym n) ∙ t.1 in
    fault_of_rest text given k.rest b k.each k.whole ∙ either b f
  where
    either : (b : Bool) → fault_in k.rest false ≡ Some fault → fault_in k.rest b ≡ Some fault
    either true f = ends_at k.rest fault false (k.follows.returned fault e).0 f
    either false f = f

-- the rest of the text, before a fault
pub record Leaves (text : List ℕ) (given : List Request) (v : FrameReaderView) (ended : Bool) : Type 0 where
  pub requests : requests_in text ≡ given ++ requests_in v.rest
  pub fault : fault_in text ended ≡ fault_in v.rest ended

pub leaves : (text : List ℕ) (given : List Request) (v : FrameReaderView) (ended : Bool) → HasRead text given v → v.returned ≡ None → Leaves text given v ended
leaves text given v ended k e =
    let r = k.follows.fault_free e in
    record {
      requests = ap requests_in k.whole ∙ ((frames_after given k.rest k.each).requests ∙ ap (λ (x : List ℕ). given ++ requests_in x) (sym r));
      fault = fault_of_rest text given k.rest ended k.each k.whole ∙ ap (λ (x : List ℕ). fault_in x ended) (sym r);
    }

pub fed_nothing : (v : FrameReaderView) (piece : List ℕ) (fault : Fault) → v.returned ≡ Some fault → IsFed v piece v
fed_nothing v piece fault e = (refl, refl, λ u. let fault_and_none : ◌≡◌ {A = Option Fault} (Some fault) None = sym e ∙ u in absurd cc)

-- a text of no bytes
pub record IsNothing (ended : Bool) : Type 0 where
  pub requests : requests_in [] ≡ []
  pub fault : fault_in [] ended ≡ None

pub nothing_read : (ended : Bool) → IsNothing ended
unfolding requests_in rest_in header_fault
nothing_read ended = record { requests = refl; fault = refl }
