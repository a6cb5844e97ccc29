-- A text that continues.
use Rattle.std.proofs.Common.{◌≡◌, ℕ, Bool, true, false, not, cond, List, [], ◌∷◌, ◌++◌, Option, Some, None, Result, Ok, Err, refl, sym, ap, ◌∙◌, append_assoc}
use Rattle.std.specs.Int.{w16, from_be_bytes}
use Rattle.std.specs.List.{flat_map, AllByRecursion}
use Rattle.std.proofs.lemmas.List.Concat.{flat_map-cons}
use Rattle.trace_model.specs.declared.messages.session.Request.{Request}
use Rattle.trace_model.specs.declared.messages.session.Fault.{Fault}
use Rattle.trace_model.specs.declared.messages.session.Fault.TheVariants.{BadKind, BadLength}
use Rattle.trace_model.specs.Protocol.Frames.{frame, IsRequest, ok_unless, header_fault, whole_frame, cut_fault, leading_of, requests_in, rest_in, fault_in}
use Rattle.trace_model.proofs.Protocol.BatchFrames.{fields_stay}
use Rattle.trace_model.proofs.Protocol.Readings.{frame_turn, found_turn, fault_stands, partial_stands, header_err, IsFaulty}

pub record IsAfter (given : List Request) (rest : List ℕ) : Type 0 where
  pub requests : requests_in (flat_map frame given ++ rest) ≡ given ++ requests_in rest
  pub after : rest_in (flat_map frame given ++ rest) ≡ rest_in rest

-- frames first are the first requests
pub frames_after : (given : List Request) (rest : List ℕ) → AllByRecursion IsRequest given → IsAfter given rest
frames_after [] rest h = record { requests = refl; after = refl }
frames_after (request ∷ given) rest h =
    let e : flat_map frame (request ∷ given) ++ rest ≡ frame request ++ (flat_map frame given ++ rest) = ap (λ (x : List ℕ). x ++ rest) (flat_map-cons frame request given) ∙ append_assoc (frame request) (flat_map frame given) rest in
    let t = frame_turn request (flat_map frame given ++ rest) h.0 in
    let more = frames_after given rest h.1 in
    record {
      requests = ap requests_in e ∙ (t.requests ∙ ap (λ (x : List Request). request ∷ x) more.requests);
      after = ap rest_in e ∙ (t.after ∙ more.after);
    }

cond_stays : (b : Bool) (y : Option Fault) (fault : Fault) → cond b (Some BadLength) None ≡ Some fault → cond b (Some BadLength) y ≡ Some fault
cond_stays true y fault e = e
cond_stays false y fault e = absurd cc

-- a fault of the tests of a header stays if the last of them keeps it
tests_stay : (a b c : Bool) (f g : Option Fault) (fault : Fault) → (f ≡ Some fault → g ≡ Some fault) →
    cond a (Some BadLength) (cond (not b) (Some BadKind) (cond (not c) (Some BadLength) f)) ≡ Some fault →
    cond a (Some BadLength) (cond (not b) (Some BadKind) (cond (not c) (Some BadLength) g)) ≡ Some fault
tests_stay true b c f g fault stays h = h
tests_stay false false c f g fault stays h = h
tests_stay false true false f g fault stays h = h
tests_stay false true true f g fault stays h = stays h

header_stays : (text more : List ℕ) (fault : Fault) → header_fault text ≡ Some fault → header_fault (text ++ more) ≡ Some fault
unfolding header_fault
header_stays [] more fault h = absurd cc
header_stays (high ∷ []) more fault h = absurd cc
header_stays (high ∷ low ∷ []) [] fault h = h
header_stays (high ∷ low ∷ []) (kind ∷ fields) fault h = cond_stays _ _ fault h
header_stays (high ∷ low ∷ kind ∷ fields) more fault h =
    tests_stay _ _ _ _ _ fault (fields_stay kind (from_be_bytes w16 (high ∷ low ∷ [])) fields more fault) h

leading_err : (text : List ℕ) (fault : Fault) → header_fault text ≡ Some fault → leading_of text ≡ Err fault
unfolding leading_of
leading_err text fault h = ap (λ (f : Option Fault). ok_unless f (whole_frame text)) h

cut_not : (text : List ℕ) → cut_fault text false ≡ None
cut_not [] = refl
cut_not (x ∷ text) = refl

stays_by : (text more : List ℕ) (ended : Bool) (fault : Fault) → requests_in text ≡ [] → fault_in text false ≡ Some fault → (r : Result (Option (Request × List ℕ)) Fault) → leading_of text ≡ r → IsFaulty (text ++ more) ended fault
stays_by text more ended fault none f (Err g) e =
    let same : Some g ≡ Some fault = sym (fault_stands text false g e).stands ∙ f in
    let there = fault_stands (text ++ more) ended g (leading_err (text ++ more) g (header_stays text more g (header_err text g e))) in
    record { requests = there.requests; stands = there.stands ∙ same }
stays_by text more ended fault none f (Ok None) e =
    let p = (partial_stands text false e).fault in
    let q = cut_not text in
    absurd cc
stays_by text more ended fault none f (Ok (Some found)) e =
    let t = (found_turn text found.0 found.1 e).requests in
    absurd cc

-- a fault before the end stays in any continuation
pub fault_stays : (text more : List ℕ) (ended : Bool) (fault : Fault) → requests_in text ≡ [] → fault_in text false ≡ Some fault → IsFaulty (text ++ more) ended fault
fault_stays text more ended fault none f = stays_by text more ended fault none f (leading_of text) refl
