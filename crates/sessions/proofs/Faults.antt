-- The fault of a text.
use Rattle.std.proofs.Common.{◌≡◌, ℕ, zero, suc, ◌/◌, ◌≤◌, eqb, drop, Bool, true, false, List, [], ◌∷◌, ◌++◌, length, Option, Some, None, refl, sym, arith}
use Rattle.std.specs.Prelude.{cond}
use Rattle.std.specs.Option.{option_or}
use Rattle.std.proofs.lemmas.List.{append-nil}
use Rattle.trace_model.specs.declared.messages.session.Fault.{Fault}
use Rattle.trace_model.specs.declared.messages.session.Fault.TheVariants.{BadKind, BadLength, Truncated, BadBatch}
use Rattle.trace_model.specs.Protocol.Frames.{batch_fault, cells_fault, fields_fault, header_fault, is_event_kind, cut_fault, rest_in, fault_in}
use Rattle.sessions.specs.declared.serving.TheConstants.{PIECE}
use Rattle.sessions.specs.Serving.{EndsOnlyAt, StandsIn, StopsAtFault}

abbrev IsCut : Option Fault → Type 0
IsCut o = o ≡ Some Truncated

either_cut : (b : Bool) (x y : Option Fault) → (IsCut x → ⊥) → (IsCut y → ⊥) → IsCut (cond b x y) → ⊥
either_cut true x y p q e = p e
either_cut false x y p q e = q e

none_uncut : IsCut None → ⊥
none_uncut e = absurd cc

length_uncut : IsCut (Some BadLength) → ⊥
length_uncut e = absurd cc

kind_uncut : IsCut (Some BadKind) → ⊥
kind_uncut e = absurd cc

batch_uncut : IsCut (Some BadBatch) → ⊥
batch_uncut e = absurd cc

cells_uncut : (n : ℕ) (cells : List ℕ) → IsCut (cells_fault n cells) → ⊥
cells_uncut zero cells e = none_uncut e
cells_uncut (suc n) [] e = none_uncut e
cells_uncut (suc n) (kind ∷ cells) e = either_cut (is_event_kind kind) _ _ (cells_uncut n (drop 8 cells)) batch_uncut e

events_uncut : (n : ℕ) (fields : List ℕ) → IsCut (batch_fault n fields) → ⊥
events_uncut n [] e = none_uncut e
events_uncut n (count ∷ cells) e = either_cut (eqb count n) _ _ (cells_uncut n cells) batch_uncut e

fields_uncut : (kind len : ℕ) (fields : List ℕ) → IsCut (fields_fault kind len fields) → ⊥
fields_uncut kind len fields e = either_cut (eqb kind 10) _ _ (events_uncut (len / 9) fields) none_uncut e

-- a fault that does not depend on what follows is not a truncation
header_uncut : (rest : List ℕ) → IsCut (header_fault rest) → ⊥
unfolding header_fault
header_uncut [] e = none_uncut e
header_uncut (high ∷ []) e = none_uncut e
header_uncut (high ∷ low ∷ []) e = either_cut _ _ _ length_uncut none_uncut e
header_uncut (high ∷ low ∷ kind ∷ fields) e =
    either_cut _ _ _ length_uncut (either_cut _ _ _ kind_uncut (either_cut _ _ _ length_uncut (fields_uncut kind _ fields))) e

-- a fault other than a truncation exists before the end too
before_end : (o : Option Fault) (rest : List ℕ) (fault : Fault) → (fault ≡ Truncated → ⊥) → option_or o (cut_fault rest true) ≡ Some fault → option_or o (cut_fault rest false) ≡ Some fault
before_end (Some shown) rest fault other e = e
before_end None [] fault other e = e
before_end None (byte ∷ rest) fault other e = absurd (other (cc e))

-- no text is truncated before its end
not_cut : (o : Option Fault) (rest : List ℕ) → (IsCut o → ⊥) → IsCut (option_or o (cut_fault rest false)) → ⊥
not_cut (Some shown) rest other e = other e
not_cut None [] other e = absurd cc
not_cut None (byte ∷ rest) other e = absurd cc

pub stands_in : (text : List ℕ) (left : Option (List ℕ)) (ended : Bool) (fault : Fault) → EndsOnlyAt ended left → fault_in text ended ≡ Some fault → StandsIn text left fault
stands_in text left true Truncated at_end e = (e, at_end refl)
stands_in text left true BadKind at_end e = before_end (header_fault (rest_in text)) (rest_in text) BadKind (λ f. absurd cc) e
stands_in text left true BadLength at_end e = before_end (header_fault (rest_in text)) (rest_in text) BadLength (λ f. absurd cc) e
stands_in text left true BadBatch at_end e = before_end (header_fault (rest_in text)) (rest_in text) BadBatch (λ f. absurd cc) e
stands_in text left false Truncated at_end e = absurd (not_cut (header_fault (rest_in text)) (rest_in text) (header_uncut (rest_in text)) e)
stands_in text left false BadKind at_end e = e
stands_in text left false BadLength at_end e = e
stands_in text left false BadBatch at_end e = e

-- ---- pieces

pub stops_before : (text : List ℕ) → fault_in text false ≡ None → StopsAtFault text
stops_before text sound = record { before = text; last = []; whole = sym (append-nil text); short = omega arith; sound = sound }

pub stops_after : (text piece : List ℕ) → fault_in text false ≡ None → length piece ≤ PIECE → StopsAtFault (text ++ piece)
stops_after text piece sound short = record { before = text; last = piece; whole = refl; short = short; sound = sound }
