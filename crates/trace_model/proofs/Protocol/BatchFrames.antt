-- The events of a batch as bytes.
use Rattle.std.proofs.Common.{◌≡◌, ℕ, zero, suc, ◌+◌, ◌*◌, ◌/◌, ◌%◌, ◌≤◌, ◌&&◌, Bool, true, false, cond, eqb, leb, List, [], ◌∷◌, ◌++◌, length, take, drop, Option, Some, None, inl, inr, refl, sym, ap, ◌∙◌, append_assoc, length-append, arith}
use Rattle.std.specs.Int.{w32, from_be_bytes, to_be_bytes}
use Rattle.std.specs.List.{flat_map, AllByRecursion}
use Rattle.std.proofs.lemmas.Bool.{cases_lt, eqb-true, le-leb}
use Rattle.std.proofs.lemmas.Bool.Decides.{nat_tests}
use Rattle.std.proofs.lemmas.List.{drop-append-le, drop-drop, length-drop, take-append-drop}
use Rattle.std.proofs.Math.ListN.{drop_of_length-le}
use Rattle.std.proofs.lemmas.List.Concat.{flat_map-cons}
use Rattle.trace_model.specs.declared.traces.event.Event.{Event}
use Rattle.trace_model.specs.declared.traces.event.Op.{Op}
use Rattle.trace_model.specs.declared.traces.event.Op.TheVariants.{Fork, Join, Acquire, Release, Read, Write}
use Rattle.trace_model.specs.declared.messages.session.Fault.{Fault}
use Rattle.trace_model.specs.declared.messages.session.Fault.TheVariants.{BadBatch}
use Rattle.trace_model.specs.Protocol.Frames.{kind_of, object_of, event_bytes, FitsWords, is_batch_length, is_event_kind, cells_fault, batch_fault, fields_fault, op_of, event_of, events_in, IsBytes}
use Rattle.trace_model.proofs.Protocol.Bytes.{IsBytes-drop, IsBytes-take, word_again, word_takes, word_below}

-- ---- what was written is read again

pub op_again : (op : Op) → op_of (kind_of op) (object_of op) ≡ op
op_again (Fork child) = refl
op_again (Join child) = refl
op_again (Acquire lock) = refl
op_again (Release lock) = refl
op_again (Read variable) = refl
op_again (Write variable) = refl

is_kind_of : (op : Op) → is_event_kind (kind_of op) ≡ true
is_kind_of (Fork child) = refl
is_kind_of (Join child) = refl
is_kind_of (Acquire lock) = refl
is_kind_of (Release lock) = refl
is_kind_of (Read variable) = refl
is_kind_of (Write variable) = refl

cell_again : (e : Event) (rest : List ℕ) → FitsWords e → event_of (event_bytes e ++ rest) ≡ e
cell_again e rest (t, o) =
    ap (λ (n : ℕ). record { thread = n; op = op_of (kind_of e.op) (from_be_bytes w32 (to_be_bytes w32 (object_of e.op))) }) (word_again e.thread t)
    ∙ ap (λ (n : ℕ). record { thread = e.thread; op = op_of (kind_of e.op) n }) (word_again (object_of e.op) o)
    ∙ ap (λ (op : Op). record { thread = e.thread; op = op }) (op_again e.op)

-- the bytes of these events, in any continuation
pub record AreAgain (es : List Event) (rest : List ℕ) : Type 0 where
  pub events : events_in (length es) (flat_map event_bytes es ++ rest) ≡ es
  pub after : drop (9 * length es) (flat_map event_bytes es ++ rest) ≡ rest
  pub sound : cells_fault (length es) (flat_map event_bytes es ++ rest) ≡ None

pub cells_again : (es : List Event) (rest : List ℕ) → AllByRecursion FitsWords es → AreAgain es rest
cells_again [] rest h = record { events = refl; after = refl; sound = refl }
cells_again (e ∷ es) rest h =
    let others = cells_again es rest h.1 in
    let t = flat_map event_bytes es ++ rest in
    let parts : flat_map event_bytes (e ∷ es) ++ rest ≡ event_bytes e ++ t = ap (λ (x : List ℕ). x ++ rest) (flat_map-cons event_bytes e es) ∙ append_assoc (event_bytes e) (flat_map event_bytes es) rest in
    let nine : 9 * length (e ∷ es) ≡ 9 + 9 * length es = omega arith in
    record {
      events = ap (events_in (suc (length es))) parts ∙ (ap (λ (x : Event). x ∷ events_in (length es) t) (cell_again e t h.0) ∙ ap (λ (x : List Event). e ∷ x) others.events);
      after = (λ i. drop (nine i) (parts i)) ∙ (sym (drop-drop (9 * length es) 9 (event_bytes e ++ t)) ∙ others.after);
      sound = ap (cells_fault (suc (length es))) parts ∙ (ap (λ (b : Bool). cond b (cells_fault (length es) t) (Some BadBatch)) (is_kind_of e.op) ∙ others.sound);
    }

pub length_cells : (es : List Event) → length (flat_map event_bytes es) ≡ 9 * length es
length_cells [] = refl
length_cells (e ∷ es) = ap length (flat_map-cons event_bytes e es) ∙ omega (arith, length-append (event_bytes e) (flat_map event_bytes es), length_cells es)

-- ---- what was read was written

pub op_takes : (kind object : ℕ) → 1 ≤ kind → kind ≤ 6 → (kind_of (op_of kind object) ≡ kind) × (object_of (op_of kind object) ≡ object)
op_takes zero object low high = absurd (omega arith)
op_takes (suc zero) object low high = (refl, refl)
op_takes (suc (suc zero)) object low high = (refl, refl)
op_takes (suc (suc (suc zero))) object low high = (refl, refl)
op_takes (suc (suc (suc (suc zero)))) object low high = (refl, refl)
op_takes (suc (suc (suc (suc (suc zero))))) object low high = (refl, refl)
op_takes (suc (suc (suc (suc (suc (suc zero)))))) object low high = (refl, refl)
op_takes (suc (suc (suc (suc (suc (suc (suc n))))))) object low high = absurd (omega arith)

pub eight_cells : (fields : List ℕ) → (take 4 fields ++ take 4 (drop 4 fields)) ++ drop 8 fields ≡ fields
eight_cells fields =
    append_assoc (take 4 fields) (take 4 (drop 4 fields)) (drop 8 fields)
    ∙ ap (λ (t : List ℕ). take 4 fields ++ (take 4 (drop 4 fields) ++ t)) (sym (drop-drop 4 4 fields))
    ∙ ap (λ (t : List ℕ). take 4 fields ++ t) (take-append-drop 4 (drop 4 fields))
    ∙ take-append-drop 4 fields

-- nine bytes whose kind is that of an event
cell_takes : (kind : ℕ) (cells : List ℕ) → 1 ≤ kind → kind ≤ 6 → 8 ≤ length cells → IsBytes cells →
    FitsWords (event_of (kind ∷ cells)) × (event_bytes (event_of (kind ∷ cells)) ++ drop 8 cells ≡ kind ∷ cells)
cell_takes kind cells low high long bytes =
    let thread = from_be_bytes w32 (take 4 cells) in
    let object = from_be_bytes w32 (take 4 (drop 4 cells)) in
    let o = op_takes kind object low high in
    let t = word_takes cells (omega arith) bytes in
    let u = word_takes (drop 4 cells) (omega (arith, length-drop 4 cells)) (IsBytes-drop 4 cells bytes) in (
      (word_below (take 4 cells) (IsBytes-take 4 cells bytes), rw o.1 (word_below (take 4 (drop 4 cells)) (IsBytes-take 4 (drop 4 cells) (IsBytes-drop 4 cells bytes)))),
      (λ i. (o.0 i ∷ (t i ++ (ap (to_be_bytes w32) o.1 ∙ u) i)) ++ drop 8 cells) ∙ ap (λ (x : List ℕ). kind ∷ x) (eight_cells cells),
    )

-- n events of nine bytes without a fault, and the events that are read from them
pub record AreTaken (n : ℕ) (cells : List ℕ) : Type 0 where
  pub ranges : AllByRecursion FitsWords (events_in n cells)
  pub count : length (events_in n cells) ≡ n
  pub written : flat_map event_bytes (events_in n cells) ++ drop (9 * n) cells ≡ cells

event_kind_range : (kind : ℕ) → is_event_kind kind ≡ true → (1 ≤ kind) × (kind ≤ 6)
event_kind_range kind e = (grind (arith, nat_tests), grind (arith, nat_tests))

kind_passes : (b : Bool) (others : Option Fault) → cond b others (Some BadBatch) ≡ None → (b ≡ true) × (others ≡ None)
kind_passes true others e = (refl, e)
kind_passes false others e = absurd cc

pub cells_take : (n : ℕ) (cells : List ℕ) → IsBytes cells → 9 * n ≤ length cells → cells_fault n cells ≡ None → AreTaken n cells
cells_take zero cells bytes long sound = record { ranges = tt; count = refl; written = refl }
cells_take (suc n) [] bytes long sound = absurd (omega (arith, long))
cells_take (suc n) (kind ∷ cells) bytes long sound =
    let passed = kind_passes (is_event_kind kind) (cells_fault n (drop 8 cells)) sound in
    let range = event_kind_range kind passed.0 in
    let own : IsBytes cells = λ i. bytes (suc i) in
    let first = cell_takes kind cells range.0 range.1 (omega (arith, long)) own in
    let others = cells_take n (drop 8 cells) (IsBytes-drop 8 cells own) (omega (arith, long, length-drop 8 cells)) passed.1 in
    let e = event_of (kind ∷ cells) in
    let es = events_in n (drop 8 cells) in
    let nine : drop (9 * suc n) (kind ∷ cells) ≡ drop (9 * n) (drop 8 cells) = ap (λ (k : ℕ). drop k (kind ∷ cells)) (omega arith) ∙ sym (drop-drop (9 * n) 9 (kind ∷ cells)) in
    record {
      ranges = (first.0, others.ranges);
      count = ap suc others.count;
      written = (λ i. flat_map-cons event_bytes e es i ++ nine i) ∙ (append_assoc (event_bytes e) (flat_map event_bytes es) (drop (9 * n) (drop 8 cells))
          ∙ (ap (λ (x : List ℕ). event_bytes e ++ x) others.written ∙ first.1));
    }

-- ---- the fault of a batch

count_passes : (b : Bool) (others : Option Fault) → cond b others (Some BadBatch) ≡ None → (b ≡ true) × (others ≡ None)
count_passes true others e = (refl, e)
count_passes false others e = absurd cc

pub batch_sound : (n count : ℕ) (cells : List ℕ) → batch_fault n (count ∷ cells) ≡ None → (count ≡ n) × (cells_fault n cells ≡ None)
batch_sound n count cells e = let passed = count_passes (eqb count n) (cells_fault n cells) e in (eqb-true _ _ passed.0, passed.1)

pub batch_sound_again : (n : ℕ) (cells : List ℕ) → cells_fault n cells ≡ None → batch_fault n (n ∷ cells) ≡ None
batch_sound_again n cells e =
    let same : eqb n n ≡ true = grind (arith, nat_tests) in
    ap (λ (b : Bool). cond b (cells_fault n cells) (Some BadBatch)) same ∙ e

-- the length of a batch, by its count
pub batch_length : (len : ℕ) → is_batch_length len ≡ true → (len ≡ 2 + 9 * (len / 9)) × (1 ≤ len / 9) × (len / 9 ≤ 64)
batch_length len e =
    let low : 11 ≤ len = grind (arith, nat_tests) in
    let high : len ≤ 578 = grind (arith, nat_tests) in
    let rest : len % 9 ≡ 2 = grind (arith, nat_tests) in
    (omega (arith, low, rest), omega (arith, low), omega (arith, high))

pub batch_length_of : (n : ℕ) → 1 ≤ n → n ≤ 64 → (is_batch_length (2 + 9 * n) ≡ true) × ((2 + 9 * n) / 9 ≡ n)
batch_length_of n low high =
    let a : leb 11 (2 + 9 * n) ≡ true = le-leb 11 (2 + 9 * n) (omega (arith, low)) in
    let b : leb (2 + 9 * n) 578 ≡ true = le-leb (2 + 9 * n) 578 (omega (arith, high)) in
    let rest : (2 + 9 * n) % 9 ≡ 2 = omega arith in
    let c : eqb ((2 + 9 * n) % 9) 2 ≡ true = ap (λ (k : ℕ). eqb k 2) rest in
    ((λ i. a i && b i && c i), omega arith)

-- ---- a fault stays in any continuation

cells_stay : (n : ℕ) (cells more : List ℕ) (fault : Fault) → cells_fault n cells ≡ Some fault → cells_fault n (cells ++ more) ≡ Some fault
cells_stay zero cells more fault e = absurd cc
cells_stay (suc n) [] more fault e = absurd cc
cells_stay (suc n) (kind ∷ cells) more fault e = by (is_event_kind kind) (cells_stay n (drop 8 cells) more fault) e
  where
    short : (m : ℕ) (xs : List ℕ) → xs ≡ [] → cells_fault m xs ≡ Some fault → cells_fault m (drop 8 (cells ++ more)) ≡ Some fault
    short zero xs none f = absurd cc
    short (suc m) xs none f = let there : cells_fault (suc m) [] ≡ Some fault = ap (cells_fault (suc m)) (sym none) ∙ f in absurd cc

    by : (b : Bool) → (cells_fault n (drop 8 cells) ≡ Some fault → cells_fault n (drop 8 cells ++ more) ≡ Some fault) →
        cond b (cells_fault n (drop 8 cells)) (Some BadBatch) ≡ Some fault → cond b (cells_fault n (drop 8 (cells ++ more))) (Some BadBatch) ≡ Some fault
    by true stays f = elim (cases_lt (length cells) 8) [
      | inl few ↦ let le : length cells ≤ 8 = omega (arith, few) in short n (drop 8 cells) (drop_of_length-le cells le) f
      | inr many ↦ ap (cells_fault n) (drop-append-le 8 cells more many) ∙ stays f
    ]
    by false stays f = f

batch_stays : (n : ℕ) (fields more : List ℕ) (fault : Fault) → batch_fault n fields ≡ Some fault → batch_fault n (fields ++ more) ≡ Some fault
batch_stays n [] more fault e = absurd cc
batch_stays n (count ∷ cells) more fault e = by (eqb count n) e
  where
    by : (b : Bool) → cond b (cells_fault n cells) (Some BadBatch) ≡ Some fault → cond b (cells_fault n (cells ++ more)) (Some BadBatch) ≡ Some fault
    by true f = cells_stay n cells more fault f
    by false f = f

pub fields_stay : (kind len : ℕ) (fields more : List ℕ) (fault : Fault) → fields_fault kind len fields ≡ Some fault → fields_fault kind len (fields ++ more) ≡ Some fault
fields_stay kind len fields more fault e = by (eqb kind 10) e
  where
    by : (b : Bool) → cond b (batch_fault (len / 9) fields) None ≡ Some fault → cond b (batch_fault (len / 9) (fields ++ more)) None ≡ Some fault
    by true f = batch_stays (len / 9) fields more fault f
    by false f = f
