-- Beginnings of files of explained cycles.
use Rattle.std.proofs.Common.{◌≡◌, ℕ, zero, suc, ◌+◌, ◌-◌, ◌<◌, ◌^◌, Bool, true, false, cond, List, [], ◌∷◌, ◌++◌, Option, Some, None, length, map, refl, sym, ap, subst, ◌∙◌, arith, append_assoc, nat_lt, lit<}
use Rattle.std.specs.Prelude.{is_some, option_to_list}
use Rattle.std.specs.List.{All, AllByRecursion, flat_map}
use Rattle.std.proofs.lemmas.Bool.{true≢false}
use Rattle.std.proofs.lemmas.Bool.Decides.{nat_tests}
use Rattle.std.proofs.lemmas.List.{append-nil, length-append, map-append}
use Rattle.std.proofs.lemmas.List.Elements.{All-append, All-cons, All-head, All-nil, All-tail}
use Rattle.std.proofs.lemmas.Option.{same_Some}
use Rattle.trace_model.specs.declared.refutations.Derived.{Derived}
use Rattle.event_files.specs.NumberedText.{AreSmall}
use Rattle.event_files.specs.Refutations.{entry_line, last_derived_place}
use Rattle.event_files.specs.declared.explanations.ReportHead.{ReportHead}
use Rattle.event_files.specs.declared.explanations.ExplainedStep.{ExplainedStep}
use Rattle.event_files.specs.ExplainedFile.{AreFirstFileLines}
use Rattle.event_files.specs.ExplainedLines.{IsStatedLine, StatedLine, conclusion, entry, head, line_text, member, places, row}
use Rattle.event_files.specs.ExplainedText.{Contents, IsContents, IsStatedCycle, StatedCycle, StatedEvidence, StatedMember, cycle_lines, entry_numbers, evidence_lines, file_lines, head_line, head_numbers, is_witness, stated_member_line, member_numbers, refutation, step_lines, step_numbers, witness}
use Rattle.event_files.specs.ExplainedReading.{ReadsStatedLine, IsReadOf, IsReading, StatedReading, StatedState, between, cycle_parts, evidence_parts, file_parts, members, reading_parts, cycle_state, step_parts, steps, unwitnessed}
use Rattle.event_files.proofs.NumberedTexts.{end_all, front_all}
use Rattle.event_files.proofs.ExplainedOrder.{last_of_some}
use Rattle.event_files.proofs.ExplainedReadings.{follows_conclusion, follows_head, follows_member, follows_places, reading, whole_file}

-- The text of the lines of a file.

members_text : (ms : List StatedMember) → map line_text (map member ms) ≡ map stated_member_line ms
members_text [] = refl
members_text (m ∷ ms) = ap (λ l. stated_member_line m ∷ l) (members_text ms)

entries_text : (es : List Derived) → map line_text (map entry es) ≡ map entry_line es
entries_text [] = refl
entries_text (d ∷ es) = ap (λ l. entry_line d ∷ l) (entries_text es)

step_text_is : (step : ExplainedStep) → map line_text (step_parts step) ≡ step_lines step
step_text_is step =
    let end = conclusion step.thread (last_derived_place step.derivation) in
    map-append line_text (map entry step.derivation) (end ∷ []) ∙ ap (λ l. l ++ line_text end ∷ []) (entries_text step.derivation)

steps_text : (done : List ExplainedStep) → map line_text (flat_map step_parts done) ≡ flat_map step_lines done
steps_text [] = refl
steps_text (step ∷ done) =
    map-append line_text (step_parts step) (flat_map step_parts done) ∙ (λ i. step_text_is step i ++ steps_text done i)

evidence_text : (e : StatedEvidence) → map line_text (evidence_parts e) ≡ evidence_lines e
evidence_text (witness order) = refl
evidence_text (refutation done) = steps_text done

cycle_text : (c : StatedCycle) → map line_text (cycle_parts c) ≡ cycle_lines c
cycle_text c =
    ap (λ l. line_text (row c.cycle (is_witness c.evidence)) ∷ l)
    (map-append line_text (map member c.members) (evidence_parts c.evidence) ∙ (λ i. members_text c.members i ++ evidence_text c.evidence i))

cycles_text : (cs : List StatedCycle) → map line_text (flat_map cycle_parts cs) ≡ flat_map cycle_lines cs
cycles_text [] = refl
cycles_text (c ∷ cs) = map-append line_text (cycle_parts c) (flat_map cycle_parts cs) ∙ (λ i. cycle_text c i ++ cycles_text cs i)

head_text : (o : Option ReportHead) → map line_text (map head (option_to_list o)) ≡ map head_line (option_to_list o)
head_text None = refl
head_text (Some h) = refl

pub file_text : (f : Contents) → map line_text (file_parts f) ≡ file_lines f
file_text f =
    map-append line_text (map head (option_to_list f.head)) (flat_map cycle_parts f.cycles) ∙ (λ i. head_text f.head i ++ cycles_text f.cycles i)

-- The lines of a file are such as a file may have.

abbrev Small : ℕ → Type 0
Small k = k < 2 ^ 32

members_stated : (ms : List StatedMember) → All (λ m. AreSmall (member_numbers m)) ms → All IsStatedLine (map member ms)
members_stated [] small = All-nil IsStatedLine
members_stated (m ∷ ms) small =
    let S : StatedMember → Type 0 = λ x. AreSmall (member_numbers x) in
    All-cons IsStatedLine (member m) (map member ms) (record { small = All-head S m ms small; sized = tt }) (members_stated ms (All-tail S m ms small))

entries_stated : (es : List Derived) → AreSmall (flat_map entry_numbers es) → All IsStatedLine (map entry es)
entries_stated [] small = All-nil IsStatedLine
entries_stated (d ∷ es) small =
    All-cons IsStatedLine (entry d) (map entry es) (record { small = front_all Small (entry_numbers d) (flat_map entry_numbers es) small; sized = tt })
    (entries_stated es (end_all Small (entry_numbers d) (flat_map entry_numbers es) small))

last_next : (d e : Derived) (es : List Derived) → last_derived_place (d ∷ e ∷ es) ≡ last_derived_place (e ∷ es)
last_next d e es = same_Some _ _ (sym (last_of_some d (e ∷ es) None) ∙ last_of_some e es (Some d.place))

last_small : (d : Derived) (es : List Derived) → AreSmall (flat_map entry_numbers (d ∷ es)) → last_derived_place (d ∷ es) < 2 ^ 32
last_small d [] small = small 0 0 (omega arith)
last_small d (e ∷ es) small =
    subst Small (sym (last_next d e es)) (last_small e es (end_all Small (entry_numbers d) (flat_map entry_numbers (e ∷ es)) small))

some_last_small : (es : List Derived) → 0 < length es → AreSmall (flat_map entry_numbers es) → last_derived_place es < 2 ^ 32
some_last_small [] some small = absurd (omega arith)
some_last_small (d ∷ es) some small = last_small d es small

step_stated : (step : ExplainedStep) → 0 < length step.derivation → AreSmall (step_numbers step) → All IsStatedLine (step_parts step)
step_stated step some small =
    let es = step.derivation in
    let last = last_derived_place es in
    let end = conclusion step.thread last in
    let entries = All-tail Small step.thread (flat_map entry_numbers es) small in
    let numbers = All-cons Small step.thread (last ∷ []) (All-head Small step.thread (flat_map entry_numbers es) small) (All-cons Small last [] (some_last_small es some entries) (All-nil Small)) in
    All-append IsStatedLine (map entry es) (end ∷ []) (entries_stated es entries) (All-cons IsStatedLine end [] (record { small = numbers; sized = tt }) (All-nil IsStatedLine))

steps_stated : (done : List ExplainedStep) → All (λ step. 0 < length step.derivation) done → AreSmall (flat_map step_numbers done) → All IsStatedLine (flat_map step_parts done)
steps_stated [] some small = All-nil IsStatedLine
steps_stated (step ∷ done) some small =
    let S : ExplainedStep → Type 0 = λ x. 0 < length x.derivation in
    All-append IsStatedLine (step_parts step) (flat_map step_parts done)
    (step_stated step (All-head S step done some) (front_all Small (step_numbers step) (flat_map step_numbers done) small))
    (steps_stated done (All-tail S step done some) (end_all Small (step_numbers step) (flat_map step_numbers done) small))

evidence_stated : (c : List ℕ) (ms : List StatedMember) (e : StatedEvidence) → IsStatedCycle (record { cycle = c; members = ms; evidence = e }) → All IsStatedLine (evidence_parts e)
evidence_stated c ms (witness order) is = All-cons IsStatedLine (places order) [] (record { small = is.evidence_small; sized = tt }) (All-nil IsStatedLine)
evidence_stated c ms (refutation done) is = steps_stated done is.derived is.evidence_small

cycle_stated : (c : StatedCycle) → IsStatedCycle c → All IsStatedLine (cycle_parts c)
cycle_stated c is =
    let first = row c.cycle (is_witness c.evidence) in
    All-cons IsStatedLine first (map member c.members ++ evidence_parts c.evidence) (record { small = is.cycle_small; sized = (is.low, is.high) })
    (All-append IsStatedLine (map member c.members) (evidence_parts c.evidence) (members_stated c.members is.members_small) (evidence_stated c.cycle c.members c.evidence is))

cycles_stated : (cs : List StatedCycle) → All IsStatedCycle cs → All IsStatedLine (flat_map cycle_parts cs)
cycles_stated [] are = All-nil IsStatedLine
cycles_stated (c ∷ cs) are =
    All-append IsStatedLine (cycle_parts c) (flat_map cycle_parts cs) (cycle_stated c (All-head IsStatedCycle c cs are)) (cycles_stated cs (All-tail IsStatedCycle c cs are))

head_stated : (o : Option ReportHead) → All (λ h. AreSmall (head_numbers h)) (option_to_list o) → All IsStatedLine (map head (option_to_list o))
head_stated None small = All-nil IsStatedLine
head_stated (Some h) small =
    All-cons IsStatedLine (head h) [] (record { small = All-head (λ (x : ReportHead). AreSmall (head_numbers x)) h [] small; sized = tt }) (All-nil IsStatedLine)

pub file_stated : (f : Contents) → IsContents f → All IsStatedLine (file_parts f)
file_stated f is =
    All-append IsStatedLine (map head (option_to_list f.head)) (flat_map cycle_parts f.cycles) (head_stated f.head is.head_small) (cycles_stated f.cycles is.cycles)

-- What was read can be completed.

record IsCompleted (r : StatedReading) : Type 0 where
  file : Contents
  more : List StatedLine
  contents : IsContents file
  parts : file_parts file ≡ reading_parts r ++ more

before_line : (r new : StatedReading) (l : StatedLine) → ReadsStatedLine r l new → IsReading r → IsStatedLine l → (IsReading new → IsCompleted new) → IsCompleted r
before_line r new l follows is line complete =
    let f = follows is line in
    let rest = complete f.0 in
    record {
      file = rest.file;
      more = l ∷ rest.more;
      contents = rest.contents;
      parts = rest.parts ∙ (ap (λ x. x ++ rest.more) f.1 ∙ append_assoc (reading_parts r) (l ∷ []) rest.more);
    }

completed_with : (h : Option ReportHead) (cs : List StatedCycle) (is : IsReading (reading h cs between)) → (is_some h ≡ false → length cs ≡ 0 → ⊥) → IsCompleted (reading h cs between)
completed_with h cs is some =
    let whole = whole_file h cs cs between refl refl some is in
    record { file = record { head = h; cycles = cs }; more = []; contents = whole.0; parts = whole.1 ∙ sym (append-nil (reading_parts (reading h cs between))) }

abbrev no_head : ReportHead
no_head = record { question = 0; length = 0; bound = 0; cycles = 0; confirmed = 0 }

zeros_small : (zeros : List ℕ) → AllByRecursion (λ n. n ≡ 0) zeros → AreSmall zeros
zeros_small [] are = All-nil Small
zeros_small (n ∷ zeros) are = All-cons Small n zeros (omega (arith, are.0)) (zeros_small zeros are.1)

between_completed : (h : Option ReportHead) (cs : List StatedCycle) → IsReading (reading h cs between) → IsCompleted (reading h cs between)
between_completed None [] is =
    before_line (reading None [] between) (reading (Some no_head) [] between) (head no_head) (follows_head (reading None [] between) no_head refl) is (record { small = zeros_small (head_numbers no_head) (refl, (refl, (refl, (refl, (refl, tt))))); sized = tt })
    (λ new. completed_with (Some no_head) [] new (λ none empty. true≢false none))
between_completed (Some f) cs is = completed_with (Some f) cs is (λ none empty. true≢false none)
between_completed h (c ∷ cs) is = completed_with h (c ∷ cs) is (λ none empty. absurd (omega arith))

unwitnessed_completed : (h : Option ReportHead) (cs : List StatedCycle) (c : List ℕ) (ms : List StatedMember) → IsReading (reading h cs (unwitnessed c ms)) → IsCompleted (reading h cs (unwitnessed c ms))
unwitnessed_completed h cs c ms is =
    let all = cs ++ record { cycle = c; members = ms; evidence = witness [] } ∷ [] in
    before_line (reading h cs (unwitnessed c ms)) (reading h all between) (places []) (follows_places h cs all c [] ms refl) is (record { small = All-nil Small; sized = tt }) (between_completed h all)

ended_completed : (h : Option ReportHead) (cs : List StatedCycle) (c : List ℕ) (ms : List StatedMember) (done : List ExplainedStep) → IsReading (reading h cs (steps c ms done [])) →
    IsCompleted (reading h cs (steps c ms done []))
ended_completed h cs c ms done is =
    let one : StatedCycle = record { cycle = c; members = ms; evidence = refutation done } in
    let all = cs ++ one ∷ [] in
    let some : is_some h ≡ false → length all ≡ 0 → ⊥ = λ none empty. omega (arith, length-append cs (one ∷ [])) in
    let whole = whole_file h cs all (steps c ms done []) refl refl some is in
    record { file = record { head = h; cycles = all }; more = []; contents = whole.0; parts = whole.1 ∙ sym (append-nil (reading_parts (reading h cs (steps c ms done [])))) }

steps_completed : (h : Option ReportHead) (cs : List StatedCycle) (c : List ℕ) (ms : List StatedMember) (done : List ExplainedStep) (es : List Derived) → IsReading (reading h cs (steps c ms done es)) →
    IsCompleted (reading h cs (steps c ms done es))
steps_completed h cs c ms done [] is = ended_completed h cs c ms done is
steps_completed h cs c ms done (d ∷ ds) is =
    let es = d ∷ ds in
    let last = last_derived_place es in
    let all = done ++ record { thread = 0; derivation = es } ∷ [] in
    let line : IsStatedLine (conclusion 0 last) = record { small = All-cons Small 0 (last ∷ []) (lit< tt) (All-cons Small last [] (last_small d ds is.state.4) (All-nil Small)); sized = tt } in
    before_line (reading h cs (steps c ms done es)) (reading h cs (steps c ms all [])) (conclusion 0 last) (follows_conclusion h cs c ms done all es 0 last (omega arith) refl refl) is line
    (ended_completed h cs c ms all)

-- a member with a place if it is to have one
abbrev some_member : Bool → StatedMember
some_member true = record { thread = 0; lock = 0; held = []; place = Some 0 }
some_member false = record { thread = 0; lock = 0; held = []; place = None }

some_placed : (b : Bool) → is_some (some_member b).place ≡ b
some_placed true = refl
some_placed false = refl

some_stated : (b : Bool) → IsStatedLine (member (some_member b))
some_stated true = record { small = zeros_small (0 ∷ 0 ∷ 0 ∷ []) (refl, (refl, (refl, tt))); sized = tt }
some_stated false = record { small = zeros_small (0 ∷ 0 ∷ []) (refl, (refl, tt)); sized = tt }

state_by : (c : List ℕ) (b : Bool) (ms : List StatedMember) (t : Bool) → nat_lt (length ms) (length c) ≡ t →
    cond t (members c b ms) (cond b (unwitnessed c ms) (steps c ms [] [])) ≡ cycle_state c b ms
state_by c b ms t e = ap (λ x. cond x (members c b ms) (cond b (unwitnessed c ms) (steps c ms [] []))) (sym e)

full_completed : (h : Option ReportHead) (cs : List StatedCycle) (c : List ℕ) (b : Bool) (ms : List StatedMember) → IsReading (reading h cs (cond b (unwitnessed c ms) (steps c ms [] []))) →
    IsCompleted (reading h cs (cond b (unwitnessed c ms) (steps c ms [] [])))
full_completed h cs c true ms is = unwitnessed_completed h cs c ms is
full_completed h cs c false ms is = ended_completed h cs c ms [] is

members_completed : (k : ℕ) (h : Option ReportHead) (cs : List StatedCycle) (c : List ℕ) (b : Bool) (ms : List StatedMember) → length c ≡ length ms + suc k →
    IsReading (reading h cs (members c b ms)) → IsCompleted (reading h cs (members c b ms))
members_completed zero h cs c b ms missing is =
    let m = some_member b in
    let new = ms ++ m ∷ [] in
    let counted = length-append ms (m ∷ []) in
    let full : nat_lt (length new) (length c) ≡ false = grind (arith, nat_tests) in
    let s = cond b (unwitnessed c new) (steps c new [] []) in
    before_line (reading h cs (members c b ms)) (reading h cs s) (member m) (follows_member h cs c b ms new m s (some_placed b) refl (state_by c b new false full)) is (some_stated b) (full_completed h cs c b new)
members_completed (suc k) h cs c b ms missing is =
    let m = some_member b in
    let new = ms ++ m ∷ [] in
    let counted = length-append ms (m ∷ []) in
    let fewer : nat_lt (length new) (length c) ≡ true = grind (arith, nat_tests) in
    before_line (reading h cs (members c b ms)) (reading h cs (members c b new)) (member m) (follows_member h cs c b ms new m (members c b new) (some_placed b) refl (state_by c b new true fewer)) is (some_stated b)
    (members_completed k h cs c b new (omega (arith, counted)))

completed_by : (h : Option ReportHead) (cs : List StatedCycle) (s : StatedState) → IsReading (reading h cs s) → IsCompleted (reading h cs s)
completed_by h cs between is = between_completed h cs is
completed_by h cs (members c b ms) is = members_completed (length c - length ms - 1) h cs c b ms (omega (arith, is.state.1)) is
completed_by h cs (unwitnessed c ms) is = unwitnessed_completed h cs c ms is
completed_by h cs (steps c ms done es) is = steps_completed h cs c ms done es is

-- the lines that were read are a beginning of a file
pub begins_file : (lines : List (List ℕ)) (r : StatedReading) → IsReadOf lines r → AreFirstFileLines lines
begins_file lines r read =
    let done = completed_by r.head r.cycles r.state read.reading in (
      done.file,
      map line_text done.more,
      done.contents,
      sym (file_text done.file) ∙ (ap (map line_text) done.parts ∙ (map-append line_text (reading_parts r) done.more ∙ ap (λ l. l ++ map line_text done.more) (sym read.are))),
    )
