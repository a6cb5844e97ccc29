-- Which line of a file of explained cycles may come next.
use Rattle.std.proofs.Common.{◌≡◌, ℕ, zero, suc, ◌+◌, ◌-◌, ◌<◌, Bool, true, false, cond, eq-eqb, List, [], ◌∷◌, ◌++◌, Option, Some, None, length, map, refl, sym, ap, ◌∙◌, arith, append_assoc, if◌then◌else◌}
use Rattle.std.specs.Prelude.{is_some, option_and_then, option_to_list, slice_get, ◌==◌}
use Rattle.std.specs.Option.{option_map_or}
use Rattle.std.specs.List.{All, flat_map}
use Rattle.std.proofs.lemmas.Bool.{true≢false}
use Rattle.std.proofs.lemmas.List.{append-nil}
use Rattle.std.proofs.lemmas.List.Elements.{All-head, All-tail}
use Rattle.std.proofs.lemmas.Option.{none-some, same_Some}
use Rattle.trace_model.specs.declared.refutations.Derived.{Derived}
use Rattle.event_files.specs.Refutations.{last_derived_place}
use Rattle.event_files.specs.declared.explanations.ReportHead.{ReportHead}
use Rattle.event_files.specs.declared.explanations.ExplainedStep.{ExplainedStep}
use Rattle.event_files.specs.ExplainedLines.{StatedLine, head, row, member, places, entry, conclusion}
use Rattle.event_files.specs.ExplainedText.{Contents, IsContents, IsStatedCycle, StatedCycle, StatedEvidence, StatedMember, file_lines, is_witness, refutation, witness, DerivePlaces}
use Rattle.event_files.specs.ExplainedReading.{IsReading, IsWrongNext, StatedReading, StatedState, IsState, between, cycle_parts, evidence_parts, file_parts, members, reading_parts, state_parts, step_parts, steps, unwitnessed}

-- what may come: anything; a cycle or the end; this many members and one more; a witness; or steps, with the place of the last entry of one without its conclusion
pub data Expected : Type 0 where
  start : Expected
  closed : Expected
  needs : ℕ → Bool → Expected
  needs_places : Expected
  derives : Option ℕ → Expected

abbrev pub expect_members : ℕ → Bool → Expected
expect_members zero true = needs_places
expect_members zero false = derives None
expect_members (suc n) confirmed = needs n confirmed

abbrev pub after_member : Bool → Bool → ℕ → Option Expected
after_member true true n = Some (expect_members n true)
after_member true false n = None
after_member false true n = None
after_member false false n = Some (expect_members n false)

abbrev pub after_start : StatedLine → Option Expected
after_start (head h) = Some closed
after_start (row cycle confirmed) = Some (expect_members (length cycle) confirmed)
after_start _ = None

abbrev pub after_closed : StatedLine → Option Expected
after_closed (row cycle confirmed) = Some (expect_members (length cycle) confirmed)
after_closed _ = None

abbrev pub after_needs : ℕ → Bool → StatedLine → Option Expected
after_needs n confirmed (member m) = after_member (is_some m.place) confirmed n
after_needs n confirmed _ = None

abbrev pub after_needs_places : StatedLine → Option Expected
after_needs_places (places order) = Some closed
after_needs_places _ = None

abbrev pub after_conclusion : StatedLine → Option Expected
after_conclusion (entry d) = Some (derives (Some d.place))
after_conclusion (row cycle confirmed) = Some (expect_members (length cycle) confirmed)
after_conclusion _ = None

abbrev pub after_entry : ℕ → StatedLine → Option Expected
after_entry p (entry d) = Some (derives (Some d.place))
after_entry p (conclusion thread place) = if p == place then Some (derives None) else None
after_entry p _ = None

-- what may come after the line
abbrev pub next : Expected → StatedLine → Option Expected
next start l = after_start l
next closed l = after_closed l
next (needs n confirmed) l = after_needs n confirmed l
next needs_places l = after_needs_places l
next (derives None) l = after_conclusion l
next (derives (Some p)) l = after_entry p l

-- what may come after the lines
abbrev pub run : Expected → List StatedLine → Option Expected
run s [] = Some s
run s (l ∷ ls) = option_and_then (λ t. run t ls) (next s l)

run_after : (ls more : List StatedLine) (o : Option Expected) → ((s : Expected) → run s (ls ++ more) ≡ option_and_then (λ t. run t more) (run s ls)) →
    option_and_then (λ t. run t (ls ++ more)) o ≡ option_and_then (λ t. run t more) (option_and_then (λ t. run t ls) o)
run_after ls more None each = refl
run_after ls more (Some s) each = each s

pub run-append : (s : Expected) (ls more : List StatedLine) → run s (ls ++ more) ≡ option_and_then (λ t. run t more) (run s ls)
run-append s [] more = refl
run-append s (l ∷ ls) more = run_after ls more (next s l) (λ t. run-append t ls more)

after_one : (s t : Expected) (l : StatedLine) (ls : List StatedLine) → next s l ≡ Some t → run s (l ∷ ls) ≡ run t ls
after_one s t l ls e = ap (option_and_then (λ t. run t ls)) e

member_step : (placed confirmed : Bool) (n : ℕ) → placed ≡ confirmed → after_member placed confirmed n ≡ Some (expect_members n confirmed)
member_step true true n e = refl
member_step true false n e = absurd (true≢false e)
member_step false true n e = absurd (true≢false (sym e))
member_step false false n e = refl

-- some members
pub run_members : (ms : List StatedMember) (confirmed : Bool) (n k : ℕ) (rest : List StatedLine) → n ≡ length ms + k → All (λ m. is_some m.place ≡ confirmed) ms →
    run (expect_members n confirmed) (map member ms ++ rest) ≡ run (expect_members k confirmed) rest
run_members [] confirmed n k rest counted placed = ap (λ j. run (expect_members j confirmed) rest) (omega arith)
run_members (m ∷ ms) confirmed zero k rest counted placed = absurd (omega arith)
run_members (m ∷ ms) confirmed (suc n) k rest counted placed =
    after_one (needs n confirmed) (expect_members n confirmed) (member m) (map member ms ++ rest)
    (member_step (is_some m.place) confirmed n (All-head (λ (x : StatedMember). is_some x.place ≡ confirmed) m ms placed))
    ∙ run_members ms confirmed n k rest (omega (arith, counted)) (All-tail (λ (x : StatedMember). is_some x.place ≡ confirmed) m ms placed)

abbrev pub last_of : Option ℕ → List Derived → Option ℕ
last_of o [] = o
last_of o (d ∷ ds) = last_of (Some d.place) ds

entry_step : (o : Option ℕ) (d : Derived) → next (derives o) (entry d) ≡ Some (derives (Some d.place))
entry_step None d = refl
entry_step (Some p) d = refl

-- some entries
pub run_entries : (ds : List Derived) (o : Option ℕ) (rest : List StatedLine) → run (derives o) (map entry ds ++ rest) ≡ run (derives (last_of o ds)) rest
run_entries [] o rest = refl
run_entries (d ∷ ds) o rest =
    after_one (derives o) (derives (Some d.place)) (entry d) (map entry ds ++ rest) (entry_step o d) ∙ run_entries ds (Some d.place) rest

last_next : (d : Derived) (n k : ℕ) (es : List Derived) → n ≡ suc k → option_map_or (λ (x : Derived). x.place) (slice_get (d ∷ es) n) 0 ≡ option_map_or (λ (x : Derived). x.place) (slice_get es k) 0
last_next d n k es e = ap (λ j. option_map_or (λ (x : Derived). x.place) (slice_get (d ∷ es) j) 0) e

pub last_of_some : (d : Derived) (ds : List Derived) (o : Option ℕ) → last_of o (d ∷ ds) ≡ Some (last_derived_place (d ∷ ds))
last_of_some d [] o = refl
last_of_some d (e ∷ es) o =
    last_of_some e es (Some d.place) ∙ ap Some (sym (last_next d (length (d ∷ e ∷ es) - 1) (length (e ∷ es) - 1) (e ∷ es) (omega arith)))

last_of_nonempty : (ds : List Derived) (o : Option ℕ) → 0 < length ds → last_of o ds ≡ Some (last_derived_place ds)
last_of_nonempty [] o some = absurd (omega arith)
last_of_nonempty (d ∷ ds) o some = last_of_some d ds o

conclusion_step : (p thread : ℕ) → next (derives (Some p)) (conclusion thread p) ≡ Some (derives None)
conclusion_step p thread = ap (λ b. cond b (Some (derives None)) None) (eq-eqb p p refl)

-- a whole step
run_step : (step : ExplainedStep) (rest : List StatedLine) → 0 < length step.derivation → run (derives None) (step_parts step ++ rest) ≡ run (derives None) rest
run_step step rest some =
    let last = last_derived_place step.derivation in
    let end = conclusion step.thread last in
    ap (run (derives None)) (append_assoc (map entry step.derivation) (end ∷ []) rest)
    ∙ (run_entries step.derivation None (end ∷ rest)
    ∙ (ap (λ o. run (derives o) (end ∷ rest)) (last_of_nonempty step.derivation None some)
    ∙ after_one (derives (Some last)) (derives None) end rest (conclusion_step last step.thread)))

-- whole steps
pub run_steps : (done : List ExplainedStep) (rest : List StatedLine) → All (λ step. 0 < length step.derivation) done → run (derives None) (flat_map step_parts done ++ rest) ≡ run (derives None) rest
run_steps [] rest derived = refl
run_steps (step ∷ done) rest derived =
    ap (run (derives None)) (append_assoc (step_parts step) (flat_map step_parts done) rest)
    ∙ (run_step step (flat_map step_parts done ++ rest) (All-head (λ (s : ExplainedStep). 0 < length s.derivation) step done derived)
    ∙ run_steps done rest (All-tail (λ (s : ExplainedStep). 0 < length s.derivation) step done derived))

-- a cycle may begin
abbrev pub begins : Expected → Bool
begins start = true
begins closed = true
begins (derives None) = true
begins _ = false

pub row_step : (s : Expected) (cycle : List ℕ) (confirmed : Bool) → begins s ≡ true → next s (row cycle confirmed) ≡ Some (expect_members (length cycle) confirmed)
row_step start cycle confirmed b = refl
row_step closed cycle confirmed b = refl
row_step (needs n c) cycle confirmed b = absurd (true≢false (sym b))
row_step needs_places cycle confirmed b = absurd (true≢false (sym b))
row_step (derives None) cycle confirmed b = refl
row_step (derives (Some p)) cycle confirmed b = absurd (true≢false (sym b))

abbrev pub after_evidence : StatedEvidence → Expected
after_evidence (witness order) = closed
after_evidence (refutation done) = derives None

run_evidence : (e : StatedEvidence) (rest : List StatedLine) → DerivePlaces e → run (expect_members 0 (is_witness e)) (evidence_parts e ++ rest) ≡ run (after_evidence e) rest
run_evidence (witness order) rest derived = refl
run_evidence (refutation done) rest derived = run_steps done rest derived

begins_after : (e : StatedEvidence) → begins (after_evidence e) ≡ true
begins_after (witness order) = refl
begins_after (refutation done) = refl

run_cycle : (s : Expected) (c : StatedCycle) (rest : List StatedLine) → begins s ≡ true → IsStatedCycle c → run s (cycle_parts c ++ rest) ≡ run (after_evidence c.evidence) rest
run_cycle s c rest b is =
    let confirmed = is_witness c.evidence in
    let parts = map member c.members ++ evidence_parts c.evidence in
    after_one s (expect_members (length c.cycle) confirmed) (row c.cycle confirmed) (parts ++ rest) (row_step s c.cycle confirmed b)
    ∙ (ap (run (expect_members (length c.cycle) confirmed)) (append_assoc (map member c.members) (evidence_parts c.evidence) rest)
    ∙ (run_members c.members confirmed (length c.cycle) 0 (evidence_parts c.evidence ++ rest) (omega (arith, is.each)) is.placed
    ∙ run_evidence c.evidence rest is.derived))

abbrev pub after_cycles : Expected → List StatedCycle → Expected
after_cycles s [] = s
after_cycles s (c ∷ cs) = after_cycles (after_evidence c.evidence) cs

pub begins_after_cycles : (s : Expected) (cs : List StatedCycle) → begins s ≡ true → begins (after_cycles s cs) ≡ true
begins_after_cycles s [] b = b
begins_after_cycles s (c ∷ cs) b = begins_after_cycles (after_evidence c.evidence) cs (begins_after c.evidence)

run_cycles : (s : Expected) (cs : List StatedCycle) (rest : List StatedLine) → begins s ≡ true → All IsStatedCycle cs → run s (flat_map cycle_parts cs ++ rest) ≡ run (after_cycles s cs) rest
run_cycles s [] rest b are = refl
run_cycles s (c ∷ cs) rest b are =
    ap (run s) (append_assoc (cycle_parts c) (flat_map cycle_parts cs) rest)
    ∙ (run_cycle s c (flat_map cycle_parts cs ++ rest) b (All-head IsStatedCycle c cs are)
    ∙ run_cycles (after_evidence c.evidence) cs rest (begins_after c.evidence) (All-tail IsStatedCycle c cs are))

abbrev pub start_of : Option ReportHead → Expected
start_of None = start
start_of (Some h) = closed

pub begins_start : (o : Option ReportHead) → begins (start_of o) ≡ true
begins_start None = refl
begins_start (Some h) = refl

run_head : (o : Option ReportHead) (rest : List StatedLine) → run start (map head (option_to_list o) ++ rest) ≡ run (start_of o) rest
run_head None rest = refl
run_head (Some h) rest = refl

-- the first line, cycles and more
run_front : (o : Option ReportHead) (cs : List StatedCycle) (rest : List StatedLine) → All IsStatedCycle cs →
    run start (map head (option_to_list o) ++ (flat_map cycle_parts cs ++ rest)) ≡ run (after_cycles (start_of o) cs) rest
run_front o cs rest are = run_head o (flat_map cycle_parts cs ++ rest) ∙ run_cycles (start_of o) cs rest (begins_start o) are

-- what may come after a file
pub run_file : (f : Contents) → IsContents f → run start (file_parts f) ≡ Some (after_cycles (start_of f.head) f.cycles)
run_file f is = ap (λ l. run start (map head (option_to_list f.head) ++ l)) (sym (append-nil (flat_map cycle_parts f.cycles))) ∙ run_front f.head f.cycles [] is.cycles

abbrev pub expects_state : Expected → StatedState → Expected
expects_state s between = s
expects_state s (members cycle confirmed ms) = expect_members (length cycle - length ms) confirmed
expects_state s (unwitnessed cycle ms) = needs_places
expects_state s (steps cycle ms done entries) = derives (last_of None entries)

-- what may come after what was read
abbrev pub expects : StatedReading → Expected
expects r = expects_state (after_cycles (start_of r.head) r.cycles) r.state

run_state : (s : Expected) (t : StatedState) → begins s ≡ true → IsState t → run s (state_parts t) ≡ Some (expects_state s t)
run_state s between b is = refl
run_state s (members cycle confirmed ms) b is =
    let n = length cycle in
    after_one s (expect_members n confirmed) (row cycle confirmed) (map member ms) (row_step s cycle confirmed b)
    ∙ (ap (run (expect_members n confirmed)) (sym (append-nil (map member ms)))
    ∙ run_members ms confirmed n (n - length ms) [] (omega (arith, is.1)) is.0.placed)
run_state s (unwitnessed cycle ms) b is =
    let n = length cycle in
    after_one s (expect_members n true) (row cycle true) (map member ms) (row_step s cycle true b)
    ∙ (ap (run (expect_members n true)) (sym (append-nil (map member ms)))
    ∙ run_members ms true n 0 [] (omega (arith, is.1)) is.0.placed)
run_state s (steps cycle ms done entries) b is =
    let n = length cycle in
    let rest = flat_map step_parts done ++ map entry entries in
    after_one s (expect_members n false) (row cycle false) (map member ms ++ rest) (row_step s cycle false b)
    ∙ (run_members ms false n 0 rest (omega (arith, is.1)) is.0.placed
    ∙ (run_steps done (map entry entries) is.2
    ∙ (ap (run (derives None)) (sym (append-nil (map entry entries))) ∙ run_entries entries None [])))

pub run_reading : (r : StatedReading) → IsReading r → run start (reading_parts r) ≡ Some (expects r)
run_reading r is =
    run_front r.head r.cycles (state_parts r.state) is.cycles
    ∙ run_state (after_cycles (start_of r.head) r.cycles) r.state (begins_after_cycles (start_of r.head) r.cycles (begins_start r.head)) is.state

-- a line that may not come is the next one of no file
pub wrong_next : (r : StatedReading) (line : StatedLine) → (IsReading r → next (expects r) line ≡ None) → IsWrongNext r line
wrong_next r line none f rest is contents e =
    let after_read : run start (file_parts f) ≡ option_and_then (λ t. run t (line ∷ rest)) (Some (expects r)) =
    ap (run start) e ∙ (run-append start (reading_parts r) (line ∷ rest) ∙ ap (option_and_then (λ t. run t (line ∷ rest))) (run_reading r is)) in
    let stuck : run (expects r) (line ∷ rest) ≡ None = ap (option_and_then (λ t. run t rest)) (none is) in
    none-some (after_cycles (start_of f.head) f.cycles) (sym stuck ∙ (sym after_read ∙ run_file f contents))

-- a file may end
abbrev pub ends : Expected → Bool
ends closed = true
ends (derives None) = true
ends _ = false

pub ends_after : (s : Expected) (c : StatedCycle) (cs : List StatedCycle) → ends (after_cycles s (c ∷ cs)) ≡ true
ends_after s c (next ∷ cs) = ends_after (after_evidence c.evidence) next cs
ends_after s c [] = elim c.evidence as (λ e. ends (after_evidence e) ≡ true) [ witness order ↦ refl | refutation done ↦ refl ]

file_ends : (o : Option ReportHead) (cs : List StatedCycle) → 0 < length (file_lines (record { head = o; cycles = cs })) → ends (after_cycles (start_of o) cs) ≡ true
file_ends None [] some = absurd (omega arith)
file_ends (Some h) [] some = refl
file_ends o (c ∷ cs) some = ends_after (start_of o) c cs

-- where no file ends, what was read is no file
pub wrong_end : (r : StatedReading) → (IsReading r → ends (expects r) ≡ false) → (f : Contents) → IsReading r → IsContents f → file_parts f ≡ reading_parts r → ⊥
wrong_end r none f is contents e =
    let same = same_Some _ _ (sym (run_file f contents) ∙ (ap (run start) e ∙ run_reading r is)) in
    true≢false (sym (file_ends f.head f.cycles contents.some) ∙ (ap ends same ∙ none is))
