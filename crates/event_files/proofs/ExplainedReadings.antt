-- What is read of a file of explained cycles after the next line.
use Rattle.std.proofs.Common.{◌≡◌, ℕ, zero, suc, ◌-◌, ◌<◌, ◌≤◌, ◌^◌, Bool, true, false, not, cond, eqb, List, [], ◌∷◌, ◌++◌, Option, Some, None, length, map, refl, sym, ap, subst, ◌∙◌, arith, append_assoc, nat_lt, lit<}
use Rattle.std.specs.Prelude.{is_some, option_to_list}
use Rattle.std.specs.List.{All, flat_map}
use Rattle.std.proofs.lemmas.Bool.{ne_eqb, true≢false}
use Rattle.std.proofs.lemmas.Bool.Decides.{nat_tests}
use mathlib.Core.Bool.{beq}
use Rattle.std.proofs.lemmas.Grind.{flat_map-append}
use Rattle.std.proofs.lemmas.List.{append-nil, length-append, map-append}
use Rattle.std.proofs.lemmas.List.Elements.{All-append, All-cons, All-nil, All-push, All-same}
use Rattle.trace_model.specs.declared.refutations.Derived.{Derived}
use Rattle.event_files.specs.NumberedText.{AreSmall}
use Rattle.event_files.specs.Refutations.{last_derived_place}
use Rattle.event_files.specs.declared.explanations.ReportHead.{ReportHead}
use Rattle.event_files.specs.declared.explanations.ExplainedStep.{ExplainedStep}
use Rattle.event_files.specs.declared.explained_reading.State.{State}
use Rattle.event_files.specs.declared.explained_reading.State.TheVariants.{Between, Members, Unwitnessed, Steps}
use Rattle.event_files.specs.ExplainedLines.{StatedLine, head, row, member, places, entry, conclusion}
use Rattle.event_files.specs.ExplainedText.{IsContents, IsStatedCycle, StatedCycle, StatedEvidence, StatedMember, entry_numbers, file_lines, head_numbers, is_witness, member_numbers, refutation, stated_member, step_numbers, witness}
use Rattle.event_files.specs.ExplainedReading.{ReadsStatedLine, IsDraft, IsReading, AreCompleteCycles, IsState, IsWrongNext, StatedReading, StatedState, between, cycle_parts, ends_potential, file_parts, may_end, members, reading_parts, cycle_state, state_parts, stated_state, step_parts, steps, unwitnessed, with_state}
use Rattle.event_files.proofs.ExplainedOrder.{Expected, start, closed, needs, needs_places, derives, after_cycles, after_evidence, after_member, after_needs, ends, ends_after, expect_members, expects, last_of, last_of_some, next, start_of, wrong_next}

abbrev pub reading : Option ReportHead → List StatedCycle → StatedState → StatedReading
reading h cs s = record { head = h; cycles = cs; state = s }

last_settled : (P : Expected → Type 0) (v : StatedEvidence) → not (is_witness v) ≡ false → P closed → P (after_evidence v)
last_settled P (witness order) e p = p
last_settled P (refutation done) e p = absurd (true≢false e)

settled_some : (P : Expected → Type 0) (s : Expected) (c : StatedCycle) (cs : List StatedCycle) → ends_potential (c ∷ cs) ≡ false → P closed → P (after_cycles s (c ∷ cs))
settled_some P s c (more ∷ cs) e p = settled_some P (after_evidence c.evidence) more cs e p
settled_some P s c [] e p = last_settled P c.evidence e p

-- what may come after cycles of which the last one is confirmed
settled : (P : Expected → Type 0) (h : Option ReportHead) (cs : List StatedCycle) → ends_potential cs ≡ false → P start → P closed → P (after_cycles (start_of h) cs)
settled P None [] e first p = first
settled P (Some h) [] e first p = p
settled P h (c ∷ cs) e first p = settled_some P (start_of h) c cs e p

-- a line that is no member's does not come where a member is missing
needs_none : (l : StatedLine) (n : ℕ) (confirmed : Bool) → ((k : ℕ) → after_needs k confirmed l ≡ None) → 0 < n → next (expect_members n confirmed) l ≡ None
needs_none l zero confirmed none some = absurd (omega arith)
needs_none l (suc n) confirmed none some = none n

derives_none : (l : StatedLine) (o : Option ℕ) → next (derives None) l ≡ None → ((p : ℕ) → next (derives (Some p)) l ≡ None) → next (derives o) l ≡ None
derives_none l None none some = none
derives_none l (Some p) none some = some p

pub wrong_entry : (h : Option ReportHead) (cs : List StatedCycle) (s : State) (d : Derived) → ((c : _) (ms : _) (done : _) (es : _) → s ≡ Steps c ms done es → ⊥) → IsWrongNext (reading h cs (stated_state s)) (entry d)
wrong_entry h cs Between d other = wrong_next (reading h cs between) (entry d) (λ is. settled (λ t. next t (entry d) ≡ None) h cs is.settled refl refl)
wrong_entry h cs (Members c b ms) d other =
    wrong_next (reading h cs (stated_state (Members c b ms))) (entry d) (λ is. needs_none (entry d) (length c - length (map stated_member ms.items)) b (λ k. refl) (omega (arith, is.state.1)))
wrong_entry h cs (Unwitnessed c ms) d other = wrong_next (reading h cs (stated_state (Unwitnessed c ms))) (entry d) (λ is. refl)
wrong_entry h cs (Steps c ms done es) d other = absurd (other c ms done es refl)

pub wrong_conclusion : (h : Option ReportHead) (cs : List StatedCycle) (s : State) (t p : ℕ) → ((c : _) (ms : _) (done : _) (es : _) → s ≡ Steps c ms done es → ⊥) → IsWrongNext (reading h cs (stated_state s)) (conclusion t p)
wrong_conclusion h cs Between t p other = wrong_next (reading h cs between) (conclusion t p) (λ is. settled (λ x. next x (conclusion t p) ≡ None) h cs is.settled refl refl)
wrong_conclusion h cs (Members c b ms) t p other =
    wrong_next (reading h cs (stated_state (Members c b ms))) (conclusion t p) (λ is. needs_none (conclusion t p) (length c - length (map stated_member ms.items)) b (λ k. refl) (omega (arith, is.state.1)))
wrong_conclusion h cs (Unwitnessed c ms) t p other = wrong_next (reading h cs (stated_state (Unwitnessed c ms))) (conclusion t p) (λ is. refl)
wrong_conclusion h cs (Steps c ms done es) t p other = absurd (other c ms done es refl)

pub wrong_places : (h : Option ReportHead) (cs : List StatedCycle) (s : State) (order : List ℕ) → ((c : _) (ms : _) → s ≡ Unwitnessed c ms → ⊥) → IsWrongNext (reading h cs (stated_state s)) (places order)
wrong_places h cs Between order other = wrong_next (reading h cs between) (places order) (λ is. settled (λ x. next x (places order) ≡ None) h cs is.settled refl refl)
wrong_places h cs (Members c b ms) order other =
    wrong_next (reading h cs (stated_state (Members c b ms))) (places order) (λ is. needs_none (places order) (length c - length (map stated_member ms.items)) b (λ k. refl) (omega (arith, is.state.1)))
wrong_places h cs (Unwitnessed c ms) order other = absurd (other c ms refl)
wrong_places h cs (Steps c ms done es) order other =
    wrong_next (reading h cs (stated_state (Steps c ms done es))) (places order) (λ is. derives_none (places order) (last_of None es.items) refl (λ p. refl))

pub wrong_member : (h : Option ReportHead) (cs : List StatedCycle) (s : State) (m : StatedMember) → ((c : _) (b : _) (ms : _) → s ≡ Members c b ms → ⊥) → IsWrongNext (reading h cs (stated_state s)) (member m)
wrong_member h cs Between m other = wrong_next (reading h cs between) (member m) (λ is. settled (λ x. next x (member m) ≡ None) h cs is.settled refl refl)
wrong_member h cs (Members c b ms) m other = absurd (other c b ms refl)
wrong_member h cs (Unwitnessed c ms) m other = wrong_next (reading h cs (stated_state (Unwitnessed c ms))) (member m) (λ is. refl)
wrong_member h cs (Steps c ms done es) m other =
    wrong_next (reading h cs (stated_state (Steps c ms done es))) (member m) (λ is. derives_none (member m) (last_of None es.items) refl (λ p. refl))

unplaced : (placed confirmed : Bool) (n : ℕ) → (placed ≡ confirmed → ⊥) → after_member placed confirmed n ≡ None
unplaced true true n other = absurd (other refl)
unplaced true false n other = refl
unplaced false true n other = refl
unplaced false false n other = absurd (other refl)

-- a member with a place in a potential cycle, or without one in a confirmed one
pub wrong_place : (h : Option ReportHead) (cs : List StatedCycle) (c : List ℕ) (b : Bool) (ms : List StatedMember) (m : StatedMember) → (is_some m.place ≡ b → ⊥) → IsWrongNext (reading h cs (members c b ms)) (member m)
wrong_place h cs c b ms m other =
    wrong_next (reading h cs (members c b ms)) (member m) (λ is. needs_none (member m) (length c - length ms) b (λ k. unplaced (is_some m.place) b k other) (omega (arith, is.state.1)))

not_last : (es : List Derived) (t p : ℕ) → ((0 < length es) × (last_derived_place es ≡ p) → ⊥) → next (derives (last_of None es)) (conclusion t p) ≡ None
not_last [] t p other = refl
not_last (d ∷ ds) t p other =
    let differs : eqb (last_derived_place (d ∷ ds)) p ≡ false = ne_eqb (last_derived_place (d ∷ ds)) p (λ same. other (omega arith, same)) in
    ap (λ o. next (derives o) (conclusion t p)) (last_of_some d ds None) ∙ ap (λ b. cond b (Some (derives None)) None) differs

-- a conclusion about another place
pub wrong_last : (h : Option ReportHead) (cs : List StatedCycle) (c : List ℕ) (ms : List StatedMember) (done : List ExplainedStep) (es : List Derived) (t p : ℕ) →
    ((0 < length es) × (last_derived_place es ≡ p) → ⊥) → IsWrongNext (reading h cs (steps c ms done es)) (conclusion t p)
wrong_last h cs c ms done es t p other = wrong_next (reading h cs (steps c ms done es)) (conclusion t p) (λ is. not_last es t p other)

-- a cycle after one that may not end
pub wrong_row : (h : Option ReportHead) (cs : List StatedCycle) (s : StatedState) (cycle : List ℕ) (confirmed : Bool) → may_end s ≡ false → IsWrongNext (reading h cs s) (row cycle confirmed)
wrong_row h cs between cycle confirmed more = absurd (true≢false more)
wrong_row h cs (members c b ms) cycle confirmed more =
    wrong_next (reading h cs (members c b ms)) (row cycle confirmed) (λ is. needs_none (row cycle confirmed) (length c - length ms) b (λ k. refl) (omega (arith, is.state.1)))
wrong_row h cs (unwitnessed c ms) cycle confirmed more = wrong_next (reading h cs (unwitnessed c ms)) (row cycle confirmed) (λ is. refl)
wrong_row h cs (steps c ms done []) cycle confirmed more = absurd (true≢false more)
wrong_row h cs (steps c ms done (d ∷ ds)) cycle confirmed more =
    wrong_next (reading h cs (steps c ms done (d ∷ ds))) (row cycle confirmed) (λ is. ap (λ o. next (derives o) (row cycle confirmed)) (last_of_some d ds None))

head_none : (s : Expected) (f : ReportHead) → ends s ≡ true → next s (head f) ≡ None
head_none start f e = absurd (true≢false (sym e))
head_none closed f e = refl
head_none (needs n b) f e = refl
head_none needs_places f e = refl
head_none (derives None) f e = refl
head_none (derives (Some p)) f e = refl

-- a first line after another line
pub wrong_head : (h : Option ReportHead) (cs : List StatedCycle) (s : StatedState) (f : ReportHead) → (reading h cs s ≡ reading None [] between → ⊥) → IsWrongNext (reading h cs s) (head f)
wrong_head None [] between f other = absurd (other refl)
wrong_head (Some h) [] between f other = wrong_next (reading (Some h) [] between) (head f) (λ is. refl)
wrong_head h (c ∷ cs) between f other =
    wrong_next (reading h (c ∷ cs) between) (head f) (λ is. head_none (after_cycles (start_of h) (c ∷ cs)) f (ends_after (start_of h) c cs))
wrong_head h cs (members c b ms) f other =
    wrong_next (reading h cs (members c b ms)) (head f) (λ is. needs_none (head f) (length c - length ms) b (λ k. refl) (omega (arith, is.state.1)))
wrong_head h cs (unwitnessed c ms) f other = wrong_next (reading h cs (unwitnessed c ms)) (head f) (λ is. refl)
wrong_head h cs (steps c ms done es) f other =
    wrong_next (reading h cs (steps c ms done es)) (head f) (λ is. derives_none (head f) (last_of None es) refl (λ p. refl))

needs_end : (n : ℕ) (b : Bool) → 0 < n → ends (expect_members n b) ≡ false
needs_end zero b some = absurd (omega arith)
needs_end (suc n) b some = refl

-- where the cycle may not end, the file does not
pub open_end : (h : Option ReportHead) (cs : List StatedCycle) (s : StatedState) → may_end s ≡ false → IsReading (reading h cs s) → ends (expects (reading h cs s)) ≡ false
open_end h cs between more is = absurd (true≢false more)
open_end h cs (members c b ms) more is = needs_end (length c - length ms) b (omega (arith, is.state.1))
open_end h cs (unwitnessed c ms) more is = refl
open_end h cs (steps c ms done []) more is = absurd (true≢false more)
open_end h cs (steps c ms done (d ∷ ds)) more is = ap (λ o. ends (derives o)) (last_of_some d ds None)

push_line : (a b d : List StatedLine) (l : StatedLine) → a ++ (b ++ (d ++ l ∷ [])) ≡ a ++ (b ++ d) ++ l ∷ []
push_line a b d l = ap (λ x. a ++ x) (sym (append_assoc b d (l ∷ []))) ∙ sym (append_assoc a (b ++ d) (l ∷ []))

-- the lines that were read of a cycle, and the next one
adds_line : (h : Option ReportHead) (cs : List StatedCycle) (s t : StatedState) (l : StatedLine) → state_parts t ≡ state_parts s ++ l ∷ [] →
    reading_parts (reading h cs t) ≡ reading_parts (reading h cs s) ++ l ∷ []
adds_line h cs s t l e =
    ap (λ x. map head (option_to_list h) ++ (flat_map cycle_parts cs ++ x)) e ∙ push_line (map head (option_to_list h)) (flat_map cycle_parts cs) (state_parts s) l

pub follows_entry : (h : Option ReportHead) (cs : List StatedCycle) (c : List ℕ) (ms : List StatedMember) (done : List ExplainedStep) (es new : List Derived) (d : Derived) →
    new ≡ es ++ d ∷ [] → ReadsStatedLine (reading h cs (steps c ms done es)) (entry d) (reading h cs (steps c ms done new))
follows_entry h cs c ms done es new d are is line =
    let small = All-append (λ k. k < 2 ^ 32) (flat_map entry_numbers es) (entry_numbers d) is.state.4 line.small in
    let numbers : flat_map entry_numbers new ≡ flat_map entry_numbers es ++ entry_numbers d =
    ap (flat_map entry_numbers) are ∙ (flat_map-append entry_numbers es (d ∷ []) ∙ ap (λ x. flat_map entry_numbers es ++ x) (append-nil (entry_numbers d))) in
    let lines : map entry new ≡ map entry es ++ entry d ∷ [] = ap (map entry) are ∙ map-append entry es (d ∷ []) in (
      record {
        head_small = is.head_small;
        cycles = is.cycles;
        settled = tt;
        state = (is.state.0, is.state.1, is.state.2, is.state.3, subst AreSmall (sym numbers) small);
      },
      adds_line h cs (steps c ms done es) (steps c ms done new) (entry d)
          (ap (λ x. row c false ∷ (map member ms ++ (flat_map step_parts done ++ x))) lines
          ∙ ap (λ x. row c false ∷ x) (push_line (map member ms) (flat_map step_parts done) (map entry es) (entry d))),
    )

pub follows_conclusion : (h : Option ReportHead) (cs : List StatedCycle) (c : List ℕ) (ms : List StatedMember) (done new : List ExplainedStep) (es : List Derived) (t p : ℕ) →
    0 < length es → last_derived_place es ≡ p → new ≡ done ++ record { thread = t; derivation = es } ∷ [] →
    ReadsStatedLine (reading h cs (steps c ms done es)) (conclusion t p) (reading h cs (steps c ms new []))
follows_conclusion h cs c ms done new es t p some last are is line =
    let step : ExplainedStep = record { thread = t; derivation = es } in
    let S : ExplainedStep → Type 0 = λ x. 0 < length x.derivation in
    let P : ℕ → Type 0 = λ k. k < 2 ^ 32 in
    let small = All-append P (flat_map step_numbers done) (step_numbers step) is.state.3 (All-cons P t (flat_map entry_numbers es) (line.small 0 0 (lit< tt)) is.state.4) in
    let numbers : flat_map step_numbers new ≡ flat_map step_numbers done ++ step_numbers step =
    ap (flat_map step_numbers) are ∙ (flat_map-append step_numbers done (step ∷ []) ∙ ap (λ x. flat_map step_numbers done ++ x) (append-nil (step_numbers step))) in
    let lines : flat_map step_parts new ++ [] ≡ flat_map step_parts done ++ (map entry es ++ conclusion t p ∷ []) =
    append-nil (flat_map step_parts new)
    ∙ (ap (flat_map step_parts) are
    ∙ (flat_map-append step_parts done (step ∷ [])
    ∙ ap (λ x. flat_map step_parts done ++ x) (append-nil (step_parts step) ∙ ap (λ k. map entry es ++ conclusion t k ∷ []) last))) in (
      record {
        head_small = is.head_small;
        cycles = is.cycles;
        settled = tt;
        state = (is.state.0, is.state.1, All-same S new _ are (All-push S done step is.state.2 some), subst AreSmall (sym numbers) small, All-nil P);
      },
      adds_line h cs (steps c ms done es) (steps c ms new []) (conclusion t p)
          (ap (λ x. row c false ∷ (map member ms ++ x)) lines
          ∙ ap (λ x. row c false ∷ x) (push_line (map member ms) (flat_map step_parts done) (map entry es) (conclusion t p))),
    )

-- the state after members
record IsAfter (cs : List StatedCycle) (c : List ℕ) (b : Bool) (ms : List StatedMember) (s : StatedState) : Type 0 where
  state : IsState s
  settled : AreCompleteCycles cs s
  parts : state_parts s ≡ row c b ∷ map member ms

full_after : (cs : List StatedCycle) (c : List ℕ) (b : Bool) (ms : List StatedMember) → IsDraft c b ms → length ms ≡ length c →
    IsAfter cs c b ms (cond b (unwitnessed c ms) (steps c ms [] []))
full_after cs c true ms draft full = record { state = (draft, full); settled = tt; parts = refl }
full_after cs c false ms draft full = record {
  state = (draft, full, All-nil (λ (x : ExplainedStep). 0 < length x.derivation), All-nil (λ k. k < 2 ^ 32), All-nil (λ k. k < 2 ^ 32));
  settled = tt;
  parts = ap (λ x. row c false ∷ x) (append-nil (map member ms));
}

after_by : (cs : List StatedCycle) (c : List ℕ) (b : Bool) (ms : List StatedMember) (t : Bool) → nat_lt (length ms) (length c) ≡ t → IsDraft c b ms → length ms ≤ length c →
    IsAfter cs c b ms (cond t (members c b ms) (cond b (unwitnessed c ms) (steps c ms [] [])))
after_by cs c b ms true missing draft most = record { state = (draft, grind (arith, nat_tests)); settled = tt; parts = refl }
after_by cs c b ms false missing draft most = full_after cs c b ms draft (grind (arith, nat_tests))

pub follows_member : (h : Option ReportHead) (cs : List StatedCycle) (c : List ℕ) (b : Bool) (ms new : List StatedMember) (m : StatedMember) (s : StatedState) →
    is_some m.place ≡ b → new ≡ ms ++ m ∷ [] → s ≡ cycle_state c b new → ReadsStatedLine (reading h cs (members c b ms)) (member m) (reading h cs s)
follows_member h cs c b ms new m s placed are state is line =
    let draft : IsDraft c b new = record {
      low = is.state.0.low;
      high = is.state.0.high;
      small = is.state.0.small;
      placed = All-same (λ (x : StatedMember). is_some x.place ≡ b) new _ are (All-push (λ (x : StatedMember). is_some x.place ≡ b) ms m is.state.0.placed placed);
      members_small = All-same (λ (x : StatedMember). AreSmall (member_numbers x)) new _ are (All-push (λ (x : StatedMember). AreSmall (member_numbers x)) ms m is.state.0.members_small line.small);
    } in
    let most : length new ≤ length c = omega (arith, is.state.1, ap length are, length-append ms (m ∷ [])) in
    let after : IsAfter cs c b new s = subst (IsAfter cs c b new) (sym state) (after_by cs c b new (nat_lt (length new) (length c)) refl draft most) in (
      record { head_small = is.head_small; cycles = is.cycles; settled = after.settled; state = after.state },
      adds_line h cs (members c b ms) s (member m) (after.parts ∙ ap (λ x. row c b ∷ x) (ap (map member) are ∙ map-append member ms (m ∷ []))),
    )

ends_potential-push : (cs : List StatedCycle) (c : StatedCycle) → ends_potential (cs ++ c ∷ []) ≡ not (is_witness c.evidence)
ends_potential-push [] c = refl
ends_potential-push (x ∷ []) c = refl
ends_potential-push (x ∷ y ∷ cs) c = ends_potential-push (y ∷ cs) c

one_more_cycle : (cs : List StatedCycle) (c : StatedCycle) → flat_map cycle_parts (cs ++ c ∷ []) ≡ flat_map cycle_parts cs ++ cycle_parts c
one_more_cycle cs c = flat_map-append cycle_parts cs (c ∷ []) ∙ ap (λ x. flat_map cycle_parts cs ++ x) (append-nil (cycle_parts c))

pub follows_places : (h : Option ReportHead) (cs new : List StatedCycle) (c order : List ℕ) (ms : List StatedMember) →
    new ≡ cs ++ record { cycle = c; members = ms; evidence = witness order } ∷ [] → ReadsStatedLine (reading h cs (unwitnessed c ms)) (places order) (reading h new between)
follows_places h cs new c order ms are is line =
    let one : StatedCycle = record { cycle = c; members = ms; evidence = witness order } in
    let draft = is.state.0 in
    let right : IsStatedCycle one = record {
      low = draft.low;
      high = draft.high;
      each = is.state.1;
      placed = draft.placed;
      derived = tt;
      cycle_small = draft.small;
      members_small = draft.members_small;
      evidence_small = line.small;
    } in
    let front = map head (option_to_list h) in (
      record {
        head_small = is.head_small;
        cycles = All-same IsStatedCycle new _ are (All-push IsStatedCycle cs one is.cycles right);
        settled = ap ends_potential are ∙ ends_potential-push cs one;
        state = tt;
      },
      ap (λ x. front ++ x) (append-nil (flat_map cycle_parts new) ∙ (ap (flat_map cycle_parts) are ∙ one_more_cycle cs one))
          ∙ push_line front (flat_map cycle_parts cs) (row c true ∷ map member ms) (places order),
    )

-- the cycles with the one that may end are cycles, and have the lines that were read
pub record IsEnded (cs : List StatedCycle) (s : StatedState) (all : List StatedCycle) : Type 0 where
  pub cycles : All IsStatedCycle all
  pub parts : flat_map cycle_parts all ≡ flat_map cycle_parts cs ++ state_parts s

pub ended_reading : (h : Option ReportHead) (cs : List StatedCycle) (s : StatedState) → may_end s ≡ true → IsReading (reading h cs s) → IsEnded cs s (with_state cs s)
ended_reading h cs between whole is = record { cycles = is.cycles; parts = sym (append-nil (flat_map cycle_parts cs)) }
ended_reading h cs (members c b ms) whole is = absurd (true≢false (sym whole))
ended_reading h cs (unwitnessed c ms) whole is = absurd (true≢false (sym whole))
ended_reading h cs (steps c ms done (d ∷ ds)) whole is = absurd (true≢false (sym whole))
ended_reading h cs (steps c ms done []) whole is =
    let one : StatedCycle = record { cycle = c; members = ms; evidence = refutation done } in
    let draft = is.state.0 in
    let right : IsStatedCycle one = record {
      low = draft.low;
      high = draft.high;
      each = is.state.1;
      placed = draft.placed;
      derived = is.state.2;
      cycle_small = draft.small;
      members_small = draft.members_small;
      evidence_small = is.state.3;
    } in
    record {
      cycles = All-push IsStatedCycle cs one is.cycles right;
      parts = one_more_cycle cs one ∙ ap (λ x. flat_map cycle_parts cs ++ (row c false ∷ (map member ms ++ x))) (sym (append-nil (flat_map step_parts done)));
    }

pub follows_row : (h : Option ReportHead) (cs all : List StatedCycle) (s : StatedState) (c : List ℕ) (b : Bool) → may_end s ≡ true → all ≡ with_state cs s →
    ReadsStatedLine (reading h cs s) (row c b) (reading h all (members c b []))
follows_row h cs all s c b whole are is line =
    let ended : IsEnded cs s all = subst (IsEnded cs s) (sym are) (ended_reading h cs s whole is) in
    let front = map head (option_to_list h) in (
      record {
        head_small = is.head_small;
        cycles = ended.cycles;
        settled = tt;
        state = (
          record {
            low = line.sized.0;
            high = line.sized.1;
            small = line.small;
            placed = All-nil (λ (x : StatedMember). is_some x.place ≡ b);
            members_small = All-nil (λ (x : StatedMember). AreSmall (member_numbers x));
          },
          omega (arith, line.sized.0),
        );
      },
      ap (λ x. front ++ (x ++ row c b ∷ [])) ended.parts
          ∙ (ap (λ x. front ++ x) (append_assoc (flat_map cycle_parts cs) (state_parts s) (row c b ∷ []))
          ∙ push_line front (flat_map cycle_parts cs) (state_parts s) (row c b)),
    )

pub follows_head : (r : StatedReading) (f : ReportHead) → r ≡ reading None [] between → ReadsStatedLine r (head f) (reading (Some f) [] between)
follows_head r f empty is line = (
  record {
    head_small = All-cons (λ (x : ReportHead). AreSmall (head_numbers x)) f [] line.small (All-nil (λ (x : ReportHead). AreSmall (head_numbers x)));
    cycles = All-nil IsStatedCycle;
    settled = refl;
    state = tt;
  },
  ap (λ x. reading_parts x ++ head f ∷ []) (sym empty),
)

has_lines : (h : Option ReportHead) (cs : List StatedCycle) → (is_some h ≡ false → length cs ≡ 0 → ⊥) → 0 < length (file_lines (record { head = h; cycles = cs }))
has_lines None [] some = absurd (some refl refl)
has_lines (Some f) cs some = omega arith
has_lines None (c ∷ cs) some = omega arith

-- a file that was read whole
pub whole_file : (h : Option ReportHead) (cs all : List StatedCycle) (s : StatedState) → may_end s ≡ true → all ≡ with_state cs s → (is_some h ≡ false → length all ≡ 0 → ⊥) →
    IsReading (reading h cs s) → IsContents (record { head = h; cycles = all }) × (file_parts (record { head = h; cycles = all }) ≡ reading_parts (reading h cs s))
whole_file h cs all s whole are some is =
    let ended : IsEnded cs s all = subst (IsEnded cs s) (sym are) (ended_reading h cs s whole is) in (
      record { some = has_lines h all some; head_small = is.head_small; cycles = ended.cycles },
      ap (λ x. map head (option_to_list h) ++ x) ended.parts,
    )

empty_with : (cs : List StatedCycle) (s : StatedState) → may_end s ≡ true → length (with_state cs s) ≡ 0 → (cs ≡ []) × (s ≡ between)
empty_with [] between whole none = (refl, refl)
empty_with (c ∷ cs) between whole none = absurd (omega arith)
empty_with cs (members c b ms) whole none = absurd (true≢false (sym whole))
empty_with cs (unwitnessed c ms) whole none = absurd (true≢false (sym whole))
empty_with cs (steps c ms done es) whole none = absurd (omega (arith, length-append cs (record { cycle = c; members = ms; evidence = refutation done } ∷ [])))

-- nothing was read
pub empty_end : (h : Option ReportHead) (cs all : List StatedCycle) (s : StatedState) → may_end s ≡ true → all ≡ with_state cs s → is_some h ≡ false → length all ≡ 0 →
    ends (expects (reading h cs s)) ≡ false
empty_end (Some f) cs all s whole are none empty = absurd (true≢false none)
empty_end None cs all s whole are none empty =
    let e = empty_with cs s whole (ap length (sym are) ∙ empty) in
    λ i. ends (expects (reading None (e.0 i) (e.1 i)))

differ_same : (b : Bool) → not (beq b b) ≡ true → ⊥
differ_same true e = true≢false (sym e)
differ_same false e = true≢false (sym e)

pub differ : (a b : Bool) → not (beq a b) ≡ true → a ≡ b → ⊥
differ a b apart same = differ_same b (subst (λ x. not (beq x b) ≡ true) same apart)

pub same_bool : (a b : Bool) → not (beq a b) ≡ false → a ≡ b
same_bool true true e = refl
same_bool true false e = absurd (true≢false e)
same_bool false true e = absurd (true≢false e)
same_bool false false e = refl
