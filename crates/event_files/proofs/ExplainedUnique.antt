-- The lines of a file of explained cycles are those of one file alone.
use Rattle.std.proofs.Common.{◌≡◌, ℕ, ◌<◌, Bool, true, false, List, [], ◌∷◌, ◌++◌, Option, Some, None, length, map, refl, sym, ap, ◌∙◌, arith, append_assoc}
use Rattle.std.specs.Prelude.{option_to_list}
use Rattle.std.specs.List.{All, flat_map}
use Rattle.std.proofs.lemmas.Bool.{true≢false}
use Rattle.std.proofs.lemmas.List.Elements.{All-head, All-tail}
use Rattle.trace_model.specs.declared.refutations.Derived.{Derived}
use Rattle.event_files.specs.Refutations.{last_derived_place}
use Rattle.event_files.specs.declared.explanations.ReportHead.{ReportHead}
use Rattle.event_files.specs.declared.explanations.ExplainedStep.{ExplainedStep}
use Rattle.event_files.specs.ExplainedLines.{StatedLine, conclusion, entry, head, member, row}
use Rattle.event_files.specs.ExplainedText.{Contents, DerivePlaces, IsContents, IsStatedCycle, StatedCycle, StatedEvidence, StatedMember, is_witness, refutation, witness}
use Rattle.event_files.specs.ExplainedReading.{cycle_parts, evidence_parts, file_parts, step_parts}

-- the lines are none, or the first is that of a cycle
abbrev begins_cycle : List StatedLine → Bool
begins_cycle [] = true
begins_cycle (row c b ∷ more) = true
begins_cycle _ = false

cycles_begin : (cs : List StatedCycle) → begins_cycle (flat_map cycle_parts cs) ≡ true
cycles_begin [] = refl
cycles_begin (c ∷ cs) = refl

same_members : (ms ns : List StatedMember) (a b : List StatedLine) → length ms ≡ length ns → map member ms ++ a ≡ map member ns ++ b → (ms ≡ ns) × (a ≡ b)
same_members [] [] a b sized e = (refl, e)
same_members [] (n ∷ ns) a b sized e = absurd (omega arith)
same_members (m ∷ ms) [] a b sized e = absurd (omega arith)
same_members (m ∷ ms) (n ∷ ns) a b sized e =
    let first : m ≡ n = cc in
    let rest : map member ms ++ a ≡ map member ns ++ b = cc in
    let same = same_members ms ns a b (omega (arith, sized)) rest in
    ((λ i. first i ∷ same.0 i), same.1)

same_entries : (es ds : List Derived) (t u p q : ℕ) (a b : List StatedLine) → map entry es ++ conclusion t p ∷ a ≡ map entry ds ++ conclusion u q ∷ b → (es ≡ ds) × (t ≡ u) × (a ≡ b)
same_entries [] [] t u p q a b e = let thread : t ≡ u = cc in let rest : a ≡ b = cc in (refl, thread, rest)
same_entries [] (d ∷ ds) t u p q a b e = absurd (cc)
same_entries (x ∷ es) [] t u p q a b e = absurd (cc)
same_entries (x ∷ es) (d ∷ ds) t u p q a b e =
    let first : x ≡ d = cc in
    let rest : map entry es ++ conclusion t p ∷ a ≡ map entry ds ++ conclusion u q ∷ b = cc in
    let same = same_entries es ds t u p q a b rest in
    ((λ i. first i ∷ same.0 i), same.1, same.2)

same_step : (s t : ExplainedStep) (a b : List StatedLine) → step_parts s ++ a ≡ step_parts t ++ b → (s ≡ t) × (a ≡ b)
same_step s t a b e =
    let same = same_entries s.derivation t.derivation s.thread t.thread (last_derived_place s.derivation) (last_derived_place t.derivation) a b
    (sym (append_assoc (map entry s.derivation) (conclusion s.thread (last_derived_place s.derivation) ∷ []) a)
    ∙ (e ∙ append_assoc (map entry t.derivation) (conclusion t.thread (last_derived_place t.derivation) ∷ []) b)) in
    ((λ i. record { thread = same.1 i; derivation = same.0 i }), same.2)

-- a step does not begin as a cycle
no_cycle : (es : List Derived) (a b x : List StatedLine) → 0 < length es → begins_cycle x ≡ true → x ≡ map entry es ++ a ++ b → ⊥
no_cycle [] a b x some begins e = absurd (omega arith)
no_cycle (d ∷ es) a b x some begins e = true≢false (sym begins ∙ ap begins_cycle e)

abbrev Derives : ExplainedStep → Type 0
Derives s = 0 < length s.derivation

same_steps : (ss ts : List ExplainedStep) (a b : List StatedLine) → All Derives ss → All Derives ts → begins_cycle a ≡ true → begins_cycle b ≡ true →
    flat_map step_parts ss ++ a ≡ flat_map step_parts ts ++ b → (ss ≡ ts) × (a ≡ b)
same_steps [] [] a b left right abegins bbegins e = (refl, e)
same_steps [] (t ∷ ts) a b left right abegins bbegins e =
    absurd (no_cycle t.derivation (conclusion t.thread (last_derived_place t.derivation) ∷ []) (flat_map step_parts ts ++ b) a (All-head Derives t ts right) abegins (e ∙ append_assoc (step_parts t) (flat_map step_parts ts) b))
same_steps (s ∷ ss) [] a b left right abegins bbegins e =
    absurd (no_cycle s.derivation (conclusion s.thread (last_derived_place s.derivation) ∷ []) (flat_map step_parts ss ++ a) b (All-head Derives s ss left) bbegins (sym e ∙ append_assoc (step_parts s) (flat_map step_parts ss) a))
same_steps (s ∷ ss) (t ∷ ts) a b left right abegins bbegins e =
    let first = same_step s t (flat_map step_parts ss ++ a) (flat_map step_parts ts ++ b)
    (sym (append_assoc (step_parts s) (flat_map step_parts ss) a) ∙ (e ∙ append_assoc (step_parts t) (flat_map step_parts ts) b)) in
    let rest = same_steps ss ts a b (All-tail Derives s ss left) (All-tail Derives t ts right) abegins bbegins first.1 in
    ((λ i. first.0 i ∷ rest.0 i), rest.1)

same_evidence : (u v : StatedEvidence) (a b : List StatedLine) → is_witness u ≡ is_witness v → DerivePlaces u → DerivePlaces v → begins_cycle a ≡ true → begins_cycle b ≡ true →
    evidence_parts u ++ a ≡ evidence_parts v ++ b → (u ≡ v) × (a ≡ b)
same_evidence (witness o) (witness p) a b same left right abegins bbegins e = let order : o ≡ p = cc in let rest : a ≡ b = cc in (ap witness order, rest)
same_evidence (witness o) (refutation ts) a b same left right abegins bbegins e = absurd (true≢false same)
same_evidence (refutation ss) (witness p) a b same left right abegins bbegins e = absurd (true≢false (sym same))
same_evidence (refutation ss) (refutation ts) a b same left right abegins bbegins e =
    let steps = same_steps ss ts a b left right abegins bbegins e in (ap refutation steps.0, steps.1)

same_cycle : (c d : StatedCycle) (a b : List StatedLine) → IsStatedCycle c → IsStatedCycle d → begins_cycle a ≡ true → begins_cycle b ≡ true → cycle_parts c ++ a ≡ cycle_parts d ++ b → (c ≡ d) × (a ≡ b)
same_cycle c d a b left right abegins bbegins e =
    let numbers : c.cycle ≡ d.cycle = cc in
    let verdict : is_witness c.evidence ≡ is_witness d.evidence = cc in
    let tails : map member c.members ++ evidence_parts c.evidence ++ a ≡ map member d.members ++ evidence_parts d.evidence ++ b = cc in
    let sized : length c.members ≡ length d.members = left.each ∙ (ap length numbers ∙ sym right.each) in
    let members = same_members c.members d.members (evidence_parts c.evidence ++ a) (evidence_parts d.evidence ++ b) sized
    (sym (append_assoc (map member c.members) (evidence_parts c.evidence) a) ∙ (tails ∙ append_assoc (map member d.members) (evidence_parts d.evidence) b)) in
    let rest = same_evidence c.evidence d.evidence a b verdict left.derived right.derived abegins bbegins members.1 in
    ((λ i. record { cycle = numbers i; members = members.0 i; evidence = rest.0 i }), rest.1)

same_cycles : (cs ds : List StatedCycle) → All IsStatedCycle cs → All IsStatedCycle ds → flat_map cycle_parts cs ≡ flat_map cycle_parts ds → cs ≡ ds
same_cycles [] [] left right e = refl
same_cycles [] (d ∷ ds) left right e = absurd (cc)
same_cycles (c ∷ cs) [] left right e = absurd (cc)
same_cycles (c ∷ cs) (d ∷ ds) left right e =
    let first = same_cycle c d (flat_map cycle_parts cs) (flat_map cycle_parts ds) (All-head IsStatedCycle c cs left) (All-head IsStatedCycle d ds right) (cycles_begin cs) (cycles_begin ds) e in
    let rest = same_cycles cs ds (All-tail IsStatedCycle c cs left) (All-tail IsStatedCycle d ds right) first.1 in
    λ i. first.0 i ∷ rest i

head_apart : (h : ReportHead) (more : List StatedLine) (cs : List StatedCycle) → head h ∷ more ≡ flat_map cycle_parts cs → ⊥
head_apart h more cs e = true≢false (sym (ap begins_cycle e ∙ cycles_begin cs))

same_parts : (h k : Option ReportHead) (cs ds : List StatedCycle) → All IsStatedCycle cs → All IsStatedCycle ds →
    map head (option_to_list h) ++ flat_map cycle_parts cs ≡ map head (option_to_list k) ++ flat_map cycle_parts ds → (h ≡ k) × (cs ≡ ds)
same_parts None None cs ds left right e = (refl, same_cycles cs ds left right e)
same_parts None (Some k) cs ds left right e = absurd (head_apart k (flat_map cycle_parts ds) cs (sym e))
same_parts (Some h) None cs ds left right e = absurd (head_apart h (flat_map cycle_parts cs) ds e)
same_parts (Some h) (Some k) cs ds left right e =
    let first : h ≡ k = cc in let rest : flat_map cycle_parts cs ≡ flat_map cycle_parts ds = cc in (ap Some first, same_cycles cs ds left right rest)

-- files with the same lines are the same
pub same_file : (f g : Contents) → IsContents f → IsContents g → file_parts f ≡ file_parts g → f ≡ g
same_file f g left right e =
    let same = same_parts f.head g.head f.cycles g.cycles left.cycles right.cycles e in
    λ i. record { head = same.0 i; cycles = same.1 i }
