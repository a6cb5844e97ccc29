use Rattle.std.proofs.Common.{◌≡◌, ◌+◌, ◌<◌, ℕ, List, [], ◌∷◌, ◌++◌, Some, append_assoc, arith, get_or, length, slice_get, take, sym, ap, ◌∙◌}
use Rattle.std.specs.Prelude.{option_to_list}
use Rattle.std.specs.List.{flat_map}
use Rattle.std.proofs.lemmas.List.{append-nil, take_more}
use Rattle.std.proofs.lemmas.List.Concat.{flat_map-append, flat_map-cons}
use Rattle.std.proofs.lemmas.Option.{slice_get_past}
use Rattle.trace_model.specs.Theory.Dependencies.{Dependency}
use Rattle.dependencies.specs.Tables.{table_dependencies}
use Rattle.offline_report.proofs.printing.push_members.Goals as goal
use Rattle.offline_report.proofs.printing.push_members.Goals.{then-number-len+in_ok-push, else-number-len}

module _ (ds : List Dependency) (numbers : List ℕ) (i : ℕ) (within : i < length numbers) where
  abbrev found : ℕ → List Dependency
  found m = option_to_list (slice_get ds m)

  -- What is found at one more number is appended.
  one_more : (before old new own : List Dependency) → old ≡ before ++ flat_map found (take i numbers) → own ≡ found (get_or numbers i 0) → new ≡ old ++ own →
      new ≡ before ++ flat_map found (take (i + 1) numbers)
  one_more before old new own so at is =
      let m = get_or numbers i 0 in
      let all : flat_map found (take (i + 1) numbers) ≡ flat_map found (take i numbers) ++ found m =
      ap (flat_map found) (take_more numbers i 0 within) ∙ flat_map-append found (take i numbers) (m ∷ [])
      ∙ ap (λ (l : List Dependency). flat_map found (take i numbers) ++ l) (flat_map-cons found m [] ∙ append-nil (found m)) in
      is ∙ (λ j. so j ++ at j) ∙ append_assoc before (flat_map found (take i numbers)) (found m)
      ∙ ap (λ (l : List Dependency). before ++ l) (sym all)

pub loop-number-preserved : goal.loop-number-preserved
loop-number-preserved c =
    let ds = table_dependencies c.args.table.now in
    let numbers = c.args.numbers.now in
    let i = c.loop-number.number-index in
    let before = c.args.members.now.items in
    let old = c.loop-number.members.items in
    elim c.if-number-len.branch [
      | then-number-len+in_ok-push w ↦
          rw w.members-is (one_more ds numbers i c.loop-number-test.true before old w.push.new.self.items (w.copied.result ∷ []) c.loop-number.invariant
          (sym (ap option_to_list (w.get.ensures ∙ ap (λ (d : Dependency). Some d) (sym w.copied.ensures)))) w.in_ok-push.ensures.items)
      | else-number-len w ↦
          rw w.members-is (one_more ds numbers i c.loop-number-test.true before old old [] c.loop-number.invariant
          (sym (ap option_to_list (slice_get_past ds (get_or numbers i 0) (omega (arith, w.if-number-len.false, c.len.ensures.value))))) (sym (append-nil old)))
    ]
