use Rattle.std.proofs.Common.{◌≡◌, ◌&&◌, ◌++◌, ◌∙◌, Bool, true, false, List, ℕ, ap, length, map, refl, sym, subst}
use Rattle.trace_model.specs.Theory.Trace.{Trace}
use Rattle.std.specs.List.{flat_map}
use Rattle.event_files.specs.ExplainedText.{stated_cycle}
use Rattle.event_files.specs.declared.explanations.Explained.{Explained}
use Rattle.commands.specs.Check.{AddsRows, checked_lines}
use Rattle.commands.specs.CheckWords.{head_verdict_line}
use Rattle.commands.specs.declared.exit.Status.TheVariants.{Done, Refused}
use Rattle.std.specs.Prelude.{if◌then◌else◌}
use Rattle.commands.proofs.check_command.check_all.Goals as goal
use Rattle.commands.proofs.check_command.check_all.Goals.{then-is_head_valid+then-are_rows_valid, else-is_head_valid, else-is_head_valid-via-then-is_head_valid+else-are_rows_valid, else-is_head_valid-via-else-is_head_valid}
use Rattle.dependencies.specs.Tables.{HasDependenciesOf}

both_done : (a b : Bool) → a ≡ true → b ≡ true → Done ≡ (if a && b then Done else Refused)
both_done a b x y = λ i. if (sym x i) && (sym y i) then Done else Refused

rows_wrong : (a b : Bool) → b ≡ false → Refused ≡ (if a && b then Done else Refused)
rows_wrong true b y = λ i. if (sym y i) then Done else Refused
rows_wrong false b y = refl

head_wrong : (a b : Bool) → a ≡ false → Refused ≡ (if a && b then Done else Refused)
head_wrong a b x = λ i. if (sym x i) && b then Done else Refused

pub push_rows-requires-clause-table : goal.push_rows-requires-clause-table
push_rows-requires-clause-table g c κs within = subst (λ (s : Trace). HasDependenciesOf c.in_ok-table.table s (length s)) (sym c.in_ok-checker.ensures) c.in_ok-table.ensures

pub returns : goal.returns
returns g c =
    let s = c.args.events.now in
    let (heads, heads_are, heads_valid, heads_grew) = c.in_ok-is_head_valid.ensures in
    let added = subst (λ (l : List Explained). AddsRows s (map stated_cycle l) c.in_ok-are_rows_valid.are_rows_valid c.push_head.new.text.items c.push_rows.new.text.items) c.deref.ensures.value
    (subst (λ (t : Trace). AddsRows t (map stated_cycle c.deref.result.now) c.in_ok-are_rows_valid.are_rows_valid c.push_head.new.text.items c.push_rows.new.text.items) c.in_ok-checker.ensures c.in_ok-are_rows_valid.ensures) in
    let (rows, rows_are, rows_valid, rows_grew) = added in
    let ended : c.if-is_head_valid.status ≡ (if c.in_ok-is_head_valid.is_head_valid && c.in_ok-are_rows_valid.are_rows_valid then Done else Refused) = elim c.if-is_head_valid.branch [
      | then-is_head_valid+then-are_rows_valid w ↦ rw w.status-is (both_done _ _ w.if-is_head_valid.true w.if-are_rows_valid.true)
      | else-is_head_valid w ↦ rw w.status-is (elim w.else-is_head_valid.branch [
        | else-is_head_valid-via-then-is_head_valid+else-are_rows_valid v ↦ rows_wrong _ _ v.if-are_rows_valid.false
        | else-is_head_valid-via-else-is_head_valid v ↦ head_wrong _ _ v.if-is_head_valid.false
      ])
    ] in
    record {
      head = heads;
      rows = rows;
      head_is = heads_are;
      rows_are = rows_are;
      printed = rows_grew ∙ ap (λ l. l ++ checked_lines (map stated_cycle c.args.file.now.cycles.items) rows) (heads_grew ∙ ap (λ (l : List ℕ). l ++ flat_map head_verdict_line heads) c.new-text.ensures.items);
      ended = ended ∙ (λ i. if (heads_valid i) && (rows_valid i) then Done else Refused);
    }
