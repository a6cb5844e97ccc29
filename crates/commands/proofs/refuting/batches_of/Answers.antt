use Rattle.std.proofs.Common.{◌≡◌, [], ◌∷◌, ◌++◌, sym, ap, ◌∙◌, append_assoc, append-nil}
use Rattle.std.specs.Global.{Vec}
use Rattle.trace_model.specs.Theory.Rows.{Row}
use Rattle.commands.specs.Explain.{all_rows}
use Rattle.commands.proofs.Batches.{all_rows-push, rows_so_far}
use Rattle.commands.proofs.refuting.batches_of.Goals as goal
use Rattle.commands.proofs.refuting.batches_of.Goals.{then-len-eq-BATCH+in_ok-push, else-len-eq-BATCH}

pub loop-row-preserved : goal.loop-row-preserved
loop-row-preserved c =
    let row = c.in-Some-row.row in
    let v = c.loop-row.invariant in
    let before = c.loop-row.batches.items in
    let part = c.loop-row.batch in
    let batches = c.if-len-eq-BATCH.batches.items in
    let batch = c.if-len-eq-BATCH.batch in
    let same : rows_so_far batches batch ≡ rows_so_far before part = elim c.if-len-eq-BATCH.branch [
      | then-len-eq-BATCH+in_ok-push w ↦ (λ i. rows_so_far (w.batches-is i).items (w.batch-is i))
          ∙ (λ i. all_rows (w.in_ok-push.ensures.items i) ++ (w.replace.ensures.after i).items)
          ∙ (λ i. all_rows-push before w.replace.result i ++ w.new.ensures.items i)
          ∙ append-nil (all_rows before ++ w.replace.result.items) ∙ ap (λ (v : Vec Row). all_rows before ++ v.items) w.replace.ensures.value
      | else-len-eq-BATCH w ↦ λ i. rows_so_far (w.batches-is i).items (w.batch-is i)
    ] in
    record {
      have = ap (λ l. all_rows batches ++ l) c.in_ok-push-2.ensures.items ∙ sym (append_assoc (all_rows batches) batch.items (row ∷ []))
          ∙ ap (λ l. l ++ row ∷ []) (same ∙ v.have) ∙ append_assoc (rows_so_far c.loop-rows.batches.items c.loop-rows.batch) c.loop-row.yielded (row ∷ []);
      rest = append_assoc c.loop-row.yielded (row ∷ []) c.next-in-loop-row.new.self.rest.items
          ∙ ap (λ xs. c.loop-row.yielded ++ xs) (sym c.in-Some-row.ensures.steps.0) ∙ v.rest;
    }
