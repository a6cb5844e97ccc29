-- One more row of a task.
use Rattle.std.proofs.Common.{◌≡◌, ℕ, ◌+◌, ◌-◌, ◌^◌, ◌<◌, min, cond, List, [], ◌∷◌, ◌++◌, length, flat_map, sym, ap, ◌∙◌, arith, length-append}
use Rattle.std.proofs.lemmas.List.{length-map, map-append}
use Rattle.std.proofs.lemmas.List.Sums.{count_by-le-length, sum_by-append, sum_by-cons}
use Rattle.trace_model.specs.declared.limits.TheConstants.{MAX_REPORT}
use Rattle.trace_model.specs.Theory.Rows.{Row}
use Rattle.reports.specs.Printed.{PrintedRow}
use Rattle.reports.specs.Text.{is_confirmed_row, row_text}
use Rattle.offline_report.specs.Offline.{HasRows, IsSize}
use Rattle.offline_report.proofs.Pieces.{added}

-- The number of bytes of one more text.
sizes_more : (old size new : ℕ) (before text after : List ℕ) → IsSize old before → size ≡ min (length text) (MAX_REPORT + 1) → new ≡ min (old + size) (2 ^ 64 - 1) →
    after ≡ before ++ text → IsSize new after
sizes_more old size new before text after h is sum all =
    let long = ap length all ∙ length-append before text in
    record {
      least = omega (arith, h.least, is, sum, long);
      exact = λ few. let same = h.exact (omega (arith, few, is, sum)) in omega (arith, same, few, is, sum, long);
    }

pub has_more : (rows : List PrintedRow) (row : PrintedRow) (kept new : List Row) (old bytes size confirmed certain flag : ℕ) → HasRows rows kept old confirmed →
    new ≡ kept ++ row.row ∷ [] → length new < 2 ^ 64 → size ≡ min (length (row_text row)) (MAX_REPORT + 1) → bytes ≡ min (old + size) (2 ^ 64 - 1) →
    certain ≡ min (confirmed + flag) (2 ^ 64 - 1) → flag ≡ cond (is_confirmed_row row) 1 0 → HasRows (rows ++ row ∷ []) new bytes certain
has_more rows row kept new old bytes size confirmed certain flag h is few sized sum certainly one =
    let all = is ∙ ap (λ (l : List Row). l ++ row.row ∷ []) h.plain ∙ sym (map-append (λ (p : PrintedRow). p.row) rows (row ∷ [])) in
    let many = ap length all ∙ length-map (rows ++ row ∷ []) (λ (p : PrintedRow). p.row) in
    let yes = sum_by-append (λ (p : PrintedRow). cond (is_confirmed_row p) 1 0) rows (row ∷ []) in
    let last = sum_by-cons (λ (p : PrintedRow). cond (is_confirmed_row p) 1 0) row [] in
    let some = count_by-le-length is_confirmed_row (rows ++ row ∷ []) in
    record {
      plain = all;
      bytes = sizes_more old size bytes (flat_map row_text rows) (row_text row) (flat_map row_text (rows ++ row ∷ [])) h.bytes sized sum (added row_text rows row);
      confirmed = omega (arith, certainly, h.confirmed, yes, last, one, some, many, few);
    }
