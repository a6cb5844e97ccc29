use Rattle.std.proofs.Common.{codes, sym, ap, ◌∙◌, arith}
use Rattle.std.proofs.lemmas.List.{take_all}
use Rattle.trace_model.specs.Theory.Rows.{Evidence}
use Rattle.reports.proofs.Places.{witness_done, witness_next}
use Rattle.reports.proofs.Windows.{window_of}
use Rattle.reports.proofs.row_cursor.put_witness.Goals as goal

pub returns-in-Some : goal.returns-in-Some
returns-in-Some c =
    witness_next c.args.found.now c.found.inside.witness c.args.run c.put_numbers-in-Some.result c.in-Some.range.start c.in-Some.range.end c.put_numbers-in-Some.new.piece.text.items
    (sym (ap (λ (e : Evidence). e.witness) c.found.view_is)) c.if-run.false c.in-Some.ensures c.put_numbers-in-Some.ensures.numbers c.put_numbers-in-Some.ensures.end

pub returns-in-None : goal.returns-in-None
returns-in-None c =
    let piece = c.take.new.self in
    let kept = window_of 0 c.begin.new.self.skip piece.skip c.begin.new.self.text.items piece.text.items (codes "\n") (omega arith) c.begin.ensures.from c.begin.ensures.empty c.take.ensures in
    witness_done c.args.found.now c.found.inside.witness c.args.run piece.text.items (sym (ap (λ (e : Evidence). e.witness) c.found.view_is)) c.if-run.false c.in-None.ensures
    (kept ∙ take_all 4096 (codes "\n") (omega arith))
