use Rattle.std.proofs.Common.{◌≡◌, ◌-◌, ◌≤◌, ◌++◌, max}
use Rattle.reports.specs.Text.{run_text}
use Rattle.reports.proofs.numeral_cache.append_run.Given as goal

abbrev pub invariant-loop-numeral : goal.invariant-loop-numeral
invariant-loop-numeral l = record {
  least : l.first ≤ l.numeral.number;
  most : l.numeral.number ≤ max l.first l.end;
  text : l.text.items ≡ l.initial.text.items ++ run_text l.first (l.numeral.number - l.first);
}

abbrev pub decreases-loop-numeral : goal.decreases-loop-numeral
decreases-loop-numeral l = l.end - l.numeral.number
