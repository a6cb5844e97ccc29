use Rattle.std.proofs.Common.{◌≡◌, ◌+◌, ◌-◌, ◌++◌, refl, sym, ap, subst, ◌∙◌, arith, append-nil}
use Rattle.reports.specs.Sinks.{KeepsWindow}
use Rattle.reports.specs.Text.{run_text}
use Rattle.reports.proofs.Runs.{run_pushed}
use Rattle.reports.proofs.piece.Piece.take_run.Goals as goal

pub loop-number-init : goal.loop-number-init
loop-number-init c =
    let first = c.args.first in
    let none : 0 ≡ first - first = omega arith in
    record {
      least = omega arith;
      most = omega arith;
      taken = λ taken has. subst (KeepsWindow c.args.self.now.skip c.args.self.now.text.items) (sym (append-nil taken) ∙ ap (λ n. taken ++ run_text first n) none) has;
    }

pub loop-number-preserved : goal.loop-number-preserved
loop-number-preserved c =
    let first = c.args.first in
    let number = c.loop-number.number in
    let more : number - first + 1 ≡ number + 1 - first = omega arith in
    record {
      least = omega arith;
      most = omega arith;
      taken = λ taken has.
          subst (KeepsWindow c.take_number.new.self.skip c.take_number.new.self.text.items)
          (run_pushed taken _ _ first (number - first) number (omega arith) refl refl ∙ ap (λ n. taken ++ run_text first n) more)
          (c.take_number.ensures (taken ++ run_text first (number - first)) (c.loop-number.invariant.taken taken has));
    }
