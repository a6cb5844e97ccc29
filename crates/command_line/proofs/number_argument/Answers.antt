use Rattle.std.proofs.Common.{refl}
use Rattle.std.specs.Str.Parse.{ParsesUnsigned, ExplainsUnsignedError, HasUnsignedDigitsIfOk}
use Rattle.clap.specs.Words.{found_of, one_text}
use Rattle.command_line.proofs.Numbers.{says_number}
use Rattle.command_line.proofs.number_argument.Goals as goal

pub returns-then-value-most-clause-said : goal.returns-then-value-most-clause-said
returns-then-value-most-clause-said c =
    let found = found_of c.args.matches.now in
    says_number (λ t outcome. ParsesUnsigned 32 10 t outcome × ExplainsUnsignedError 10 t outcome × HasUnsignedDigitsIfOk t outcome) (λ t n gives. gives.0) found c.args.id.now c.get_one.result c.in_ok-value.value c.in_ok-value.was c.get_one.ensures.none c.get_one.ensures.value (one_text found c.args.id.now) refl
