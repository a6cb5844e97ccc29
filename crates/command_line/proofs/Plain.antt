-- Commands of the program: a plain one has no global argument.
use Rattle.std.proofs.Common.{◌≡◌, Bool, true, false, not, refl, sym, ap, ◌∙◌}
use Rattle.std.specs.Prelude.{◌&&◌}
use Rattle.std.proofs.lemmas.Bool.{true≢false}
use Rattle.clap.specs.Words.{App, app_of, with_subcommand}
use Rattle.clap.specs.declared.builder.command.Command.{Command}
use Rattle.command_line.specs.Program.{TakesCommand}

pub third_is_false : (a b c more : Bool) → (a && (not b && (not c && more))) ≡ true → c ≡ false
third_is_false a b false more h = refl
third_is_false false b true more h = absurd (true≢false (sym h))
third_is_false true true true more h = absurd (true≢false (sym h))
third_is_false true false true more h = absurd (true≢false (sym h))

-- the program with one more command, from what the program and the command are
pub taken : (old new command : Command) (a b : App) → app_of old ≡ a → app_of command ≡ b → TakesCommand old command new → app_of new ≡ with_subcommand a b.top
taken old new command a b old_is command_is takes =
    takes ∙ ap (λ (x : App). with_subcommand x (app_of command).top) old_is ∙ ap (λ (x : App). with_subcommand a x.top) command_is
