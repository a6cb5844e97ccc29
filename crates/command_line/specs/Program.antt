-- The commands of the program, and what the words of a command line say.
use Rattle.std.specs.Prelude.{◌≡◌, ℕ, pos, Bool, true, false, List, [], ◌∷◌, Option, Some, None, Ok, codes, option_map}
use Rattle.std.specs.Str.Parse.{ParsesUnsigned}
use Rattle.std.specs.Borrow.{Bor}
use Rattle.clap.specs.Words.{App, Row, Rule, Text, app_of, first_of, new_app, new_rule, one_of, subcommand_of, with_rule, with_subcommand}
use Rattle.clap.specs.declared.builder.action.ArgAction.TheVariants.{SetTrue}
use Rattle.clap.specs.declared.builder.value_parser.ValueParser.TheVariants as parsers
use Rattle.clap.specs.declared.builder.command.Command.{Command}
use Rattle.command_line.specs.declared.Invocation.{Invocation}
use Rattle.command_line.specs.declared.Invocation.TheVariants.{Serve, Script, Offline, Replay, Explain, Check}

-- a required argument without a name, which takes the next word
abbrev pub positional : Text → Rule
positional id = record (new_rule id) { value_names = 1; required = true }

-- an option `--id NUMBER`
abbrev pub number_option : Text → ℕ → ℕ → Rule
number_option id least most = record (new_rule id) {
  long = Some id;
  value_names = 1;
  parser = Some (parsers.Signed (pos least) (pos most));
}

-- an option with a default
abbrev pub or_else : Rule → Text → Rule
or_else rule text = record rule { defaults = text ∷ [] }

abbrev pub limit_rule : Rule
limit_rule = or_else (number_option (codes "limit") 1 1_048_576) (codes "1048576")

abbrev pub workers_rule : Rule
workers_rule = or_else (number_option (codes "workers") 1 16) (codes "1")

abbrev pub sessions_rule : Rule
sessions_rule = or_else (number_option (codes "sessions") 0 1_000_000) (codes "0")

abbrev pub idle_rule : Rule
idle_rule = or_else (number_option (codes "idle") 0 86_400) (codes "0")

-- a flag `--id`
abbrev pub flag_rule : Text → Rule
flag_rule id = record (new_rule id) { long = Some id; action = Some SetTrue }

abbrev pub bound_rule : Rule
bound_rule = record (number_option (codes "bound") 2 8) { required = true }

abbrev pub cycle_rule : Rule
cycle_rule = record (new_rule (codes "cycle")) { long = Some (codes "cycle"); value_names = 1 }

-- `serve` with the arguments that say how much it serves
abbrev pub sized_serve_app : App
sized_serve_app = with_rule (with_rule (with_rule (with_rule (new_app (codes "serve"))
    (positional (codes "address"))) workers_rule) sessions_rule) limit_rule

-- the commands, each with its arguments in the order of their words
abbrev pub serve_app : App
serve_app = with_rule (with_rule (with_rule sized_serve_app idle_rule)
    (flag_rule (codes "stop-at-eof"))) (flag_rule (codes "log"))

abbrev pub script_app : App
script_app = with_rule (with_rule (new_app (codes "script")) (positional (codes "file"))) limit_rule

abbrev pub offline_app : App
offline_app =
    with_rule (with_rule (new_app (codes "offline")) (positional (codes "file"))) bound_rule

abbrev pub replay_app : App
replay_app = with_rule (with_rule (new_app (codes "replay")) (positional (codes "trace")))
    (positional (codes "witness"))

abbrev pub explain_app : App
explain_app = with_rule (with_rule (with_rule (new_app (codes "explain"))
    (positional (codes "file"))) bound_rule) cycle_rule

abbrev pub check_app : App
check_app = with_rule (with_rule (new_app (codes "check")) (positional (codes "trace")))
    (positional (codes "file"))

-- the program's name, before its commands are added
abbrev pub bare_app : App
bare_app = let new = new_app (codes "goodlockd") in
    record new { top = record new.top { has_version = true; subcommand_required = true } }

-- the program
abbrev pub goodlockd : App
goodlockd = with_subcommand (with_subcommand (with_subcommand (with_subcommand (with_subcommand
    (with_subcommand bare_app serve_app.top) script_app.top) offline_app.top) replay_app.top)
    explain_app.top) check_app.top

-- the program is the old one with this command
abbrev pub TakesCommand : Command → Command → Command → Type 0
TakesCommand old command new =
    app_of new ≡ with_subcommand (app_of old) (app_of command).top

-- the argument is this text
abbrev pub SaysText : List Row → Text → Bor Text → Type 0
SaysText rows id text = first_of id rows ≡ Some text.now

-- the argument is a numeral of this number
abbrev pub SaysNumber : List Row → Text → ℕ → Type 0
SaysNumber rows id number = (text : Text) × (one_of id rows ≡ Some text)
    × ParsesUnsigned {E = Unit {0}} 32 10 text (Ok number)

-- the flag is set if it is given, and only then: `clap` gives a flag the text `true` or `false`
abbrev pub SaysFlag : List Row → Text → Bool → Type 0
SaysFlag rows id flag = (one_of id rows ≡ Some (codes "true") → flag ≡ true)
    × (one_of id rows ≡ Some (codes "false") → flag ≡ false)
    × (one_of id rows ≡ None → flag ≡ false)

-- the name of a command
abbrev pub command_name : Invocation → Text
command_name (Serve address workers sessions limit idle stop log) = codes "serve"
command_name (Script file limit) = codes "script"
command_name (Offline file bound) = codes "offline"
command_name (Replay trace witness) = codes "replay"
command_name (Explain file bound cycle) = codes "explain"
command_name (Check trace file) = codes "check"

-- each text and number of the command is that of its argument
abbrev pub SaysCommand : List Row → Invocation → Type 0
SaysCommand rows (Serve address workers sessions limit idle stop log) =
    SaysText rows (codes "address") address × SaysNumber rows (codes "workers") workers
    × SaysNumber rows (codes "sessions") sessions × SaysNumber rows (codes "limit") limit
    × SaysNumber rows (codes "idle") idle × SaysFlag rows (codes "stop-at-eof") stop
    × SaysFlag rows (codes "log") log
SaysCommand rows (Script file limit) =
    SaysText rows (codes "file") file × SaysNumber rows (codes "limit") limit
SaysCommand rows (Offline file bound) =
    SaysText rows (codes "file") file × SaysNumber rows (codes "bound") bound
SaysCommand rows (Replay trace witness) =
    SaysText rows (codes "trace") trace × SaysText rows (codes "witness") witness
SaysCommand rows (Explain file bound cycle) =
    SaysText rows (codes "file") file × SaysNumber rows (codes "bound") bound
    × (first_of (codes "cycle") rows ≡ option_map (λ text. text.now) cycle)
SaysCommand rows (Check trace file) =
    SaysText rows (codes "trace") trace × SaysText rows (codes "file") file

-- the command has this name, and its texts and numbers are those of its arguments
abbrev pub SaysNamed : Text → List Row → Invocation → Type 0
SaysNamed name rows invocation = (command_name invocation ≡ name) × SaysCommand rows invocation

-- the rows are those of the command's own name, and each text and number is that of its argument
abbrev pub SaysMatches : Option (Text × List Row) → Invocation → Type 0
SaysMatches found invocation = (rows : List Row)
    × (found ≡ Some (command_name invocation, rows)) × SaysCommand rows invocation

-- the words, of which the first names the program, say the command: `clap` gives each argument of
-- the command the words in its place, or its default
abbrev pub SaysInvocation : List Text → Invocation → Type 0
SaysInvocation words invocation = SaysMatches (subcommand_of goodlockd words) invocation
