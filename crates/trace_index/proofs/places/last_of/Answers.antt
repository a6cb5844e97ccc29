use Rattle.std.proofs.Common.{◌≡◌, ℕ, Option, Some, None, IsSome, refl, ap, ◌∙◌}
use Rattle.std.proofs.lemmas.Bool.{false≢true}
use Rattle.std.specs.Option.{option_or}
use Rattle.std.specs.HashMap.{get}
use Rattle.trace_index.specs.Links.{same_key}
use Rattle.trace_index.proofs.places.last_of.Goals as goal

first_of : (o other : Option ℕ) → IsSome o → o ≡ option_or o other
first_of None other some = absurd (false≢true some)
first_of (Some x) other some = refl

pub returns-in-Some : goal.returns-in-Some
returns-in-Some c =
    let older = get same_key c.args.older.now.places c.args.key in
    first_of c.last_at.result older c.last_at.ensures.some ∙ ap (λ o. option_or o older) c.last_at.ensures.value
