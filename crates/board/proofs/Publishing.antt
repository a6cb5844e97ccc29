-- Publishing an extension of the published run preserves the rule of the board.
use Rattle.std.proofs.Common.{◌≡◌, ◌≢◌, ◌+◌, ◌==◌, ℕ, arith, length-append, fold, Option, None, Some, Bool, true, false, List, [], ◌∷◌, ◌++◌, cond, set, length, refl, sym, ap, subst, ◌∙◌, ⊎_elim, append_assoc}
use Rattle.std.proofs.lemmas.List.{append-nil}
use Rattle.std.specs.Prelude.{nat_lt, IsOk, MatchBool, MatchResult}
use Rattle.core.specs.declared.result.Result.{Result}
use Rattle.core.specs.declared.result.Result.TheVariants.{Ok, Err}
use Rattle.std.proofs.lemmas.Bool.Decides.{nat_tests}
use mathlib.Core.Option.{some}
use mathlib.Core.List.{IsPrefix}
use lib.ListN.{get_elem?}
use Rattle.left_right.specs.Register.{Admits, Turns, TurnsAt}
use Rattle.atomic_table.proofs.Lists.{at_set, at_snoc}
use Rattle.trace_model.specs.declared.messages.step.BoardStep.{BoardStep}
use Rattle.trace_model.specs.declared.limits.TheConstants.{MAX_EVENTS}
use Rattle.trace_model.specs.Protocol.Machine.{opening}
use Rattle.trace_model.specs.Protocol.Runs.{IsLegal}
use Rattle.board.specs.Fits.{longer_run}
use Rattle.board.specs.Rules.{IsBoard, ReportsEntry, seen_after}

pub begins_itself : {A : Type 0} (xs : List A) → IsPrefix xs xs
begins_itself xs = ([], append-nil xs)

pub begins_through : {A : Type 0} (xs ys zs : List A) → IsPrefix xs ys → IsPrefix ys zs → IsPrefix xs zs
begins_through xs ys zs p q = (p.0 ++ q.0, sym (append_assoc xs p.0 q.0) ∙ (ap (λ w. w ++ q.0) p.1 ∙ q.1))

-- a new view that has seen nothing is always allowed
pub admits : Admits IsBoard []
admits published views board = record {
  legal = board.legal;
  each = λ seat seen at. ⊎_elim (board.each seat seen)
      (λ (none : [] ≡ seen). subst (λ (xs : List BoardStep). IsPrefix xs published) none (published, refl))
      (at_snoc views [] seen seat at);
}

-- the published run is extended, and one view becomes a prefix of it
pub goes_on : (before after : List BoardStep) (views : List (List BoardStep)) (seat : ℕ) (seen : List BoardStep) → IsBoard before views → IsLegal after
    → IsPrefix before after → IsPrefix seen after → IsBoard after (set views seat seen)
goes_on before after views seat seen board legal later begins = record {
  legal = legal;
  each = λ other sees at. ⊎_elim
      (λ (own : (other ≡ seat) × (seen ≡ sees)). subst (λ (xs : List BoardStep). IsPrefix xs after) own.1 begins)
      (λ (elses : (other ≢ seat) × (get_elem? views other ≡ some sees)). begins_through sees before after (board.each other sees elses.1) later)
      (at_set views seat other seen sees at);
}

-- either of two prefixes is a prefix
either_begins : (b : Bool) (seen published : List BoardStep) → IsPrefix seen published → IsPrefix (cond b seen published) published
either_begins true seen published begins = begins
either_begins false seen published begins = begins_itself published

pub entering : (reported seat : ℕ) (seen : List BoardStep) → Turns IsBoard seat seen (λ x. x) (λ v x y w. ReportsEntry reported v x w)
entering reported seat seen published views board at =
    let begins = board.each seat seen at in (
      seen_after reported seen published,
      goes_on published published views seat (seen_after reported seen published) board board.legal (begins_itself published)
          (either_begins (nat_lt (length published) reported) seen published begins),
      record { legal = board.legal; later = begins; is = refl },
    )

module _ {X : Type 0} (run : X → List BoardStep) (holds : X → List (List BoardStep) → Type 0) where
  pub publishing : ((x : X) (views : List (List BoardStep)) → holds x views → IsBoard (run x) views)
      → ((x : X) (views : List (List BoardStep)) → IsBoard (run x) views → holds x views)
      → (seat : ℕ) (seen : List BoardStep) (before after : X) → IsLegal (run after) → IsPrefix (run before) (run after)
      → TurnsAt holds seat seen before after (λ v x y w. w ≡ run y)
  publishing ruled kept seat seen before after legal later views board at = (
    run after,
    kept after (set views seat (run after)) (goes_on (run before) (run after) views seat (run after) (ruled before views board) legal later (begins_itself (run after))),
    refl,
  )

-- the empty list is a legal run
pub nothing : IsLegal []
nothing = (opening MAX_EVENTS, refl)

pub next_follows : (run next : List BoardStep) (step : BoardStep) → next ≡ run ++ step ∷ [] → longer_run run next ≡ next
next_follows run next step is =
    let one : length next ≡ length run + 1 = omega (arith, ap length is, length-append run (step ∷ [])) in
    let test : (length next == length run + 1) ≡ true = grind (arith, nat_tests) in
    rw test refl

-- what holds after a success
pub of_ok : {A E : Type 0} (P : A → Type 0) (Q : E → Type 0) (r : Result A E) → IsOk r → MatchResult r P Q → (a : A) × P a
of_ok P Q (Ok a) ok is = (a, is)
of_ok P Q (Err e) ok is = absurd (subst (λ (b : Bool). MatchBool b ⊥ (Unit {0})) ok tt)

-- the value that absorbs the waiting change shows the next run
pub next_run : {X S : Type 0} (run : X → List BoardStep) (state : X → S) (applied : S → Option (List BoardStep) → S) → ((shown : S) → applied shown None ≡ shown)
    → ((s t : X) (next : List BoardStep) → state t ≡ applied (state s) (Some next) → run t ≡ longer_run (run s) next)
    → (s t : X) (next : List BoardStep) (step : BoardStep) → next ≡ run s ++ step ∷ [] → state t ≡ fold applied (state s) (None ∷ Some next ∷ []) → run t ≡ next
next_run run state applied idle follows s t next step ends is =
    follows s t next (is ∙ ap (λ shown. applied shown (Some next)) (idle (state s))) ∙ next_follows (run s) next step ends
