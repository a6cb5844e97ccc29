use Rattle.std.proofs.Common.{◌≡◌, ◌≢◌, ℕ, true, false, List, [], ◌∷◌, ◌++◌, Bor, Option, Some, None, Result, Ok, Err, IfErr, IfOk, replicate, sym, ◌∙◌}
use Rattle.std.specs.Prelude.{MatchOption, slice_get}
use Rattle.trace_model.specs.declared.traces.event.Event.{Event}
use Rattle.event_files.specs.declared.refused.FileRefused.{FileRefused}
use Rattle.event_files.specs.EventFile.{is_comment, line_words, pieces_at, spaced_words, KeepsLine, RefusesLine}
use Rattle.event_files.proofs.FirstLines.{comment_kept, plain_kept, plain_refused, spaces_kept, spaces_refused}
use Rattle.event_files.proofs.event_file.keep_line.Goals as goal

abbrev Keeps : (List ℕ → List (List ℕ)) → List Event → List ℕ → List Event → Option (Bor (List ℕ)) → Type 0
Keeps words old text new later =
    MatchOption later (KeepsLine words old text new []) (λ (rest : Bor (List ℕ)). KeepsLine words old text new (pieces_at 10 rest.now))

module _ (text rest : List ℕ) (count : ℕ) (is : text ≡ replicate count 32 ++ rest) where
  comment : (old : List Event) (line : List ℕ) (later : Option (Bor (List ℕ))) → is_comment rest ≡ true →
      MatchOption later (pieces_at 10 rest ≡ line ∷ []) (λ (r : Bor (List ℕ)). pieces_at 10 rest ≡ line ∷ pieces_at 10 r.now) → Keeps line_words old text old later
  comment old line None hash at = spaces_kept old old count text rest [] is (comment_kept old rest line [] hash at)
  comment old line (Some r) hash at = spaces_kept old old count text rest (pieces_at 10 r.now) is (comment_kept old rest line (pieces_at 10 r.now) hash at)

  module _ (space : slice_get rest 0 ≢ Some 32) (other : is_comment rest ≡ false) where
    words_of_some : (old new : List Event) (later : Option (Bor (List ℕ))) → Keeps spaced_words old rest new later → Keeps line_words old text new later
    words_of_some old new None k = spaces_kept old new count text rest [] is (plain_kept old new rest [] space other k)
    words_of_some old new (Some r) k = spaces_kept old new count text rest (pieces_at 10 r.now) is (plain_kept old new rest (pieces_at 10 r.now) space other k)

    words : (old new : List Event) (r : Result (Option (Bor (List ℕ))) FileRefused) → IfOk r (Keeps spaced_words old rest new) → IfOk r (Keeps line_words old text new)
    words old new (Ok later) k = words_of_some old new later k
    words old new (Err why) k = tt

    refused : (number : ℕ) (r : Result (Option (Bor (List ℕ))) FileRefused) → IfErr r (RefusesLine spaced_words rest number) → IfErr r (RefusesLine line_words text number)
    refused number (Ok later) k = tt
    refused number (Err why) k = spaces_refused count text rest number why is (plain_refused rest number why space other k)

pub returns-then-is_comment-clause-kept : goal.returns-then-is_comment-clause-kept
returns-then-is_comment-clause-kept c =
    let s = c.after_spaces-rest.ensures.spaces in
    let l = c.later_lines.ensures in
    comment c.args.text.now c.after_spaces-rest.result.now s.0 s.1 c.args.kept.now.items l.0 c.later_lines.result (sym c.is_comment.ensures ∙ c.if-is_comment.true) l.1

pub returns-else-is_comment-clause-kept : goal.returns-else-is_comment-clause-kept
returns-else-is_comment-clause-kept c =
    let s = c.after_spaces-rest.ensures.spaces in
    words c.args.text.now c.after_spaces-rest.result.now s.0 s.1 c.after_spaces-rest.ensures.other (sym c.is_comment.ensures ∙ c.if-is_comment.false) c.args.kept.now.items _ c.keep_words.result c.keep_words.ensures.kept

pub returns-else-is_comment-clause-refused : goal.returns-else-is_comment-clause-refused
returns-else-is_comment-clause-refused c =
    let s = c.after_spaces-rest.ensures.spaces in
    refused c.args.text.now c.after_spaces-rest.result.now s.0 s.1 c.after_spaces-rest.ensures.other (sym c.is_comment.ensures ∙ c.if-is_comment.false) c.args.number c.keep_words.result c.keep_words.ensures.refused
