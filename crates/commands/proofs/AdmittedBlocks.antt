-- The events of a file, block by block through the admission check.
use Rattle.std.proofs.Common.{◌≡◌, ℕ, ◌+◌, ◌<◌, ◌≤◌, ◌++◌, ◌∙◌, List, [], Option, Some, None, length, slice_get, map, take, drop, refl, ap, sym, subst, arith, append_assoc, append-nil, length-append}
use Rattle.std.specs.Borrow.{Bor}
use Rattle.std.specs.Prelude.{Result, Ok, Err, IfErr, IfSome, MatchOption, MatchResult}
use Rattle.std.specs.Option.{option_copied, option_map_or}
use Rattle.std.specs.List.{flat_map}
use Rattle.std.proofs.lemmas.List.{get_or-append-add, length-take, map-append, take-append-drop, take-append-le, take_all}
use Rattle.std.proofs.lemmas.List.Concat.{flat_map-append}
use Rattle.std.proofs.lemmas.Option.{slice_get-get_or, slice_get_within}
use Rattle.std.proofs.Math.Seq.{take-append-add}
use Rattle.trace_model.specs.declared.limits.TheConstants.{MAX_EVENTS}
use Rattle.trace_model.specs.Theory.Trace.{Trace}
use Rattle.trace_model.specs.Theory.Lawful.{refusal_of, IsWellFormed}
use Rattle.trace_model.proofs.Lists.{get-append}
use Rattle.trace_model.proofs.Theory.OneMore.{length_well_formed}
use Rattle.wellformed.specs.declared.whole_lists.FirstUnlawful.{FirstUnlawful}
use Rattle.wellformed.specs.FirstUnlawful.{IsFirstUnlawful}
use Rattle.event_files.specs.EventFile.{event_word, first_events, line_words, pieces_at, AreEventsIn, AreWordsOfEvents, IsFirstBad, RefusesLines}
use Rattle.event_files.specs.declared.refused.FileRefused.{FileRefused}
use Rattle.event_files.specs.declared.refused.FileRefused.TheVariants.{Line, NoMemory}
use Rattle.commands.specs.AdmittedBlocks.{lines_after, AreEventsBefore, IsBlockAfter, IsReadTo, IsRefusedAfter}
use Rattle.commands.specs.declared.admitted_blocks.AdmittedBlock.{AdmittedBlock}
use Rattle.commands.specs.declared.admitted_blocks.AdmittedBlock.TheVariants.{Lawful, Refused}

-- the first unlawful event stays the first when other events follow
pub more_unlawful : (s more : Trace) (first : FirstUnlawful) → IsFirstUnlawful s first → IsFirstUnlawful (s ++ more) first
more_unlawful s more first (before, (e, at, refused)) =
    let i = first.index in
    let within = slice_get_within s i e at in
    let same : take i s ≡ take i (s ++ more) = sym (take-append-le i s more (omega (arith, within))) in (
      subst IsWellFormed same before,
      (e, get-append s more i within ∙ at, subst (λ (k : Trace). refusal_of MAX_EVENTS k e ≡ Some first.refusal) same refused),
    )

-- all events of a block are kept if they are lawful
pub all_kept : (s kept events : Trace) → kept ≡ first_events events → IsWellFormed (s ++ kept) → kept ≡ events
all_kept s kept events is lawful =
    let few : length events ≤ MAX_EVENTS + 1 = omega (arith, length-take (MAX_EVENTS + 1) events, ap length is, length_well_formed (s ++ kept) lawful, length-append s kept) in
    is ∙ take_all (MAX_EVENTS + 1) events few

-- the first unlawful event of those that are kept is the first of all
pub unlawful_in_block : (s kept events : Trace) (first : FirstUnlawful) → kept ≡ first_events events → IsFirstUnlawful (s ++ kept) first → IsFirstUnlawful (s ++ events) first
unlawful_in_block s kept events first is unlawful =
    let more = drop (MAX_EVENTS + 1) events in
    let whole : kept ++ more ≡ events = ap (λ l. l ++ more) is ∙ take-append-drop (MAX_EVENTS + 1) events in
    subst (λ (l : Trace). IsFirstUnlawful l first) (append_assoc s kept more ∙ ap (λ l. s ++ l) whole) (more_unlawful (s ++ kept) more first unlawful)

-- the lines of a text and those after it
pub split_is : (text front : List ℕ) (later : Option (Bor (List ℕ))) → MatchOption later (front ≡ text) (λ rest. pieces_at 10 text ≡ pieces_at 10 front ++ pieces_at 10 rest.now) →
    pieces_at 10 text ≡ pieces_at 10 front ++ lines_after (option_copied later)
split_is text front None is = ap (pieces_at 10) (sym is) ∙ sym (append-nil (pieces_at 10 front))
split_is text front (Some rest) is = is

-- fewer bytes are left
pub rest_shorter : (later : Option (Bor (List ℕ))) (bytes : ℕ) → IfSome later (λ rest. length rest.now < bytes) → option_map_or (λ rest. length rest + 1) (option_copied later) 0 < bytes + 1
rest_shorter None bytes shorter = omega arith
rest_shorter (Some rest) bytes shorter = omega (arith, shorter)

-- the events before the rest of a file, and those of a block after them
block_before : (file more text : List ℕ) (later : Option (List ℕ)) (s events : Trace) → AreEventsBefore file (Some more) s → pieces_at 10 more ≡ pieces_at 10 text ++ lines_after later → AreEventsIn events (pieces_at 10 text) →
    AreEventsBefore file later (s ++ events)
block_before file more text later s events before split are = record {
  lines = before.lines ++ pieces_at 10 text;
  all = before.all ∙ ap (λ l. before.lines ++ l) split ∙ sym (append_assoc before.lines (pieces_at 10 text) (lines_after later));
  events = map-append event_word s events ∙ ap (λ l. l ++ map event_word events) before.events ∙ ap (λ l. flat_map line_words before.lines ++ l) are
      ∙ sym (flat_map-append line_words before.lines (pieces_at 10 text));
}

pub next_block : (file more text : List ℕ) (later : Option (List ℕ)) (s : Trace) (block : AdmittedBlock) → AreEventsBefore file (Some more) s → pieces_at 10 more ≡ pieces_at 10 text ++ lines_after later → IsBlockAfter text s block →
    IsReadTo file later s block
next_block file more text later s (Lawful events admission) before split (are, follow) = (block_before file more text later s events.items before split are, follow)
next_block file more text later s (Refused first) before split (events, are, unlawful) = (s ++ events, block_before file more text later s events before split are, unlawful)

-- nothing is before the whole file
pub none_before : (file : List ℕ) → AreEventsBefore file (Some file) []
none_before file = record { lines = []; all = refl; events = refl }

-- the whole file is before no rest
pub all_before : (file : List ℕ) (s : Trace) → AreEventsBefore file None s → AreWordsOfEvents s file
all_before file s before = before.events ∙ ap (flat_map line_words) (sym (before.all ∙ append-nil before.lines))

-- the last lines of a file
pub last_before : (file rest : List ℕ) (s events : Trace) → AreEventsBefore file (Some rest) s → AreWordsOfEvents events rest → AreWordsOfEvents (s ++ events) file
last_before file rest s events before are = all_before file (s ++ events) (block_before file rest rest None s events before (sym (append-nil (pieces_at 10 rest))) are)

-- the element after a front
get_after : {X : Type 0} (xs ys : List X) (i : ℕ) (x : X) → slice_get ys i ≡ Some x → slice_get (xs ++ ys) (length xs + i) ≡ Some x
get_after xs ys i x at =
    let within = slice_get_within ys i x at in
    slice_get-get_or (xs ++ ys) (length xs + i) x (omega (arith, length-append xs ys, within)) ∙ ap Some (get_or-append-add xs ys i x)
    ∙ sym (slice_get-get_or ys i x within) ∙ at

-- the first line of a block that is not understood is that of the file
pub bad_in_file : (file text : List ℕ) (rest : Option (List ℕ)) (number : ℕ) (refused : IsRefusedAfter file text rest (Line number)) → IsFirstBad (pieces_at 10 file) (length refused.lines + number)
bad_in_file file text rest number refused =
    let bad = refused.refused in
    let lines = refused.lines in
    let later = lines_after rest in
    let within = slice_get_within (pieces_at 10 text) bad.index bad.line bad.at in
    let at : slice_get (pieces_at 10 text ++ later) bad.index ≡ Some bad.line = get-append (pieces_at 10 text) later bad.index within ∙ bad.at in
    let front : take (length lines + bad.index) (pieces_at 10 file) ≡ lines ++ take bad.index (pieces_at 10 text) =
    ap (take (length lines + bad.index)) refused.all ∙ take-append-add lines (pieces_at 10 text ++ later) bad.index
    ∙ ap (λ l. lines ++ l) (take-append-le bad.index (pieces_at 10 text) later (omega (arith, within))) in
    record {
      index = length lines + bad.index;
      counts = omega (arith, bad.counts);
      events = refused.events ++ bad.events;
      before = map-append event_word refused.events bad.events ∙ ap (λ l. l ++ map event_word bad.events) refused.are
          ∙ ap (λ l. flat_map line_words lines ++ l) bad.before
          ∙ sym (flat_map-append line_words lines (take bad.index (pieces_at 10 text))) ∙ ap (flat_map line_words) (sym front);
      line = bad.line;
      at = ap (λ l. slice_get l (length lines + bad.index)) refused.all ∙ get_after lines (pieces_at 10 text ++ later) bad.index bad.line at;
      bad = bad.bad;
    }

-- the error of one of two results, of which the other lacks memory
pub refused_by : {X : Type 0} (text : List ℕ) (next : Result X FileRefused) (error : FileRefused) → IfErr next (RefusesLines (pieces_at 10 text)) →
    MatchResult next (λ block. error ≡ NoMemory) (λ refused. error ≡ refused) → RefusesLines (pieces_at 10 text) error
refused_by {X} text (Ok block) error refused is = subst (RefusesLines (pieces_at 10 text)) (sym is) tt
refused_by {X} text (Err why) error refused is = subst (RefusesLines (pieces_at 10 text)) (sym is) refused

-- a block of the file is refused
pub block_refused : (file more text : List ℕ) (later : Option (List ℕ)) (s : Trace) (why : FileRefused) → AreEventsBefore file (Some more) s → pieces_at 10 more ≡ pieces_at 10 text ++ lines_after later → RefusesLines (pieces_at 10 text) why →
    IsRefusedAfter file text later why
block_refused file more text later s why before split refused = record {
  lines = before.lines;
  all = before.all ∙ ap (λ l. before.lines ++ l) split;
  events = s;
  are = before.events;
  refused = refused;
}
