-- What is right of the first events of a file is right of all.
use Rattle.std.proofs.Common.{◌≡◌, ◌≢◌, ℕ, ◌+◌, ◌≤◌, List, Some, length, map, slice_get, take, refl, ap, sym, subst, ◌∙◌, arith}
use Rattle.std.proofs.lemmas.List.{length-take, take-take, take_all}
use Rattle.trace_model.specs.declared.limits.TheConstants.{MAX_EVENTS}
use Rattle.trace_model.specs.Theory.Trace.{Trace}
use Rattle.trace_model.specs.Theory.Lawful.{refusal_of, IsWellFormed}
use Rattle.trace_model.proofs.Lists.{get-take, get-take_past}
use Rattle.trace_model.proofs.Theory.OneMore.{length_well_formed}
use Rattle.wellformed.specs.declared.whole_lists.FirstUnlawful.{FirstUnlawful}
use Rattle.wellformed.specs.FirstUnlawful.{IsFirstUnlawful}
use Rattle.event_files.specs.EventFile.{event_word, AreFirstEventsOf, AreWordsOfEvents}
use Rattle.offline_report.specs.declared.refused.OfflineRefused.{OfflineRefused}
use Rattle.offline_report.specs.declared.refused.OfflineRefused.TheVariants.{Unlawful, TooLong, TooManyCycles, NoMemory}
use Rattle.commands.specs.Admission.{IsUnlawfulIn}
use Rattle.commands.specs.Offline.{OfflinePrints, refused_line}
use Rattle.commands.specs.declared.exit.Status.TheVariants.{Refused}

-- If the first events of a file are lawful, they are all.
pub lawful_are_all : (file : List ℕ) (kept : Trace) → AreFirstEventsOf kept file → IsWellFormed kept → AreWordsOfEvents kept file
lawful_are_all file kept (s, are, is) lawful =
    let few : length s ≤ MAX_EVENTS + 1 = omega (arith, length-take (MAX_EVENTS + 1) s, ap length is, length_well_formed kept lawful) in
    ap (map event_word) (is ∙ take_all (MAX_EVENTS + 1) s few) ∙ are

-- The first unlawful event among them is the first of all.
unlawful_of_all : (n : ℕ) (s kept : Trace) (first : FirstUnlawful) → kept ≡ take n s → IsFirstUnlawful kept first → IsFirstUnlawful s first
unlawful_of_all n s kept first is (before, (e, at, refused)) =
    let i = first.index in
    let there = subst (λ (k : Trace). slice_get k i ≡ Some e) is at in
    let within = get-take_past n s i e there in
    let same : take i kept ≡ take i s = ap (take i) is ∙ take-take i n s (omega (arith, within)) in (
      subst IsWellFormed same before,
      (e, sym (get-take n s i within) ∙ there, subst (λ (k : Trace). refusal_of MAX_EVENTS k e ≡ Some first.refusal) same refused),
    )

pub first_of_all : (file : List ℕ) (kept : Trace) (first : FirstUnlawful) → AreFirstEventsOf kept file → IsFirstUnlawful kept first → IsUnlawfulIn file first
first_of_all file kept first (s, are, is) unlawful = (s, are, unlawful_of_all (MAX_EVENTS + 1) s kept first is unlawful)

-- it is not a lack of memory
abbrev is_named : OfflineRefused → Type 0
is_named (Unlawful first) = Unit {0}
is_named TooLong = Unit {0}
is_named TooManyCycles = Unit {0}
is_named NoMemory = ⊥

-- The line of the first unlawful event is right for the file.
pub unlawful_report : (file : List ℕ) (bound : ℕ) (first : FirstUnlawful) → IsUnlawfulIn file first → OfflinePrints file bound Refused (refused_line (Unlawful first))
unlawful_report file bound first (events, are, unlawful) =
    let some : Unlawful first ≢ NoMemory = λ same. subst is_named same tt in
    (events, are, (Unlawful first, some, unlawful, refl))
