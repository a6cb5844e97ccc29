-- The texts of the lines of explained cycles.
use Rattle.std.proofs.Common.{◌≡◌, lit<, false, eqb, eq-eqb, true≢false, ℕ, ◌<◌, ◌^◌, true, List, [], ◌∷◌, ◌++◌, Option, Some, None, length, get_or, codes, refl, sym, ap, ◌∙◌, arith, append_assoc}
use Rattle.std.specs.Prelude.{option_to_list}
use Rattle.std.proofs.lemmas.List.{append-nil}
use Rattle.std.proofs.lemmas.List.Elements.{All-head, All-tail, All-cons, All-nil}
use Rattle.trace_model.specs.declared.refutations.Derived.{Derived}
use Rattle.trace_model.specs.declared.refutations.Reason.{Reason}
use Rattle.trace_model.specs.declared.refutations.Reason.TheVariants.{BeforeMember, ThreadOrder, ForkJoin, ReadsFrom, Sections}
use Rattle.event_files.specs.ExplainedText.{StatedMember, entry_numbers, stated_member_line, member_numbers, place_words, reason_numbers}
use Rattle.event_files.specs.NumberedText.{AreSmall, is_after_number, is_after_numbers, after_spaces}
use Rattle.event_files.specs.Refutations.{entry_line, label_and_number, reason_line}
use Rattle.event_files.proofs.NumberedTexts.{end_all, front_all, same_labeled}

pub first_small : (n : ℕ) (more : List ℕ) → AreSmall (n ∷ more) → n < 2 ^ 32
first_small n more small = All-head (λ k. k < 2 ^ 32) n more small

pub second_small : (m n : ℕ) (more : List ℕ) → AreSmall (m ∷ n ∷ more) → n < 2 ^ 32
second_small m n more small = first_small n more (All-tail (λ k. k < 2 ^ 32) m (n ∷ more) small)

pub third_small : (m n k : ℕ) (more : List ℕ) → AreSmall (m ∷ n ∷ k ∷ more) → k < 2 ^ 32
third_small m n k more small = second_small n k more (All-tail (λ k. k < 2 ^ 32) m (n ∷ k ∷ more) small)

pub split_three : (a b d e : List ℕ) → a ++ b ++ d ++ e ≡ a ++ (b ++ (d ++ e))
split_three a b d e = append_assoc (a ++ b) d e ∙ append_assoc a b (d ++ e)

pub split_two : (a b d e : List ℕ) → a ++ b ++ d ++ e ≡ a ++ (b ++ d ++ e)
split_two a b d e = split_three a b d e ∙ ap (λ l. a ++ l) (sym (append_assoc b d e))

pub split_five : (a b d e f : List ℕ) → a ++ b ++ d ++ e ++ f ≡ a ++ (b ++ (d ++ (e ++ f ++ [])))
split_five a b d e f =
    append_assoc (a ++ b ++ d) e f ∙ (split_three a b d (e ++ f) ∙ ap (λ l. a ++ (b ++ (d ++ l))) (sym (append-nil (e ++ f))))

pub apart_bytes : {m n : ℕ} → m ≡ n → eqb m n ≡ false → ⊥
apart_bytes {m} {n} e apart = true≢false (sym (eq-eqb m n e) ∙ apart)

-- two texts with distinct bytes at an index
pub apart_at : {s t : List ℕ} (i : ℕ) → s ≡ t → eqb (get_or s i 0) (get_or t i 0) ≡ false → ⊥
apart_at i e apart = apart_bytes (ap (λ l. get_or l i 0) e) apart

-- what comes after the first number
pub after_first : (a b d u v : List ℕ) (q p o n : ℕ) → AreSmall (p ∷ q ∷ []) → AreSmall (n ∷ o ∷ []) → label_and_number a q ++ label_and_number b p ++ u ≡ label_and_number a o ++ label_and_number d n ++ v →
    is_after_number (label_and_number b p ++ u) ≡ true → is_after_number (label_and_number d n ++ v) ≡ true → (q ≡ o) × (label_and_number b p ++ u ≡ label_and_number d n ++ v)
after_first a b d u v q p o n left right e us vs =
    same_labeled a q o (label_and_number b p ++ u) (label_and_number d n ++ v) (second_small p q [] left) (second_small n o [] right) us vs
    (sym (append_assoc (label_and_number a q) (label_and_number b p) u) ∙ (e ∙ append_assoc (label_and_number a o) (label_and_number d n) v))

pub same_pair : (a b u v : List ℕ) (q p o n : ℕ) → AreSmall (p ∷ q ∷ []) → AreSmall (n ∷ o ∷ []) → label_and_number a q ++ label_and_number b p ++ u ≡ label_and_number a o ++ label_and_number b n ++ v →
    is_after_number (label_and_number b p ++ u) ≡ true → is_after_number (label_and_number b n ++ v) ≡ true → is_after_number u ≡ true → is_after_number v ≡ true → (q ≡ o) × (p ≡ n) × (u ≡ v)
same_pair a b u v q p o n left right e bu bv us vs =
    let first = after_first a b b u v q p o n left right e bu bv in
    let second = same_labeled b p n u v (first_small p (q ∷ []) left) (first_small n (o ∷ []) right) us vs first.1 in
    (first.0, second.0, second.1)

same_last : (a b : List ℕ) (q p o n : ℕ) → AreSmall (p ∷ q ∷ []) → AreSmall (n ∷ o ∷ []) → label_and_number a q ++ label_and_number b p ≡ label_and_number a o ++ label_and_number b n →
    is_after_number (label_and_number b p ++ []) ≡ true → is_after_number (label_and_number b n ++ []) ≡ true → (q ≡ o) × (p ≡ n)
same_last a b q p o n left right e bu bv =
    let s = same_pair a b [] [] q p o n left right (append-nil (label_and_number a q ++ label_and_number b p) ∙ (e ∙ sym (append-nil (label_and_number a o ++ label_and_number b n)))) bu bv refl refl in
    (s.0, s.1)

same_triple : (a b d u : List ℕ) (q r p o m n : ℕ) → AreSmall (p ∷ q ∷ r ∷ []) → AreSmall (n ∷ o ∷ m ∷ []) →
    label_and_number a q ++ label_and_number b r ++ label_and_number d p ++ u ≡ label_and_number a o ++ label_and_number b m ++ label_and_number d n ++ u →
    is_after_number (label_and_number b r ++ label_and_number d p ++ u) ≡ true → is_after_number (label_and_number b m ++ label_and_number d n ++ u) ≡ true →
    is_after_number (label_and_number d p ++ u) ≡ true → is_after_number (label_and_number d n ++ u) ≡ true → is_after_number u ≡ true → (q ≡ o) × (r ≡ m) × (p ≡ n)
same_triple a b d u q r p o m n left right e bu bv du dv us =
    let first = same_labeled a q o (label_and_number b r ++ label_and_number d p ++ u) (label_and_number b m ++ label_and_number d n ++ u) (second_small p q (r ∷ []) left) (second_small n o (m ∷ []) right) bu bv
    (sym (split_two (label_and_number a q) (label_and_number b r) (label_and_number d p) u) ∙ (e ∙ split_two (label_and_number a o) (label_and_number b m) (label_and_number d n) u)) in
    let small : (x y z : ℕ) → AreSmall (x ∷ y ∷ z ∷ []) → AreSmall (x ∷ z ∷ []) = λ x y z s.
    All-cons (λ k. k < 2 ^ 32) x (z ∷ []) (first_small x (y ∷ z ∷ []) s) (All-cons (λ k. k < 2 ^ 32) z [] (third_small x y z [] s) (All-nil (λ k. k < 2 ^ 32))) in
    let second = same_pair b d u u r p m n (small p q r left) (small n o m right) first.1 du dv us us in
    (first.0, second.0, second.1)

-- entries with the same text are the same
same_reason : (r s : Reason) (p n : ℕ) → AreSmall (p ∷ reason_numbers r) → AreSmall (n ∷ reason_numbers s) → reason_line r p ≡ reason_line s n → (r ≡ s) × (p ≡ n)
same_reason (BeforeMember q) (BeforeMember o) p n left right e = let s = same_last (codes "  before place ") (codes " its thread runs place ") q p o n left right e refl refl in ((λ i. BeforeMember (s.0 i)), s.1)
same_reason (BeforeMember q) (ThreadOrder o) p n left right e = absurd (apart_at 7 e refl)
same_reason (BeforeMember q) (ForkJoin o) p n left right e = absurd (apart_at 7 e refl)
same_reason (BeforeMember q) (ReadsFrom o) p n left right e = absurd (apart_at 7 e refl)
same_reason (BeforeMember q) (Sections o o2) p n left right e = absurd (apart_at 7 e refl)
same_reason (ThreadOrder q) (BeforeMember o) p n left right e = absurd (apart_at 7 e refl)
same_reason (ThreadOrder q) (ThreadOrder o) p n left right e = let s = same_pair (codes "  place ") (codes " needs place ") (codes ": earlier in its thread") (codes ": earlier in its thread") q p o n left right e refl refl refl refl in ((λ i. ThreadOrder (s.0 i)), s.1)
same_reason (ThreadOrder q) (ForkJoin o) p n left right e = let s = same_pair (codes "  place ") (codes " needs place ") (codes ": earlier in its thread") (codes ": fork or join") q p o n left right e refl refl refl refl in absurd (apart_at 2 s.2 refl)
same_reason (ThreadOrder q) (ReadsFrom o) p n left right e = absurd (apart_at 1 (after_first (codes "  place ") (codes " needs place ") (codes " reads what place ") (codes ": earlier in its thread") (codes " wrote") q p o n left right e refl refl).1 refl)
same_reason (ThreadOrder q) (Sections o o2) p n left right e = absurd (apart_at 7 e refl)
same_reason (ForkJoin q) (BeforeMember o) p n left right e = absurd (apart_at 7 e refl)
same_reason (ForkJoin q) (ThreadOrder o) p n left right e = let s = same_pair (codes "  place ") (codes " needs place ") (codes ": fork or join") (codes ": earlier in its thread") q p o n left right e refl refl refl refl in absurd (apart_at 2 s.2 refl)
same_reason (ForkJoin q) (ForkJoin o) p n left right e = let s = same_pair (codes "  place ") (codes " needs place ") (codes ": fork or join") (codes ": fork or join") q p o n left right e refl refl refl refl in ((λ i. ForkJoin (s.0 i)), s.1)
same_reason (ForkJoin q) (ReadsFrom o) p n left right e = absurd (apart_at 1 (after_first (codes "  place ") (codes " needs place ") (codes " reads what place ") (codes ": fork or join") (codes " wrote") q p o n left right e refl refl).1 refl)
same_reason (ForkJoin q) (Sections o o2) p n left right e = absurd (apart_at 7 e refl)
same_reason (ReadsFrom q) (BeforeMember o) p n left right e = absurd (apart_at 7 e refl)
same_reason (ReadsFrom q) (ThreadOrder o) p n left right e = absurd (apart_at 1 (after_first (codes "  place ") (codes " reads what place ") (codes " needs place ") (codes " wrote") (codes ": earlier in its thread") q p o n left right e refl refl).1 refl)
same_reason (ReadsFrom q) (ForkJoin o) p n left right e = absurd (apart_at 1 (after_first (codes "  place ") (codes " reads what place ") (codes " needs place ") (codes " wrote") (codes ": fork or join") q p o n left right e refl refl).1 refl)
same_reason (ReadsFrom q) (ReadsFrom o) p n left right e = let s = same_pair (codes "  place ") (codes " reads what place ") (codes " wrote") (codes " wrote") q p o n left right e refl refl refl refl in ((λ i. ReadsFrom (s.0 i)), s.1)
same_reason (ReadsFrom q) (Sections o o2) p n left right e = absurd (apart_at 7 e refl)
same_reason (Sections q q2) (BeforeMember o) p n left right e = absurd (apart_at 7 e refl)
same_reason (Sections q q2) (ThreadOrder o) p n left right e = absurd (apart_at 7 e refl)
same_reason (Sections q q2) (ForkJoin o) p n left right e = absurd (apart_at 7 e refl)
same_reason (Sections q q2) (ReadsFrom o) p n left right e = absurd (apart_at 7 e refl)
same_reason (Sections q q2) (Sections o o2) p n left right e = let s = same_triple (codes "  places ") (codes " and ") (codes " acquire one lock: place ") (codes " releases it between them") q q2 p o o2 n left right e refl refl refl refl refl in
    ((λ i. Sections (s.0 i) (s.1 i)), s.2)

pub same_entry : (d e : Derived) → AreSmall (entry_numbers d) → AreSmall (entry_numbers e) → entry_line d ≡ entry_line e → d ≡ e
same_entry d e left right is =
    let s = same_reason d.reason e.reason d.place e.place left right is in
    λ i. record { place = s.1 i; reason = s.0 i }

-- the entry of a text is the only one with this text
pub only_entry : (text : List ℕ) (found d : Derived) → text ≡ entry_line found → AreSmall (entry_numbers found) → AreSmall (entry_numbers d) → text ≡ entry_line d → Some found ≡ Some d
only_entry text found d sound own small is = ap Some (same_entry found d own small (sym sound ∙ is))

-- the text is not that of two numbers with these labels and this ending
abbrev pub IsNoPair : List ℕ → List ℕ → List ℕ → List ℕ → Type 0
IsNoPair text label next ending =
    (m n : ℕ) → m < 2 ^ 32 → n < 2 ^ 32 → is_after_number (label_and_number next n ++ ending) ≡ true → is_after_number ending ≡ true →
    text ≡ label_and_number label m ++ label_and_number next n ++ ending → ⊥

-- a text that is that of no kind of entry is that of no entry
pub no_entry : (r : Reason) (p : ℕ) (text : List ℕ) → AreSmall (p ∷ reason_numbers r) → text ≡ reason_line r p →
    IsNoPair text (codes "  before place ") (codes " its thread runs place ") [] →
    IsNoPair text (codes "  place ") (codes " needs place ") (codes ": earlier in its thread") →
    IsNoPair text (codes "  place ") (codes " needs place ") (codes ": fork or join") →
    IsNoPair text (codes "  place ") (codes " reads what place ") (codes " wrote") →
    ((first second place : ℕ) → AreSmall (first ∷ second ∷ place ∷ []) → text ≡ reason_line (Sections first second) place → ⊥) → ⊥
no_entry (BeforeMember q) p text small is before order fork reads sections =
    before q p (small 1 0 (lit< tt)) (small 0 0 (lit< tt)) refl refl (is ∙ sym (append-nil (reason_line (BeforeMember q) p)))
no_entry (ThreadOrder q) p text small is before order fork reads sections = order q p (small 1 0 (lit< tt)) (small 0 0 (lit< tt)) refl refl is
no_entry (ForkJoin q) p text small is before order fork reads sections = fork q p (small 1 0 (lit< tt)) (small 0 0 (lit< tt)) refl refl is
no_entry (ReadsFrom q) p text small is before order fork reads sections = reads q p (small 1 0 (lit< tt)) (small 0 0 (lit< tt)) refl refl is
no_entry (Sections q r) p text small is before order fork reads sections =
    let P : ℕ → Type 0 = λ k. k < 2 ^ 32 in
    sections q r p (All-cons P q (r ∷ p ∷ []) (small 1 0 (lit< tt)) (All-cons P r (p ∷ []) (small 2 0 (lit< tt)) (All-cons P p [] (small 0 0 (lit< tt)) (All-nil P)))) is

-- a text that does not end as the line of a member
pub no_place : (place : Option ℕ) (text : List ℕ) → AreSmall (option_to_list place) → text ≡ place_words place → (length text ≡ 0 → ⊥) →
    ((p : ℕ) → p < 2 ^ 32 → text ≡ label_and_number (codes " place ") p ++ [] → ⊥) → ⊥
no_place None text small is full none = full (ap length is)
no_place (Some p) text small is full none = none p (small 0 0 (lit< tt)) (is ∙ sym (append-nil (label_and_number (codes " place ") p)))

pub stops_place : (place : Option ℕ) → is_after_numbers (place_words place) ≡ true
stops_place None = refl
stops_place (Some p) = refl

-- the numbers of a member, part by part
pub record AreSmallIn (m : StatedMember) : Type 0 where
  pub holder : AreSmall (m.thread ∷ m.lock ∷ [])
  pub held : AreSmall m.held
  pub place : AreSmall (option_to_list m.place)

pub small_parts : (m : StatedMember) → AreSmall (member_numbers m) → AreSmallIn m
small_parts m small =
    let P : ℕ → Type 0 = λ k. k < 2 ^ 32 in
    let rest = All-tail P m.lock (m.held ++ option_to_list m.place) (All-tail P m.thread (m.lock ∷ (m.held ++ option_to_list m.place)) small) in
    record {
      holder = All-cons P m.thread (m.lock ∷ []) (small 0 0 (omega arith)) (All-cons P m.lock [] (small 1 0 (omega arith)) (All-nil P));
      held = front_all P m.held (option_to_list m.place) rest;
      place = end_all P m.held (option_to_list m.place) rest;
    }

-- the line of a member, apart after its thread and lock
pub member_apart : (m : StatedMember) (text : List ℕ) → text ≡ stated_member_line m →
    text ≡ label_and_number (codes "  thread ") m.thread ++ label_and_number (codes " lock ") m.lock ++ codes " holds" ++ (after_spaces m.held ++ place_words m.place)
member_apart m text is =
    is ∙ append_assoc (label_and_number (codes "  thread ") m.thread ++ label_and_number (codes " lock ") m.lock ++ codes " holds") (after_spaces m.held) (place_words m.place)
