-- What is written in parts.
use Rattle.std.proofs.Common.{◌≡◌, ℕ, zero, suc, ◌+◌, List, [], ◌∷◌, ◌++◌, length, take, drop, Option, None, Some, inl, inr, refl, sym, ap, subst, ◌∙◌, append_assoc, arith}
use Rattle.std.specs.Io.KnownBytes.{Appends, Keeps}
use Rattle.std.proofs.Math.Seq.{take-add, take-append-add}
use Rattle.std.proofs.lemmas.List.{append-nil, take_all}
use Rattle.std.specs.Prelude.{◌≢◌, Result, Ok, Err, MatchResult, OnErr}
use Rattle.commands.specs.Exit.{error_status}
use Rattle.commands.specs.Output.{AppendsPart, EndsWithStatus, EndsWithResult, IsCutShort, IsJust}
use Rattle.commands.specs.declared.exit.CommandError.{CommandError}
use Rattle.commands.specs.declared.exit.Status.{Status}
use Rattle.commands.specs.declared.exit.Status.TheVariants.{Done, Refused, Error, NotUnderstood}

-- Nothing is written.
pub appends_nothing : (a : Option (List ℕ)) → Appends a a []
appends_nothing None = tt
appends_nothing (Some xs) = sym (append-nil xs)

-- What is written after what was written before.
pub appends_more : (a b c : Option (List ℕ)) (x y : List ℕ) → Appends a b x → Appends b c y → Appends a c (x ++ y)
appends_more None b c x y h k = tt
appends_more (Some xs) None c x y h k = absurd h
appends_more (Some xs) (Some ys) None x y h k = absurd k
appends_more (Some xs) (Some ys) (Some zs) x y h k = k ∙ ap (λ l. l ++ y) h ∙ append_assoc xs x y

-- The output is unchanged after what was written.
pub keeps_after : (a b c : Option (List ℕ)) (x : List ℕ) → Appends a b x → Keeps b c → Appends a c x
keeps_after None b c x h k = tt
keeps_after (Some xs) None c x h k = absurd h
keeps_after (Some xs) (Some ys) None x h k = absurd k
keeps_after (Some xs) (Some ys) (Some zs) x h k = k ∙ h

-- Some bytes more from an index on.
pub appends_from : (a b c : Option (List ℕ)) (x : List ℕ) (i n : ℕ) → Appends a b (take i x) → Appends b c (take n (drop i x)) → Appends a c (take (i + n) x)
appends_from a b c x i n h k = subst (Appends a c) (sym (take-add i n x)) (appends_more a b c (take i x) (take n (drop i x)) h k)

-- All of a text is a beginning of it.
pub part_all : (a b : Option (List ℕ)) (x : List ℕ) → Appends a b x → AppendsPart a b x
part_all a b x h = (length x, subst (Appends a b) (sym (take_all (length x) x (omega arith))) h)

-- A beginning of a text, after another text, is a beginning of both.
pub part_after : (a b c : Option (List ℕ)) (x y : List ℕ) → Appends a b x → AppendsPart b c y → AppendsPart a c (x ++ y)
part_after a b c x y h (n, k) = (length x + n, subst (Appends a c) (sym (take-append-add x y n)) (appends_more a b c x (take n y) h k))

-- A beginning of a text is one of a longer text.
part_index : (n : ℕ) (x y : List ℕ) → (m : ℕ) × (take m (x ++ y) ≡ take n x)
part_index zero x y = (0, refl)
part_index (suc n) [] y = (0, refl)
part_index (suc n) (v ∷ x) y = let (m, e) = part_index n x y in (suc m, ap (λ l. v ∷ l) e)

pub part_more : (a b : Option (List ℕ)) (x y : List ℕ) → AppendsPart a b x → AppendsPart a b (x ++ y)
part_more a b x y (n, h) = let (m, e) = part_index n x y in (m, subst (Appends a b) (sym e) h)

-- A failed flush leaves what was written.
pub part_kept : (a b c : Option (List ℕ)) (x : List ℕ) → AppendsPart a b x → Keeps b c → AppendsPart a c x
part_kept a b c x (n, h) k = (n, keeps_after a b c (take n x) h k)

-- A beginning of a right text.
pub cut_part : (a b : Option (List ℕ)) (Is : List ℕ → Type 0) (x : List ℕ) → Is x → AppendsPart a b x → IsCutShort a b Is
cut_part a b Is x is part = inr (x, is, part)

-- Nothing is written of a right text.
pub cut_none : (a : Option (List ℕ)) (Is : List ℕ → Type 0) → IsCutShort a a Is
cut_none a Is = inl (appends_nothing a)

-- The output is unchanged after a cut.
pub cut_kept : (a b c : Option (List ℕ)) (Is : List ℕ → Type 0) → IsCutShort a b Is → Keeps b c → IsCutShort a c Is
cut_kept a b c Is (inl h) k = inl (keeps_after a b c [] h k)
cut_kept a b c Is (inr (x, is, part)) k = inr (x, is, part_kept a b c x part k)

-- What is cut short is so by a weaker property.
pub cut_weaker : (a b : Option (List ℕ)) (P Q : List ℕ → Type 0) → ((x : List ℕ) → P x → Q x) → IsCutShort a b P → IsCutShort a b Q
cut_weaker a b P Q weaker (inl h) = inl h
cut_weaker a b P Q weaker (inr (x, is, part)) = inr (x, weaker x is, part)

-- A cut after a whole text: either nothing more is written, or a beginning of a right text.
pub cut_after : (a b c : Option (List ℕ)) (P Q : List ℕ → Type 0) (x : List ℕ) → Appends a b x → Q x → ((y : List ℕ) → P y → Q (x ++ y)) → IsCutShort b c P → IsCutShort a c Q
cut_after a b c P Q x h is more (inl k) =
    inr (x, is, part_all a c x (subst (Appends a c) (append-nil x) (appends_more a b c x [] h k)))
cut_after a b c P Q x h is more (inr (y, also, part)) = inr (x ++ y, more y also, part_after a b c x y h part)

-- What holds of an error holds of it in a weaker form.
pub on_err : {A E : Type 0} (r : Result A E) (P Q : Type 0) → (P → Q) → OnErr r P → OnErr r Q
on_err (Ok x) P Q weaker h = tt
on_err (Err e) P Q weaker h = weaker h

-- ---- how commands end

-- The output is cut short.
pub ends_cut : (Prints : Status → List ℕ → Type 0) (Wrong : Type 0) (status : Status) (before after : Option (List ℕ)) → status ≡ Error →
    IsCutShort before after (λ text. (outcome : Status) × Prints outcome text) → EndsWithStatus Prints Wrong status before after
ends_cut Prints Wrong status before after failed cut = subst (λ s. EndsWithStatus Prints Wrong s before after) (sym failed) cut

-- A right text is cut short.
pub ends_part : (Prints : Status → List ℕ → Type 0) (Wrong : Type 0) (status outcome : Status) (before after : Option (List ℕ)) (text : List ℕ) → status ≡ Error → Prints outcome text →
    AppendsPart before after text → EndsWithStatus Prints Wrong status before after
ends_part Prints Wrong status outcome before after text failed is part = ends_cut Prints Wrong status before after failed (inr (text, (outcome, is), part))

-- What holds of right texts and wrong lines holds of a weaker choice of them.
pub ends_weaker : (P Q : Status → List ℕ → Type 0) (V W : Type 0) (status : Status) (a b : Option (List ℕ)) → ((s : Status) (x : List ℕ) → P s x → Q s x) → (V → W) → EndsWithStatus P V status a b → EndsWithStatus Q W status a b
ends_weaker P Q V W Done a b f g (x, is, grew) = (x, f Done x is, grew)
ends_weaker P Q V W Refused a b f g (x, is, grew) = (x, f Refused x is, grew)
ends_weaker P Q V W Error a b f g cut =
    cut_weaker a b (λ x. (s : Status) × P s x) (λ x. (s : Status) × Q s x) (λ x p. (p.0, f p.0 x p.1)) cut
ends_weaker P Q V W NotUnderstood a b f g (wrong, same) = (g wrong, same)

pub ends_as_weaker : (P Q : Status → List ℕ → Type 0) (V W : Type 0) (r : Result Status CommandError) (a b : Option (List ℕ)) → ((s : Status) (x : List ℕ) → P s x → Q s x) → (V → W) →
    EndsWithResult P V r a b → EndsWithResult Q W r a b
ends_as_weaker P Q V W (Ok status) a b f g ends = ends_weaker P Q V W status a b f g ends
ends_as_weaker P Q V W (Err error) a b f g ends = ends_weaker P Q V W (error_status error) a b f g ends

-- The reported status is that of the result.
pub reported_ends : (P : Status → List ℕ → Type 0) (W : Type 0) (r : Result Status CommandError) (status : Status) (a b : Option (List ℕ)) → EndsWithResult P W r a b →
    MatchResult r (λ outcome. status ≡ outcome) (λ error. status ≡ error_status error) → EndsWithStatus P W status a b
reported_ends P W (Ok outcome) status a b ends same = subst (λ s. EndsWithStatus P W s a b) (sym same) ends
reported_ends P W (Err error) status a b ends same = subst (λ s. EndsWithStatus P W s a b) (sym same) ends

-- The whole text is written.
pub ends_just : (status : Status) (text : List ℕ) (a b : Option (List ℕ)) → status ≢ NotUnderstood → Appends a b text → EndsWithStatus (IsJust status text) ⊥ status a b
ends_just Done text a b known grew = (text, (refl, refl), grew)
ends_just Refused text a b known grew = (text, (refl, refl), grew)
ends_just Error text a b known grew = inr (text, (Error, (refl, refl)), part_all a b text grew)
ends_just NotUnderstood text a b known grew = absurd (known refl)

-- A text that is just right is right.
pub just_is : (P : Status → List ℕ → Type 0) (status : Status) (text : List ℕ) → P status text → (s : Status) (x : List ℕ) → IsJust status text s x → P s x
just_is P status text is s x just = subst (λ t. P s t) (sym just.1) (subst (λ t. P t text) (sym just.0) is)

-- The error of a writer.
pub ends_output : (P : Status → List ℕ → Type 0) (W : Type 0) (r : Result Status CommandError) (error : CommandError) (a b : Option (List ℕ)) → r ≡ Err error → error_status error ≡ Error →
    IsCutShort a b (λ text. (outcome : Status) × P outcome text) → EndsWithResult P W r a b
ends_output P W r error a b same failed cut = subst (λ x. EndsWithResult P W x a b) (sym same) (ends_cut P W (error_status error) a b failed cut)
