-- The lengths of the parts of a reply body, and the bytes after each part is added.
use Rattle.std.proofs.Common.{◌≡◌, ℕ, List, [], ◌∷◌, ◌++◌, length, cond, Result, Ok, Err, refl, sym, ap, ◌∙◌, append_assoc}
use Rattle.std.specs.Result.{OnOk, is_ok}
use Rattle.std.specs.Int.{w32, w64, to_be_bytes}
use Rattle.trace_model.specs.declared.messages.status.QuestionStatus.{QuestionStatus}
use Rattle.trace_model.specs.Protocol.Replies.{three_words, status_fields}

pub length-three_words : (a b c : ℕ) → length (three_words a b c) ≡ 12
unfolding three_words
length-three_words a b c = refl

pub length-status_fields : (s : QuestionStatus) → length (status_fields s) ≡ 41
unfolding three_words status_fields
length-status_fields s = refl

-- the bytes after a call that adds bytes, if it succeeds
pub put_where_ok : {T E : Type 0} (r : Result T E) (new put old : List ℕ) → new ≡ cond (is_ok r) put old → OnOk r (new ≡ put)
put_where_ok (Ok _) new put old e = e
put_where_ok (Err _) new put old e = tt

-- three parts
pub three_put : (before one two all a b c : List ℕ) → one ≡ before ++ a → two ≡ one ++ b → all ≡ two ++ c → all ≡ before ++ (a ++ b ++ c)
three_put before one two all a b c e f g =
    g ∙ ap (λ t. t ++ c) (f ∙ ap (λ t. t ++ b) e ∙ append_assoc before a b) ∙ append_assoc before (a ++ b) c

pub words_put : (before one two all x y z : List ℕ) (a b c : ℕ) → x ≡ to_be_bytes w32 a → y ≡ to_be_bytes w32 b → z ≡ to_be_bytes w32 c →
    one ≡ before ++ x → two ≡ one ++ y → all ≡ two ++ z → all ≡ before ++ three_words a b c
unfolding three_words
words_put before one two all x y z a b c p q r e f g = three_put before one two all x y z e f g ∙ (λ i. before ++ (p i ++ q i ++ r i))

-- the words of a status, and its other fields
status_parts : (before one two three all a b c p q r s : List ℕ) → one ≡ before ++ a → two ≡ one ++ b → three ≡ two ++ c → all ≡ three ++ (p ++ q ++ r ++ s) → all ≡ before ++ (a ++ b ++ c ++ p ++ q ++ r ++ s)
status_parts before one two three all a b c p q r s e f g h =
    let t = a ++ b ++ c in
    h ∙ ap (λ x. x ++ (p ++ q ++ r ++ s)) (three_put before one two three a b c e f g) ∙ append_assoc before t (p ++ q ++ r ++ s)
    ∙ ap (λ x. before ++ x) (
    sym (append_assoc t (p ++ q ++ r) s) ∙ ap (λ x. x ++ s) (sym (append_assoc t (p ++ q) r) ∙ ap (λ x. x ++ r) (sym (append_assoc t p q)))
    )

pub status_put : (before one two three all : List ℕ) (s : QuestionStatus) (long : List ℕ) (bound : ℕ) → one ≡ before ++ three_words s.question s.accepted s.opened → two ≡ one ++ long → long ≡ to_be_bytes w32 s.length →
    three ≡ two ++ bound ∷ [] → bound ≡ s.bound →
    all ≡ three ++ (to_be_bytes w32 s.total ++ to_be_bytes w32 s.delivered ++ to_be_bytes w64 s.cycles ++ to_be_bytes w64 s.confirmed) → all ≡ before ++ status_fields s
unfolding status_fields
status_put before one two three all s long bound e f l g is h =
    status_parts before one two three all _ (to_be_bytes w32 s.length) (s.bound ∷ []) (to_be_bytes w32 s.total) (to_be_bytes w32 s.delivered) (to_be_bytes w64 s.cycles) (to_be_bytes w64 s.confirmed)
    e (f ∙ ap (λ t. one ++ t) l) (g ∙ ap (λ n. two ++ n ∷ []) is) h

pub headed : (before first all rest : List ℕ) (kind k : ℕ) → first ≡ before ++ kind ∷ [] → kind ≡ k → all ≡ first ++ rest → all ≡ before ++ k ∷ rest
headed before first all rest kind k e is h =
    h ∙ ap (λ t. t ++ rest) (e ∙ ap (λ n. before ++ n ∷ []) is) ∙ append_assoc before (k ∷ []) rest
