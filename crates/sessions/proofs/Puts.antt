-- Bytes that are written or read in parts.
use Rattle.std.proofs.Common.{◌≡◌, ℕ, ◌+◌, ◌-◌, ◌≤◌, List, [], ◌++◌, length, take, drop, Option, None, Some, refl, sym, ap, subst, ◌∙◌, append_assoc, arith}
use Rattle.std.specs.Io.KnownBytes.{Consumes, Appends, Keeps, append_known}
use Rattle.std.proofs.lemmas.List.{append-nil, take_all, length-drop, drop-take, take-append-drop}
use Rattle.std.proofs.Math.Seq.{take-append-add, take-append_seam}
use Rattle.std.proofs.lemmas.Grind.{common_steps}

pub put_none : (old : Option (List ℕ)) → Appends old old []
put_none None = tt
put_none (Some front) = sym (append-nil front)

pub put_then : (old mid new : Option (List ℕ)) (x y : List ℕ) → Appends old mid x → Appends mid new y → Appends old new (x ++ y)
put_then None mid new x y p q = tt
put_then (Some front) None new x y p q = absurd p
put_then (Some front) (Some middle) None x y p q = absurd q
put_then (Some front) (Some middle) (Some back) x y p q = q ∙ (ap (λ (f : List ℕ). f ++ y) p ∙ append_assoc front x y)

pub put_kept : (old mid new : Option (List ℕ)) (x : List ℕ) → Appends old mid x → Keeps mid new → Appends old new x
put_kept None mid new x p k = tt
put_kept (Some front) None new x p k = absurd p
put_kept (Some front) (Some middle) None x p k = absurd k
put_kept (Some front) (Some middle) (Some back) x p k = k ∙ p

pub took_none : (old : Option (List ℕ)) → Consumes old old []
took_none None = tt
took_none (Some rest) = refl

pub took_then : (old mid new : Option (List ℕ)) (x y : List ℕ) → Consumes old mid x → Consumes mid new y → Consumes old new (x ++ y)
took_then None mid new x y p q = tt
took_then (Some whole) None new x y p q = absurd p
took_then (Some whole) (Some middle) None x y p q = absurd q
took_then (Some whole) (Some middle) (Some rest) x y p q = p ∙ (ap (λ (r : List ℕ). x ++ r) q ∙ sym (append_assoc x y rest))

pub took_kept : (old mid new : Option (List ℕ)) (x : List ℕ) → Consumes old mid x → Keeps mid new → Consumes old new x
took_kept None mid new x p k = tt
took_kept (Some whole) None new x p k = absurd p
took_kept (Some whole) (Some middle) None x p k = absurd k
took_kept (Some whole) (Some middle) (Some rest) x p k = p ∙ ap (λ (r : List ℕ). x ++ r) (sym k)

pub kept_none : (old : Option (List ℕ)) → Keeps old old
kept_none None = tt
kept_none (Some front) = refl

pub kept_then : (old mid new : Option (List ℕ)) → Keeps old mid → Keeps mid new → Keeps old new
kept_then None mid new j k = tt
kept_then (Some front) None new j k = absurd j
kept_then (Some front) (Some middle) None j k = absurd k
kept_then (Some front) (Some middle) (Some back) j k = k ∙ j

pub kept_put : (old mid new : Option (List ℕ)) (x : List ℕ) → Keeps old mid → Appends mid new x → Appends old new x
kept_put None mid new x k p = tt
kept_put (Some front) None new x k p = absurd k
kept_put (Some front) (Some middle) None x k p = absurd p
kept_put (Some front) (Some middle) (Some back) x k p = p ∙ ap (λ (f : List ℕ). f ++ x) k

pub kept_took : (old mid new : Option (List ℕ)) (x : List ℕ) → Keeps old mid → Consumes mid new x → Consumes old new x
kept_took None mid new x k p = tt
kept_took (Some whole) None new x k p = absurd k
kept_took (Some whole) (Some middle) None x k p = absurd p
kept_took (Some whole) (Some middle) (Some rest) x k p = sym k ∙ p

pub kept_beside : (old new : Option (List ℕ)) (x : List ℕ) → Keeps old new → Keeps (append_known old x) (append_known new x)
kept_beside None new x k = tt
kept_beside (Some front) None x k = absurd k
kept_beside (Some front) (Some back) x k = ap (λ (f : List ℕ). f ++ x) k

pub nothing_put : (old new : Option (List ℕ)) → Appends old new [] → Keeps old new
nothing_put None new p = tt
nothing_put (Some front) None p = absurd p
nothing_put (Some front) (Some back) p = p ∙ append-nil front

-- this number of bytes is written
pub record IsPut (old now : Option (List ℕ)) (failures failures' : ℕ) (bytes : List ℕ) (n : ℕ) : Type 0 where
  pub within : n ≤ length bytes
  pub put : Appends old now (take n bytes)
  pub same : failures' ≡ failures

take-take_front : (bytes : List ℕ) (at n : ℕ) → take at (take (at + n) bytes) ≡ take at bytes
take-take_front bytes at n = grind (arith, common_steps)

take_on : (bytes : List ℕ) (at n : ℕ) → take (at + n) bytes ≡ take at bytes ++ take n (drop at bytes)
take_on bytes at n =
    let both : drop at (take (at + n) bytes) ≡ take n (drop at bytes) = drop-take at n bytes in
    let front : take at (take (at + n) bytes) ≡ take at bytes = take-take_front bytes at n in
    sym (take-append-drop at (take (at + n) bytes)) ∙ (ap (λ (x : List ℕ). x ++ drop at (take (at + n) bytes)) front ∙ ap (λ (x : List ℕ). take at bytes ++ x) both)

pub put_on : (old now next : Option (List ℕ)) (failures failures' failures'' : ℕ) (bytes : List ℕ) (at n : ℕ) → IsPut old now failures failures' bytes at → n ≤ length (take (length bytes - at) (drop at bytes)) → Appends now next (take n (take (length bytes - at) (drop at bytes))) → failures'' ≡ failures' → IsPut old next failures failures'' bytes (at + n)
put_on old now next failures failures' failures'' bytes at n p le q e =
    let rest : take (length bytes - at) (drop at bytes) ≡ drop at bytes = take_all (length bytes - at) (drop at bytes) (omega (arith, length-drop at bytes)) in
    record {
      within = omega (arith, ap length rest, length-drop at bytes, p.within);
      put = subst (λ (x : List ℕ). Appends old next x) (sym (take_on bytes at n)) (put_then old now next (take at bytes) (take n (drop at bytes)) p.put (subst (λ (x : List ℕ). Appends now next (take n x)) rest q));
      same = e ∙ p.same;
    }

-- a part of the first of two lists is one of both
pub part_of_first : (old new : Option (List ℕ)) (first second : List ℕ) (n : ℕ) → Appends old new (take n first) → (m : ℕ) × Appends old new (take m (first ++ second))
part_of_first old new first second n p =
    let part = take n first in
    let split = ap (λ t. t ++ second) (sym (take-append-drop n first)) ∙ append_assoc part (drop n first) second in
    (length part, subst (Appends old new) (sym (ap (take (length part)) split ∙ take-append_seam part (drop n first ++ second))) p)

pub part_of_second : (old mid new : Option (List ℕ)) (first second : List ℕ) (n : ℕ) → Appends old mid first → Appends mid new (take n second) → (m : ℕ) × Appends old new (take m (first ++ second))
part_of_second old mid new first second n p q =
    (length first + n, subst (Appends old new) (sym (take-append-add first second n)) (put_then old mid new first (take n second) p q))

-- a part of the text is written, and the rest is left
pub record IsPoured (old now : Option (List ℕ)) (failures failures' : ℕ) (whole left : List ℕ) : Type 0 where
  pub done : List ℕ
  pub put : Appends old now done
  pub whole_is : done ++ left ≡ whole
  pub same : failures' ≡ failures

module _ (old now next : Option (List ℕ)) (failures failures' : ℕ) (whole left piece rest bytes : List ℕ)
    (p : IsPoured old now failures failures' whole left) (takes : left ≡ piece ++ rest) (is : bytes ≡ piece) where
  all : (p.done ++ piece) ++ rest ≡ whole
  all = append_assoc p.done piece rest ∙ ap (λ t. p.done ++ t) (sym takes) ∙ p.whole_is

  pub poured_on : (failures'' : ℕ) → Appends now next bytes → failures'' ≡ failures' → IsPoured old next failures failures'' whole rest
  poured_on failures'' q e = record {
    done = p.done ++ piece;
    put = put_then old now next p.done piece p.put (subst (Appends now next) is q);
    whole_is = all;
    same = e ∙ p.same;
  }

  pub poured_part : (n : ℕ) × Appends now next (take n bytes) → (m : ℕ) × Appends old next (take m whole)
  poured_part (n, q) =
      let first = part_of_second old now next p.done piece n p.put (subst (λ t. Appends now next (take n t)) is q) in
      let part = part_of_first old next (p.done ++ piece) rest first.0 first.1 in
      (part.0, subst (λ t. Appends old next (take part.0 t)) all part.1)

pub poured_all : (old now : Option (List ℕ)) (failures failures' : ℕ) (whole left : List ℕ) → IsPoured old now failures failures' whole left → left ≡ [] → Appends old now whole
poured_all old now failures failures' whole left p none =
    subst (Appends old now) (sym (append-nil p.done) ∙ ap (λ t. p.done ++ t) (sym none) ∙ p.whole_is) p.put
