-- What a collector took, after one step of a search and the next.
use Rattle.std.proofs.Common.{◌≡◌, ℕ, List, [], ◌∷◌, ◌++◌, Result, Ok, Err, refl, sym, ap, ◌∙◌, subst}
use Rattle.std.specs.Prelude.{MatchResult}
use Rattle.cycle_search.specs.Collecting.{CollectorRules, AcceptsAll, CollectsAll, AddsSome, TookAll, CollectorRefuses, TakesSoFar, TakesAll}
use Rattle.trace_model.specs.Theory.Dependencies.{Dependency}
use Rattle.cycle_search.specs.declared.pace.Halt.{Halt}
use Rattle.cycle_search.specs.declared.pace.Halt.TheVariants as halts
use Rattle.cycle_search.specs.declared.pace.Halt.TheVariants.{Paused}
use Rattle.cycle_search.specs.CycleSearch.{AreAll, AreSome, CycleOver, CycleThrough}
use Rattle.cycle_search.specs.Pausing.{IfPaused, IsListBefore, TakesUntil, TookUntil, position_at}
use Rattle.cycle_search.proofs.Listing.{append-nil}

module _ {S Refused : Type 0} (taking : CollectorRules S (List ℕ) Refused) where
  pub takes-none : (P : List ℕ → Type 0) (now : S) → AreAll P [] → TakesSoFar taking P now now
  takes-none P now none start before t = (before, ([], sym (append-nil before), none), t)

  -- A collector accepts the cycles through a number, if it accepted those over the numbers before.
  pub accepts-through : (ds : List Dependency) (bound : ℕ) (path now-path : List ℕ) (m : ℕ) (Q : ℕ → Type 0) (P : List ℕ → Type 0) (old now : S) → Q m → path ≡ now-path →
      TakesSoFar taking P old now → AcceptsAll taking (CycleOver ds bound path Q) old → AcceptsAll taking (CycleThrough ds bound now-path m) now
  accepts-through ds bound path now-path m Q P old now over same so all numbers (c, (rest, e)) =
      let (after, a, took) = so old [] (taking.nothing old) in
      taking.still old now after numbers took (all numbers (m, over, (c, (rest, e ∙ ap (λ (p : List ℕ). p ++ m ∷ rest) (sym same)))))

  pub takes-as : (P Q : List ℕ → Type 0) (old new : S) → ((before after : List (List ℕ)) → CollectsAll P before after → CollectsAll Q before after) →
      TakesSoFar taking P old new → TakesSoFar taking Q old new
  takes-as P Q old new same so start before t = let (after, a, u) = so start before t in (after, same before after a, u)

  pub takes-after : (P Q R : List ℕ → Type 0) (old mid new : S) →
      ((before so after : List (List ℕ)) → CollectsAll P before so → CollectsAll Q so after → CollectsAll R before after) →
      TakesSoFar taking P old mid → TakesSoFar taking Q mid new → TakesSoFar taking R old new
  takes-after P Q R old mid new join so more start before t =
      let (m, a, u) = so start before t in
      let (n, b, v) = more start m u in
      (n, join before m n a b, v)

  -- A result that is taken is the only one with the property.
  pub takes-one : (P : List ℕ → Type 0) (old new : S) (item : List ℕ) → AreAll P (item ∷ []) →
      ((start : S) (before : List (List ℕ)) → taking.took start before old → taking.took start (before ++ item ∷ []) new) → TakesSoFar taking P old new
  takes-one P old new item all one start before t = (before ++ item ∷ [], (item ∷ [], (λ i. before ++ item ∷ []), all), one start before t)

  -- The collector refuses after the steps so far.
  pub refuses-after : (P Q R : List ℕ → Type 0) (old mid : S) (refused : Refused) →
      ((before so after : List (List ℕ)) → CollectsAll P before so → AddsSome Q so after → AddsSome R before after) →
      TakesSoFar taking P old mid → ((start : S) (before : List (List ℕ)) → taking.took start before mid → CollectorRefuses taking Q start before refused) →
      (start : S) (before : List (List ℕ)) → taking.took start before old → CollectorRefuses taking R start before refused
  refuses-after P Q R old mid refused join so ends start before t =
      let (m, a, u) = so start before t in
      let (n, b, v) = ends start m u in
      (n, join before m n a b, v)

  pub refuses-as : (P Q : List ℕ → Type 0) (old : S) (refused : Refused) →
      ((before after : List (List ℕ)) → AddsSome P before after → AddsSome Q before after) →
      ((start : S) (before : List (List ℕ)) → taking.took start before old → CollectorRefuses taking P start before refused) →
      (start : S) (before : List (List ℕ)) → taking.took start before old → CollectorRefuses taking Q start before refused
  refuses-as P Q old refused same ends start before t = let (after, a, v) = ends start before t in (after, same before after a, v)

  pub takes_all-as : (P Q : List ℕ → Type 0) (old new : S) (answer : Result (Unit {0}) Refused) →
      ((before after : List (List ℕ)) → CollectsAll P before after → CollectsAll Q before after) →
      ((before after : List (List ℕ)) → AddsSome P before after → AddsSome Q before after) →
      TakesAll taking P old answer new → TakesAll taking Q old answer new
  takes_all-as P Q old new (Ok done) all some takes = takes-as P Q old new all takes
  takes_all-as P Q old new (Err refused) all some takes = refuses-as P Q old refused some takes

  -- The same for an equal path, or an equal last item.
  pub refuses-for : {X : Type 0} (P : X → List ℕ → Type 0) (x y : X) (old : S) (refused : Refused) → x ≡ y →
      ((start : S) (before : List (List ℕ)) → taking.took start before old → CollectorRefuses taking (P x) start before refused) →
      (start : S) (before : List (List ℕ)) → taking.took start before old → CollectorRefuses taking (P y) start before refused
  refuses-for P x y old refused same ends start before t = subst (λ z. CollectorRefuses taking (P z) start before refused) same (ends start before t)

  pub refuses-one : (P : List ℕ → Type 0) (old : S) (item given : List ℕ) (refused : Refused) → AreSome P (item ∷ []) → given ≡ item →
      ((start : S) (before : List (List ℕ)) → taking.took start before old → taking.refuses start (before ++ given ∷ []) refused) →
      (start : S) (before : List (List ℕ)) → taking.took start before old → CollectorRefuses taking P start before refused
  refuses-one P old item given refused some same ends start before t =
      (before ++ item ∷ [], (item ∷ [], (λ i. before ++ item ∷ []), some), subst (λ (z : List ℕ). taking.refuses start (before ++ z ∷ []) refused) same (ends start before t))

  -- The answer of a search that the collector ended.
  pub ended : (P : List ℕ → Type 0) (old new : S) (answer : Result (Unit {0}) Refused) (refused given : Refused) → answer ≡ Err refused → given ≡ refused →
      ((start : S) (before : List (List ℕ)) → taking.took start before old → CollectorRefuses taking P start before given) → TakesAll taking P old answer new
  ended P old new answer refused given is same ends start before t =
      subst (λ r. MatchResult r (λ _. TookAll taking P start before new) (CollectorRefuses taking P start before)) (sym is)
      (subst (CollectorRefuses taking P start before) same (ends start before t))

module _ {S E : Type 0} (taking : CollectorRules S (List ℕ) E) where
  -- A search that ends after some steps takes what these took, too.
  took-after : (P Q R : List ℕ → Type 0) (old mid new : S) (path : List ℕ) (given : Halt E) →
      ((before so after : List (List ℕ)) → CollectsAll P before so → AddsSome Q so after → AddsSome R before after) →
      ((last : ℕ) → given ≡ Paused last → (before so after : List (List ℕ)) → CollectsAll P before so →
      CollectsAll (IsListBefore Q (position_at path last)) so after → CollectsAll (IsListBefore R (position_at path last)) before after) →
      TakesSoFar taking P old mid →
      ((start : S) (before : List (List ℕ)) → taking.took start before mid → TookUntil taking Q start before path new given) →
      (start : S) (before : List (List ℕ)) → taking.took start before old → TookUntil taking R start before path new given
  took-after P Q R old mid new path (halts.Refused refused) some all so ends start before t =
      let (m, a, u) = so start before t in
      let (n, b, v) = ends start m u in
      (n, some before m n a b, v)
  took-after P Q R old mid new path (Paused last) some all so ends start before t =
      let (m, a, u) = so start before t in
      let (n, b, v) = ends start m u in
      (n, all last refl before m n a b, v)

  took-as : (P Q : List ℕ → Type 0) (old new : S) (path : List ℕ) (given : Halt E) →
      ((before after : List (List ℕ)) → AddsSome P before after → AddsSome Q before after) →
      ((last : ℕ) → given ≡ Paused last → (before after : List (List ℕ)) →
      CollectsAll (IsListBefore P (position_at path last)) before after → CollectsAll (IsListBefore Q (position_at path last)) before after) →
      ((start : S) (before : List (List ℕ)) → taking.took start before old → TookUntil taking P start before path new given) →
      (start : S) (before : List (List ℕ)) → taking.took start before old → TookUntil taking Q start before path new given
  took-as P Q old new path (halts.Refused refused) some all ends start before t = let (n, b, v) = ends start before t in (n, some before n b, v)
  took-as P Q old new path (Paused last) some all ends start before t = let (n, b, v) = ends start before t in (n, all last refl before n b, v)

  halted : (P : List ℕ → Type 0) (old new : S) (path : List ℕ) (answer : Result (Unit {0}) (Halt E)) (halt given : Halt E) → answer ≡ Err halt → given ≡ halt →
      ((start : S) (before : List (List ℕ)) → taking.took start before old → TookUntil taking P start before path new given) → TakesUntil taking P old answer path new
  halted P old new path answer halt given is same ends start before t =
      subst (λ r. MatchResult r (λ _. TookAll taking P start before new) (TookUntil taking P start before path new)) (sym is)
      (subst (TookUntil taking P start before path new) same (ends start before t))

  -- The same for an equal path or number.
  pub until-for : {X : Type 0} (P : X → List ℕ → Type 0) (x y : X) (old new : S) (path : List ℕ) (given : Halt E) → x ≡ y →
      ((start : S) (before : List (List ℕ)) → taking.took start before old → TookUntil taking (P x) start before path new given) →
      (start : S) (before : List (List ℕ)) → taking.took start before old → TookUntil taking (P y) start before path new given
  until-for P x y old new path given same ends start before t = subst (λ z. TookUntil taking (P z) start before path new given) same (ends start before t)

  pub until-refused : (P : List ℕ → Type 0) (old new : S) (path : List ℕ) (given : Halt E) (refused : E) → given ≡ halts.Refused refused →
      ((start : S) (before : List (List ℕ)) → taking.took start before old → TookUntil taking P start before path new given) →
      (start : S) (before : List (List ℕ)) → taking.took start before old → CollectorRefuses taking P start before refused
  until-refused P old new path given refused is ends start before t = subst (TookUntil taking P start before path new) is (ends start before t)

  pub until-paused : (P : List ℕ → Type 0) (old new : S) (path : List ℕ) (given : Halt E) (last : ℕ) → given ≡ Paused last →
      ((start : S) (before : List (List ℕ)) → taking.took start before old → TookUntil taking P start before path new given) →
      (start : S) (before : List (List ℕ)) → taking.took start before old → TookAll taking (IsListBefore P (position_at path last)) start before new
  until-paused P old new path given last is ends start before t = subst (TookUntil taking P start before path new) is (ends start before t)

  pub ended-after : (P Q R : List ℕ → Type 0) (old mid new : S) (path : List ℕ) (answer : Result (Unit {0}) (Halt E)) (halt given : Halt E) → answer ≡ Err halt → given ≡ halt →
      ((before so after : List (List ℕ)) → CollectsAll P before so → AddsSome Q so after → AddsSome R before after) →
      ((last : ℕ) → given ≡ Paused last → (before so after : List (List ℕ)) → CollectsAll P before so →
      CollectsAll (IsListBefore Q (position_at path last)) so after → CollectsAll (IsListBefore R (position_at path last)) before after) →
      TakesSoFar taking P old mid →
      ((start : S) (before : List (List ℕ)) → taking.took start before mid → TookUntil taking Q start before path new given) → TakesUntil taking R old answer path new
  ended-after P Q R old mid new path answer halt given is same some all so ends =
      halted R old new path answer halt given is same (took-after P Q R old mid new path given some all so ends)

  pub ended-as : (P Q : List ℕ → Type 0) (old new : S) (path : List ℕ) (answer : Result (Unit {0}) (Halt E)) (halt given : Halt E) → answer ≡ Err halt → given ≡ halt →
      ((before after : List (List ℕ)) → AddsSome P before after → AddsSome Q before after) →
      ((last : ℕ) → given ≡ Paused last → (before after : List (List ℕ)) →
      CollectsAll (IsListBefore P (position_at path last)) before after → CollectsAll (IsListBefore Q (position_at path last)) before after) →
      ((start : S) (before : List (List ℕ)) → taking.took start before old → TookUntil taking P start before path new given) → TakesUntil taking Q old answer path new
  ended-as P Q old new path answer halt given is same some all ends =
      halted Q old new path answer halt given is same (took-as P Q old new path given some all ends)

-- What is known of a search that was paused.
pub paused-last : {E : Type 0} (F : ℕ → Type 0) (given : Halt E) (last : ℕ) → given ≡ Paused last → IfPaused (Err given) F → F last
paused-last F given last is h = subst (λ r. IfPaused (Err r) F) is h

pub paused-as : {E : Type 0} (F : ℕ → Type 0) (answer : Result (Unit {0}) (Halt E)) (halt given : Halt E) → answer ≡ Err halt → given ≡ halt →
    ((last : ℕ) → given ≡ Paused last → F last) → IfPaused answer F
paused-as {E} F answer halt given is same so = subst (λ r. IfPaused r F) (sym is) (subst (λ h. IfPaused (Err h) F) same (go given refl))
  where
    go : (h : Halt E) → given ≡ h → IfPaused (Err given) F
    go (halts.Refused refused) e = subst (λ h. IfPaused (Err h) F) (sym e) tt
    go (Paused last) e = subst (λ h. IfPaused (Err h) F) (sym e) (so last e)
