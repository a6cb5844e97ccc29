-- Processing a requirement keeps the state consistent. If the worklist is empty, the included
-- places are closed.
use Rattle.std.proofs.Common.{◌≡◌, ◌≢◌, ℕ, ◌+◌, ◌<◌, ◌≤◌, ◌⊎◌, inl, inr, Bool, true, false, [], length, Option, Some, None, MatchOption, refl, sym, ap, subst, ◌∙◌, arith}
use Rattle.std.specs.List.{Contains}
use Rattle.std.proofs.lemmas.Bool.{cases_lt, false≢true}
use Rattle.std.proofs.lemmas.Bool.Decides.{eqb_tells}
use Rattle.std.proofs.lemmas.Option.{same_Some}
use Rattle.trace_model.specs.Theory.Trace.{Trace, EarlierInThread}
use Rattle.trace_model.specs.Theory.Held.{BeginsOn}
use Rattle.trace_model.specs.Theory.Lookups.{release}
use Rattle.trace_model.specs.Theory.Closure.{Places, IsClosed}
use Rattle.fronts.specs.declared.requirements.ThreadPrefix.{ThreadPrefix}
use Rattle.fronts.specs.declared.requirements.Section.{Section}
use Rattle.fronts.specs.declared.requirements.Requirement.{Requirement}
use Rattle.fronts.specs.declared.requirements.Requirement.TheVariants.{Reach, Begin}
use Rattle.fronts.specs.declared.requirements.Item.{Item}
use Rattle.fronts.specs.Slots.{AreSlots, HasSlotPosition, HoldsFirst, HasFirst, in_front}
use Rattle.fronts.specs.Overlays.{Changes}
use Rattle.fronts.specs.Requirements.{AreLocks, Needs, IsPrefixThrough, EndsSection, empty_prefix, item, AreItems}
use Rattle.fronts.specs.Propagation.{Grows, PropagationState, IsConsistent, Raises, BeginsSection, HasBegun, Meets, AreKnownSlots}
use Rattle.fronts.proofs.SlotLemmas.{position_before, before_position, earlier_position, has_upto, in_front_from, in_front_so}

is_reach : Requirement → Bool
is_reach (Reach g) = true
is_reach (Begin l c) = false

prefix_in : Requirement → ThreadPrefix
prefix_in (Reach g) = g
prefix_in (Begin l c) = empty_prefix

lock_in : Requirement → ℕ
lock_in (Reach g) = 0
lock_in (Begin l c) = l

section_in : Section → Requirement → Section
section_in d (Reach g) = d
section_in d (Begin l c) = c

-- The state after a requirement of `a` is processed.
pub record Passes (a : ℕ) (x y : PropagationState) : Type 0 where
  pub done : Changes x.done a (x.done a + 1) y.done
  pub grows : (b : ℕ) → x.front b ≤ y.front b
  pub enqueued : (b : ℕ) → (y.front b ≡ x.front b) ⊎ Contains y.pending b
  pub kept : (b : ℕ) → Contains x.pending b → Contains y.pending b

was_done : (a : ℕ) (x y : PropagationState) (b j : ℕ) → Passes a x y → j < y.done b → (j < x.done b) ⊎ ((b ≡ a) × (j ≡ x.done a))
was_done a x y b j p l = elim (eqb_tells b a) [
  | inl e ↦ elim (cases_lt j (x.done b)) [
    | inl less ↦ inl less
    | inr more ↦
        let m : y.done b ≡ x.done a + 1 = ap y.done e.1 ∙ p.done.here in
        let n : x.done b ≡ x.done a = ap x.done e.1 in
        inr (e.1, omega (arith, l, more, m, n))
  ]
  | inr e ↦ inl (omega (arith, l, p.done.others b e.1))
]

is_done : (a : ℕ) (x y : PropagationState) (b j : ℕ) → Passes a x y → j < x.done b → j < y.done b
is_done a x y b j p l = elim (eqb_tells b a) [
  | inl e ↦
      let m : y.done b ≡ x.done a + 1 = ap y.done e.1 ∙ p.done.here in
      let n : x.done b ≡ x.done a = ap x.done e.1 in
      omega (arith, l, m, n)
  | inr e ↦ omega (arith, l, p.done.others b e.1)
]

at_done : (items : ℕ → ℕ → Option Item) (a b j k : ℕ) (i e : Item) → items a k ≡ Some i → b ≡ a → j ≡ k → items b j ≡ Some e → i ≡ e
at_done items a b j k i e h same at g = same_Some i e (sym h ∙ subst (λ z. items z k ≡ Some e) same (subst (λ z. items b z ≡ Some e) at g))

inside_on : (items : ℕ → ℕ → Option Item) (a : ℕ) (x y : PropagationState) (i : Item) → IsConsistent items x → Passes a x y → items a (x.done a) ≡ Some i → i.number < x.front a →
    (b j : ℕ) (e : Item) → items b j ≡ Some e → j < y.done b → e.number < y.front b
inside_on items a x y i w p at less b j e h l = elim (was_done a x y b j p l) [
  | inl old ↦ omega (arith, w.inside b j e h old, p.grows b)
  | inr new ↦
      let same = at_done items a b j (x.done a) i e at new.0 new.1 h in
      let n : i.number ≡ e.number = ap (λ z. z.number) same in
      let f : x.front b ≡ x.front a = ap x.front new.0 in
      omega (arith, n, f, less, p.grows b)
]

queued_on : (items : ℕ → ℕ → Option Item) (a : ℕ) (x y : PropagationState) → IsConsistent items x → Passes a x y →
    (b j : ℕ) (e : Item) → items b j ≡ Some e → e.number < y.front b → (j < y.done b) ⊎ Contains y.pending b
queued_on items a x y w p b j e h l = elim (p.enqueued b) [
  | inr c ↦ inr c
  | inl same ↦ elim (w.queued b j e h (omega (arith, l, same))) [
    | inl old ↦ inl (is_done a x y b j p old)
    | inr c ↦ inr (p.kept b c)
  ]
]

pub on_way_reach : (items : ℕ → ℕ → Option Item) (a n : ℕ) (prefix : ThreadPrefix) (x y : PropagationState) → IsConsistent items x → Passes a x y →
    items a (x.done a) ≡ Some (item n (Reach prefix)) → n < x.front a → prefix.count ≤ y.front prefix.slot → ((l : ℕ) → y.last l ≡ x.last l) → IsConsistent items y
unfolding prefix_in is_reach
on_way_reach items a n prefix x y w p at less upto last = record {
  inside = inside_on items a x y (item n (Reach prefix)) w p at less;
  reached = λ b j m g h l. elim (was_done a x y b j p l) [
    | inl old ↦ omega (arith, w.reached b j m g h old, p.grows g.slot)
    | inr new ↦
        let same = at_done items a b j (x.done a) (item n (Reach prefix)) (item m (Reach g)) at new.0 new.1 h in
        subst (λ z. z.count ≤ y.front z.slot) (ap (λ i. prefix_in i.requirement) same) upto
  ];
  lasts = λ l c h.
      let (b, j, m, d, i) = w.lasts l c (sym (last l) ∙ h) in
      (b, j, m, is_done a x y b j p d, i);
  ended = λ b j m l c h k. elim (was_done a x y b j p k) [
    | inl old ↦
        let (d, e, both) = w.ended b j m l c h old in (
          d,
          last l ∙ e,
          elim both [
            | inl same ↦ inl same
            | inr more ↦ inr (more.0, omega (arith, more.1, p.grows c.end.slot))
          ],
        )
    | inr new ↦
        let same = at_done items a b j (x.done a) (item n (Reach prefix)) (item m (Begin l c)) at new.0 new.1 h in
        absurd (false≢true (sym (ap (λ i. is_reach i.requirement) same)))
  ];
  queued = queued_on items a x y w p;
}

begun_lasts : (items : ℕ → ℕ → Option Item) (a n l : ℕ) (c : Section) (x y : PropagationState) → IsConsistent items x → Passes a x y →
    items a (x.done a) ≡ Some (item n (Begin l c)) → (o : Option Section) → x.last l ≡ o → HasBegun o c y l → (e : Section) → y.last l ≡ Some e →
    (b : ℕ) × (j : ℕ) × (m : ℕ) × (j < y.done b) × (items b j ≡ Some (item m (Begin l e)))
begun_lasts items a n l c x y w p at o was begun e h =
    let new : c ≡ e → (b : ℕ) × (j : ℕ) × (m : ℕ) × (j < y.done b) × (items b j ≡ Some (item m (Begin l e))) = λ same.
    (a, x.done a, n, omega (arith, p.done.here), at ∙ ap (λ z. Some (item n (Begin l z))) same) in
    let old : (d : Section) → x.last l ≡ Some d → d ≡ e → (b : ℕ) × (j : ℕ) × (m : ℕ) × (j < y.done b) × (items b j ≡ Some (item m (Begin l e))) = λ d at_d same.
    (let (b, j, m, k, i) = w.lasts l e (at_d ∙ ap Some same) in (b, j, m, is_done a x y b j p k, i)) in
    go new old o was begun
  where
    go : (c ≡ e → (b : ℕ) × (j : ℕ) × (m : ℕ) × (j < y.done b) × (items b j ≡ Some (item m (Begin l e)))) →
        ((d : Section) → x.last l ≡ Some d → d ≡ e → (b : ℕ) × (j : ℕ) × (m : ℕ) × (j < y.done b) × (items b j ≡ Some (item m (Begin l e)))) →
        (o : Option Section) → x.last l ≡ o → HasBegun o c y l →
        (b : ℕ) × (j : ℕ) × (m : ℕ) × (j < y.done b) × (items b j ≡ Some (item m (Begin l e)))
    go new old None was is = new (same_Some c e (sym is ∙ h))
    go new old (Some d) was (inl (k, is, f)) = new (same_Some c e (sym is ∙ h))
    go new old (Some d) was (inr (inl (k, is, f))) = old d was (same_Some d e (sym is ∙ h))
    go new old (Some d) was (inr (inr (k, is))) = old d was (same_Some d e (sym is ∙ h))

-- A section that had ended before, or was the last one.
begun_before : (c : Section) (x y : PropagationState) (l : ℕ) (e : Section) → ((b : ℕ) → x.front b ≤ y.front b) → (d : Section) → x.last l ≡ Some d → HasBegun (Some d) c y l →
    (e ≡ d) ⊎ ((e.place < d.place) × (e.end.count ≤ x.front e.end.slot)) →
    (f : Section) × (y.last l ≡ Some f) × ((e ≡ f) ⊎ ((e.place < f.place) × (e.end.count ≤ y.front e.end.slot)))
begun_before c x y l e grows d was (inl (k, is, ended)) (inl same) =
    (c, is, inr (omega (arith, k, ap (λ z. z.place) same), subst (λ z. z.end.count ≤ y.front z.end.slot) (sym same) ended))
begun_before c x y l e grows d was (inl (k, is, ended)) (inr (less, before)) =
    (c, is, inr (omega (arith, k, less), omega (arith, before, grows e.end.slot)))
begun_before c x y l e grows d was (inr (inl (k, is, ended))) (inl same) = (d, is, inl same)
begun_before c x y l e grows d was (inr (inl (k, is, ended))) (inr (less, before)) = (d, is, inr (less, omega (arith, before, grows e.end.slot)))
begun_before c x y l e grows d was (inr (inr (k, is))) (inl same) = (d, is, inl same)
begun_before c x y l e grows d was (inr (inr (k, is))) (inr (less, before)) = (d, is, inr (less, omega (arith, before, grows e.end.slot)))

-- The section itself.
begun_here : (c : Section) (x y : PropagationState) (l : ℕ) → (o : Option Section) → x.last l ≡ o → HasBegun o c y l → ((d : Section) → x.last l ≡ Some d → c.place ≡ d.place → c ≡ d) →
    (f : Section) × (y.last l ≡ Some f) × ((c ≡ f) ⊎ ((c.place < f.place) × (c.end.count ≤ y.front c.end.slot)))
begun_here c x y l None was is one = (c, is, inl refl)
begun_here c x y l (Some d) was (inl (k, is, ended)) one = (c, is, inl refl)
begun_here c x y l (Some d) was (inr (inl (k, is, ended))) one = (d, is, inr (k, ended))
begun_here c x y l (Some d) was (inr (inr (k, is))) one = (d, is, inl (one d was k))

pub on_way_begin : (items : ℕ → ℕ → Option Item) (count a n l : ℕ) (c : Section) (x y z : PropagationState) → IsConsistent items x → Passes a x y →
    items a (x.done a) ≡ Some (item n (Begin l c)) → n < x.front a → HasBegun (x.last l) c y l → ((m : ℕ) → m ≢ l → y.last m ≡ x.last m) →
    ((d : Section) → x.last l ≡ Some d → c.place ≡ d.place → c ≡ d) → IsConsistent items y
unfolding is_reach lock_in section_in
on_way_begin items count a n l c x y z w p at less begun others one = record {
  inside = inside_on items a x y (item n (Begin l c)) w p at less;
  reached = λ b j m g h k. elim (was_done a x y b j p k) [
    | inl old ↦ omega (arith, w.reached b j m g h old, p.grows g.slot)
    | inr new ↦
        let same = at_done items a b j (x.done a) (item n (Begin l c)) (item m (Reach g)) at new.0 new.1 h in
        absurd (false≢true (ap (λ i. is_reach i.requirement) same))
  ];
  lasts = λ m e h. elim (eqb_tells m l) [
    | inl same ↦
        let (b, j, q, k, i) = begun_lasts items a n l c x y w p at (x.last l) refl begun e (subst (λ k. y.last k ≡ Some e) same.1 h) in
        (b, j, q, k, i ∙ ap (λ k. Some (item q (Begin k e))) (sym same.1))
    | inr apart ↦
        let (b, j, q, k, i) = w.lasts m e (sym (others m apart.1) ∙ h) in
        (b, j, q, is_done a x y b j p k, i)
  ];
  ended = λ b j q m e h k. elim (was_done a x y b j p k) [
    | inl old ↦
        let (d, was, both) = w.ended b j q m e h old in
        elim (eqb_tells m l) [
          | inl same ↦
              let at_l : x.last l ≡ Some d = subst (λ k. x.last k ≡ Some d) same.1 was in
              let (f, is, ended) = begun_before c x y l e p.grows d at_l (subst (λ o. HasBegun o c y l) at_l begun) both in
              (f, subst (λ k. y.last k ≡ Some f) (sym same.1) is, ended)
          | inr apart ↦ (
            d,
            others m apart.1 ∙ was,
            elim both [
              | inl same ↦ inl same
              | inr more ↦ inr (more.0, omega (arith, more.1, p.grows e.end.slot))
            ],
          )
        ]
    | inr new ↦
        let same = at_done items a b j (x.done a) (item n (Begin l c)) (item q (Begin m e)) at new.0 new.1 h in
        let is_l : l ≡ m = ap (λ i. lock_in i.requirement) same in
        let is_c : c ≡ e = ap (λ i. section_in c i.requirement) same in
        let (f, is, ended) = begun_here c x y l (x.last l) refl begun one in
        subst (λ e. (f : Section) × (y.last m ≡ Some f) × ((e ≡ f) ⊎ ((e.place < f.place) × (e.end.count ≤ y.front e.end.slot)))) is_c
        (f, subst (λ k. y.last k ≡ Some f) is_l is, ended)
  ];
  queued = queued_on items a x y w p;
}

-- From a state with the same fronts and worklist.
grows_from : (k : ℕ) (x m y : PropagationState) → ((a : ℕ) → m.front a ≡ x.front a) → m.pending ≡ x.pending → Grows k m y → ((a : ℕ) → m.done a ≡ x.done a) → Grows k x y
grows_from k x m y front pending r done = record {
  grows = λ a. omega (arith, front a, r.grows a);
  enqueued = λ a. elim (r.enqueued a) [
    | inl e ↦ inl (e ∙ front a)
    | inr p ↦ inr p
  ];
  kept = λ a p. r.kept a (subst (λ z. Contains z a) (sym pending) p);
  known = λ p. r.known (subst (AreKnownSlots k) (sym pending) p);
  done = λ a. r.done a ∙ done a;
  more = omega (arith, r.more, ap length pending);
}

grows_self : (k : ℕ) (x : PropagationState) → Grows k x x
grows_self k x = record {
  grows = λ a. omega arith;
  enqueued = λ a. inl refl;
  kept = λ a p. p;
  known = λ p. p;
  done = λ a. refl;
  more = omega arith;
}

-- The lock's first section.
pub begins_first : (k l : ℕ) (c : Section) (x y : PropagationState) → x.last l ≡ None → Changes x.last l (Some c) y.last →
    ((a : ℕ) → y.front a ≡ x.front a) → ((a : ℕ) → y.done a ≡ x.done a) → y.pending ≡ x.pending → BeginsSection k l c x y
begins_first k l c x y was last front done pending = record {
  begun = subst (λ o. HasBegun o c y l) (sym was) last.here;
  others = last.others;
  growth = grows_from k x y y front pending (grows_self k y) done;
}

-- The section at the place of the lock's last one.
pub begins_same : (k l : ℕ) (c d : Section) (x : PropagationState) → x.last l ≡ Some d → c.place ≡ d.place → BeginsSection k l c x x
begins_same k l c d x was same = record {
  begun = subst (λ o. HasBegun o c x l) (sym was) (inr (inr (same, was)));
  others = λ j ne. refl;
  growth = grows_self k x;
}

pub raises_followed : (k l : ℕ) (c d : Section) (x m y : PropagationState) → x.last l ≡ Some d → d.place < c.place → Changes x.last l (Some c) m.last →
    ((a : ℕ) → m.front a ≡ x.front a) → ((a : ℕ) → m.done a ≡ x.done a) → m.pending ≡ x.pending → Raises k d.end m y → BeginsSection k l c x y
raises_followed k l c d x m y was less last front done pending r = record {
  begun = subst (λ o. HasBegun o c y l) (sym was) (inl (less, r.last l ∙ last.here, r.upto));
  others = λ j ne. r.last j ∙ last.others j ne;
  growth = grows_from k x m y front pending r.growth done;
}

-- The state after one requirement was processed and fronts grew.
pub passes_grown : (k a : ℕ) (x m y : PropagationState) → Changes x.done a (x.done a + 1) m.done → ((b : ℕ) → m.front b ≡ x.front b) → m.pending ≡ x.pending → Grows k m y → Passes a x y
passes_grown k a x m y done front pending r = record {
  done = record { here = r.done a ∙ done.here; others = λ b ne. r.done b ∙ done.others b ne };
  grows = λ b. omega (arith, front b, r.grows b);
  enqueued = λ b. elim (r.enqueued b) [
    | inl e ↦ inl (e ∙ front b)
    | inr p ↦ inr p
  ];
  kept = λ b p. r.kept b (subst (λ z. Contains z b) (sym pending) p);
}

pub meets_reach : (items : ℕ → ℕ → Option Item) (k a n : ℕ) (prefix : ThreadPrefix) (x m y : PropagationState) → IsConsistent items x → items a (x.done a) ≡ Some (item n (Reach prefix)) → n < x.front a →
    Changes x.done a (x.done a + 1) m.done → ((b : ℕ) → m.front b ≡ x.front b) → ((l : ℕ) → m.last l ≡ x.last l) → m.pending ≡ x.pending → Raises k prefix m y → Meets items k a x y
meets_reach items k a n prefix x m y w at less done front last pending r =
    let p = passes_grown k a x m y done front pending r.growth in
    record {
      consistent = on_way_reach items a n prefix x y w p at less r.upto (λ l. r.last l ∙ last l);
      known = λ q. r.growth.known (subst (AreKnownSlots k) (sym pending) q);
      grows = p.grows;
      done = p.done;
      pending = omega (arith, r.growth.more, ap length pending);
    }

pub meets_begin : (items : ℕ → ℕ → Option Item) (k a n l : ℕ) (c : Section) (x m y : PropagationState) → IsConsistent items x → items a (x.done a) ≡ Some (item n (Begin l c)) → n < x.front a →
    Changes x.done a (x.done a + 1) m.done → ((b : ℕ) → m.front b ≡ x.front b) → ((l : ℕ) → m.last l ≡ x.last l) → m.pending ≡ x.pending → BeginsSection k l c m y →
    ((d : Section) → x.last l ≡ Some d → c.place ≡ d.place → c ≡ d) → Meets items k a x y
meets_begin items k a n l c x m y w at less done front last pending r one =
    let p = passes_grown k a x m y done front pending r.growth in
    record {
      consistent = on_way_begin items k a n l c x y y w p at less (subst (λ o. HasBegun o c y l) (last l) r.begun) (λ j ne. r.others j ne ∙ last j) one;
      known = λ q. r.growth.known (subst (AreKnownSlots k) (sym pending) q);
      grows = p.grows;
      done = p.done;
      pending = omega (arith, r.growth.more, ap length pending);
    }

-- Prefixes that exist in the trace.

pub prefix_reach : (s : Trace) (slots : ℕ → Option ℕ) (count : ℕ) (prefix : ThreadPrefix) (r : ℕ) → AreSlots s slots count → IsPrefixThrough s slots prefix r → HasFirst s slots prefix.slot prefix.count
prefix_reach s slots count prefix r known (n, x, e) = subst (HasFirst s slots prefix.slot) (sym e) (has_upto s slots count r prefix.slot n known x)

pub end_reach : (s : Trace) (slots : ℕ → Option ℕ) (count : ℕ) (c : Section) → AreSlots s slots count → EndsSection s slots c → HasFirst s slots c.end.slot c.end.count
end_reach s slots count c known ends = go (release s c.place) ends
  where
    go : (o : Option ℕ) → MatchOption o (c.end ≡ empty_prefix) (IsPrefixThrough s slots c.end) → HasFirst s slots c.end.slot c.end.count
    go None e = λ n l. absurd (omega (arith, l, ap (λ g. g.count) e))
    go (Some r) e = prefix_reach s slots count c.end r known e

pub same_end : (s : Trace) (slots : ℕ → Option ℕ) (c d : Section) → EndsSection s slots c → EndsSection s slots d → c.place ≡ d.place → c ≡ d
same_end s slots c d x y e =
    let other : MatchOption (release s c.place) (d.end ≡ empty_prefix) (IsPrefixThrough s slots d.end) = subst (λ p. MatchOption (release s p) (d.end ≡ empty_prefix) (IsPrefixThrough s slots d.end)) (sym e) y in
    let same : c.end ≡ d.end = go (release s c.place) x other in
    λ i. record { place = e i; end = same i }
  where
    go : (o : Option ℕ) → MatchOption o (c.end ≡ empty_prefix) (IsPrefixThrough s slots c.end) → MatchOption o (d.end ≡ empty_prefix) (IsPrefixThrough s slots d.end) → c.end ≡ d.end
    go None a b = a ∙ sym b
    go (Some r) (n, a, f) (m, b, g) =
        let slot : c.end.slot ≡ d.end.slot = same_Some c.end.slot d.end.slot (sym a.slot ∙ b.slot) in
        let number : n ≡ m = same_Some n m (sym a.number ∙ b.number) in
        let count : c.end.count ≡ d.end.count = omega (arith, f, g, number) in
        λ i. record { slot = slot i; count = count i }

-- A closed set that contains a place contains what the place requires.

prefix_holds : (s : Trace) (slots : ℕ → Option ℕ) (count : ℕ) (set : Places) (prefix : ThreadPrefix) (r : ℕ) → AreSlots s slots count → IsClosed s set → IsPrefixThrough s slots prefix r → set r ≡ true →
    HoldsFirst s slots set prefix.slot prefix.count
prefix_holds s slots count set prefix r known closed (n, x, e) is p m y l = elim (cases_lt m n) [
  | inl less ↦ closed.threads p r is (position_before s slots count p r prefix.slot m n known y x less)
  | inr more ↦
      let same : m ≡ n = omega (arith, l, e, more) in
      let at : p ≡ r = one p m y same in
      subst (λ z. set z ≡ true) (sym at) is
]
  where
    one : (p m : ℕ) → HasSlotPosition s slots p prefix.slot m → m ≡ n → p ≡ r
    one p m y same = elim (cases_lt p r) [
      | inl a ↦ absurd (omega (arith, same, before_position s slots count p r prefix.slot m n known y x a))
      | inr a ↦ elim (cases_lt r p) [
        | inl b ↦ absurd (omega (arith, same, before_position s slots count r p prefix.slot n m known x y b))
        | inr b ↦ omega (arith, a, b)
      ]
    ]

needs_hold : (s : Trace) (set : Places) (q r : ℕ) → IsClosed s set → Needs s q r → set q ≡ true → set r ≡ true
needs_hold s set q r closed (inl f) is = closed.forks_joins r q is f
needs_hold s set q r closed (inr w) is = closed.writers r q is w

pub reach_holds : (s : Trace) (slots locks : ℕ → Option ℕ) (count : ℕ) (items : ℕ → ℕ → Option Item) (a j n : ℕ) (prefix : ThreadPrefix) (set : Places) (front : ℕ → ℕ) →
    AreSlots s slots count → AreItems s slots locks items → items a j ≡ Some (item n (Reach prefix)) → n < front a → IsClosed s set →
    ((b : ℕ) → HoldsFirst s slots set b (front b)) → HoldsFirst s slots set prefix.slot prefix.count
reach_holds s slots locks count items a j n prefix set front known all at less closed holds =
    let (q, r, x, requirement, is) = all.reach a j n prefix at in
    prefix_holds s slots count set prefix r known closed is (needs_hold s set q r closed requirement (holds a q n x less))

-- Of two sections on one lock that begin in a closed set, the set contains the end of the earlier
-- one.
pub sections_hold : (s : Trace) (slots locks : ℕ → Option ℕ) (count few : ℕ) (items : ℕ → ℕ → Option Item) (a b i j m n l : ℕ) (c d : Section) (set : Places) (front : ℕ → ℕ) →
    AreSlots s slots count → AreLocks s locks few → AreItems s slots locks items →
    items a i ≡ Some (item m (Begin l c)) → items b j ≡ Some (item n (Begin l d)) → m < front a → n < front b → c.place < d.place →
    IsClosed s set → ((b : ℕ) → HoldsFirst s slots set b (front b)) → HoldsFirst s slots set c.end.slot c.end.count
sections_hold s slots locks count few items a b i j m n l c d set front known numbered all at_c at_d lc ld before closed holds =
    let (k, x, begins_c, is_c, ends) = all.begin a i m l c at_c in
    let (k2, y, begins_d, is_d, ends_d) = all.begin b j n l d at_d in
    let begins = numbered.apart c.place d.place l k is_c is_d begins_c in
    go (release s c.place) refl ends k begins_c begins (holds a c.place m x lc) (holds b d.place n y ld)
  where
    go : (o : Option ℕ) → release s c.place ≡ o → MatchOption o (c.end ≡ empty_prefix) (IsPrefixThrough s slots c.end) → (k : ℕ) → BeginsOn s c.place k → BeginsOn s d.place k →
        set c.place ≡ true → set d.place ≡ true → HoldsFirst s slots set c.end.slot c.end.count
    go None e ends k bc bd ic id = λ p v y l. absurd (omega (arith, l, ap (λ g. g.count) ends))
    go (Some r) e ends k bc bd ic id = prefix_holds s slots count set c.end r known closed ends (closed.sections c.place d.place r k before bc bd ic id e)

-- If the worklist is empty, the included places are closed.

locks_same : (s : Trace) (locks : ℕ → Option ℕ) (few p q k l m : ℕ) → AreLocks s locks few → BeginsOn s p k → BeginsOn s q k → locks p ≡ Some l → locks q ≡ Some m → l ≡ m
locks_same s locks few p q k l m numbered x y hl hm = same_Some l m (sym (numbered.alike p q l k hl x y) ∙ hm)

pub done_closes : (s : Trace) (slots locks : ℕ → Option ℕ) (count few : ℕ) (items : ℕ → ℕ → Option Item) (x : PropagationState) → AreSlots s slots count → AreLocks s locks few →
    AreItems s slots locks items → IsConsistent items x → x.pending ≡ [] → IsClosed s (in_front s slots x.front)
done_closes s slots locks count few items x known numbered all w none =
    let met : (a j : ℕ) (i : Item) → items a j ≡ Some i → i.number < x.front a → j < x.done a = λ a j i h l. elim (w.queued a j i h l) [
      | inl d ↦ d
      | inr c ↦ absurd (no_one a (subst (λ z. Contains z a) none c))
    ] in
    let threads : (p q : ℕ) → in_front s slots x.front q ≡ true → EarlierInThread s p q → in_front s slots x.front p ≡ true = λ p q h e.
    (let (a, n, y, l) = in_front_so s slots x.front q h in
    let (m, z, less) = earlier_position s slots count p q a n known y e in
    in_front_from s slots x.front p a m z (omega (arith, l, less))) in
    let needed : (p q : ℕ) → in_front s slots x.front q ≡ true → Needs s q p → in_front s slots x.front p ≡ true = λ p q h requirement.
    (let (a, n, y, l) = in_front_so s slots x.front q h in
    elim (all.needs q p a n requirement y) [
      | inl e ↦ threads p q h e
      | inr e ↦
          let (j, m, prefix, i, at, below, z, inside) = e in
          let d = met a j (item m (Reach prefix)) at (omega (arith, below, l)) in
          in_front_from s slots x.front p prefix.slot i z (omega (arith, inside, w.reached a j m prefix at d))
    ]) in
    record {
      threads = threads;
      forks_joins = λ p q h f. needed p q h (inl f);
      writers = λ p q h f. needed p q h (inr f);
      sections = λ p q r k before bp bq hp hq rel.
          let (a, n, y, l) = in_front_so s slots x.front p hp in
          let (b, m, z, g) = in_front_so s slots x.front q hq in
          let (j, lock, c, at, is_p) = all.begins p k a n bp y in
          let (i, other, d, at_d, is_q) = all.begins q k b m bq z in
          let (k1, y1, b1, is_l, ends) = all.begin a j n lock c at in
          let (k2, y2, b2, is_m, ends_d) = all.begin b i m other d at_d in
          let same : lock ≡ other = locks_same s locks few p q k lock other numbered bp bq (subst (λ u. locks u ≡ Some lock) is_p is_l) (subst (λ u. locks u ≡ Some other) is_q is_m) in
          let (e, was, either) = w.ended a j n lock c at (met a j (item n (Begin lock c)) at l) in
          let (f, now, also) = w.ended b i m other d at_d (met b i (item m (Begin other d)) at_d g) in
          let one : e ≡ f = same_Some e f (sym was ∙ (ap x.last same ∙ now)) in
          let is_prefix : IsPrefixThrough s slots c.end r = subst (λ o. MatchOption o (c.end ≡ empty_prefix) (IsPrefixThrough s slots c.end)) (ap (release s) is_p ∙ rel) ends in
          elim either [
            | inr ended ↦
                let (v, u, count_is) = is_prefix in
                in_front_from s slots x.front r c.end.slot v u (omega (arith, ended.1, count_is))
            | inl last ↦
                let ce : c.place ≡ e.place = ap (λ t. t.place) last in
                let ef : e.place ≡ f.place = ap (λ t. t.place) one in
                elim also [
                  | inl it ↦ absurd (omega (arith, before, is_p, is_q, ce, ef, ap (λ t. t.place) it))
                  | inr it ↦ absurd (omega (arith, before, is_p, is_q, ce, ef, it.0))
                ]
          ];
    }
  where
    no_one : (a : ℕ) → Contains [] a → ⊥
    no_one a (i, l, e) = omega (arith, l)
