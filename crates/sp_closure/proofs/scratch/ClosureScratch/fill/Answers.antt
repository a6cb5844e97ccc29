use Rattle.std.proofs.Common.{◌≡◌, ℕ, inl, inr, sym, ap, subst, ◌∙◌}
use Rattle.std.proofs.lemmas.Option.{same_Some}
use Rattle.trace_model.specs.Theory.Closure.{Places, IsClosed}
use Rattle.fronts.specs.Overlays.{front_of}
use Rattle.fronts.specs.Slots.{slots_of, HasPlaces, HoldsFirst, HoldsPlaces}
use Rattle.sp_closure.specs.declared.timelines.Timestamp.{Timestamp}
use Rattle.fronts.specs.declared.requirements.ThreadPrefix.{ThreadPrefix}
use Rattle.sp_closure.proofs.TimestampLemmas.{timelines_put, timelines_stay}
use Rattle.sp_closure.proofs.scratch.ClosureScratch.fill.Goals as goal

pub close_prefix-requires-clause-reach : goal.close_prefix-requires-clause-reach
close_prefix-requires-clause-reach g c =
    let has = c.in-Some.ensures in
    subst (HasPlaces c.args.index.now.events (slots_of c.args.requirements.now.threads)) (sym has.is) (c.requires.timelines.stamped c.args.entry has.timestamp has.at).reach

pub returns : goal.returns
returns g c =
    let s = c.args.index.now.events in
    let slots = slots_of c.args.requirements.now.threads in
    let z = c.close_prefix.new.self in
    let old = c.args.timestamps.now in
    let new = c.put.new.self in
    let front = front_of z.none z.base.overlay in
    let has = c.in-Some.ensures in
    record {
      scratch = c.close_prefix.ensures.scratch;
      timelines = elim c.put.ensures [
        | inl stays ↦ timelines_stay s slots old new c.requires.timelines stays
        | inr puts ↦
            let same : has.timestamp ≡ puts.timestamp = same_Some has.timestamp puts.timestamp (sym has.at ∙ puts.at) in
            let prefix : c.in-Some.prefix ≡ puts.timestamp.prefix = has.is ∙ ap (λ (x : Timestamp). x.prefix) same in
            timelines_put s slots old new c.args.entry front c.requires.timelines puts
            (subst (λ (p : ThreadPrefix). (set : Places) → IsClosed s set → HoldsPlaces s slots p set → (a : ℕ) → HoldsFirst s slots set a (front a)) prefix c.in_ok-close_prefix.ensures.base.least)
      ];
    }
