use Rattle.std.proofs.Common.{◌≡◌, ◌+◌, ◌<◌, length, Some, refl, sym, ap, subst, ◌∙◌, arith}
use Rattle.std.proofs.lemmas.Bool.{eqb-true, eq-eqb, false≢true}
use Rattle.std.proofs.lemmas.Option.{slice_get-get_or, slice_get_within}
use Rattle.trace_model.specs.Theory.Refutation.{IsDerivation}
use Rattle.explain.specs.Needed.{IsNeededDerivation}
use Rattle.explain.proofs.NeededEntries.{needed_derives, needed_more, needed_skip, none_needed}
use Rattle.explain.proofs.extract.add_marked.Goals as goal
use Rattle.explain.proofs.extract.add_marked.Goals.{then-needed-i+in_ok-add_entry+else-eq, else-needed-i}

pub loop-i-init : goal.loop-i-init
loop-i-init c s places is closed =
    subst (IsNeededDerivation s places c.args.search.now c.args.needed.now c.args.place 0) (sym c.requires.empty)
    (none_needed s places c.args.search.now c.args.needed.now c.args.place)

pub loop-i-preserved : goal.loop-i-preserved
loop-i-preserved c s places is closed =
    let x = c.args.search.now in
    let needed = c.args.needed.now in
    let place = c.args.place in
    let i = c.loop-i.i in
    let within : i < length x.entries.items = omega (arith, c.loop-i-test.true, c.len-i-end.ensures, x.entries.ok) in
    let marked : i < length needed = omega (arith, within, c.requires.sized) in
    let old = c.loop-i.invariant s places is closed in
    elim c.if-needed-i.branch [
      | then-needed-i+in_ok-add_entry+else-eq w ↦
          let d = w.index-entry.result.now in
          let at = slice_get-get_or x.entries.items i d within ∙ ap Some (sym w.index-entry.ensures) in
          subst (λ (v : _). IsNeededDerivation s places x needed place (i + 1) v.items) (sym w.made-is)
          (subst (IsNeededDerivation s places x needed place (i + 1)) (sym w.in_ok-add_entry.ensures)
          (needed_more s places x needed place i d c.loop-i.made.items is closed
          (slice_get-get_or needed i _ marked ∙ ap Some w.if-needed-i.true) at
          (λ e. false≢true (w.if-eq.ensures ∙ eq-eqb d.place place e)) old))
      | else-needed-i w ↦
          subst (λ (v : _). IsNeededDerivation s places x needed place (i + 1) v.items) (sym w.made-is)
          (needed_skip s places x needed place i c.loop-i.made.items (slice_get-get_or needed i _ marked ∙ ap Some w.if-needed-i.false) old)
    ]

pub returns-then-eq : goal.returns-then-eq
returns-then-eq c s places is closed j marks here =
    let x = c.args.search.now in
    let needed = c.args.needed.now in
    let i = c.loop-i.i in
    let made = c.loop-i.made.items in
    let d = c.index-entry.result.now in
    let within : i < length x.entries.items = omega (arith, c.loop-i-test.true, c.len-i-end.ensures, x.entries.ok) in
    let marked : i < length needed = omega (arith, within, c.requires.sized) in
    let at = slice_get-get_or x.entries.items i d within ∙ ap Some (sym c.index-entry.ensures) in (
      subst (IsDerivation s places) (sym c.in_ok-add_entry.ensures)
          (needed_derives s places x needed c.args.place i d made is closed (slice_get-get_or needed i _ marked ∙ ap Some c.if-needed-i.true) at
          (c.loop-i.invariant s places is closed)),
      (made, d, c.in_ok-add_entry.ensures, eqb-true d.place c.args.place (sym c.if-eq.ensures)),
    )

pub returns : goal.returns
returns c s places is closed j marks here =
    let whole : c.loop-i.i ≡ length c.args.needed.now = omega (arith, c.loop-i-test.false, c.loop-i.auto.i-end, c.len-i-end.ensures, c.args.search.now.entries.ok, c.requires.sized) in
    absurd (((c.loop-i.invariant s places is closed).1 j c.args.place
    (omega (arith, whole, slice_get_within c.args.needed.now j _ marks)) marks here).1 refl)
