use Rattle.std.proofs.Common.{◌≡◌, ◌∷◌, ◌<◌, [], IfErr, length, sym, ap, subst, ◌∙◌, arith}
use Rattle.std.proofs.lemmas.Bool.Decides.{nat_tests}
use Rattle.std.proofs.lemmas.List.{nil_from_length}
use Rattle.std.proofs.lemmas.Result.{err_from_is_err_and}
use Rattle.event_files.specs.EventFile.{pieces_at, spaced_words, RefusesLine}
use Rattle.event_files.proofs.FirstLines.{after_space_kept, kept_all, other_byte, refused_word, word_kept, KeptSoFar}
use Rattle.event_files.proofs.event_file.keep_words.Goals as goal

pub returns-then-is_empty-clause-kept : goal.returns-then-is_empty-clause-kept
returns-then-is_empty-clause-kept c =
    let rest = c.loop-rest.rest.now in
    let none : length rest ≡ 0 = grind (arith, nat_tests) in
    kept_all c.args.kept.now.items c.loop-rest.kept.items c.args.text.now [] rest c.loop-rest.invariant (ap (pieces_at 10) (nil_from_length rest none))

pub returns-then-rest-eq10-clause-kept : goal.returns-then-rest-eq10-clause-kept
returns-then-rest-eq10-clause-kept c =
    let k = c.loop-rest.invariant in
    kept_all c.args.kept.now.items c.loop-rest.kept.items c.args.text.now (pieces_at 10 c.after_byte.result.now) c.loop-rest.rest.now k
    (ap (pieces_at 10) (c.after_byte.ensures ∙ ap (λ b. b ∷ c.after_byte.result.now) c.if-rest-eq10.true))

pub loop-rest-preserved-then-rest-eq32 : goal.loop-rest-preserved-then-rest-eq32
loop-rest-preserved-then-rest-eq32 c =
    after_space_kept c.args.kept.now.items c.loop-rest.kept.items c.args.text.now c.after_byte-rest.result.now
    (subst (KeptSoFar c.args.kept.now.items c.args.text.now c.loop-rest.kept.items) (c.after_byte-rest.ensures ∙ ap (λ b. b ∷ c.after_byte-rest.result.now) c.if-rest-eq32.true) c.loop-rest.invariant)

pub returns-in_err-rest-clause-refused : goal.returns-in_err-rest-clause-refused
returns-in_err-rest-clause-refused c =
    let rest = c.loop-rest.rest.now in
    let some : 0 < length rest = grind (arith, nat_tests) in
    let p = err_from_is_err_and c.from_residual.result c.from_residual.ensures.1 in
    let other = other_byte rest some c.if-rest-eq10.false c.if-rest-eq32.false in
    let refused = refused_word c.args.kept.now.items c.loop-rest.kept.items c.args.text.now rest c.args.number c.in_err-rest.field-0.0 c.loop-rest.invariant other c.in_err-rest.ensures.refused in
    subst (λ r. IfErr r (RefusesLine spaced_words c.args.text.now c.args.number)) (sym p.1) (subst (RefusesLine spaced_words c.args.text.now c.args.number) (sym p.2) refused)

pub loop-rest-preserved : goal.loop-rest-preserved
loop-rest-preserved c =
    let k = c.in_ok-rest.ensures.kept in
    word_kept c.args.kept.now.items c.loop-rest.kept.items c.keep_word.new.kept.items c.args.text.now c.loop-rest.rest.now c.in_ok-rest.rest.now k.event c.loop-rest.invariant k.first k.fits k.ends k.kept
