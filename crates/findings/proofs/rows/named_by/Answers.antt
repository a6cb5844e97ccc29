use Rattle.std.proofs.Common.{sym, ap, ◌∙◌, Some, slice_get, arith}
use Rattle.std.proofs.lemmas.List.{take_all}
use Rattle.std.proofs.lemmas.Result.{IfOk-from_err}
use Rattle.std.specs.Prelude.{flat_map, option_to_list}
use Rattle.trace_model.specs.Theory.Dependencies.{Dependency}
use Rattle.dependencies.specs.Tables.{table_dependencies}
use Rattle.findings.proofs.Members.{named_push}
use Rattle.findings.proofs.rows.named_by.Goals as goal

pub returns-in_err-named : goal.returns-in_err-named
returns-in_err-named c = IfOk-from_err c.from_residual.result _ c.from_residual.ensures.0

pub loop-number-init : goal.loop-number-init
loop-number-init c = record { named = c.in_ok-named.ensures.items; counted = c.in_ok-named.ensures.len; room = c.in_ok-named.ensures.capacity }

pub get-requires : goal.get-requires
get-requires c = c.requires c.loop-number.number-index 0 c.loop-number-test.true

pub push_reserved-requires : goal.push_reserved-requires
push_reserved-requires c = omega (arith, c.loop-number.invariant.counted, c.loop-number.invariant.room, c.loop-number-test.true)

pub loop-number-preserved : goal.loop-number-preserved
loop-number-preserved c =
    let v = c.loop-number.invariant in
    let added = c.push_reserved.ensures in
    record {
      named = named_push (table_dependencies c.args.table.now) c.args.numbers.now c.loop-number.named.items c.push_reserved.new.self.items c.loop-number.number-index c.copied.result c.loop-number-test.true v.named
          (c.get.ensures ∙ ap (λ (d : Dependency). Some d) (sym c.copied.ensures)) added.items;
      counted = omega (arith, added.len, v.counted);
      room = omega (arith, added.capacity, v.room);
    }

pub returns : goal.returns
returns c =
    c.loop-number.invariant.named
    ∙ ap (flat_map (λ m. option_to_list (slice_get (table_dependencies c.args.table.now) m))) (take_all c.loop-number.number-index c.args.numbers.now c.loop-number-test.false)
