use Rattle.commands.proofs.Outputs.{appends_from}
use Rattle.commands.proofs.exit.write_bytes.Goals as goal

pub loop-turn-preserved : goal.loop-turn-preserved
loop-turn-preserved g c = record {
  within = c.in_ok-at.ensures.count;
  written = appends_from (g.O.Write.contents c.args.out.now) (g.O.Write.contents c.loop-turn.out) (g.O.Write.contents c.write_from.new.out) c.args.bytes.now c.loop-turn.at c.in_ok-at.field-0
      c.loop-turn.invariant.written c.in_ok-at.ensures.written;
}
