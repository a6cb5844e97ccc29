use Rattle.std.proofs.lemmas.Bool.Decides.{Decides-eqb}
use Rattle.std.proofs.lemmas.Slice.Eq.{slice_eq-Decides}
use Rattle.event_files.proofs.numbered_text.is_literal.Goals as goal

pub returns : goal.returns
returns c = slice_eq-Decides Decides-eqb c.args.text.now c.args.literal.now c.eq.result c.eq.ensures
