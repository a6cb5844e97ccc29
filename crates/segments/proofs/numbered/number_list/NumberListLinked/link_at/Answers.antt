use Rattle.segments.proofs.Noted.{link_found}
use Rattle.segments.proofs.numbered.number_list.NumberListLinked.link_at.Goals as goal

pub returns : goal.returns
returns c = link_found c.args.self.now.notes.now.0 c.args.self.now.number c.args.index c.in-Some.note c.args.self.now.linked c.in-Some.ensures c.requires.passing
