use Rattle.sessions.proofs.Machines.{served_by_machine}
use Rattle.sessions.proofs.books.serve_book.Goals as goal

pub returns-clause-served : goal.returns-clause-served
returns-clause-served g c = served_by_machine (g.S.Source.left c.args.source.now) (g.K.Sink.written c.args.sink.now) c.args.book.now (g.S.Source.left c.serve.new.source) (g.K.Sink.written c.serve.new.sink) (g.K.Sink.sent c.serve.new.sink) c.serve.new.calls c.serve.result c.serve.ensures.served
