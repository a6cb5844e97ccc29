use Rattle.question_server.proofs.serving.serve_named.Goals as goal

pub new-requires : goal.new-requires
new-requires g c = record { book = c.requires.book; limit = c.requires.limit }
