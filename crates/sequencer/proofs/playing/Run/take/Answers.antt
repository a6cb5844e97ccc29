use Rattle.std.proofs.Common.{◌++◌, ◌∷◌, [], refl, sym, subst}
use Rattle.std.specs.Vec.{with_item}
use Rattle.std.proofs.lemmas.Result.{on_ok_weaker}
use Rattle.sequencer.specs.declared.input.Input.{Input}
use Rattle.sequencer.specs.declared.input.Input.TheVariants.{Piece, End}
use Rattle.sequencer.specs.declared.playing.Run.{Run}
use Rattle.sequencer.specs.Drains.{IsPlayed}
use Rattle.sequencer.proofs.Runs.{session_played, finding_played}
use Rattle.sequencer.proofs.playing.Run.take.Goals as goal

pub returns-in-Piece : goal.returns-in-Piece
returns-in-Piece c =
    let run = c.args.self.now in
    let after : Run = record { sessions = with_item run.sessions c.index.result c.take_piece.new.self; deliveries = run.deliveries; book = c.take_piece.new.book } in
    on_ok_weaker c.take_piece.result (λ t start past p.
    subst (λ (x : Input). IsPlayed start (past ++ x ∷ []) after) (sym c.in-Piece.is)
    (session_played start past (Piece c.in-Piece.session c.in-Piece.bytes) c.in-Piece.session c.index.result c.index_mut-state.result.now c.take_piece.new.self run after refl c.index.ensures.bound c.index.ensures.value c.index_mut-state.ensures.value refl refl (t c.in-Piece.session start past c.in-Piece.bytes (sym c.deref.ensures.value)) p)) c.take_piece.ensures

pub returns-in-End : goal.returns-in-End
returns-in-End c =
    let run = c.args.self.now in
    let after : Run = record { sessions = with_item run.sessions c.index-in-End.result c.take_end.new.self; deliveries = run.deliveries; book = c.take_end.new.book } in
    on_ok_weaker c.take_end.result (λ t start past p.
    subst (λ (x : Input). IsPlayed start (past ++ x ∷ []) after) (sym c.in-End.is)
    (session_played start past (End c.in-End.session) c.in-End.session c.index-in-End.result c.index_mut-state-in-End.result.now c.take_end.new.self run after refl c.index-in-End.ensures.bound c.index-in-End.ensures.value c.index_mut-state-in-End.ensures.value refl refl (t c.in-End.session start past) p)) c.take_end.ensures

pub returns-in_ok-push-in-Finding : goal.returns-in_ok-push-in-Finding
returns-in_ok-push-in-Finding c = λ start past p.
    let after : Run = record { sessions = c.args.self.now.sessions; deliveries = c.push.new.self; book = c.deliver-delivered.new.self } in
    subst (λ (x : Input). IsPlayed start (past ++ x ∷ []) after) (sym c.in-Finding.is)
    (finding_played start past c.in-Finding.finding c.deliver-delivered.result c.args.self.now after c.deliver-delivered.ensures.machine c.deliver-delivered.ensures.back c.deliver-delivered.ensures.exact refl c.in_ok-push-in-Finding.ensures.items p)
