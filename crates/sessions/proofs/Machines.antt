-- The calls of a book are the machine's.
use Rattle.std.proofs.Common.{◌≡◌, ℕ, false, List, [], ◌∷◌, ◌++◌, Option, Result, refl, sym, ap, ◌∙◌}
use Rattle.std.proofs.lemmas.List.Elements.{All-head, All-tail}
use Rattle.trace_model.specs.declared.messages.session.Request.{Request}
use Rattle.trace_model.specs.declared.messages.session.Reply.{Reply}
use Rattle.trace_model.specs.Protocol.Replies.{reply_frame}
use Rattle.trace_model.specs.Protocol.Machine.{State}
use Rattle.sequencer.specs.Book.{BookView}
use Rattle.sequencer.specs.Called.{state_called, answer_to}
use Rattle.sessions.specs.Serving.{session_point, Call, Chain, ServesText, requests_called}
use Rattle.sequencer.specs.Called.{StepsOrMemory, lacks_memory}
use Rattle.sequencer.proofs.Called.{steps_exactly}
use Rattle.sessions.specs.Books.{AreMachines, ServedByMachine}
use Rattle.sessions.specs.declared.serving.Ended.{Ended}
use Rattle.sessions.specs.declared.serving.ServeFault.{ServeFault}

abbrev pub BookSteps : BookView → Request → Reply → BookView → Type 0
BookSteps old request reply new = StepsOrMemory old.state request reply new.state

chain_states : (old new : BookView) (calls : List Call) → Chain BookSteps old calls new → Chain StepsOrMemory old.state calls new.state
chain_states old new [] e = ap (λ (b : BookView). b.state) e
chain_states old new (call ∷ calls) c = (c.0.state, (c.1.0, chain_states c.0 new calls c.1.1))

machine_chain : (old new : State) (calls : List Call) → Chain StepsOrMemory old calls new → AreMachines old calls new
machine_chain old new [] e none = (e, refl)
machine_chain old new (call ∷ calls) c none =
    let rest = machine_chain c.0 new calls c.1.1 (All-tail (λ (call : Call). lacks_memory call.1 ≡ false) call calls none) in
    let s = steps_exactly old c.0 call.0 call.1 c.1.0 (All-head (λ (call : Call). lacks_memory call.1 ≡ false) call calls none) in (
      rest.0 ∙ ap (λ (p : Reply × State). state_called p.1 (requests_called calls)) (sym s),
      ap (λ (x : List ℕ). reply_frame call.1 ++ x) rest.1 ∙ ap (λ (p : Reply × State). reply_frame p.0 ++ answer_to p.1 (requests_called calls)) (sym s),
    )

pub served_by_machine : (left written : Option (List ℕ)) (old : BookView) (left' written' sent' : Option (List ℕ)) (new : BookView) (result : Result Ended ServeFault) → ServesText BookSteps (session_point left written old) (session_point left' written' new) sent' result → ServedByMachine (session_point left written old.state) (session_point left' written' new.state) sent' result
served_by_machine left written old left' written' sent' new result s =
    let chain = chain_states old new s.done s.chain in
    record {
      served = record { text = s.text; took = s.took; stops = s.stops; done = s.done; chain = chain; out = s.out; put = s.put; ends = s.ends; went = s.went };
      machine = machine_chain old.state new.state s.done chain;
    }
