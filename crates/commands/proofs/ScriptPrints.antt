-- What commands of a script print, one after the other.
use Rattle.std.proofs.Common.{◌≡◌, ℕ, List, [], ◌∷◌, ◌++◌, Option, Some, None, Result, Ok, Err, length, get_or, refl, sym, ap, subst, ◌∙◌, append_assoc, arith}
use Rattle.std.specs.List.{All}
use Rattle.std.proofs.lemmas.List.{append-nil, append_cancel_left}
use Rattle.std.proofs.lemmas.List.Elements.{All-append, All-nil}
use Rattle.trace_model.specs.declared.messages.session.Request.{Request}
use Rattle.trace_model.specs.declared.messages.session.Fault.{Fault}
use Rattle.trace_model.specs.Protocol.Frames.{IsRequest, frame, requests_in}
use Rattle.trace_model.specs.Protocol.Machine.{State}
use Rattle.trace_model.proofs.Protocol.Readings.{frame_turn}
use Rattle.trace_model.specs.declared.messages.session.Reply.{Reply}
use Rattle.event_frames.specs.Reader.{Answers, IsFed, FrameReaderView, TakesRequest}
use Rattle.sequencer.specs.Called.{StepsOrMemory, WantsRightly}
use Rattle.commands.specs.Script.{reply_text}
use Rattle.commands.specs.ScriptFile.{FitsCommand, SaysLines}
use Rattle.commands.specs.ScriptTells.{Prints, PrintsAll, Replies, RepliesToFrame}
use Rattle.commands.specs.declared.script_command.reading.Command.{Command}

-- ---- a request

-- a text that is a frame has one request
one_request : (text : List ℕ) (request : Request) → IsRequest request → text ≡ frame request → requests_in text ≡ request ∷ requests_in []
one_request text request fits is = ap requests_in (is ∙ sym (append-nil (frame request))) ∙ (frame_turn request [] fits).requests

not_empty : (text : List ℕ) (request : Request) → IsRequest request → text ≡ frame request → requests_in text ≡ [] → ⊥
not_empty text request fits is none = omega (arith, ap (λ (requests : List Request). length requests) (sym (one_request text request fits is) ∙ none))

-- a reader that has read every byte is fed a frame
pub fed_frame : (old new : FrameReaderView) (bytes : List ℕ) (request : Request) → old.rest ≡ [] → old.returned ≡ None → IsFed old bytes new → bytes ≡ frame request → new.rest ≡ frame request
fed_frame old new bytes request read fault_free fed is = fed.2 fault_free ∙ ap (λ (rest : List ℕ). rest ++ bytes) read ∙ is

-- a reader whose unread bytes are a frame returns a request
pub returns_request : (old new : FrameReaderView) (r : Result (Option Request) Fault) (request : Request) → IsRequest request → old.rest ≡ frame request → old.returned ≡ None → Answers old r new →
    (given : Request) × (r ≡ Ok (Some given))
returns_request old new (Ok (Some given)) request fits is fault_free answers = (given, refl)
returns_request old new (Ok None) request fits is fault_free answers = absurd (not_empty old.rest request fits is answers.requests)
returns_request old new (Err fault) request fits is fault_free answers = absurd (not_empty old.rest request fits is (answers.stands fault_free).0)

-- it is the frame's request, and every byte is then read
pub takes_frame : (old new : FrameReaderView) (given request : Request) → IsRequest request → old.rest ≡ frame request → TakesRequest old given new → (given ≡ request) × (new.rest ≡ [])
takes_frame old new given request fits is takes =
    let first : requests_in old.rest ≡ given ∷ requests_in new.rest = ap requests_in takes.leading ∙ (frame_turn given new.rest takes.fits).requests in
    let same : given ≡ request = ap (λ (requests : List Request). get_or requests 0 request) (sym first ∙ one_request old.rest request fits is) in
    let whole : frame request ++ new.rest ≡ frame request ++ [] = ap (λ (r : Request). frame r ++ new.rest) (sym same) ∙ sym takes.leading ∙ is ∙ sym (append-nil (frame request)) in
    (same, append_cancel_left (frame request) new.rest [] whole)

-- the reply to it
pub replies_to : (old new : FrameReaderView) (given : Request) (s next : State) (reply : Reply) → TakesRequest old given new → StepsOrMemory s given reply next → WantsRightly s given reply → RepliesToFrame old.rest s reply next
replies_to old new given s next reply takes steps rightly request fits is =
    subst (λ (r : Request). StepsOrMemory s r reply next × WantsRightly s r reply) (takes_frame old new given request fits is takes).0 (steps, rightly)

pub replied : (s mid next : State) (request : Request) (reply : Reply) → StepsOrMemory s request reply mid × WantsRightly s request reply → next ≡ mid → Replies s request next (reply_text reply)
replied s mid next request reply (steps, rightly) kept = (reply, subst (StepsOrMemory s request reply) (sym kept) steps, rightly, refl)

-- ---- commands

pub lines_fit : (lines : List (List ℕ)) (commands : List Command) → SaysLines lines commands → All FitsCommand commands
lines_fit [] commands said = subst (All FitsCommand) (sym said) (All-nil FitsCommand)
lines_fit (line ∷ lines) commands (first, rest, here, said, is) =
    subst (All FitsCommand) (sym is) (All-append FitsCommand first rest here.fit (lines_fit lines rest said))

-- one command more
pub prints_more : (s mid last : State) (commands : List Command) (command : Command) (text more : List ℕ) → PrintsAll s commands mid text → Prints mid command last more →
    PrintsAll s (commands ++ command ∷ []) last (text ++ more)
prints_more s mid last [] command text more (same, none) prints =
    (last, more, [], subst (λ (x : State). Prints x command last more) same prints, (refl, refl), ap (λ (t : List ℕ). t ++ more) none ∙ sym (append-nil more))
prints_more s mid last (c ∷ commands) command text more (next, first, rest, own, others, is) prints =
    (next, first, rest ++ more, own, prints_more next mid last commands command rest more others prints, ap (λ (t : List ℕ). t ++ more) is ∙ append_assoc first rest more)

-- ---- errors
