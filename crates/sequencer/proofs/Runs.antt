-- The invariant of the loop over the inputs.
use Rattle.std.proofs.Common.{◌≡◌, ◌≢◌, ℕ, ◌<◌, Bool, false, List, [], ◌∷◌, ◌++◌, length, get_or, map, slice_get, Option, Some, Ok, Err, refl, sym, ap, subst, ◌∙◌, arith, inl, inr}
use Rattle.std.specs.Prelude.{option_map, IfErr, OnOk}
use Rattle.trace_model.specs.declared.refusal.Refusal.{Refusal}
use Rattle.std.proofs.Math.ListN.{set, length-set}
use Rattle.std.proofs.lemmas.List.{get_or-set_same, get_or-set_other, length-map}
use Rattle.std.proofs.lemmas.Option.{same_Some, slice_get-map, get_or_from_slice_get}
use Rattle.std.proofs.lemmas.Bool.Decides.{eqb_tells}
use Rattle.trace_model.specs.declared.messages.session.Request.{Request}
use Rattle.trace_model.specs.declared.messages.session.Fault.{Fault}
use Rattle.trace_model.specs.Protocol.Frames.{requests_in, fault_in}
use Rattle.trace_model.specs.Protocol.Machine.{State}
use Rattle.trace_model.proofs.Lists.{at_index}
use Rattle.event_frames.specs.Reader.{HasRead}
use Rattle.event_frames.proofs.Wholes.{nothing_read}
use Rattle.snapshots.specs.Found.{RowsOfTask, AreRowsOf}
use Rattle.sequencer.specs.declared.input.Input.{Input}
use Rattle.sequencer.specs.declared.input.Input.TheVariants.{Finding}
use Rattle.sequencer.specs.declared.playing.PlayedSession.{PlayedSession}
use Rattle.sequencer.specs.declared.playing.Run.{Run}
use Rattle.sequencer.specs.Book.{outcome}
use Rattle.sequencer.specs.Sessions.{session_of, sent_text, has_ended, fault_of, fresh, actions_of, actions, frames_to, fault_reply, deliveries_of, final_state, sent_to}
use Rattle.sequencer.specs.Deliveries.{DeliveryResult, handed_back, delivery}
use Rattle.sequencer.specs.Drains.{IsPlayed, IsServed, IsAnswered, IsNew}
use Rattle.sequencer.specs.Exact.{IsAlwaysExact}
use Rattle.sequencer.specs.Played.{AreSent}
use Rattle.sequencer.proofs.Exact.{fits_brought, always_called, always_brought, always_nothing, always_append, always_last}
use Rattle.sequencer.proofs.Sent.{Other, actions_more, actions_own, text_other, ended_other, other_more, state_found, deliveries_own, deliveries_found}

-- ---- the beginning

new_served : (s : ℕ) (start : State) (session : PlayedSession) → IsNew session → IsServed s start [] session
new_served s start session h =
    let n = nothing_read false in
    record {
      read = record {
        read = subst (λ (g : List Request). HasRead [] g session.reader) (sym n.requests) h.read;
        ended = λ _. h.not_ended;
        not_ended = λ _. h.not_ended;
        returned = h.fault_free ∙ sym n.fault;
      };
      sent = h.unsent ∙ ap fault_reply (sym n.fault);
    }

pub starts_played : (run : Run) → length run.sessions.items ≡ 64 → ((s : ℕ) (d : PlayedSession) → s < length run.sessions.items → IsNew (get_or run.sessions.items s d)) → run.deliveries.items ≡ [] → IsPlayed run.book.state [] run
starts_played run n h none =
    record {
      count = n;
      each = λ s d l. new_served s run.book.state (get_or run.sessions.items s d) (h s d (omega (arith, n)));
      deliveries = none;
      state = refl;
      exact = λ h. always_nothing run.book.state h;
    }

always_more : (start : State) (past : List Input) (input : Input) → IsAlwaysExact start (actions past) → IsAlwaysExact (final_state start past) (actions_of past input) → IsAlwaysExact start (actions (past ++ input ∷ []))
always_more start past input before now =
    subst (IsAlwaysExact start) (sym (actions_more past input)) (always_append start (actions past) (actions_of past input) before now)

-- ---- an input of a session

-- the input does not belong to this session
served_other : (s : ℕ) (start : State) (input : Input) (past : List Input) (session : PlayedSession) → Other s input → IsServed s start past session → IsServed s start (past ++ input ∷ []) session
served_other s start input past session h v =
    let r = v.read in
    let text = text_other s past input h in
    let ended = ended_other s past input h in
    let fault : fault_of s past ≡ fault_of s (past ++ input ∷ []) = ap (λ (x : List ℕ). fault_in x (has_ended s past)) (sym text) ∙ ap (λ (x : Bool). fault_in (sent_text s (past ++ input ∷ [])) x) (sym ended) in
    record {
      read = record {
        read = subst (λ (x : List ℕ). HasRead x (requests_in x) session.reader) (sym text) r.read;
        ended = λ u. r.ended u ∙ sym ended;
        not_ended = λ e. r.not_ended (sym ended ∙ e);
        returned = r.returned ∙ fault;
      };
      sent = v.sent ∙ (ap (λ (x : List ℕ). x ++ fault_reply (fault_of s past)) (sym (other_more s start past input h))
          ∙ ap (λ (f : Option Fault). frames_to s start (actions (past ++ input ∷ [])) ++ fault_reply f) fault);
    }

-- each session after an input of one of them
served_after : (start : State) (sessions : List PlayedSession) (past : List Input) (input : Input) (i : ℕ) (new : PlayedSession) → session_of input ≡ Some i → length sessions ≡ 64 → ((s : ℕ) (d : PlayedSession) → s < 64 → IsServed s start past (get_or sessions s d)) → IsServed i start (past ++ input ∷ []) new → (s : ℕ) (d : PlayedSession) → s < 64 → IsServed s start (past ++ input ∷ []) (get_or (set sessions i new) s d)
served_after start sessions past input i new own count each v s d l = elim (eqb_tells s i) [ inl e ↦ its e.1 | inr h ↦ others h.1 ]
  where
    its : s ≡ i → IsServed s start (past ++ input ∷ []) (get_or (set sessions i new) s d)
    its e =
        let lt : i < length sessions = omega (arith, e, l, count) in
        subst (λ (x : ℕ). IsServed x start (past ++ input ∷ []) (get_or (set sessions i new) x d)) (sym e)
        (subst (λ (x : PlayedSession). IsServed i start (past ++ input ∷ []) x) (sym (get_or-set_same sessions i new d lt)) v)

    others : s ≢ i → IsServed s start (past ++ input ∷ []) (get_or (set sessions i new) s d)
    others h =
        subst (λ (x : PlayedSession). IsServed s start (past ++ input ∷ []) x) (sym (get_or-set_other sessions i s new d h))
        (served_other s start input past (get_or sessions s d) (λ o. h (sym (same_Some i s (sym own ∙ o)))) (each s d l))

pub session_played : (start : State) (past : List Input) (input : Input) (i j : ℕ) (old new : PlayedSession) (run after : Run) → session_of input ≡ Some i → j < 64 → j ≡ i → old ≡ get_or run.sessions.items j old → after.sessions.items ≡ set run.sessions.items j new → after.deliveries.items ≡ run.deliveries.items → (IsAnswered i start past run.book.state old → IsAnswered i start (past ++ input ∷ []) after.book.state new) → IsPlayed start past run → IsPlayed start (past ++ input ∷ []) after
session_played start past input i j old new run after own below at was sessions same t p =
    let here : old ≡ get_or run.sessions.items i old = was ∙ ap (λ (k : ℕ). get_or run.sessions.items k old) at in
    let served : IsServed i start past old = subst (λ (x : PlayedSession). IsServed i start past x) (sym here) (p.each i old (omega (arith, below, at))) in
    let a = t (record { served = served; state = p.state }) in
    let sessions_are : after.sessions.items ≡ set run.sessions.items i new = sessions ∙ ap (λ (k : ℕ). set run.sessions.items k new) at in
    record {
      count = ap length sessions_are ∙ (length-set run.sessions.items i new ∙ p.count);
      each = λ s d l. subst (λ (x : List PlayedSession). IsServed s start (past ++ input ∷ []) (get_or x s d)) (sym sessions_are) (served_after start run.sessions.items past input i new own p.count p.each a.served s d l);
      deliveries = same ∙ (p.deliveries ∙ sym (deliveries_own i start past input own));
      state = a.state;
      exact = λ h.
          let final = final_state start past in
          let before = p.exact h in
          let called_now = always_called final i (fresh i past input) (always_last start (actions past) before) in
          always_more start past input before (subst (IsAlwaysExact final) (sym (actions_own i past input own)) called_now);
    }

-- ---- a finding

handed : (finding : RowsOfTask) (delivered : DeliveryResult) → IfErr delivered (λ refused. refused.1 ≡ finding) → delivered ≡ handed_back finding (outcome delivered)
handed finding (Ok taken) back = refl
handed finding (Err (refusal, other)) back = ap (λ (f : RowsOfTask). Err (refusal, f)) back

pub finding_played : (start : State) (past : List Input) (finding : RowsOfTask) (delivered : DeliveryResult) (run after : Run) → delivery run.book.state finding ≡ (outcome delivered, after.book.state) → IfErr delivered (λ refused. refused.1 ≡ finding) → OnOk delivered (AreRowsOf finding.events finding.bound finding.task finding.rows) → after.sessions.items ≡ run.sessions.items → after.deliveries.items ≡ run.deliveries.items ++ delivered ∷ [] → IsPlayed start past run → IsPlayed start (past ++ Finding finding ∷ []) after
finding_played start past finding delivered run after returned back taken same more p =
    let here : delivery (final_state start past) finding ≡ (outcome delivered, after.book.state) = ap (λ (x : State). delivery x finding) (sym p.state) ∙ returned in
    let none : (s : ℕ) → Other s (Finding finding) = λ s e. absurd cc in
    record {
      count = ap length same ∙ p.count;
      each = λ s d l. subst (λ (v : List PlayedSession). IsServed s start (past ++ Finding finding ∷ []) (get_or v s d)) (sym same)
          (served_other s start (Finding finding) past (get_or run.sessions.items s d) (none s) (p.each s d l));
      deliveries =
          more
          ∙ (ap (λ (x : List DeliveryResult). x ++ delivered ∷ []) p.deliveries
          ∙ (ap (λ (x : DeliveryResult). deliveries_of start past ++ x ∷ []) (handed finding delivered back ∙ ap (λ (x : Option Refusal × State). handed_back finding x.0) (sym here))
          ∙ sym (deliveries_found start past finding)));
      state = sym (state_found start past finding ∙ ap (λ (x : Option Refusal × State). x.1) here);
      exact = λ h.
          let before = p.exact h in
          let last = always_last start (actions past) before in
          let next = fits_brought (final_state start past) finding delivered (ap (λ (x : Option Refusal × State). x.0) here) taken last in
          always_more start past (Finding finding) before (always_brought (final_state start past) finding last next);
    }

-- ---- the end

-- what each session was sent after all inputs
pub all_sent : (start : State) (inputs : List Input) (run : Run) → IsPlayed start inputs run → AreSent (map (λ session. session.sent.items) run.sessions.items) start inputs
all_sent start inputs run p = (length-map sessions (λ session. session.sent.items) ∙ p.count, λ s l. each s l (at_index sessions s (omega (arith, p.count))))
  where
    sessions : List PlayedSession
    sessions = run.sessions.items

    each : (s : ℕ) → s < 64 → (x : PlayedSession) × (slice_get sessions s ≡ Some x) → slice_get (map (λ session. session.sent.items) sessions) s ≡ Some (sent_to s start inputs)
    each s l (session, at) =
        slice_get-map (λ session. session.sent.items) sessions s
        ∙ (ap (option_map (λ (x : PlayedSession). x.sent.items)) at
        ∙ ap Some (ap (λ (x : PlayedSession). x.sent.items) (sym (get_or_from_slice_get sessions s session session at)) ∙ (p.each s session l).sent))
