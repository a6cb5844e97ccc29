-- The effect of one more input on the bytes of a session, on the actions, and on what is sent.
use Rattle.std.proofs.Common.{◌≡◌, ◌≢◌, ℕ, Bool, true, false, cond, eqb, ◌||◌, List, [], ◌∷◌, ◌++◌, map, Some, refl, sym, ap, ◌∙◌, append_assoc, arith}
use Rattle.std.proofs.lemmas.List.{append-nil}
use Rattle.std.proofs.lemmas.Option.{same_Some}
use Rattle.std.proofs.lemmas.Bool.Decides.{nat_tests}
use Rattle.trace_model.specs.declared.messages.session.Request.{Request}
use Rattle.trace_model.specs.Protocol.Replies.{reply_frame}
use Rattle.trace_model.specs.Protocol.Machine.{State, step}
use Rattle.snapshots.specs.Found.{RowsOfTask}
use Rattle.sequencer.specs.declared.input.Input.{Input}
use Rattle.sequencer.specs.declared.input.Input.TheVariants.{Piece, End, Finding}
use Rattle.sequencer.specs.Printing.{report_printer}
use Rattle.sequencer.specs.Sessions.{session_of, sent_text, has_ended, Action, calls, fresh, actions_of, actions_after, actions, after_action, state_after, frame_to, frames_to, delivery_of, deliveries, deliveries_of, final_state}
use Rattle.sequencer.specs.Deliveries.{delivery, DeliveryResult, handed_back}
use Rattle.sequencer.specs.Called.{state_called, answer_to}

pub same_session : (s : ℕ) → eqb s s ≡ true
same_session s = grind (arith, nat_tests)

pub other_session : (s t : ℕ) → s ≢ t → eqb s t ≡ false
other_session s t h = grind (arith, nat_tests)

-- the input does not belong to the session
abbrev pub Other : ℕ → Input → Type 0
Other s input = session_of input ≡ Some s → ⊥

-- ---- texts

-- the bytes that an input adds to a session that has not ended
abbrev pub added : ℕ → Input → List ℕ
added s (Piece session bytes) = cond (eqb s session) bytes.items []
added s (End session) = []
added s (Finding finding) = []

abbrev pub ends : ℕ → Input → Bool
ends s (Piece session bytes) = false
ends s (End session) = eqb s session
ends s (Finding finding) = false

text_last : (s : ℕ) (input : Input) → sent_text s (input ∷ []) ≡ added s input
text_last s (Piece session bytes) = append-nil (cond (eqb s session) bytes.items [])
text_last s (End session) = by_test (eqb s session)
  where
    by_test : (b : Bool) → cond {A = List ℕ} b [] [] ≡ []
    by_test true = refl
    by_test false = refl
text_last s (Finding finding) = refl

or_false : (b : Bool) → (b || false) ≡ b
or_false true = refl
or_false false = refl

ended_last : (s : ℕ) (input : Input) → has_ended s (input ∷ []) ≡ ends s input
ended_last s (Piece session bytes) = refl
ended_last s (End session) = or_false (eqb s session)
ended_last s (Finding finding) = refl

-- a text that has not ended
pub text_more : (s : ℕ) (past : List Input) (input : Input) → has_ended s past ≡ false → sent_text s (past ++ input ∷ []) ≡ sent_text s past ++ added s input
text_more s [] input e = text_last s input
text_more s (Piece session bytes ∷ past) input e =
    ap (λ (x : List ℕ). cond (eqb s session) bytes.items [] ++ x) (text_more s past input e) ∙ sym (append_assoc (cond (eqb s session) bytes.items []) (sent_text s past) (added s input))
text_more s (End session ∷ past) input e = by_test (eqb s session) e (text_more s past input)
  where
    by_test : (b : Bool) → (b || has_ended s past) ≡ false → (has_ended s past ≡ false → sent_text s (past ++ input ∷ []) ≡ sent_text s past ++ added s input) → cond b [] (sent_text s (past ++ input ∷ [])) ≡ cond b [] (sent_text s past) ++ added s input
    by_test true e more = absurd cc
    by_test false e more = more e
text_more s (Finding finding ∷ past) input e = text_more s past input e

-- a text that has ended
pub text_ended : (s : ℕ) (past : List Input) (input : Input) → has_ended s past ≡ true → sent_text s (past ++ input ∷ []) ≡ sent_text s past
text_ended s [] input e = absurd cc
text_ended s (Piece session bytes ∷ past) input e = ap (λ (x : List ℕ). cond (eqb s session) bytes.items [] ++ x) (text_ended s past input e)
text_ended s (End session ∷ past) input e = by_test (eqb s session) e (text_ended s past input)
  where
    by_test : (b : Bool) → (b || has_ended s past) ≡ true → (has_ended s past ≡ true → sent_text s (past ++ input ∷ []) ≡ sent_text s past) → cond b [] (sent_text s (past ++ input ∷ [])) ≡ cond b [] (sent_text s past)
    by_test true e more = refl
    by_test false e more = more e
text_ended s (Finding finding ∷ past) input e = text_ended s past input e

or_assoc : (a b c : Bool) → (a || (b || c)) ≡ ((a || b) || c)
or_assoc true b c = refl
or_assoc false b c = refl

pub ended_more : (s : ℕ) (past : List Input) (input : Input) → has_ended s (past ++ input ∷ []) ≡ (has_ended s past || ends s input)
ended_more s [] input = ended_last s input
ended_more s (Piece session bytes ∷ past) input = ended_more s past input
ended_more s (End session ∷ past) input = ap (λ (b : Bool). eqb s session || b) (ended_more s past input) ∙ or_assoc (eqb s session) (has_ended s past) (ends s input)
ended_more s (Finding finding ∷ past) input = ended_more s past input

-- ---- what comes to the machine

-- requests of one session
abbrev pub called : ℕ → List Request → List Action
called s requests = map (calls s) requests

actions_more_after : (past inputs : List Input) (input : Input) → actions_after past (inputs ++ input ∷ []) ≡ actions_after past inputs ++ actions_of (past ++ inputs) input
actions_more_after past [] input = append-nil _ ∙ ap (λ (x : List Input). actions_of x input) (sym (append-nil past))
actions_more_after past (first ∷ inputs) input =
    ap (λ (x : List Action). actions_of past first ++ x) (actions_more_after (past ++ first ∷ []) inputs input ∙ ap (λ (x : List Input). actions_after (past ++ first ∷ []) inputs ++ actions_of x input) (append_assoc past (first ∷ []) inputs))
    ∙ sym (append_assoc (actions_of past first) (actions_after (past ++ first ∷ []) inputs) (actions_of (past ++ first ∷ inputs) input))

pub actions_more : (past : List Input) (input : Input) → actions (past ++ input ∷ []) ≡ actions past ++ actions_of past input
actions_more past input = actions_more_after [] past input

pub actions_own : (s : ℕ) (past : List Input) (input : Input) → session_of input ≡ Some s → actions_of past input ≡ called s (fresh s past input)
actions_own s past (Piece session bytes) e = ap (λ (x : ℕ). called x (fresh x past (Piece session bytes))) (same_Some session s e)
actions_own s past (End session) e = ap (λ (x : ℕ). called x (fresh x past (End session))) (same_Some session s e)
actions_own s past (Finding finding) e = absurd cc

-- ---- the machine

pub after_append : (state : State) (xs ys : List Action) → state_after state (xs ++ ys) ≡ state_after (state_after state xs) ys
after_append state [] ys = refl
after_append state (x ∷ xs) ys = after_append (after_action state x) xs ys

after_called : (state : State) (s : ℕ) (requests : List Request) → state_after state (called s requests) ≡ state_called state requests
after_called state s [] = refl
after_called state s (r ∷ requests) = after_called (step report_printer state r).1 s requests

state_more : (start : State) (past : List Input) (input : Input) → final_state start (past ++ input ∷ []) ≡ state_after (final_state start past) (actions_of past input)
state_more start past input = ap (state_after start) (actions_more past input) ∙ after_append start (actions past) (actions_of past input)

pub state_own : (s : ℕ) (start : State) (past : List Input) (input : Input) → session_of input ≡ Some s → final_state start (past ++ input ∷ []) ≡ state_called (final_state start past) (fresh s past input)
state_own s start past input e =
    state_more start past input ∙ (ap (state_after (final_state start past)) (actions_own s past input e) ∙ after_called (final_state start past) s (fresh s past input))

pub state_found : (start : State) (past : List Input) (finding : RowsOfTask) → final_state start (past ++ Finding finding ∷ []) ≡ (delivery (final_state start past) finding).1
state_found start past finding = state_more start past (Finding finding)

-- ---- what becomes of findings

deliveries_append : (state : State) (xs ys : List Action) → deliveries state (xs ++ ys) ≡ deliveries state xs ++ deliveries (state_after state xs) ys
deliveries_append state [] ys = refl
deliveries_append state (x ∷ xs) ys =
    ap (λ (t : List DeliveryResult). delivery_of state x ++ t) (deliveries_append (after_action state x) xs ys)
    ∙ sym (append_assoc (delivery_of state x) (deliveries (after_action state x) xs) (deliveries (state_after (after_action state x) xs) ys))

no_deliveries : (state : State) (s : ℕ) (requests : List Request) → deliveries state (called s requests) ≡ []
no_deliveries state s [] = refl
no_deliveries state s (r ∷ requests) = no_deliveries (step report_printer state r).1 s requests

deliveries_more : (start : State) (past : List Input) (input : Input) → deliveries_of start (past ++ input ∷ []) ≡ deliveries_of start past ++ deliveries (final_state start past) (actions_of past input)
deliveries_more start past input = ap (deliveries start) (actions_more past input) ∙ deliveries_append start (actions past) (actions_of past input)

pub deliveries_own : (s : ℕ) (start : State) (past : List Input) (input : Input) → session_of input ≡ Some s → deliveries_of start (past ++ input ∷ []) ≡ deliveries_of start past
deliveries_own s start past input e =
    deliveries_more start past input
    ∙ (ap (λ (t : List DeliveryResult). deliveries_of start past ++ t) (ap (deliveries (final_state start past)) (actions_own s past input e) ∙ no_deliveries (final_state start past) s (fresh s past input))
    ∙ append-nil (deliveries_of start past))

pub deliveries_found : (start : State) (past : List Input) (finding : RowsOfTask) → deliveries_of start (past ++ Finding finding ∷ []) ≡ deliveries_of start past ++ handed_back finding (delivery (final_state start past) finding).0 ∷ []
deliveries_found start past finding = deliveries_more start past (Finding finding)

-- ---- what is sent

frames_append : (s : ℕ) (state : State) (xs ys : List Action) → frames_to s state (xs ++ ys) ≡ frames_to s state xs ++ frames_to s (state_after state xs) ys
frames_append s state [] ys = refl
frames_append s state (x ∷ xs) ys =
    ap (λ (t : List ℕ). frame_to s state x ++ t) (frames_append s (after_action state x) xs ys)
    ∙ sym (append_assoc (frame_to s state x) (frames_to s (after_action state x) xs) (frames_to s (state_after (after_action state x) xs) ys))

own_frames : (s : ℕ) (state : State) (requests : List Request) → frames_to s state (called s requests) ≡ answer_to state requests
own_frames s state [] = refl
own_frames s state (r ∷ requests) =
    ap (λ (b : Bool). cond b (reply_frame (step report_printer state r).0) [] ++ frames_to s (step report_printer state r).1 (called s requests)) (same_session s)
    ∙ ap (λ (t : List ℕ). reply_frame (step report_printer state r).0 ++ t) (own_frames s (step report_printer state r).1 requests)

other_frames : (s t : ℕ) (state : State) (requests : List Request) → eqb s t ≡ false → frames_to s state (called t requests) ≡ []
other_frames s t state [] e = refl
other_frames s t state (r ∷ requests) e =
    ap (λ (b : Bool). cond b (reply_frame (step report_printer state r).0) [] ++ frames_to s (step report_printer state r).1 (called t requests)) e ∙ other_frames s t (step report_printer state r).1 requests e

frames_more : (s : ℕ) (start : State) (past : List Input) (input : Input) → frames_to s start (actions (past ++ input ∷ [])) ≡ frames_to s start (actions past) ++ frames_to s (final_state start past) (actions_of past input)
frames_more s start past input = ap (frames_to s start) (actions_more past input) ∙ frames_append s start (actions past) (actions_of past input)

-- what the session of the input is sent
pub own_more : (s : ℕ) (start : State) (past : List Input) (input : Input) → session_of input ≡ Some s → frames_to s start (actions (past ++ input ∷ [])) ≡ frames_to s start (actions past) ++ answer_to (final_state start past) (fresh s past input)
own_more s start past input e =
    frames_more s start past input
    ∙ ap (λ (t : List ℕ). frames_to s start (actions past) ++ t) (ap (frames_to s (final_state start past)) (actions_own s past input e) ∙ own_frames s (final_state start past) (fresh s past input))

not_its : (s session : ℕ) → (Some session ≡ Some s → ⊥) → eqb s session ≡ false
not_its s session h = other_session s session (λ e. h (ap Some (sym e)))

frames_other : (s : ℕ) (state : State) (past : List Input) (input : Input) → Other s input → frames_to s state (actions_of past input) ≡ []
frames_other s state past (Piece session bytes) h = other_frames s session state (fresh session past (Piece session bytes)) (not_its s session h)
frames_other s state past (End session) h = other_frames s session state (fresh session past (End session)) (not_its s session h)
frames_other s state past (Finding finding) h = refl

-- what any other session is sent
pub other_more : (s : ℕ) (start : State) (past : List Input) (input : Input) → Other s input → frames_to s start (actions (past ++ input ∷ [])) ≡ frames_to s start (actions past)
other_more s start past input h =
    frames_more s start past input
    ∙ (ap (λ (x : List ℕ). frames_to s start (actions past) ++ x) (frames_other s (final_state start past) past input h) ∙ append-nil (frames_to s start (actions past)))

-- ---- other sessions

added_other : (s : ℕ) (input : Input) → Other s input → added s input ≡ []
added_other s (Piece session bytes) h = ap (λ (b : Bool). cond b bytes.items []) (not_its s session h)
added_other s (End session) h = refl
added_other s (Finding finding) h = refl

ends_other : (s : ℕ) (input : Input) → Other s input → ends s input ≡ false
ends_other s (Piece session bytes) h = refl
ends_other s (End session) h = not_its s session h
ends_other s (Finding finding) h = refl

text_other_by : (s : ℕ) (past : List Input) (input : Input) → Other s input → (b : Bool) → has_ended s past ≡ b → sent_text s (past ++ input ∷ []) ≡ sent_text s past
text_other_by s past input h true e = text_ended s past input e
text_other_by s past input h false e = text_more s past input e ∙ (ap (λ (x : List ℕ). sent_text s past ++ x) (added_other s input h) ∙ append-nil (sent_text s past))

pub text_other : (s : ℕ) (past : List Input) (input : Input) → Other s input → sent_text s (past ++ input ∷ []) ≡ sent_text s past
text_other s past input h = text_other_by s past input h (has_ended s past) refl

pub ended_other : (s : ℕ) (past : List Input) (input : Input) → Other s input → has_ended s (past ++ input ∷ []) ≡ has_ended s past
ended_other s past input h = ended_more s past input ∙ (ap (λ (b : Bool). has_ended s past || b) (ends_other s input h) ∙ or_false (has_ended s past))
