-- What a linearization point makes of the ledgers' positions is what its entry makes of the programs'.
use Rattle.std.proofs.Common.{◌≡◌, ℕ, Bool, true, false, refl, sym, ap, ◌∙◌, subst, Option, Some, None, inl, inr}
use Rattle.std.proofs.lemmas.Bool.{cases_eq, cond_both, false≢true}
use Rattle.k_board.specs.Words.{Programs, Seen, answered, call_noted, called, calls, opened}
use Rattle.k_board.specs.Words.{opens, passes_to, pick_noted, sent_reply, tells, tells_sent}
use Rattle.k_ids.specs.declared.threads.ThreadId.{ThreadId}
use Rattle.k_ids.specs.declared.calls.Act.TheVariants as act
use Rattle.k_ids.specs.declared.calls.Outcome.{Outcome}
use Rattle.k_ids.specs.declared.calls.Outcome.TheVariants as outcome
use Rattle.k_ids.specs.declared.calls.Phase.{Phase}
use Rattle.k_ids.specs.declared.calls.Phase.TheVariants as phase
use Rattle.k_ids.specs.declared.calls.Reply.{Reply}
use Rattle.k_ids.specs.declared.calls.Reply.TheVariants as reply
use Rattle.k_ipc.specs.Words.{is_joined_to}
use Rattle.k_model.specs.Maps.{upd}
use Rattle.k_model.proofs.Maps.{upd_cases, upd_other, upd_same}
use Rattle.k_plays.proofs.Outcomes.{is_freed}
use Rattle.k_plays.specs.Ledgers.{places_of}
use Rattle.k_plays.specs.Scripts.{AreOf}
use Rattle.k_positions.specs.Positions.{begun}
use Rattle.k_script.specs.Plays.{Position, created_program}
use Rattle.k_script.specs.Script.{Script}

-- A REPLY moves no program.

tells_stands : (s : ℕ → Seen) (id : ThreadId) (r : Reply) (t : ℕ) → places_of (tells s id r) t ≡ places_of s t
tells_stands s id r t =
    upd_cases (λ (v : Seen). v.position ≡ (s t).position) s id.number (answered (s id.number) r) t (λ e. ap (places_of s) (sym e))
    (λ _. refl)

sent_stands : (s : ℕ → Seen) (id : ThreadId) (t : ℕ) → places_of (tells_sent s id) t ≡ places_of s t
sent_stands s id t =
    cond_both (is_joined_to (s id.number).word.state) s (tells s id reply.Sent) (λ (v : ℕ → Seen). places_of v t ≡ places_of s t)
    (λ _. refl) (λ _. tells_stands s id reply.Sent t)

passes_stands : (s : ℕ → Seen) (me : ThreadId) (f : Phase) (t : ℕ) → places_of (passes_to s me f) t ≡ places_of s t
passes_stands s me (phase.Send to message zero joined) t = tells_stands s to (reply.Got me message) t
passes_stands s me (phase.Reply to message zero) t = tells_stands s to (reply.Got me message) t
passes_stands s me (phase.Receive from zero) t = refl
passes_stands s me (phase.Create program priority) t = refl
passes_stands s me (phase.Destroy victim) t = refl
passes_stands s me phase.End t = refl

-- A CALL moves its caller's, and a thread that is made begins its own.

calls_moves : (s : ℕ → Seen) (me : ThreadId) (at : Position) (r : Option Reply) (t : ℕ) →
    places_of (calls s me at r) t ≡ upd (places_of s) me.number at t
calls_moves s me at r t = elim (cases_eq t me.number) [
  | inl e ↦ subst (λ (j : ℕ). places_of (calls s me at r) j ≡ upd (places_of s) me.number at j) (sym e)
      (ap (λ (v : Seen). v.position) (upd_same s me.number (called (s me.number) r at))
      ∙ sym (upd_same (places_of s) me.number at))
  | inr ne ↦
      ap (λ (v : Seen). v.position) (upd_other s me.number (called (s me.number) r at) t ne)
      ∙ sym (upd_other (places_of s) me.number at t ne)
]

opens_moves : (s : ℕ → Seen) (at : ℕ → Position) (id : ThreadId) (q : Position) (t : ℕ) → ((t : ℕ) → places_of s t ≡ at t) →
    places_of (upd s id.number (opened (s id.number) q)) t ≡ upd at id.number q t
opens_moves s at id q t same = elim (cases_eq t id.number) [
  | inl e ↦ subst (λ (j : ℕ). places_of (upd s id.number (opened (s id.number) q)) j ≡ upd at id.number q j) (sym e)
      (ap (λ (v : Seen). v.position) (upd_same s id.number (opened (s id.number) q)) ∙ sym (upd_same at id.number q))
  | inr ne ↦
      ap (λ (v : Seen). v.position) (upd_other s id.number (opened (s id.number) q) t ne) ∙ same t
      ∙ sym (upd_other at id.number q t ne)
]

module _ (script : Script) (g : Programs) (are : AreOf script g) where
  begins_moves : (s : ℕ → Seen) (at : ℕ → Position) (id : ThreadId) (f : Phase) (t : ℕ) → ((t : ℕ) → places_of s t ≡ at t) →
      places_of (opens g s id f) t ≡ begun script at (created_program (act.Call f)) (outcome.Made id) t
  begins_moves s at id (phase.Create program priority) t same =
      opens_moves s at id (g.start id program) t same ∙ ap (λ (q : Position). upd at id.number q t) (are.starts id program)
  begins_moves s at id (phase.Send to message zero joined) t same = same t
  begins_moves s at id (phase.Reply to message zero) t same = same t
  begins_moves s at id (phase.Receive from zero) t same = same t
  begins_moves s at id (phase.Destroy victim) t same = same t
  begins_moves s at id phase.End t same = same t

  -- An outcome that makes no thread begins no program.
  abbrev is_made : Outcome → Bool
  is_made (outcome.Made id) = true
  is_made o = false

  unmade_stands : (at : ℕ → Position) (r : Option ℕ) (o : Outcome) → is_made o ≡ false → begun script at r o ≡ at
  unmade_stands at None o h = refl
  unmade_stands at (Some program) (outcome.Made id) h = absurd cc
  unmade_stands at (Some program) outcome.Passed h = refl
  unmade_stands at (Some program) outcome.Waits h = refl
  unmade_stands at (Some program) (outcome.Took from message) h = refl
  unmade_stands at (Some program) (outcome.Absent found) h = refl
  unmade_stands at (Some program) (outcome.Busy found) h = refl
  unmade_stands at (Some program) outcome.Nobody h = refl
  unmade_stands at (Some program) outcome.Own h = refl
  unmade_stands at (Some program) outcome.Killed h = refl
  unmade_stands at (Some program) (outcome.Full alive worn) h = refl
  unmade_stands at (Some program) outcome.Ended h = refl
  unmade_stands at (Some program) outcome.Freed h = refl

  module _ (s : ℕ → Seen) (me : ThreadId) (at : Position) (f : Phase) (t : ℕ) where
    abbrev Moves : Outcome → Type 0
    Moves o =
        places_of (call_noted g s me at f o) t ≡ begun script (upd (places_of s) me.number at) (created_program (act.Call f)) o t

    plain : (v : ℕ → Seen) (r : Option Reply) (o : Outcome) → is_made o ≡ false → places_of v t ≡ places_of (calls s me at r) t →
        places_of v t ≡ begun script (upd (places_of s) me.number at) (created_program (act.Call f)) o t
    plain v r o h e =
        e ∙ calls_moves s me at r t ∙ sym (ap (λ (m : ℕ → Position). m t)
        (unmade_stands (upd (places_of s) me.number at) (created_program (act.Call f)) o h))

    pub call_moves : (o : Outcome) → is_freed o ≡ false → Moves o
    call_moves outcome.Passed h =
        plain (passes_to (calls s me at (sent_reply f)) me f) (sent_reply f) outcome.Passed refl
        (passes_stands (calls s me at (sent_reply f)) me f t)
    call_moves outcome.Waits h = plain (calls s me at None) None outcome.Waits refl refl
    call_moves (outcome.Took from message) h =
        plain (tells_sent (calls s me at (Some (reply.Got from message))) from) (Some (reply.Got from message))
        (outcome.Took from message) refl (sent_stands (calls s me at (Some (reply.Got from message))) from t)
    call_moves (outcome.Absent found) h =
        plain (calls s me at (Some (reply.Absent found))) (Some (reply.Absent found)) (outcome.Absent found) refl refl
    call_moves (outcome.Busy found) h =
        plain (calls s me at (Some (reply.Busy found))) (Some (reply.Busy found)) (outcome.Busy found) refl refl
    call_moves outcome.Nobody h = plain (calls s me at (Some reply.Nobody)) (Some reply.Nobody) outcome.Nobody refl refl
    call_moves outcome.Own h = plain (calls s me at (Some reply.Own)) (Some reply.Own) outcome.Own refl refl
    call_moves outcome.Killed h = plain (calls s me at (Some reply.Killed)) (Some reply.Killed) outcome.Killed refl refl
    call_moves (outcome.Made id) h =
        begins_moves (calls s me at (Some (reply.Made id))) (upd (places_of s) me.number at) id f t
        (calls_moves s me at (Some (reply.Made id)))
    call_moves (outcome.Full alive worn) h =
        plain (calls s me at (Some (reply.Full alive worn))) (Some (reply.Full alive worn)) (outcome.Full alive worn) refl refl
    call_moves outcome.Ended h = plain (calls s me at None) None outcome.Ended refl refl
    call_moves outcome.Freed h = absurd (false≢true (sym h))

-- OTHER EVENTS move none.

pub pick_stands : (s : ℕ → Seen) (me : ThreadId) (o : Outcome) (t : ℕ) → places_of (pick_noted s me o) t ≡ places_of s t
pick_stands s me (outcome.Took from message) t =
    sent_stands (tells s me (reply.Got from message)) from t ∙ tells_stands s me (reply.Got from message) t
pick_stands s me outcome.Passed t = refl
pick_stands s me outcome.Waits t = refl
pick_stands s me (outcome.Absent found) t = refl
pick_stands s me (outcome.Busy found) t = refl
pick_stands s me outcome.Nobody t = refl
pick_stands s me outcome.Own t = refl
pick_stands s me outcome.Killed t = refl
pick_stands s me (outcome.Made id) t = refl
pick_stands s me (outcome.Full alive worn) t = refl
pick_stands s me outcome.Ended t = refl
pick_stands s me outcome.Freed t = refl

pub gone_stands : (s : ℕ → Seen) (me : ThreadId) (t : ℕ) → places_of (tells s me reply.Gone) t ≡ places_of s t
gone_stands s me t = tells_stands s me reply.Gone t
