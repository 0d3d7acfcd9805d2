-- Where an entry leaves the programs, by cases: an event that isn't a call moves none; a call moves its thread's, and a create
-- that makes a thread begins that one's too.
use Rattle.std.proofs.Common.{◌≡◌, ◌≢◌, ℕ, ◌+◌, true, [], refl, sym, ap, ◌∙◌, subst, Option, Some, None}
use Rattle.k_ids.specs.declared.threads.ThreadId.{ThreadId}
use Rattle.k_ids.specs.declared.calls.Phase.{Phase}
use Rattle.k_ids.specs.declared.calls.Phase.TheVariants as phase
use Rattle.k_ids.specs.declared.calls.Act.{Act}
use Rattle.k_ids.specs.declared.calls.Act.TheVariants as act
use Rattle.k_ids.specs.declared.calls.Outcome.{Outcome}
use Rattle.k_ids.specs.declared.calls.Outcome.TheVariants as outcome
use Rattle.k_ids.specs.declared.histories.Entry.{Entry}
use Rattle.k_model.specs.Maps.{upd}
use Rattle.k_model.specs.State.{KernelState}
use Rattle.k_model.specs.Step.{may_act, acted, called}
use Rattle.k_model.specs.Sound.{IsSound}
use Rattle.k_model.specs.Keeps.{Leaves, renewed_call, renewed_number}
use Rattle.k_model.specs.History.{call_in}
use Rattle.k_model.proofs.Maps.{upd_same, upd_other}
use Rattle.k_model.proofs.Kept.{gone_keeps, pick_keeps}
use Rattle.k_model.proofs.Left.{leaves_from, create_tells, create_refused, renewed_other}
use Rattle.k_script.specs.Script.{Script}
use Rattle.k_script.specs.Plays.{Position, phase_next, moved, start_of, program_made, created_program, makes}
use Rattle.k_positions.specs.Positions.{IsNextAct, reply_to_last, begun, positions_after}
use Rattle.k_positions.proofs.Histories.{none_made, other_made}

abbrev pub entry_for : ThreadId → ℕ → Act → Outcome → Entry
entry_for who serial a o = record { event = record { who = who; serial = serial; act = a }; outcome = o }

moved_to : (at to : ℕ → Position) (me : ℕ) (q : Position) → ((t : ℕ) → to t ≡ upd at me q t) → to me ≡ q
moved_to at to me q tos = tos me ∙ upd_same at me q

others_to : (at to : ℕ → Position) (me : ℕ) (q : Position) → ((t : ℕ) → to t ≡ upd at me q t) → (t : ℕ) → t ≢ me → to t ≡ at t
others_to at to me q tos t ne = tos t ∙ upd_other at me q t ne

module _ (script : Script) (k n : KernelState) (at to : ℕ → Position) (who : ThreadId) (serial : ℕ) (o : Outcome) where
  -- The event may be made, and this comes of it.
  abbrev pub Happens : Act → Type 0
  Happens a = (may_act k who serial a ≡ true) × (acted k who serial a ≡ (n, o))

  -- the position that a call of the thread leaves
  abbrev pub there : Position
  there = moved (at who.number) (reply_to_last k who)

  -- What holds where an event that isn't a call moves nothing ..
  abbrev pub OfOthers : (Act → Type 0) → Type 0
  OfOthers G = (a : Act) → Happens a → call_in a serial ≡ [] → renewed_number (called k who serial) a ≡ None → created_program a ≡ None → ((t : ℕ) → to t ≡ at t) → ((t : ℕ) → Leaves k n t) → G a

  -- .. where a call that makes no thread moves its own ..
  abbrev pub OfCalls : (Act → Type 0) → Type 0
  OfCalls G = (c : Phase) → Happens (act.Call c) → c ≡ phase_next script.version (at who.number) (reply_to_last k who) → to who.number ≡ there → renewed_call (called k who serial) c ≡ None → ((id : ThreadId) → program_made (entry_for who serial (act.Call c) o) id ≡ None) → ((t : ℕ) → t ≢ who.number → to t ≡ at t) → G (act.Call c)

  -- .. and where a create begins another's
  abbrev pub OfCreates : (Act → Type 0) → Type 0
  OfCreates G = (program priority number : ℕ) → Happens (act.Call (phase.Create program priority)) → phase.Create program priority ≡ phase_next script.version (at who.number) (reply_to_last k who) → to who.number ≡ there → renewed_call (called k who serial) (phase.Create program priority) ≡ Some number → to number ≡ start_of script program (record { number = number; version = (k.place number).version + 1 }) → ((t : ℕ) → t ≢ who.number → t ≢ number → to t ≡ at t) → G (act.Call (phase.Create program priority))

  module _ (s : IsSound k) (G : Act → Type 0) (others : OfOthers G) (calls : OfCalls G) (creates : OfCreates G) where
    plain : (c : Phase) → Happens (act.Call c) → c ≡ phase_next script.version (at who.number) (reply_to_last k who) → renewed_call (called k who serial) c ≡ None → ((id : ThreadId) → program_made (entry_for who serial (act.Call c) o) id ≡ None) → ((t : ℕ) → to t ≡ upd at who.number there t) → G (act.Call c)
    plain c g next none unmade tos = calls c g next (moved_to at to who.number there tos) none unmade (others_to at to who.number there tos)

    create : (program priority : ℕ) (r : Option ℕ) → renewed_call (called k who serial) (phase.Create program priority) ≡ r → Happens (act.Call (phase.Create program priority)) → phase.Create program priority ≡ phase_next script.version (at who.number) (reply_to_last k who) → ((t : ℕ) → to t ≡ begun script (upd at who.number there) (Some program) o t) → G (act.Call (phase.Create program priority))
    create program priority None found g next tos =
        let is : o ≡ outcome.Full _ _ = sym (ap (λ (r : KernelState × Outcome). r.1) g.1) ∙ create_refused k who serial program priority found in
        plain (phase.Create program priority) g next found (λ id. other_made (entry_for who serial (act.Call (phase.Create program priority)) o) id (ap (λ (x : Outcome). makes x id) is)) (λ t. tos t ∙ ap (λ (x : Outcome). begun script (upd at who.number there) (Some program) x t) is)
    create program priority (Some number) found g next tos =
        let start = start_of script program (record { number = number; version = (k.place number).version + 1 }) in
        let u : ℕ → Position = upd at who.number there in
        let is : o ≡ outcome.Made (record { number = number; version = (k.place number).version + 1 }) = sym (ap (λ (r : KernelState × Outcome). r.1) g.1) ∙ create_tells k who serial program priority number g.0 found in
        let renewed : (t : ℕ) → to t ≡ upd u number start t = λ t. tos t ∙ ap (λ (x : Outcome). begun script u (Some program) x t) is in
        let apart : who.number ≢ number = renewed_other k who serial program priority number g.0 found in
        creates program priority number g next (others_to u to number start renewed who.number apart ∙ upd_same at who.number there) found
        (moved_to u to number start renewed)
        (λ t ne nq. others_to u to number start renewed t nq ∙ upd_other at who.number there t ne)

    pub moves_by : (a : Act) → Happens a → IsNextAct script k at who a → ((t : ℕ) → to t ≡ positions_after script k at (entry_for who serial a o) t) → G a
    moves_by (act.Call (phase.Send t m zero joined)) g next tos = plain (phase.Send t m zero joined) g next refl (λ id. none_made (entry_for who serial (act.Call (phase.Send t m zero joined)) o) id refl) tos
    moves_by (act.Call (phase.Reply t m zero)) g next tos = plain (phase.Reply t m zero) g next refl (λ id. none_made (entry_for who serial (act.Call (phase.Reply t m zero)) o) id refl) tos
    moves_by (act.Call (phase.Receive from zero)) g next tos = plain (phase.Receive from zero) g next refl (λ id. none_made (entry_for who serial (act.Call (phase.Receive from zero)) o) id refl) tos
    moves_by (act.Call (phase.Create program priority)) g next tos = create program priority (renewed_call (called k who serial) (phase.Create program priority)) refl g next tos
    moves_by (act.Call (phase.Destroy victim)) g next tos = plain (phase.Destroy victim) g next refl (λ id. none_made (entry_for who serial (act.Call (phase.Destroy victim)) o) id refl) tos
    moves_by (act.Call phase.End) g next tos = plain phase.End g next refl (λ id. none_made (entry_for who serial (act.Call phase.End) o) id refl) tos
    moves_by act.Gone g next tos = others act.Gone g refl refl refl tos
        (λ t. subst (λ (m : KernelState). Leaves k m t) (ap (λ (r : KernelState × Outcome). r.0) g.1) (leaves_from k (acted k who serial act.Gone).0 t (gone_keeps k who serial t g.0)))
    moves_by act.Pick g next tos = others act.Pick g refl refl refl tos
        (λ t. subst (λ (m : KernelState). Leaves k m t) (ap (λ (r : KernelState × Outcome). r.0) g.1) (leaves_from k (acted k who serial act.Pick).0 t (pick_keeps k who serial t g.0 s)))
