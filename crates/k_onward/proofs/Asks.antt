-- What the step of the context in hand asks for, and who holds that up, by what the step finds.
use Rattle.std.proofs.Common.{◌≡◌, refl, sym, ap, ◌∙◌, subst, Option, Some, None, arith}
use Rattle.std.proofs.lemmas.Grind.{common_steps}
use Rattle.k_ids.specs.declared.context_word.ContextWord.TheVariants.{Clean}
use Rattle.k_ids.specs.declared.state_word.StateWord.{StateWord}
use Rattle.k_ids.specs.declared.threads.ThreadId.{ThreadId}
use Rattle.k_ids.specs.ContextWords.{IsVersion, context_bits, context_word_of}
use Rattle.k_ids.specs.StateWords.{IsPartner}
use Rattle.k_ids.proofs.ContextSpelled.{context-read}
use Rattle.k_locks.specs.declared.locks.Lock.{Lock}
use Rattle.k_locks.specs.declared.steps.Step.TheVariants as step
use Rattle.k_locks.specs.Asks.{Ask, Want, want_for, want_of}
use Rattle.k_locks.specs.Asks as asks
use Rattle.k_locks.specs.Hands.{nothing}
use Rattle.k_locks.specs.Places.{IsLock, IsWord}
use Rattle.k_locks.specs.Steps.{word_of}
use Rattle.k_threads.specs.declared.destroy.DestroyCall.{DestroyCall}
use Rattle.k_threads.specs.declared.destroy.DestroyLocked.TheVariants as destroy_locked
use Rattle.k_threads.specs.declared.destroy.DestroySection.{DestroySection}
use Rattle.k_threads.specs.DestroyTable.{DestroyAt}
use Rattle.k_threads.specs.DestroyTable as destroy
use Rattle.k_caller.specs.declared.activity.Activity.{Activity}
use Rattle.k_caller.specs.declared.activity.Activity.TheVariants as activity
use Rattle.k_caller.specs.Activities.{IsSoundAt}
use Rattle.k_caller.specs.Threads.{ThreadSeen}
use Rattle.k_switch.specs.declared.switch.Switch.{Switch}
use Rattle.k_script.specs.Script.{Script}
use Rattle.k_context.specs.Contexts.{Carrier, ContextSeen, IsSound, Thread, step_of}
use Rattle.k_carrier.specs.Asked.{Run, ask_of, move_by}
use Rattle.k_carrier.specs.Moves.{Section}
use Rattle.k_carrier.specs.Seen.{HandSeen}
use Rattle.k_world.specs.Moves.{word_on}
use Rattle.k_world.specs.Steps.{step_in}
use Rattle.k_world.specs.Worlds.{World, carrier_at}
use Rattle.k_board.specs.Boards.{Board}
use Rattle.k_good.proofs.Owners.{Named}
use Rattle.k_places.specs.Shows.{Shows}
use Rattle.k_sections.specs.Situations.{holder_of}
use Rattle.k_turns.specs.Spelled.{ask_at, ask_in, ask_of_switch}
use Rattle.k_waits.proofs.Asking.{asks_remove, step_asks}
use Rattle.k_waits.proofs.Courses.{IsUnheld}
use Rattle.k_waits.proofs.Holders.{clean_holder, free_holder}
use Rattle.k_onward.specs.Stepping.{IsStepping}
use Rattle.k_onward.proofs.Stepping.{M, V}

pub some_is : {A : Type 0} {a b : A} → Some a ≡ Some b → a ≡ b
some_is e = cc

-- A REMOVAL is made by a destroy

pub record IsRemoving (v : ContextSeen) (id : ThreadId) : Type 0 where
  pub thread : ThreadSeen
  pub is : v ≡ Thread thread
  pub section : DestroySection
  pub doing : thread.activity ≡ activity.Destroy section
  pub at : destroy.at_of section.location ≡ destroy.Locked destroy_locked.RemoveContext
  pub who : section.call.who ≡ id

removes_at : (c : DestroyCall) (own : StateWord) (p : DestroyAt) (id : ThreadId) → destroy.ask_of c own p ≡ asks.Remove id →
    (p ≡ destroy.Locked destroy_locked.RemoveContext) × (c.who ≡ id)
removes_at c own (destroy.Locked destroy_locked.RemoveContext) id e = (refl, cc)
removes_at c own p id e = absurd (grind (arith, common_steps, e))

removes_by : (t : ThreadSeen) (a : Activity) (id : ThreadId) → t.activity ≡ a → ask_in t.id t.own a ≡ asks.Remove id →
    IsRemoving (Thread t) id
removes_by t (activity.Destroy s) id d e =
    let r = removes_at s.call s.own (destroy.at_of s.location) id e in record {
      thread = t;
      is = refl;
      section = s;
      doing = d;
      at = r.0;
      who = r.1;
    }
removes_by t (activity.Alone p) id d e = absurd (grind (arith, common_steps, e))
removes_by t (activity.Send s) id d e = absurd (grind (arith, common_steps, e))
removes_by t (activity.Receive s) id d e = absurd (grind (arith, common_steps, e))
removes_by t (activity.Create s) id d e = absurd (grind (arith, common_steps, e))

switch_removes : (o : Option Switch) (id : ThreadId) → ask_of_switch o ≡ asks.Remove id → ⊥
switch_removes None id e = absurd cc
switch_removes (Some s) id e = grind (arith, common_steps, e)

pub removing : (v : ContextSeen) (id : ThreadId) → ask_at v ≡ asks.Remove id → IsRemoving v id
removing (Thread t) id e = removes_by t t.activity id refl e
removing (Carrier k) id e = absurd (switch_removes k.switch id e)

-- A sound context removes one whose version is one of a thread.
removed_version : (script : Script) (v : ContextSeen) (id : ThreadId) → IsSound script v → ask_at v ≡ asks.Remove id →
    IsVersion id.version
removed_version script v id sound e =
    let r = removing v id e in
    let doing : IsSoundAt r.thread.id r.thread.own (activity.Destroy r.section) =
    subst (IsSoundAt r.thread.id r.thread.own) r.doing (subst (IsSound script) r.is sound).doing in
    let who : IsPartner r.section.call.who = doing.sound.call.victim in
    subst (λ (z : ThreadId). IsVersion z.version) r.who (record { born = who.born; small = who.version })

-- WHO HOLDS IT UP

module _ (script : Script) (w : World) (s : IsStepping script w) (x : HandSeen) (e : ask_of (carrier_at w 0) ≡ Run x) where
  step_move : (step_in script 0 w).move ≡ Section (step_of (V script w s x e))
  unfolding step_in
  step_move = ap (move_by script (carrier_at w 0)) e

  -- a lock that it acquires is one that there is
  pub is_lock : (l : Lock) → step_of (V script w s x e) ≡ step.Acquire l → IsLock l
  is_lock l q = subst IsWord (ap word_on step_move ∙ ap word_of q) s.within.word

  pub is_version : (id : ThreadId) → step_of (V script w s x e) ≡ step.Remove id → IsVersion id.version
  is_version id q =
      removed_version script (V script w s x e) id (s.ready x e).sound (asks_remove (V script w s x e) id q)

  -- Nobody does where it goes on.
  module _ (b : Board) (sh : Shows script (M script w s x e) b) (named : Named b)
      (unheld : IsUnheld (M script w s x e) (step_of (V script w s x e))) where
    free_by : (a : Ask) → ask_at (V script w s x e) ≡ a → (want : Want) → want_of a ≡ Some want → holder_of b want ≡ None
    free_by (asks.Acquire l) q want is =
        let at : step_of (V script w s x e) ≡ step.Acquire l = step_asks (V script w s x e) (asks.Acquire l) nothing q in
        ap (holder_of b) (sym (some_is is))
        ∙ free_holder script (M script w s x e) b named sh l (is_lock l at) (subst (IsUnheld (M script w s x e)) at unheld)
    free_by (asks.Remove id) q want is =
        let at : step_of (V script w s x e) ≡ step.Remove id = step_asks (V script w s x e) (asks.Remove id) nothing q in
        let word : (M script w s x e).context id.number ≡ context_bits (Clean id.version) =
        subst (IsUnheld (M script w s x e)) at unheld in
        ap (holder_of b) (sym (some_is is))
        ∙ clean_holder script (M script w s x e) b named sh id.number id.version
        (ap context_word_of word ∙ context-read (Clean id.version) (is_version id at))
    free_by (asks.Load n) q want is = absurd cc
    free_by (asks.LoadMail n) q want is = absurd cc
    free_by (asks.Post n m) q want is = absurd cc
    free_by (asks.Exchange n old new) q want is = absurd cc
    free_by (asks.Release l) q want is = absurd cc
    free_by (asks.Place id program priority) q want is = absurd cc

    pub is_free : (want : Want) → want_of (ask_at (V script w s x e)) ≡ Some want → holder_of b want ≡ None
    is_free = free_by (ask_at (V script w s x e)) refl
