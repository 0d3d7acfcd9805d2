-- Each turn of a thread's context is granted.
use Rattle.std.specs.Prelude.{[]}
use Rattle.std.proofs.Common.{◌≡◌, ◌≢◌, ℕ, ◌<◌, Bool, true, false, refl, sym, ap, ◌∙◌, subst, Some, None, not, arith}
use Rattle.k_ids.specs.declared.state_word.StateWord.{StateWord}
use Rattle.k_model.specs.Maps.{upd}
use Rattle.k_model.proofs.Maps.{upd_same, upd_other}
use Rattle.k_locks.specs.Asks.{Response}
use Rattle.k_locks.specs.Asks as asks
use Rattle.k_locks.specs.Shown.{is_dead}
use Rattle.k_threads.specs.declared.destroy.DestroyCall.{DestroyCall}
use Rattle.k_threads.specs.declared.destroy.DestroyLocked.TheVariants as destroy_locked
use Rattle.k_threads.specs.DestroyTable.{DestroyAt}
use Rattle.k_threads.specs.DestroyTable as destroy
use Rattle.k_caller.specs.declared.thread.ThreadLocation.TheVariants as location
use Rattle.k_board.specs.Words.{Programs}
use Rattle.k_board.specs.Boards.{At, Alone, InSend, InReceive, InCreate, InDestroy, InSwitch}
use Rattle.k_board.specs.Boards.{Resting, Nowhere, Board, Context, hand_of, id_at}
use Rattle.k_board.specs.Facts.{AllSay}
use Rattle.k_board.specs.Places.{facts_of}
use Rattle.k_board.specs.Steps.{alone_context, begun, begun_at, create_context, create_contexts, destroy_board}
use Rattle.k_board.specs.Steps.{destroy_context, destroy_contexts, destroy_number, receive_context, send_context, working}
use Rattle.k_board.specs.Turns.{Turn, sends, receives, creates, destroys, goes_alone, begins}
use Rattle.k_board.specs.Turns.{turns_to_work, wakes, switches, begins_switch, ends_switch}
use Rattle.k_good.specs.Ranges.{is_threads}
use Rattle.k_tokens.specs.World.{Absent, Asleep, Awake, Condition, Threads, World}
use Rattle.k_tokens.specs.Good.{Parts}
use Rattle.k_grants.specs.Views.{look_at}
use Rattle.k_grants.specs.Pushes.{PushSays, board_threads}
use Rattle.k_grants.specs.Granted.{Finding, IsFreeToRemove, IsGranted, IsWait, MayTurn, is_again}
use Rattle.k_grants.proofs.Says.{Turned}
use Rattle.k_grants.proofs.Worlds.{from_world, to_world, world_of}
use Rattle.k_grants.proofs.SendTurns.{send_turned}
use Rattle.k_grants.proofs.ReceiveTurns.{receive_turned}
use Rattle.k_grants.proofs.CreateTurns.{create_turned}
use Rattle.k_grants.proofs.DestroyTurns.{destroy_turned}
use Rattle.k_grants.proofs.AloneTurns.{alone_turned, begins_turned, works_turned}

module _ (g : Programs) (b : Board) (w : World) (k i : ℕ) (m : MayTurn g b w k i) (finding : Finding)
    (wait : IsWait finding.waits) where
  parts : Parts (world_of w b) m.holder
  parts = to_world (λ (u : World). Parts u m.holder) w b m.agrees m.parts

  alive : b.table ≡ Some i → is_dead (b.seen i).word ≡ true → ⊥
  alive mine d = false_not (ap not (sym d) ∙ (parts.threads.table_is i mine).1)
    where
      false_not : false ≡ true → ⊥
      false_not z = cc

  awake : (look_at (b.context i).at).condition ≡ Awake
  awake = ap (λ (x : Threads). x.condition i) (sym m.agrees.threads) ∙ m.run.awake

  inside : (p : At) → (b.context i).at ≡ p → is_threads p ≡ true → i < b.size
  inside p at e = (m.within.threads i (ap is_threads at ∙ e)).number

  -- the priority of a thread that is there is in range, and a dead word's is 0
  low : (t : ℕ) → (b.seen t).word.priority < 64
  low t = by (is_dead (b.seen t).word) refl
    where
      by : (d : Bool) → is_dead (b.seen t).word ≡ d → (b.seen t).word.priority < 64
      by true d = subst (λ (x : StateWord). x.priority < 64) (sym (m.good.numbers.spelled t d)) (omega arith)
      by false d = subst (λ (x : ℕ). x < 64) (m.agrees.priorities t (ap not d)) (m.parts.threads.priority t)

  facts_at : (p : At) → (b.context i).at ≡ p → AllSay g b i (b.context i) (facts_of p)
  facts_at p at = subst (λ (q : At). AllSay g b i (b.context i) (facts_of q)) at (m.good.places i)

  says_at : (p : At) → (b.context i).at ≡ p → PushSays b.seen (board_threads b) p
  says_at p at = subst (λ (q : At). PushSays b.seen (board_threads b) q) at (m.pushes i)

  -- where the context stands afterwards
  stood : {again : Bool} (b' : Board) (f : ℕ → Context) (x : Context) → b'.context ≡ upd f i x →
      Turned b' (world_of w b) k i finding again x.at → Turned b' (world_of w b) k i finding again (b'.context i).at
  stood {again} b' f x e h =
      subst (λ (z : Context). Turned b' (world_of w b) k i finding again z.at)
      (sym (ap (λ (h : ℕ → Context). h i) e ∙ upd_same f i x)) h

  not_awake : (p : At) (c : Condition) → (b.context i).at ≡ p → (look_at p).condition ≡ c → (c ≡ Awake → ⊥) → ⊥
  not_awake p c at e differ = differ (sym e ∙ ap (λ (q : At). (look_at q).condition) (sym at) ∙ awake)

  free_of : (c : DestroyCall) (p : DestroyAt) (r : Response) → (b.context i).at ≡ InDestroy c p → i ≢ c.who.number
      → IsFreeToRemove b w i (destroy_board g b i (b.context i) c p r) → p ≡ destroy.Locked destroy_locked.RemoveContext →
      r ≡ asks.Removed → w.held c.who.number ≡ None
  free_of c p r at apart h e d = h c (at ∙ ap (InDestroy c) e) nowhere
    where
      nowhere : ((destroy_board g b i (b.context i) c p r).context c.who.number).at ≡ Nowhere
      nowhere = subst (λ (q : DestroyAt). ((destroy_board g b i (b.context i) c q r).context c.who.number).at ≡ Nowhere) (sym e)
          (subst (λ (q : Response). ((destroy_board g b i (b.context i) c
          (destroy.Locked destroy_locked.RemoveContext) q).context c.who.number).at ≡ Nowhere) (sym d)
          (ap (λ (x : Context). x.at) (upd_other (upd b.context c.who.number gone) i
          (destroy_context (b.context i) c (destroy.Locked destroy_locked.RemoveContext) asks.Removed
          (hand_of b (b.queue c.who.number))) c.who.number (λ z. apart (sym z))
          ∙ upd_same b.context c.who.number gone)))
        where
          gone : Context
          gone = record (b.context c.who.number) { at = Nowhere }

  pub turned : (b' : Board) → IsFreeToRemove b w i b' → (t : Turn g b i b') →
      Turned b' (world_of w b) k i finding (is_again g b i b' t) (b'.context i).at
  turned _ free (sends c p r at an) =
      stood _ b.context (send_context (b.context i) c p r (hand_of b (b.queue c.to.number))) refl
      (send_turned g b w k i m.agrees m.parts.threads.priority (inside (InSend c p) at refl) finding wait c p r at an
      (facts_at (InSend c p) at) (says_at (InSend c p) at))
  turned _ free (receives c p r at an) =
      stood _ b.context (receive_context (b.context i) c p r (hand_of b (b.queue i))) refl
      (receive_turned g b w k i m.agrees low (inside (InReceive c p) at refl) finding wait c p r at an
      (facts_at (InReceive c p) at) (says_at (InReceive c p) at))
  turned _ free (creates c p r at an) =
      stood _ (create_contexts g c p r b.context) (create_context (b.context i) c p r (hand_of b [])) refl
      (create_turned g b w k i m.agrees m.names alive m.parts.threads.priority
      (inside (InCreate c p) at refl) finding wait c p r at an (facts_at (InCreate c p) at) (says_at (InCreate c p) at))
  turned _ free (destroys c p r at an) =
      stood _ (destroy_contexts c p r b.context) (destroy_context (b.context i) c p r
      (hand_of b (b.queue (destroy_number c p)))) refl
      (destroy_turned g b w k i m.agrees m.holder parts m.good.locks m.parts.threads.priority
      (inside (InDestroy c p) at refl) finding wait c p r at an (facts_at (InDestroy c p) at) (says_at (InDestroy c p) at)
      (λ e d. free_of c p r at (apart c p at e) free e d))
    where
      apart : (c : DestroyCall) (p : DestroyAt) → (b.context i).at ≡ InDestroy c p →
          p ≡ destroy.Locked destroy_locked.RemoveContext → i ≢ c.who.number
      apart c p at e n =
          (let h = facts_at (InDestroy c (destroy.Locked destroy_locked.RemoveContext)) (at ∙ ap (InDestroy c) e) in
          alive h.1.0 (ap (λ (t : ℕ). is_dead (b.seen t).word) n ∙ h.0.1))
  turned _ free (goes_alone p r at can an) =
      stood _ b.context (alone_context (b.context i) p r) refl
      (alone_turned g b w k i m.agrees finding p r can at an (facts_at (Alone p) at))
  turned _ free (begins l f at e) =
      stood _ b.context (begun g (b.context i) l (begun_at b.size (id_at b i) f)) refl
      (begins_turned g b w k i m.agrees finding l f at)
  turned _ free (turns_to_work l count at e) =
      stood _ b.context (working g (b.context i) l count) refl (works_turned g b w k i m.agrees finding l count at)
  turned _ free (wakes at) = absurd (not_awake (Alone location.Asleep) Asleep at refl (λ z. cc))
  turned _ free (switches c p r at going an) = absurd (not_awake (InSwitch c p) Absent at refl (λ z. cc))
  turned _ free (begins_switch c at) = absurd (not_awake Resting Absent at refl (λ z. cc))
  turned _ free (ends_switch c q at) = absurd (not_awake (InSwitch c _) Absent at refl (λ z. cc))

pub turn_granted : (g : Programs) (b b' : Board) (w : World) (k i : ℕ) (f : Finding) → MayTurn g b w k i → IsWait f.waits →
    IsFreeToRemove b w i b' → (t : Turn g b i b')
    → IsGranted b' w k i f (is_again g b i b' t)
turn_granted g b b' w k i f m wait free t =
    from_world (λ (u : World). IsGranted b' u k i f (is_again g b i b' t)) w b m.agrees
    (turned g b w k i m f wait b' free t).granted
