-- What a turn leaves alone of the other contexts, and of the queues whose locks they hold.
use Rattle.std.proofs.Common.{◌≡◌, ◌≢◌, ℕ, Bool, true, false, refl, sym, ap, ◌∙◌, subst, arith, Option, Some}
use Rattle.std.proofs.Common.{None, List, [], inl, inr, ◌⊎◌}
use Rattle.std.proofs.lemmas.Bool.Decides.{eqb_tells}
use Rattle.k_model.specs.Maps.{upd}
use Rattle.k_model.proofs.Maps.{upd_same, upd_other}
use Rattle.k_senders.specs.declared.entries.SenderEntry.{SenderEntry}
use Rattle.k_locks.specs.Asks.{Response}
use Rattle.k_locks.specs.Asks as asks
use Rattle.k_ipc.specs.declared.send.SendCall.{SendCall}
use Rattle.k_ipc.specs.declared.send.SendLocked.TheVariants as send_locked
use Rattle.k_ipc.specs.declared.send.SendRelease.TheVariants as send_release
use Rattle.k_ipc.specs.SendTable.{SendAt}
use Rattle.k_ipc.specs.SendTable as send
use Rattle.k_ipc.specs.declared.receive.ReceiveCall.{ReceiveCall}
use Rattle.k_ipc.specs.declared.receive.ReceiveLocked.TheVariants as receive_locked
use Rattle.k_ipc.specs.declared.receive.ReceiveRelease.TheVariants as receive_release
use Rattle.k_ipc.specs.ReceiveTable.{ReceiveAt}
use Rattle.k_ipc.specs.ReceiveTable as receive
use Rattle.k_threads.specs.declared.create.CreateCall.{CreateCall}
use Rattle.k_threads.specs.declared.create.CreateLocked.TheVariants as create_locked
use Rattle.k_threads.specs.CreateTable.{CreateAt}
use Rattle.k_threads.specs.CreateTable as create
use Rattle.k_threads.specs.declared.destroy.DestroyCall.{DestroyCall}
use Rattle.k_threads.specs.declared.destroy.DestroyLocked.TheVariants as destroy_locked
use Rattle.k_threads.specs.declared.destroy.DestroyVictim.TheVariants as victim
use Rattle.k_threads.specs.declared.destroy.DestroyVisit.TheVariants as visit
use Rattle.k_threads.specs.declared.destroy.DestroyPushing.TheVariants as destroy_pushing
use Rattle.k_threads.specs.DestroyTable.{DestroyAt}
use Rattle.k_threads.specs.DestroyTable as destroy
use Rattle.k_board.specs.Words.{Programs}
use Rattle.k_board.specs.Boards.{At, Coming, Nowhere, Context, Board, hand_of}
use Rattle.k_board.specs.Facts.{AllSay}
use Rattle.k_board.specs.Moves.{IsAway}
use Rattle.k_board.specs.Places.{facts_send, facts_receive, facts_create, facts_destroy}
use Rattle.k_board.specs.Steps.{create_contexts, destroy_contexts, destroy_number, destroy_queues}
use Rattle.k_board.specs.Steps.{new_context, receive_queues, send_queues}
use Rattle.k_board.proofs.Cases.{kept_queue}

-- ONE CONTEXT MOVES, or another is away besides

pub one_moves : (f : ℕ → Context) (i : ℕ) (x : Context) (j : ℕ) → j ≢ i →
    (upd f i x j ≡ f j) ⊎ IsAway (upd f i x j).at
one_moves f i x j ne = inl (upd_other f i x j ne)

two_move : (f : ℕ → Context) (i : ℕ) (x : Context) (m : ℕ) (y : Context) → IsAway y.at → (j : ℕ) → j ≢ i →
    (upd (upd f m y) i x j ≡ f j) ⊎ IsAway (upd (upd f m y) i x j).at
two_move f i x m y away j ne = elim (eqb_tells j m) [
  | inl e ↦
      inr (subst (λ (z : Context). IsAway z.at)
      (sym (upd_other (upd f m y) i x j ne ∙ ap (upd f m y) e.1 ∙ upd_same f m y)) away)
  | inr e ↦ inl (upd_other (upd f m y) i x j ne ∙ upd_other f m y j e.1)
]

module _ (g : Programs) (b : Board) (i : ℕ) where
  pub create_leaves : (c : CreateCall) (p : CreateAt) (r : Response) (x : Context) →
      create.points c (b.seen i).word (hand_of b []) p r ≡ None → (j : ℕ) → j ≢ i →
      (upd (create_contexts g c p r b.context) i x j ≡ b.context j) ⊎ IsAway (upd (create_contexts g c p r
      b.context) i x j).at
  create_leaves c (create.Locked (create_locked.PlaceContext id)) asks.Placed x silent j ne =
      two_move b.context i x id.number (new_context g c id Coming) (inr refl) j ne
  create_leaves c (create.Locked (create_locked.CommitCreate id)) asks.Won x silent j ne = absurd cc
  create_leaves c p r x silent j ne = one_moves b.context i x j ne

  pub destroy_leaves : (c : DestroyCall) (p : DestroyAt) (r : Response) (x : Context) → (j : ℕ) → j ≢ i →
      (upd (destroy_contexts c p r b.context) i x j ≡ b.context j) ⊎ IsAway (upd (destroy_contexts c p r
      b.context) i x j).at
  destroy_leaves c (destroy.Locked destroy_locked.RemoveContext) asks.Removed x j ne =
      two_move b.context i x c.who.number (record (b.context c.who.number) { at = Nowhere }) (inl refl) j ne
  destroy_leaves c p r x j ne = one_moves b.context i x j ne

  -- QUEUES

  pub send_keeps : (c : SendCall) (p : SendAt) (r : Response) → AllSay g b i (b.context i) (facts_send c p)
      → (j : ℕ) → j ≢ i →
      b.owner j ≡ Some j → send_queues c p r b.queue j ≡ b.queue j
  send_keeps c (send.Locked (send_locked.Release send_release.Queued)) asks.Released f j ne mine =
      kept_queue b.owner b.queue c.to.number i j _ f.1.1.1.0.0 ne j mine
  send_keeps c p r f j ne mine = refl

  pub receive_keeps : (c : ReceiveCall) (p : ReceiveAt) (r : Response) →
      AllSay g b i (b.context i) (facts_receive c p) →
      (j : ℕ) → j ≢ i → b.owner j ≡ Some j → receive_queues c p r b.queue j ≡ b.queue j
  receive_keeps c (receive.Locked (receive_locked.Release (receive_release.Taken e))) asks.Released f j ne
      mine =
      kept_queue b.owner b.queue c.caller.number i j _ f.0 ne j mine
  receive_keeps c p r f j ne mine = refl

  pub destroy_keeps : (c : DestroyCall) (p : DestroyAt) (r : Response) →
      AllSay g b i (b.context i) (facts_destroy c p) →
      destroy.points c (b.seen i).word (hand_of b (b.queue (destroy_number c p))) p r ≡ None →
      (j : ℕ) → j ≢ i → b.owner j ≡ Some j → destroy_queues c p r b.queue j ≡ b.queue j
  destroy_keeps c (destroy.Victim (victim.FreeSender sender seen)) asks.Won f silent j ne mine = absurd cc
  destroy_keeps c (destroy.Pushing (destroy_pushing.PushSender sender seen)) asks.Released f silent j ne
      mine =
      kept_queue b.owner b.queue c.who.number i j _ f.1.1.1.1.1.1.1.0 ne j mine
  destroy_keeps c (destroy.Visit (visit.ReleaseVisitedLock visited)) asks.Released f silent j ne mine =
      kept_queue b.owner b.queue visited i j _ f.1.1.1.1.1.1.1.1.1.0 ne j mine
  destroy_keeps c p r f silent j ne mine = refl
