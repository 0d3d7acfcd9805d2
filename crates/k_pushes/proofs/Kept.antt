-- What locations say of the threads that they push holds after any granted turn.
use Rattle.std.proofs.Common.{◌≡◌, ◌≢◌, ℕ, Bool, true, false, cond, refl, sym, ap}
use Rattle.std.proofs.Common.{◌∙◌, subst, Option, Some, None, not, ◌⊎◌, inl, inr}
use Rattle.std.proofs.lemmas.Bool.Decides.{eqb_tells}
use Rattle.k_ids.specs.declared.threads.ThreadId.{ThreadId}
use Rattle.k_ids.specs.declared.state_word.StateWord.{StateWord}
use Rattle.k_model.specs.Maps.{upd}
use Rattle.k_model.proofs.Maps.{upd_same, upd_other}
use Rattle.k_senders.specs.Entries.{sender_of}
use Rattle.k_locks.specs.declared.locks.Lock.{Lock}
use Rattle.k_locks.specs.declared.locks.Lock.TheVariants as lock
use Rattle.k_locks.specs.Asks.{Response}
use Rattle.k_locks.specs.Asks as asks
use Rattle.k_locks.specs.Locks.{Holds}
use Rattle.k_ipc.specs.declared.send.SendLocked.TheVariants as send_locked
use Rattle.k_ipc.specs.declared.send.SendPushing.TheVariants as send_pushing
use Rattle.k_ipc.specs.SendTable as send
use Rattle.k_ipc.specs.declared.receive.ReceiveLocked.TheVariants as receive_locked
use Rattle.k_ipc.specs.declared.receive.ReceivePushing.TheVariants as receive_pushing
use Rattle.k_ipc.specs.ReceiveTable as receive
use Rattle.k_threads.specs.declared.create.CreateCall.{CreateCall}
use Rattle.k_threads.specs.declared.create.CreateLocked.TheVariants as create_locked
use Rattle.k_threads.specs.CreateTable.{CreateAt}
use Rattle.k_threads.specs.CreateTable as create
use Rattle.k_threads.specs.declared.destroy.DestroyCall.{DestroyCall}
use Rattle.k_threads.specs.declared.destroy.DestroyLocked.TheVariants as destroy_locked
use Rattle.k_threads.specs.declared.destroy.DestroyVictim.TheVariants as victim
use Rattle.k_threads.specs.declared.destroy.DestroyVisit.TheVariants as visit
use Rattle.k_threads.specs.declared.destroy.DestroyPushing.TheVariants as destroy_pushing
use Rattle.k_threads.specs.DestroyTable.{DestroyAt}
use Rattle.k_threads.specs.DestroyTable as destroy
use Rattle.k_threads.specs.Words.{thread_at}
use Rattle.k_board.specs.Words.{Programs}
use Rattle.k_board.specs.Boards.{At, InSend, InReceive, InCreate, InDestroy, Board, Context}
use Rattle.k_board.specs.Moves.{Change}
use Rattle.k_board.specs.Steps.{create_contexts, destroy_contexts}
use Rattle.k_board.specs.Turns.{Turn, sends, receives, creates, destroys, goes_alone, begins}
use Rattle.k_board.specs.Turns.{turns_to_work, wakes, switches, begins_switch, ends_switch}
use Rattle.k_board.proofs.Turning.{turn_changes}
use Rattle.k_good.specs.Good.{QueuesTell}
use Rattle.k_good.specs.Locks.{locks_at, owner_by}
use Rattle.k_good.proofs.Goods.{supports}
use Rattle.k_tokens.specs.World.{OfThread, Threads, World}
use Rattle.k_tokens.specs.Good.{Parts, PushOf, Told, is_coming, is_somewhere}
use Rattle.k_tokens.specs.Steps.{FindsTaken}
use Rattle.k_grants.specs.Views.{look_at, looks_of, threads_of}
use Rattle.k_grants.specs.Pushes.{IsOn, IsOnAt, PushSays, PushesHold, WasKilled, board_threads, word_at}
use Rattle.k_grants.specs.Granted.{Finding, IsFreeToRemove, MayTurn, is_again}
use Rattle.k_grants.proofs.Granted.{turned}
use Rattle.k_pushes.proofs.Lasting.{IsKilled, killed_stays, run_stays}
use Rattle.k_grants.proofs.Says.{Turned, says_nothing}
use Rattle.k_grants.proofs.Tells.{told_of_any}
use Rattle.k_pushes.proofs.Told.{told_stays}
use Rattle.k_grants.proofs.Words.{runs_alive}
use Rattle.k_grants.proofs.Worlds.{to_world, world_of}

-- Another context stands where it stood, or has nobody to push.
abbrev Stays : Board → (ℕ → Context) → ℕ → Type 0
Stays b f k = (f k ≡ b.context k) ⊎ ((look_at (f k).at).push ≡ None)

set_stays : (b : Board) (n : ℕ) (y : Context) (k : ℕ) → (look_at y.at).push ≡ None → Stays b (upd b.context n y) k
set_stays b n y k e = elim (eqb_tells k n) [
  | inl d ↦
      inr (ap (λ (z : ℕ). (look_at (upd b.context n y z).at).push) d.1
      ∙ ap (λ (x : Context). (look_at x.at).push) (upd_same b.context n y) ∙ e)
  | inr d ↦ inl (upd_other b.context n y k d.1)
]

create_stays : (g : Programs) (b : Board) (c : CreateCall) (p : CreateAt) (r : Response) (k : ℕ) →
    Stays b (create_contexts g c p r b.context) k
create_stays g b c (create.Locked (create_locked.PlaceContext id)) asks.Placed k = set_stays b id.number _ k refl
create_stays g b c (create.Locked (create_locked.CommitCreate id)) asks.Won k = set_stays b id.number _ k refl
create_stays g b c p r k = inl refl

destroy_stays : (b : Board) (c : DestroyCall) (p : DestroyAt) (r : Response) (k : ℕ) →
    Stays b (destroy_contexts c p r b.context) k
destroy_stays b c (destroy.Locked destroy_locked.RemoveContext) asks.Removed k = set_stays b c.who.number _ k refl
destroy_stays b c p r k = inl refl

moved_stays : (b : Board) (f : ℕ → Context) (i : ℕ) (x : Context) (k : ℕ) → k ≢ i → Stays b f k → Stays b (upd f i x) k
moved_stays b f i x k ne (inl e) = inl (upd_other f i x k ne ∙ e)
moved_stays b f i x k ne (inr e) = inr (ap (λ (y : Context). (look_at y.at).push) (upd_other f i x k ne) ∙ e)

stand : (g : Programs) (b : Board) (i : ℕ) (b' : Board) → Turn g b i b' → (k : ℕ) → k ≢ i → Stays b b'.context k
stand g b i _ (sends c p r at an) k ne = moved_stays b b.context i _ k ne (inl refl)
stand g b i _ (receives c p r at an) k ne = moved_stays b b.context i _ k ne (inl refl)
stand g b i _ (creates c p r at an) k ne = moved_stays b _ i _ k ne (create_stays g b c p r k)
stand g b i _ (destroys c p r at an) k ne = moved_stays b _ i _ k ne (destroy_stays b c p r k)
stand g b i _ (goes_alone p r at can an) k ne = moved_stays b b.context i _ k ne (inl refl)
stand g b i _ (begins l f at e) k ne = moved_stays b b.context i _ k ne (inl refl)
stand g b i _ (turns_to_work l count at e) k ne = moved_stays b b.context i _ k ne (inl refl)
stand g b i _ (wakes at) k ne = moved_stays b b.context i _ k ne (inl refl)
stand g b i _ (switches c p r at going an) k ne = moved_stays b b.context i _ k ne (inl refl)
stand g b i _ (begins_switch c at) k ne = moved_stays b b.context i _ k ne (inl refl)
stand g b i _ (ends_switch c q at) k ne = moved_stays b b.context i _ k ne (inl refl)

module _ (g : Programs) (b b' : Board) (w : World) (c i : ℕ) (m : MayTurn g b w c i) (q : QueuesTell b i)
    (free : IsFreeToRemove b w i b') (t : Turn g b i b') where
  abbrev any : Finding
  any = record { above = false; waits = FindsTaken }

  now : Turned b' (world_of w b) c i any (is_again g b i b' t) (b'.context i).at
  now = turned g b w c i m any tt b' free t

  parts : Parts (world_of w b) m.holder
  parts = to_world (λ (u : World). Parts u m.holder) w b m.agrees m.parts

  change : (n : ℕ) → Change b i n (b'.seen n)
  change = turn_changes g b m.good.places i b' (supports g b i m.good q) t

  module _ (k : ℕ) (ne : k ≢ i) (who : ThreadId) (push : (looks_of b k).push ≡ Some who) where
    coming : m.holder who ≡ PushOf k
    coming = parts.tokens.push k who push

    -- The thread that makes the step isn't pushed.
    not_mine : IsOn (word_at b.seen who) who → who.number ≢ i
    not_mine o e = false_not (sym (calm (ap (λ (z : ℕ). z) e)) ∙ ap is_coming coming)
      where
        false_not : false ≡ true → ⊥
        false_not z = cc

        here : (threads_of w.threads.priority b).made who.number ≡ (b.seen who.number).word.version
        here = (parts.threads.here who.number (ap not (runs_alive (word_at b.seen who).state o.running))).1

        calm : who.number ≡ i → is_coming (m.holder who) ≡ false
        calm z =
            ap (λ (x : ThreadId). is_coming (m.holder x)) (λ d.
            record { number = z d; version = (sym o.version ∙ sym here ∙ ap (threads_of w.threads.priority b).made z) d })
            ∙ to_world (λ (u : World). is_coming (m.holder (record { number = i; version = u.threads.made i })) ≡
            false) w b m.agrees m.run.calm

    on_stays : (n : ℕ) → (b.owner who.number ≡ Some k) ⊎ (b.table ≡ Some k) → IsOnAt (word_at b.seen who) who n →
        IsOnAt (word_at b'.seen who) who n
    on_stays n mine o = by mine (run_stays b i who.number (b'.seen who.number) (change who.number) (not_mine o.0) o.0.running)
      where
        by : (b.owner who.number ≡ Some k) ⊎ (b.table ≡ Some k) →
            ((b'.seen who.number).word ≡ (b.seen who.number).word) ⊎ IsKilled b i who.number (b'.seen who.number).word
            → IsOnAt (word_at b'.seen who) who n
        by mine (inl e) = subst (λ (x : StateWord). IsOnAt x who n) (sym e) o
        by (inl z) (inr d) = absurd (ne (let y : Some k ≡ Some i = sym z ∙ d.owner in cc))
        by (inr z) (inr d) = absurd (ne (let y : Some k ≡ Some i = sym z ∙ d.table in cc))

    either_stays : (P : StateWord → Type 0) → (P (word_at b.seen who) → IsOn (word_at b.seen who) who) →
        P (word_at b.seen who) ⊎ WasKilled (word_at b.seen who) who
        → P (word_at b'.seen who) ⊎ WasKilled (word_at b'.seen who) who
    either_stays P on (inr d) = inr (killed_stays b i who who.number (b'.seen who.number) (change who.number) d)
    either_stays P on (inl o) =
        by (run_stays b i who.number (b'.seen who.number) (change who.number) (not_mine (on o)) (on o).running)
      where
        by : ((b'.seen who.number).word ≡ (b.seen who.number).word) ⊎ IsKilled b i who.number (b'.seen who.number).word →
            P (word_at b'.seen who) ⊎ WasKilled (word_at b'.seen who) who
        by (inl e) = inl (subst P (sym e) o)
        by (inr d) = inr (inr (d.version ∙ (on o).version, d.dead))

    -- What was told lasts, since the ready lock is held.
    told_after : (seen : Option ℕ) → (looks_of b k).locks.ready ≡ true → Told (board_threads b) who seen →
        Told (board_threads b') who seen
    told_after seen held d =
        told_of_any _ (λ n. (b'.seen n).word.priority) b' who seen
        (subst (λ (x : Threads). Told x who seen) now.granted.agrees.threads
        (told_stays (world_of w b) m.holder parts c i who now.granted.step seen now.granted.grants
        (unready (looks_of b i).locks.ready refl) (ap is_somewhere coming)
        (told_of_any (λ n. (b.seen n).word.priority) w.threads.priority b who seen d)))
      where
        unready : (d : Bool) → (looks_of b i).locks.ready ≡ d → d ≡ false
        unready false e = refl
        unready true e =
            absurd (ne (let z : Some (OfThread k) ≡ Some (OfThread i) =
            sym (parts.ready.thread k held) ∙ parts.ready.thread i e in cc))

  module _ (k : ℕ) (ne : k ≢ i) where
    own : (p : At) → (b.context k).at ≡ p → (l : Lock) → Holds l (locks_at p) → owner_by b.owner b.table b.ready l ≡ Some k
    own p at l h = m.good.locks.named l k (subst (λ (x : At). Holds l (locks_at x)) (sym at) h)

    pushes_by : (p : At) → (b.context k).at ≡ p → (who : ThreadId) → (look_at p).push ≡ Some who → (looks_of b k).push ≡ Some who
    pushes_by p at who e = ap (λ (x : At). (look_at x).push) at ∙ e

    kept : (p : At) → (b.context k).at ≡ p → PushSays b.seen (board_threads b) p → PushSays b'.seen (board_threads b') p
    kept (InSend s (send.Locked (send_locked.AcquireReady n))) at h =
        on_stays k ne s.to (pushes_by _ at s.to refl) n (inl (own _ at (lock.Thread s.to.number) refl)) h
    kept (InSend s (send.Pushing (send_pushing.PushReceiver n))) at h =
        on_stays k ne s.to (pushes_by _ at s.to refl) n (inl (own _ at (lock.Thread s.to.number) refl)) h
    kept (InReceive s (receive.Locked (receive_locked.EndPick e v))) at h =
        λ o. either_stays k ne (sender_of e) (pushes_by _ at (sender_of e)
        (ap (λ (d : Bool). cond d None (Some (sender_of e))) o)) (λ x. IsOn x (sender_of e)) (λ x. x) (h o)
    kept (InReceive s (receive.Locked (receive_locked.AcquireReady e))) at h =
        either_stays k ne (sender_of e) (pushes_by _ at (sender_of e) refl) (λ x. IsOn x (sender_of e)) (λ x. x) h
    kept (InReceive s (receive.Pushing (receive_pushing.LoadFreed e))) at h =
        either_stays k ne (sender_of e) (pushes_by _ at (sender_of e) refl) (λ x. IsOn x (sender_of e)) (λ x. x) h
    kept (InReceive s (receive.Pushing (receive_pushing.PushFreed e v))) at h = record {
      who =
          either_stays k ne (sender_of e) (pushes_by _ at (sender_of e) refl) (λ x. IsOnAt x (sender_of e) v.priority)
          (λ x. x.0) h.who;
      told =
          told_after k ne (sender_of e) (pushes_by _ at (sender_of e) refl) _
          (ap (λ (x : At). (look_at x).locks.ready) at) h.told;
    }
    kept (InCreate s (create.Locked (create_locked.AcquireReady id))) at h =
        on_stays k ne id (pushes_by _ at id refl) s.priority (inr (own _ at lock.Table refl)) h
    kept (InCreate s (create.PushCreated id)) at h =
        on_stays k ne id (pushes_by _ at id refl) s.priority (inr (own _ at lock.Table refl)) h
    kept (InDestroy s (destroy.Victim (victim.AcquireReadyForSender n v))) at h =
        on_stays k ne (thread_at n v) (pushes_by _ at (thread_at n v) refl) v.priority (inr (own _ at lock.Table refl)) h
    kept (InDestroy s (destroy.Pushing (destroy_pushing.PushSender n v))) at h =
        on_stays k ne (thread_at n v) (pushes_by _ at (thread_at n v) refl) v.priority (inr (own _ at lock.Table refl)) h
    kept (InDestroy s (destroy.Visit (visit.AcquireReadyForVisited n v))) at h =
        on_stays k ne (thread_at n v) (pushes_by _ at (thread_at n v) refl) v.priority (inr (own _ at lock.Table refl)) h
    kept (InDestroy s (destroy.Pushing (destroy_pushing.PushVisited n v))) at h =
        on_stays k ne (thread_at n v) (pushes_by _ at (thread_at n v) refl) v.priority (inr (own _ at lock.Table refl)) h
    kept p at h = tt

    others : Stays b b'.context k → PushSays b'.seen (board_threads b') (b'.context k).at
    others (inl e) =
        subst (λ (x : Context). PushSays b'.seen (board_threads b') x.at) (sym e) (kept (b.context k).at refl (m.pushes k))
    others (inr n) = says_nothing b'.seen (board_threads b') (b'.context k).at n

  pub pushes_stay : PushesHold b'
  pushes_stay k = elim (eqb_tells k i) [
    | inl e ↦ subst (λ (n : ℕ). PushSays b'.seen (board_threads b') (b'.context n).at) (sym e.1) now.says
    | inr e ↦ others k e.1 (stand g b i b' t k e.1)
  ]
