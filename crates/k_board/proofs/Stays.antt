-- Each fact lasts over each step of another context.
use Rattle.std.proofs.Common.{◌≡◌, ◌≢◌, ℕ, ◌+◌, true, refl, sym, ap, ◌∙◌, List, [], ◌∷◌, Some, arith, ◌⊎◌, inl, inr}
use Rattle.k_ids.specs.declared.threads.ThreadId.{ThreadId}
use Rattle.k_ids.specs.declared.calls.Reply.{Reply}
use Rattle.k_ids.specs.declared.state_word.StateWord.{StateWord}
use Rattle.k_senders.specs.declared.entries.SenderEntry.{SenderEntry}
use Rattle.k_senders.specs.Entries.{number_of}
use Rattle.k_senders.specs.Queue.{entry_of, first_number, stands}
use Rattle.k_locks.specs.Numbers.{ThreadNumbers, lowest_free, version_at}
use Rattle.k_locks.specs.Queues.{before}
use Rattle.k_locks.specs.Shown.{is_dead}
use Rattle.k_locks.specs.Threads.{runs}
use Rattle.k_ipc.specs.declared.receive.ReceiveCall.{ReceiveCall}
use Rattle.k_threads.specs.Goods.{rest}
use Rattle.k_board.specs.Words.{Programs}
use Rattle.k_board.specs.Boards.{Board, Context, Coming}
use Rattle.k_board.specs.Facts.{Fact, Me, Free, Kept, Settling, Queued, Waits, Picks, OwnWaits, Rested, Died, Fresh, Called, Begun, Settled, Told, Remembers, Refused, Collects, HoldsThread, HoldsTable, HoldsReady, SendsItself, Differs, Apart, Accepting, Mailed, Passing, Busy, Loaded, Fitting, Plainly, Itself, NotZero, Picking, Closed, Reaches, Exhausts, Sends, Taken, Chosen, Unmade, Vacant, Arriving, Present, DestroysItself, Shows, Gone, Row, Rest, Emptied, Front, Waiting, Visited, Receives, Deaf, Never, Says, AllSay, IsRun, AllWait, NoneWaits}
use Rattle.k_board.specs.Moves.{Change, IsAway, Leaves}
use Rattle.k_board.proofs.Rely.{version_stays, last_stays, position_stays, told_stays, idle_stays, quiet_stays, mail_idle_stays, free_stays, rested_stays, kept_stays, held_stays, queued_stays, died_stays, mail_stays, fits_stays, opens_stays, loaded_stays, told_held_stays, waits_stays, picks_stays, busy_stays, present_stays, dead_stays, living_stays, version_held_stays, sends_stays, quits_stays, deaf_stays}

run_of : (own : StateWord) → IsRun own → runs own.state ≡ true
run_of own r = ap runs r.state

module _ (g : Programs) (b b' : Board) (i j : ℕ) (ne : i ≢ j) (there : (b.context i).at ≡ Coming → ⊥) (ch : (t : ℕ) → Change b j t (b'.seen t)) (lk : Leaves b i b') (ct : (n : ℕ) → b.table ≡ Some i → IsAway (b.context n).at → b'.context n ≡ b.context n) where
  shield : ((b.owner i ≡ Some i) ⊎ (b.table ≡ Some i)) → ((b'.owner i ≡ Some i) ⊎ (b'.table ≡ Some i))
  shield (inl h) = inl (lk.owner i h)
  shield (inr h) = inr (lk.table h)

  all_wait : (to : ThreadId) (es : List SenderEntry) → b.owner to.number ≡ Some i → b.table ≡ Some i → AllWait to b.seen es → AllWait to b'.seen es
  all_wait to [] o tb h = tt
  all_wait to (e ∷ es) o tb h = (sends_stays b i j ne there (number_of e) (b'.seen (number_of e)) (ch (number_of e)) to e o tb h.0, all_wait to es o tb h.1)

  none_waits : (c : ReceiveCall) (es : List SenderEntry) → c.caller.number ≡ i → b.owner i ≡ Some i → NoneWaits c b.seen es → NoneWaits c b'.seen es
  none_waits c [] me o h = tt
  none_waits c (e ∷ es) me o h = (λ a. quits_stays b i j ne there (number_of e) (b'.seen (number_of e)) (ch (number_of e)) c.caller e (ap b.owner me ∙ o) (h.0 a), none_waits c es me o h.1)

  module _ (x : Context) where
    refused : (r : Reply) → Says g b i x (Refused r) → Says g b' i x (Refused r)
    refused r (inl d) = inl (died_stays b i j ne there i (b'.seen i) (ch i) refl d)
    refused r (inr h) = inr (h.0 ∙ sym (last_stays b i j ne there i (b'.seen i) (ch i) refl), h.1 ∙ sym (position_stays b i j ne there i (b'.seen i) (ch i) refl), told_stays b i j ne there i (b'.seen i) (ch i) refl r h.2)

    pub says_stays : (f : Fact) → Says g b i x f → Says g b' i x f
    says_stays (Me id) h = (h.0, h.1 ∙ sym (version_stays b i j ne there i (b'.seen i) (ch i) refl))
    says_stays Free h = (h.0, free_stays b i j ne there i (b'.seen i) (ch i) refl x.own (run_of x.own h.0) h.1)
    says_stays Kept h = (h.0, kept_stays b i j ne there i (b'.seen i) (ch i) refl x.own (run_of x.own h.0) h.2 h.1, shield h.2)
    says_stays (Settling s) h = (lk.owner i h.0, held_stays b i j ne there i (b'.seen i) (ch i) refl x.own h.0 (grind arith) h.1, h.2, h.3, h.4)
    says_stays (Queued to) h = (lk.owner to.number h.0, h.1, h.2, queued_stays b i j ne there i (b'.seen i) (ch i) refl x.own to h.4.0 h.0 h.4.1 h.3, h.4, ap (stands i) (lk.queue to.number h.0) ∙ h.5)
    says_stays Waits h = waits_stays b i j ne there i (b'.seen i) (ch i) refl h
    says_stays Picks h = (h.0, h.1, picks_stays b i j ne there i (b'.seen i) (ch i) refl x.own h.0 h.2)
    says_stays OwnWaits h = h
    says_stays Rested h = (h.0, rested_stays b i j ne there i (b'.seen i) (ch i) refl x.own h.0 h.1)
    says_stays Died h = died_stays b i j ne there i (b'.seen i) (ch i) refl h
    says_stays Fresh h = h ∙ ap (λ (n : ℕ). n + 1) (sym (last_stays b i j ne there i (b'.seen i) (ch i) refl))
    says_stays Called h = h ∙ sym (last_stays b i j ne there i (b'.seen i) (ch i) refl)
    says_stays (Begun p) h =
        let q = quiet_stays b i j ne there i (b'.seen i) (ch i) refl h.0 in
        let o = position_stays b i j ne there i (b'.seen i) (ch i) refl in
        (idle_stays b i j ne there i (b'.seen i) (ch i) refl h.0, rw (q, o) h.1)
    says_stays Settled h = h ∙ sym (position_stays b i j ne there i (b'.seen i) (ch i) refl)
    says_stays (Told r) h = told_stays b i j ne there i (b'.seen i) (ch i) refl r h
    says_stays (Remembers r) h =
        let q = quiet_stays b i j ne there i (b'.seen i) (ch i) refl h.0 in
        let o = position_stays b i j ne there i (b'.seen i) (ch i) refl in
        (idle_stays b i j ne there i (b'.seen i) (ch i) refl h.0, rw (q, o) h.1)
    says_stays (Refused r) h = refused r h
    says_stays (Collects from) h =
        (idle_stays b i j ne there i (b'.seen i) (ch i) refl h.0, rw (mail_idle_stays b i j ne there i (b'.seen i) (ch i) refl h.0) (told_stays b i j ne there i (b'.seen i) (ch i) refl _ h.1))
    says_stays (HoldsThread t) h = lk.owner t h
    says_stays HoldsTable h = lk.table h
    says_stays HoldsReady h = lk.ready h
    says_stays (SendsItself c) h = h
    says_stays (Differs id) h = rw (version_stays b i j ne there i (b'.seen i) (ch i) refl) h
    says_stays (Apart t) h = h
    says_stays (Accepting c) h = (lk.owner c.to.number h.0, fits_stays b i j ne there c.to.number (b'.seen c.to.number) (ch c.to.number) c h.0 h.1)
    says_stays (Mailed c) h = (lk.owner c.to.number h.0, mail_stays b i j ne there c.to.number (b'.seen c.to.number) (ch c.to.number) h.0 ∙ h.1)
    says_stays (Passing c) h =
        let t = c.to.number in
        (lk.owner t h.0, opens_stays b i j ne there t (b'.seen t) (ch t) h.0 h.1, mail_stays b i j ne there t (b'.seen t) (ch t) h.0 ∙ h.2, told_held_stays b i j ne there t (b'.seen t) (ch t) _ h.0 h.1 h.3, present_stays b i j ne there t (b'.seen t) (ch t) c.to h.0 h.4)
    says_stays (Busy c) h =
        let t = c.to.number in
        (lk.owner t h.0, present_stays b i j ne there t (b'.seen t) (ch t) c.to h.0 h.1, busy_stays b i j ne there t (b'.seen t) (ch t) c h.0 h.3 h.4 h.5 h.2, h.3, h.4, idle_stays b i j ne there i (b'.seen i) (ch i) refl h.5)
    says_stays (Loaded t w) h = (lk.owner t h.0, h.1, loaded_stays b i j ne there t (b'.seen t) (ch t) w h.0 h.1 h.2)
    says_stays (Fitting c w) h = h
    says_stays (Plainly c) h = h
    says_stays (Itself c) h = h
    says_stays (NotZero c) h = h
    says_stays (Picking c) h = h
    says_stays (Closed c from) h = h
    says_stays (Reaches c e) h = (h.0, lk.owner i h.1, ap (entry_of (number_of e)) (lk.queue i h.1) ∙ h.2, h.3, rw (lk.queue i h.1) (none_waits c (before (number_of e) (b.queue i)) h.0 h.1 h.4))
    says_stays (Exhausts c) h = (h.0, lk.owner i h.1, rw (lk.queue i h.1) (none_waits c (b.queue i) h.0 h.1 h.2))
    says_stays (Sends c e w) h = h
    says_stays (Taken c e) h = (h.0, lk.owner i h.1, ap (entry_of (number_of e)) (lk.queue i h.1) ∙ h.2, quits_stays b i j ne there (number_of e) (b'.seen (number_of e)) (ch (number_of e)) c.caller e (ap b.owner h.0 ∙ h.1) h.3)
    says_stays (Chosen id) h = (lk.table h.0, ap lowest_free (lk.numbers h.0) ∙ h.1, h.2 ∙ ap (λ (n : ThreadNumbers). version_at n id.number + 1) (sym (lk.numbers h.0)))
    says_stays (Unmade id) h = (lk.table h.0, dead_stays b i j ne there id.number (b'.seen id.number) (ch id.number) h.0 (ap (λ (w : StateWord). is_dead w) h.1) ∙ h.1)
    says_stays (Vacant id) h = (lk.table h.0, ap (λ (y : Context). y.at) (ct id.number h.0 (inl h.1)) ∙ h.1)
    says_stays (Arriving c id) h = (lk.table h.0, ct id.number h.0 (inr (ap (λ (y : Context). y.at) h.1)) ∙ h.1)
    says_stays (Present id) h = (lk.table h.0, living_stays b i j ne there id.number (b'.seen id.number) (ch id.number) id h.0 h.1)
    says_stays (DestroysItself c) h = h
    says_stays (Shows id w) h = h
    says_stays (Gone id) h =
        let same = dead_stays b i j ne there id.number (b'.seen id.number) (ch id.number) h.0 h.1 in
        (lk.table h.0, ap (λ (w : StateWord). is_dead w) same ∙ h.1, ap (λ (w : StateWord). w.version) same ∙ h.2)
    says_stays (Row to) h = (lk.table h.0, lk.owner to.number h.1, rw (lk.queue to.number h.1) (all_wait to (b.queue to.number) h.1 h.0 h.2))
    says_stays (Rest to) h = (lk.table h.0, lk.owner to.number h.1, rw (lk.queue to.number h.1) (all_wait to (rest (b.queue to.number)) h.1 h.0 h.2))
    says_stays (Emptied to) h = (lk.owner to.number h.0, lk.queue to.number h.0 ∙ h.1)
    says_stays (Front to sender) h = (lk.owner to.number h.0, ap first_number (lk.queue to.number h.0) ∙ h.1)
    says_stays (Waiting to sender w) h = (lk.owner to.number h.0, rw (lk.queue to.number h.0) h.1)
    says_stays (Visited c t) h = h
    says_stays (Receives id t w) h = (lk.table h.0, h.1, h.2 ∙ sym (version_held_stays b i j ne there t (b'.seen t) (ch t) h.0))
    says_stays (Deaf id t) h =
        (lk.table h.0, lk.owner t h.1, ap (λ (w : StateWord). is_dead w) (dead_stays b i j ne there id.number (b'.seen id.number) (ch id.number) h.0 h.2) ∙ h.2, deaf_stays b i j ne there t (b'.seen t) (ch t) id h.1 h.2 h.3)
    says_stays Never h = h

    pub all_stay : (fs : List Fact) → AllSay g b i x fs → AllSay g b' i x fs
    all_stay [] h = tt
    all_stay (f ∷ fs) h = (says_stays f h.0, all_stay fs h.1)
