-- Who counts as running although its word is open.
use Rattle.std.proofs.Common.{◌≡◌, ℕ, Bool, true, false, refl, sym, ap, ◌∙◌, subst}
use Rattle.std.proofs.Common.{List, ◌∷◌, Option, Some, None, arith, inl, inr, ◌&&◌}
use Rattle.std.proofs.lemmas.Bool.Decides.{eqb_tells}
use Rattle.std.proofs.lemmas.Bool.{ne_eqb}
use Rattle.k_ids.specs.declared.threads.ThreadId.{ThreadId}
use Rattle.k_ids.specs.declared.state_word.State.{State}
use Rattle.k_ids.specs.declared.state_word.State.TheVariants as state
use Rattle.k_ids.specs.declared.state_word.StateWord.{StateWord}
use Rattle.k_model.specs.Maps.{upd}
use Rattle.k_model.specs.State.{KernelState}
use Rattle.k_model.specs.State.{is_dead as is_dead_status}
use Rattle.k_model.specs.Answered.{IsAnswered}
use Rattle.k_model.specs.Answered.{is_waiting as is_waiting_status}
use Rattle.k_model.proofs.Maps.{upd_same, upd_other}
use Rattle.k_locks.specs.Shown.{is_dead_state, shows}
use Rattle.k_ipc.specs.declared.send.Manner.{Manner}
use Rattle.k_ipc.specs.declared.send.Manner.TheVariants as manner
use Rattle.k_ipc.specs.declared.send.SendCall.{SendCall}
use Rattle.k_ipc.specs.declared.send.SendLocked.TheVariants.{WakeReceiver, ReloadReceiver}
use Rattle.k_ipc.specs.declared.receive.ReceiveLocked.TheVariants as locked
use Rattle.k_caller.specs.Waits.{is_waiting}
use Rattle.k_ipc.specs.SendTable.{Locked}
use Rattle.k_ipc.specs.ReceiveTable as receive
use Rattle.k_board.specs.Words.{Programs}
use Rattle.k_board.specs.Boards.{Board, Context, At, InSend, InReceive}
use Rattle.k_board.specs.Facts.{Fact, Says, AllSay, Apart, Passing, is_open}
use Rattle.k_board.specs.Places.{PlacesHold, facts_of, sender}
use Rattle.k_board.specs.Turns.{excepts, excepted_by, is_number}
use Rattle.k_points.specs.Shown.{Line, Tells, shown, status_by}

pub dead_shows : (s : State) → is_dead_status (shows s) ≡ is_dead_state s
dead_shows state.Dead = refl
dead_shows (state.Run r) = refl
dead_shows (state.Sending to joined) = refl
dead_shows (state.Receiving from) = refl
dead_shows state.Picking = refl
dead_shows state.Ended = refl

pub and_false : (a : Bool) → (a && false) ≡ false
and_false true = refl
and_false false = refl

-- A number shows that it is dead, whoever is excepted.
pub dead_by : (e : Bool) (s : State) → is_dead_status (status_by e s) ≡ is_dead_state s
dead_by true state.Dead = refl
dead_by true (state.Run r) = refl
dead_by true (state.Sending to joined) = refl
dead_by true (state.Receiving from) = refl
dead_by true state.Picking = refl
dead_by true state.Ended = refl
dead_by false s = dead_shows s

-- a word that isn't open shows its status
pub closed_status : (e : Bool) (s : State) → is_open s ≡ false → status_by e s ≡ shows s
closed_status e s h = rw (h, and_false e) refl

pub passing_of : (g : Programs) (b : Board) (j : ℕ) (x : Context) (m : Manner) (me : ThreadId) (c : SendCall) (fs : List Fact) →
    AllSay g b j x (sender m me (Apart c.to.number ∷ Passing c ∷ fs)) → Says g b j x (Passing c)
passing_of g b j x manner.Plain me c fs h = h.1.1.1.1.1.1.0
passing_of g b j x manner.Joined me c fs h = h.1.1.1.1.1.1.0
passing_of g b j x manner.Reply me c fs h = h.1.1.1.1.1.0

some_same : (a c : ℕ) → Some a ≡ Some c → a ≡ c
some_same a c q = cc

excepts_open : (g : Programs) (b : Board) (j : ℕ) (x : Context) (a : At) → AllSay g b j x (facts_of a) → (n : ℕ) →
    excepts a ≡ Some n → is_open (b.seen n).word.state ≡ true
excepts_open g b j x (InSend c (Locked (WakeReceiver w))) h n q =
    subst (λ (m : ℕ). is_open (b.seen m).word.state ≡ true) (some_same _ n q) (passing_of g b j x c.manner c.caller c _ h).1
excepts_open g b j x (InSend c (Locked ReloadReceiver)) h n q =
    subst (λ (m : ℕ). is_open (b.seen m).word.state ≡ true) (some_same _ n q) (passing_of g b j x c.manner c.caller c _ h).1
excepts_open g b j x (InReceive c (receive.Locked (locked.CommitGone from))) h n q =
    subst (λ (m : ℕ). is_open (b.seen m).word.state ≡ true) (sym h.0.0 ∙ some_same _ n q)
    (let own = h.1.1.1.0 in ap (λ (u : StateWord). is_open u.state) own.1 ∙ ap is_open own.2 ∙ own.4)
excepts_open g b j x (InReceive c (receive.Locked (locked.EndPick e w))) h n q =
    subst (λ (m : ℕ). is_open (b.seen m).word.state ≡ true) (sym h.1.0.0 ∙ some_same _ n q)
    (let own = h.1.1.1.1.0 in ap (λ (u : StateWord). is_open u.state) own.1 ∙ ap is_open own.2 ∙ own.4)
excepts_open g b j x a h n q = absurd cc

pub unexcepted : (g : Programs) (b : Board) → PlacesHold g b → (n : ℕ) → is_open (b.seen n).word.state ≡ false →
    excepted_by (b.owner n) b.context n ≡ false
unexcepted g b ok n closed = go (b.owner n)
  where
    of : (j : ℕ) (o : Option ℕ) → excepts (b.context j).at ≡ o → is_number o n ≡ false
    of j None e = refl
    of j (Some m) e =
        ne_eqb m n (λ q. let o = excepts_open g b j (b.context j) (b.context j).at (ok j) m e in absurd (grind arith))

    go : (o : Option ℕ) → excepted_by o b.context n ≡ false
    go None = refl
    go (Some j) = of j (excepts (b.context j).at) refl

-- The context's own step leaves who is excepted, where its places agree on that.
pub excepted_same : (o : Option ℕ) (contexts : ℕ → Context) (i : ℕ) (x : Context) (n : ℕ) →
    is_number (excepts x.at) n ≡ is_number (excepts (contexts i).at) n →
    excepted_by o (upd contexts i x) n ≡ excepted_by o contexts n
excepted_same None contexts i x n h = refl
excepted_same (Some j) contexts i x n h =
    elim (eqb_tells j i) [
      | inl e ↦
          ap (λ (y : Context). is_number (excepts y.at) n) (ap (λ (m : ℕ). upd contexts i x m) e.1 ∙ upd_same contexts i x) ∙ h
          ∙ ap (λ (m : ℕ). is_number (excepts (contexts m).at) n) (sym e.1)
      | inr e ↦ ap (λ (y : Context). is_number (excepts y.at) n) (upd_other contexts i x j e.1)
    ]

-- who waits has no reply yet
pub unanswered_by : (k : KernelState) (f : ℕ → Line) → Tells k f → IsAnswered k → (n : ℕ) →
    is_waiting_status (f n).status ≡ true → (f n).told ≡ None
unanswered_by k f t a n w =
    ap (λ (l : Line). l.told) (sym (t n)) ∙ a.unanswered n (ap (λ (l : Line). is_waiting_status l.status) (t n) ∙ w)

-- Who is excepted depends on where the contexts stand alone.
pub excepted_alike : (o : Option ℕ) (contexts moved : ℕ → Context) (n : ℕ) →
    ((j : ℕ) → is_number (excepts (moved j).at) n ≡ is_number (excepts (contexts j).at) n) →
    excepted_by o moved n ≡ excepted_by o contexts n
excepted_alike None contexts moved n h = refl
excepted_alike (Some j) contexts moved n h = h j

-- a status that waits is that of a word that waits
waiting_status : (s : State) → is_waiting s ≡ true → is_waiting_status (shows s) ≡ true
waiting_status state.Dead h = absurd (grind arith)
waiting_status (state.Run r) h = absurd (grind arith)
waiting_status (state.Sending to joined) h = refl
waiting_status (state.Receiving from) h = refl
waiting_status state.Picking h = refl
waiting_status state.Ended h = absurd (grind arith)

-- a call that waits has no reply yet, as each legal history has it
pub waits_unanswered : (b : Board) (k : KernelState) → Tells k (shown b) → IsAnswered k → (t : ℕ) →
    is_waiting (b.seen t).word.state ≡ true → (excepted_by (b.owner t) b.context t && is_open (b.seen t).word.state) ≡ false →
    (b.seen t).told ≡ None
waits_unanswered b k t a n w e = unanswered_by k (shown b) t a n (rw e (waiting_status (b.seen n).word.state w))
