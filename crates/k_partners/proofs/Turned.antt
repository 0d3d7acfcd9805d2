-- What a turn makes of who receives from whom, of who is there, and of the contexts of others.
use Rattle.std.proofs.Common.{[], ◌≡◌, ◌≢◌, ℕ, Bool, true, false, refl, sym, ap, ◌∙◌, subst, arith, Option, Some, inl, inr}
use Rattle.k_ids.specs.declared.threads.ThreadId.{ThreadId}
use Rattle.k_ids.specs.declared.state_word.State.TheVariants as state
use Rattle.k_ids.specs.declared.state_word.StateWord.{StateWord}
use Rattle.k_model.proofs.Maps.{upd_same, upd_other}
use Rattle.k_locks.specs.declared.points.Point.{Point}
use Rattle.k_locks.specs.Asks.{Ask, Response}
use Rattle.k_locks.specs.Asks as asks
use Rattle.k_locks.specs.Shown.{is_dead, is_present_in}
use Rattle.k_locks.specs.Threads.{runs}
use Rattle.k_script.specs.Plays.{Position}
use Rattle.k_ipc.specs.SendTable as send
use Rattle.k_ipc.specs.declared.receive.ReceiveCall.{ReceiveCall}
use Rattle.k_ipc.specs.declared.receive.ReceiveLocked.{ReceiveLocked}
use Rattle.k_ipc.specs.declared.receive.ReceiveLocked.TheVariants as receive_locked
use Rattle.k_ipc.specs.declared.receive.ReceiveRelease.TheVariants as returns
use Rattle.k_ipc.specs.ReceiveTable.{ReceiveAt}
use Rattle.k_ipc.specs.ReceiveTable as receive
use Rattle.k_threads.specs.declared.create.CreateCall.{CreateCall}
use Rattle.k_threads.specs.declared.create.CreateLocked.TheVariants as create_locked
use Rattle.k_threads.specs.CreateTable.{CreateAt}
use Rattle.k_threads.specs.CreateTable as create
use Rattle.k_threads.specs.declared.destroy.DestroyCall.{DestroyCall}
use Rattle.k_threads.specs.declared.destroy.DestroyLocked.TheVariants as destroy_locked
use Rattle.k_threads.specs.DestroyTable.{DestroyAt}
use Rattle.k_threads.specs.DestroyTable as destroy
use Rattle.k_threads.specs.Words.{dead_word}
use Rattle.k_caller.specs.Waits as alone
use Rattle.k_board.specs.Words.{Programs, Seen, noted}
use Rattle.k_board.specs.Boards.{At, InCreate, InDestroy, InReceive, InSend, Context, Board, hand_of, id_at}
use Rattle.k_board.specs.Facts.{AllSay}
use Rattle.k_board.specs.Places.{PlacesHold, facts_create, facts_destroy, facts_of, facts_receive}
use Rattle.k_board.specs.Moves.{Change, same, calls, settles, passes, delivers, takes, joins}
use Rattle.k_board.specs.Moves.{frees_sender, frees_receiver, kills, makes, leaves, posts}
use Rattle.k_board.specs.Steps.{Answers, create_board, create_context, create_contexts, destroy_board}
use Rattle.k_board.specs.Steps.{destroy_context, destroy_contexts, destroy_number, receive_at}
use Rattle.k_board.specs.Steps.{receive_board, receive_context, send_board, send_context, wrote}
use Rattle.k_board.specs.Turns.{Turn, sends, receives, creates, destroys, goes_alone, begins}
use Rattle.k_board.specs.Turns.{turns_to_work, wakes, switches, begins_switch, ends_switch}
use Rattle.k_board.proofs.Cases.{if_cases}
use Rattle.k_good.specs.Outward.{SendsOutward}
use Rattle.k_good.proofs.Words.{IsWritten, word_after}
use Rattle.k_partners.specs.Partners.{IsThere, Looks, ReceivesFrom}
use Rattle.k_partners.proofs.Came.{Begins, Exchanged, Stays, alone_exchanged, create_exchanged}
use Rattle.k_partners.proofs.Came.{destroy_exchanged, receive_exchanged, send_exchanged, waited}

-- the version of a thread that receives from one
pub version_stays : (b : Board) (i t : ℕ) (v : Seen) (from : ThreadId) → Change b i t v →
    v.word.state ≡ state.Receiving (Some from) → v.word.version ≡ (b.seen t).word.version
version_stays b i _ _ from (same t) q = refl
version_stays b i _ _ from (calls w r p run goes) q = goes.version
version_stays b i _ _ from (settles v o ver al al2 ns us) q = ver
version_stays b i _ _ from (passes t r o op none) q = refl
version_stays b i _ _ from (delivers t f o op told) q = refl
version_stays b i _ _ from (takes t to o nj st none) q = refl
version_stays b i _ _ from (joins t to o nj hr st) q = refl
version_stays b i _ _ from (frees_sender t to joined o tb dd st none) q = refl
version_stays b i _ _ from (frees_receiver t f o tb dd st none) q = refl
version_stays b i _ _ from (kills t o tb nk al) q = refl
version_stays b i _ _ from (makes t w p tb d nw rn ver) q = absurd (runs_not w.state rn q)
  where
    runs_not : (s : _) → runs s ≡ true → s ≡ state.Receiving (Some from) → ⊥
    runs_not s rn q = grind arith
version_stays b i _ _ from (leaves wt) q = refl
version_stays b i _ _ from (posts t m o op) q = refl

-- both, for a number's word before and after
abbrev Both : Board → ℕ → At → ℕ → StateWord → Type 0
Both b i next t w = Begins b i next t (b.seen t).word w × Stays next t (b.seen t).word w

unchanged : (b : Board) (i : ℕ) (next : At) (t : ℕ) (w : StateWord) → w ≡ (b.seen t).word → Both b i next t w
unchanged b i next t w e = subst (λ (u : StateWord). Both b i next t u) (sym e) (λ from q. waited q, λ id at p. inl p)

written : (b : Board) (i : ℕ) (next : At) (a : Ask) (r : Response) (t : ℕ) (w : StateWord) →
    (r ≡ asks.Won → Exchanged b i next a) → IsWritten b a r t w → Both b i next t w
written b i next a r t w h k =
    subst (λ (old : StateWord). Begins b i next t old w × Stays next t old w) (sym k.was)
    (subst (λ (q : Ask). Exchanged b i next q) k.asked (h k.won) k.was)

by_exchange : (g : Programs) (b : Board) (i : ℕ) (next : At) (at : Position) (p : Option Point) (a : Ask) (r : Response) →
    Answers b a r → (r ≡ asks.Won → Exchanged b i next a) → (t : ℕ) → Both b i next t (wrote (noted g b.seen at p) a r t).word
by_exchange g b i next at p a r an h t = elim (word_after g b at p a r an t) [
  | inl e ↦ unchanged b i next t _ e
  | inr k ↦ written b i next a r t _ h k
]

dead_only : (w : StateWord) (version : ℕ) → w ≡ dead_word version → is_dead w ≡ true
dead_only w version e = ap is_dead e

pub true_not : {a : Bool} → a ≡ true → a ≡ false → ⊥
true_not t f = cc

module _ (g : Programs) (b : Board) (i : ℕ) (f : PlacesHold g b) where
  facts_at : (p : At) → (b.context i).at ≡ p → AllSay g b i (b.context i) (facts_of p)
  facts_at p at = subst (λ (q : At). AllSay g b i (b.context i) (facts_of q)) at (f i)

  pub turn_came : SendsOutward b.seen → (b' : Board) → Turn g b i b' → (t : ℕ) → Both b i (b'.context i).at t (b'.seen t).word
  turn_came out _ (sends c p r at an) t =
      let x = send_context (b.context i) c p r (hand_of b (b.queue c.to.number)) in
      subst (λ (y : Context). Both b i y.at t ((send_board g b i (b.context i) c p r).seen t).word) (sym (upd_same b.context i x))
      (by_exchange g b i x.at (b.context i).position (send.points c (b.seen i).word (hand_of b (b.queue c.to.number)) p r)
      (send.ask_of c (b.context i).own p) r an (λ won. send_exchanged g b i (b.context i) x.at c p
      (facts_at (InSend c p) at)) t)
  turn_came out _ (receives c p r at an) t =
      let x = receive_context (b.context i) c p r (hand_of b (b.queue i)) in
      subst (λ (y : Context). Both b i y.at t ((receive_board g b i (b.context i) c p r).seen t).word)
      (sym (upd_same b.context i x))
      (by_exchange g b i x.at (b.context i).position (receive.points c (b.seen i).word (hand_of b (b.queue i)) p r)
      (receive.ask_of c (b.context i).own p) r an (λ won.
      subst (λ (q : Response). Exchanged b i (receive_context (b.context i) c p q (hand_of b (b.queue i))).at
      (receive.ask_of c (b.context i).own p)) (sym won) (receive_exchanged g b i (b.context i) out (hand_of b (b.queue i)) c p
      (facts_at (InReceive c p) at))) t)
  turn_came out _ (creates c p r at an) t =
      let x = create_context (b.context i) c p r (hand_of b []) in
      subst (λ (y : Context). Both b i y.at t ((create_board g b i (b.context i) c p r).seen t).word)
      (sym (upd_same (create_contexts g c p r b.context) i x))
      (by_exchange g b i x.at (b.context i).position (create.points c (b.seen i).word (hand_of b []) p r)
      (create.ask_of c (b.context i).own p) r an (λ won. create_exchanged g b i (b.context i) x.at c p) t)
  turn_came out _ (destroys c p r at an) t =
      let x = destroy_context (b.context i) c p r (hand_of b (b.queue (destroy_number c p))) in
      subst (λ (y : Context). Both b i y.at t ((destroy_board g b i (b.context i) c p r).seen t).word)
      (sym (upd_same (destroy_contexts c p r b.context) i x))
      (by_exchange g b i x.at (b.context i).position (destroy.points c (b.seen i).word
      (hand_of b (b.queue (destroy_number c p))) p r) (destroy.ask_of c (b.context i).own p) r an
      (λ won. subst (λ (q : Response). Exchanged b i (destroy_context (b.context i) c p q
      (hand_of b (b.queue (destroy_number c p)))).at (destroy.ask_of c (b.context i).own p)) (sym won)
      (destroy_exchanged g b i (b.context i) (hand_of b (b.queue (destroy_number c p))) c p (facts_at (InDestroy c p) at))) t)
  turn_came out b' (goes_alone p r at can an) t =
      by_exchange g b i (b'.context i).at (b.context i).position (alone.points (id_at b i) p r)
      (alone.ask_of (id_at b i) (b.context i).own p) r an (λ won.
      alone_exchanged g b i (b.context i) (b'.context i).at (id_at b i) p) t
  turn_came out b' (begins l q at e) t = unchanged b i _ t _ refl
  turn_came out b' (turns_to_work l count at e) t = unchanged b i _ t _ refl
  turn_came out b' (wakes at) t = unchanged b i _ t _ refl
  turn_came out b' (switches c p r at going an) t = unchanged b i _ t _ refl
  turn_came out b' (begins_switch c at) t = unchanged b i _ t _ refl
  turn_came out b' (ends_switch c q at) t = unchanged b i _ t _ refl

  -- a step of another leaves the context of a thread that is there
  module _ (t : ℕ) (alive : is_dead (b.seen t).word ≡ false) where
    create_stays : (c : CreateCall) (p : CreateAt) (r : Response) → AllSay g b i (b.context i) (facts_create c p) →
        create_contexts g c p r b.context t ≡ b.context t
    create_stays c (create.Locked (create_locked.PlaceContext id)) asks.Placed h =
        upd_other b.context id.number _ t (λ e. true_not (ap (λ (n : ℕ). is_dead (b.seen n).word) e
        ∙ dead_only _ _ h.1.1.1.1.1.1.0.1) alive)
    create_stays c (create.Locked (create_locked.CommitCreate id)) asks.Won h =
        upd_other b.context id.number _ t (λ e. true_not (ap (λ (n : ℕ). is_dead (b.seen n).word) e
        ∙ dead_only _ _ h.1.1.1.1.1.1.0.1) alive)
    create_stays c p r h = refl

    destroy_stays : (c : DestroyCall) (p : DestroyAt) (r : Response) → AllSay g b i (b.context i) (facts_destroy c p) →
        destroy_contexts c p r b.context t ≡ b.context t
    destroy_stays c (destroy.Locked destroy_locked.RemoveContext) asks.Removed h =
        upd_other b.context c.who.number _ t (λ e. true_not (ap (λ (n : ℕ). is_dead (b.seen n).word) e ∙ h.0.1) alive)
    destroy_stays c p r h = refl

    pub context_stays : (b' : Board) → Turn g b i b' → t ≢ i → b'.context t ≡ b.context t
    context_stays _ (sends c p r at an) ne = upd_other b.context i _ t ne
    context_stays _ (receives c p r at an) ne = upd_other b.context i _ t ne
    context_stays _ (creates c p r at an) ne =
        upd_other (create_contexts g c p r b.context) i _ t ne ∙ create_stays c p r (facts_at (InCreate c p) at)
    context_stays _ (destroys c p r at an) ne =
        upd_other (destroy_contexts c p r b.context) i _ t ne ∙ destroy_stays c p r (facts_at (InDestroy c p) at)
    context_stays _ (goes_alone p r at can an) ne = upd_other b.context i _ t ne
    context_stays _ (begins l q at e) ne = upd_other b.context i _ t ne
    context_stays _ (turns_to_work l count at e) ne = upd_other b.context i _ t ne
    context_stays _ (wakes at) ne = upd_other b.context i _ t ne
    context_stays _ (switches c p r at going an) ne = upd_other b.context i _ t ne
    context_stays _ (begins_switch c at) ne = upd_other b.context i _ t ne
    context_stays _ (ends_switch c q at) ne = upd_other b.context i _ t ne

  -- who found that the other isn't there waits no more after its next step
  found_gone : (c : ReceiveCall) (id from : ThreadId) (r : Response) →
      Answers b (receive.ask_of c (b.context i).own (receive.Locked (receive_locked.CommitGone id))) r →
      AllSay g b i (b.context i) (facts_receive c (receive.Locked (receive_locked.CommitGone id))) →
      ReceivesFrom (receive_board g b i (b.context i) c (receive.Locked (receive_locked.CommitGone id)) r) i from → ⊥
  found_gone c id from asks.Won an h q =
      ends (sym (ap (λ (u : Seen). u.word.state)
      (ap (λ (n : ℕ). (receive_board g b i (b.context i) c (receive.Locked (receive_locked.CommitGone id)) asks.Won).seen n)
      (sym h.0.0) ∙ upd_same _ c.caller.number _)) ∙ q)
    where
      ends : {s : _} → state.Run s ≡ state.Receiving (Some from) → ⊥
      ends e = cc
  found_gone c id from (asks.Lost w) an h q = an.1 (sym an.0 ∙ ap (λ (n : ℕ). (b.seen n).word) h.0.0 ∙ h.1.1.1.0.1)
  found_gone c id from r an h q = absurd an

  -- A receive that looks for one that isn't there goes on to end for that, and then waits no more.
  module _ (from : ThreadId) (gone : IsThere b from → ⊥) where
    receive_looks : (c : ReceiveCall) (p : ReceiveAt) (r : Response) → Answers b (receive.ask_of c (b.context i).own p) r →
        AllSay g b i (b.context i) (facts_receive c p) → Looks from (InReceive c p) →
        ReceivesFrom (receive_board g b i (b.context i) c p r) i from →
        Looks from (receive_at c (receive.leads c (hand_of b (b.queue i)) p r))
    receive_looks c (receive.Locked (receive_locked.LoadPartner id)) (asks.Word w) an h l q =
        if_cases (λ (p : ReceiveLocked). Looks from (InReceive c (receive.Locked p))) (is_present_in w id)
        (receive_locked.Release returns.Waits) (receive_locked.CommitGone id)
        (λ e. absurd (gone (subst (IsThere b) l (ap (λ (u : StateWord). is_present_in u id) an ∙ e)))) (λ e. l)
    receive_looks c (receive.Locked (receive_locked.CommitGone id)) r an h l q = absurd (found_gone c id from r an h q)
    receive_looks c (receive.Locked receive_locked.LoadOwn) r an h l q = absurd l
    receive_looks c (receive.Locked (receive_locked.LoadSender e)) r an h l q = absurd l
    receive_looks c (receive.Locked (receive_locked.FreeSender e w)) r an h l q = absurd l
    receive_looks c (receive.Locked (receive_locked.AcquireReady e)) r an h l q = absurd l
    receive_looks c (receive.Locked receive_locked.CommitWait) r an h l q = absurd l
    receive_looks c (receive.Locked receive_locked.LoadPicking) r an h l q = absurd l
    receive_looks c (receive.Locked (receive_locked.LoadNext e)) r an h l q = absurd l
    receive_looks c (receive.Locked (receive_locked.FreeNext e w)) r an h l q = absurd l
    receive_looks c (receive.Locked (receive_locked.EndPick e w)) r an h l q = absurd l
    receive_looks c (receive.Locked receive_locked.SettlePick) r an h l q = absurd l
    receive_looks c (receive.Locked (receive_locked.Release k)) r an h l q = absurd l
    receive_looks c (receive.Outside p) r an h l q = absurd l
    receive_looks c (receive.Pushing p) r an h l q = absurd l
    receive_looks c p r an h l q = absurd an

    none_at : (p q : At) → p ≡ q → (Looks from q → ⊥) → Looks from p → ⊥
    none_at p q e n l = n (subst (Looks from) e l)

    pub turn_looks : (b' : Board) → Turn g b i b' → Looks from (b.context i).at → ReceivesFrom b' i from →
        Looks from (b'.context i).at
    turn_looks _ (receives c p r at an) l q =
        subst (λ (y : Context). Looks from y.at) (sym (upd_same b.context i _))
        (receive_looks c p r an (facts_at (InReceive c p) at) (subst (Looks from) at l) q)
    turn_looks _ (sends c p r at an) l q = absurd (none_at _ _ at (λ k. k) l)
    turn_looks _ (creates c p r at an) l q = absurd (none_at _ _ at (λ k. k) l)
    turn_looks _ (destroys c p r at an) l q = absurd (none_at _ _ at (λ k. k) l)
    turn_looks _ (goes_alone p r at can an) l q = absurd (none_at _ _ at (λ k. k) l)
    turn_looks _ (begins m f at e) l q = absurd (none_at _ _ at (λ k. k) l)
    turn_looks _ (turns_to_work m count at e) l q = absurd (none_at _ _ at (λ k. k) l)
    turn_looks _ (wakes at) l q = absurd (none_at _ _ at (λ k. k) l)
    turn_looks _ (switches c p r at going an) l q = absurd (none_at _ _ at (λ k. k) l)
    turn_looks _ (begins_switch c at) l q = absurd (none_at _ _ at (λ k. k) l)
    turn_looks _ (ends_switch c s at) l q = absurd (none_at _ _ at (λ k. k) l)

-- ITS NEXT TWO STEPS

call_is : {c d : ReceiveCall} {p q : ReceiveAt} → InReceive c p ≡ InReceive d q → c ≡ d
call_is e = cc

place_is : {c d : ReceiveCall} {p q : ReceiveAt} → InReceive c p ≡ InReceive d q → p ≡ q
place_is e = cc

module _ (g : Programs) (b : Board) (i : ℕ) (c : ReceiveCall) (from : ThreadId) where
  loads_partner : (IsThere b from → ⊥) → (r : Response) →
      Answers b (receive.ask_of c (b.context i).own (receive.Locked (receive_locked.LoadPartner from))) r →
      receive.leads c (hand_of b (b.queue i)) (receive.Locked (receive_locked.LoadPartner from)) r ≡
      receive.Locked (receive_locked.CommitGone from)
  loads_partner gone (asks.Word w) an =
      if_cases (λ (p : ReceiveLocked). receive.Locked p ≡ receive.Locked (receive_locked.CommitGone from)) (is_present_in w from)
      (receive_locked.Release returns.Waits) (receive_locked.CommitGone from)
      (λ e. absurd (gone (ap (λ (u : StateWord). is_present_in u from) an ∙ e))) (λ e. refl)
  loads_partner gone r an = absurd an

  looked : (IsThere b from → ⊥) → (d : ReceiveCall) (p : ReceiveAt) (r : Response) → d ≡ c →
      p ≡ receive.Locked (receive_locked.LoadPartner from) → Answers b (receive.ask_of d (b.context i).own p) r →
      (receive_context (b.context i) d p r (hand_of b (b.queue i))).at ≡
      InReceive c (receive.Locked (receive_locked.CommitGone from))
  looked gone d p r ed ep an =
      let here : Answers b (receive.ask_of c (b.context i).own (receive.Locked (receive_locked.LoadPartner from))) r =
      subst (λ (x : ReceiveCall). Answers b (receive.ask_of x (b.context i).own
      (receive.Locked (receive_locked.LoadPartner from))) r) ed
      (subst (λ (x : ReceiveAt). Answers b (receive.ask_of d (b.context i).own x) r) ep an) in
      ap (λ (x : ReceiveCall). (receive_context (b.context i) x p r (hand_of b (b.queue i))).at) ed
      ∙ (ap (λ (x : ReceiveAt). (receive_context (b.context i) c x r (hand_of b (b.queue i))).at) ep
      ∙ ap (receive_at c) (loads_partner gone r here))

  pub turn_looked : (b' : Board) → Turn g b i b' → (IsThere b from → ⊥) →
      (b.context i).at ≡ InReceive c (receive.Locked (receive_locked.LoadPartner from)) →
      (b'.context i).at ≡ InReceive c (receive.Locked (receive_locked.CommitGone from))
  turn_looked _ (receives d p r at an) gone st =
      ap (λ (y : Context). y.at) (upd_same b.context i _) ∙ looked gone d p r (call_is (sym at ∙ st)) (place_is (sym at ∙ st)) an
  turn_looked _ (sends d p r at an) gone st = absurd cc
  turn_looked _ (creates d p r at an) gone st = absurd cc
  turn_looked _ (destroys d p r at an) gone st = absurd cc
  turn_looked _ (goes_alone p r at can an) gone st = absurd cc
  turn_looked _ (begins m q at e) gone st = absurd cc
  turn_looked _ (turns_to_work m count at e) gone st = absurd cc
  turn_looked _ (wakes at) gone st = absurd cc
  turn_looked _ (switches d p r at going an) gone st = absurd cc
  turn_looked _ (begins_switch d at) gone st = absurd cc
  turn_looked _ (ends_switch d s at) gone st = absurd cc

  ended : PlacesHold g b → (d : ReceiveCall) (p : ReceiveAt) (r : Response) (other : ThreadId) →
      (b.context i).at ≡ InReceive d p → p ≡ receive.Locked (receive_locked.CommitGone from) →
      Answers b (receive.ask_of d (b.context i).own p) r → ReceivesFrom (receive_board g b i (b.context i) d p r) i other → ⊥
  ended f d p r other at ep an q =
      found_gone g b i f d from other r (subst (λ (x : ReceiveAt). Answers b (receive.ask_of d (b.context i).own x) r) ep an)
      (subst (λ (x : At). AllSay g b i (b.context i) (facts_of x)) (at ∙ ap (InReceive d) ep) (f i))
      (subst (λ (x : ReceiveAt). ReceivesFrom (receive_board g b i (b.context i) d x r) i other) ep q)

  pub turn_ended : PlacesHold g b → (b' : Board) → Turn g b i b' →
      (b.context i).at ≡ InReceive c (receive.Locked (receive_locked.CommitGone from)) → (other : ThreadId) →
      ReceivesFrom b' i other → ⊥
  turn_ended f _ (receives d p r at an) st other q = ended f d p r other at (place_is (sym at ∙ st)) an q
  turn_ended f _ (sends d p r at an) st other q = absurd cc
  turn_ended f _ (creates d p r at an) st other q = absurd cc
  turn_ended f _ (destroys d p r at an) st other q = absurd cc
  turn_ended f _ (goes_alone p r at can an) st other q = absurd cc
  turn_ended f _ (begins m k at e) st other q = absurd cc
  turn_ended f _ (turns_to_work m count at e) st other q = absurd cc
  turn_ended f _ (wakes at) st other q = absurd cc
  turn_ended f _ (switches d p r at going an) st other q = absurd cc
  turn_ended f _ (begins_switch d at) st other q = absurd cc
  turn_ended f _ (ends_switch d s at) st other q = absurd cc
