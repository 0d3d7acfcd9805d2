-- The words that a board has, and that its contexts know, have spellings after any turn.
use Rattle.std.proofs.Common.{◌≡◌, ℕ, ◌≤◌, ◌<◌, refl, sym, subst, arith, inl, inr, Option, []}
use Rattle.std.specs.Prelude.{◌^◌}
use Rattle.k_ids.specs.declared.calls.Phase.{Phase}
use Rattle.k_ids.specs.declared.calls.Phase.TheVariants as phase
use Rattle.k_ids.specs.declared.state_word.StateWord.{StateWord}
use Rattle.k_ids.specs.declared.threads.ThreadId.{ThreadId}
use Rattle.k_ids.specs.StateWords.{IsStateWord}
use Rattle.k_model.specs.Maps.{upd}
use Rattle.k_model.proofs.Maps.{upd_cases}
use Rattle.k_locks.specs.declared.points.Point.{Point}
use Rattle.k_locks.specs.declared.steps.Went.{Went}
use Rattle.k_locks.specs.declared.steps.Went.TheVariants as went
use Rattle.k_locks.specs.Asks.{Ask, Response}
use Rattle.k_locks.specs.Asks as asks
use Rattle.k_script.specs.Plays.{IsInRange, Position}
use Rattle.k_ipc.specs.declared.send.SendCall.{SendCall}
use Rattle.k_ipc.specs.declared.send.SendOutside.TheVariants as send_outside
use Rattle.k_ipc.specs.SendTable.{SendAt}
use Rattle.k_ipc.specs.SendTable as send
use Rattle.k_ipc.specs.declared.receive.ReceiveCall.{ReceiveCall}
use Rattle.k_ipc.specs.declared.receive.ReceiveOutside.TheVariants as outside
use Rattle.k_ipc.specs.ReceiveTable.{ReceiveAt}
use Rattle.k_ipc.specs.ReceiveTable as receive
use Rattle.k_threads.specs.declared.create.CreateCall.{CreateCall}
use Rattle.k_threads.specs.declared.create.CreateLocked.TheVariants as create_locked
use Rattle.k_threads.specs.declared.create.CreateOutside.TheVariants as create_outside
use Rattle.k_threads.specs.CreateTable.{CreateAt}
use Rattle.k_threads.specs.CreateTable as create
use Rattle.k_threads.specs.declared.destroy.DestroyCall.{DestroyCall}
use Rattle.k_threads.specs.declared.destroy.DestroyLocked.TheVariants as destroy_locked
use Rattle.k_threads.specs.declared.destroy.DestroyOutside.TheVariants as destroy_outside
use Rattle.k_threads.specs.DestroyTable.{DestroyAt}
use Rattle.k_threads.specs.DestroyTable as destroy
use Rattle.k_caller.specs.Threads.{NamesIn}
use Rattle.k_caller.specs.Waits as alone
use Rattle.k_board.specs.Words.{Programs, Seen, noted}
use Rattle.k_board.specs.Boards.{Alone, Board, Context, InCreate, InDestroy, InReceive, InSend, hand_of}
use Rattle.k_board.specs.Boards.{id_at}
use Rattle.k_board.specs.Facts.{AllSay}
use Rattle.k_board.specs.Places.{PlacesHold, facts_create}
use Rattle.k_board.specs.Steps.{Answers, after, begun_at, create_at, create_contexts, destroy_at}
use Rattle.k_board.specs.Steps.{destroy_contexts}
use Rattle.k_board.specs.Steps.{destroy_number, receive_at, send_at, wrote}
use Rattle.k_board.specs.Turns.{Turn, begins, begins_switch, creates, destroys, ends_switch, goes_alone}
use Rattle.k_board.specs.Turns.{receives}
use Rattle.k_board.specs.Turns.{sends, switches, turns_to_work, wakes}
use Rattle.k_good.specs.Ranges.{IsWithin, NamesFit}
use Rattle.k_good.proofs.Words.{IsWritten, word_after}
use Rattle.k_legal.specs.Waiting.{MessagesHold}
use Rattle.k_turns.specs.Spelled.{IsSpelled}
use Rattle.k_spelled.specs.Words.{KnowsWords, SpelledAt, SpelledDestroy, SpelledReceive, SpelledSend}
use Rattle.k_spelled.specs.Words.{WordsHold}
use Rattle.k_spelled.proofs.Alones.{alone_own}
use Rattle.k_spelled.proofs.Creates.{chosen_in}
use Rattle.k_spelled.proofs.Destroys.{destroy_knows}
use Rattle.k_spelled.proofs.Receives.{receive_knows, receive_own}
use Rattle.k_spelled.proofs.Sends.{send_knows, send_own}
use Rattle.k_spelled.proofs.Spellings.{created_spelled}
use Rattle.k_spelled.proofs.Steps.{facts_at, known_at, spelled_at}

-- WORDS: an exchange that is won writes one

written : (size : ℕ) (b : Board) (a : Ask) (r : Response) (t : ℕ) (w : StateWord) → IsSpelled size a →
    IsWritten b a r t w →
    IsStateWord w
written size b a r t w s i = (subst (λ (q : Ask). IsSpelled size q) i.asked s).1

words_kept : (size : ℕ) (g : Programs) (b : Board) (at : Position) (p : Option Point) (a : Ask)
    (r : Response) → Answers b a r →
    IsSpelled size a → ((t : ℕ) → IsStateWord (b.seen t).word) → (t : ℕ) →
    IsStateWord (wrote (noted g b.seen at p) a r t).word
words_kept size g b at p a r an s h t = elim (word_after g b at p a r an t) [
  | inl e ↦ subst (λ (u : StateWord). IsStateWord u) (sym e) (h t)
  | inr i ↦ written size b a r t _ s i
]

-- LOCATIONS

after_knows : (me : ThreadId) (w : Went) → SpelledAt (after me w)
after_knows me (went.Ends r) = tt
after_knows me went.Waits = tt
after_knows me went.Picks = tt
after_knows me went.CallerDead = tt
after_knows me went.On = tt
after_knows me went.Again = tt
after_knows me (went.Pushed priority) = tt

sent_knows : (c : SendCall) (p : SendAt) → SpelledSend p → SpelledAt (send_at c p)
sent_knows c (send.Outside (send_outside.Ended w)) k = after_knows c.caller w
sent_knows c p k = k

received_knows : (c : ReceiveCall) (p : ReceiveAt) → SpelledReceive p → SpelledAt (receive_at c p)
received_knows c (receive.Outside (outside.Ended w)) k = after_knows c.caller w
received_knows c p k = k

created_knows : (c : CreateCall) (p : CreateAt) → c.priority < 64 → SpelledAt (create_at c p)
created_knows c (create.Outside (create_outside.Ended w)) k = after_knows c.caller w
created_knows c p k = k

destroyed_knows : (c : DestroyCall) (p : DestroyAt) → SpelledDestroy p → SpelledAt (destroy_at c p)
destroyed_knows c (destroy.Outside (destroy_outside.Ended w)) k = after_knows c.caller w
destroyed_knows c p k = k

begun_knows : (size : ℕ) (me : ThreadId) (f : Phase) → NamesIn size f → SpelledAt (begun_at size me f)
begun_knows size me (phase.Send to message soon joined) n = tt
begun_knows size me (phase.Reply to message soon) n = tt
begun_knows size me (phase.Receive from soon) n = tt
begun_knows size me (phase.Create program priority) n = omega (arith, n)
begun_knows size me (phase.Destroy who) n = tt
begun_knows size me phase.End n = tt

-- CONTEXTS

abbrev AllKnow : (ℕ → Context) → Type 0
AllKnow s = (i : ℕ) → KnowsWords (s i)

-- one context moves
moved : (s : ℕ → Context) (i : ℕ) (x : Context) → IsStateWord x.own → SpelledAt x.at → AllKnow s →
    AllKnow (upd s i x)
moved s i x own at h j =
    upd_cases (λ (y : Context). KnowsWords y) s i x j (λ _. record { own = own; loaded = at }) (λ _. h j)

placed_all : (g : Programs) (c : CreateCall) (p : CreateAt) (r : Response) (s : ℕ → Context) →
    ((id : ThreadId) → p ≡ create.Locked (create_locked.PlaceContext id) →
    1 ≤ id.version × (id.version < 2 ^ 20)) →
    ((id : ThreadId) → p ≡ create.Locked (create_locked.CommitCreate id) →
    1 ≤ id.version × (id.version < 2 ^ 20)) →
    c.priority < 64 → AllKnow s → AllKnow (create_contexts g c p r s)
placed_all g c (create.Locked (create_locked.PlaceContext id)) asks.Placed s place commit low h =
    let v = place id refl in moved s id.number _ (created_spelled id.version c.priority v.0 v.1 low) tt h
placed_all g c (create.Locked (create_locked.CommitCreate id)) asks.Won s place commit low h =
    let v = commit id refl in moved s id.number _ (created_spelled id.version c.priority v.0 v.1 low) tt h
placed_all g c p r s place commit low h = h

removed_all : (c : DestroyCall) (p : DestroyAt) (r : Response) (s : ℕ → Context) → AllKnow s →
    AllKnow (destroy_contexts c p r s)
removed_all c (destroy.Locked destroy_locked.RemoveContext) asks.Removed s h =
    moved s c.who.number _ (h c.who.number).own tt h
removed_all c p r s h = h

module _ (g : Programs) (b : Board) (places : PlacesHold g b) (within : IsWithin b) (few : b.size ≤ 64)
    (messages : MessagesHold b.context) (names : NamesFit g b.size) (h : WordsHold b) where
  version_in : (id : ThreadId) → IsInRange b.size id → 1 ≤ id.version × (id.version < 2 ^ 20)
  version_in id is = (is.first, omega (arith, is.last))

  -- a context of its own changes by this, and words by this step
  stepped : (i : ℕ) (at : Position) (p : Option Point) (a : Ask) (r : Response) (b' : Board) →
      b'.seen ≡ wrote (noted g b.seen at p) a r → Answers b a r → IsSpelled b.size a → AllKnow b'.context →
      WordsHold b'
  stepped i at p a r b' same an s c = record {
    words =
        λ t. subst (λ (v : ℕ → Seen). IsStateWord (v t).word) (sym same)
        (words_kept b.size g b at p a r an s h.words t);
    contexts = c;
  }

  -- no word is written
  still : (i : ℕ) (x : Context) (b' : Board) → b'.seen ≡ b.seen → b'.context ≡ upd b.context i x →
      IsStateWord x.own →
      SpelledAt x.at → WordsHold b'
  still i x b' same c own at = record {
    words =
        λ t. subst (λ (v : ℕ → Seen). IsStateWord (v t).word) (sym same) (h.words t);
    contexts = subst (λ (s : ℕ → Context). AllKnow s) (sym c) (moved b.context i x own at h.contexts);
  }

  pub words_keep : (i : ℕ) (b' : Board) → Turn g b i b' → WordsHold b'
  words_keep i _ (sends c p r at an) =
      let x = b.context i in
      let s = spelled_at g b places within few messages h i (InSend c p) at in
      stepped i x.position (send.points c (b.seen i).word (hand_of b (b.queue c.to.number)) p r)
      (send.ask_of c x.own p) r _ refl an s
      (moved b.context i _ (send_own b.size c x.own p r (h.contexts i).own s)
      (sent_knows c _ (send_knows b c x.own (hand_of b (b.queue c.to.number)) p r an h.words
      (known_at g b places within few messages h i (InSend c p) at))) h.contexts)
  words_keep i _ (receives c p r at an) =
      let x = b.context i in
      let s = spelled_at g b places within few messages h i (InReceive c p) at in
      stepped i x.position (receive.points c (b.seen i).word (hand_of b (b.queue i)) p r)
      (receive.ask_of c x.own p) r _ refl an s
      (moved b.context i _ (receive_own b.size c x.own p r (h.contexts i).own s)
      (received_knows c _ (receive_knows b c x.own (hand_of b (b.queue i)) p r an h.words
      (known_at g b places within few messages h i (InReceive c p) at))) h.contexts)
  words_keep i _ (creates c p r at an) =
      let x = b.context i in
      let s = spelled_at g b places within few messages h i (InCreate c p) at in
      let low = known_at g b places within few messages h i (InCreate c p) at in
      let facts = facts_at g b places within few messages h i (InCreate c p) at in
      stepped i x.position (create.points c (b.seen i).word (hand_of b []) p r) (create.ask_of c x.own p) r
      _ refl an s
      (moved (create_contexts g c p r b.context) i _ (h.contexts i).own (created_knows c _ low)
      (placed_all g c p r b.context
      (λ id e. version_in id (chosen_in g b i x within.count id
      (subst (λ (q : CreateAt). AllSay g b i x (facts_create c q)) e facts).1.1.1.1.1.0))
      (λ id e. version_in id (chosen_in g b i x within.count id
      (subst (λ (q : CreateAt). AllSay g b i x (facts_create c q)) e facts).1.1.1.1.1.0)) low h.contexts))
  words_keep i _ (destroys c p r at an) =
      let x = b.context i in
      let s = spelled_at g b places within few messages h i (InDestroy c p) at in
      stepped i x.position
      (destroy.points c (b.seen i).word (hand_of b (b.queue (destroy_number c p))) p r)
      (destroy.ask_of c x.own p) r _ refl an s
      (moved (destroy_contexts c p r b.context) i _ (h.contexts i).own
      (destroyed_knows c _ (destroy_knows b c x.own (hand_of b (b.queue (destroy_number c p))) p r an h.words
      (known_at g b places within few messages h i (InDestroy c p) at)))
      (removed_all c p r b.context h.contexts))
  words_keep i _ (goes_alone p r at can an) =
      let x = b.context i in
      let s = spelled_at g b places within few messages h i (Alone p) at in
      stepped i x.position (alone.points (id_at b i) p r) (alone.ask_of (id_at b i) x.own p) r _ refl an s
      (moved b.context i _ (alone_own b (id_at b i) x.own p r an h.words (h.contexts i).own s) tt h.contexts)
  words_keep i _ (begins l f at e) =
      still i _ _ refl refl (h.contexts i).own (begun_knows b.size (id_at b i) f
      (names (b.context i).position l f e))
  words_keep i _ (turns_to_work l count at e) = still i _ _ refl refl (h.contexts i).own tt
  words_keep i _ (wakes at) = still i _ _ refl refl (h.contexts i).own tt
  words_keep i _ (switches c p r at going an) = still i _ _ refl refl (h.contexts i).own tt
  words_keep i _ (begins_switch c at) = still i _ _ refl refl (h.contexts i).own tt
  words_keep i _ (ends_switch c s at) = still i _ _ refl refl (h.contexts i).own tt
