-- What the next step of a context stands on.
use Rattle.std.proofs.Common.{◌≡◌, ℕ, ◌<◌, true, refl, sym, ap, ◌∙◌, subst, Some, List, length}
use Rattle.std.proofs.lemmas.Bool.{false≢true}
use Rattle.k_ids.specs.declared.histories.Entry.{Entry}
use Rattle.k_ids.specs.declared.threads.ThreadId.{ThreadId}
use Rattle.k_ids.specs.declared.state_word.StateWord.{StateWord}
use Rattle.k_model.specs.State.{KernelState}
use Rattle.k_locks.specs.Asks as asks
use Rattle.k_locks.specs.Asks.{Ask, Response}
use Rattle.k_locks.specs.Shown.{is_dead}
use Rattle.k_ready.specs.Lists.{list_of}
use Rattle.k_ipc.specs.declared.receive.ReceiveCall.{ReceiveCall}
use Rattle.k_ipc.specs.declared.receive.ReceiveLocked.{ReceiveLocked}
use Rattle.k_ipc.specs.declared.receive.ReceiveLocked.TheVariants as locked
use Rattle.k_ipc.specs.ReceiveTable as receive
use Rattle.k_threads.specs.declared.create.CreateCall.{CreateCall}
use Rattle.k_threads.specs.declared.create.CreateLocked.TheVariants as create_locked
use Rattle.k_threads.specs.CreateTable as create
use Rattle.k_script.specs.Limits.{IsScript}
use Rattle.k_script.specs.Script.{Script}
use Rattle.k_board.specs.Words.{Programs}
use Rattle.k_board.specs.Boards.{At, Board, InCreate, InReceive, Nowhere}
use Rattle.k_board.specs.Facts.{AllSay}
use Rattle.k_board.specs.Places.{facts_of}
use Rattle.k_board.specs.Steps.{Answers}
use Rattle.k_good.specs.Good.{IsGood}
use Rattle.k_tokens.specs.Good.{times_in}
use Rattle.k_tokens.specs.Maps.{times}
use Rattle.k_tokens.specs.World.{Threads, World}
use Rattle.k_grants.specs.Views.{look_at}
use Rattle.k_sections.proofs.Short.{short_queue}
use Rattle.k_invariant.specs.Invariant.{BoardHolds}
use Rattle.k_invariant.proofs.Waits.{entered}
use Rattle.k_paired.specs.Pairs.{IsPair}
use Rattle.k_whole.specs.Next.{settles}

-- EXCHANGES THAT ARE NEVER LOST

-- an exchange of the word that is there is won
won_is : (b : Board) (n : ℕ) (old new : StateWord) (r : Response) → (b.seen n).word ≡ old →
    Answers b (asks.Exchange n old new) r → r ≡ asks.Won
won_is b n old new asks.Won e a = refl
won_is b n old new (asks.Lost w) e a = absurd (a.1 (sym a.0 ∙ e))
won_is b n old new (asks.Word w) e a = absurd a
won_is b n old new (asks.Mail m) e a = absurd a
won_is b n old new asks.Stored e a = absurd a
won_is b n old new asks.Got e a = absurd a
won_is b n old new (asks.Owned owner) e a = absurd a
won_is b n old new asks.Released e a = absurd a
won_is b n old new asks.Placed e a = absurd a
won_is b n old new asks.Removed e a = absurd a
won_is b n old new asks.Kept e a = absurd a

-- the step is an exchange, and expects the word that is there
abbrev ExpectsThere : Board → Ask → Type 0
ExpectsThere b (asks.Exchange n old new) = (b.seen n).word ≡ old
ExpectsThere b a = ⊥

won_of : (b : Board) (a : Ask) (r : Response) → ExpectsThere b a → Answers b a r → r ≡ asks.Won
won_of b (asks.Exchange n old new) r e a = won_is b n old new r e a
won_of b (asks.Load n) r e a = absurd e
won_of b (asks.LoadMail n) r e a = absurd e
won_of b (asks.Post n m) r e a = absurd e
won_of b (asks.Acquire l) r e a = absurd e
won_of b (asks.Release l) r e a = absurd e
won_of b (asks.Place id program priority) r e a = absurd e
won_of b (asks.Remove id) r e a = absurd e

module _ (g : Programs) (b : Board) (good : IsGood g b) (i : ℕ) where
  facts_at : (p : At) → (b.context i).at ≡ p → AllSay g b i (b.context i) (facts_of p)
  facts_at p at = subst (λ (q : At). AllSay g b i (b.context i) (facts_of q)) at (good.places i)

  abbrev Own : ReceiveCall → Type 0
  Own c = (b.seen c.caller.number).word ≡ (b.context i).own

  own_by : (c : ReceiveCall) → c.caller.number ≡ i → (b.seen i).word ≡ (b.context i).own → Own c
  own_by c me same = ap (λ (n : ℕ). (b.seen n).word) me ∙ same

  pub receive_won : (c : ReceiveCall) (p : ReceiveLocked) (r : Response) → (b.context i).at ≡ InReceive c (receive.Locked p) →
      settles p ≡ true
      → Answers b (receive.ask_of c (b.context i).own (receive.Locked p)) r → r ≡ asks.Won
  receive_won c locked.CommitWait r at s a =
      let f = facts_at (InReceive c (receive.Locked locked.CommitWait)) at in
      won_of b (receive.ask_of c (b.context i).own (receive.Locked locked.CommitWait)) r (own_by c f.1.1.0.0 f.1.1.1.1.1.0.1) a
  receive_won c (locked.CommitGone from) r at s a =
      let f = facts_at (InReceive c (receive.Locked (locked.CommitGone from))) at in
      won_of b (receive.ask_of c (b.context i).own (receive.Locked (locked.CommitGone from))) r (own_by c f.0.0 f.1.1.1.0.1) a
  receive_won c (locked.EndPick e w) r at s a =
      let f = facts_at (InReceive c (receive.Locked (locked.EndPick e w))) at in
      won_of b (receive.ask_of c (b.context i).own (receive.Locked (locked.EndPick e w))) r (own_by c f.1.0.0 f.1.1.1.1.0.1) a
  receive_won c locked.SettlePick r at s a =
      let f = facts_at (InReceive c (receive.Locked locked.SettlePick)) at in
      won_of b (receive.ask_of c (b.context i).own (receive.Locked locked.SettlePick)) r (own_by c f.1.0.0 f.1.1.1.1.0.1) a
  receive_won c locked.LoadOwn r at s a = absurd (false≢true s)
  receive_won c (locked.LoadSender e) r at s a = absurd (false≢true s)
  receive_won c (locked.FreeSender e w) r at s a = absurd (false≢true s)
  receive_won c (locked.AcquireReady e) r at s a = absurd (false≢true s)
  receive_won c (locked.LoadPartner from) r at s a = absurd (false≢true s)
  receive_won c locked.LoadPicking r at s a = absurd (false≢true s)
  receive_won c (locked.LoadNext e) r at s a = absurd (false≢true s)
  receive_won c (locked.FreeNext e w) r at s a = absurd (false≢true s)
  receive_won c (locked.Release e) r at s a = absurd (false≢true s)

  pub create_won : (c : CreateCall) (id : ThreadId) (r : Response) →
      (b.context i).at ≡ InCreate c (create.Locked (create_locked.CommitCreate id))
      → Answers b (create.ask_of c (b.context i).own (create.Locked (create_locked.CommitCreate id))) r → r ≡ asks.Won
  create_won c id r at a =
      let f = facts_at (InCreate c (create.Locked (create_locked.CommitCreate id))) at in
      won_of b (create.ask_of c (b.context i).own (create.Locked (create_locked.CommitCreate id))) r f.1.1.1.1.1.1.0.1 a

  -- A PLACE THAT IS EMPTY

  pub place_empty : (c : CreateCall) (id : ThreadId) → (b.context i).at ≡
      InCreate c (create.Locked (create_locked.PlaceContext id))
      → ((b.context id.number).at ≡ Nowhere) × (is_dead (b.seen id.number).word ≡ true)
  place_empty c id at =
      let f = facts_at (InCreate c (create.Locked (create_locked.PlaceContext id))) at in
      (f.1.1.1.1.1.1.1.0.1, ap is_dead f.1.1.1.1.1.1.0.1)

-- LISTS AND QUEUES

pub pushed_unlisted : (g : Programs) (b : Board) (w : World) → IsPair g b w → (i : ℕ) (who : ThreadId) (p : ℕ) →
    (look_at (b.context i).at).push ≡ Some who
    → times who (list_of b.lists.lists p) ≡ 0
pushed_unlisted g b w h i who p e =
    let tokens = (h.world.1).tokens in
    let holder = tokens.push i who (ap (λ (x : Threads). x.push i) h.alike.agrees.threads ∙ e) in
    ap (λ (l : ℕ → List ThreadId). times who (l p)) (sym h.alike.agrees.lists) ∙ tokens.list p who ∙ ap (times_in p) holder

pub queue_short : (script : Script) → IsScript script → (b : Board) (es : List Entry) (k : KernelState) →
    BoardHolds script b es k → (t : ℕ) → t < b.size → length (b.queue t) < b.size
queue_short script limits b es k h t inside =
    short_queue b.size t (b.queue t) inside (h.proper.queues.once t)
    (λ n s. entered script limits b (record { entries = es; state = k; holds = h }) t n s)
