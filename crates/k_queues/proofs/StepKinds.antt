-- The kinds of steps, as far as queues go: what each changes of queues, words and tasks, and what its point makes of who waits.
-- Each
-- location's step is of one kind. So what lasts over a kind is proved once.
use Rattle.std.proofs.Common.{◌≡◌, ◌≢◌, ℕ, ◌<◌, true, false, sym, ap, ◌∙◌, subst, Option}
use Rattle.std.proofs.Common.{Some, None, List, [], ◌∷◌, ◌++◌, ◌⊎◌, inl, inr, eqb}
use Rattle.std.proofs.lemmas.Bool.Decides.{eqb_tells}
use Rattle.k_ids.specs.declared.threads.ThreadId.{ThreadId}
use Rattle.k_model.specs.Maps.{upd}
use Rattle.k_model.specs.State.{same_id}
use Rattle.k_senders.specs.declared.entries.SenderEntry.{SenderEntry}
use Rattle.k_senders.specs.Entries.{entry_for, number_of, sender_of}
use Rattle.k_senders.specs.Queue.{IsOnceEach, entry_of, stands, without}
use Rattle.k_locks.specs.declared.points.Point.{Point}
use Rattle.k_locks.specs.Shown.{is_dead, is_present_in}
use Rattle.k_ipc.specs.declared.send.SendCall.{SendCall}
use Rattle.k_ipc.specs.declared.send.SendLocked.TheVariants as send_locked
use Rattle.k_ipc.specs.declared.send.SendRelease.TheVariants as send_release
use Rattle.k_ipc.specs.SendTable as send
use Rattle.k_ipc.specs.Words.{sends_to}
use Rattle.k_threads.specs.declared.destroy.DestroyCall.{DestroyCall}
use Rattle.k_board.specs.Boards.{Board, InSend, id_at}
use Rattle.k_board.specs.Facts.{waits_for}
use Rattle.k_queues.specs.Tasks.{Comes, Empties, Idle, IsAhead, IsEmptied, IsFreed, IsToVisit, TakesOut, Visits, task_at, task_of}
use Rattle.k_queues.specs.Queues.{IsSender, QueuesHold}
use Rattle.k_queues.proofs.Lists.{left, lists_after, queued}
use Rattle.k_queues.proofs.Changes.{begin_keeps, kill_keeps, make_keeps}
use Rattle.k_queues.proofs.Frees.{empty_step, free_step, onward_step, visit_step}
use Rattle.k_queues.proofs.Moves.{come_step, out_step, take_step}
use Rattle.k_queues.proofs.Quiet.{SameWait, quiet_step}
use Rattle.k_queues.proofs.Steps.{step_keeps}
use Rattle.k_queues.proofs.Tasks.{TaskSays}

-- Another context stays where it is, or has nothing to do in queues where it was and where it is.
abbrev pub OthersStay : Board → Board → ℕ → Type 0
OthersStay b b' i = (n : ℕ) → n ≢ i → ((b'.context n).at ≡ (b.context n).at) ⊎ ((task_of b n ≡ Idle) × (task_of b' n ≡ Idle))

pub others_tasks : (b b' : Board) (i : ℕ) → OthersStay b b' i → (n : ℕ) → n ≢ i → task_of b' n ≡ task_of b n
others_tasks b b' i o n ne = elim (o n ne) [ inl e ↦ ap task_at e | inr e ↦ e.1 ∙ sym e.0 ]

-- a point that changes nothing of who waits
abbrev pub IsPlain : Option Point → Type 0
IsPlain p = (f : ℕ → List SenderEntry) → lists_after p f ≡ f

-- the context is about to put this call's entry into a queue
abbrev pub IsComingAt : Board → ℕ → SendCall → Type 0
IsComingAt b i c = (b.context i).at ≡ InSend c (send.Locked (send_locked.Release send_release.Queued))

pub data Move (b b' : Board) (i : ℕ) (p : Option Point) : Type 0 where
  -- nothing
  stays : OthersStay b b' i → task_of b' i ≡ task_of b i → ((to : ThreadId) → task_of b i ≡ Comes to → ⊥) →
      ((t : ℕ) → b'.queue t ≡ b.queue t) → ((n : ℕ) → SameWait (b.seen n).word (b'.seen n).word) → IsPlain p → Move b b' i p
  -- a thread begins to wait, and comes into the queue
  begins : (c : SendCall) → OthersStay b b' i → task_of b i ≡ Idle → IsComingAt b' i c →
      ((t : ℕ) → b'.queue t ≡ b.queue t) → ((n : ℕ) → n ≢ i → SameWait (b.seen n).word (b'.seen n).word) →
      (b'.seen i).word.version ≡ (b.seen i).word.version → is_dead (b.seen i).word ≡ false →
      is_dead (b'.seen i).word ≡ false → ((r : ThreadId) → sends_to r (b.seen i).word.state ≡ false) →
      ((r : ThreadId) → sends_to r (b'.seen i).word.state ≡ same_id c.to r) →
      is_present_in (b.seen c.to.number).word c.to ≡ true → b.owner c.to.number ≡ Some i →
      stands i (b.queue c.to.number) ≡ false →
      ((f : ℕ → List SenderEntry) → lists_after p f ≡ queued f c.caller c.to c.message) → Move b b' i p
  comes : (c : SendCall) → OthersStay b b' i → IsComingAt b i c → task_of b' i ≡ Idle →
      ((n : ℕ) → SameWait (b.seen n).word (b'.seen n).word) →
      b'.queue c.to.number ≡ b.queue c.to.number ++ entry_for c.caller c.message ∷ [] →
      ((t : ℕ) → t ≢ c.to.number → b'.queue t ≡ b.queue t) → number_of (entry_for c.caller c.message) ≡ i →
      sender_of (entry_for c.caller c.message) ≡ id_at b i →
      IsSender b.size c.to.number (entry_for c.caller c.message) → stands i (b.queue c.to.number) ≡ false →
      (is_dead (b.seen i).word ≡ true) ⊎ (sends_to c.to (b.seen i).word.state ≡ true) → b.owner c.to.number ≡ Some i →
      IsPlain p → Move b b' i p
  -- a message is taken, and its entry leaves the queue
  takes : (e : SenderEntry) → OthersStay b b' i → task_of b i ≡ Idle → task_of b' i ≡ TakesOut e → b.owner i ≡ Some i →
      ((t : ℕ) → b'.queue t ≡ b.queue t) → entry_of (number_of e) (b.queue i) ≡ Some e →
      sends_to (id_at b i) (b.seen (number_of e)).word.state ≡ true →
      (b.seen (number_of e)).word.version ≡ (sender_of e).version →
      ((n : ℕ) → n ≢ number_of e → SameWait (b.seen n).word (b'.seen n).word) →
      (b'.seen (number_of e)).word.version ≡ (b.seen (number_of e)).word.version →
      is_dead (b'.seen (number_of e)).word ≡ is_dead (b.seen (number_of e)).word →
      ((r : ThreadId) → sends_to r (b'.seen (number_of e)).word.state ≡ false) →
      ((f : ℕ → List SenderEntry) → lists_after p f ≡ upd f i (without (number_of e) (f i))) → Move b b' i p
  takes_out : (e : SenderEntry) → OthersStay b b' i → ((n : ℕ) → SameWait (b.seen n).word (b'.seen n).word) →
      task_of b i ≡ TakesOut e → task_of b' i ≡ Idle → b'.queue i ≡ without (number_of e) (b.queue i) →
      ((t : ℕ) → t ≢ i → b'.queue t ≡ b.queue t) → entry_of (number_of e) (b.queue i) ≡ Some e →
      waits_for (id_at b i) e (b.seen (number_of e)).word ≡ false → IsPlain p → Move b b' i p
  -- a thread is made, and one is destroyed
  makes : (m : ℕ) → OthersStay b b' i → task_of b i ≡ Idle → task_of b' i ≡ Idle → b.table ≡ Some i →
      ((t : ℕ) → b'.queue t ≡ b.queue t) → ((n : ℕ) → n ≢ m → SameWait (b.seen n).word (b'.seen n).word) →
      is_dead (b.seen m).word ≡ true → is_dead (b'.seen m).word ≡ false →
      ((r : ThreadId) → sends_to r (b'.seen m).word.state ≡ false) → IsPlain p → Move b b' i p
  kills : (c : DestroyCall) → OthersStay b b' i → task_of b i ≡ Idle → b.table ≡ Some i → b.owner c.who.number ≡ Some i →
      id_at b c.who.number ≡ c.who → ((t : ℕ) → b'.queue t ≡ b.queue t) →
      ((n : ℕ) → n ≢ c.who.number → SameWait (b.seen n).word (b'.seen n).word) →
      (b'.seen c.who.number).word.version ≡ (b.seen c.who.number).word.version →
      is_dead (b'.seen c.who.number).word ≡ true →
      ((t : ℕ) → t ≢ c.who.number → t < b.size → IsToVisit (task_of b' i) c.who t) →
      ((n : ℕ) (e : SenderEntry) → entry_of n (b.queue c.who.number) ≡ Some e → IsEmptied (task_of b' i) c.who) →
      ((t n : ℕ) → IsFreed (task_of b' i) t n → ⊥) → ((r : ThreadId) → task_of b' i ≡ Comes r → ⊥) →
      ((f : ℕ → List SenderEntry) → lists_after p f c.who.number ≡ []) →
      ((f : ℕ → List SenderEntry) (t : ℕ) → t ≢ c.who.number → lists_after p f t ≡ left c.who (f t)) → Move b b' i p
  -- a sender that was off is freed; and the first entry leaves the victim's queue
  frees : (c : DestroyCall) (sender : ℕ) → OthersStay b b' i → task_of b i ≡ Empties c None →
      task_of b' i ≡ Empties c (Some sender) → ((t : ℕ) → b'.queue t ≡ b.queue t) → id_at b c.who.number ≡ c.who →
      is_dead (b.seen c.who.number).word ≡ true → sends_to c.who (b.seen sender).word.state ≡ true →
      ((n : ℕ) → n ≢ sender → SameWait (b.seen n).word (b'.seen n).word) →
      (b'.seen sender).word.version ≡ (b.seen sender).word.version →
      is_dead (b'.seen sender).word ≡ is_dead (b.seen sender).word →
      ((r : ThreadId) → sends_to r (b'.seen sender).word.state ≡ false) → IsPlain p → Move b b' i p
  empties : (c : DestroyCall) (o : Option ℕ) (sender : ℕ) → OthersStay b b' i → task_of b i ≡ Empties c o →
      is_dead (b.seen c.who.number).word ≡ true →
      ((t n : ℕ) → IsFreed (Empties c o) t n → (c.who.number ≡ t) × (sender ≡ n)) →
      ((id : ThreadId) (t : ℕ) → IsAhead c 0 id t → IsToVisit (task_of b' i) id t) →
      ((n : ℕ) (e : SenderEntry) → entry_of n (b'.queue c.who.number) ≡ Some e → IsEmptied (task_of b' i) c.who) →
      ((t n : ℕ) → IsFreed (task_of b' i) t n → ⊥) → ((r : ThreadId) → task_of b' i ≡ Comes r → ⊥) →
      b.owner c.who.number ≡ Some i → id_at b c.who.number ≡ c.who →
      b'.queue c.who.number ≡ without sender (b.queue c.who.number) →
      ((t : ℕ) → t ≢ c.who.number → b'.queue t ≡ b.queue t) →
      ((n : ℕ) → (b'.seen n).word.version ≡ (b.seen n).word.version) →
      ((n : ℕ) → is_dead (b'.seen n).word ≡ is_dead (b.seen n).word) →
      ((n : ℕ) → n ≢ sender → SameWait (b.seen n).word (b'.seen n).word) →
      ((r : ThreadId) → r ≢ c.who → sends_to r (b'.seen sender).word.state ≡ sends_to r (b.seen sender).word.state) →
      sends_to c.who (b'.seen sender).word.state ≡ false → IsPlain p → Move b b' i p
  -- the visits begin; and one is over
  goes_on : (c : DestroyCall) (m : ℕ) → OthersStay b b' i → task_of b i ≡ Visits c m →
      ((id : ThreadId) (t : ℕ) → IsAhead c m id t → IsToVisit (task_of b' i) id t) →
      ((t n : ℕ) → IsFreed (task_of b' i) t n → ⊥) → ((r : ThreadId) → task_of b' i ≡ Comes r → ⊥) →
      ((n : ℕ) → SameWait (b.seen n).word (b'.seen n).word) → ((t : ℕ) → b'.queue t ≡ b.queue t) → IsPlain p → Move b b' i p
  visits : (c : DestroyCall) (m : ℕ) → OthersStay b b' i → task_of b i ≡ Visits c m →
      ((id : ThreadId) (t : ℕ) → IsAhead c m id t → t ≢ m → IsToVisit (task_of b' i) id t) →
      ((t n : ℕ) → IsFreed (task_of b' i) t n → ⊥) → ((r : ThreadId) → task_of b' i ≡ Comes r → ⊥) →
      b.owner m ≡ Some i → is_dead (b.seen c.who.number).word ≡ true →
      ((n : ℕ) → SameWait (b.seen n).word (b'.seen n).word) → ((t : ℕ) → t ≢ m → b'.queue t ≡ b.queue t) →
      IsOnceEach (b'.queue m) →
      ((n : ℕ) (e : SenderEntry) → entry_of n (b'.queue m) ≡ Some e → (entry_of n (b.queue m) ≡ Some e) × (sender_of e ≢ c.who)) →
      ((n : ℕ) (e : SenderEntry) → entry_of n (b.queue m) ≡ Some e → sender_of e ≢ c.who → entry_of n (b'.queue m) ≡ Some e) →
      (b'.queue m ≡ b.queue m) ⊎ (b'.queue m ≡ without c.who.number (b.queue m)) → IsPlain p → Move b b' i p

-- the queues hold after each kind of step
pub move_keeps : (b b' : Board) (i : ℕ) (p : Option Point) → b'.size ≡ b.size → QueuesHold b →
    ((n : ℕ) → TaskSays b n (task_of b n)) → Move b b' i p → QueuesHold b'
move_keeps b b' i p z h says (stays o mine none queue words pl) =
    step_keeps b b' i h (quiet_step b b' i h z queue words (others_tasks b b' i o) mine)
move_keeps b b' i p z h says (begins c o was now queue words version alive still silent sends present owner fresh pl) =
    begin_keeps b b' i h says z queue (others_tasks b b' i o) c.to was
    (ap task_at now) words version alive still silent sends present
move_keeps b b' i p z h says (comes c o was now words here but number sender fits fresh lives owner pl) =
    step_keeps b b' i h (come_step b b' i h says z (others_tasks b b' i o) c.to (entry_for c.caller c.message) words
    (ap task_at was) now here but number sender fits fresh lives)
move_keeps b b' i p z h says (takes e o was now owner queue stands_it waited age words version dead none pl) =
    step_keeps b b' i h (take_step b b' i h says z
    (others_tasks b b' i o) e was now queue stands_it waited words version dead none)
move_keeps b b' i p z h says (takes_out e o words was now here but stood gone pl) =
    step_keeps b b' i h (out_step b b' i h says z (others_tasks b b' i o) e words was now here but stood gone)
move_keeps b b' i p z h says (makes m o was now table queue words dead lives silent pl) =
    make_keeps b b' i h says z queue (others_tasks b b' i o) m (λ n. by_me n (eqb_tells n i)) was table words dead lives silent
  where
    by_me : (n : ℕ) → ((eqb n i ≡ true) × (n ≡ i)) ⊎ ((eqb n i ≡ false) × (n ≢ i)) → task_of b' n ≡ task_of b n
    by_me n (inl d) = subst (λ (k : ℕ). task_of b' k ≡ task_of b k) (sym d.1) (now ∙ sym was)
    by_me n (inr d) = others_tasks b b' i o n d.1
move_keeps b b' i p z h says
    (kills c o was table owner is queue words version dead visits_it empties_it frees_it comes_it gone rest) =
    kill_keeps b b' i h says z queue
    (others_tasks b b' i o) c was table owner is words version dead visits_it empties_it frees_it comes_it
move_keeps b b' i p z h says (frees c sender o was now queue is gone waited words version dead none pl) =
    step_keeps b b' i h (free_step b b' i h says z
    (others_tasks b b' i o) c sender was now queue is waited words version dead none)
move_keeps b b' i p z h says
    (empties c o sender os was gone which visits_it empties_it frees_it comes_it
    owner is here but version dead words same none pl) =
    step_keeps b b' i h (empty_step b b' i h says z
    (others_tasks b b' i os) c o sender was which visits_it empties_it frees_it
    comes_it owner is here but version dead words same none)
move_keeps b b' i p z h says (goes_on c m o was visits_it frees_it comes_it words queue pl) =
    step_keeps b b' i h (onward_step b b' i h says z (others_tasks b b' i o) c m was visits_it frees_it comes_it words queue)
move_keeps b b' i p z h says (visits c m o was visits_it frees_it comes_it owner gone words but once lefts keep cut pl) =
    step_keeps b b' i h (visit_step b b' i h says z
    (others_tasks b b' i o) c m was visits_it frees_it comes_it owner gone words but once lefts keep)
