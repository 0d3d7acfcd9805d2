-- What a board has of a context that the world shows: its locks, and how far it is from a release.
use Rattle.std.proofs.Common.{◌≡◌, ◌≢◌, ℕ, ◌==◌, Bool, true, false, refl, sym, ap, ◌∙◌, subst, Option, Some}
use Rattle.std.proofs.Common.{None, List, [], ◌∷◌}
use Rattle.k_ids.specs.declared.state_word.StateWord.{StateWord}
use Rattle.k_locks.specs.declared.locks.Lock.{Lock}
use Rattle.k_locks.specs.declared.locks.Lock.TheVariants as lock
use Rattle.k_locks.specs.Asks.{Want}
use Rattle.k_locks.specs.Hands.{Hand, trimmed}
use Rattle.k_locks.specs.Locks.{lowest_held}
use Rattle.k_ipc.specs.SendTable as send
use Rattle.k_ipc.specs.ReceiveTable as receive
use Rattle.k_threads.specs.CreateTable as create
use Rattle.k_threads.specs.DestroyTable as destroy
use Rattle.k_caller.specs.declared.activity.Activity.{Activity}
use Rattle.k_caller.specs.declared.activity.Activity.TheVariants as activity
use Rattle.k_caller.specs.Activities as about
use Rattle.k_caller.specs.Threads.{ThreadSeen}
use Rattle.k_switch.specs.declared.switch.Switch.{Switch}
use Rattle.k_switch.specs.Carriers as carriers
use Rattle.k_switch.specs.Switches as switch
use Rattle.k_context.specs.Contexts.{Carrier, ContextSeen, Thread, left_of, locks_of}
use Rattle.k_carrier.specs.declared.marks.Want.TheVariants as want
use Rattle.k_carrier.specs.declared.marks.Want as marked
use Rattle.k_carrier.specs.Rules.{holds_any}
use Rattle.k_carrier.specs.Running.{left_for, left_for_lowest}
use Rattle.k_board.specs.Words.{Programs}
use Rattle.k_board.specs.Boards.{At, Alone, InSend, InReceive, InCreate, InDestroy, InSwitch, Resting}
use Rattle.k_board.specs.Boards.{Coming, Nowhere, Board, Context, hand_of}
use Rattle.k_board.specs.Facts.{AllSay}
use Rattle.k_board.specs.Places.{facts_of}
use Rattle.k_good.specs.Locks.{locks_at}
use Rattle.k_good.proofs.RangesKeep.{receive_caller}
use Rattle.k_places.specs.Contexts.{HoldsGoods, IsShown, ShowsContext, at_in, hand_by, hand_in, queue_held}
use Rattle.k_places.specs.Contexts.{switch_at, switch_hand, thread_at}
use Rattle.k_sections.specs.Situations.{Situation, hand_at, holder_of, itself, left_at, left_by}
use Rattle.k_sections.specs.Situations.{steps_or_none, steps_until}
use Rattle.k_sections.specs.Situations as situations
use Rattle.k_sections.proofs.Resting.{by_hand}
use Rattle.k_waits.specs.Words.{want_in}

-- THE LOCKS of a context are those of its location.

at_locks : (a : Activity) → locks_at (at_in a) ≡ about.locks_of a
at_locks (activity.Alone p) = refl
at_locks (activity.Send s) = refl
at_locks (activity.Receive s) = refl
at_locks (activity.Create s) = refl
at_locks (activity.Destroy s) = refl

switch_locks : (s : Option Switch) → locks_at (switch_at s) ≡ carriers.locks_in s
switch_locks None = refl
switch_locks (Some s) = refl

-- by whether its thread is made
pub by_made : (w : StateWord) (n : ℕ) (t : ThreadSeen) (x : Context) → IsShown w n t x → (P : At → Activity → Type 0) →
    ((a : Activity) → P (at_in a) a) → ((p : _) → P Coming (activity.Alone p)) → P x.at t.activity
by_made w n t x h P made coming = go (w.version == t.id.version) refl
  where
    at : x.at ≡ thread_at w t
    at = ap (λ (z : Context). z.at) h.context

    go : (q : Bool) → (w.version == t.id.version) ≡ q → P x.at t.activity
    go true e = subst (λ (p : At). P p t.activity) (sym (at ∙ rw e refl)) (made t.activity)
    go false e =
        let is : x.at ≡ Coming = at ∙ rw e refl in
        let c = h.coming is in
        subst (λ (p : At). P p t.activity) (sym is) (subst (λ (a : Activity). P Coming a) (sym c.doing) (coming _))

pub locks_shown : (w : StateWord) (n : ℕ) (v : ContextSeen) (x : Context) → ShowsContext w n (Some v) x →
    locks_at x.at ≡ locks_of v
locks_shown w n (Thread t) x h =
    by_made w n t x h (λ p a. locks_at p ≡ about.locks_of a) at_locks (λ p. refl)
locks_shown w n (Carrier k) x h = ap locks_at h ∙ switch_locks k.switch

pub any_lowest : (ls : List (Option Lock)) → holds_any ls ≡ true → lowest_held ls ≢ None
any_lowest [] h = λ e. absurd cc
any_lowest (Some l ∷ ls) h = λ e. absurd cc
any_lowest (None ∷ ls) h = any_lowest ls h

pub lowest_any : (ls : List (Option Lock)) (l : Lock) → lowest_held ls ≡ Some l → holds_any ls ≡ true
lowest_any [] l e = absurd cc
lowest_any (Some k ∷ ls) l e = refl
lowest_any (None ∷ ls) l e = lowest_any ls l e

-- HOW FAR IT IS FROM A RELEASE

activity_left : (a : Activity) (k : Lock) → about.left_of a k ≡ left_by (hand_in a) (at_in a) k
activity_left (activity.Alone p) k = refl
activity_left (activity.Send s) k = refl
activity_left (activity.Receive s) k = refl
activity_left (activity.Create s) k = refl
activity_left (activity.Destroy s) k = refl

switch_left : (s : Option Switch) (k : Lock) → carriers.left_in s k ≡ left_by (switch_hand s) (switch_at s) k
switch_left None k = refl
switch_left (Some s) k = refl

context_left : (w : StateWord) (n : ℕ) (v : ContextSeen) (x : Context) (k : Lock) → ShowsContext w n (Some v) x →
    left_of v k ≡ left_by (hand_by v) x.at k
context_left w n (Thread t) x k h =
    by_made w n t x h (λ p a. about.left_of a k ≡ left_by (hand_in a) p k) (λ a. activity_left a k) (λ p. refl)
context_left w n (Carrier z) x k h = switch_left z.switch k ∙ ap (λ (p : At). left_by (switch_hand z.switch) p k) (sym h)

module _ (g : Programs) (b : Board) (i : ℕ) where
  -- the queue in hand is that of the location
  held_queue : (p : At) → AllSay g b i (b.context i) (facts_of p) →
      trimmed (locks_at p) (hand_of b (b.queue (queue_held (locks_at p)))) ≡ trimmed (locks_at p) (hand_at b i p)
  held_queue (Alone p) f = refl
  held_queue (InSend c (send.Outside p)) f = refl
  held_queue (InSend c (send.Locked p)) f = refl
  held_queue (InSend c (send.Pushing p)) f = refl
  held_queue (InReceive c (receive.Outside p)) f = refl
  held_queue (InReceive c (receive.Locked p)) f =
      ap (λ (n : ℕ). trimmed (locks_at (InReceive c (receive.Locked p))) (hand_of b (b.queue n)))
      (receive_caller g b i (b.context i) c (receive.Locked p) f).0
  held_queue (InReceive c (receive.Pushing p)) f =
      ap (λ (n : ℕ). trimmed (locks_at (InReceive c (receive.Pushing p))) (hand_of b (b.queue n)))
      (receive_caller g b i (b.context i) c (receive.Pushing p) f).0
  held_queue (InCreate c (create.Outside p)) f = refl
  held_queue (InCreate c (create.Locked p)) f = refl
  held_queue (InCreate c (create.PushCreated id)) f = refl
  held_queue (InDestroy c (destroy.Outside p)) f = refl
  held_queue (InDestroy c (destroy.Locked p)) f = refl
  held_queue (InDestroy c (destroy.Victim p)) f = refl
  held_queue (InDestroy c (destroy.Visit p)) f = refl
  held_queue (InDestroy c destroy.UnlistVictim) f = refl
  held_queue (InDestroy c (destroy.Pushing p)) f = refl
  held_queue (InSwitch c switch.AcquireReady) f = refl
  held_queue (InSwitch c (switch.Locked p)) f = refl
  held_queue (InSwitch c (switch.Returned s)) f = refl
  held_queue (InSwitch c (switch.Finished s)) f = refl
  held_queue Resting f = refl
  held_queue Coming f = refl
  held_queue Nowhere f = refl

  -- what is published is the number that the context itself has
  lock_left : (w : StateWord) (v : ContextSeen) (k : Lock) → ShowsContext w i (Some v) (b.context i) →
      HoldsGoods b v (b.context i).at → AllSay g b i (b.context i) (facts_of (b.context i).at) →
      left_of v k ≡ left_at b i (b.context i).at k
  lock_left w v k shown goods f =
      let p = (b.context i).at in
      context_left w i v (b.context i) k shown
      ∙ ap (λ (h : Hand). left_by h p k) (goods ∙ held_queue p f)
      ∙ by_hand (hand_at b i p) p k

  lowest_left : (v : ContextSeen) (o : Option Lock) → ((k : Lock) → left_of v k ≡ left_at b i (b.context i).at k) →
      left_for_lowest v o ≡ steps_or_none (left_at b i (b.context i).at) o
  lowest_left v None each = refl
  lowest_left v (Some l) each = each l

  pub published : (w : StateWord) (v : ContextSeen) (wanted : marked.Want) (removed : ℕ → Option (Option Want)) →
      ShowsContext w i (Some v) (b.context i) → HoldsGoods b v (b.context i).at →
      AllSay g b i (b.context i) (facts_of (b.context i).at) →
      left_for v wanted ≡ situations.left_of (record { board = b; removed = removed }) i (want_in wanted)
  published w v (want.Lock (lock.Thread n)) removed shown goods f = lock_left w v (lock.Thread n) shown goods f
  published w v (want.Lock lock.Table) removed shown goods f = lock_left w v lock.Table shown goods f
  published w v (want.Lock lock.Ready) removed shown goods f = lock_left w v lock.Ready shown goods f
  published w v (want.Context n) removed shown goods f =
      ap (λ (ls : List (Option Lock)). left_for_lowest v (lowest_held ls)) (sym (locks_shown w i v (b.context i) shown))
      ∙ lowest_left v (lowest_held (locks_at (b.context i).at)) (λ k. lock_left w v k shown goods f)
