-- Whoever a step puts into a queue or into a ready list stands in none there.
use Rattle.std.proofs.Common.{◌≡◌, ◌≤◌, ◌<◌, ℕ, Bool, true, sym, ap, ◌∙◌, subst, arith, Some, None}
use Rattle.std.proofs.lemmas.Bool.{false≢true}
use Rattle.std.specs.Prelude.{if◌then◌else◌}
use Rattle.k_ids.specs.declared.threads.ThreadId.{ThreadId}
use Rattle.k_model.specs.State.{KernelState}
use Rattle.k_ready.specs.Lists.{IsInNone, Ready}
use Rattle.k_senders.specs.Entries.{number_of, sender_of}
use Rattle.k_senders.specs.Queue.{Queue, stands}
use Rattle.k_locks.specs.Hands.{Hand}
use Rattle.k_ipc.specs.Words.{IsRoom}
use Rattle.k_ipc.specs.declared.send.SendCall.{SendCall}
use Rattle.k_ipc.specs.declared.send.SendLocation.{SendLocation}
use Rattle.k_ipc.specs.declared.send.SendLocation.TheVariants as send_location
use Rattle.k_ipc.specs.declared.send.SendLocked.TheVariants as send_locked
use Rattle.k_ipc.specs.declared.send.SendPushing.TheVariants as send_pushing
use Rattle.k_ipc.specs.declared.send.SendRelease.TheVariants as send_release
use Rattle.k_ipc.specs.SendTable as send
use Rattle.k_ipc.specs.declared.receive.ReceiveCall.{ReceiveCall}
use Rattle.k_ipc.specs.declared.receive.ReceiveLocation.{ReceiveLocation}
use Rattle.k_ipc.specs.declared.receive.ReceiveLocation.TheVariants as receive_location
use Rattle.k_ipc.specs.declared.receive.ReceivePushing.TheVariants as receive_pushing
use Rattle.k_ipc.specs.ReceiveTable as receive
use Rattle.k_threads.specs.declared.create.CreateCall.{CreateCall}
use Rattle.k_threads.specs.declared.create.CreateLocation.{CreateLocation}
use Rattle.k_threads.specs.declared.create.CreateLocation.TheVariants as create_location
use Rattle.k_threads.specs.CreateTable as create
use Rattle.k_threads.specs.declared.destroy.DestroyCall.{DestroyCall}
use Rattle.k_threads.specs.declared.destroy.DestroyLocation.{DestroyLocation}
use Rattle.k_threads.specs.declared.destroy.DestroyLocation.TheVariants as destroy_location
use Rattle.k_threads.specs.declared.destroy.DestroyPushing.TheVariants as destroy_pushing
use Rattle.k_threads.specs.DestroyTable as destroy
use Rattle.k_caller.specs.declared.activity.Activity.{Activity}
use Rattle.k_caller.specs.declared.activity.Activity.TheVariants as activity
use Rattle.k_caller.specs.Activities as about
use Rattle.k_script.specs.Limits.{IsScript}
use Rattle.k_script.specs.Script.{Script}
use Rattle.k_world.specs.Worlds.{World}
use Rattle.k_board.specs.Boards.{At, Board, InCreate, InDestroy, InReceive, InSend}
use Rattle.k_board.specs.Facts.{AllSay}
use Rattle.k_board.specs.Places.{facts_of}
use Rattle.k_good.specs.Locks.{locks_at}
use Rattle.k_good.specs.Ranges.{FitsAt}
use Rattle.k_tokens.specs.Good.{IsListable, PushOf, ReadyList}
use Rattle.k_tokens.specs.World.{Threads}
use Rattle.k_tokens.specs.World as tokens
use Rattle.k_grants.specs.Pushes.{PushSays, board_threads, told_by}
use Rattle.k_grants.specs.Views.{look_at}
use Rattle.k_places.specs.Contexts.{at_in, hand_in, held_on}
use Rattle.k_plays.specs.Scripts.{ranged_programs}
use Rattle.k_whole.specs.Next.{has_next}
use Rattle.k_whole.proofs.Conditions.{queue_short}
use Rattle.k_handling.specs.Handling.{IsKernel}
use Rattle.k_conditions.proofs.Asks.{create_asks, destroy_asks, receive_asks, send_asks}
use Rattle.k_conditions.proofs.Lists.{in_none, is_last}

pushes_apart : (t p : ℕ) → PushOf t ≡ ReadyList p → ⊥
pushes_apart t p e = cc

module _ (script : Script) (limits : IsScript script) (w : World) (b : Board) (view : tokens.World)
    (state : KernelState)
    (h : IsKernel script w b view state) (i : ℕ) (inside : i < b.size) where
  -- WHO IS PUSHED

  -- the last of its number, whom this context has turned on
  pushed : (who : ThreadId) → (look_at (b.context i).at).push ≡ Some who →
      view.threads.version who.number ≡ who.version → IsInNone who.number b.lists.lists
  pushed who e last =
      let world = h.whole.pair.world in
      let alike = h.whole.pair.alike in
      let holds : world.0 who ≡ PushOf i =
      (world.1).tokens.push i who (ap (λ (x : Threads). x.push i) alike.agrees.threads ∙ e) in
      in_none view world.0 world.1 b.lists.lists alike.agrees.lists who last
      (λ p q. pushes_apart i p (sym holds ∙ q))

  shown_last : (who : ThreadId) → (b.seen who.number).word.version ≡ who.version →
      view.threads.version who.number ≡ who.version
  shown_last who e = ap (λ (x : Threads). x.version who.number) h.whole.pair.alike.agrees.threads ∙ e

  listed_last : (who : ThreadId) → IsListable (board_threads b) who →
      view.threads.version who.number ≡ who.version
  listed_last who l = is_last view h.whole.pair.world.0 h.whole.pair.world.1 who
      (subst (λ (x : Threads). IsListable x who) (sym h.whole.pair.alike.agrees.threads) l)

  push_at : (p : At) → (b.context i).at ≡ p → (look_at (b.context i).at).push ≡ (look_at p).push
  push_at p e = ap (λ (q : At). (look_at q).push) e

  says_at : (p : At) → (b.context i).at ≡ p → PushSays b.seen (board_threads b) p
  says_at p e = subst (λ (q : At). PushSays b.seen (board_threads b) q) e (h.whole.pair.pushes i)

  facts_at : (p : At) → (b.context i).at ≡ p → AllSay (ranged_programs script) b i (b.context i) (facts_of p)
  facts_at p e = subst (λ (q : At). AllSay (ranged_programs script) b i (b.context i) (facts_of q)) e
      (h.whole.pair.good.places i)

  fits_at : (p : At) → (b.context i).at ≡ p → FitsAt b.size p
  fits_at p e = subst (FitsAt b.size) e (h.whole.pair.within.targets i)

  -- BY WHERE IT STANDS

  queued : (c : SendCall) (q : Queue) →
      (b.context i).at ≡ InSend c (send.Locked (send_locked.Release send_release.Queued)) →
      q ≡ record { entries = b.queue c.to.number; room = b.size } → IsRoom c.caller q
  queued c q at e =
      let f = facts_at (InSend c (send.Locked (send_locked.Release send_release.Queued))) at in
      let t = fits_at (InSend c (send.Locked (send_locked.Release send_release.Queued))) at in
      subst (IsRoom c.caller) (sym e) (record {
        few = queue_short script limits b w.history state h.whole.holds c.to.number t.number;
        inside = subst (λ n. n < b.size) (sym f.0.0) inside;
        fresh = ap (λ n. stands n (b.queue c.to.number)) f.0.0 ∙ f.1.1.1.0.5;
      })

  send_pushes : (c : SendCall) (l : SendLocation) → (b.context i).at ≡ InSend c (send.at_of l) →
      send.can_ask l ≡ true →
      send.hand_of l ≡ held_on b (locks_at (InSend c (send.at_of l))) →
      send.CanPush c (send.hand_of l) (send.at_of l)
  send_pushes c (send_location.Locked (send_locked.Release send_release.Queued) q) at can hand =
      queued c q at (ap (λ (x : Hand). x.queue) hand)
  send_pushes c (send_location.Pushing (send_pushing.PushReceiver priority) q lists) at can hand =
      let says = says_at (InSend c (send.Pushing (send_pushing.PushReceiver priority))) at in
      subst (λ (r : Ready). IsInNone c.to.number r.lists) (sym (ap (λ (x : Hand). x.lists) hand))
      (pushed c.to (push_at _ at) (shown_last c.to says.0.version))
  send_pushes c (send_location.ListsReturned p q) at can hand = absurd (false≢true can)
  send_pushes c (send_location.QueueReturned r) at can hand = absurd (false≢true can)
  send_pushes c l at can hand = tt

  receive_pushes : (c : ReceiveCall) (l : ReceiveLocation) →
      (b.context i).at ≡ InReceive c (receive.at_of l) → receive.can_ask l ≡ true →
      receive.hand_of l ≡ held_on b (locks_at (InReceive c (receive.at_of l))) →
      receive.CanPush c (receive.hand_of l) (receive.at_of l)
  receive_pushes c (receive_location.Pushing (receive_pushing.PushFreed e w) q lists) at can hand = λ runs.
      let says = says_at (InReceive c (receive.Pushing (receive_pushing.PushFreed e w))) at in
      let told : told_by e w ≡ Some w.priority = ap (λ (t : Bool). if t then Some w.priority else None)
      runs in
      subst (λ (r : Ready). IsInNone (number_of e) r.lists) (sym (ap (λ (x : Hand). x.lists) hand))
      (pushed (sender_of e) (push_at _ at) (listed_last (sender_of e) (says.told.shown w.priority told).1))
  receive_pushes c (receive_location.ListsReturned e w q) at can hand = absurd (false≢true can)
  receive_pushes c (receive_location.QueueReturned r) at can hand = absurd (false≢true can)
  receive_pushes c l at can hand = tt

  create_pushes : (c : CreateCall) (l : CreateLocation) → (b.context i).at ≡ InCreate c (create.at_of l) →
      create.can_ask l ≡ true →
      create.hand_of l ≡ held_on b (locks_at (InCreate c (create.at_of l))) →
      create.CanPush c (create.hand_of l) (create.at_of l)
  create_pushes c (create_location.PushCreated id numbers lists) at can hand =
      let says = says_at (InCreate c (create.PushCreated id)) at in
      subst (λ (r : Ready). IsInNone id.number r.lists) (sym (ap (λ (x : Hand). x.lists) hand))
      (pushed id (push_at _ at) (shown_last id says.0.version))
  create_pushes c (create_location.ListsReturned id numbers) at can hand = absurd (false≢true can)
  create_pushes c (create_location.NumbersReturned r) at can hand = absurd (false≢true can)
  create_pushes c l at can hand = tt

  destroy_pushes : (c : DestroyCall) (l : DestroyLocation) →
      (b.context i).at ≡ InDestroy c (destroy.at_of l) → destroy.can_ask l ≡ true →
      destroy.hand_of l ≡ held_on b (locks_at (InDestroy c (destroy.at_of l))) →
      destroy.CanPush c (destroy.hand_of l) (destroy.at_of l)
  destroy_pushes c (destroy_location.Pushing (destroy_pushing.PushSender sender seen) numbers q lists) at can
      hand =
      let says = says_at (InDestroy c (destroy.Pushing (destroy_pushing.PushSender sender seen))) at in
      subst (λ (r : Ready). IsInNone sender r.lists) (sym (ap (λ (x : Hand). x.lists) hand))
      (pushed (record { number = sender; version = seen.version }) (push_at _ at)
      (shown_last (record { number = sender; version = seen.version }) says.0.version))
  destroy_pushes c (destroy_location.Pushing (destroy_pushing.PushVisited visited seen) numbers q lists) at
      can hand =
      let says = says_at (InDestroy c (destroy.Pushing (destroy_pushing.PushVisited visited seen))) at in
      subst (λ (r : Ready). IsInNone visited r.lists) (sym (ap (λ (x : Hand). x.lists) hand))
      (pushed (record { number = visited; version = seen.version }) (push_at _ at)
      (shown_last (record { number = visited; version = seen.version }) says.0.version))
  destroy_pushes c (destroy_location.Returned r) at can hand = absurd (false≢true can)
  destroy_pushes c l at can hand = tt

  some : 1 ≤ b.size
  some = omega (arith, inside)

  -- a section whose location has a next step
  pub thread_pushes : (a : Activity) → (b.context i).at ≡ at_in a → has_next (at_in a) ≡ true →
      hand_in a ≡ held_on b (locks_at (at_in a)) → about.CanPush a
  thread_pushes (activity.Alone p) at next hand = tt
  thread_pushes (activity.Send s) at next hand =
      send_pushes s.call s.location at (send_asks b some h.whole.pair.alike.agrees.whole
      h.whole.pair.within.count s.call s.location next hand) hand
  thread_pushes (activity.Receive s) at next hand =
      receive_pushes s.call s.location at (receive_asks b some h.whole.pair.alike.agrees.whole
      h.whole.pair.within.count s.call s.location next hand) hand
  thread_pushes (activity.Create s) at next hand =
      create_pushes s.call s.location at (create_asks b some h.whole.pair.alike.agrees.whole
      h.whole.pair.within.count s.call s.location next hand) hand
  thread_pushes (activity.Destroy s) at next hand =
      destroy_pushes s.call s.location at (destroy_asks b some h.whole.pair.alike.agrees.whole
      h.whole.pair.within.count s.call s.location next hand) hand
