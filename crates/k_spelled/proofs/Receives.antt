-- A receive, or a pick: what it writes has a spelling, and so has what it knows after its step.
use Rattle.std.proofs.Common.{◌≡◌, ℕ, ◌≤◌, ◌==◌, Bool, true, refl, sym, subst, Option, Some, None}
use Rattle.std.specs.Prelude.{IfSome}
use Rattle.std.proofs.lemmas.Bool.{and_parts}
use Rattle.k_ids.specs.declared.state_word.Result4.TheVariants as result4
use Rattle.k_ids.specs.declared.state_word.State.{State}
use Rattle.k_ids.specs.declared.state_word.State.TheVariants as state
use Rattle.k_ids.specs.declared.state_word.StateWord.{StateWord}
use Rattle.k_ids.specs.declared.threads.ThreadId.{ThreadId}
use Rattle.k_ids.specs.StateWords.{IsPartner, IsStateWord, is_live, partner_of}
use Rattle.k_locks.specs.Asks.{Response}
use Rattle.k_locks.specs.Asks as asks
use Rattle.k_locks.specs.Hands.{Hand}
use Rattle.k_locks.specs.Shown.{is_dead, is_present_in}
use Rattle.k_script.specs.Plays.{IsInRange}
use Rattle.k_senders.specs.declared.entries.SenderEntry.{SenderEntry}
use Rattle.k_senders.specs.Entries.{number_of, sender_of}
use Rattle.k_ipc.specs.Candidates.{first_admitted}
use Rattle.k_ipc.specs.declared.receive.ReceiveCall.{ReceiveCall}
use Rattle.k_ipc.specs.declared.receive.ReceiveLocked.{ReceiveLocked}
use Rattle.k_ipc.specs.declared.receive.ReceiveLocked.TheVariants.{AcquireReady, CommitGone, CommitWait}
use Rattle.k_ipc.specs.declared.receive.ReceiveLocked.TheVariants.{EndPick, FreeNext}
use Rattle.k_ipc.specs.declared.receive.ReceiveLocked.TheVariants.{FreeSender, LoadNext, LoadOwn, LoadPartner}
use Rattle.k_ipc.specs.declared.receive.ReceiveLocked.TheVariants.{LoadPicking}
use Rattle.k_ipc.specs.declared.receive.ReceiveLocked.TheVariants.{LoadSender, Release, SettlePick}
use Rattle.k_ipc.specs.declared.receive.ReceiveOutside.TheVariants.{AcquireOwn, Ended, LoadCaller}
use Rattle.k_ipc.specs.declared.receive.ReceivePushing.TheVariants.{LoadFreed, PushFreed}
use Rattle.k_ipc.specs.declared.receive.ReceiveRelease.TheVariants as release
use Rattle.k_ipc.specs.ReceiveTable.{Locked, Outside, Pushing, ReceiveAt}
use Rattle.k_ipc.specs.ReceiveTable as receive
use Rattle.k_board.specs.Words.{Programs}
use Rattle.k_board.specs.Boards.{Board, Context}
use Rattle.k_board.specs.Facts.{AllSay}
use Rattle.k_board.specs.Places.{facts_receive}
use Rattle.k_board.specs.Steps.{Answers}
use Rattle.k_board.proofs.Cases.{if_cases}
use Rattle.k_turns.specs.Spelled.{IsSpelled}
use Rattle.k_spelled.specs.Words.{SpelledReceive}
use Rattle.k_spelled.proofs.Spellings.{changed, freed_spelled, lock_in, partner_in, sends_live}

from_partner : (size : ℕ) (from : Option ThreadId) → size ≤ 64 → IfSome from (IsInRange size) →
    IfSome from IsPartner
from_partner size None few h = tt
from_partner size (Some id) few h = partner_in size id few h

still_live : (c : ReceiveCall) (e : SenderEntry) (w : StateWord) → receive.still_waits c e w ≡ true →
    is_live w.state ≡ true
still_live c e w s = sends_live c.caller w.state (and_parts (w.version == (sender_of e).version) _ s).1

module _ (g : Programs) (b : Board) (i : ℕ) (x : Context) (few : b.size ≤ 64) (own : IsStateWord x.own) where
  settles : (on : Bool) (s was : State) → x.own.state ≡ was → is_live was ≡ true → is_live s ≡ true →
      IfSome (partner_of s) IsPartner → IsStateWord (record x.own { on = on; state = s })
  settles on s was e l is p = changed x.own on s own (subst (λ (q : State). is_live q ≡ true) (sym e) l) is p

  pub receive_spelled : (c : ReceiveCall) (p : ReceiveAt) → IsInRange b.size c.caller →
      IfSome c.from (IsInRange b.size) →
      SpelledReceive p → AllSay g b i x (facts_receive c p) → IsSpelled b.size (receive.ask_of c x.own p)
  receive_spelled c (Outside AcquireOwn) me from k h = lock_in b.size c.caller.number few me.number
  receive_spelled c (Locked (FreeSender e w)) me from k h =
      (k, freed_spelled c.caller w k (still_live c e w h.1.1.0) (partner_in b.size c.caller few me))
  receive_spelled c (Locked CommitWait) me from k h = (
    own,
    settles x.own.on (state.Receiving c.from) _ h.1.1.1.1.1.0.0.state refl refl
        (from_partner b.size c.from few from),
  )
  receive_spelled c (Locked (CommitGone q)) me from k h =
      (own, settles x.own.on (state.Run result4.Gone) _ h.1.1.1.0.2 refl refl tt)
  receive_spelled c (Locked (FreeNext e w)) me from k h =
      (k, freed_spelled c.caller w k (still_live c e w h.1.1.1.1.1.0) (partner_in b.size c.caller few me))
  receive_spelled c (Locked (EndPick e w)) me from k h =
      (own, settles true (state.Run result4.Plain) _ h.1.1.1.1.0.2 refl refl tt)
  receive_spelled c (Locked SettlePick) me from k h =
      (own, settles true (state.Receiving None) _ h.1.1.1.1.0.2 refl refl tt)
  receive_spelled c (Locked (Release r)) me from k h = lock_in b.size c.caller.number few me.number
  receive_spelled c (Outside LoadCaller) me from k h = tt
  receive_spelled c (Outside (Ended w)) me from k h = tt
  receive_spelled c (Pushing (LoadFreed e)) me from k h = tt
  receive_spelled c (Pushing (PushFreed e w)) me from k h = tt
  receive_spelled c p me from k h = tt

-- its own word is one that it wrote, or as before
pub receive_own : (size : ℕ) (c : ReceiveCall) (own : StateWord) (p : ReceiveAt) (r : Response) →
    IsStateWord own →
    IsSpelled size (receive.ask_of c own p) → IsStateWord (receive.own_of c own p r)
receive_own size c own (Locked CommitWait) asks.Won h s = s.1
receive_own size c own (Locked (CommitGone from)) asks.Won h s = s.1
receive_own size c own (Locked (EndPick e w)) asks.Won h s = s.1
receive_own size c own (Locked SettlePick) asks.Won h s = s.1
receive_own size c own p r h s = h

-- WHERE IT LEADS

abbrev Knows : ReceiveLocked → Type 0
Knows p = SpelledReceive (Locked p)

none_left_knows : (c : ReceiveCall) → Knows (receive.none_left c)
none_left_knows c = if_cases Knows c.zero (Release release.Nobody) CommitWait (λ e. tt) (λ e. tt)

try_sender_knows : (c : ReceiveCall) (o : Option SenderEntry) → Knows (receive.try_sender c o)
try_sender_knows c (Some e) = tt
try_sender_knows c None = none_left_knows c

try_next_knows : (o : Option SenderEntry) → Knows (receive.try_next o)
try_next_knows (Some e) = tt
try_next_knows None = tt

after_wait_knows : (from : Option ThreadId) → Knows (receive.after_wait from)
after_wait_knows None = tt
after_wait_knows (Some from) = tt

picking_knows : (o : Option SenderEntry) (s : State) → Knows (receive.picking_by o s)
picking_knows o state.Dead = tt
picking_knows o state.Picking = try_next_knows o
picking_knows o (state.Run r) = tt
picking_knows o (state.Sending to joined) = tt
picking_knows o (state.Receiving from) = tt
picking_knows o state.Ended = tt

after_free_knows : (e : SenderEntry) (w : StateWord) → Knows (receive.after_free e w)
after_free_knows e w =
    if_cases Knows (receive.stays_out w) (Release (release.Taken e)) (AcquireReady e) (λ q. tt) (λ q. tt)

first_knows : (c : ReceiveCall) → Knows (receive.first_locked c)
first_knows c = if_cases Knows c.picks LoadPicking LoadOwn (λ q. tt) (λ q. tt)

pub receive_knows : (b : Board) (c : ReceiveCall) (own : StateWord) (h : Hand) (p : ReceiveAt)
    (r : Response) →
    Answers b (receive.ask_of c own p) r → ((t : ℕ) → IsStateWord (b.seen t).word) → SpelledReceive p →
    SpelledReceive (receive.leads c h p r)
receive_knows b c own h (Outside AcquireOwn) asks.Got an words k = first_knows c
receive_knows b c own h (Locked LoadOwn) (asks.Word w) an words k =
    if_cases Knows (is_dead w) (Release release.Dead)
    (receive.try_sender c (first_admitted c.from h.queue.entries)) (λ q. tt)
    (λ q. try_sender_knows c (first_admitted c.from h.queue.entries))
receive_knows b c own h (Locked (LoadSender e)) (asks.Word w) an words k =
    if_cases Knows (receive.still_waits c e w) (FreeSender e w)
    (receive.try_sender c (receive.candidates_after c h e))
    (λ q. subst IsStateWord an (words (number_of e)))
    (λ q. try_sender_knows c (receive.candidates_after c h e))
receive_knows b c own h (Locked (FreeSender e w)) asks.Won an words k = after_free_knows e w
receive_knows b c own h (Locked (FreeSender e w)) (asks.Lost v) an words k = tt
receive_knows b c own h (Pushing (LoadFreed e)) (asks.Word w) an words k =
    subst IsStateWord an (words (number_of e))
receive_knows b c own h (Pushing (PushFreed e w)) asks.Released an words k = tt
receive_knows b c own h (Locked CommitWait) asks.Won an words k = after_wait_knows c.from
receive_knows b c own h (Locked (LoadPartner from)) (asks.Word w) an words k =
    if_cases Knows (is_present_in w from) (Release release.Waits) (CommitGone from) (λ q. tt) (λ q. tt)
receive_knows b c own h (Locked LoadPicking) (asks.Word w) an words k =
    picking_knows (first_admitted c.from h.queue.entries) w.state
receive_knows b c own h (Locked (LoadNext e)) (asks.Word w) an words k =
    if_cases Knows (receive.still_waits c e w) (FreeNext e w)
    (receive.try_next (receive.candidates_after c h e))
    (λ q. subst IsStateWord an (words (number_of e))) (λ q. try_next_knows (receive.candidates_after c h e))
receive_knows b c own h (Locked (FreeNext e w)) (asks.Lost v) an words k = tt
receive_knows b c own h (Locked (EndPick e w)) asks.Won an words k = after_free_knows e w
receive_knows b c own h (Outside LoadCaller) (asks.Word w) an words k = tt
receive_knows b c own h (Outside (Ended w)) r an words k = tt
receive_knows b c own h (Locked (AcquireReady e)) asks.Got an words k = tt
receive_knows b c own h (Locked (CommitGone from)) asks.Won an words k = tt
receive_knows b c own h (Locked (FreeNext e w)) asks.Won an words k = k
receive_knows b c own h (Locked SettlePick) asks.Won an words k = tt
receive_knows b c own h (Locked (Release r)) asks.Released an words k = tt
receive_knows b c own h p r an words k = k
