-- A step of a destroy in the raw world comes to a turn of the board.
use Rattle.std.proofs.Common.{◌≡◌, ℕ, ◌==◌, Bool, true, false, refl, sym, ap, ◌∙◌, subst, Option, Some, None}
use Rattle.std.specs.Prelude.{if◌then◌else◌}
use Rattle.k_ids.specs.declared.state_word.StateWord.{StateWord}
use Rattle.k_ids.specs.StateWords.{state_word_of}
use Rattle.k_locks.specs.declared.points.Point.{Point}
use Rattle.k_locks.specs.declared.steps.Answer.{Answer}
use Rattle.k_locks.specs.declared.steps.Went.TheVariants as went
use Rattle.k_locks.specs.Asks.{Ask, Response, hand_asked, response_of, step_for}
use Rattle.k_locks.specs.Asks as asks
use Rattle.k_locks.specs.Hands.{Hand, hand_with, trimmed}
use Rattle.k_locks.specs.Steps.{is_again, one_more}
use Rattle.k_locks.specs.Tables.{hand_came}
use Rattle.k_locks.proofs.Responses.{again_heard}
use Rattle.k_model.specs.Maps.{upd}
use Rattle.k_script.specs.Script.{Script}
use Rattle.k_threads.specs.declared.destroy.DestroyCall.{DestroyCall}
use Rattle.k_threads.specs.declared.destroy.DestroyLocation.{DestroyLocation}
use Rattle.k_threads.specs.declared.destroy.DestroyLocation.TheVariants as location
use Rattle.k_threads.specs.declared.destroy.DestroyOutside.TheVariants as outside
use Rattle.k_threads.specs.declared.destroy.DestroyLocked.TheVariants as locked
use Rattle.k_threads.specs.declared.destroy.DestroyVictim.TheVariants as victim
use Rattle.k_threads.specs.declared.destroy.DestroyVisit.TheVariants as visit
use Rattle.k_threads.specs.declared.destroy.DestroyPushing.TheVariants as pushing
use Rattle.k_threads.specs.declared.destroy.DestroySection.{DestroySection}
use Rattle.k_threads.specs.DestroyTable.{DestroyAt, Outside, Locked, Victim, Visit, UnlistVictim, Pushing, ask_of}
use Rattle.k_threads.specs.DestroyTable.{asked, asked_location, at_of, can_ask, hand_after, hand_of, is_open}
use Rattle.k_threads.specs.DestroyTable.{leads, location_with, locks_of, moved, own_of, points, pushed_at, went_at}
use Rattle.k_caller.specs.declared.activity.Activity.{Activity}
use Rattle.k_caller.specs.declared.activity.Activity.TheVariants as activity
use Rattle.k_caller.specs.Activities.{activity_after, after_went, own_after}
use Rattle.k_caller.specs.Threads.{ThreadSeen}
use Rattle.k_caller.specs.Threads as threads
use Rattle.k_context.specs.Contexts.{Thread}
use Rattle.k_carrier.specs.Moves.{Section}
use Rattle.k_carrier.specs.Seen.{HandSeen}
use Rattle.k_board.specs.Boards.{At, Board, Context, InDestroy, hand_of as board_hand}
use Rattle.k_board.specs.Steps.{Answers, destroy_at, destroy_board, destroy_contexts, destroy_number}
use Rattle.k_board.specs.Turns.{destroys}
use Rattle.k_good.specs.Locks.{LocksHold, locks_at}
use Rattle.k_places.specs.Contexts.{held_on, programs_of}
use Rattle.k_places.specs.Memory.{Memory, moved_maps}
use Rattle.k_places.specs.Asks.{IsAskFit}
use Rattle.k_turns.specs.Sections.{Comes, more, none, section_entry, section_maps}
use Rattle.k_turns.proofs.Entries.{entry_told}
use Rattle.k_places.specs.Answers.{answer_in, entry_in, goods_found}
use Rattle.k_places.specs.Shows.{Shows}
use Rattle.k_places.proofs.Goes.{Goes, KeepsVersion, goods_asked}
use Rattle.k_places.proofs.Heard.{again_asks, came_is}
use Rattle.k_places.proofs.Places.{version_held}
use Rattle.k_turns.proofs.Destroys.{KillsIt, destroy_goes}
use Rattle.k_places.proofs.Steps.{IsUsual, slots_usual, words_usual}
use Rattle.k_places.proofs.Threads.{context_then, thread_keeps}
use Rattle.k_places.proofs.Words.{step_finds}

-- what it has in hand is what the board has of what its locks guard
pub held_is : (b : Board) (c : DestroyCall) (p : DestroyAt) →
    held_on b (locks_of c p) ≡ trimmed (locks_of c p) (board_hand b (b.queue (destroy_number c p)))
held_is b c (Outside p) = refl
held_is b c (Locked p) = refl
held_is b c (Victim p) = refl
held_is b c (Visit p) = refl
held_is b c UnlistVictim = refl
held_is b c (Pushing p) = refl

open_at : (l : DestroyLocation) → can_ask l ≡ true → is_open (at_of l) ≡ true
open_at (location.Outside p) e = e
open_at (location.Locked p numbers) e = refl
open_at (location.Victim p numbers queue) e = refl
open_at (location.Visit p numbers queue) e = refl
open_at (location.UnlistVictim numbers lists) e = refl
open_at (location.Pushing p numbers queue lists) e = refl
open_at (location.Returned r) e = absurd cc

-- once it was asked for its step it stands at the same location, without what goes home
abbrev pub IsAsked : DestroyCall → StateWord → DestroyLocation → Type 0
IsAsked c own l =
    (at_of (asked_location l) ≡ at_of l) × (hand_of (asked_location l) ≡ hand_asked (ask_of c own (at_of l)) (hand_of l))

is_asked : (c : DestroyCall) (own : StateWord) (l : DestroyLocation) → can_ask l ≡ true → IsAsked c own l
is_asked c own (location.Outside outside.LoadOwn) e = (refl, refl)
is_asked c own (location.Outside outside.AcquireTable) e = (refl, refl)
is_asked c own (location.Locked locked.LoadCaller numbers) e = (refl, refl)
is_asked c own (location.Locked locked.AcquireVictimLock numbers) e = (refl, refl)
is_asked c own (location.Locked locked.AcquireReadyForVictim numbers) e = (refl, refl)
is_asked c own (location.Locked locked.RemoveContext numbers) e = (refl, refl)
is_asked c own (location.Locked (locked.AcquireVisitedLock n) numbers) e = (refl, refl)
is_asked c own (location.Locked (locked.Release q) numbers) e = (refl, refl)
is_asked c own (location.Victim victim.LoadVictim numbers queue) e = (refl, refl)
is_asked c own (location.Victim (victim.CommitKill seen) numbers queue) e = (refl, refl)
is_asked c own (location.Victim (victim.LoadSender n) numbers queue) e = (refl, refl)
is_asked c own (location.Victim (victim.FreeSender n seen) numbers queue) e = (refl, refl)
is_asked c own (location.Victim (victim.AcquireReadyForSender n seen) numbers queue) e = (refl, refl)
is_asked c own (location.Victim victim.ReleaseVictimLock numbers queue) e = (refl, refl)
is_asked c own (location.Victim (victim.ReleaseVictimLockAbsent found) numbers queue) e = (refl, refl)
is_asked c own (location.Visit (visit.LoadVisited n) numbers queue) e = (refl, refl)
is_asked c own (location.Visit (visit.FreeVisited n seen) numbers queue) e = (refl, refl)
is_asked c own (location.Visit (visit.AcquireReadyForVisited n seen) numbers queue) e = (refl, refl)
is_asked c own (location.Visit (visit.ReleaseVisitedLock n) numbers queue) e = (refl, refl)
is_asked c own (location.Pushing (pushing.PushSender n seen) numbers queue lists) e = (refl, refl)
is_asked c own (location.Pushing (pushing.PushVisited n seen) numbers queue lists) e = (refl, refl)
is_asked c own (location.Outside (outside.Ended w)) e = absurd cc
is_asked c own (location.UnlistVictim numbers lists) e = (refl, refl)
is_asked c own (location.Returned r) e = absurd cc

-- a location whose step is on no context
abbrev pub IsPlain : DestroyAt → Type 0
IsPlain (Locked locked.RemoveContext) = ⊥
IsPlain p = Unit {0}

pub usual : (c : DestroyCall) (own : StateWord) (p : DestroyAt) → IsPlain p → IsUsual (ask_of c own p)
usual c own (Outside outside.LoadOwn) h = tt
usual c own (Outside outside.AcquireTable) h = tt
usual c own (Locked locked.LoadCaller) h = tt
usual c own (Locked locked.AcquireVictimLock) h = tt
usual c own (Locked locked.AcquireReadyForVictim) h = tt
usual c own (Locked locked.RemoveContext) h = absurd h
usual c own (Locked (locked.AcquireVisitedLock n)) h = tt
usual c own (Locked (locked.Release q)) h = tt
usual c own (Victim victim.LoadVictim) h = tt
usual c own (Victim (victim.CommitKill seen)) h = tt
usual c own (Victim (victim.LoadSender n)) h = tt
usual c own (Victim (victim.FreeSender n seen)) h = tt
usual c own (Victim (victim.AcquireReadyForSender n seen)) h = tt
usual c own (Victim victim.ReleaseVictimLock) h = tt
usual c own (Victim (victim.ReleaseVictimLockAbsent found)) h = tt
usual c own (Visit (visit.LoadVisited n)) h = tt
usual c own (Visit (visit.FreeVisited n seen)) h = tt
usual c own (Visit (visit.AcquireReadyForVisited n seen)) h = tt
usual c own (Visit (visit.ReleaseVisitedLock n)) h = tt
usual c own (Pushing (pushing.PushSender n seen)) h = tt
usual c own (Pushing (pushing.PushVisited n seen)) h = tt
usual c own (Outside (outside.Ended w)) h = tt
usual c own UnlistVictim h = tt

same_contexts : (c : DestroyCall) (p : DestroyAt) (r : Response) (s : ℕ → Context) → IsPlain p → destroy_contexts c p r s ≡ s
same_contexts c (Outside p) r s h = refl
same_contexts c (Locked locked.LoadCaller) r s h = refl
same_contexts c (Locked locked.AcquireVictimLock) r s h = refl
same_contexts c (Locked locked.AcquireReadyForVictim) r s h = refl
same_contexts c (Locked locked.RemoveContext) r s h = absurd h
same_contexts c (Locked (locked.AcquireVisitedLock n)) r s h = refl
same_contexts c (Locked (locked.Release q)) r s h = refl
same_contexts c (Victim p) r s h = refl
same_contexts c (Visit p) r s h = refl
same_contexts c UnlistVictim r s h = refl
same_contexts c (Pushing p) r s h = refl

-- how the activity goes on, by what was asked for
abbrev Made : DestroyCall → StateWord → ℕ → DestroyAt → Hand → Hand → Response → Activity
Made c own d p h came r =
    after_went c.caller (own_of c own p r) (activity.Destroy
    (record { call = c; own = own_of c own p r; location = location_with came (leads c h p r); done = d }))
    (went_at (pushed_at c p) (leads c h p r))

module _ (script : Script) (m : Memory) (b : Board) (c i : ℕ) (call : DestroyCall) (l : DestroyLocation) (n d : ℕ)
    (own : StateWord) (k : HandSeen) (sh : Shows script m b) (locks : LocksHold b.owner b.table b.ready b.context)
    (was : m.hand c ≡ Some k) (mine : k.context ≡ i) where
  abbrev pub X : Context
  X = b.context i

  abbrev P : DestroyAt
  P = at_of l

  abbrev pub A : Ask
  A = ask_of call X.own P

  abbrev pub Goes_home : Hand
  Goes_home = hand_after call (hand_of l) P asks.Released

  abbrev pub An : Answer
  An = answer_in m (step_for A Goes_home)

  abbrev pub R : Response
  R = response_of An A

  abbrev S : DestroySection
  S = record { call = call; own = X.own; location = l; done = n }

  abbrev pub T : ThreadSeen
  T = record { id = call.caller; position = X.position; own = own; serial = X.serial; done = d; activity = activity.Destroy S }

  abbrev pub On : Hand
  On = board_hand b (b.queue (destroy_number call P))

  abbrev pub After : Board
  After = destroy_board (programs_of script) b i X call P R

  abbrev pub GoesSo : Activity → StateWord → Option Point → Type 0
  GoesSo doing word raw =
      Goes b After A (locks_of call P) doing word (destroy_at call (leads call On P R)) (own_of call X.own P R)
      (hand_after call (trimmed (locks_of call P) On) P asks.Released) raw (points call (b.seen i).word On P R) (KeepsVersion A)

  module _ (fit : IsAskFit m b A) (at : X.at ≡ InDestroy call P) (can : can_ask l ≡ true)
      (hand : hand_of l ≡ trimmed (locks_of call P) On) (na : is_again An ≡ false) where
    abbrev L0 : DestroyLocation
    L0 = asked_location l

    left_is : hand_of L0 ≡ hand_asked A (trimmed (locks_of call P) On)
    left_is = (is_asked call X.own l can).1 ∙ ap (hand_asked A) hand

    -- what it is about then
    abbrev Raw : Bool → Bool → Activity
    Raw q q' =
        let s1 = if q then asked S else moved (asked S) An in
        after_went call.caller s1.own (activity.Destroy s1) (if q' then went.Again else went_at (pushed_at call (at_of L0))
        (leads call (hand_of L0) (at_of L0) (response_of An (ask_of call X.own (at_of L0)))))

    na' : asks.is_again (response_of An (ask_of call X.own (at_of L0))) ≡ false
    na' = sym (again_heard (ask_of call X.own (at_of L0)) An) ∙ na

    doing_is : activity_after call.caller own (activity.Destroy (asked S)) An ≡
        Made call X.own (one_more n) P (hand_asked A (trimmed (locks_of call P) On))
        (hand_came R (goods_asked A b) (hand_after call (hand_asked A (trimmed (locks_of call P) On)) P R)) R
    doing_is = (λ e. Raw (na e) (na' e))
        ∙ (λ e. Made call X.own (one_more n) ((is_asked call X.own l can).0 e) (left_is e)
        (hand_with An (hand_after call (left_is e) ((is_asked call X.own l can).0 e)
        (response_of An (ask_of call X.own ((is_asked call X.own l can).0 e)))))
        (response_of An (ask_of call X.own ((is_asked call X.own l can).0 e))))
        ∙ ap (λ z. Made call X.own (one_more n) P (hand_asked A (trimmed (locks_of call P) On)) z R)
        (came_is m b sh.owners sh.goods.homes A Goes_home (hand_after call (hand_asked A (trimmed (locks_of call P) On)) P R) fit)

    own_is : own_after call.caller own (activity.Destroy (asked S)) An ≡ own_of call X.own P R
    own_is =
        (λ e. (if na e then asked S else moved (asked S) An).own)
        ∙ (λ e. own_of call X.own ((is_asked call X.own l can).0 e)
        (response_of An (ask_of call X.own ((is_asked call X.own l can).0 e))))

    point_is : points call (state_word_of (m.state i)) (hand_of L0) (at_of L0) (response_of An (ask_of call X.own (at_of L0))) ≡
        points call (b.seen i).word (hand_asked A (trimmed (locks_of call P) On)) P R
    point_is =
        λ e. points call (sym (sh.seen i).word e) (left_is e) ((is_asked call X.own l can).0 e)
        (response_of An (ask_of call X.own ((is_asked call X.own l can).0 e)))

    pub goes_on : KillsIt call P → GoesSo (activity_after call.caller own (activity.Destroy (asked S)) An)
        (own_after call.caller own (activity.Destroy (asked S)) An)
        (points call (state_word_of (m.state i)) (hand_of L0) (at_of L0) (response_of An (ask_of call X.own (at_of L0))))
    goes_on kv =
        let an = step_finds m b A Goes_home (goods_found m (step_for A Goes_home)) sh.seen sh.owners fit in
        let base = destroy_goes (programs_of script) b i X call (b.seen i).word (one_more n) P R (open_at l can) an
        (sym (again_heard A An) ∙ na) kv in
        subst (λ (z : Activity). GoesSo z (own_after call.caller own (activity.Destroy (asked S)) An)
        (points call (state_word_of (m.state i)) (hand_of L0) (at_of L0) (response_of An (ask_of call X.own (at_of L0)))))
        (sym doing_is)
        (subst (λ (z : StateWord). GoesSo (Made call X.own (one_more n) P (hand_asked A (trimmed (locks_of call P) On))
        (hand_came R (goods_asked A b) (hand_after call (hand_asked A (trimmed (locks_of call P) On)) P R)) R) z
        (points call (state_word_of (m.state i)) (hand_of L0) (at_of L0) (response_of An (ask_of call X.own (at_of L0)))))
        (sym own_is)
        (subst (GoesSo (Made call X.own (one_more n) P (hand_asked A (trimmed (locks_of call P) On))
        (hand_came R (goods_asked A b) (hand_after call (hand_asked A (trimmed (locks_of call P) On)) P R)) R)
        (own_of call X.own P R)) (sym point_is) base))

  -- where the same step comes again, all is as it was
  waits_on : (q : DestroyLocation) (r : Response) (raw : Option Point) → Answers b (ask_of call X.own (at_of q)) r →
      asks.is_again r ≡ true → can_ask q ≡ true → hand_of q ≡
      trimmed (locks_of call (at_of q)) (board_hand b (b.queue (destroy_number call (at_of q)))) → raw ≡ None →
      KillsIt call (at_of q) → Goes b (destroy_board (programs_of script) b i X call (at_of q) r) (ask_of call X.own (at_of q))
      (locks_of call (at_of q)) (activity.Destroy (record {
        call = call;
        own = X.own;
        location = asked_location q;
        done = n;
      })) own (destroy_at call (leads call (board_hand b (b.queue (destroy_number call (at_of q)))) (at_of q) r))
      (own_of call X.own (at_of q) r) (hand_after call (trimmed (locks_of call (at_of q))
      (board_hand b (b.queue (destroy_number call (at_of q))))) (at_of q) asks.Released) raw
      (points call (b.seen i).word (board_hand b (b.queue (destroy_number call (at_of q)))) (at_of q) r)
      (KeepsVersion (ask_of call X.own (at_of q)))
  waits_on (location.Outside outside.LoadOwn) r raw an ag can hand e kv =
      absurd (again_asks b (ask_of call X.own (Outside outside.LoadOwn)) r an ag)
  waits_on (location.Outside outside.AcquireTable) (asks.Owned o) raw an ag can hand e kv = record {
    at = refl;
    own_word = refl;
    hand = hand;
    others = λ z h. refl;
    returned = tt;
    point = e;
    fits = tt;
    version = tt;
  }
  waits_on (location.Outside outside.AcquireTable) asks.Got raw an ag can hand e kv = absurd cc
  waits_on (location.Outside outside.AcquireTable) r raw an ag can hand e kv = absurd an
  waits_on (location.Locked locked.LoadCaller numbers) r raw an ag can hand e kv =
      absurd (again_asks b (ask_of call X.own (Locked locked.LoadCaller)) r an ag)
  waits_on (location.Locked locked.AcquireVictimLock numbers) (asks.Owned o) raw an ag can hand e kv = record {
    at = refl;
    own_word = refl;
    hand = hand;
    others = λ z h. refl;
    returned = tt;
    point = e;
    fits = tt;
    version = tt;
  }
  waits_on (location.Locked locked.AcquireVictimLock numbers) asks.Got raw an ag can hand e kv = absurd cc
  waits_on (location.Locked locked.AcquireVictimLock numbers) r raw an ag can hand e kv = absurd an
  waits_on (location.Locked locked.AcquireReadyForVictim numbers) (asks.Owned o) raw an ag can hand e kv = record {
    at = refl;
    own_word = refl;
    hand = hand;
    others = λ z h. refl;
    returned = tt;
    point = e;
    fits = tt;
    version = tt;
  }
  waits_on (location.Locked locked.AcquireReadyForVictim numbers) asks.Got raw an ag can hand e kv = absurd cc
  waits_on (location.Locked locked.AcquireReadyForVictim numbers) r raw an ag can hand e kv = absurd an
  waits_on (location.Locked locked.RemoveContext numbers) asks.Kept raw an ag can hand e kv = record {
    at = refl;
    own_word = refl;
    hand = hand;
    others = λ z h. refl;
    returned = tt;
    point = e;
    fits = tt;
    version = tt;
  }
  waits_on (location.Locked locked.RemoveContext numbers) asks.Removed raw an ag can hand e kv = absurd cc
  waits_on (location.Locked locked.RemoveContext numbers) r raw an ag can hand e kv = absurd an
  waits_on (location.Locked (locked.AcquireVisitedLock n) numbers) (asks.Owned o) raw an ag can hand e kv = record {
    at = refl;
    own_word = refl;
    hand = hand;
    others = λ z h. refl;
    returned = tt;
    point = e;
    fits = tt;
    version = tt;
  }
  waits_on (location.Locked (locked.AcquireVisitedLock n) numbers) asks.Got raw an ag can hand e kv = absurd cc
  waits_on (location.Locked (locked.AcquireVisitedLock n) numbers) r raw an ag can hand e kv = absurd an
  waits_on (location.Locked (locked.Release q) numbers) r raw an ag can hand e kv =
      absurd (again_asks b (ask_of call X.own (Locked (locked.Release q))) r an ag)
  waits_on (location.Victim victim.LoadVictim numbers queue) r raw an ag can hand e kv =
      absurd (again_asks b (ask_of call X.own (Victim victim.LoadVictim)) r an ag)
  waits_on (location.Victim (victim.CommitKill seen) numbers queue) r raw an ag can hand e kv =
      absurd (again_asks b (ask_of call X.own (Victim (victim.CommitKill seen))) r an ag)
  waits_on (location.Victim (victim.LoadSender n) numbers queue) r raw an ag can hand e kv =
      absurd (again_asks b (ask_of call X.own (Victim (victim.LoadSender n))) r an ag)
  waits_on (location.Victim (victim.FreeSender n seen) numbers queue) r raw an ag can hand e kv =
      absurd (again_asks b (ask_of call X.own (Victim (victim.FreeSender n seen))) r an ag)
  waits_on (location.Victim (victim.AcquireReadyForSender n seen) numbers queue) (asks.Owned o) raw an ag can hand e kv = record {
    at = refl;
    own_word = refl;
    hand = hand;
    others = λ z h. refl;
    returned = tt;
    point = e;
    fits = tt;
    version = tt;
  }
  waits_on (location.Victim (victim.AcquireReadyForSender n seen) numbers queue) asks.Got raw an ag can hand e kv = absurd cc
  waits_on (location.Victim (victim.AcquireReadyForSender n seen) numbers queue) r raw an ag can hand e kv = absurd an
  waits_on (location.Victim victim.ReleaseVictimLock numbers queue) r raw an ag can hand e kv =
      absurd (again_asks b (ask_of call X.own (Victim victim.ReleaseVictimLock)) r an ag)
  waits_on (location.Victim (victim.ReleaseVictimLockAbsent found) numbers queue) r raw an ag can hand e kv =
      absurd (again_asks b (ask_of call X.own (Victim (victim.ReleaseVictimLockAbsent found))) r an ag)
  waits_on (location.Visit (visit.LoadVisited n) numbers queue) r raw an ag can hand e kv =
      absurd (again_asks b (ask_of call X.own (Visit (visit.LoadVisited n))) r an ag)
  waits_on (location.Visit (visit.FreeVisited n seen) numbers queue) r raw an ag can hand e kv =
      absurd (again_asks b (ask_of call X.own (Visit (visit.FreeVisited n seen))) r an ag)
  waits_on (location.Visit (visit.AcquireReadyForVisited n seen) numbers queue) (asks.Owned o) raw an ag can hand e kv = record {
    at = refl;
    own_word = refl;
    hand = hand;
    others = λ z h. refl;
    returned = tt;
    point = e;
    fits = tt;
    version = tt;
  }
  waits_on (location.Visit (visit.AcquireReadyForVisited n seen) numbers queue) asks.Got raw an ag can hand e kv = absurd cc
  waits_on (location.Visit (visit.AcquireReadyForVisited n seen) numbers queue) r raw an ag can hand e kv = absurd an
  waits_on (location.Visit (visit.ReleaseVisitedLock n) numbers queue) r raw an ag can hand e kv =
      absurd (again_asks b (ask_of call X.own (Visit (visit.ReleaseVisitedLock n))) r an ag)
  waits_on (location.Pushing (pushing.PushSender n seen) numbers queue lists) r raw an ag can hand e kv =
      absurd (again_asks b (ask_of call X.own (Pushing (pushing.PushSender n seen))) r an ag)
  waits_on (location.Pushing (pushing.PushVisited n seen) numbers queue lists) r raw an ag can hand e kv =
      absurd (again_asks b (ask_of call X.own (Pushing (pushing.PushVisited n seen))) r an ag)
  waits_on (location.UnlistVictim numbers lists) r raw an ag can hand e kv =
      absurd (again_asks b (ask_of call X.own UnlistVictim) r an ag)
  waits_on (location.Outside (outside.Ended w)) r raw an ag can hand e kv = absurd cc
  waits_on (location.Returned q) r raw an ag can hand e kv = absurd cc

  no_point : (w : StateWord) (h : Hand) (p : DestroyAt) (r : Response) → Answers b (ask_of call X.own p) r →
      asks.is_again r ≡ true → points call w h p r ≡ None
  no_point w h (Outside outside.LoadOwn) r an ag = absurd (again_asks b (ask_of call X.own (Outside outside.LoadOwn)) r an ag)
  no_point w h (Outside outside.AcquireTable) r an ag = refl
  no_point w h (Locked locked.LoadCaller) r an ag = absurd (again_asks b (ask_of call X.own (Locked locked.LoadCaller)) r an ag)
  no_point w h (Locked locked.AcquireVictimLock) r an ag = refl
  no_point w h (Locked locked.AcquireReadyForVictim) r an ag = refl
  no_point w h (Locked locked.RemoveContext) r an ag = refl
  no_point w h (Locked (locked.AcquireVisitedLock n)) r an ag = refl
  no_point w h (Locked (locked.Release q)) r an ag = absurd (again_asks b (ask_of call X.own (Locked (locked.Release q))) r an ag)
  no_point w h (Victim victim.LoadVictim) r an ag = absurd (again_asks b (ask_of call X.own (Victim victim.LoadVictim)) r an ag)
  no_point w h (Victim (victim.CommitKill seen)) r an ag =
      absurd (again_asks b (ask_of call X.own (Victim (victim.CommitKill seen))) r an ag)
  no_point w h (Victim (victim.LoadSender n)) r an ag =
      absurd (again_asks b (ask_of call X.own (Victim (victim.LoadSender n))) r an ag)
  no_point w h (Victim (victim.FreeSender n seen)) r an ag =
      absurd (again_asks b (ask_of call X.own (Victim (victim.FreeSender n seen))) r an ag)
  no_point w h (Victim (victim.AcquireReadyForSender n seen)) r an ag = refl
  no_point w h (Victim victim.ReleaseVictimLock) r an ag =
      absurd (again_asks b (ask_of call X.own (Victim victim.ReleaseVictimLock)) r an ag)
  no_point w h (Victim (victim.ReleaseVictimLockAbsent found)) r an ag =
      absurd (again_asks b (ask_of call X.own (Victim (victim.ReleaseVictimLockAbsent found))) r an ag)
  no_point w h (Visit (visit.LoadVisited n)) r an ag =
      absurd (again_asks b (ask_of call X.own (Visit (visit.LoadVisited n))) r an ag)
  no_point w h (Visit (visit.FreeVisited n seen)) r an ag =
      absurd (again_asks b (ask_of call X.own (Visit (visit.FreeVisited n seen))) r an ag)
  no_point w h (Visit (visit.AcquireReadyForVisited n seen)) r an ag = refl
  no_point w h (Visit (visit.ReleaseVisitedLock n)) r an ag =
      absurd (again_asks b (ask_of call X.own (Visit (visit.ReleaseVisitedLock n))) r an ag)
  no_point w h (Pushing (pushing.PushSender n seen)) r an ag =
      absurd (again_asks b (ask_of call X.own (Pushing (pushing.PushSender n seen))) r an ag)
  no_point w h (Pushing (pushing.PushVisited n seen)) r an ag =
      absurd (again_asks b (ask_of call X.own (Pushing (pushing.PushVisited n seen))) r an ag)
  no_point w h (Outside (outside.Ended v)) r an ag = refl
  no_point w h UnlistVictim r an ag = refl

  -- the thread then
  abbrev pub Then : Bool → ThreadSeen
  Then q = if q then threads.asked T else threads.moved (threads.asked T) An

  abbrev pub Raw_point : Option Point
  Raw_point =
      points call (state_word_of (m.state i)) (hand_of (asked_location l)) (at_of (asked_location l))
      (response_of An (ask_of call X.own (at_of (asked_location l))))

  -- a step that leaves the words of contexts, and their slots
  abbrev pub Maps : Memory
  Maps = moved_maps script m c i (Section (step_for A Goes_home)) None None

  pub destroy_keeps : Maps.context ≡ m.context → Maps.slot ≡ m.slot → destroy_contexts call P R b.context ≡ b.context →
      KillsIt call P → IsAskFit m b A → X.at ≡ InDestroy call P → can_ask l ≡ true → hand_of l ≡ held_on b (locks_at X.at) →
      version_held k ≡ call.caller.version → call.caller.number ≡ i → ((b.seen i).word.version == call.caller.version) ≡ true →
      Comes script (programs_of script) i 1 b (section_maps script m c i (Thread T)) (section_entry m i (Thread T))
  destroy_keeps wu su cu kv fit at can hand held num ver = record {
    board = After;
    turns = more b After After (destroys call P R at an) (none After);
    shows = by (is_again An) refl;
    entries =
        entry_told b m.serial sh.serials Raw_point (points call (b.seen i).word On P R) (point_told (is_again An) refl);
  }
    where
      an : Answers b A R
      an = step_finds m b A Goes_home (goods_found m (step_for A Goes_home)) sh.seen sh.owners fit

      in_hand : hand_of l ≡ trimmed (locks_of call P) On
      in_hand = hand ∙ ap (λ p. held_on b (locks_at p)) at ∙ held_is b call P

      -- by whether the same step comes again
      shown : (t : ThreadSeen) → t.id ≡ call.caller → t.serial ≡ X.serial → t.position ≡ X.position →
          GoesSo t.activity t.own Raw_point → Shows script (moved_maps script m c i (Section (step_for A Goes_home))
          (Some (record { context = i; value = Thread t })) (entry_in m.serial Raw_point)) After
      shown t is se po go =
          thread_keeps script m b After c i A Goes_home (goods_found m (step_for A Goes_home)) k
          (programs_of script) sh locks was mine fit t call.caller (destroy_at call (leads call On P R))
          (own_of call X.own P R) Raw_point (points call (b.seen i).word On P R) wu su held num ver is se po
          (subst (λ (z : At). Goes b After A (locks_at z) t.activity t.own (destroy_at call (leads call On P R))
          (own_of call X.own P R) Goes_home Raw_point (points call (b.seen i).word On P R) (KeepsVersion A)) (sym at)
          (subst (λ (z : Hand). Goes b After A (locks_of call P) t.activity t.own (destroy_at call (leads call On P R))
          (own_of call X.own P R) (hand_after call z P asks.Released) Raw_point (points call (b.seen i).word On P R)
          (KeepsVersion A)) (sym in_hand) go))
          (record {
            size = refl;
            seen = refl;
            owns = (refl, refl, refl);
            context = ap (λ (z : ℕ → Context). upd z i (context_then X X.own (destroy_at call (leads call On P R)))) cu;
          })

      -- the same step comes again
      waits : is_again An ≡ true → GoesSo (Then true).activity (Then true).own Raw_point
      waits e =
          let ag : asks.is_again R ≡ true = sym (again_heard A An) ∙ e in
          let back : Raw_point ≡ points call (state_word_of (m.state i)) (hand_of (asked_location l)) P R =
          λ d. points call (state_word_of (m.state i)) (hand_of (asked_location l)) ((is_asked call X.own l can).0 d)
          (response_of An (ask_of call X.own ((is_asked call X.own l can).0 d))) in
          waits_on l R Raw_point an ag can in_hand
          (back ∙ no_point (state_word_of (m.state i)) (hand_of (asked_location l)) P R an ag) kv

      by : (q : Bool) → is_again An ≡ q → Shows script (moved_maps script m c i (Section (step_for A Goes_home))
          (Some (record { context = i; value = Thread (Then q) })) (entry_in m.serial Raw_point)) After
      by true e = shown (Then true) refl refl refl (waits e)
      by false e = shown (Then false) refl refl refl (goes_on fit at can in_hand e kv)

      point_told : (q : Bool) → is_again An ≡ q → Raw_point ≡ points call (b.seen i).word On P R
      point_told true e = (waits e).point
      point_told false e = (goes_on fit at can in_hand e kv).point

  pub destroy_steps : IsPlain P → KillsIt call P → IsAskFit m b A → X.at ≡ InDestroy call P → can_ask l ≡ true →
      hand_of l ≡ held_on b (locks_at X.at) → version_held k ≡ call.caller.version → call.caller.number ≡ i →
      ((b.seen i).word.version == call.caller.version) ≡ true →
      Comes script (programs_of script) i 1 b (section_maps script m c i (Thread T)) (section_entry m i (Thread T))
  destroy_steps pl kv fit = destroy_keeps
      (words_usual script m b After c i A Goes_home (goods_found m (step_for A Goes_home)) k (Thread T) None X
      (programs_of script) X.position sh locks was mine fit (usual call X.own P pl))
      (slots_usual script m b After c i A Goes_home (goods_found m (step_for A Goes_home)) k (Thread T) None X
      (programs_of script) X.position sh locks was mine fit (usual call X.own P pl))
      (same_contexts call P R b.context pl) kv fit
