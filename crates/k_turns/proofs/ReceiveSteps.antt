-- A step of a receive or a pick in the raw world comes to a turn of the board.
use Rattle.std.proofs.Common.{◌≡◌, ℕ, ◌==◌, Bool, true, false, refl, sym, ap, ◌∙◌, subst, Option, Some, None}
use Rattle.std.specs.Prelude.{if◌then◌else◌}
use Rattle.k_ids.specs.declared.state_word.StateWord.{StateWord}
use Rattle.k_ids.specs.StateWords.{state_word_of}
use Rattle.k_locks.specs.declared.points.Point.{Point}
use Rattle.k_locks.specs.declared.steps.Answer.{Answer}
use Rattle.k_locks.specs.declared.steps.Went.TheVariants as went
use Rattle.k_locks.specs.Asks.{Ask, Response, hand_asked, response_of, step_for}
use Rattle.k_locks.specs.Asks as asks
use Rattle.k_locks.specs.Hands.{Hand, hand_with, trimmed}
use Rattle.k_locks.specs.Steps.{is_again, one_more}
use Rattle.k_locks.specs.Tables.{hand_came}
use Rattle.k_locks.proofs.Responses.{again_heard}
use Rattle.k_script.specs.Script.{Script}
use Rattle.k_ipc.specs.declared.receive.ReceiveCall.{ReceiveCall}
use Rattle.k_ipc.specs.declared.receive.ReceiveLocation.{ReceiveLocation}
use Rattle.k_ipc.specs.declared.receive.ReceiveLocation.TheVariants as location
use Rattle.k_ipc.specs.declared.receive.ReceiveOutside.TheVariants as outside
use Rattle.k_ipc.specs.declared.receive.ReceiveLocked.TheVariants as locked
use Rattle.k_ipc.specs.declared.receive.ReceivePushing.TheVariants as pushing
use Rattle.k_ipc.specs.declared.receive.ReceiveSection.{ReceiveSection}
use Rattle.k_ipc.specs.ReceiveTable.{ReceiveAt, Outside, Locked, Pushing, ask_of, asked, asked_location}
use Rattle.k_ipc.specs.ReceiveTable.{at_of, can_ask, hand_after, hand_of, is_open, leads}
use Rattle.k_ipc.specs.ReceiveTable.{location_with, locks_of, moved, own_of, points, pushed_at, went_at}
use Rattle.k_ipc.proofs.ReceiveLaws.{asked_at, asked_hand}
use Rattle.k_caller.specs.declared.activity.Activity.{Activity}
use Rattle.k_caller.specs.declared.activity.Activity.TheVariants as activity
use Rattle.k_caller.specs.Activities.{activity_after, after_went, own_after}
use Rattle.k_caller.specs.Threads.{ThreadSeen}
use Rattle.k_caller.specs.Threads as threads
use Rattle.k_context.specs.Contexts.{Thread}
use Rattle.k_carrier.specs.Moves.{Section}
use Rattle.k_carrier.specs.Seen.{HandSeen}
use Rattle.k_board.specs.Boards.{At, Board, Context, InReceive, hand_of as board_hand}
use Rattle.k_board.specs.Steps.{Answers, receive_at, receive_board}
use Rattle.k_board.specs.Turns.{receives}
use Rattle.k_good.specs.Locks.{LocksHold, locks_at}
use Rattle.k_places.specs.Contexts.{held_on, programs_of}
use Rattle.k_places.specs.Memory.{Memory, moved_maps}
use Rattle.k_places.specs.Asks.{IsAskFit}
use Rattle.k_turns.specs.Sections.{Comes, more, none, section_entry, section_maps}
use Rattle.k_turns.proofs.Entries.{entry_told}
use Rattle.k_places.specs.Answers.{answer_in, entry_in, goods_found}
use Rattle.k_places.specs.Shows.{Shows}
use Rattle.k_places.proofs.Goes.{Goes, KeepsVersion, goods_asked}
use Rattle.k_places.proofs.Heard.{again_asks, came_is}
use Rattle.k_places.proofs.Places.{version_held}
use Rattle.k_turns.proofs.Receives.{receive_goes}
use Rattle.k_places.proofs.Steps.{IsUsual}
use Rattle.k_places.proofs.Threads.{thread_steps}
use Rattle.k_places.proofs.Words.{step_finds}

-- what it has in hand is what the board has of its own queue and of the ready lists
held_is : (b : Board) (c : ReceiveCall) (p : ReceiveAt) →
    held_on b (locks_of c p) ≡ trimmed (locks_of c p) (board_hand b (b.queue c.caller.number))
held_is b c (Outside p) = refl
held_is b c (Locked p) = refl
held_is b c (Pushing p) = refl

open_at : (l : ReceiveLocation) → can_ask l ≡ true → is_open (at_of l) ≡ true
open_at (location.Outside outside.LoadCaller) e = refl
open_at (location.Outside outside.AcquireOwn) e = refl
open_at (location.Outside (outside.Ended w)) e = absurd cc
open_at (location.Locked p queue) e = refl
open_at (location.Pushing p queue lists) e = refl
open_at (location.ListsReturned q w queue) e = absurd cc
open_at (location.QueueReturned r) e = absurd cc

pub usual : (c : ReceiveCall) (own : StateWord) (p : ReceiveAt) → IsUsual (ask_of c own p)
usual c own (Outside outside.LoadCaller) = tt
usual c own (Outside outside.AcquireOwn) = tt
usual c own (Outside (outside.Ended w)) = tt
usual c own (Locked locked.LoadOwn) = tt
usual c own (Locked (locked.LoadSender q)) = tt
usual c own (Locked (locked.FreeSender q w)) = tt
usual c own (Locked (locked.AcquireReady q)) = tt
usual c own (Locked locked.CommitWait) = tt
usual c own (Locked (locked.LoadPartner from)) = tt
usual c own (Locked (locked.CommitGone from)) = tt
usual c own (Locked locked.LoadPicking) = tt
usual c own (Locked (locked.LoadNext q)) = tt
usual c own (Locked (locked.FreeNext q w)) = tt
usual c own (Locked (locked.EndPick q w)) = tt
usual c own (Locked locked.SettlePick) = tt
usual c own (Locked (locked.Release r)) = tt
usual c own (Pushing (pushing.LoadFreed q)) = tt
usual c own (Pushing (pushing.PushFreed q w)) = tt

-- how the activity goes on, by what was asked for
abbrev Made : ReceiveCall → StateWord → ℕ → ReceiveAt → Hand → Hand → Response → Activity
Made c own d p h came r =
    after_went c.caller (own_of c own p r) (activity.Receive
    (record { call = c; own = own_of c own p r; location = location_with came (leads c h p r); done = d }))
    (went_at (pushed_at p) (leads c h p r))

module _ (script : Script) (m : Memory) (b : Board) (c : ℕ) (call : ReceiveCall) (l : ReceiveLocation) (n d : ℕ) (own : StateWord)
    (k : HandSeen) (sh : Shows script m b) (locks : LocksHold b.owner b.table b.ready b.context) (was : m.hand c ≡ Some k)
    (mine : k.context ≡ call.caller.number) where
  abbrev X : Context
  X = b.context call.caller.number

  abbrev P : ReceiveAt
  P = at_of l

  abbrev A : Ask
  A = ask_of call X.own P

  abbrev Goes_home : Hand
  Goes_home = hand_after call (hand_of l) P asks.Released

  abbrev An : Answer
  An = answer_in m (step_for A Goes_home)

  abbrev R : Response
  R = response_of An A

  abbrev S : ReceiveSection
  S = record { call = call; own = X.own; location = l; done = n }

  abbrev T : ThreadSeen
  T = record { id = call.caller; position = X.position; own = own; serial = X.serial; done = d; activity = activity.Receive S }

  abbrev On : Hand
  On = board_hand b (b.queue call.caller.number)

  abbrev After : Board
  After = receive_board (programs_of script) b call.caller.number X call P R

  abbrev GoesSo : Activity → StateWord → Option Point → Type 0
  GoesSo doing word raw =
      Goes b After A (locks_of call P) doing word (receive_at call (leads call On P R)) (own_of call X.own P R)
      (hand_after call (trimmed (locks_of call P) On) P asks.Released) raw (points call (b.seen call.caller.number).word On P R)
      (KeepsVersion A)

  module _ (fit : IsAskFit m b A) (at : X.at ≡ InReceive call P) (can : can_ask l ≡ true)
      (hand : hand_of l ≡ trimmed (locks_of call P) On) (na : is_again An ≡ false) where
    abbrev L0 : ReceiveLocation
    L0 = asked_location l

    left_is : hand_of L0 ≡ hand_asked A (trimmed (locks_of call P) On)
    left_is = asked_hand call X.own l can ∙ ap (hand_asked A) hand

    -- what it is about then
    abbrev Raw : Bool → Bool → Activity
    Raw q q' =
        let s1 = if q then asked S else moved (asked S) An in
        after_went call.caller s1.own (activity.Receive s1) (if q' then went.Again else went_at (pushed_at (at_of L0))
        (leads call (hand_of L0) (at_of L0) (response_of An (ask_of call X.own (at_of L0)))))

    na' : asks.is_again (response_of An (ask_of call X.own (at_of L0))) ≡ false
    na' = sym (again_heard (ask_of call X.own (at_of L0)) An) ∙ na

    doing_is : activity_after call.caller own (activity.Receive (asked S)) An ≡
        Made call X.own (one_more n) P (hand_asked A (trimmed (locks_of call P) On))
        (hand_came R (goods_asked A b) (hand_after call (hand_asked A (trimmed (locks_of call P) On)) P R)) R
    doing_is = (λ e. Raw (na e) (na' e))
        ∙ (λ e. Made call X.own (one_more n) (asked_at l e) (left_is e)
        (hand_with An (hand_after call (left_is e) (asked_at l e) (response_of An (ask_of call X.own (asked_at l e)))))
        (response_of An (ask_of call X.own (asked_at l e))))
        ∙ ap (λ z. Made call X.own (one_more n) P (hand_asked A (trimmed (locks_of call P) On)) z R)
        (came_is m b sh.owners sh.goods.homes A Goes_home (hand_after call (hand_asked A (trimmed (locks_of call P) On)) P R) fit)

    own_is : own_after call.caller own (activity.Receive (asked S)) An ≡ own_of call X.own P R
    own_is =
        (λ e. (if na e then asked S else moved (asked S) An).own)
        ∙ (λ e. own_of call X.own (asked_at l e) (response_of An (ask_of call X.own (asked_at l e))))

    point_is : points call (state_word_of (m.state call.caller.number)) (hand_of L0) (at_of L0)
        (response_of An (ask_of call X.own (at_of L0))) ≡ points call (b.seen call.caller.number).word
        (hand_asked A (trimmed (locks_of call P) On)) P R
    point_is =
        λ e. points call (sym (sh.seen call.caller.number).word e) (left_is e) (asked_at l e)
        (response_of An (ask_of call X.own (asked_at l e)))

    goes_on : GoesSo (activity_after call.caller own (activity.Receive (asked S)) An)
        (own_after call.caller own (activity.Receive (asked S)) An)
        (points call (state_word_of (m.state call.caller.number)) (hand_of L0) (at_of L0)
        (response_of An (ask_of call X.own (at_of L0))))
    goes_on =
        let an = step_finds m b A Goes_home (goods_found m (step_for A Goes_home)) sh.seen sh.owners fit in
        let base = receive_goes (programs_of script) b X call (b.seen call.caller.number).word (one_more n) P R (open_at l can) an
        (sym (again_heard A An) ∙ na) in
        subst (λ (z : Activity). GoesSo z (own_after call.caller own (activity.Receive (asked S)) An)
        (points call (state_word_of (m.state call.caller.number)) (hand_of L0) (at_of L0)
        (response_of An (ask_of call X.own (at_of L0))))) (sym doing_is)
        (subst (λ (z : StateWord). GoesSo (Made call X.own (one_more n) P (hand_asked A (trimmed (locks_of call P) On))
        (hand_came R (goods_asked A b) (hand_after call (hand_asked A (trimmed (locks_of call P) On)) P R)) R) z
        (points call (state_word_of (m.state call.caller.number)) (hand_of L0) (at_of L0)
        (response_of An (ask_of call X.own (at_of L0))))) (sym own_is)
        (subst (GoesSo (Made call X.own (one_more n) P (hand_asked A (trimmed (locks_of call P) On))
        (hand_came R (goods_asked A b) (hand_after call (hand_asked A (trimmed (locks_of call P) On)) P R)) R)
        (own_of call X.own P R)) (sym point_is) base))

  -- where the same step comes again, all is as it was
  waits_on : (q : ReceiveLocation) (r : Response) (raw : Option Point) → Answers b (ask_of call X.own (at_of q)) r →
      asks.is_again r ≡ true → can_ask q ≡ true → hand_of q ≡ trimmed (locks_of call (at_of q)) On → raw ≡ None →
      Goes b (receive_board (programs_of script) b call.caller.number X call (at_of q) r) (ask_of call X.own (at_of q))
      (locks_of call (at_of q)) (activity.Receive (record {
        call = call;
        own = X.own;
        location = asked_location q;
        done = n;
      })) own (receive_at call (leads call On (at_of q) r)) (own_of call X.own (at_of q) r)
      (hand_after call (trimmed (locks_of call (at_of q)) On) (at_of q) asks.Released) raw
      (points call (b.seen call.caller.number).word On (at_of q) r) (KeepsVersion (ask_of call X.own (at_of q)))
  waits_on (location.Outside outside.AcquireOwn) (asks.Owned o) raw an ag can hand e = record {
    at = refl;
    own_word = refl;
    hand = hand;
    others = λ z h. refl;
    returned = tt;
    point = e;
    fits = tt;
    version = tt;
  }
  waits_on (location.Outside outside.AcquireOwn) asks.Got raw an ag can hand e = absurd cc
  waits_on (location.Outside outside.AcquireOwn) r raw an ag can hand e = absurd an
  waits_on (location.Locked (locked.AcquireReady entry) queue) (asks.Owned o) raw an ag can hand e = record {
    at = refl;
    own_word = refl;
    hand = hand;
    others = λ z h. refl;
    returned = tt;
    point = e;
    fits = tt;
    version = tt;
  }
  waits_on (location.Locked (locked.AcquireReady entry) queue) asks.Got raw an ag can hand e = absurd cc
  waits_on (location.Locked (locked.AcquireReady entry) queue) r raw an ag can hand e = absurd an
  waits_on (location.ListsReturned entry w queue) r raw an ag can hand e = absurd cc
  waits_on (location.QueueReturned q) r raw an ag can hand e = absurd cc
  waits_on (location.Pushing (pushing.LoadFreed entry) queue lists) r raw an ag can hand e =
      absurd (again_asks b (ask_of call X.own (Pushing (pushing.LoadFreed entry))) r an ag)
  waits_on (location.Pushing (pushing.PushFreed entry w) queue lists) r raw an ag can hand e =
      absurd (again_asks b (ask_of call X.own (Pushing (pushing.PushFreed entry w))) r an ag)
  waits_on q r raw an ag can hand e = absurd (again_asks b (ask_of call X.own (at_of q)) r an ag)

  no_point : (w : StateWord) (h : Hand) (p : ReceiveAt) (r : Response) → Answers b (ask_of call X.own p) r →
      asks.is_again r ≡ true → points call w h p r ≡ None
  no_point w h (Outside outside.AcquireOwn) r an ag = refl
  no_point w h (Locked (locked.AcquireReady entry)) r an ag = refl
  no_point w h (Pushing (pushing.LoadFreed entry)) r an ag =
      absurd (again_asks b (ask_of call X.own (Pushing (pushing.LoadFreed entry))) r an ag)
  no_point w h (Pushing (pushing.PushFreed entry v)) r an ag =
      absurd (again_asks b (ask_of call X.own (Pushing (pushing.PushFreed entry v))) r an ag)
  no_point w h p r an ag = absurd (again_asks b (ask_of call X.own p) r an ag)

  -- the thread then
  abbrev Then : Bool → ThreadSeen
  Then q = if q then threads.asked T else threads.moved (threads.asked T) An

  abbrev Raw_point : Option Point
  Raw_point =
      points call (state_word_of (m.state call.caller.number)) (hand_of (asked_location l)) (at_of (asked_location l))
      (response_of An (ask_of call X.own (at_of (asked_location l))))

  pub receive_steps : IsAskFit m b A → X.at ≡ InReceive call P → can_ask l ≡ true → hand_of l ≡ held_on b (locks_at X.at) →
      version_held k ≡ call.caller.version → ((b.seen call.caller.number).word.version == call.caller.version) ≡ true →
      Comes script (programs_of script) call.caller.number 1 b (section_maps script m c call.caller.number (Thread T)) (section_entry m call.caller.number (Thread T))
  receive_steps fit at can hand held ver = record {
    board = After;
    turns = more b After After (receives call P R at an) (none After);
    shows = by (is_again An) refl;
    entries = entry_told b m.serial sh.serials Raw_point (points call (b.seen call.caller.number).word On P R) (point_told (is_again An) refl);
  }
    where
      an : Answers b A R
      an = step_finds m b A Goes_home (goods_found m (step_for A Goes_home)) sh.seen sh.owners fit

      in_hand : hand_of l ≡ trimmed (locks_of call P) On
      in_hand = hand ∙ ap (λ p. held_on b (locks_at p)) at ∙ held_is b call P

      -- by whether the same step comes again
      shown : (t : ThreadSeen) → t.id ≡ call.caller → t.serial ≡ X.serial → t.position ≡ X.position →
          GoesSo t.activity t.own Raw_point → Shows script (moved_maps script m c call.caller.number
          (Section (step_for A Goes_home)) (Some (record { context = call.caller.number; value = Thread t }))
          (entry_in m.serial Raw_point)) After
      shown t is se po go =
          thread_steps script m b After c call.caller.number A Goes_home (goods_found m (step_for A Goes_home)) k
          (programs_of script) sh locks was mine fit t call.caller (receive_at call (leads call On P R))
          (own_of call X.own P R) Raw_point (points call (b.seen call.caller.number).word On P R)
          (usual call X.own P) held refl ver is se po
          (subst (λ (z : At). Goes b After A (locks_at z) t.activity t.own (receive_at call (leads call On P R))
          (own_of call X.own P R) Goes_home Raw_point (points call (b.seen call.caller.number).word On P R) (KeepsVersion A))
          (sym at)
          (subst (λ (z : Hand). Goes b After A (locks_of call P) t.activity t.own (receive_at call (leads call On P R))
          (own_of call X.own P R) (hand_after call z P asks.Released) Raw_point
          (points call (b.seen call.caller.number).word On P R) (KeepsVersion A)) (sym in_hand) go))
          (record { size = refl; seen = refl; owns = (refl, refl, refl); context = refl })

      -- the same step comes again
      waits : is_again An ≡ true → GoesSo (Then true).activity (Then true).own Raw_point
      waits e =
          let ag : asks.is_again R ≡ true = sym (again_heard A An) ∙ e in
          let back : Raw_point ≡ points call (state_word_of (m.state call.caller.number)) (hand_of (asked_location l)) P R =
          λ d. points call (state_word_of (m.state call.caller.number)) (hand_of (asked_location l)) (asked_at l d)
          (response_of An (ask_of call X.own (asked_at l d))) in
          waits_on l R Raw_point an ag can in_hand
          (back ∙ no_point (state_word_of (m.state call.caller.number)) (hand_of (asked_location l)) P R an ag)

      by : (q : Bool) → is_again An ≡ q → Shows script (moved_maps script m c call.caller.number (Section (step_for A Goes_home))
          (Some (record { context = call.caller.number; value = Thread (Then q) })) (entry_in m.serial Raw_point)) After
      by true e = shown (Then true) refl refl refl (waits e)
      by false e = shown (Then false) refl refl refl (goes_on fit at can in_hand e)

      point_told : (q : Bool) → is_again An ≡ q → Raw_point ≡ points call (b.seen call.caller.number).word On P R
      point_told true e = (waits e).point
      point_told false e = (goes_on fit at can in_hand e).point
