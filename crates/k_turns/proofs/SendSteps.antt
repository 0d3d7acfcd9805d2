-- A step of a send in the raw world comes to a turn of the board.
use Rattle.std.proofs.Common.{◌≡◌, ℕ, ◌==◌, Bool, true, false, refl, sym, ap, ◌∙◌, subst, Option, Some, None}
use Rattle.std.specs.Prelude.{if◌then◌else◌}
use Rattle.k_ids.specs.declared.state_word.StateWord.{StateWord}
use Rattle.k_ids.specs.StateWords.{state_word_of}
use Rattle.k_locks.specs.declared.points.Point.{Point}
use Rattle.k_locks.specs.declared.steps.Answer.{Answer}
use Rattle.k_locks.specs.declared.steps.Went.TheVariants as went
use Rattle.k_locks.specs.Asks.{Ask, Response, hand_asked, response_of, step_for}
use Rattle.k_locks.specs.Asks as asks
use Rattle.k_locks.specs.Hands.{Hand, hand_with, trimmed}
use Rattle.k_locks.specs.Steps.{is_again, one_more}
use Rattle.k_locks.specs.Tables.{hand_came}
use Rattle.k_locks.proofs.Responses.{again_heard}
use Rattle.k_script.specs.Script.{Script}
use Rattle.k_ipc.specs.declared.send.SendCall.{SendCall}
use Rattle.k_ipc.specs.declared.send.SendLocation.{SendLocation}
use Rattle.k_ipc.specs.declared.send.SendLocation.TheVariants as location
use Rattle.k_ipc.specs.declared.send.SendOutside.TheVariants as outside
use Rattle.k_ipc.specs.declared.send.SendLocked.TheVariants as locked
use Rattle.k_ipc.specs.declared.send.SendPushing.TheVariants as pushing
use Rattle.k_ipc.specs.declared.send.SendSection.{SendSection}
use Rattle.k_ipc.specs.SendTable.{SendAt, Outside, Locked, Pushing, ask_of, asked, asked_location, at_of, can_ask, hand_after}
use Rattle.k_ipc.specs.SendTable.{hand_of, is_open, leads, location_with, locks_of, moved, own_of, points, pushed_at, went_at}
use Rattle.k_ipc.proofs.SendLaws.{asked_at, asked_hand}
use Rattle.k_caller.specs.declared.activity.Activity.{Activity}
use Rattle.k_caller.specs.declared.activity.Activity.TheVariants as activity
use Rattle.k_caller.specs.Activities.{activity_after, after_went, own_after}
use Rattle.k_caller.specs.Threads.{ThreadSeen}
use Rattle.k_caller.specs.Threads as threads
use Rattle.k_context.specs.Contexts.{Thread}
use Rattle.k_carrier.specs.Moves.{Section}
use Rattle.k_carrier.specs.Seen.{HandSeen}
use Rattle.k_board.specs.Boards.{At, Board, Context, InSend, hand_of as board_hand}
use Rattle.k_board.specs.Steps.{Answers, send_at, send_board}
use Rattle.k_board.specs.Turns.{sends}
use Rattle.k_good.specs.Locks.{LocksHold, locks_at}
use Rattle.k_places.specs.Contexts.{held_on, programs_of}
use Rattle.k_places.specs.Memory.{Memory, moved_maps}
use Rattle.k_places.specs.Asks.{IsAskFit}
use Rattle.k_turns.specs.Sections.{Comes, more, none, section_entry, section_maps}
use Rattle.k_turns.proofs.Entries.{entry_told}
use Rattle.k_places.specs.Answers.{answer_in, entry_in, goods_found}
use Rattle.k_places.specs.Shows.{Shows}
use Rattle.k_places.proofs.Goes.{Goes, KeepsVersion, goods_asked}
use Rattle.k_places.proofs.Heard.{again_asks, came_is}
use Rattle.k_places.proofs.Places.{version_held}
use Rattle.k_turns.proofs.Sends.{send_goes}
use Rattle.k_places.proofs.Steps.{IsUsual}
use Rattle.k_places.proofs.Threads.{thread_steps}
use Rattle.k_places.proofs.Words.{step_finds}

-- what it has in hand is what the board has of the receiver's queue and of the ready lists
held_is : (b : Board) (c : SendCall) (p : SendAt) → held_on b (locks_of c p) ≡
    trimmed (locks_of c p) (board_hand b (b.queue c.to.number))
held_is b c (Outside p) = refl
held_is b c (Locked p) = refl
held_is b c (Pushing p) = refl

open_at : (l : SendLocation) → can_ask l ≡ true → is_open (at_of l) ≡ true
open_at (location.Outside outside.LoadCaller) e = refl
open_at (location.Outside outside.AcquireReceiver) e = refl
open_at (location.Outside (outside.CheckCaller r)) e = refl
open_at (location.Outside (outside.Ended w)) e = absurd cc
open_at (location.Locked p queue) e = refl
open_at (location.Pushing p queue lists) e = refl
open_at (location.ListsReturned p queue) e = absurd cc
open_at (location.QueueReturned r) e = absurd cc

pub usual : (c : SendCall) (own : StateWord) (p : SendAt) → IsUsual (ask_of c own p)
usual c own (Outside outside.LoadCaller) = tt
usual c own (Outside outside.AcquireReceiver) = tt
usual c own (Outside (outside.CheckCaller r)) = tt
usual c own (Outside (outside.Ended w)) = tt
usual c own (Locked locked.LoadReceiver) = tt
usual c own (Locked (locked.StoreMail w)) = tt
usual c own (Locked (locked.CommitPass w)) = tt
usual c own (Locked (locked.WakeReceiver w)) = tt
usual c own (Locked locked.ReloadReceiver) = tt
usual c own (Locked (locked.AcquireReady priority)) = tt
usual c own (Locked locked.CommitWait) = tt
usual c own (Locked (locked.Release r)) = tt
usual c own (Pushing (pushing.PushReceiver priority)) = tt

-- how the activity goes on, by what was asked for
abbrev Made : SendCall → StateWord → ℕ → SendAt → Hand → Hand → Response → Activity
Made c own d p h came r =
    after_went c.caller (own_of c own p r) (activity.Send
    (record { call = c; own = own_of c own p r; location = location_with came (leads c h p r); done = d }))
    (went_at (pushed_at p) (leads c h p r))

module _ (script : Script) (m : Memory) (b : Board) (c i : ℕ) (call : SendCall) (l : SendLocation) (n d : ℕ) (own : StateWord)
    (k : HandSeen) (sh : Shows script m b) (locks : LocksHold b.owner b.table b.ready b.context) (was : m.hand c ≡ Some k)
    (mine : k.context ≡ i) where
  abbrev X : Context
  X = b.context i

  abbrev P : SendAt
  P = at_of l

  abbrev A : Ask
  A = ask_of call X.own P

  abbrev Goes_home : Hand
  Goes_home = hand_after call (hand_of l) P asks.Released

  abbrev An : Answer
  An = answer_in m (step_for A Goes_home)

  abbrev R : Response
  R = response_of An A

  abbrev S : SendSection
  S = record { call = call; own = X.own; location = l; done = n }

  abbrev T : ThreadSeen
  T = record { id = call.caller; position = X.position; own = own; serial = X.serial; done = d; activity = activity.Send S }

  abbrev On : Hand
  On = board_hand b (b.queue call.to.number)

  abbrev After : Board
  After = send_board (programs_of script) b i X call P R

  abbrev GoesSo : Activity → StateWord → Option Point → Type 0
  GoesSo doing word raw =
      Goes b After A (locks_of call P) doing word (send_at call (leads call On P R)) (own_of call X.own P R)
      (hand_after call (trimmed (locks_of call P) On) P asks.Released) raw (points call (b.seen i).word On P R) (KeepsVersion A)

  module _ (fit : IsAskFit m b A) (at : X.at ≡ InSend call P) (can : can_ask l ≡ true)
      (hand : hand_of l ≡ trimmed (locks_of call P) On) (na : is_again An ≡ false) where
    abbrev L0 : SendLocation
    L0 = asked_location l

    left_is : hand_of L0 ≡ hand_asked A (trimmed (locks_of call P) On)
    left_is = asked_hand call X.own l can ∙ ap (hand_asked A) hand

    -- what it is about then
    abbrev Raw : Bool → Bool → Activity
    Raw q q' =
        let s1 = if q then asked S else moved (asked S) An in
        after_went call.caller s1.own (activity.Send s1) (if q' then went.Again else went_at (pushed_at (at_of L0))
        (leads call (hand_of L0) (at_of L0) (response_of An (ask_of call X.own (at_of L0)))))

    na' : asks.is_again (response_of An (ask_of call X.own (at_of L0))) ≡ false
    na' = sym (again_heard (ask_of call X.own (at_of L0)) An) ∙ na

    doing_is : activity_after call.caller own (activity.Send (asked S)) An ≡
        Made call X.own (one_more n) P (hand_asked A (trimmed (locks_of call P) On))
        (hand_came R (goods_asked A b) (hand_after call (hand_asked A (trimmed (locks_of call P) On)) P R)) R
    doing_is = (λ e. Raw (na e) (na' e))
        ∙ (λ e. Made call X.own (one_more n) (asked_at l e) (left_is e)
        (hand_with An (hand_after call (left_is e) (asked_at l e) (response_of An (ask_of call X.own (asked_at l e)))))
        (response_of An (ask_of call X.own (asked_at l e))))
        ∙ ap (λ z. Made call X.own (one_more n) P (hand_asked A (trimmed (locks_of call P) On)) z R)
        (came_is m b sh.owners sh.goods.homes A Goes_home (hand_after call (hand_asked A (trimmed (locks_of call P) On)) P R) fit)

    own_is : own_after call.caller own (activity.Send (asked S)) An ≡ own_of call X.own P R
    own_is =
        (λ e. (if na e then asked S else moved (asked S) An).own)
        ∙ (λ e. own_of call X.own (asked_at l e) (response_of An (ask_of call X.own (asked_at l e))))

    point_is : points call (state_word_of (m.state i)) (hand_of L0) (at_of L0) (response_of An (ask_of call X.own (at_of L0))) ≡
        points call (b.seen i).word (hand_asked A (trimmed (locks_of call P) On)) P R
    point_is =
        λ e. points call (sym (sh.seen i).word e) (left_is e) (asked_at l e) (response_of An (ask_of call X.own (asked_at l e)))

    goes_on : GoesSo (activity_after call.caller own (activity.Send (asked S)) An)
        (own_after call.caller own (activity.Send (asked S)) An)
        (points call (state_word_of (m.state i)) (hand_of L0) (at_of L0) (response_of An (ask_of call X.own (at_of L0))))
    goes_on =
        let an = step_finds m b A Goes_home (goods_found m (step_for A Goes_home)) sh.seen sh.owners fit in
        let base = send_goes (programs_of script) b i X call (b.seen i).word (one_more n) P R (open_at l can) an
        (sym (again_heard A An) ∙ na) in
        subst (λ (z : Activity). GoesSo z (own_after call.caller own (activity.Send (asked S)) An)
        (points call (state_word_of (m.state i)) (hand_of L0) (at_of L0) (response_of An (ask_of call X.own (at_of L0)))))
        (sym doing_is)
        (subst (λ (z : StateWord). GoesSo (Made call X.own (one_more n) P (hand_asked A (trimmed (locks_of call P) On))
        (hand_came R (goods_asked A b) (hand_after call (hand_asked A (trimmed (locks_of call P) On)) P R)) R) z
        (points call (state_word_of (m.state i)) (hand_of L0) (at_of L0) (response_of An (ask_of call X.own (at_of L0)))))
        (sym own_is)
        (subst (GoesSo (Made call X.own (one_more n) P (hand_asked A (trimmed (locks_of call P) On))
        (hand_came R (goods_asked A b) (hand_after call (hand_asked A (trimmed (locks_of call P) On)) P R)) R)
        (own_of call X.own P R)) (sym point_is) base))

  -- where the same step comes again, all is as it was
  waits_on : (q : SendLocation) (r : Response) (raw : Option Point) → Answers b (ask_of call X.own (at_of q)) r →
      asks.is_again r ≡ true → can_ask q ≡ true → hand_of q ≡ trimmed (locks_of call (at_of q)) On → raw ≡ None →
      Goes b (send_board (programs_of script) b i X call (at_of q) r) (ask_of call X.own (at_of q)) (locks_of call (at_of q))
      (activity.Send (record { call = call; own = X.own; location = asked_location q; done = n })) own
      (send_at call (leads call On (at_of q) r)) (own_of call X.own (at_of q) r)
      (hand_after call (trimmed (locks_of call (at_of q)) On) (at_of q) asks.Released) raw
      (points call (b.seen i).word On (at_of q) r) (KeepsVersion (ask_of call X.own (at_of q)))
  waits_on (location.Outside outside.AcquireReceiver) (asks.Owned o) raw an ag can hand e = record {
    at = refl;
    own_word = refl;
    hand = hand;
    others = λ z h. refl;
    returned = tt;
    point = e;
    fits = tt;
    version = tt;
  }
  waits_on (location.Outside outside.AcquireReceiver) asks.Got raw an ag can hand e = absurd cc
  waits_on (location.Outside outside.AcquireReceiver) r raw an ag can hand e = absurd an
  waits_on (location.Locked (locked.AcquireReady priority) queue) (asks.Owned o) raw an ag can hand e = record {
    at = refl;
    own_word = refl;
    hand = hand;
    others = λ z h. refl;
    returned = tt;
    point = e;
    fits = tt;
    version = tt;
  }
  waits_on (location.Locked (locked.AcquireReady priority) queue) asks.Got raw an ag can hand e = absurd cc
  waits_on (location.Locked (locked.AcquireReady priority) queue) r raw an ag can hand e = absurd an
  waits_on (location.ListsReturned q queue) r raw an ag can hand e = absurd cc
  waits_on (location.QueueReturned q) r raw an ag can hand e = absurd cc
  waits_on (location.Pushing (pushing.PushReceiver priority) queue lists) r raw an ag can hand e =
      absurd (again_asks b (ask_of call X.own (Pushing (pushing.PushReceiver priority))) r an ag)
  waits_on q r raw an ag can hand e = absurd (again_asks b (ask_of call X.own (at_of q)) r an ag)

  no_point : (w : StateWord) (h : Hand) (p : SendAt) (r : Response) → Answers b (ask_of call X.own p) r → asks.is_again r ≡ true →
      points call w h p r ≡ None
  no_point w h (Outside outside.AcquireReceiver) r an ag = refl
  no_point w h (Locked (locked.AcquireReady priority)) r an ag = refl
  no_point w h (Pushing (pushing.PushReceiver priority)) r an ag =
      absurd (again_asks b (ask_of call X.own (Pushing (pushing.PushReceiver priority))) r an ag)
  no_point w h p r an ag = absurd (again_asks b (ask_of call X.own p) r an ag)

  -- the thread then
  abbrev Then : Bool → ThreadSeen
  Then q = if q then threads.asked T else threads.moved (threads.asked T) An

  abbrev Raw_point : Option Point
  Raw_point =
      points call (state_word_of (m.state i)) (hand_of (asked_location l)) (at_of (asked_location l))
      (response_of An (ask_of call X.own (at_of (asked_location l))))

  pub send_steps : IsAskFit m b A → X.at ≡ InSend call P → can_ask l ≡ true → hand_of l ≡ held_on b (locks_at X.at) →
      version_held k ≡ call.caller.version → call.caller.number ≡ i → ((b.seen i).word.version == call.caller.version) ≡ true →
      Comes script (programs_of script) i 1 b (section_maps script m c i (Thread T)) (section_entry m i (Thread T))
  send_steps fit at can hand held num ver = record {
    board = After;
    turns = more b After After (sends call P R at an) (none After);
    shows = by (is_again An) refl;
    entries = entry_told b m.serial sh.serials Raw_point (points call (b.seen i).word On P R) (point_told (is_again An) refl);
  }
    where
      an : Answers b A R
      an = step_finds m b A Goes_home (goods_found m (step_for A Goes_home)) sh.seen sh.owners fit

      in_hand : hand_of l ≡ trimmed (locks_of call P) On
      in_hand = hand ∙ ap (λ p. held_on b (locks_at p)) at ∙ held_is b call P

      -- by whether the same step comes again
      shown : (t : ThreadSeen) → t.id ≡ call.caller → t.serial ≡ X.serial → t.position ≡ X.position →
          GoesSo t.activity t.own Raw_point → Shows script (moved_maps script m c i (Section (step_for A Goes_home))
          (Some (record { context = i; value = Thread t })) (entry_in m.serial Raw_point)) After
      shown t is se po go =
          thread_steps script m b After c i A Goes_home (goods_found m (step_for A Goes_home)) k
          (programs_of script) sh locks was mine fit t call.caller (send_at call (leads call On P R))
          (own_of call X.own P R) Raw_point (points call (b.seen i).word On P R) (usual call X.own P) held num ver is se po
          (subst (λ (z : At). Goes b After A (locks_at z) t.activity t.own (send_at call (leads call On P R))
          (own_of call X.own P R) Goes_home Raw_point (points call (b.seen i).word On P R) (KeepsVersion A)) (sym at)
          (subst (λ (z : Hand). Goes b After A (locks_of call P) t.activity t.own (send_at call (leads call On P R))
          (own_of call X.own P R) (hand_after call z P asks.Released) Raw_point (points call (b.seen i).word On P R)
          (KeepsVersion A)) (sym in_hand) go))
          (record { size = refl; seen = refl; owns = (refl, refl, refl); context = refl })

      -- the same step comes again
      waits : is_again An ≡ true → GoesSo (Then true).activity (Then true).own Raw_point
      waits e =
          let ag : asks.is_again R ≡ true = sym (again_heard A An) ∙ e in
          let back : Raw_point ≡ points call (state_word_of (m.state i)) (hand_of (asked_location l)) P R =
          λ d. points call (state_word_of (m.state i)) (hand_of (asked_location l)) (asked_at l d)
          (response_of An (ask_of call X.own (asked_at l d))) in
          waits_on l R Raw_point an ag can in_hand
          (back ∙ no_point (state_word_of (m.state i)) (hand_of (asked_location l)) P R an ag)

      by : (q : Bool) → is_again An ≡ q → Shows script (moved_maps script m c i (Section (step_for A Goes_home))
          (Some (record { context = i; value = Thread (Then q) })) (entry_in m.serial Raw_point)) After
      by true e = shown (Then true) refl refl refl (waits e)
      by false e = shown (Then false) refl refl refl (goes_on fit at can in_hand e)

      point_told : (q : Bool) → is_again An ≡ q → Raw_point ≡ points call (b.seen i).word On P R
      point_told true e = (waits e).point
      point_told false e = (goes_on fit at can in_hand e).point
