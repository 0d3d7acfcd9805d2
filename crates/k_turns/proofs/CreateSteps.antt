-- A step of a create in the raw world comes to a turn of the board.
use Rattle.std.proofs.Common.{◌≡◌, ℕ, ◌==◌, Bool, true, false, refl, sym, ap, ◌∙◌, subst, Option, Some, None, []}
use Rattle.std.specs.Prelude.{if◌then◌else◌}
use Rattle.k_ids.specs.declared.state_word.StateWord.{StateWord}
use Rattle.k_ids.specs.StateWords.{state_word_of}
use Rattle.k_locks.specs.declared.points.Point.{Point}
use Rattle.k_locks.specs.declared.steps.Answer.{Answer}
use Rattle.k_locks.specs.declared.steps.Went.TheVariants as went
use Rattle.k_locks.specs.Asks.{Ask, Response, hand_asked, response_of, step_for}
use Rattle.k_locks.specs.Asks as asks
use Rattle.k_locks.specs.Hands.{Hand, hand_with, trimmed}
use Rattle.k_locks.specs.Steps.{is_again, one_more}
use Rattle.k_locks.specs.Tables.{hand_came}
use Rattle.k_locks.proofs.Responses.{again_heard}
use Rattle.k_model.specs.Maps.{upd}
use Rattle.k_script.specs.Script.{Script}
use Rattle.k_threads.specs.declared.create.CreateCall.{CreateCall}
use Rattle.k_threads.specs.declared.create.CreateLocation.{CreateLocation}
use Rattle.k_threads.specs.declared.create.CreateLocation.TheVariants as location
use Rattle.k_threads.specs.declared.create.CreateOutside.TheVariants as outside
use Rattle.k_threads.specs.declared.create.CreateLocked.TheVariants as locked
use Rattle.k_threads.specs.declared.create.CreateSection.{CreateSection}
use Rattle.k_threads.specs.CreateTable.{CreateAt, Outside, Locked, PushCreated, ask_of, asked, asked_location}
use Rattle.k_threads.specs.CreateTable.{at_of, can_ask, hand_after, hand_of, is_open, leads}
use Rattle.k_threads.specs.CreateTable.{location_with, locks_of, moved, own_of, points, pushed_at, went_at}
use Rattle.k_caller.specs.declared.activity.Activity.{Activity}
use Rattle.k_caller.specs.declared.activity.Activity.TheVariants as activity
use Rattle.k_caller.specs.Activities.{activity_after, after_went, own_after}
use Rattle.k_caller.specs.Threads.{ThreadSeen}
use Rattle.k_caller.specs.Threads as threads
use Rattle.k_context.specs.Contexts.{Thread}
use Rattle.k_carrier.specs.Moves.{Section}
use Rattle.k_carrier.specs.Seen.{HandSeen}
use Rattle.k_board.specs.Boards.{At, Board, Context, InCreate, hand_of as board_hand}
use Rattle.k_board.specs.Words.{Programs}
use Rattle.k_board.specs.Steps.{Answers, create_at, create_board, create_contexts}
use Rattle.k_board.specs.Turns.{creates}
use Rattle.k_good.specs.Locks.{LocksHold, locks_at}
use Rattle.k_places.specs.Contexts.{held_on, programs_of}
use Rattle.k_places.specs.Memory.{Memory, moved_maps}
use Rattle.k_places.specs.Asks.{IsAskFit}
use Rattle.k_turns.specs.Sections.{Comes, more, none, section_entry, section_maps}
use Rattle.k_turns.proofs.Entries.{entry_told}
use Rattle.k_places.specs.Answers.{answer_in, entry_in, goods_found}
use Rattle.k_places.specs.Shows.{Shows}
use Rattle.k_places.proofs.Goes.{Goes, KeepsVersion, goods_asked, versioned}
use Rattle.k_places.proofs.Heard.{again_asks, came_is}
use Rattle.k_places.proofs.Places.{version_held}
use Rattle.k_turns.proofs.Creates.{create_goes}
use Rattle.k_places.proofs.Steps.{IsUsual}
use Rattle.k_places.proofs.Threads.{context_then, thread_steps}
use Rattle.k_places.proofs.Words.{step_finds}

-- what it has in hand is what the board has of the list of numbers and of the ready lists
pub held_is : (b : Board) (c : CreateCall) (p : CreateAt) → held_on b (locks_of c p) ≡ trimmed (locks_of c p) (board_hand b [])
held_is b c (Outside p) = refl
held_is b c (Locked p) = refl
held_is b c (PushCreated id) = refl

open_at : (l : CreateLocation) → can_ask l ≡ true → is_open (at_of l) ≡ true
open_at (location.Outside p) e = e
open_at (location.Locked p numbers) e = refl
open_at (location.PushCreated id numbers lists) e = refl
open_at (location.ListsReturned id numbers) e = absurd cc
open_at (location.NumbersReturned r) e = absurd cc

-- once it was asked for its step it stands at the same location, without what goes home
abbrev pub IsAsked : CreateCall → StateWord → CreateLocation → Type 0
IsAsked c own l =
    (at_of (asked_location l) ≡ at_of l) × (hand_of (asked_location l) ≡ hand_asked (ask_of c own (at_of l)) (hand_of l))

is_asked : (c : CreateCall) (own : StateWord) (l : CreateLocation) → IsAsked c own l
is_asked c own (location.Outside outside.AcquireTable) = (refl, refl)
is_asked c own (location.Outside (outside.Ended w)) = (refl, refl)
is_asked c own (location.Locked locked.LoadCaller numbers) = (refl, refl)
is_asked c own (location.Locked (locked.PlaceContext id) numbers) = (refl, refl)
is_asked c own (location.Locked (locked.CommitCreate id) numbers) = (refl, refl)
is_asked c own (location.Locked (locked.AcquireReady id) numbers) = (refl, refl)
is_asked c own (location.Locked (locked.Release r) numbers) = (refl, refl)
is_asked c own (location.PushCreated id numbers lists) = (refl, refl)
is_asked c own (location.ListsReturned id numbers) = (refl, refl)
is_asked c own (location.NumbersReturned r) = (refl, refl)

asked_at : (l : CreateLocation) (c : CreateCall) (own : StateWord) → at_of (asked_location l) ≡ at_of l
asked_at l c own = (is_asked c own l).0

-- a location whose step is on no context, and makes no thread
abbrev pub IsPlain : CreateAt → Type 0
IsPlain (Locked (locked.PlaceContext id)) = ⊥
IsPlain (Locked (locked.CommitCreate id)) = ⊥
IsPlain p = Unit {0}

pub usual : (c : CreateCall) (own : StateWord) (p : CreateAt) → IsPlain p → IsUsual (ask_of c own p)
usual c own (Outside outside.AcquireTable) h = tt
usual c own (Outside (outside.Ended w)) h = tt
usual c own (Locked locked.LoadCaller) h = tt
usual c own (Locked (locked.PlaceContext id)) h = absurd h
usual c own (Locked (locked.CommitCreate id)) h = absurd h
usual c own (Locked (locked.AcquireReady id)) h = tt
usual c own (Locked (locked.Release r)) h = tt
usual c own (PushCreated id) h = tt

same_version : (c : CreateCall) (own : StateWord) (p : CreateAt) → IsPlain p → KeepsVersion (ask_of c own p)
same_version c own (Outside outside.AcquireTable) h = tt
same_version c own (Outside (outside.Ended w)) h = tt
same_version c own (Locked locked.LoadCaller) h = tt
same_version c own (Locked (locked.PlaceContext id)) h = absurd h
same_version c own (Locked (locked.CommitCreate id)) h = absurd h
same_version c own (Locked (locked.AcquireReady id)) h = tt
same_version c own (Locked (locked.Release r)) h = tt
same_version c own (PushCreated id) h = tt

same_contexts : (g : Programs) (c : CreateCall) (p : CreateAt) (r : Response) (s : ℕ → Context) → IsPlain p →
    create_contexts g c p r s ≡ s
same_contexts g c (Outside p) r s h = refl
same_contexts g c (Locked locked.LoadCaller) r s h = refl
same_contexts g c (Locked (locked.PlaceContext id)) r s h = absurd h
same_contexts g c (Locked (locked.CommitCreate id)) r s h = absurd h
same_contexts g c (Locked (locked.AcquireReady id)) r s h = refl
same_contexts g c (Locked (locked.Release q)) r s h = refl
same_contexts g c (PushCreated id) r s h = refl

-- how the activity goes on, by what was asked for
abbrev Made : CreateCall → StateWord → ℕ → CreateAt → Hand → Hand → Response → Activity
Made c own d p h came r =
    after_went c.caller (own_of c own p r) (activity.Create
    (record { call = c; own = own_of c own p r; location = location_with came (leads c h p r); done = d }))
    (went_at (pushed_at c p) (leads c h p r))

module _ (script : Script) (m : Memory) (b : Board) (c i : ℕ) (call : CreateCall) (l : CreateLocation) (n d : ℕ) (own : StateWord)
    (k : HandSeen) (sh : Shows script m b) (locks : LocksHold b.owner b.table b.ready b.context) (was : m.hand c ≡ Some k)
    (mine : k.context ≡ i) where
  abbrev pub X : Context
  X = b.context i

  abbrev P : CreateAt
  P = at_of l

  abbrev pub A : Ask
  A = ask_of call X.own P

  abbrev pub Goes_home : Hand
  Goes_home = hand_after call (hand_of l) P asks.Released

  abbrev pub An : Answer
  An = answer_in m (step_for A Goes_home)

  abbrev pub R : Response
  R = response_of An A

  abbrev S : CreateSection
  S = record { call = call; own = X.own; location = l; done = n }

  abbrev pub T : ThreadSeen
  T = record { id = call.caller; position = X.position; own = own; serial = X.serial; done = d; activity = activity.Create S }

  abbrev pub On : Hand
  On = board_hand b []

  abbrev pub After : Board
  After = create_board (programs_of script) b i X call P R

  abbrev pub GoesSo : Activity → StateWord → Option Point → Type 0
  GoesSo doing word raw =
      Goes b After A (locks_of call P) doing word (create_at call (leads call On P R)) (own_of call X.own P R)
      (hand_after call (trimmed (locks_of call P) On) P asks.Released) raw (points call (b.seen i).word On P R) (Unit {0})

  module _ (fit : IsAskFit m b A) (at : X.at ≡ InCreate call P) (can : can_ask l ≡ true)
      (hand : hand_of l ≡ trimmed (locks_of call P) On) (na : is_again An ≡ false) where
    abbrev L0 : CreateLocation
    L0 = asked_location l

    left_is : hand_of L0 ≡ hand_asked A (trimmed (locks_of call P) On)
    left_is = (is_asked call X.own l).1 ∙ ap (hand_asked A) hand

    -- what it is about then
    abbrev Raw : Bool → Bool → Activity
    Raw q q' =
        let s1 = if q then asked S else moved (asked S) An in
        after_went call.caller s1.own (activity.Create s1) (if q' then went.Again else went_at (pushed_at call (at_of L0))
        (leads call (hand_of L0) (at_of L0) (response_of An (ask_of call X.own (at_of L0)))))

    na' : asks.is_again (response_of An (ask_of call X.own (at_of L0))) ≡ false
    na' = sym (again_heard (ask_of call X.own (at_of L0)) An) ∙ na

    doing_is : activity_after call.caller own (activity.Create (asked S)) An ≡
        Made call X.own (one_more n) P (hand_asked A (trimmed (locks_of call P) On))
        (hand_came R (goods_asked A b) (hand_after call (hand_asked A (trimmed (locks_of call P) On)) P R)) R
    doing_is = (λ e. Raw (na e) (na' e))
        ∙ (λ e. Made call X.own (one_more n) (asked_at l call X.own e) (left_is e)
        (hand_with An (hand_after call (left_is e) (asked_at l call X.own e)
        (response_of An (ask_of call X.own (asked_at l call X.own e)))))
        (response_of An (ask_of call X.own (asked_at l call X.own e))))
        ∙ ap (λ z. Made call X.own (one_more n) P (hand_asked A (trimmed (locks_of call P) On)) z R)
        (came_is m b sh.owners sh.goods.homes A Goes_home (hand_after call (hand_asked A (trimmed (locks_of call P) On)) P R) fit)

    own_is : own_after call.caller own (activity.Create (asked S)) An ≡ own_of call X.own P R
    own_is =
        (λ e. (if na e then asked S else moved (asked S) An).own)
        ∙ (λ e. own_of call X.own (asked_at l call X.own e) (response_of An (ask_of call X.own (asked_at l call X.own e))))

    point_is : points call (state_word_of (m.state i)) (hand_of L0) (at_of L0) (response_of An (ask_of call X.own (at_of L0))) ≡
        points call (b.seen i).word (hand_asked A (trimmed (locks_of call P) On)) P R
    point_is =
        λ e. points call (sym (sh.seen i).word e) (left_is e) (asked_at l call X.own e)
        (response_of An (ask_of call X.own (asked_at l call X.own e)))

    pub goes_on : GoesSo (activity_after call.caller own (activity.Create (asked S)) An)
        (own_after call.caller own (activity.Create (asked S)) An)
        (points call (state_word_of (m.state i)) (hand_of L0) (at_of L0) (response_of An (ask_of call X.own (at_of L0))))
    goes_on =
        let an = step_finds m b A Goes_home (goods_found m (step_for A Goes_home)) sh.seen sh.owners fit in
        let base = create_goes (programs_of script) b i X call (b.seen i).word (one_more n) P R (open_at l can) an
        (sym (again_heard A An) ∙ na) in
        subst (λ (z : Activity). GoesSo z (own_after call.caller own (activity.Create (asked S)) An)
        (points call (state_word_of (m.state i)) (hand_of L0) (at_of L0) (response_of An (ask_of call X.own (at_of L0)))))
        (sym doing_is)
        (subst (λ (z : StateWord). GoesSo (Made call X.own (one_more n) P (hand_asked A (trimmed (locks_of call P) On))
        (hand_came R (goods_asked A b) (hand_after call (hand_asked A (trimmed (locks_of call P) On)) P R)) R) z
        (points call (state_word_of (m.state i)) (hand_of L0) (at_of L0) (response_of An (ask_of call X.own (at_of L0)))))
        (sym own_is)
        (subst (GoesSo (Made call X.own (one_more n) P (hand_asked A (trimmed (locks_of call P) On))
        (hand_came R (goods_asked A b) (hand_after call (hand_asked A (trimmed (locks_of call P) On)) P R)) R)
        (own_of call X.own P R)) (sym point_is) base))

  -- where the same step comes again, all is as it was
  waits_on : (q : CreateLocation) (r : Response) (raw : Option Point) → Answers b (ask_of call X.own (at_of q)) r →
      asks.is_again r ≡ true → can_ask q ≡ true → hand_of q ≡ trimmed (locks_of call (at_of q)) On → raw ≡ None →
      Goes b (create_board (programs_of script) b i X call (at_of q) r) (ask_of call X.own (at_of q)) (locks_of call (at_of q))
      (activity.Create (record { call = call; own = X.own; location = asked_location q; done = n })) own
      (create_at call (leads call On (at_of q) r)) (own_of call X.own (at_of q) r)
      (hand_after call (trimmed (locks_of call (at_of q)) On) (at_of q) asks.Released) raw
      (points call (b.seen i).word On (at_of q) r) (Unit {0})
  waits_on (location.Outside outside.AcquireTable) (asks.Owned o) raw an ag can hand e = record {
    at = refl;
    own_word = refl;
    hand = hand;
    others = λ z h. refl;
    returned = tt;
    point = e;
    fits = tt;
    version = tt;
  }
  waits_on (location.Outside outside.AcquireTable) asks.Got raw an ag can hand e = absurd cc
  waits_on (location.Outside outside.AcquireTable) r raw an ag can hand e = absurd an
  waits_on (location.Outside (outside.Ended w)) r raw an ag can hand e = absurd cc
  waits_on (location.Locked (locked.AcquireReady id) numbers) (asks.Owned o) raw an ag can hand e = record {
    at = refl;
    own_word = refl;
    hand = hand;
    others = λ z h. refl;
    returned = tt;
    point = e;
    fits = tt;
    version = tt;
  }
  waits_on (location.Locked (locked.AcquireReady id) numbers) asks.Got raw an ag can hand e = absurd cc
  waits_on (location.Locked (locked.AcquireReady id) numbers) r raw an ag can hand e = absurd an
  waits_on (location.ListsReturned id numbers) r raw an ag can hand e = absurd cc
  waits_on (location.NumbersReturned q) r raw an ag can hand e = absurd cc
  waits_on q r raw an ag can hand e = absurd (again_asks b (ask_of call X.own (at_of q)) r an ag)

  no_point : (w : StateWord) (h : Hand) (p : CreateAt) (r : Response) → Answers b (ask_of call X.own p) r →
      asks.is_again r ≡ true → points call w h p r ≡ None
  no_point w h (Outside outside.AcquireTable) r an ag = refl
  no_point w h (Locked (locked.AcquireReady id)) r an ag = refl
  no_point w h p r an ag = absurd (again_asks b (ask_of call X.own p) r an ag)

  -- the thread then
  abbrev pub Then : Bool → ThreadSeen
  Then q = if q then threads.asked T else threads.moved (threads.asked T) An

  abbrev pub Raw_point : Option Point
  Raw_point =
      points call (state_word_of (m.state i)) (hand_of (asked_location l)) (at_of (asked_location l))
      (response_of An (ask_of call X.own (at_of (asked_location l))))

  pub create_steps : IsPlain P → IsAskFit m b A → X.at ≡ InCreate call P → can_ask l ≡ true →
      hand_of l ≡ held_on b (locks_at X.at) → version_held k ≡ call.caller.version → call.caller.number ≡ i →
      ((b.seen i).word.version == call.caller.version) ≡ true →
      Comes script (programs_of script) i 1 b (section_maps script m c i (Thread T)) (section_entry m i (Thread T))
  create_steps pl fit at can hand held num ver = record {
    board = After;
    turns = more b After After (creates call P R at an) (none After);
    shows = by (is_again An) refl;
    entries = entry_told b m.serial sh.serials Raw_point (points call (b.seen i).word On P R) (point_told (is_again An) refl);
  }
    where
      an : Answers b A R
      an = step_finds m b A Goes_home (goods_found m (step_for A Goes_home)) sh.seen sh.owners fit

      in_hand : hand_of l ≡ trimmed (locks_of call P) On
      in_hand = hand ∙ ap (λ p. held_on b (locks_at p)) at ∙ held_is b call P

      -- by whether the same step comes again
      shown : (t : ThreadSeen) → t.id ≡ call.caller → t.serial ≡ X.serial → t.position ≡ X.position →
          GoesSo t.activity t.own Raw_point → Shows script (moved_maps script m c i (Section (step_for A Goes_home))
          (Some (record { context = i; value = Thread t })) (entry_in m.serial Raw_point)) After
      shown t is se po go =
          thread_steps script m b After c i A Goes_home (goods_found m (step_for A Goes_home)) k
          (programs_of script) sh locks was mine fit t call.caller (create_at call (leads call On P R))
          (own_of call X.own P R) Raw_point (points call (b.seen i).word On P R) (usual call X.own P pl) held num ver is se po
          (versioned (KeepsVersion A) (same_version call X.own P pl)
          (subst (λ (z : At). Goes b After A (locks_at z) t.activity t.own (create_at call (leads call On P R))
          (own_of call X.own P R) Goes_home Raw_point (points call (b.seen i).word On P R) (Unit {0})) (sym at)
          (subst (λ (z : Hand). Goes b After A (locks_of call P) t.activity t.own (create_at call (leads call On P R))
          (own_of call X.own P R) (hand_after call z P asks.Released) Raw_point (points call (b.seen i).word On P R)
          (Unit {0})) (sym in_hand) go)))
          (record {
            size = refl;
            seen = refl;
            owns = (refl, refl, refl);
            context = ap (λ (z : ℕ → Context). upd z i (context_then X X.own (create_at call (leads call On P R))))
                (same_contexts (programs_of script) call P R b.context pl);
          })

      -- the same step comes again
      waits : is_again An ≡ true → GoesSo (Then true).activity (Then true).own Raw_point
      waits e =
          let ag : asks.is_again R ≡ true = sym (again_heard A An) ∙ e in
          let back : Raw_point ≡ points call (state_word_of (m.state i)) (hand_of (asked_location l)) P R =
          λ d. points call (state_word_of (m.state i)) (hand_of (asked_location l)) (asked_at l call X.own d)
          (response_of An (ask_of call X.own (asked_at l call X.own d))) in
          waits_on l R Raw_point an ag can in_hand
          (back ∙ no_point (state_word_of (m.state i)) (hand_of (asked_location l)) P R an ag)

      by : (q : Bool) → is_again An ≡ q → Shows script (moved_maps script m c i (Section (step_for A Goes_home))
          (Some (record { context = i; value = Thread (Then q) })) (entry_in m.serial Raw_point)) After
      by true e = shown (Then true) refl refl refl (waits e)
      by false e = shown (Then false) refl refl refl (goes_on fit at can in_hand e)

      point_told : (q : Bool) → is_again An ≡ q → Raw_point ≡ points call (b.seen i).word On P R
      point_told true e = (waits e).point
      point_told false e = (goes_on fit at can in_hand e).point
