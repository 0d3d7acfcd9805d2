-- A step of a switch in the raw world comes to a turn of the board.
use Rattle.std.proofs.Common.{◌≡◌, ℕ, Bool, true, false, refl, sym, ap, ◌∙◌, subst, Some, None, []}
use Rattle.std.specs.Prelude.{if◌then◌else◌}
use Rattle.k_locks.specs.declared.steps.Answer.{Answer}
use Rattle.k_locks.specs.Asks.{Ask, Response, response_of, step_for}
use Rattle.k_locks.specs.Asks as asks
use Rattle.k_locks.specs.Hands.{Hand, trimmed}
use Rattle.k_locks.specs.Locks.{Holds}
use Rattle.k_locks.specs.Steps.{is_again}
use Rattle.k_locks.proofs.Responses.{again_heard}
use Rattle.k_script.specs.Script.{Script}
use Rattle.k_switch.specs.declared.carrier_context.CarrierContext.{CarrierContext}
use Rattle.k_switch.specs.declared.switch.SwitchCall.{SwitchCall}
use Rattle.k_switch.specs.declared.switch.SwitchLocked.TheVariants.{LoadGoal, LoadStart, ReleaseReady}
use Rattle.k_switch.specs.declared.switch.SwitchLocation.{SwitchLocation}
use Rattle.k_switch.specs.declared.switch.SwitchLocation.TheVariants as location
use Rattle.k_switch.specs.Switches.{SwitchAt, AcquireReady, Locked, Returned, Finished, ask_of, asked_location, at_of, can_ask}
use Rattle.k_switch.specs.Switches.{hand_after, hand_of, leads, location_after, location_with, locks_of, moved_location}
use Rattle.k_switch.specs.Carriers as carriers
use Rattle.k_context.specs.Contexts.{Carrier}
use Rattle.k_carrier.specs.Moves.{Section}
use Rattle.k_carrier.specs.Seen.{HandSeen}
use Rattle.k_board.specs.Boards.{At, Board, Context, InSwitch, hand_of as board_hand}
use Rattle.k_board.specs.Steps.{Answers, switch_board, switch_context, wrote}
use Rattle.k_board.specs.Turns.{is_going, switches}
use Rattle.k_good.specs.Locks.{LocksHold, locks_at}
use Rattle.k_places.specs.Contexts.{held_on, programs_of, switch_at, switch_hand}
use Rattle.k_places.specs.Memory.{Memory, moved_maps}
use Rattle.k_places.specs.Asks.{IsAskFit}
use Rattle.k_turns.specs.Sections.{Comes, more, none, section_entry, section_maps}
use Rattle.k_places.specs.Answers.{answer_in, entry_in, goods_found}
use Rattle.k_places.specs.Shows.{Shows}
use Rattle.k_places.proofs.Goes.{KeepsVersion, Returns}
use Rattle.k_places.proofs.Heard.{again_asks, came_is}
use Rattle.k_places.proofs.Places.{version_held}
use Rattle.k_places.proofs.Steps.{IsUsual, usual_shown}
use Rattle.k_joint.proofs.Switchings.{Switches, Then, can_go, switch_goes}
use Rattle.k_places.proofs.Words.{step_finds}

go_at : (l : SwitchLocation) → can_ask l ≡ true → can_go (at_of l) ≡ true
go_at location.AcquireReady e = refl
go_at (location.Locked p lists) e = refl
go_at (location.ListsReturned s) e = absurd cc
go_at (location.Finished s) e = absurd cc

going_at : (l : SwitchLocation) → can_ask l ≡ true → is_going (at_of l) ≡ true
going_at location.AcquireReady e = refl
going_at (location.Locked p lists) e = refl
going_at (location.ListsReturned s) e = absurd cc
going_at (location.Finished s) e = absurd cc

pub usual : (c : SwitchCall) (p : SwitchAt) → IsUsual (ask_of c p)
usual c AcquireReady = tt
usual c (Locked (LoadGoal goal)) = tt
usual c (Locked (LoadStart back number)) = tt
usual c (Locked (ReleaseReady back started)) = tt
usual c (Returned s) = tt
usual c (Finished s) = tt

same_version : (c : SwitchCall) (p : SwitchAt) → KeepsVersion (ask_of c p)
same_version c AcquireReady = tt
same_version c (Locked (LoadGoal goal)) = tt
same_version c (Locked (LoadStart back number)) = tt
same_version c (Locked (ReleaseReady back started)) = tt
same_version c (Returned s) = tt
same_version c (Finished s) = tt

-- once it is asked for its release, it waits for the same
same_ask : (c : SwitchCall) (l : SwitchLocation) → ask_of c (at_of (asked_location c l)) ≡ ask_of c (at_of l)
same_ask c location.AcquireReady = refl
same_ask c (location.Locked (LoadGoal goal) lists) = refl
same_ask c (location.Locked (LoadStart back number) lists) = refl
same_ask c (location.Locked (ReleaseReady back started) lists) = refl
same_ask c (location.ListsReturned s) = refl
same_ask c (location.Finished s) = refl

-- it has the ready lists of the board in hand, where it holds their lock
location_is : (h : Hand) (l : SwitchLocation) → can_ask l ≡ true → hand_of l ≡ trimmed (locks_of (at_of l)) h →
    l ≡ location_with h (at_of l)
location_is h location.AcquireReady can e = refl
location_is h (location.Locked p lists) can e = ap (location.Locked p) (ap (λ (z : Hand). z.lists) e)
location_is h (location.ListsReturned s) can e = absurd cc
location_is h (location.Finished s) can e = absurd cc

module _ (script : Script) (m : Memory) (b : Board) (c i : ℕ) (call : SwitchCall) (l : SwitchLocation) (carrier serial d : ℕ)
    (k : HandSeen) (sh : Shows script m b) (locks : LocksHold b.owner b.table b.ready b.context) (was : m.hand c ≡ Some k)
    (mine : k.context ≡ i) where
  abbrev X : Context
  X = b.context i

  abbrev P : SwitchAt
  P = at_of l

  abbrev A : Ask
  A = ask_of call P

  abbrev Goes_home : Hand
  Goes_home = hand_after call (hand_of l) P asks.Released

  abbrev An : Answer
  An = answer_in m (step_for A Goes_home)

  abbrev R : Response
  R = response_of An A

  abbrev On : Hand
  On = board_hand b []

  abbrev Mine : CarrierContext
  Mine = record { carrier = carrier; serial = serial; done = d; switch = Some (record { call = call; location = l }) }

  abbrev After : Board
  After = switch_board b i X call P R

  abbrev L0 : SwitchLocation
  L0 = asked_location call l

  -- the carrier's context then
  abbrev Next : Bool → CarrierContext
  Next q =
      if q then carriers.asked Mine else record (carriers.asked Mine) {
        done = carriers.done_after (carriers.asked Mine);
        switch = Some (record { call = call; location = location_after call L0 An });
      }

  moved_is : IsAskFit m b A → can_ask l ≡ true → hand_of l ≡ trimmed (locks_of P) On →
      location_after call L0 An ≡ Then b i X call P R
  moved_is fit can e =
      let is : l ≡ location_with On P = location_is On l can e in
      (λ d. moved_location call (hand_of L0) (at_of L0) An (response_of An (same_ask call l d)))
      ∙ (λ d. moved_location call (hand_of (asked_location call (is d))) (at_of (asked_location call (is d))) An R)
      ∙ ap (λ z. location_with z (leads call (hand_of (asked_location call (location_with On P)))
      (at_of (asked_location call (location_with On P))) R))
      (came_is m b sh.owners sh.goods.homes A Goes_home (hand_after call (hand_of (asked_location call (location_with On P)))
      (at_of (asked_location call (location_with On P))) R) fit)

  pub switch_steps : IsAskFit m b A → X.at ≡ InSwitch call P → can_ask l ≡ true → hand_of l ≡ held_on b (locks_at X.at) →
      version_held k ≡ 1 → Comes script (programs_of script) i 1 b (section_maps script m c i (Carrier Mine))
      (section_entry m i (Carrier Mine))
  switch_steps fit at can hand held = record {
    board = After;
    turns = more b After After (switches call P R at (going_at l can) an) (none After);
    shows = by (is_again An) refl;
    entries = refl;
  }
    where
      an : Answers b A R
      an = step_finds m b A Goes_home (goods_found m (step_for A Goes_home)) sh.seen sh.owners fit

      in_hand : hand_of l ≡ trimmed (locks_of P) On
      in_hand = hand ∙ ap (λ p. held_on b (locks_at p)) at ∙ no_queue l can
        where
          no_queue : (z : SwitchLocation) → can_ask z ≡ true → held_on b (locks_of (at_of z)) ≡ trimmed (locks_of (at_of z)) On
          no_queue location.AcquireReady q = refl
          no_queue (location.Locked p lists) q = refl
          no_queue (location.ListsReturned s) q = absurd cc
          no_queue (location.Finished s) q = absurd cc

      shown : (z : CarrierContext) (place : SwitchLocation) → z.switch ≡ Some (record { call = call; location = place }) →
          Switches b After A (locks_of P) place (leads call On P R) (hand_after call (trimmed (locks_of P) On) P asks.Released) →
          Shows script (moved_maps script m c i (Section (step_for A Goes_home))
          (Some (record { context = i; value = Carrier z })) (entry_in m.serial None)) After
      shown z place is go =
          usual_shown script m b After c i A Goes_home (goods_found m (step_for A Goes_home)) k (Carrier z) None
          (switch_context X call P R On) (programs_of script) X.position sh locks was mine fit (usual call P) (sym held)
          (record { size = refl; seen = seen_same; owns = (refl, refl, refl); context = refl }) tt (same_version call P)
          (ap (InSwitch call) (sym go.at) ∙ ap switch_at (sym is))
          (ap switch_hand is ∙ go.hand)
          (λ x q. go.others x (λ y. q (subst (λ (p : At). Holds x (locks_at p)) (sym at) y)))
          (subst (λ (h : Hand). Returns A (hand_after call h P asks.Released) After) (sym in_hand) go.returned)
        where
          seen_same : After.seen ≡ wrote b.seen A R
          seen_same = by_place P R
            where
              by_place : (p : SwitchAt) (r : Response) → b.seen ≡ wrote b.seen (ask_of call p) r
              by_place AcquireReady r = refl
              by_place (Locked (LoadGoal goal)) r = refl
              by_place (Locked (LoadStart back number)) r = refl
              by_place (Locked (ReleaseReady back started)) r = refl
              by_place (Returned s) r = refl
              by_place (Finished s) r = refl

      by : (q : Bool) → is_again An ≡ q → Shows script (moved_maps script m c i (Section (step_for A Goes_home))
          (Some (record { context = i; value = Carrier (Next q) })) (entry_in m.serial None)) After
      by true e = shown (Next true) L0 refl (waits_on l R an (sym (again_heard A An) ∙ e) can in_hand)
        where
          waits_on : (z : SwitchLocation) (r : Response) → Answers b (ask_of call (at_of z)) r → asks.is_again r ≡ true →
              can_ask z ≡ true → hand_of z ≡ trimmed (locks_of (at_of z)) On →
              Switches b (switch_board b i X call (at_of z) r) (ask_of call (at_of z)) (locks_of (at_of z))
              (asked_location call z) (leads call On (at_of z) r)
              (hand_after call (trimmed (locks_of (at_of z)) On) (at_of z) asks.Released)
          waits_on location.AcquireReady (asks.Owned o) an ag can h = record {
            at = refl;
            hand = refl;
            others = λ x q. refl;
            returned = tt;
          }
          waits_on location.AcquireReady asks.Got an ag can h = absurd cc
          waits_on location.AcquireReady r an ag can h = absurd an
          waits_on (location.ListsReturned s) r an ag can h = absurd cc
          waits_on (location.Finished s) r an ag can h = absurd cc
          waits_on (location.Locked (LoadGoal goal) lists) r an ag can h =
              absurd (again_asks b (ask_of call (Locked (LoadGoal goal))) r an ag)
          waits_on (location.Locked (LoadStart back number) lists) r an ag can h =
              absurd (again_asks b (ask_of call (Locked (LoadStart back number))) r an ag)
          waits_on (location.Locked (ReleaseReady back started) lists) r an ag can h =
              absurd (again_asks b (ask_of call (Locked (ReleaseReady back started))) r an ag)
      by false e =
          shown (Next false) (location_after call L0 An) refl
          (subst (λ (z : SwitchLocation). Switches b After A (locks_of P) z (leads call On P R)
          (hand_after call (trimmed (locks_of P) On) P asks.Released)) (sym (moved_is fit can in_hand))
          (switch_goes b i X call P R (go_at l can) an (sym (again_heard A An) ∙ e)))
