-- What holds of the waits of a world with one carrier: what ties its log of waits to a board, on which the bound of waits is
-- proved.
use Rattle.std.specs.Prelude.{◌≡◌, ◌≢◌, ℕ, ◌<◌, ◌≤◌, ◌||◌, true, false, Option, Some, None, is_some, length}
use Rattle.std.specs.List.{AllByRecursion}
use Rattle.k_locks.specs.Asks.{Want}
use Rattle.k_script.specs.Script.{Script}
use Rattle.k_switch.specs.declared.switch.SwitchCall.{SwitchCall}
use Rattle.k_context.specs.declared.owner.Owner.{Owner}
use Rattle.k_context.specs.declared.owner.Owner.TheVariants as owner
use Rattle.k_context.specs.Contexts.{ContextSeen, locks_of, owner_of}
use Rattle.k_carrier.specs.declared.marks.Link.{Link}
use Rattle.k_carrier.specs.Rules.{holds_any}
use Rattle.k_carrier.specs.Running.{runner_of}
use Rattle.k_world.specs.Lawful.{IsLawfulLog, links_of}
use Rattle.k_world.specs.Marks.{mark_at, standing_at}
use Rattle.k_world.specs.Steps.{unbroken_waits}
use Rattle.k_world.specs.Worlds.{World, carrier_at}
use Rattle.k_board.specs.Boards.{Board}
use Rattle.k_bound.specs.Chains.{IsMarkSound}
use Rattle.k_bound.specs.Hands.{live_help}
use Rattle.k_bound.specs.Sections.{Sections}
use Rattle.k_bound.specs.Waits as bound
use Rattle.k_sections.specs.Kept.{IsGoodSituation}
use Rattle.k_sections.specs.Situations.{Situation}
use Rattle.k_sections.specs.Stepping.{kernel_sections}
use Rattle.k_plays.specs.Scripts.{ranged_programs}
use Rattle.k_places.specs.Shows.{ShowsBoard}
use Rattle.k_invariant.specs.Invariant.{Holds}
use Rattle.k_aligned.specs.Aligned.{found_in}
use Rattle.k_waits.specs.Words.{ShowsMark, found_in_help, number_of}

-- A call of a switch. While a mark stands no switch begins, so it doesn't matter which.
abbrev pub no_call : SwitchCall
no_call = record { goal = None; counted = false; slice_ended = false; start = None }

-- what the contexts of a script's boards publish, and their steps
abbrev pub sections_of : Script → Sections Situation
sections_of script = kernel_sections (ranged_programs script) (λ b i. no_call)

-- As long as the context of its number holds a lock, that is the context of the link's owner.
abbrev pub IsSameOwner : Script → World → Link → Type 0
IsSameOwner script w link = (v : ContextSeen) → found_in w (number_of script.table link.owner) ≡ Some v →
    holds_any (locks_of v) ≡ true → owner_of v ≡ link.owner

-- the number's word has this thread's version, or that of a later one
abbrev pub IsPast : Board → Owner → Type 0
IsPast b (owner.Thread id) = id.version ≤ (b.seen id.number).word.version
IsPast b (owner.Carrier number) = Unit {0}

-- The context of this owner isn't there any more, and doesn't come back.
pub record IsGone (script : Script) (w : World) (b : Board) (o : Owner) : Type 0 where
  pub absent : (v : ContextSeen) → found_in w (number_of script.table o) ≡ Some v → owner_of v ≢ o
  pub past : IsPast b o

-- The mark with index `k` stands of the one carrier of this world, with this requester.
pub record IsWaitingFor (script : Script) (w : World) (k : ℕ) (requester : Owner) : Type 0 where
  -- It stands on a board that the world shows, with what was removed since it began.
  pub situation : Situation
  pub shows : ShowsBoard script w situation.board
  pub good : IsGoodSituation (Holds script) situation
  pub gone : (want : Option Want) → situation.removed (number_of script.table requester) ≡ Some want →
      IsGone script w situation.board requester
  -- The requester is whom the carrier works for: its goal, or itself while it switches.
  pub runner : runner_of (carrier_at w 0) ≡ requester
  pub works : ((carrier_at w 0).switching || is_some (carrier_at w 0).goal) ≡ true
  -- The log shows a mark that stands with its chain, for the help that the carrier gives,
  pub mark : bound.WaitMark
  pub shown : ShowsMark script.table k (mark_at w.waits.marks k) w.waits.links mark
  pub sound : IsMarkSound (sections_of script) situation (number_of script.table requester)
      (live_help (sections_of script) situation (found_in_help (carrier_at w 0).help)) (Some mark)
  -- and its links are of those that were found.
  pub same : AllByRecursion (IsSameOwner script w) (links_of k w.waits.links)

abbrev pub IsWaiting : Script → World → ℕ → Type 0
IsWaiting script w k = IsWaitingFor script w k (mark_at w.waits.marks k).requester

-- What holds of the waits of a world with one carrier. It holds at the start, and what comes from outside keeps it. That each
-- step of the carrier keeps it is proved in k_courses, and of the running kernel in k_waiting.
pub record WaitsHold (script : Script) (w : World) : Type 0 where
  pub carriers : length w.carriers ≡ 1
  pub log : IsLawfulLog w.waits
  pub size : length w.waits.standing ≡ 1
  -- Of each mark, whatever became of it, no more steps were used than its links allow.
  pub used : (k : ℕ) → k < length w.waits.marks → (mark_at w.waits.marks k).used ≤ (mark_at w.waits.marks k).allowed
  -- A mark that stands, and isn't broken with the next step, is tied to a board.
  pub waiting : (k : ℕ) → standing_at (unbroken_waits w) 0 ≡ Some k → IsWaiting script w k
