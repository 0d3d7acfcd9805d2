-- A step of a thread outside of any section, in the raw world, comes to a turn of the board.
use Rattle.std.proofs.Common.{◌≡◌, ℕ, Bool, true, false, refl, sym, ◌∙◌, subst, Some}
use Rattle.std.specs.Prelude.{if◌then◌else◌}
use Rattle.std.proofs.lemmas.Bool.{eq-eqb}
use Rattle.k_ids.specs.declared.state_word.StateWord.{StateWord}
use Rattle.k_ids.specs.declared.threads.ThreadId.{ThreadId}
use Rattle.k_locks.specs.declared.steps.Answer.{Answer}
use Rattle.k_locks.specs.Asks.{Ask, Response, response_of, step_for}
use Rattle.k_locks.specs.Hands.{nothing}
use Rattle.k_locks.specs.Steps.{is_again}
use Rattle.k_locks.proofs.Responses.{again_heard}
use Rattle.k_script.specs.Script.{Script}
use Rattle.k_caller.specs.declared.activity.Activity.TheVariants as activity
use Rattle.k_caller.specs.declared.thread.ThreadLocation.{ThreadLocation}
use Rattle.k_caller.specs.declared.thread.ThreadLocation.TheVariants as location
use Rattle.k_caller.specs.Threads.{ThreadSeen}
use Rattle.k_caller.specs.Threads as threads
use Rattle.k_caller.specs.Waits.{ask_of, can_ask, leads, own_of, points}
use Rattle.k_context.specs.Contexts.{Thread}
use Rattle.k_carrier.specs.Moves.{Section}
use Rattle.k_carrier.specs.Seen.{HandSeen}
use Rattle.k_board.specs.Boards.{Alone, At, Board, Context, id_at}
use Rattle.k_board.specs.Steps.{Answers, alone_board}
use Rattle.k_board.specs.Turns.{goes_alone}
use Rattle.k_good.specs.Locks.{LocksHold, locks_at}
use Rattle.k_good.proofs.Owners.{Owns}
use Rattle.k_places.specs.Contexts.{programs_of}
use Rattle.k_places.specs.Memory.{Memory, moved_maps}
use Rattle.k_places.specs.Asks.{IsAskFit}
use Rattle.k_turns.specs.Sections.{Comes, more, none, section_entry, section_maps}
use Rattle.k_turns.proofs.Entries.{entry_told}
use Rattle.k_places.specs.Answers.{answer_in, entry_in, goods_found}
use Rattle.k_places.specs.Shows.{Shows}
use Rattle.k_turns.proofs.Alones.{alone_goes}
use Rattle.k_places.proofs.Goes.{Goes, KeepsVersion}
use Rattle.k_places.proofs.Heard.{MayWait, again_asks}
use Rattle.k_places.proofs.Places.{version_held}
use Rattle.k_places.proofs.Steps.{IsUsual}
use Rattle.k_places.proofs.Threads.{thread_steps}
use Rattle.k_places.proofs.Words.{step_finds}

pub usual : (me : ThreadId) (own : StateWord) (p : ThreadLocation) → IsUsual (ask_of me own p)
usual me own location.FallAsleep = tt
usual me own location.LookAgain = tt
usual me own (location.LoadMail from) = tt
usual me own (location.Work count) = tt
usual me own location.CommitEnd = tt
usual me own (location.Between last) = tt
usual me own location.Asleep = tt
usual me own location.Ended = tt
usual me own location.Dead = tt

never_waits : (me : ThreadId) (own : StateWord) (p : ThreadLocation) → MayWait (ask_of me own p) → ⊥
never_waits me own location.FallAsleep h = h
never_waits me own location.LookAgain h = h
never_waits me own (location.LoadMail from) h = h
never_waits me own (location.Work count) h = h
never_waits me own location.CommitEnd h = h
never_waits me own (location.Between last) h = h
never_waits me own location.Asleep h = h
never_waits me own location.Ended h = h
never_waits me own location.Dead h = h

module _ (script : Script) (m : Memory) (b : Board) (c i : ℕ) (p : ThreadLocation) (d : ℕ) (k : HandSeen) (sh : Shows script m b)
    (locks : LocksHold b.owner b.table b.ready b.context) (was : m.hand c ≡ Some k) (mine : k.context ≡ i) where
  abbrev X : Context
  X = b.context i

  abbrev A : Ask
  A = ask_of (id_at b i) X.own p

  abbrev An : Answer
  An = answer_in m (step_for A nothing)

  abbrev R : Response
  R = response_of An A

  abbrev T : ThreadSeen
  T = record { id = id_at b i; position = X.position; own = X.own; serial = X.serial; done = d; activity = activity.Alone p }

  abbrev After : Board
  After = alone_board (programs_of script) b i X p R

  abbrev Then : Bool → ThreadSeen
  Then q = if q then threads.asked T else threads.moved (threads.asked T) An

  pub alone_steps : IsAskFit m b A → X.at ≡ Alone p → can_ask p ≡ true → version_held k ≡ (b.seen i).word.version →
      Comes script (programs_of script) i 1 b (section_maps script m c i (Thread T)) (section_entry m i (Thread T))
  alone_steps fit at can held = record {
    board = After;
    turns = more b After After (goes_alone p R at can an) (none After);
    shows = by (is_again An) refl;
    entries = entry_told b m.serial sh.serials (points (id_at b i) p R) (points (id_at b i) p R) refl;
  }
    where
      an : Answers b A R
      an = step_finds m b A nothing (goods_found m (step_for A nothing)) sh.seen sh.owners fit

      by : (q : Bool) → is_again An ≡ q → Shows script (moved_maps script m c i (Section (step_for A nothing))
          (Some (record { context = i; value = Thread (Then q) })) (entry_in m.serial (points (id_at b i) p R))) After
      by true e = absurd (never_waits (id_at b i) X.own p (again_asks b A R an (sym (again_heard A An) ∙ e)))
      by false e =
          thread_steps script m b After c i A nothing (goods_found m (step_for A nothing)) k
          (programs_of script) sh locks was mine fit (Then false) (id_at b i) (Alone (leads p R)) (own_of X.own p R)
          (points (id_at b i) p R) (points (id_at b i) p R) (usual (id_at b i) X.own p) held refl
          (eq-eqb (b.seen i).word.version (b.seen i).word.version refl) refl refl refl
          (subst (λ (z : At). Goes b After A (locks_at z) (activity.Alone (leads p R)) (own_of X.own p R) (Alone (leads p R))
          (own_of X.own p R) nothing (points (id_at b i) p R) (points (id_at b i) p R) (KeepsVersion A)) (sym at)
          (alone_goes (programs_of script) b i X p R can an))
          (record { size = refl; seen = refl; owns = owns_same; context = refl })
        where
          owns_same : Owns b After i A R
          owns_same = by_place p R
            where
              by_place : (q : ThreadLocation) (r : Response) → Owns b After i (ask_of (id_at b i) X.own q) r
              by_place location.FallAsleep r = (refl, refl, refl)
              by_place location.LookAgain r = (refl, refl, refl)
              by_place (location.LoadMail from) r = (refl, refl, refl)
              by_place (location.Work count) r = (refl, refl, refl)
              by_place location.CommitEnd r = (refl, refl, refl)
              by_place (location.Between last) r = (refl, refl, refl)
              by_place location.Asleep r = (refl, refl, refl)
              by_place location.Ended r = (refl, refl, refl)
              by_place location.Dead r = (refl, refl, refl)
