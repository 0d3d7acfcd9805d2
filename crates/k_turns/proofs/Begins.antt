-- A thread between two calls begins its next one, or works: the board has it so after a turn.
use Rattle.std.proofs.Common.{◌≡◌, ℕ, ◌+◌, ◌<◌, refl, sym, ap, ◌∙◌, Option, Some, None, arith}
use Rattle.std.specs.Prelude.{◌^◌, ◌-◌}
use Rattle.std.proofs.lemmas.Bool.{eq-eqb}
use Rattle.k_ids.specs.declared.calls.Phase.{Phase}
use Rattle.k_ids.specs.declared.calls.Phase.TheVariants as phase
use Rattle.k_ids.specs.declared.calls.Reply.{Reply}
use Rattle.k_ids.specs.declared.state_word.StateWord.{StateWord}
use Rattle.k_ids.specs.declared.threads.ThreadId.{ThreadId}
use Rattle.k_locks.specs.Steps.{one_more}
use Rattle.k_model.proofs.Maps.{upd_same}
use Rattle.k_script.specs.declared.registers.Next.{Next}
use Rattle.k_script.specs.declared.registers.Next.TheVariants as next
use Rattle.k_script.specs.Script.{Script}
use Rattle.k_script.specs.Plays.{next_of, went_on}
use Rattle.k_caller.specs.declared.activity.Activity.TheVariants as activity
use Rattle.k_caller.specs.declared.thread.ThreadLocation.TheVariants as location
use Rattle.k_caller.specs.Activities.{section_own}
use Rattle.k_caller.specs.Threads.{ThreadSeen, begun_by, begun_next}
use Rattle.k_context.specs.Contexts.{Thread}
use Rattle.k_carrier.specs.Seen.{HandSeen}
use Rattle.k_board.specs.Boards.{Alone, At, Board, Context, id_at}
use Rattle.k_board.specs.Steps.{begun, begun_at, placed, working}
use Rattle.k_board.specs.Turns.{Turn, begins, turns_to_work}
use Rattle.k_good.specs.Locks.{LocksHold, locks_at}
use Rattle.k_points.specs.Points.{turn_point}
use Rattle.k_places.specs.Contexts.{at_in, hand_in, held_on, programs_of}
use Rattle.k_places.specs.Memory.{Memory}
use Rattle.k_places.specs.Shows.{Shows}
use Rattle.k_places.proofs.Held.{held_shown, locks_placed, with_hand}
use Rattle.k_places.proofs.Places.{version_held}
use Rattle.k_places.proofs.Threads.{shown_then}

-- the first location of a call
begun_stands : (size : ℕ) (me : ThreadId) (own : StateWord) (f : Phase) → at_in (begun_by size me own f) ≡ begun_at size me f
begun_stands size me own (phase.Send to message zero joined) = refl
begun_stands size me own (phase.Reply to message zero) = refl
begun_stands size me own (phase.Receive from zero) = refl
begun_stands size me own (phase.Create program priority) = refl
begun_stands size me own (phase.Destroy who) = refl
begun_stands size me own phase.End = refl

begun_own : (size : ℕ) (me : ThreadId) (own : StateWord) (f : Phase) → section_own own (begun_by size me own f) ≡ own
begun_own size me own (phase.Send to message zero joined) = refl
begun_own size me own (phase.Reply to message zero) = refl
begun_own size me own (phase.Receive from zero) = refl
begun_own size me own (phase.Create program priority) = refl
begun_own size me own (phase.Destroy who) = refl
begun_own size me own phase.End = refl

begun_hand : (b : Board) (size : ℕ) (me : ThreadId) (own : StateWord) (f : Phase) →
    hand_in (begun_by size me own f) ≡ held_on b (locks_at (begun_at size me f))
begun_hand b size me own (phase.Send to message zero joined) = refl
begun_hand b size me own (phase.Reply to message zero) = refl
begun_hand b size me own (phase.Receive from zero) = refl
begun_hand b size me own (phase.Create program priority) = refl
begun_hand b size me own (phase.Destroy who) = refl
begun_hand b size me own phase.End = refl

begun_locks : (size : ℕ) (me : ThreadId) (f : Phase) (p : At) → p ≡ Alone (location.Between None) →
    locks_at (begun_at size me f) ≡ locks_at p
begun_locks size me (phase.Send to message zero joined) p e = ap locks_at (sym e)
begun_locks size me (phase.Reply to message zero) p e = ap locks_at (sym e)
begun_locks size me (phase.Receive from zero) p e = ap locks_at (sym e)
begun_locks size me (phase.Create program priority) p e = ap locks_at (sym e)
begun_locks size me (phase.Destroy who) p e = ap locks_at (sym e)
begun_locks size me phase.End p e = ap locks_at (sym e)

-- the serial of a call that isn't the last one that can be counted
counted : (n : ℕ) → n < 2 ^ 32 - 1 → one_more n ≡ n + 1
counted n l = omega (arith, l)

-- where a thread stands once it begins what comes next
abbrev pub next_at : ℕ → ThreadId → Next → At
next_at size me (next.Phase f) = begun_at size me f
next_at size me (next.Work count) = Alone (location.Work count)

-- A board that these maps show, one turn later, which has no point.
pub record IsBegun (script : Script) (b : Board) (i : ℕ) (m : Memory) (p : At) : Type 0 where
  pub board : Board
  pub turn : Turn (programs_of script) b i board
  pub silent : turn_point (programs_of script) b i board turn ≡ None
  pub shows : Shows script m board
  pub locks : LocksHold board.owner board.table board.ready board.context
  pub stands : (board.context i).at ≡ p

module _ (script : Script) (m : Memory) (b : Board) (c i : ℕ) (last : Option Reply) (d : ℕ) (k : HandSeen) (sh : Shows script m b)
    (locks : LocksHold b.owner b.table b.ready b.context) (was : m.hand c ≡ Some k) (mine : k.context ≡ i) where
  abbrev X : Context
  X = b.context i

  -- between two calls, what comes next taken from its program
  abbrev T : ThreadSeen
  T = record {
    id = id_at b i;
    position = went_on X.position last;
    own = X.own;
    serial = X.serial;
    done = d;
    activity = activity.Alone (location.Between last);
  }

  abbrev Called : Phase → Context
  Called f = begun (programs_of script) X last (begun_at b.size (id_at b i) f)

  abbrev Works : ℕ → Context
  Works count = working (programs_of script) X last count

  abbrev Maps : Next → Memory
  Maps n = with_hand m c (Some (record { context = i; value = Thread (begun_next script.table T n) }))

  pub begins_shown : (n : Next) → next_of script.version X.position last ≡ n → X.at ≡ Alone (location.Between last) →
      X.serial < 2 ^ 32 - 1 → version_held k ≡ (b.seen i).word.version →
      IsBegun script b i (Maps n) (next_at b.size (id_at b i) n)
  begins_shown (next.Phase f) e at small held = record {
    board = placed b i (Called f);
    turn = begins last f at e;
    silent = refl;
    shows = shows;
    locks = locks_placed b i (Called f) locks same_locks;
    stands = ap (λ (z : Context). z.at) (upd_same b.context i (Called f));
  }
    where
      shows : Shows script (Maps (next.Phase f)) (placed b i (Called f))
      shows = held_shown script m b c i k _ (Called f) sh was mine (sym held)
          (shown_then (b.seen i).word i (Called f) _ X.own (begun_at b.size (id_at b i) f) refl
          (eq-eqb (b.seen i).word.version (b.seen i).word.version refl) (counted X.serial small) refl
          (begun_stands script.table (id_at b i) X.own f ∙ ap (λ z. begun_at z (id_at b i) f) (sym sh.size))
          (begun_own script.table (id_at b i) X.own f))
          (begun_hand b script.table (id_at b i) X.own f ∙ ap (λ z. held_on b (locks_at (begun_at z (id_at b i) f)))
          (sym sh.size))

      same_locks : locks_at (begun_at b.size (id_at b i) f) ≡ locks_at X.at
      same_locks = begun_locks b.size (id_at b i) f (Alone (location.Between None)) refl ∙ ap locks_at (sym at)
  begins_shown (next.Work count) e at small held = record {
    board = placed b i (Works count);
    turn = turns_to_work last count at e;
    silent = refl;
    shows = shows;
    locks = locks_placed b i (Works count) locks (ap locks_at (sym at));
    stands = ap (λ (z : Context). z.at) (upd_same b.context i (Works count));
  }
    where
      shows : Shows script (Maps (next.Work count)) (placed b i (Works count))
      shows = held_shown script m b c i k _ (Works count) sh was mine (sym held)
          (shown_then (b.seen i).word i (Works count) _ X.own (Alone (location.Work count)) refl
          (eq-eqb (b.seen i).word.version (b.seen i).word.version refl) refl refl refl refl)
          refl
