-- What a step of a thread's context stands on besides, by what the raw world tells of it.
use Rattle.std.proofs.Common.{◌≡◌, ℕ, true, sym, ap, ◌∙◌, subst, Option, Some, List}
use Rattle.k_ids.specs.declared.histories.Entry.{Entry}
use Rattle.k_ids.specs.declared.threads.ThreadId.{ThreadId}
use Rattle.k_ids.specs.ContextWords.{context_word_of}
use Rattle.k_locks.specs.Asks as asks
use Rattle.k_locks.specs.Steps as steps
use Rattle.k_model.specs.State.{KernelState}
use Rattle.k_script.specs.Script.{Script}
use Rattle.k_caller.specs.Activities as activities
use Rattle.k_caller.specs.Threads.{ThreadSeen}
use Rattle.k_caller.specs.Threads as threads
use Rattle.k_switch.specs.declared.goal.Goal.{Goal}
use Rattle.k_context.specs.Contexts.{Thread}
use Rattle.k_board.specs.Boards.{Board, Coming}
use Rattle.k_plays.specs.Scripts.{ranged_programs}
use Rattle.k_places.specs.Memory.{Memory}
use Rattle.k_places.specs.Shows.{Shows, context_in}
use Rattle.k_turns.specs.Spelled.{IsSpelled, ask_in}
use Rattle.k_tokens.specs.World.{OfThread, World}
use Rattle.k_switching.specs.Claims.{IsAsked}
use Rattle.k_switching.specs.Rules.{word_of}
use Rattle.k_grants.specs.Granted.{Finding}
use Rattle.k_paired.specs.Pairs.{IsPair}
use Rattle.k_whole.specs.Whole.{HasVictims, WholeHolds, runs}
use Rattle.k_work.specs.Near.{IsAlone, IsSupported, IsWaiting}
use Rattle.k_work.specs.Work.{IsMade}
use Rattle.k_running.specs.Threads.{HasMade, answer_to, finding_in}

-- What is so of a thread's step, by what is told of it: where it is made again, it is held up; and it pushes where its location does.
pub record Supports (script : Script) : Type 0 where
  pub waits : (m : Memory) (b : Board) (v : World) (c n size : ℕ) (t : ThreadSeen) (goal : Option Goal) → Shows script m b →
      IsPair (ranged_programs script) b v → HasVictims v → IsAlone v c → IsAsked v c (OfThread n) →
      context_in m.context m.slot m.hand n ≡ Some (Thread t) → ((b.context n).at ≡ Coming → ⊥) → size ≡ b.size →
      IsSpelled script.table (ask_in t.id t.own t.activity) →
      ((id : ThreadId) → ask_in t.id t.own t.activity ≡ asks.Remove id →
      word_of v (OfThread id.number) ≡ context_word_of (m.context id.number)) →
      steps.is_again (answer_to m t) ≡ true → IsWaiting v c (finding_in m size goal t)
  pub made : (m : Memory) (b : Board) (n size : ℕ) (t : ThreadSeen) (goal : Option Goal) → Shows script m b →
      context_in m.context m.slot m.hand n ≡ Some (Thread t) → ((b.context n).at ≡ Coming → ⊥) → threads.IsSound script t →
      activities.can_ask t.activity ≡ true → IsMade b n (finding_in m size goal t)

pub made_supported : (script : Script) (supports : Supports script) (c n : ℕ) (t : ThreadSeen) (sound : threads.IsSound script t)
    (b : Board) (v : World) (entries : List Entry) (b' : Board) (v' : World) (entries' : List Entry)
    (h : HasMade script c n t b v entries b' v' entries') (k : KernelState) → WholeHolds script b v entries k → IsAlone v c →
    IsSupported (ranged_programs script) b v c b'
    (runs n b' h.turned.found h.turned.asked h.turned.waits h.turned.free h.turned.turn)
made_supported script supports c n t sound b v entries b' v' entries' h k whole alone = (
  subst (IsMade b n) (sym h.finds)
      (supports.made h.maps b n h.size t h.goal h.shows h.there h.made sound h.can),
  λ e. subst (IsWaiting v c) (sym h.finds)
      (supports.waits h.maps b v c n h.size t h.goal h.shows whole.pair whole.victims alone h.turned.asked h.there h.made h.sized
      h.spelled h.words (sym h.again ∙ e)),
)
