-- The same of contexts in the raw world, and of the board of the first world.
use Rattle.std.proofs.Common.{◌≡◌, ℕ, ◌≤◌, refl, sym, ap, ◌∙◌, subst, List, Option, Some, None}
use Rattle.k_ids.specs.declared.histories.Entry.{Entry}
use Rattle.k_ids.specs.declared.state_word.StateWord.{StateWord}
use Rattle.k_ids.specs.StateWords.{IsStateWord, state_word_of}
use Rattle.k_model.specs.State.{KernelState}
use Rattle.k_locks.specs.declared.locks.WordName.TheVariants as word
use Rattle.k_script.specs.Limits.{IsScript}
use Rattle.k_script.specs.Script.{Script}
use Rattle.k_caller.specs.declared.thread.ThreadLocation.TheVariants as location
use Rattle.k_switch.specs.declared.switch.Switch.{Switch}
use Rattle.k_switch.specs.Switches as switch
use Rattle.k_context.specs.Contexts.{Carrier, ContextSeen, Thread, begun}
use Rattle.k_carrier.specs.Asked.{CarrierAsk, LookAt, PutDown, Run, Take, ask_of}
use Rattle.k_carrier.specs.Seen.{HandSeen}
use Rattle.k_world.specs.Boot.{boot_state, has_thread, is_carriers}
use Rattle.k_world.specs.Worlds.{World, carrier_at, state_at}
use Rattle.k_board.specs.Boards.{Alone, Board, Nowhere, Resting}
use Rattle.k_board.proofs.Cases.{if_cases}
use Rattle.k_invariant.specs.Invariant.{BoardHolds}
use Rattle.k_places.specs.Boots.{boot_at, boot_board}
use Rattle.k_places.specs.Contexts.{ShowsContext}
use Rattle.k_places.specs.Memory.{Memory, memory_of}
use Rattle.k_places.specs.Shows.{ShowsBoard, context_in}
use Rattle.k_places.proofs.Boots.{boot_shown}
use Rattle.k_places.proofs.Places.{held_is}
use Rattle.k_places.proofs.Raw.{word_is}
use Rattle.k_turns.specs.Spelled.{IsSpelled, ask_at, ask_of_switch}
use Rattle.k_joint.proofs.Runs.{hand_is, hand_of_run}
use Rattle.k_kernel.specs.Moves.{IsMade, IsSpelledIn}
use Rattle.k_spelled.specs.Words.{SpelledAt, WordsHold}
use Rattle.k_spelled.proofs.Contexts.{thread_holds}
use Rattle.k_spelled.proofs.Moves.{step_spelled}
use Rattle.k_spelled.proofs.Steps.{switch_spelled}

switched_spelled : (size : ℕ) (s : Option Switch) → IsSpelled size (ask_of_switch s)
switched_spelled size None = tt
switched_spelled size (Some s) = switch_spelled size s.call (switch.at_of s.location)

-- the board's words are the world's
pub word_shown : (script : Script) (w : World) (b : Board) → ShowsBoard script w b → (n : ℕ) →
    state_at w n ≡ (b.seen n).word
word_shown script w b sh n = ap state_word_of (word_is w (word.State n)) ∙ sym (sh.shows.seen n).word

module _ (script : Script) (limits : IsScript script) (w : World) (b : Board) (es : List Entry)
    (k : KernelState)
    (sh : ShowsBoard script w b) (h : BoardHolds script b es k) (words : WordsHold b) where
  abbrev M : Memory
  M = memory_of w

  pub context_spelled : (i : ℕ) (v : ContextSeen) → context_in M.context M.slot M.hand i ≡ Some v →
      IsMade (state_at w i) v →
      IsSpelled script.table (ask_at (begun script v))
  context_spelled i v found made =
      by v (subst (λ (o : Option ContextSeen). ShowsContext (b.seen i).word i o (b.context i)) found
      (sh.shows.contexts i))
      (subst (λ (u : StateWord). IsMade u v) (word_shown script w b sh i) made)
    where
      by : (v : ContextSeen) → ShowsContext (b.seen i).word i (Some v) (b.context i) →
          IsMade (b.seen i).word v →
          IsSpelled script.table (ask_at (begun script v))
      by (Thread t) shown is =
          thread_holds script limits (IsSpelled script.table)
          (λ d fs q on ws j th. step_spelled script limits d fs q on ws j)
          b es k h words i t shown is
      by (Carrier z) shown is = switched_spelled script.table z.switch

  pub carrier_spelled : (c : ℕ) →
      ((x : HandSeen) → ask_of (carrier_at w c) ≡ Run x → IsMade (state_at w x.context) x.value) →
      IsSpelledIn script (ask_of (carrier_at w c))
  carrier_spelled c made = by (ask_of (carrier_at w c)) refl
    where
      by : (a : CarrierAsk) → ask_of (carrier_at w c) ≡ a → IsSpelledIn script a
      by (Run x) e =
          context_spelled x.context x.value
          (held_is M.context M.slot M.hand c x sh.shows.places
          (hand_is w c ∙ hand_of_run (carrier_at w c) x e)) (made x e)
      by (PutDown x) e = tt
      by (LookAt n) e = tt
      by (Take n bits) e = tt

-- THE FIRST WORLD

pub words_start : (script : Script) (carriers : ℕ) → IsScript script → carriers ≤ 8 →
    WordsHold (boot_board script carriers)
words_start script carriers limits few = record {
  words = words;
  contexts = λ n. record { own = words n; loaded = stands n };
}
  where
    words : (n : ℕ) → IsStateWord (boot_state script n)
    words n =
        let is = (boot_shown script carriers limits few).shows.seen n in
        subst IsStateWord (sym is.word) is.spelled.whole

    stands : (n : ℕ) → SpelledAt (boot_at script carriers n)
    stands n =
        if_cases SpelledAt (has_thread script n) (Alone (location.Between None)) _ (λ e. tt)
        (λ e. if_cases SpelledAt (is_carriers script carriers n) Resting Nowhere (λ q. tt) (λ q. tt))
