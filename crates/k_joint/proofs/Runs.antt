-- A carrier that makes a step of the context in its hand: the world after it shows the board after the turn.
use Rattle.std.proofs.Common.{◌≡◌, ℕ, Bool, true, false, refl, sym, ap, ◌∙◌, subst, Option, Some, None}
use Rattle.std.specs.Prelude.{if◌then◌else◌, []}
use Rattle.k_ids.specs.declared.histories.Entry.{Entry}
use Rattle.k_ids.specs.StateWords.{state_word_of}
use Rattle.k_locks.specs.declared.locks.WordName.TheVariants as word
use Rattle.k_locks.specs.declared.points.Point.{Point}
use Rattle.k_locks.specs.declared.steps.Step.{Step}
use Rattle.k_locks.specs.declared.steps.Step.TheVariants as step
use Rattle.k_locks.specs.Steps.{answer_of, word_of}
use Rattle.k_script.specs.Script.{Script}
use Rattle.k_context.specs.Contexts.{asked as context_asked, begun, points, resumed as context_resumed, step_of}
use Rattle.k_carrier.specs.Asked.{CarrierAsk, PutDown, Run, ask_of, ask_at, ask_with, asked_by, move_by}
use Rattle.k_carrier.specs.Moves.{Section}
use Rattle.k_carrier.specs.Rules.{gives, readied}
use Rattle.k_carrier.specs.Seen.{CarrierSeen, HandSeen}
use Rattle.k_world.specs.Moves.{goods_for}
use Rattle.k_world.specs.Steps.{CarrierStep, carrier_after, entry_by, entry_of, moved, recorded, running, step_in, step_with}
use Rattle.k_world.specs.Worlds.{World, carrier_at, word_at}
use Rattle.k_world.proofs.Worlds.{sized_moved}
use Rattle.k_board.specs.Boards.{Board}
use Rattle.k_places.specs.Fits.{IsStepWithin}
use Rattle.k_places.specs.Memory.{Memory, at, memory_of, moved_maps}
use Rattle.k_joint.specs.Ready.{IsReady}
use Rattle.k_joint.specs.Runs.{ShowsLater}
use Rattle.k_turns.specs.Sections.{section_entry, section_maps}
use Rattle.k_places.specs.Answers.{answer_in, entry_in, goods_found}
use Rattle.k_places.specs.Shows.{IsWhole, Shows, ShowsBoard}
use Rattle.k_places.proofs.Raw.{maps_moved, word_is}
use Rattle.k_joint.proofs.Sections.{section_comes}

-- WHAT THE CARRIER HAS IN HAND

hand_at : (k : CarrierSeen) (s : Option ℕ) (h : HandSeen) → ask_at k s ≡ Run h → ⊥
hand_at k None h e = absurd cc
hand_at k (Some bits) h e = absurd cc

held_of : (k : CarrierSeen) (x : HandSeen) (t : Bool) (h : HandSeen) → (if t then PutDown x else Run x) ≡ Run h → x ≡ h
held_of k x true h e = absurd cc
held_of k x false h e = cc

pub hand_of_run : (k : CarrierSeen) (h : HandSeen) → ask_of k ≡ Run h → k.hand ≡ Some h
hand_of_run k h e = by k.hand refl e
  where
    by : (o : Option HandSeen) → k.hand ≡ o → ask_with k o ≡ Run h → k.hand ≡ Some h
    by (Some x) q z = q ∙ ap Some (held_of k x (gives k x) h z)
    by None q z = absurd (hand_at (readied k) (readied k).looked h z)

-- WHAT THE STEP FINDS

pub goods_is : (w : World) (s : Step) → goods_for w s ≡ goods_found (memory_of w) s
unfolding at
goods_is w (step.Acquire l) = refl
goods_is w (step.Release l g) = refl
goods_is w (step.Place id program priority) = refl
goods_is w (step.Remove id) = refl
goods_is w (step.Load name) = refl
goods_is w (step.Store name value) = refl
goods_is w (step.Exchange name old new) = refl

entry_is : (w : World) (p : Option Point) → entry_by w p ≡ entry_in (memory_of w).serial p
unfolding at
entry_is w None = refl
entry_is w (Some p) = refl

pub hand_is : (w : World) (c : ℕ) → (memory_of w).hand c ≡ (carrier_at w c).hand
unfolding at
hand_is w c = refl

module _ (script : Script) (w : World) (c : ℕ) where
  abbrev K : CarrierSeen
  K = carrier_at w c

  -- a step with what is asked
  abbrev pub StepWith : CarrierAsk → CarrierStep
  StepWith a = step_with w c K (asked_by script K a) (move_by script K a)

  abbrev pub MapsWith : CarrierAsk → Memory
  MapsWith a =
      moved_maps script (memory_of w) c (running (asked_by script K a).hand) (move_by script K a)
      (carrier_after (StepWith a)).hand (entry_of w (StepWith a))

  -- the maps of a step of the context in hand
  run_maps : (h : HandSeen) → MapsWith (Run h) ≡ section_maps script (memory_of w) c h.context (begun script h.value)
  run_maps h =
      let m = memory_of w in
      let v = begun script h.value in
      let s = step_of v in
      let answers : answer_of s (word_at w (word_of s)) (goods_for w s) ≡ answer_in m s =
      λ d. answer_of s (word_is w (word_of s) d) (goods_is w s d) in
      (λ d. moved_maps script m c h.context (Section s) (Some
      (record { context = h.context; value = context_resumed (context_asked v) (answers d) }))
      (entry_is w (points (context_asked v) (state_word_of (word_is w (word.State h.context) d)) (answers d)) d))

  pub maps_run : (h : HandSeen) → ask_of K ≡ Run h → IsStepWithin w (step_in script c w) →
      memory_of (moved script c w) ≡ section_maps script (memory_of w) c h.context (begun script h.value)
  unfolding moved step_in
  maps_run h e within = maps_moved script w (step_in script c w) within ∙ ap MapsWith e ∙ run_maps h

  -- the entry that it makes
  run_entry : (h : HandSeen) → entry_of w (StepWith (Run h)) ≡ section_entry (memory_of w) h.context (begun script h.value)
  run_entry h =
      let m = memory_of w in
      let v = begun script h.value in
      let s = step_of v in
      let answers : answer_of s (word_at w (word_of s)) (goods_for w s) ≡ answer_in m s =
      λ d. answer_of s (word_is w (word_of s) d) (goods_is w s d) in
      (λ d. entry_is w (points (context_asked v) (state_word_of (word_is w (word.State h.context) d)) (answers d)) d)

  pub entry_run : (h : HandSeen) → ask_of K ≡ Run h →
      entry_of w (step_in script c w) ≡ section_entry (memory_of w) h.context (begun script h.value)
  unfolding step_in
  entry_run h e = ap (λ (a : CarrierAsk). entry_of w (StepWith a)) e ∙ run_entry h

  pub whole_moved : IsWhole script w → IsWhole script (moved script c w)
  whole_moved h =
      let s = sized_moved script c w in record {
        words = s.words ∙ h.words;
        slots = s.slots ∙ h.slots;
        serials = s.serials ∙ h.serials;
      }

  pub section_shown : (b : Board) (h : HandSeen) → ShowsBoard script w b → ask_of K ≡ Run h → IsReady script b h.context h.value →
      IsStepWithin w (step_in script c w) → ShowsLater script b h.context (entry_of w (step_in script c w)) (moved script c w)
  section_shown b h sh e ready within =
      let soon = section_comes script (memory_of w) b c h sh.shows (hand_is w c ∙ hand_of_run K h e) ready in
      let comes = soon.comes in
      record {
        count = soon.count;
        few = soon.few;
        board = comes.board;
        turns = comes.turns;
        shows = record {
          whole = whole_moved sh.whole;
          shows =
              subst (λ (m : Memory). Shows script m comes.board) (sym (maps_run h e within)) comes.shows;
        };
        entries = comes.entries ∙ ap (λ (o : Option Entry). recorded o []) (sym (entry_run h e));
      }
