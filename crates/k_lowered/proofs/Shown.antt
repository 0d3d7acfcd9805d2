-- The board and the carriers that a raw world shows are, as far as the measure reads them, any of this moment.
use Rattle.std.proofs.Common.{◌≡◌, ℕ, ◌+◌, ◌-◌, ◌*◌, ◌<◌, ◌≤◌, refl, sym, ap, ◌∙◌, subst, arith}
use Rattle.std.proofs.Common.{Option, Some, None, length, inl, inr}
use Rattle.std.specs.Prelude.{if◌then◌else◌}
use Rattle.k_ids.specs.declared.context_word.ContextWord.{ContextWord}
use Rattle.k_ids.specs.declared.context_word.ContextWord.TheVariants.{Empty, Clean, Holds, Taken}
use Rattle.k_ids.specs.declared.state_word.StateWord.{StateWord}
use Rattle.k_ids.specs.ContextWords.{context_word_of}
use Rattle.k_locks.specs.declared.locks.Lock.{Lock}
use Rattle.k_locks.specs.declared.locks.Lock.TheVariants as lock
use Rattle.k_model.specs.State.{KernelState}
use Rattle.k_script.specs.Script.{Script}
use Rattle.k_switch.specs.declared.switch.SwitchLocked.TheVariants as locked
use Rattle.k_switch.specs.Switches as switch
use Rattle.k_context.specs.Contexts.{ContextSeen, Thread, Carrier as OfSwitches}
use Rattle.k_carrier.specs.Rules as carriers
use Rattle.k_carrier.specs.Seen.{CarrierSeen}
use Rattle.k_world.specs.Worlds.{World, carrier_at}
use Rattle.k_board.specs.Boards.{Alone, At, Board, Context, InCreate, InDestroy, InReceive, InSend, InSwitch}
use Rattle.k_board.specs.Boards.{Coming, Nowhere, Resting}
use Rattle.k_places.specs.Contexts.{ShowsContext, thread_at}
use Rattle.k_places.specs.Memory.{memory_of}
use Rattle.k_places.specs.Shows.{Shows}
use Rattle.k_tokens.specs.Maps.{id_at}
use Rattle.k_tokens.specs.World.{Carrier, ContextName, HeldLocks, Help, OfCarrier, OfThread, OwnContext, Stage, Threads}
use Rattle.k_tokens.specs.World.{holds, holds_any, holds_ready, is_lock_of, names}
use Rattle.k_tokens.specs.World as tokens
use Rattle.k_switching.specs.Rules.{begins, context_at, is_interrupted, is_own, same_word, slot_word, target_of}
use Rattle.k_switching.specs.Rules.{thread_word, word_of}
use Rattle.k_grants.specs.Views.{look_at, made_by, name_of, threads_of}
use Rattle.k_stages.specs.Stages.{IsOwn}
use Rattle.k_moves.specs.Views.{carrier_view}
use Rattle.k_moves.proofs.Looks.{inside_goal}
use Rattle.k_moves.proofs.Names.{which}
use Rattle.k_moves.proofs.Rules.{place_same}
use Rattle.k_work.specs.Near.{finished_worth, is_wanted_by, lacking_worth, level_of, looked_place}
use Rattle.k_work.specs.Near.{near_free, near_hand, near_of, rank_by, rank_of}
use Rattle.k_aligned.specs.Aligned.{IsAligned, found_in}
use Rattle.k_handling.specs.Handling.{IsKernel}
use Rattle.k_handling.proofs.Words.{hand_told, held_at, held_told}
use Rattle.k_lowered.specs.Shown.{board_in, context_by, own_by, state_in, taken_by, view_in}

taken_is : (l : ContextWord) → taken_by l ≡ hand_told l
taken_is Empty = refl
taken_is (Clean v) = refl
taken_is (Holds v) = refl
taken_is (Taken c v) = refl

at_by : (script : Script) (word word' : StateWord) (n : ℕ) (o : Option ContextSeen) (x : Context) → word' ≡ word →
    ShowsContext word n o x → (context_by script n word' o).at ≡ x.at
at_by script word word' n None x e h = sym h
at_by script word word' n (Some (Thread t)) x e h = ap (λ z. thread_at z t) e ∙ sym (ap (λ (y : Context). y.at) h.context)
at_by script word word' n (Some (OfSwitches k)) x e h = sym h

stage_by : (p : At) (own : OwnContext) → IsOwn p own → (own_by p).stage ≡ own.stage
stage_by (InSwitch c switch.AcquireReady) own h = sym h.1
stage_by (InSwitch c (switch.Locked (locked.LoadGoal goal))) own h = sym h.1
stage_by (InSwitch c (switch.Locked (locked.LoadStart back number))) own h = sym h.1
stage_by (InSwitch c (switch.Locked (locked.ReleaseReady back started))) own h = sym h.1
stage_by (InSwitch c (switch.Returned s)) own h = absurd h
stage_by (InSwitch c (switch.Finished s)) own h = sym h.0
stage_by Resting own h = sym h
stage_by Nowhere own h = sym h
stage_by (Alone p) own h = absurd h
stage_by (InSend c p) own h = absurd h
stage_by (InReceive c p) own h = absurd h
stage_by (InCreate c p) own h = absurd h
stage_by (InDestroy c p) own h = absurd h
stage_by Coming own h = absurd h

module _ (script : Script) (w : World) (b : Board) (view : tokens.World) (state : KernelState)
    (k : IsKernel script w b view state) where
  abbrev pub B : Board
  B = board_in script w

  abbrev pub V : tokens.World
  V = view_in script w

  sh : Shows script (memory_of w) b
  sh = k.aligned.shows.shows

  abbrev context_word : ℕ → ContextWord
  context_word n = context_word_of ((memory_of w).context n)

  -- THE BOARD

  pub word_same : (n : ℕ) → state_in w n ≡ (b.seen n).word
  word_same n = sym (sh.seen n).word

  pub at_same : (i : ℕ) → (B.context i).at ≡ (b.context i).at
  at_same i = at_by script (b.seen i).word (state_in w i) i (found_in w i) (b.context i) (word_same i) (sh.contexts i)

  -- THE CARRIERS

  agree : view.threads ≡ threads_of view.threads.priority b
  agree = k.whole.pair.alike.agrees.threads

  locks_same : (t : ℕ) → V.threads.locks t ≡ view.threads.locks t
  locks_same t = ap (λ p. (look_at p).locks) (at_same t) ∙ sym (ap (λ (x : Threads). x.locks t) agree)

  made_same : (t : ℕ) → V.threads.made t ≡ view.threads.made t
  made_same t =
      (λ z. made_by (look_at (at_same t z)).is_coming (word_same t z).version)
      ∙ sym (ap (λ (x : Threads). x.made t) agree)

  condition_same : (t : ℕ) → V.threads.condition t ≡ view.threads.condition t
  condition_same t = ap (λ p. (look_at p).condition) (at_same t) ∙ sym (ap (λ (x : Threads). x.condition t) agree)

  pub stage_same : (d : ℕ) → (V.own d).stage ≡ (view.own d).stage
  stage_same d =
      ap (λ p. (own_by p).stage) (at_same (script.table + d))
      ∙ stage_by (b.context (script.table + d)).at (view.own d)
      (subst (λ n. IsOwn (b.context (n + d)).at (view.own d)) sh.size (k.whole.pair.alike.stages d))

  pub carrier_same : (d : ℕ) → d < length w.carriers → V.carrier d ≡ view.carrier d
  carrier_same d low = sym (k.aligned.carriers d low).viewed

  holds_same : (x : ContextName) (l : Option Lock) → holds V x l ≡ holds view x l
  holds_same (OfThread t) None = ap holds_any (locks_same t)
  holds_same (OfThread t) (Some lock.Table) = ap (λ (x : HeldLocks). x.table) (locks_same t)
  holds_same (OfThread t) (Some (lock.Thread m)) = ap (λ (x : HeldLocks). is_lock_of m x.thread) (locks_same t)
  holds_same (OfThread t) (Some lock.Ready) = ap (λ (x : HeldLocks). x.ready) (locks_same t)
  holds_same (OfCarrier d) None = ap holds_ready (stage_same d)
  holds_same (OfCarrier d) (Some lock.Table) = refl
  holds_same (OfCarrier d) (Some (lock.Thread m)) = refl
  holds_same (OfCarrier d) (Some lock.Ready) = ap holds_ready (stage_same d)

  rank_same : (h : Help) → rank_of V h ≡ rank_of view h
  rank_same h = ap (λ t. rank_by t h.lock) (holds_same h.context (Some lock.Table))

  level_same : (o : Option Help) → level_of V o ≡ level_of view o
  level_same None = refl
  level_same (Some h) = λ z. if holds_same h.context h.lock z then 3 - rank_same h z else 5

  wanted_same : (c : ℕ) (j : Carrier) (o : Option Help) (x : ContextName) →
      is_wanted_by V c j o x ≡ is_wanted_by view c j o x
  wanted_same c j (Some h) x = refl
  wanted_same c j None (OfThread t) =
      ap (λ n. if j.switching then is_own c (OfThread t) else names j.goal (id_at t n)) (made_same t)
  wanted_same c j None (OfCarrier d) = refl

  -- the word of a context of this number
  held_same : (n : ℕ) (x : ContextName) → name_of script.table n ≡ x →
      taken_by (context_word n) ≡ held_at view x
  held_same n x e =
      taken_is (context_word n) ∙ sym (held_told script w b view state k n (context_word n) refl)
      ∙ ap (held_at view) e

  context_word_same : (n : ℕ) → word_of V (name_of script.table n) ≡ word_of view (name_of script.table n)
  context_word_same n = elim (which script.table n) [
    | inl x ↦
        ap (word_of V) x.1
        ∙ (λ z. thread_word (condition_same n z) (held_same n (OfThread n) x.1 z) (holds_any (locks_same n z)) (made_same n z))
        ∙ ap (word_of view) (sym x.1)
    | inr x ↦
        ap (word_of V) x.1
        ∙ (λ z. slot_word (own_held n x.0 x.1 z) (holds_ready (stage_same (n - script.table) z)) 1)
        ∙ ap (word_of view) (sym x.1)
  ]
    where
      own_held : (n : ℕ) → script.table ≤ n → name_of script.table n ≡ OfCarrier (n - script.table) →
          V.held_own (n - script.table) ≡ view.held_own (n - script.table)
      own_held n far e =
          let there : script.table + (n - script.table) ≡ n = omega (arith, far) in
          ap (λ m. taken_by (context_word m)) there ∙ held_same n (OfCarrier (n - script.table)) e

  -- NEARNESS

  module _ (c : ℕ) (low : c < length w.carriers) where
    abbrev K : CarrierSeen
    K = carrier_at w c

    abbrev J : Carrier
    J = carrier_view K

    a : IsAligned script c K view
    a = k.aligned.carriers c low

    named : context_at c (target_of J) ≡ name_of script.table (carriers.context_at K (carriers.target_of K))
    named =
        ap (λ n. context_at n (target_of J)) (sym a.number)
        ∙ place_same K (inside_goal K a.given.goal)
        ∙ ap (λ m. name_of m (carriers.context_at K (carriers.target_of K))) a.sound.table

    target_same : word_of V (context_at c (target_of J)) ≡ word_of view (context_at c (target_of J))
    target_same =
        ap (word_of V) named ∙ context_word_same (carriers.context_at K (carriers.target_of K)) ∙ ap (word_of view) (sym named)

    looked_same : (o : Option ContextWord) → looked_place V c J o ≡ looked_place view c J o
    looked_same None = refl
    looked_same (Some word) = ap (λ y. if same_word word y then 1 else 3) target_same

    free_same : (s : Stage) → near_free V c J s ≡ near_free view c J s
    free_same s =
        λ z. if begins J then 31 else finished_worth s + 5 * level_same J.help z + looked_same J.looked z

    by_hand : (s : Stage) (o : Option ContextName) → near_hand V c J s o ≡ near_hand view c J s o
    by_hand s None = λ z. if J.putting then 5 + free_same s z else free_same s z
    by_hand s (Some x) =
        λ z. if is_interrupted J then 32
        else finished_worth s + lacking_worth J + 5 * level_same J.help z
        + (if J.putting then 4 else (if wanted_same c J J.help x z then 0 else 4))

    pub near_same : near_of V c ≡ near_of view c
    near_same =
        by_hand (V.own c).stage J.hand
        ∙ (λ z. near_hand view c (carrier_same c low z) (stage_same c z) (carrier_same c low z).hand)
