-- What contexts owe on the board that a raw world shows is what they owe on any of this moment.
use Rattle.std.proofs.Common.{◌≡◌, ℕ, zero, suc, ◌+◌, ◌*◌, ◌<◌, true, refl, sym, ap, ◌∙◌, arith}
use Rattle.std.proofs.Common.{Option, Some, None, length}
use Rattle.k_ids.specs.declared.state_word.StateWord.{StateWord}
use Rattle.k_ids.specs.declared.threads.ThreadId.{ThreadId}
use Rattle.k_locks.specs.Shown.{is_dead}
use Rattle.k_model.specs.State.{KernelState}
use Rattle.k_script.specs.Limits.{IsScript}
use Rattle.k_script.specs.Plays.{Position}
use Rattle.k_script.specs.Script.{Script}
use Rattle.k_ipc.specs.SendTable as send
use Rattle.k_ipc.specs.ReceiveTable as receive
use Rattle.k_threads.specs.DestroyTable as destroy
use Rattle.k_caller.specs.Waits as alone
use Rattle.k_switch.specs.declared.switch.Switch.{Switch}
use Rattle.k_switch.specs.Switches as switch
use Rattle.k_context.specs.Contexts.{ContextSeen, Thread, Carrier as OfSwitches}
use Rattle.k_world.specs.Worlds.{World}
use Rattle.k_board.specs.Boards.{Alone, At, Board, Context, InCreate, InDestroy, InReceive, InSend, InSwitch}
use Rattle.k_board.specs.Boards.{Coming, Nowhere, Resting, id_at}
use Rattle.k_good.specs.Ranges.{is_threads}
use Rattle.k_places.specs.Contexts.{ShowsContext, switch_at, thread_shown}
use Rattle.k_room.specs.Room.{sum_below}
use Rattle.k_sections.specs.Situations.{LoadedWord, is_there}
use Rattle.k_sections.specs.Words.{same_words}
use Rattle.k_tokens.specs.World.{has_switch}
use Rattle.k_tokens.specs.World as tokens
use Rattle.k_owed.specs.Owed.{entries_in, leave_owed, owed, owed_at, owed_by, steps_owed}
use Rattle.k_owed.specs.Owes.{entry_worth, expected, owes, owes_alone, owes_at, owes_destroy, owes_of, owes_receive}
use Rattle.k_owed.specs.Owes.{owes_send, owes_switch, rest_of, switch_worth}
use Rattle.k_owed.specs.Works.{work_ahead}
use Rattle.k_owed.proofs.Sums.{sum_same}
use Rattle.k_work.specs.Near.{near_of}
use Rattle.k_work.specs.Work.{contexts_of, flags_of, starts_of, switches_by, switches_of, threads_at, threads_by, threads_had}
use Rattle.k_work.specs.Work.{work_parts}
use Rattle.k_aligned.specs.Aligned.{found_in}
use Rattle.k_handling.specs.Handling.{IsKernel}
use Rattle.k_lowered.specs.Lowered.{parts_in, room_in}
use Rattle.k_lowered.specs.Shown.{context_by, state_in}
use Rattle.k_lowered.proofs.Goods.{lists_same, queue_same}
use Rattle.k_lowered.proofs.Shown.{B, V, at_same, carrier_same, near_same, stage_same, word_same}

-- sums that agree below the count are the same
pub sum_same_below : (f g : ℕ → ℕ) (count : ℕ) → ((t : ℕ) → t < count → g t ≡ f t) → sum_below g count ≡ sum_below f count
sum_same_below f g zero same = omega arith
sum_same_below f g (suc n) same =
    omega (arith, sum_same_below f g n (λ t low. same t (omega (arith, low))), same n (omega arith))

-- a context that isn't there owes nothing
nowhere_owes : (work : Position → ℕ) (b : Board) (i : ℕ) (x : Context) → x.at ≡ Nowhere → owes_of work b i x ≡ 0
nowhere_owes work b i x e = ap (owes_at (rest_of work b x) b i x.own) e

-- what a carrier's own context owes
abbrev owes_own : Option Switch → ℕ
owes_own None = 0
owes_own (Some s) = owes_switch s.call (switch.at_of s.location)

own_owes : (work : Position → ℕ) (b : Board) (i : ℕ) (x : Context) (o : Option Switch) → x.at ≡ switch_at o →
    owes_of work b i x ≡ owes_own o
own_owes work b i x None e = ap (owes_at (rest_of work b x) b i x.own) e
own_owes work b i x (Some s) e = ap (owes_at (rest_of work b x) b i x.own) e

module _ (script : Script) (limits : IsScript script) (w : World) (b : Board) (view : tokens.World) (state : KernelState)
    (k : IsKernel script w b view state) where
  abbrev C : Board
  C = B script w b view state k

  abbrev U : tokens.World
  U = V script w b view state k

  size_same : C.size ≡ b.size
  size_same = sym k.aligned.shows.shows.size

  words : (n : ℕ) → (C.seen n).word ≡ (b.seen n).word
  words n = word_same script w b view state k n

  places : (i : ℕ) → (C.context i).at ≡ (b.context i).at
  places i = at_same script w b view state k i

  there_same : (o : Option LoadedWord) → is_there C.seen o ≡ is_there b.seen o
  there_same None = refl
  there_same (Some l) = ap (λ z. same_words z l.word) (words l.number)

  id_same : (i : ℕ) → id_at C i ≡ id_at b i
  id_same i = λ z. record { number = i; version = (words i z).version }

  owes_alike : (i rest : ℕ) (own : StateWord) (p : At) → (is_threads p ≡ true → C.queue i ≡ b.queue i) →
      owes_at rest C i own p ≡ owes_at rest b i own p
  owes_alike i rest own (Alone p) queue =
      ap (λ t. owes_alone rest t p) (there_same (expected (alone.ask_of (id_at C i) own p))
      ∙ ap (λ (x : ThreadId). is_there b.seen (expected (alone.ask_of x own p))) (id_same i))
  owes_alike i rest own (InSend c p) queue =
      λ z. owes_send (size_same z) rest (there_same (expected (send.ask_of c own p)) z) (is_dead (words i z)) c p
  owes_alike i rest own (InReceive c p) queue =
      λ z. owes_receive (size_same z) rest (there_same (expected (receive.ask_of c own p)) z) c (queue refl z) p
  owes_alike i rest own (InCreate c p) queue = refl
  owes_alike i rest own (InDestroy c p) queue =
      ap (λ t. owes_destroy rest t c p) (there_same (expected (destroy.ask_of c own p)))
  owes_alike i rest own (InSwitch c p) queue = refl
  owes_alike i rest own Resting queue = refl
  owes_alike i rest own Coming queue = refl
  owes_alike i rest own Nowhere queue = refl

  -- a thread's context is the same
  thread_owes : (work : Position → ℕ) (i : ℕ) → C.context i ≡ b.context i → owes work C i ≡ owes work b i
  thread_owes work i e =
      ap (owes_of work C i) e
      ∙ ap (λ n. owes_at (work (b.context i).position + n + 7) C i (b.context i).own (b.context i).at) size_same
      ∙ owes_alike i (rest_of work b (b.context i)) (b.context i).own (b.context i).at
      (λ t. queue_same script limits w b k.aligned.shows.shows k.whole.pair.good.locks i (k.whole.pair.within.threads i t).number)

  owes_same : (work : Position → ℕ) (i : ℕ) → owes work C i ≡ owes work b i
  owes_same work i = by (found_in w i) refl (k.aligned.shows.shows.contexts i)
    where
      by : (o : Option ContextSeen) → found_in w i ≡ o → ShowsContext (b.seen i).word i o (b.context i) →
          owes work C i ≡ owes work b i
      by None e h = nowhere_owes work C i (C.context i) (places i ∙ h) ∙ sym (nowhere_owes work b i (b.context i) h)
      by (Some (OfSwitches x)) e h =
          own_owes work C i (C.context i) x.switch (places i ∙ h) ∙ sym (own_owes work b i (b.context i) x.switch h)
      by (Some (Thread t)) e h =
          thread_owes work i (ap (context_by script i (state_in w i)) e ∙ ap (λ z. thread_shown z t) (words i)
          ∙ sym h.context)

  counts : contexts_of C U ≡ contexts_of b view
  counts = λ z. size_same z + sym k.aligned.count z

  owed_same : owed C (contexts_of C U) ≡ owed b (contexts_of b view)
  owed_same =
      sum_same (owed_by b) (owed_by C) (contexts_of C U) (λ t z. leave_owed (words t z) + owed_at (places t z))
      ∙ ap (owed b) counts

  lists : C.lists ≡ b.lists
  lists = lists_same script limits w b k.aligned.shows.shows k.whole.pair.good.locks

  steps_same : (work : Position → ℕ) → steps_owed work C (contexts_of C U) ≡ steps_owed work b (contexts_of b view)
  steps_same work =
      (λ z. sum_same (owes work b) (owes work C) (contexts_of C U) (owes_same work) z
      + entry_worth * entries_in (lists z).lists)
      ∙ ap (steps_owed work b) counts

  threads_same : threads_had U ≡ threads_had view
  threads_same =
      sum_same_below (threads_at view) (threads_at U) (length w.carriers)
      (λ d low z. threads_by (has_switch (stage_same script w b view state k d z))
      (carrier_same script w b view state k d low z).goal
      (starts_of (carrier_same script w b view state k d low z)))
      ∙ ap (sum_below (threads_at view)) (sym k.aligned.count)

  switches_same : (c : ℕ) → c < length w.carriers →
      switches_of (U.own c) (U.carrier c) ≡ switches_of (view.own c) (view.carrier c)
  switches_same c low =
      λ z. switches_by (has_switch (stage_same script w b view state k c z))
      (carrier_same script w b view state k c low z).goal
      (flags_of (carrier_same script w b view state k c low z))

  pub parts_same : (c : ℕ) → c < length w.carriers →
      parts_in script w c ≡ work_parts work_ahead b view c (room_in script w) (near_of view c)
  parts_same c low = λ z. record {
    room = room_in script w;
    owed = owed_same z;
    steps = steps_same work_ahead z + entry_worth * threads_same z + switch_worth * switches_same c low z;
    near = near_same script w b view state k c low z;
  }
