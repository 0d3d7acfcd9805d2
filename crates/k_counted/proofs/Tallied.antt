-- The counts hold at the start, after each move of a carrier, and after what comes from outside.
use Rattle.std.proofs.Common.{◌≡◌, ◌≢◌, ℕ, ◌≤◌, refl, sym, ap, ◌∙◌, subst, arith, Option, Some, None, inl, inr}
use Rattle.k_ids.specs.declared.state_word.StateWord.{StateWord}
use Rattle.k_ids.specs.declared.threads.ThreadId.{ThreadId}
use Rattle.k_locks.specs.declared.steps.Step.{Step}
use Rattle.k_locks.specs.declared.steps.Step.TheVariants as step
use Rattle.k_locks.specs.Asks.{Ask, step_for}
use Rattle.k_locks.specs.Asks as asks
use Rattle.k_locks.specs.Steps.{answer_of, word_of}
use Rattle.k_model.specs.Maps.{upd}
use Rattle.k_model.proofs.Maps.{upd_other, upd_same}
use Rattle.k_script.specs.Limits.{IsScript}
use Rattle.k_script.specs.Script.{Script}
use Rattle.k_context.specs.declared.owner.Owner.{Owner}
use Rattle.k_context.specs.declared.owner.Owner.TheVariants as owner
use Rattle.k_context.specs.Contexts.{Carrier, ContextSeen, Thread, begun, owner_of, step_of, thread_of}
use Rattle.k_carrier.specs.Asked.{CarrierAsk, LookAt, PutDown, Run, Take, ask_of, version_of}
use Rattle.k_carrier.specs.Seen.{CarrierSeen, HandSeen}
use Rattle.k_world.specs.Boot.{booted}
use Rattle.k_world.specs.Moves.{goods_for}
use Rattle.k_world.specs.Steps.{CarrierStep, moved, parked, sliced, started}
use Rattle.k_world.specs.Worlds.{World, context_at, state_at, word_at}
use Rattle.k_marks.specs.Brief.{IsTallied}
use Rattle.k_marks.specs.Counting.{IsToCome}
use Rattle.k_marks.specs.Moved.{contexts_after, versions_after, versions_with, with_step}
use Rattle.k_marks.specs.Runs.{boot_versions, counting_in, versions_moved}
use Rattle.k_marks.proofs.Flags.{parked_contexts, parked_log, sliced_contexts, sliced_log, started_contexts, started_log}
use Rattle.k_marks.proofs.Runs.{booted_counts, move_counts}
use Rattle.k_places.proofs.Boots.{boot_shown}
use Rattle.k_joint.proofs.Runs.{hand_of_run}
use Rattle.k_kernel.specs.Moves.{HasRoom, IsRunnable}
use Rattle.k_kernel.specs.Worlds.{WorldHolds}
use Rattle.k_kernel.proofs.Moves.{Reached}
use Rattle.k_joint.specs.Runs.{acting}
use Rattle.k_counted.specs.Marks.{MarksHold, placed_version, version_with}
use Rattle.k_counted.proofs.Asked.{IsAsked, IsPlacing, Permits}
use Rattle.k_counted.proofs.Contexts as move
use Rattle.k_counted.proofs.Countable.{countable, none_there}
use Rattle.k_counted.proofs.Found.{none_some, word_shown}
use Rattle.k_counted.proofs.Moved.{by_number}
use Rattle.k_counted.proofs.Owners.{contexts_keep}
use Rattle.k_counted.proofs.Versions.{turns_rise}

-- HIGHER VERSIONS

raised_to_come : (f g : ℕ → ℕ) → ((n : ℕ) → f n ≤ g n) → (o : Owner) → IsToCome g o → IsToCome f o
raised_to_come f g up (owner.Thread id) l = omega (arith, up id.number, l)
raised_to_come f g up (owner.Carrier c) l = l

-- the same is counted where more versions have been
raised : (table : ℕ) (w : World) (f g : ℕ → ℕ) → ((n : ℕ) → f n ≤ g n) → IsTallied table (counting_in w f) →
    IsTallied table (counting_in w g)
raised table w f g up h = record {
  counted = record {
    lawful = h.counted.lawful;
    number = h.counted.number;
    counts = h.counted.counts;
    known = λ n v e l. h.counted.known n v e (raised_to_come f g up (owner_of v) l);
    to_come = λ o serial l. h.counted.to_come o serial (raised_to_come f g up o l);
    uncounted = h.counted.uncounted;
  };
  brief = h.brief;
}

least_with : (s : ℕ) (o : Option ContextSeen) → s ≤ version_with s o
least_with s None = omega arith
least_with s (Some (Thread t)) = omega arith
least_with s (Some (Carrier k)) = omega arith

-- a context of the same owner, where the word's version is no lower
with_owner : (s s' : ℕ) (v u : ContextSeen) → s ≤ s' → owner_of u ≡ owner_of v →
    version_with s (Some v) ≤ version_with s' (Some u)
with_owner s s' (Thread t) (Thread z) up e =
    let same : z.id.version ≡ t.id.version = ap version_of e in omega (arith, up, same)
with_owner s s' (Carrier k) (Carrier z) up e = up
with_owner s s' (Thread t) (Carrier z) up e = absurd cc
with_owner s s' (Carrier k) (Thread z) up e = absurd cc

low_with : (s : ℕ) (v : ContextSeen) → version_of (owner_of v) ≤ s → version_with s (Some v) ≤ s
low_with s (Thread t) l = omega (arith, l)
low_with s (Carrier k) l = omega arith

-- A MOVE

module _ (script : Script) (limits : IsScript script) (room : HasRoom script) (c : ℕ) (w : World) (h : WorldHolds script w)
    (r : IsRunnable script c w) where
  abbrev K : CarrierSeen
  K = move.K script limits room c w h r

  abbrev Before : ℕ → Option ContextSeen
  Before = move.Before script limits room c w h r

  abbrev Step_by : CarrierAsk → CarrierStep
  Step_by = move.Step_by script limits room c w h r

  abbrev Now : World
  Now = moved script c w

  words_rise : (n : ℕ) → (state_at w n).version ≤ (state_at Now n).version
  words_rise n =
      let later = move.later script limits room c w h r in
      let before : Reached script h.board w.history = record { state = h.state; holds = h.holds; serials = h.serials } in
      let rise = turns_rise script limits (acting (ask_of K)) later.count h.board later.board w.history later.turns before n in
      let was = ap (λ (z : StateWord). z.version) (word_shown script w h.board h.shows n) in
      let is = ap (λ (z : StateWord). z.version) (word_shown script Now later.board later.shows n) in
      omega (arith, rise, was, is)

  versions_rise : (n : ℕ) → placed_version w n ≤ placed_version Now n
  versions_rise n = by (Before n) refl
    where
      s : ℕ
      s = (state_at w n).version

      s' : ℕ
      s' = (state_at Now n).version

      by : (o : Option ContextSeen) → Before n ≡ o → version_with s (Before n) ≤ version_with s' (context_at Now n)
      by None q =
          let is = ap (version_with s) q in
          let up = words_rise n in
          let least = least_with s' (context_at Now n) in
          omega (arith, is, up, least)
      by (Some v) q =
          subst (λ (o : Option ContextSeen). version_with s o ≤ version_with s' (context_at Now n)) (sym q)
          (elim (contexts_keep script limits room c w h r n v q) [
            | inl l ↦
                subst (λ (o : Option ContextSeen). version_with s (Some v) ≤ version_with s' o)
                (sym (move.contexts_moved script limits room c w h r n ∙ l.there))
                (with_owner s s' v l.value (words_rise n) l.owner)
            | inr low ↦
                let under = low_with s v low in
                let up = words_rise n in
                let least = least_with s' (context_at Now n) in
                omega (arith, under, up, least)
          ])

  -- what is placed is there
  module _ (x : HandSeen) (e : ask_of K ≡ Run x) (id : ThreadId) (program priority : ℕ) (p : IsPlacing h.board id)
      (is : step_of (begun script x.value) ≡ step.Place id program priority) where
    abbrev New : ContextSeen
    New = thread_of script id program priority

    apart : id.number ≢ x.context
    apart q =
        none_some (sym (none_there script limits room c w h r id p) ∙ ap Before q
        ∙ move.held_found script limits room c w h r x (hand_of_run K x e))

    placed_found : context_at Now id.number ≡ Some New
    placed_found =
        move.contexts_moved script limits room c w h r id.number
        ∙ ap (λ (s : CarrierStep). contexts_after script s Before id.number) (move.step_is script limits room c w h r (Run x) e)
        ∙ upd_other (with_step script (step_of (begun script x.value)) (answer_of (step_of (begun script x.value))
        (word_at w (word_of (step_of (begun script x.value)))) (goods_for w (step_of (begun script x.value)))) Before)
        x.context _ id.number apart
        ∙ ap (λ (s : Step). with_step script s (answer_of s (word_at w (word_of s)) (goods_for w s)) Before id.number) is
        ∙ upd_same Before id.number (Some New)

    placed_up : id.version ≤ placed_version Now id.number
    placed_up =
        let same = ap (version_with (state_at Now id.number).version) placed_found in omega (arith, same)

  abbrev Up : ℕ → Step → Type 0
  Up n s =
      versions_with s (answer_of s (word_at w (word_of s)) (goods_for w s)) (placed_version w) n ≤ placed_version Now n

  run_up : (x : HandSeen) → ask_of K ≡ Run x → (n : ℕ) → Up n (step_of (begun script x.value))
  run_up x e n = by asked.ask refl
    where
      asked : IsAsked h.board x.context (begun script x.value)
      asked = move.run_asked script limits room c w h r x e

      back : (a : Ask) → asked.ask ≡ a → Up n (step_for a asked.hand) → Up n (step_of (begun script x.value))
      back a q u = subst (Up n) (sym (asked.step ∙ ap (λ z. step_for z asked.hand) q)) u

      by : (a : Ask) → asked.ask ≡ a → Up n (step_of (begun script x.value))
      by (asks.Place id program priority) q =
          let p = subst (Permits h.board x.context) q asked.permits in
          back (asks.Place id program priority) q (by_number (λ z. upd (placed_version w) id.number id.version z ≤
          placed_version Now z) n id.number
          (subst (λ (z : ℕ). z ≤ placed_version Now id.number) (sym (upd_same (placed_version w) id.number id.version))
          (placed_up x e id program priority p (asked.step ∙ ap (λ z. step_for z asked.hand) q)))
          (λ ne. subst (λ (z : ℕ). z ≤ placed_version Now n)
          (sym (upd_other (placed_version w) id.number id.version n ne)) (versions_rise n)))
      by (asks.Load m) q = back (asks.Load m) q (versions_rise n)
      by (asks.LoadMail m) q = back (asks.LoadMail m) q (versions_rise n)
      by (asks.Post m message) q = back (asks.Post m message) q (versions_rise n)
      by (asks.Exchange m old new) q = back (asks.Exchange m old new) q (versions_rise n)
      by (asks.Acquire l) q = back (asks.Acquire l) q (versions_rise n)
      by (asks.Release l) q = back (asks.Release l) q (versions_rise n)
      by (asks.Remove id) q = back (asks.Remove id) q (versions_rise n)

  abbrev Raises : CarrierStep → Type 0
  Raises s = (n : ℕ) → versions_after s.move s.answer (placed_version w) n ≤ placed_version Now n

  move_raises : (a : CarrierAsk) → ask_of K ≡ a → Raises (Step_by a)
  move_raises (Run x) e n = run_up x e n
  move_raises (PutDown x) e n = versions_rise n
  move_raises (LookAt m) e n = versions_rise n
  move_raises (Take m bits) e n = versions_rise n

  pub moved_counts : MarksHold script w → MarksHold script Now
  moved_counts marks =
      raised script.table Now (versions_moved script c w (placed_version w)) (placed_version Now)
      (subst Raises (sym (move.step_is script limits room c w h r (ask_of K) refl)) (move_raises (ask_of K) refl))
      (move_counts script script.table c w (placed_version w) (record {
        countable = countable script limits room c w h r;
        contexts = move.contexts_moved script limits room c w h r;
      }) marks)

-- FROM OUTSIDE

-- a world with the same log, the same contexts and the same state words
same_marks : (script : Script) (w v : World) → v.steps ≡ w.steps → ((n : ℕ) → context_at v n ≡ context_at w n) →
    ((n : ℕ) → state_at v n ≡ state_at w n) → MarksHold script w → MarksHold script v
same_marks script w v log contexts states h =
    subst (IsTallied script.table) (λ d. record {
      marks = sym log d;
      context = λ n. sym (contexts n) d;
      version = λ n. version_with (sym (states n) d).version (sym (contexts n) d);
    }) h

started_states : (c number : ℕ) (w : World) (n : ℕ) → state_at (started c number w) n ≡ state_at w n
unfolding started
started_states c number w n = refl

pub started_counts : (script : Script) (w : World) (c number : ℕ) → MarksHold script w → MarksHold script (started c number w)
started_counts script w c number =
    same_marks script w (started c number w) (started_log c number w) (started_contexts c number w) (started_states c number w)

sliced_states : (c : ℕ) (w : World) (n : ℕ) → state_at (sliced c w) n ≡ state_at w n
unfolding sliced
sliced_states c w n = refl

pub sliced_counts : (script : Script) (w : World) (c : ℕ) → MarksHold script w → MarksHold script (sliced c w)
sliced_counts script w c = same_marks script w (sliced c w) (sliced_log c w) (sliced_contexts c w) (sliced_states c w)

parked_states : (c : ℕ) (w : World) (n : ℕ) → state_at (parked c w) n ≡ state_at w n
unfolding parked
parked_states c w n = refl

pub parked_counts : (script : Script) (w : World) (c : ℕ) → MarksHold script w → MarksHold script (parked c w)
parked_counts script w c = same_marks script w (parked c w) (parked_log c w) (parked_contexts c w) (parked_states c w)

-- THE START

pub booted_marks : (script : Script) (carriers : ℕ) → IsScript script → carriers ≤ 8 → MarksHold script (booted script carriers)
booted_marks script carriers limits few =
    raised script.table (booted script carriers) (boot_versions script) (placed_version (booted script carriers)) least
    (booted_counts script carriers (record {
      threads = omega (arith, limits.lines.1, limits.table.1);
      numbers = omega (arith, limits.table.1, few);
    }))
  where
    least : (n : ℕ) → boot_versions script n ≤ placed_version (booted script carriers) n
    least n =
        let w = booted script carriers in
        let is = ap (λ (z : StateWord). z.version) (word_shown script w _ (boot_shown script carriers limits few) n) in
        let low = least_with (state_at w n).version (context_at w n) in
        omega (arith, is, low)
