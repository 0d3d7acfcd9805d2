-- The list of numbers agrees with the words after each step of a destroy.
use Rattle.std.proofs.Common.{◌≡◌, ◌≢◌, ℕ, ◌+◌, ◌<◌, Bool, true, false, refl, sym, ap, ◌∙◌, subst, arith, Option, Some, None, List, [], ◌∷◌, ◌⊎◌, inl, inr, not, cond}
use Rattle.std.specs.Prelude.{◌==◌, ◌&&◌, length, nat_lt, slice_index_or, slice_set}
use Rattle.std.proofs.lemmas.Bool.{and_parts, eqb-true}
use Rattle.std.proofs.lemmas.Bool.Decides.{eqb_tells, nat_tests}
use Rattle.std.proofs.lemmas.Bool.{cases_lt}
use Rattle.std.proofs.lemmas.List.{get_or-set_other, get_or-set_same, get_or_past, length-set, set_past}
use Rattle.std.proofs.Common.{◌≤◌}
use Rattle.k_ids.specs.declared.calls.Reply.TheVariants as reply
use Rattle.k_ids.specs.declared.state_word.StateWord.{StateWord}
use Rattle.k_model.specs.Maps.{upd}
use Rattle.k_model.proofs.Maps.{upd_same, upd_other}
use Rattle.k_senders.specs.declared.entries.SenderEntry.{SenderEntry}
use Rattle.k_locks.specs.Asks.{Response}
use Rattle.k_locks.specs.Asks as asks
use Rattle.k_locks.specs.Numbers.{is_present, without_thread}
use Rattle.k_locks.specs.Shown.{found_in, is_dead, is_present_in}
use Rattle.k_threads.specs.declared.destroy.DestroyCall.{DestroyCall}
use Rattle.k_threads.specs.declared.destroy.DestroyOutside.TheVariants as destroy_outside
use Rattle.k_threads.specs.declared.destroy.DestroyLocked.{DestroyLocked}
use Rattle.k_threads.specs.declared.destroy.DestroyLocked.TheVariants as destroy_locked
use Rattle.k_threads.specs.declared.destroy.DestroyRelease.TheVariants as destroy_release
use Rattle.k_threads.specs.declared.destroy.DestroyVictim.TheVariants as victim
use Rattle.k_threads.specs.declared.destroy.DestroyVisit.TheVariants as visit
use Rattle.k_threads.specs.declared.destroy.DestroyPushing.TheVariants as destroy_pushing
use Rattle.k_threads.specs.DestroyTable.{DestroyAt, but_victim, free_first, visit_from}
use Rattle.k_threads.specs.DestroyTable as destroy
use Rattle.k_threads.specs.Goods.{rest}
use Rattle.k_threads.specs.Words.{dead_word, is_receiving_from}
use Rattle.k_board.specs.Words.{Programs, Seen, called, noted}
use Rattle.k_ids.specs.declared.calls.Outcome.TheVariants as outcome
use Rattle.k_model.specs.State.{same_id}
use Rattle.k_board.specs.Boards.{At, InDestroy, Nowhere, Context, Board, hand_of}
use Rattle.k_board.specs.Facts.{AllSay, IsFront}
use Rattle.k_board.specs.Places.{facts_destroy}
use Rattle.k_board.specs.Steps.{Answers, destroy_board, destroy_context, destroy_number, with_word, write}
use Rattle.k_board.proofs.Cases.{if_cases}
use Rattle.k_board.proofs.DestroyPlaces.{dead_apart, front_sends, killed_it, killed_me, killed_other, receiving_is}
use Rattle.k_good.specs.Numbers.{by_owner, killed_at, made_at, there_at, is_killed, is_left}
use Rattle.k_good.proofs.Numbers.{Alike, IsQuiet, Numbered, after_quiet, numbers_step, test_quiet}
use Rattle.k_good.proofs.NumberTurns.{alike_eq, alike_same, called_alike, freed_alike, gets_step, leaves_step, not_number, nowhere_stays, number_not, owner_step, tells}

-- LOCATIONS

free_killed : (q : List SenderEntry) → is_killed (destroy.Victim (free_first q)) ≡ true
free_killed [] = refl
free_killed (e ∷ es) = refl

free_left : (q : List SenderEntry) → is_left (destroy.Victim (free_first q)) ≡ true
free_left [] = refl
free_left (e ∷ es) = refl

visits_killed : (c : DestroyCall) (n : ℕ) → is_killed (destroy.Locked (visit_from c n)) ≡ true
visits_killed c n = if_cases (λ (p : DestroyLocked). is_killed (destroy.Locked p) ≡ true) (nat_lt (but_victim c n) c.count) (destroy_locked.AcquireVisitedLock (but_victim c n)) (destroy_locked.Release destroy_release.Killed) (λ q. refl) (λ q. refl)

visits_left : (c : DestroyCall) (n : ℕ) → is_left (destroy.Locked (visit_from c n)) ≡ false
visits_left c n = if_cases (λ (p : DestroyLocked). is_left (destroy.Locked p) ≡ false) (nat_lt (but_victim c n) c.count) (destroy_locked.AcquireVisitedLock (but_victim c n)) (destroy_locked.Release destroy_release.Killed) (λ q. refl) (λ q. refl)

tested : {a d : Bool} (n t : ℕ) → a ≡ d → (a && (n == t)) ≡ (d && (n == t))
tested n t e = ap (λ (z : Bool). z && (n == t)) e

both_false : (a : Bool) (n t : ℕ) → a ≡ true → (a && (n == t)) ≡ false → t ≢ n
both_false a n t e q = number_not n t (ap (λ (z : Bool). z && (n == t)) (sym e) ∙ q)

-- a number is taken off a list of who is there
taken_off : (xs : List Bool) (n : ℕ) → slice_index_or (slice_set xs n false) n false ≡ false
taken_off xs n = by (cases_lt n (length xs))
  where
    by : (n < length xs) ⊎ (length xs ≤ n) → slice_index_or (slice_set xs n false) n false ≡ false
    by (inl l) = get_or-set_same xs n false false l
    by (inr l) = ap (λ (ys : List Bool). slice_index_or ys n false) (set_past xs n false l) ∙ get_or_past xs n false l

module _ (g : Programs) (b : Board) (i : ℕ) (h : Numbered b) (c : DestroyCall) where
  abbrev Destroyed : DestroyAt → Response → Type 0
  Destroyed p r = Numbered (destroy_board g b i (b.context i) c p r)

  abbrev ctx_of : DestroyAt → Response → Context
  ctx_of p r = destroy_context (b.context i) c p r (hand_of b (b.queue (destroy_number c p)))

  module _ (p : DestroyAt) (at : (b.context i).at ≡ InDestroy c p) where
    somewhere : (b.context i).at ≢ Nowhere
    somewhere e = absurd_at (sym at ∙ e)
      where
        absurd_at : InDestroy c p ≡ Nowhere → ⊥
        absurd_at q = cc

    made_here : (t : ℕ) → made_at (b.context i).at t ≡ false
    made_here t = ap (λ (q : At). made_at q t) at

    killed_here : (t : ℕ) → killed_at (b.context i).at t ≡ killed_at (InDestroy c p) t
    killed_here t = ap (λ (q : At). killed_at q t) at

    there_here : (t : ℕ) → there_at (b.context i).at t ≡ there_at (InDestroy c p) t
    there_here t = ap (λ (q : At). there_at q t) at

  quiet_destroy : (p : DestroyAt) → (b.context i).at ≡ InDestroy c p → is_killed p ≡ false → is_left p ≡ false → IsQuiet (b.context i).at
  quiet_destroy p at k l = record { made = made_here p at; killed = λ t. killed_here p at t ∙ tested c.who.number t k; there = λ t. there_here p at t ∙ tested c.who.number t l; somewhere = somewhere p at }

  -- under the table lock, where the tests tell the same
  still_destroy : (p : DestroyAt) (r : Response) → (b.context i).at ≡ InDestroy c p → (destroy_board g b i (b.context i) c p r).numbers ≡ b.numbers → (destroy_board g b i (b.context i) c p r).context ≡ upd b.context i (ctx_of p r) → ((t : ℕ) → Alike (b.seen t) ((destroy_board g b i (b.context i) c p r).seen t)) → b.table ≡ Some i → (destroy_board g b i (b.context i) c p r).table ≡ Some i → ((t : ℕ) → made_at (ctx_of p r).at t ≡ false) → ((t : ℕ) → killed_at (ctx_of p r).at t ≡ killed_at (InDestroy c p) t) → ((t : ℕ) → there_at (ctx_of p r).at t ≡ there_at (InDestroy c p) t) → Destroyed p r
  still_destroy p r at n k w o o' made killed there =
      owner_step b (destroy_board g b i (b.context i) c p r) i (ctx_of p r) (ap (λ (f : ℕ → Context). f i) k ∙ upd_same b.context i (ctx_of p r)) h n w
      (λ t e. ap (λ (f : ℕ → Context). (f t).at) k ∙ nowhere_stays b i (ctx_of p r) (somewhere p at) t e) o o'
      (λ t. made t ∙ sym (made_here p at t)) (λ t. killed t ∙ sym (killed_here p at t)) (λ t. there t ∙ sym (there_here p at t))

  -- a step that owns nothing
  idle_destroy : (p : DestroyAt) (r : Response) → (b.context i).at ≡ InDestroy c p → is_killed p ≡ false → is_left p ≡ false → (destroy_board g b i (b.context i) c p r).numbers ≡ b.numbers → (destroy_board g b i (b.context i) c p r).context ≡ upd b.context i (ctx_of p r) → ((t : ℕ) → Alike (b.seen t) ((destroy_board g b i (b.context i) c p r).seen t)) → (destroy_board g b i (b.context i) c p r).table ≡ b.table → IsQuiet (ctx_of p r).at → Destroyed p r
  idle_destroy p r at ik il n k w tb q =
      let was = quiet_destroy p at ik il in
      numbers_step b (destroy_board g b i (b.context i) c p r) h n w (λ t. quiet made_at t (q.made t ∙ sym (was.made t))) (λ t. quiet killed_at t (q.killed t ∙ sym (was.killed t))) (λ t. quiet there_at t (q.there t ∙ sym (was.there t)))
      (λ t e. ap (λ (f : ℕ → Context). (f t).at) k ∙ nowhere_stays b i (ctx_of p r) (somewhere p at) t e)
    where
      quiet : (test : At → ℕ → Bool) (t : ℕ) → test (ctx_of p r).at t ≡ test (b.context i).at t → by_owner test (destroy_board g b i (b.context i) c p r).table (destroy_board g b i (b.context i) c p r).context t ≡ by_owner test b.table b.context t
      quiet test t e = ap (λ (m : Option ℕ). by_owner test m (destroy_board g b i (b.context i) c p r).context t) tb ∙ ap (λ (f : ℕ → Context). by_owner test b.table f t) k ∙ test_quiet test b.context (upd b.context i (ctx_of p r)) i (λ m ne. upd_other b.context i (ctx_of p r) m ne) b.table t (ap (λ (y : Context). test y.at t) (upd_same b.context i (ctx_of p r)) ∙ e)

  -- the victim is killed
  kill_destroy : (seen : StateWord) → (b.context i).at ≡ InDestroy c (destroy.Victim (victim.CommitKill seen)) → c.caller.number ≡ i → (b.seen c.who.number).word ≡ seen → c.who.number ≢ i → AllSay g b i (b.context i) (facts_destroy c (destroy.Victim (victim.CommitKill seen))) → Destroyed (destroy.Victim (victim.CommitKill seen)) asks.Won
  kill_destroy seen at me won n_i f = record {
    whole = h.whole;
    spelled = λ t d. spelled t d (tells t c.who.number);
    version = λ t m. h.version t (was made_at t (made_here p at t)) ∙ sym (version t (tells t c.who.number));
    present = λ t m k. let ne = apart killed_at t (free_killed (b.queue c.who.number)) k in h.present t (was made_at t (made_here p at t)) (was killed_at t (killed_here p at t)) ∙ ap not (sym (other_alike t ne).dead);
    vacant = λ t m d k. let ne = apart_left t k in let was_away = h.vacant t m (sym (other_alike t ne).dead ∙ d) (was there_at t (there_here p at t)) in nowhere_stays b i (ctx_of p asks.Won) (somewhere p at) t was_away;
  }
    where
      p : DestroyAt
      p = destroy.Victim (victim.CommitKill seen)

      B : Board
      B = destroy_board g b i (b.context i) c (destroy.Victim (victim.CommitKill seen)) asks.Won

      was : (test : At → ℕ → Bool) (t : ℕ) → test (b.context i).at t ≡ false → by_owner test b.table b.context t ≡ false
      was test t e = ap (λ (k : Option ℕ). by_owner test k b.context t) f.1.0 ∙ e

      now : (test : At → ℕ → Bool) (t : ℕ) → by_owner test B.table B.context t ≡ test (ctx_of p asks.Won).at t
      now test t = ap (λ (k : Option ℕ). by_owner test k B.context t) f.1.0 ∙ ap (λ (y : Context). test y.at t) (upd_same b.context i (ctx_of p asks.Won))

      apart : (test : At → ℕ → Bool) (t : ℕ) → is_killed (destroy.Victim (free_first (b.queue c.who.number))) ≡ true → by_owner killed_at B.table B.context t ≡ false → t ≢ c.who.number
      apart test t e k = both_false (is_killed (destroy.Victim (free_first (b.queue c.who.number)))) c.who.number t e (sym (now killed_at t) ∙ k)

      apart_left : (t : ℕ) → by_owner there_at B.table B.context t ≡ false → t ≢ c.who.number
      apart_left t k = both_false (is_left (destroy.Victim (free_first (b.queue c.who.number)))) c.who.number t (free_left (b.queue c.who.number)) (sym (now there_at t) ∙ k)

      v : Seen
      v = called (b.seen i) (Some reply.Killed) (b.context i).position

      seen_is : (t : ℕ) → B.seen t ≡ write (upd b.seen i v) c.who.number (dead_word c.who.version) t
      seen_is t = ap (λ (k : ℕ). write (upd b.seen k (called (b.seen k) (Some reply.Killed) (b.context i).position)) c.who.number (dead_word c.who.version) t) me

      here_is : B.seen c.who.number ≡ with_word (b.seen c.who.number) (dead_word c.who.version)
      here_is = seen_is c.who.number ∙ killed_it b.seen i c.who.number v (dead_word c.who.version) n_i

      other_alike : (t : ℕ) → t ≢ c.who.number → Alike (b.seen t) (B.seen t)
      other_alike t ne = elim (eqb_tells t i) [
        | inl e ↦ subst (λ (k : ℕ). Alike (b.seen k) (B.seen k)) (sym e.1) (subst (λ (u : Seen). Alike (b.seen i) u) (sym (seen_is i ∙ killed_me b.seen i c.who.number v (dead_word c.who.version) n_i)) record { version = refl; dead = refl; spelled = λ q. refl })
        | inr e ↦ alike_eq (b.seen t) (B.seen t) (seen_is t ∙ killed_other b.seen i c.who.number v (dead_word c.who.version) n_i t e.1 ne)
      ]

      spelled : (t : ℕ) → is_dead (B.seen t).word ≡ true → (t ≡ c.who.number) ⊎ (t ≢ c.who.number) → (B.seen t).word ≡ dead_word (B.seen t).word.version
      spelled t d (inl e) = subst (λ (k : ℕ). (B.seen k).word ≡ dead_word (B.seen k).word.version) (sym e) (subst (λ (u : Seen). u.word ≡ dead_word u.word.version) (sym here_is) refl)
      spelled t d (inr e) = let a = other_alike t e in let was_dead = sym a.dead ∙ d in a.spelled was_dead ∙ h.spelled t was_dead ∙ ap dead_word (sym a.version)

      version : (t : ℕ) → (t ≡ c.who.number) ⊎ (t ≢ c.who.number) → (B.seen t).word.version ≡ (b.seen t).word.version
      version t (inl e) = subst (λ (k : ℕ). (B.seen k).word.version ≡ (b.seen k).word.version) (sym e) (ap (λ (u : Seen). u.word.version) here_is ∙ sym (eqb-true seen.version c.who.version (and_parts _ _ f.1.1.1.1.1.1.1.0).0) ∙ ap (λ (u : StateWord). u.version) (sym won))
      version t (inr e) = (other_alike t e).version

  -- the victim's context is removed
  remove_destroy : (b.context i).at ≡ InDestroy c (destroy.Locked destroy_locked.RemoveContext) → c.who.number ≢ i → b.table ≡ Some i → Destroyed (destroy.Locked destroy_locked.RemoveContext) asks.Removed
  remove_destroy at n_i o = record {
    whole = h.whole;
    spelled = h.spelled;
    version = λ t m. h.version t (was made_at t (made_here p at t));
    present = λ t m k. h.present t (was made_at t (made_here p at t)) (was killed_at t (killed_here p at t ∙ sym (tested c.who.number t (visits_killed c 0)) ∙ sym (now killed_at t) ∙ k));
    vacant = λ t m d k. vacant t m d (tells t c.who.number);
  }
    where
      p : DestroyAt
      p = destroy.Locked destroy_locked.RemoveContext

      B : Board
      B = destroy_board g b i (b.context i) c (destroy.Locked destroy_locked.RemoveContext) asks.Removed

      was : (test : At → ℕ → Bool) (t : ℕ) → test (b.context i).at t ≡ false → by_owner test b.table b.context t ≡ false
      was test t e = ap (λ (k : Option ℕ). by_owner test k b.context t) o ∙ e

      now : (test : At → ℕ → Bool) (t : ℕ) → by_owner test B.table B.context t ≡ test (ctx_of p asks.Removed).at t
      now test t = ap (λ (k : Option ℕ). by_owner test k B.context t) o ∙ ap (λ (y : Context). test y.at t) (upd_same (upd b.context c.who.number (record (b.context c.who.number) { at = Nowhere })) i (ctx_of p asks.Removed))

      vacant : (t : ℕ) → t < length b.numbers.versions → is_dead (b.seen t).word ≡ true → (t ≡ c.who.number) ⊎ (t ≢ c.who.number) → (B.context t).at ≡ Nowhere
      vacant t m d (inl e) = subst (λ (k : ℕ). (B.context k).at ≡ Nowhere) (sym e) (ap (λ (y : Context). y.at) (upd_other (upd b.context c.who.number (record (b.context c.who.number) { at = Nowhere })) i _ c.who.number n_i ∙ upd_same b.context c.who.number (record (b.context c.who.number) { at = Nowhere })))
      vacant t m d (inr e) =
          let was_away = h.vacant t m d (was there_at t (there_here p at t ∙ not_number c.who.number t e)) in
          ap (λ (y : Context). y.at) (upd_other (upd b.context c.who.number (record (b.context c.who.number) { at = Nowhere })) i _ t (λ q. somewhere p at (ap (λ (n : ℕ). (b.context n).at) (sym q) ∙ was_away)) ∙ upd_other b.context c.who.number _ t e) ∙ was_away

  -- the number is noted
  note_destroy : (b.context i).at ≡ InDestroy c (destroy.Locked (destroy_locked.Release destroy_release.Killed)) → b.table ≡ Some i → is_dead (b.seen c.who.number).word ≡ true → Destroyed (destroy.Locked (destroy_locked.Release destroy_release.Killed)) asks.Released
  note_destroy at o dead = record {
    whole = length-set b.numbers.present c.who.number false ∙ h.whole;
    spelled = h.spelled;
    version = λ t m. h.version t (was made_at t (made_here p at t));
    present = λ t m k. present t (tells t c.who.number);
    vacant = λ t m d k. nowhere_stays b i (ctx_of p asks.Released) (somewhere p at) t (h.vacant t m d (was there_at t (there_here p at t)));
  }
    where
      p : DestroyAt
      p = destroy.Locked (destroy_locked.Release destroy_release.Killed)

      was : (test : At → ℕ → Bool) (t : ℕ) → test (b.context i).at t ≡ false → by_owner test b.table b.context t ≡ false
      was test t e = ap (λ (k : Option ℕ). by_owner test k b.context t) o ∙ e

      present : (t : ℕ) → (t ≡ c.who.number) ⊎ (t ≢ c.who.number) → is_present (without_thread c.who.number b.numbers) t ≡ not (is_dead (b.seen t).word)
      present t (inl e) = subst (λ (k : ℕ). is_present (without_thread c.who.number b.numbers) k ≡ not (is_dead (b.seen k).word)) (sym e) (taken_off b.numbers.present c.who.number ∙ ap not (sym dead))
      present t (inr e) = get_or-set_other b.numbers.present c.who.number t false false e ∙ h.present t (was made_at t (made_here p at t)) (was killed_at t (killed_here p at t ∙ not_number c.who.number t e))

  release_destroy : (e : destroy_release.the_data) → (b.context i).at ≡ InDestroy c (destroy.Locked (destroy_locked.Release e)) → (destroy_board g b i (b.context i) c (destroy.Locked (destroy_locked.Release e)) asks.Released).numbers ≡ b.numbers → IsQuiet (b.context i).at → b.table ≡ Some i → Destroyed (destroy.Locked (destroy_locked.Release e)) asks.Released
  release_destroy e at n q o = leaves_step b (destroy_board g b i (b.context i) c (destroy.Locked (destroy_locked.Release e)) asks.Released) i (ctx_of (destroy.Locked (destroy_locked.Release e)) asks.Released) (upd_same b.context i _) h n (λ t. alike_same (b.seen t)) (λ t z. nowhere_stays b i _ q.somewhere t z) o refl q

  own_destroy : (w : StateWord) → (b.context i).at ≡ InDestroy c (destroy.Outside destroy_outside.LoadOwn) → Destroyed (destroy.Outside destroy_outside.LoadOwn) (asks.Word w)
  own_destroy w at = idle_destroy (destroy.Outside destroy_outside.LoadOwn) (asks.Word w) at refl refl refl refl (λ t. alike (is_dead w) t) refl (after_quiet c.caller _)
    where
      alike : (dead : Bool) (t : ℕ) → Alike (b.seen t) (noted g b.seen (b.context i).position (cond dead None (Some (destroy.point_of c outcome.Own))) t)
      alike true t = alike_same (b.seen t)
      alike false t = called_alike b.seen c.caller.number (Some reply.Own) (b.context i).position t

  load_destroy : (w : StateWord) → (b.context i).at ≡ InDestroy c (destroy.Locked destroy_locked.LoadCaller) → b.table ≡ Some i → Destroyed (destroy.Locked destroy_locked.LoadCaller) (asks.Word w)
  load_destroy w at o = still_destroy (destroy.Locked destroy_locked.LoadCaller) (asks.Word w) at refl refl (λ t. alike_same (b.seen t)) o o (λ t. refl) (λ t. tested c.who.number t (by (is_dead w))) (λ t. tested c.who.number t (left (is_dead w)))
    where
      left : (dead : Bool) → is_left (destroy.Locked (cond dead (destroy_locked.Release destroy_release.Dead) destroy_locked.AcquireVictimLock)) ≡ false
      left true = refl
      left false = refl

      by : (dead : Bool) → is_killed (destroy.Locked (cond dead (destroy_locked.Release destroy_release.Dead) destroy_locked.AcquireVictimLock)) ≡ false
      by true = refl
      by false = refl

  victim_destroy : (w : StateWord) → (b.context i).at ≡ InDestroy c (destroy.Victim victim.LoadVictim) → b.table ≡ Some i → Destroyed (destroy.Victim victim.LoadVictim) (asks.Word w)
  victim_destroy w at o = still_destroy (destroy.Victim victim.LoadVictim) (asks.Word w) at refl refl (λ t. alike (is_present_in w c.who) t) o o (λ t. refl) (λ t. tested c.who.number t (by (is_present_in w c.who))) (λ t. tested c.who.number t (left (is_present_in w c.who)))
    where
      alike : (present : Bool) (t : ℕ) → Alike (b.seen t) (noted g b.seen (b.context i).position (cond present None (Some (destroy.point_of c (outcome.Absent (found_in c.who.number w))))) t)
      alike true t = alike_same (b.seen t)
      alike false t = called_alike b.seen c.caller.number (Some (reply.Absent (found_in c.who.number w))) (b.context i).position t

      by : (present : Bool) → is_killed (destroy.Victim (cond present (victim.CommitKill w) (victim.ReleaseVictimLockAbsent (found_in c.who.number w)))) ≡ false
      by true = refl
      by false = refl

      left : (present : Bool) → is_left (destroy.Victim (cond present (victim.CommitKill w) (victim.ReleaseVictimLockAbsent (found_in c.who.number w)))) ≡ false
      left true = refl
      left false = refl

  free_destroy : (n : ℕ) (w : StateWord) → (b.context i).at ≡ InDestroy c (destroy.Victim (victim.FreeSender n w)) → b.table ≡ Some i → (b.seen n).word ≡ w → is_dead w ≡ false → Destroyed (destroy.Victim (victim.FreeSender n w)) asks.Won
  free_destroy n w at o won d = still_destroy (destroy.Victim (victim.FreeSender n w)) asks.Won at (same_numbers w.on) refl (freed_alike b.seen n reply.Gone w won d) o o (λ t. refl) (λ t. tested c.who.number t (by w.on)) (λ t. tested c.who.number t (left w.on))
    where
      same_numbers : (on : Bool) → (cond on (record (hand_of b (b.queue c.who.number)) { queue = record (hand_of b (b.queue c.who.number)).queue { entries = rest (b.queue c.who.number) } }) (hand_of b (b.queue c.who.number))).numbers ≡ b.numbers
      same_numbers true = refl
      same_numbers false = refl

      by : (on : Bool) → is_killed (destroy.Victim (cond on (free_first (rest (b.queue c.who.number))) (victim.AcquireReadyForSender n w))) ≡ true
      by true = free_killed (rest (b.queue c.who.number))
      by false = refl

      left : (on : Bool) → is_left (destroy.Victim (cond on (free_first (rest (b.queue c.who.number))) (victim.AcquireReadyForSender n w))) ≡ true
      left true = free_left (rest (b.queue c.who.number))
      left false = refl

  victim_apart : (w : StateWord) → (b.seen c.who.number).word ≡ w → AllSay g b i (b.context i) (facts_destroy c (destroy.Victim (victim.CommitKill w))) → c.who.number ≢ i
  victim_apart w won f q = differs f.0 q (ap (λ (u : StateWord). u.version) won ∙ eqb-true w.version c.who.version (and_parts _ _ f.1.1.1.1.1.1.1.0).0)
    where
      differs : same_id c.who (record { number = i; version = (b.seen i).word.version }) ≡ false → c.who.number ≡ i → (b.seen c.who.number).word.version ≡ c.who.version → ⊥
      differs d e v = grind (arith, nat_tests)

  sends_alive : (n : ℕ) (w : StateWord) → IsFront c.who (b.queue c.who.number) n w → is_dead w ≡ false
  sends_alive n w f = let st = front_sends c.who (b.queue c.who.number) n w f in grind (arith, st.is)

  receives_alive : (w : StateWord) → is_receiving_from c.who w.state ≡ true → is_dead w ≡ false
  receives_alive w r = let st = receiving_is c.who w.state r in grind (arith, st)

  pub destroy_numbers : (p : DestroyAt) (r : Response) → (b.context i).at ≡ InDestroy c p → c.caller.number ≡ i → Answers b (destroy.ask_of c (b.context i).own p) r → AllSay g b i (b.context i) (facts_destroy c p) → Destroyed p r
  destroy_numbers (destroy.Outside destroy_outside.LoadOwn) (asks.Word w) at me an f = own_destroy w at
  destroy_numbers (destroy.Outside destroy_outside.AcquireTable) (asks.Got) at me an f = gets_step b (destroy_board g b i (b.context i) c (destroy.Outside destroy_outside.AcquireTable) asks.Got) i (ctx_of (destroy.Outside destroy_outside.AcquireTable) asks.Got) (upd_same b.context i _) h refl (λ t. alike_same (b.seen t)) (λ t e. nowhere_stays b i _ (somewhere _ at) t e) an refl record { made = λ t. refl; killed = λ t. refl; there = λ t. refl; somewhere = λ q. absurd cc }
  destroy_numbers (destroy.Outside destroy_outside.AcquireTable) (asks.Owned o) at me an f = idle_destroy (destroy.Outside destroy_outside.AcquireTable) (asks.Owned o) at refl refl refl refl (λ t. alike_same (b.seen t)) refl record { made = λ t. refl; killed = λ t. refl; there = λ t. refl; somewhere = λ q. absurd cc }
  destroy_numbers (destroy.Locked destroy_locked.LoadCaller) (asks.Word w) at me an f = load_destroy w at f.1.0
  destroy_numbers (destroy.Locked destroy_locked.AcquireVictimLock) (asks.Got) at me an f = still_destroy (destroy.Locked destroy_locked.AcquireVictimLock) (asks.Got) at refl refl (λ t. alike_same (b.seen t)) f.1.0 f.1.0 (λ t. refl) (λ t. refl) (λ t. refl)
  destroy_numbers (destroy.Locked destroy_locked.AcquireVictimLock) (asks.Owned o) at me an f = still_destroy (destroy.Locked destroy_locked.AcquireVictimLock) (asks.Owned o) at refl refl (λ t. alike_same (b.seen t)) f.1.0 f.1.0 (λ t. refl) (λ t. refl) (λ t. refl)
  destroy_numbers (destroy.Victim victim.LoadVictim) (asks.Word w) at me an f = victim_destroy w at f.1.0
  destroy_numbers (destroy.Victim (victim.CommitKill w)) (asks.Won) at me an f = kill_destroy w at me an (victim_apart w an f) f
  destroy_numbers (destroy.Victim (victim.CommitKill w)) (asks.Lost v) at me an f = still_destroy (destroy.Victim (victim.CommitKill w)) (asks.Lost v) at refl refl (λ t. alike_same (b.seen t)) f.1.0 f.1.0 (λ t. refl) (λ t. refl) (λ t. refl)
  destroy_numbers (destroy.Victim (victim.LoadSender n)) (asks.Word w) at me an f = still_destroy (destroy.Victim (victim.LoadSender n)) (asks.Word w) at refl refl (λ t. alike_same (b.seen t)) f.1.0 f.1.0 (λ t. refl) (λ t. refl) (λ t. refl)
  destroy_numbers (destroy.Victim (victim.FreeSender n w)) (asks.Won) at me an f = free_destroy n w at f.1.0 an (sends_alive n w f.1.1.1.1.1.1.1.1.1.1.0.1)
  destroy_numbers (destroy.Victim (victim.FreeSender n w)) (asks.Lost v) at me an f = still_destroy (destroy.Victim (victim.FreeSender n w)) (asks.Lost v) at refl refl (λ t. alike_same (b.seen t)) f.1.0 f.1.0 (λ t. refl) (λ t. refl) (λ t. refl)
  destroy_numbers (destroy.Victim (victim.AcquireReadyForSender n w)) (asks.Got) at me an f = still_destroy (destroy.Victim (victim.AcquireReadyForSender n w)) (asks.Got) at refl refl (λ t. alike_same (b.seen t)) f.1.0 f.1.0 (λ t. refl) (λ t. refl) (λ t. refl)
  destroy_numbers (destroy.Victim (victim.AcquireReadyForSender n w)) (asks.Owned o) at me an f = still_destroy (destroy.Victim (victim.AcquireReadyForSender n w)) (asks.Owned o) at refl refl (λ t. alike_same (b.seen t)) f.1.0 f.1.0 (λ t. refl) (λ t. refl) (λ t. refl)
  destroy_numbers (destroy.Pushing (destroy_pushing.PushSender n w)) (asks.Released) at me an f = still_destroy (destroy.Pushing (destroy_pushing.PushSender n w)) (asks.Released) at refl refl (λ t. alike_same (b.seen t)) f.1.0 f.1.0 (λ t. refl) (λ t. tested c.who.number t (free_killed (rest (b.queue c.who.number)))) (λ t. tested c.who.number t (free_left (rest (b.queue c.who.number))))
  destroy_numbers (destroy.Victim victim.ReleaseVictimLock) (asks.Released) at me an f = still_destroy (destroy.Victim victim.ReleaseVictimLock) (asks.Released) at refl refl (λ t. alike_same (b.seen t)) f.1.0 f.1.0 (λ t. refl) (λ t. refl) (λ t. refl)
  destroy_numbers (destroy.Locked destroy_locked.AcquireReadyForVictim) (asks.Got) at me an f = still_destroy (destroy.Locked destroy_locked.AcquireReadyForVictim) (asks.Got) at refl refl (λ t. alike_same (b.seen t)) f.1.0 f.1.0 (λ t. refl) (λ t. refl) (λ t. refl)
  destroy_numbers (destroy.Locked destroy_locked.AcquireReadyForVictim) (asks.Owned o) at me an f = still_destroy (destroy.Locked destroy_locked.AcquireReadyForVictim) (asks.Owned o) at refl refl (λ t. alike_same (b.seen t)) f.1.0 f.1.0 (λ t. refl) (λ t. refl) (λ t. refl)
  destroy_numbers (destroy.UnlistVictim) (asks.Released) at me an f = still_destroy (destroy.UnlistVictim) (asks.Released) at refl refl (λ t. alike_same (b.seen t)) f.1.0 f.1.0 (λ t. refl) (λ t. refl) (λ t. refl)
  destroy_numbers (destroy.Locked destroy_locked.RemoveContext) (asks.Removed) at me an f = remove_destroy at (dead_apart b (b.context i) c.who.number i f.0.1 f.1.1.1.1.1.0.0 f.1.1.1.1.1.0.1) f.1.0
  destroy_numbers (destroy.Locked destroy_locked.RemoveContext) (asks.Kept) at me an f = still_destroy (destroy.Locked destroy_locked.RemoveContext) (asks.Kept) at refl refl (λ t. alike_same (b.seen t)) f.1.0 f.1.0 (λ t. refl) (λ t. refl) (λ t. refl)
  destroy_numbers (destroy.Locked (destroy_locked.AcquireVisitedLock n)) (asks.Got) at me an f = still_destroy (destroy.Locked (destroy_locked.AcquireVisitedLock n)) (asks.Got) at refl refl (λ t. alike_same (b.seen t)) f.1.0 f.1.0 (λ t. refl) (λ t. refl) (λ t. refl)
  destroy_numbers (destroy.Locked (destroy_locked.AcquireVisitedLock n)) (asks.Owned o) at me an f = still_destroy (destroy.Locked (destroy_locked.AcquireVisitedLock n)) (asks.Owned o) at refl refl (λ t. alike_same (b.seen t)) f.1.0 f.1.0 (λ t. refl) (λ t. refl) (λ t. refl)
  destroy_numbers (destroy.Visit (visit.LoadVisited n)) (asks.Word w) at me an f = still_destroy (destroy.Visit (visit.LoadVisited n)) (asks.Word w) at refl refl (λ t. alike_same (b.seen t)) f.1.0 f.1.0 (λ t. refl) (λ t. refl) (λ t. refl)
  destroy_numbers (destroy.Visit (visit.FreeVisited n w)) (asks.Won) at me an f = still_destroy (destroy.Visit (visit.FreeVisited n w)) (asks.Won) at refl refl (freed_alike b.seen n reply.Gone w an (receives_alive w f.1.1.1.1.1.1.1.1.1.1.0.1)) f.1.0 f.1.0 (λ t. refl) (λ t. refl) (λ t. refl)
  destroy_numbers (destroy.Visit (visit.FreeVisited n w)) (asks.Lost v) at me an f = still_destroy (destroy.Visit (visit.FreeVisited n w)) (asks.Lost v) at refl refl (λ t. alike_same (b.seen t)) f.1.0 f.1.0 (λ t. refl) (λ t. refl) (λ t. refl)
  destroy_numbers (destroy.Visit (visit.AcquireReadyForVisited n w)) (asks.Got) at me an f = still_destroy (destroy.Visit (visit.AcquireReadyForVisited n w)) (asks.Got) at refl refl (λ t. alike_same (b.seen t)) f.1.0 f.1.0 (λ t. refl) (λ t. refl) (λ t. refl)
  destroy_numbers (destroy.Visit (visit.AcquireReadyForVisited n w)) (asks.Owned o) at me an f = still_destroy (destroy.Visit (visit.AcquireReadyForVisited n w)) (asks.Owned o) at refl refl (λ t. alike_same (b.seen t)) f.1.0 f.1.0 (λ t. refl) (λ t. refl) (λ t. refl)
  destroy_numbers (destroy.Pushing (destroy_pushing.PushVisited n w)) (asks.Released) at me an f = still_destroy (destroy.Pushing (destroy_pushing.PushVisited n w)) (asks.Released) at refl refl (λ t. alike_same (b.seen t)) f.1.0 f.1.0 (λ t. refl) (λ t. refl) (λ t. refl)
  destroy_numbers (destroy.Visit (visit.ReleaseVisitedLock n)) (asks.Released) at me an f = still_destroy (destroy.Visit (visit.ReleaseVisitedLock n)) (asks.Released) at refl refl (λ t. alike_same (b.seen t)) f.1.0 f.1.0 (λ t. refl) (λ t. tested c.who.number t (visits_killed c (n + 1))) (λ t. tested c.who.number t (visits_left c (n + 1)))
  destroy_numbers (destroy.Locked (destroy_locked.Release destroy_release.Killed)) (asks.Released) at me an f = note_destroy at f.1.0 f.0.1
  destroy_numbers (destroy.Victim (victim.ReleaseVictimLockAbsent q)) (asks.Released) at me an f = still_destroy (destroy.Victim (victim.ReleaseVictimLockAbsent q)) (asks.Released) at refl refl (λ t. alike_same (b.seen t)) f.0 f.0 (λ t. refl) (λ t. refl) (λ t. refl)
  destroy_numbers (destroy.Locked (destroy_locked.Release (destroy_release.Absent q))) (asks.Released) at me an f = release_destroy (destroy_release.Absent q) at refl (quiet_destroy (destroy.Locked (destroy_locked.Release (destroy_release.Absent q))) at refl refl) f.0
  destroy_numbers (destroy.Locked (destroy_locked.Release destroy_release.Dead)) (asks.Released) at me an f = release_destroy destroy_release.Dead at refl (quiet_destroy (destroy.Locked (destroy_locked.Release destroy_release.Dead)) at refl refl) f.0
  destroy_numbers (destroy.Outside (destroy_outside.Ended w)) r at me an f = absurd f.0
  destroy_numbers p r at me an f = absurd an
