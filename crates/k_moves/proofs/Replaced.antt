-- A goal that was destroyed, and whose number has a later thread, is dropped: the world stays good.
use Rattle.std.proofs.Common.{◌≡◌, ◌≢◌, ℕ, Bool, true, false, cond, eqb, refl, sym, ◌∙◌, Option, Some, None, arith, inr}
use Rattle.std.specs.Prelude.{◌&&◌}
use Rattle.std.proofs.lemmas.Bool.Decides.{nat_tests}
use Rattle.k_ids.specs.declared.threads.ThreadId.{ThreadId}
use Rattle.k_ids.specs.declared.context_word.ContextWord.TheVariants.{Taken}
use Rattle.k_tokens.specs.Maps.{put}
use Rattle.k_tokens.specs.World.{OfThread, holds_any, Condition, Absent, Awake, Asleep, Ended, Dead}
use Rattle.k_tokens.specs.World.{is_present, has_switch, OwnContext, Carrier, World, with_carrier}
use Rattle.k_tokens.specs.Good.{Holder, Nobody, IsGood, Parts}
use Rattle.k_tokens.specs.Steps.{without_goal}
use Rattle.k_tokens.proofs.Standing.{goes_off}
use Rattle.k_tokens.proofs.Keeping.{hands_as, goal_dropped, runs_as, no_switch, facts_changed}
use Rattle.k_switching.specs.Rules.{slot_word, thread_word, word_of}
use Rattle.k_switching.proofs.Pairs.{not_without}

-- a word that tells of a hand has the version of its context
pub version_taken : (w : World) (t d v : ℕ) → word_of w (OfThread t) ≡ Taken d v → w.threads.made t ≡ v
version_taken w t d v e = by (w.threads.condition t) e
  where
    held_by : (h : Option ℕ) (b : Bool) → slot_word h b (w.threads.made t) ≡ Taken d v → w.threads.made t ≡ v
    held_by (Some c) b q = cc
    held_by None true q = absurd cc
    held_by None false q = absurd cc

    by : (k : Condition) → thread_word k (w.held t) (holds_any (w.threads.locks t)) (w.threads.made t) ≡ Taken d v →
        w.threads.made t ≡ v
    by Absent q = absurd cc
    by Awake q = held_by (w.held t) (holds_any (w.threads.locks t)) q
    by Asleep q = held_by (w.held t) (holds_any (w.threads.locks t)) q
    by Ended q = held_by (w.held t) (holds_any (w.threads.locks t)) q
    by Dead q = held_by (w.held t) (holds_any (w.threads.locks t)) q

module _ (w : World) (at : ThreadId → Holder) (g : Parts w at) where
  gone_by : (x : ThreadId) → w.threads.made x.number ≢ x.version → is_present w.threads x ≡ false
  gone_by x ne = by (w.threads.present x.number) refl
    where
      by : (b : Bool) → w.threads.present x.number ≡ b → (b && eqb (w.threads.version x.number) x.version) ≡ false
      by true e = let h = (g.threads.here x.number e).1 in grind (arith, nat_tests, h)
      by false e = refl

  drops : (c : ℕ) (x : ThreadId) → (w.carrier c).goal ≡ Some x → (w.carrier c).switching ≡ false → (w.carrier c).hand ≡ None →
      (w.carrier c).looked ≡ None → is_present w.threads x ≡ false →
      Parts (with_carrier w c (without_goal (w.carrier c))) (put at x Nobody)
  drops c x has off free blind gone =
      let s = g.carriers c in
      let none = no_switch s off in
      let kk : Carrier = without_goal (w.carrier c) in
      record {
        tokens = goal_dropped w.own w.carrier c kk x none refl refl has g.tokens;
        threads = goes_off w.threads at g.threads x gone;
        switches = g.switches;
        ready = g.ready;
        runs = runs_as c kk g.runs refl (inr refl);
        carriers = facts_changed w.own w.carrier c kk (record {
          counted = λ y e. absurd (let z : None ≡ Some y = sym (none_of (w.own c) none) ∙ e in cc);
          same = λ e. absurd (not_without (w.own c).stage none e);
          idle = s.idle;
          begins = λ a b. inr refl;
          switch_own = s.switch_own;
          switch_help = s.switch_help;
          switch_hand = s.switch_hand;
          switch_thread = s.switch_thread;
          foreign = s.foreign;
          hand_looked = s.hand_looked;
          looked = λ l e. absurd (let z : None ≡ Some l = sym blind ∙ e in cc);
          awake = λ t a b e. cc;
        }) (λ e ne. g.carriers e);
        hands = hands_as c kk g.hands refl;
      }
    where
      none_of : (o : OwnContext) → has_switch o.stage ≡ false → cond (has_switch o.stage) o.goal None ≡ None
      none_of o e = rw e refl

-- the carrier has nothing in hand, and was about to take its goal's context
pub replaced_good : (w : World) (c : ℕ) (x : ThreadId) (d v : ℕ) → IsGood w → (w.carrier c).goal ≡ Some x →
    (w.carrier c).switching ≡ false → (w.carrier c).hand ≡ None → (w.carrier c).looked ≡ None →
    word_of w (OfThread x.number) ≡ Taken d v → v ≢ x.version → IsGood (with_carrier w c (without_goal (w.carrier c)))
replaced_good w c x d v (at, g) has off free blind e ne =
    (put at x Nobody, drops w at g c x has off free blind (gone_by w at g x (λ z. ne (sym (version_taken w x.number d v e) ∙ z))))
