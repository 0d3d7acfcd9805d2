-- What holds of the threads, as one of them goes from one holder to another.
use Rattle.std.proofs.Common.{◌≡◌, ℕ, true, false, sym, ◌∙◌, subst, arith, inl, inr}
use Rattle.std.proofs.lemmas.Bool.Decides.{nat_tests}
use Rattle.k_ids.specs.declared.threads.ThreadId.{ThreadId}
use Rattle.k_tokens.specs.Maps.{put}
use Rattle.k_tokens.specs.World.{Threads, is_present}
use Rattle.k_tokens.specs.Good.{Holder, Nobody, ReadyList, is_somewhere, is_coming, ThreadFacts, IsListable}
use Rattle.k_tokens.proofs.Basics.{put_tells}

module _ (f : Threads) (at : ThreadId → Holder) (k : ThreadFacts f at) where
  -- another holder has it, and nobody's facts are about that
  pub moves_on : (x : ThreadId) (v : Holder) → is_somewhere (at x) ≡ true → is_somewhere v ≡ true → is_coming v ≡ false
      → ((p : ℕ) → v ≡ ReadyList p → IsListable f x) → ThreadFacts f (put at x v)
  moves_on x v here there calm may =
      record {
        on = λ t p. grind (arith, put_tells, k.on t p);
        old = λ y e. grind (arith, put_tells, k.old y e);
        listed = λ p y e. elim (put_tells at x v y) [
          | inl h ↦ subst (IsListable f) (sym h.1) (may p (sym h.0 ∙ e))
          | inr h ↦ k.listed p y (sym h.0 ∙ e)
        ];
        resting = k.resting;
        ended = λ t e. grind (arith, put_tells, k.ended t e);
        ended_word = k.ended_word;
        dead = k.dead;
        here = k.here;
        stays = k.stays;
        calm = λ t e. grind (arith, put_tells, k.calm t e);
        pushing = k.pushing;
        quiet = k.quiet;
        table = k.table;
        table_is = k.table_is;
        victim = k.victim;
        making = k.making;
        priority = k.priority;
      }

  -- it goes on its way into a list
  pub moves_coming : (x : ThreadId) (v : Holder) → is_somewhere (at x) ≡ true → is_somewhere v ≡ true → is_coming (at x) ≡ true
      → ((p : ℕ) → v ≡ ReadyList p → IsListable f x) → ThreadFacts f (put at x v)
  moves_coming x v here there was may =
      record {
        on = λ t p. grind (arith, put_tells, k.on t p);
        old = λ y e. grind (arith, put_tells, k.old y e);
        listed = λ p y e. elim (put_tells at x v y) [
          | inl h ↦ subst (IsListable f) (sym h.1) (may p (sym h.0 ∙ e))
          | inr h ↦ k.listed p y (sym h.0 ∙ e)
        ];
        resting = k.resting;
        ended = λ t e. grind (arith, put_tells, k.ended t e);
        ended_word = k.ended_word;
        dead = k.dead;
        here = k.here;
        stays = k.stays;
        calm = λ t e. grind (arith, put_tells, k.calm t e);
        pushing = k.pushing;
        quiet = k.quiet;
        table = k.table;
        table_is = k.table_is;
        victim = k.victim;
        making = k.making;
        priority = k.priority;
      }

  -- a thread that isn't there goes away
  pub goes_off : (x : ThreadId) → is_present f x ≡ false → ThreadFacts f (put at x Nobody)
  goes_off x gone =
      record {
        on = λ t p. grind (arith, nat_tests, put_tells, k.on t p);
        old = λ y e. grind (arith, put_tells, k.old y e);
        listed = λ p y e. elim (put_tells at x Nobody y) [
          | inl h ↦ (let z : Nobody ≡ ReadyList p = sym h.0 ∙ e in cc)
          | inr h ↦ k.listed p y (sym h.0 ∙ e)
        ];
        resting = k.resting;
        ended = λ t e. grind (arith, put_tells, k.ended t e);
        ended_word = k.ended_word;
        dead = k.dead;
        here = k.here;
        stays = k.stays;
        calm = λ t e. grind (arith, put_tells, k.calm t e);
        pushing = k.pushing;
        quiet = k.quiet;
        table = k.table;
        table_is = k.table_is;
        victim = k.victim;
        making = k.making;
        priority = k.priority;
      }
