-- Board and world begin alike.
use Rattle.std.specs.Prelude.{◌≤◌}
use Rattle.std.proofs.Common.{◌≡◌, ℕ, ◌+◌, ◌<◌, Bool, true, false, cond, refl, sym, ap, ◌∙◌, subst, None, arith, ◌⊎◌, inl, inr}
use Rattle.std.proofs.lemmas.Bool.{cases_lt}
use Rattle.std.proofs.lemmas.Bool.Decides.{nat_tests}
use Rattle.k_threads.specs.Words.{created_word, dead_word}
use Rattle.k_board.specs.Words.{Programs}
use Rattle.k_board.specs.Boards.{At, Board, Context, Nowhere, Resting}
use Rattle.k_tokens.specs.World.{Absent, Awake, no_locks}
use Rattle.k_tokens.specs.Views.{by_owner}
use Rattle.k_switching.specs.Boot.{Opening, boot, boot_own, boot_threads, is_thread}
use Rattle.k_grants.specs.Views.{Look, Sight, look_at, looks_of, made_by, name_by, plain, sight_of, sights_of, threads_of}
use Rattle.k_grants.proofs.Moves.{threads_are}
use Rattle.k_stages.specs.Opening.{IsOpening}
use Rattle.k_stages.specs.Stages.{AreAlike, IsOwn}

module _ (g : Programs) (b : Board) (o : Opening) (h : IsOpening g b o) where
  inside : (n : ℕ) → n < o.threads → is_thread o.threads n ≡ true
  inside n l = grind (arith, nat_tests, l)

  outside : (n : ℕ) → o.threads ≤ n → is_thread o.threads n ≡ false
  outside n l = grind (arith, nat_tests, l)

  sight_is : (n : ℕ) → sights_of b n ≡ cond (is_thread o.threads n) (sight_of (created_word 1 (o.priority n)))
      (sight_of (dead_word (o.aged n)))
  sight_is n = elim (cases_lt n o.threads) [
    | inl l ↦
        ap sight_of (h.thread n l).1.word ∙ sym (ap (λ (d : Bool).
        cond d (sight_of (created_word 1 (o.priority n))) (sight_of (dead_word (o.aged n)))) (inside n l))
    | inr l ↦
        ap sight_of (h.none n l) ∙ sym (ap (λ (d : Bool). cond d (sight_of (created_word 1 (o.priority n)))
        (sight_of (dead_word (o.aged n)))) (outside n l))
  ]

  away_look : (n : ℕ) → ((b.context n).at ≡ Nowhere) ⊎ ((b.context n).at ≡ Resting) → looks_of b n ≡ plain Absent
  away_look n (inl e) = ap look_at e
  away_look n (inr e) = ap look_at e

  look_is : (n : ℕ) → looks_of b n ≡ cond (is_thread o.threads n) (plain Awake) (plain Absent)
  look_is n = elim (cases_lt n o.threads) [
    | inl l ↦
        ap (λ (x : Context). look_at x.at) (h.thread n l).1.context
        ∙ sym (ap (λ (d : Bool). cond d (plain Awake) (plain Absent)) (inside n l))
    | inr l ↦ away_look n (h.away n l) ∙ sym (ap (λ (d : Bool). cond d (plain Awake) (plain Absent)) (outside n l))
  ]

  cond_ap : {A B : Type 0} (f : A → B) (d : Bool) (x y : A) → f (cond d x y) ≡ cond d (f x) (f y)
  cond_ap f true x y = refl
  cond_ap f false x y = refl

  cond_same : {A : Type 0} (d : Bool) (x : A) → cond d x x ≡ x
  cond_same true x = refl
  cond_same false x = refl

  cond_self : (d : Bool) → cond d true false ≡ d
  cond_self true = refl
  cond_self false = refl

  version_is : (n : ℕ) → (sights_of b n).version ≡ cond (is_thread o.threads n) 1 (o.aged n)
  version_is n = ap (λ (s : Sight). s.version) (sight_is n) ∙ cond_ap (λ (s : Sight). s.version) (is_thread o.threads n) _ _

  present_is : (n : ℕ) → (sights_of b n).present ≡ is_thread o.threads n
  present_is n =
      ap (λ (s : Sight). s.present) (sight_is n) ∙ cond_ap (λ (s : Sight). s.present) (is_thread o.threads n) _ _
      ∙ cond_self (is_thread o.threads n)

  on_is : (n : ℕ) → (sights_of b n).on ≡ is_thread o.threads n
  on_is n =
      ap (λ (s : Sight). s.on) (sight_is n) ∙ cond_ap (λ (s : Sight). s.on) (is_thread o.threads n) _ _
      ∙ cond_self (is_thread o.threads n)

  ended_is : (n : ℕ) → (sights_of b n).ended ≡ false
  ended_is n =
      ap (λ (s : Sight). s.ended) (sight_is n) ∙ cond_ap (λ (s : Sight). s.ended) (is_thread o.threads n) _ _
      ∙ cond_same (is_thread o.threads n) false

  look_part : {A : Type 0} (f : Look → A) (n : ℕ) → f (looks_of b n) ≡
      cond (is_thread o.threads n) (f (plain Awake)) (f (plain Absent))
  look_part f n = ap f (look_is n) ∙ cond_ap f (is_thread o.threads n) (plain Awake) (plain Absent)

  made_is : (n : ℕ) → made_by (looks_of b n).is_coming (sights_of b n).version ≡ cond (is_thread o.threads n) 1 (o.aged n)
  made_is n =
      ap (λ (d : Bool). made_by d (sights_of b n).version) (look_part (λ (l : Look). l.is_coming) n
      ∙ cond_same (is_thread o.threads n) false) ∙ version_is n

  threads_begin : boot_threads o ≡ threads_of o.priority b
  threads_begin = sym (threads_are (λ z n. version_is n z) (λ z n. present_is n z) (λ z n. on_is n z) (λ z n. ended_is n z) refl
      (λ z n. look_part (λ (l : Look). l.condition) n z) (λ z n. made_is n z)
      (λ z n. (look_part (λ (l : Look). l.locks) n ∙ cond_same (is_thread o.threads n) no_locks) z)
      (λ z n. (look_part (λ (l : Look). l.push) n ∙ cond_same (is_thread o.threads n) None) z)
      h.table (ap (by_owner {P = Look} None (λ (l : Look). l.victim) (looks_of b)) h.table)
      (ap (by_owner {P = Look} false (λ (l : Look). l.listed) (looks_of b)) h.table)
      (ap (by_owner {P = Look} None (λ (l : Look). l.making) (looks_of b)) h.table))

  priority_is : (n : ℕ) → (sights_of b n).present ≡ true → o.priority n ≡ (sights_of b n).priority
  priority_is n e = elim (cases_lt n o.threads) [
    | inl l ↦ sym (ap (λ (s : Sight). s.priority) (ap sight_of (h.thread n l).1.word))
    | inr l ↦ absurd (let z : true ≡ false = sym e ∙ present_is n ∙ outside n l in cc)
  ]

  own_begins : (n : ℕ) → ((b.context n).at ≡ Nowhere) ⊎ ((b.context n).at ≡ Resting) → IsOwn (b.context n).at boot_own
  own_begins n (inl e) = subst (λ (p : At). IsOwn p boot_own) (sym e) refl
  own_begins n (inr e) = subst (λ (p : At). IsOwn p boot_own) (sym e) refl

  pub begins_alike : AreAlike b (boot o)
  begins_alike = record {
    agrees = record {
      threads = threads_begin;
      priorities = priority_is;
      ready = sym (ap (name_by b.size) h.ready);
      lists = sym h.lists;
      whole = h.whole;
      running = sym h.running;
    };
    stages = λ d. own_begins (b.size + d) (h.away (b.size + d) (let l = h.few in omega (arith, l)));
  }
