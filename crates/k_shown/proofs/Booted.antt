-- The memory in which a kernel begins is sound.
use Rattle.std.proofs.Common.{◌≡◌, ℕ, zero, suc, ◌<◌, ◌≤◌, true, false, not, ltb, List, [], ◌∷◌, ◌++◌, length, get_or, replicate, refl, sym, ap, ◌∙◌, subst, arith, Some, inl, inr, ◌⊎◌}
use Rattle.std.proofs.lemmas.Bool.{false≢true, lt-ltb, le-ltb, cases_lt, ne_eqb, or_from}
use Rattle.std.proofs.lemmas.List.{length-set, length-replicate, get_or-replicate, get_or_past}
use Rattle.std.proofs.lemmas.List.FromFn.{get_or-map-range_with_len, length-map-range_with_len}
use Rattle.std.specs.List.{AllByRecursion}
use Rattle.k_ids.specs.declared.threads.ThreadId.{ThreadId}
use Rattle.k_ids.specs.declared.threads.Status.TheVariants as status
use Rattle.k_ids.specs.declared.context_word.ContextWord.TheVariants.{Empty}
use Rattle.k_ids.specs.declared.state_word.Result4.TheVariants as result4
use Rattle.k_ids.specs.declared.state_word.StateWord.{StateWord}
use Rattle.k_ids.specs.StateWords.{IsStateWord}
use Rattle.k_ready.specs.Lists.{IsOnceEach, list_of, stands}
use Rattle.k_links.proofs.Appended.{stands_append}
use Rattle.k_locks.specs.Numbers.{is_present as is_there}
use Rattle.k_locks.specs.Shown.{shows}
use Rattle.k_locks.specs.Hands.{pushed}
use Rattle.k_shown.specs.Words.{dead_word, new_word}
use Rattle.k_model.specs.State.{is_dead, nowhere}
use Rattle.k_model.specs.Step.{last_version}
use Rattle.k_model.specs.History.{opened, opening_place, new_place, dead_place}
use Rattle.k_lists.proofs.All.{all_at}
use Rattle.k_model.proofs.Listed.{opened-listed}
use Rattle.k_model.proofs.Opening.{opened-sound}
use Rattle.k_shown.specs.Memory.{Memory, Shows, with_ready}
use Rattle.k_shown.specs.Sound.{IsCaller, IsContext, IsReady, IsSoundMemory, IsSoundWords}
use Rattle.k_shown.specs.Boot.{IsOpening, boot, boot_context, boot_ready, boot_word}
use Rattle.k_shown.proofs.Shown.{Fits, shows_from}
use Rattle.k_shown.proofs.Kept.{list_cases, pushed_words, sound_memory}

ready_count : (priority : ℕ → ℕ) (n : ℕ) → length (boot_ready priority n).lists ≡ 64
unfolding boot_ready
ready_count priority zero = length-replicate {A = List ThreadId} 64 []
ready_count priority (suc n) = length-set (boot_ready priority n).lists (priority n) _ ∙ ready_count priority n

-- who isn't pushed yet stands in no list
ready_none : (priority : ℕ → ℕ) (n t : ℕ) → ((i : ℕ) → i < n → priority i < 64) → n ≤ t → (p : ℕ) → stands t (list_of (boot_ready priority n).lists p) ≡ false
unfolding boot_ready
ready_none priority zero t small l p = ap (stands t) (elim (cases_lt p 64) [ inl q ↦ get_or-replicate 64 p [] [] q | inr q ↦ get_or_past (replicate 64 []) p [] (omega (arith, q, length-replicate 64 (the_empty))) ])
  where
    the_empty : List ThreadId
    the_empty = []
ready_none priority (suc n) t small l p =
    let r = boot_ready priority n in
    list_cases (λ (ids : List ThreadId). stands t ids ≡ false) r.lists (priority n) (list_of r.lists (priority n) ++ record { number = n; version = 1 } ∷ []) p (let c = ready_count priority n in let s = small n (omega arith) in omega (arith, c, s))
    (λ _. stands_append (λ (i : ThreadId). i.number) t (list_of r.lists (priority n)) (record { number = n; version = 1 }) ∙ or_from _ _ (ready_none priority n t (λ i q. small i (omega (arith, q))) (omega (arith, l)) (priority n)) (ne_eqb n t (omega (arith, l))))
    (λ _. ready_none priority n t (λ i q. small i (omega (arith, q))) (omega (arith, l)) p)

module _ (versions : List ℕ) (threads : ℕ) (priority : ℕ → ℕ) (o : IsOpening versions threads priority) where
  word_new : (n : ℕ) → n < threads → boot_word versions threads priority n ≡ new_word 1 (priority n)
  word_new n l = rw (lt-ltb n threads l) refl

  word_dead : (n : ℕ) → threads ≤ n → boot_word versions threads priority n ≡ dead_word (get_or versions n 0)
  word_dead n l = rw (le-ltb n threads l) refl

  version_small : (n : ℕ) → get_or versions n 0 ≤ last_version
  version_small n = elim (cases_lt n (length versions)) [
    | inl l ↦ all_at (λ v. v ≤ last_version) versions n 0 o.known l
    | inr l ↦ subst (λ (x : ℕ). x ≤ last_version) (sym (get_or_past versions n 0 l)) (omega arith)
  ]

  words_boot : (n : ℕ) → IsStateWord (boot_word versions threads priority n)
  words_boot n = elim (cases_lt n threads) [
    | inl l ↦ subst IsStateWord (sym (word_new n l)) (record { version = omega arith; priority = o.levels n l; partner = tt; agrees = omega arith })
    | inr l ↦ subst IsStateWord (sym (word_dead n l)) (let v = version_small n in record { version = omega (arith, v); priority = omega arith; partner = tt; agrees = (refl, refl) })
  ]

  -- a number runs, or has none
  runs_or_dead : (n : ℕ) → (shows (boot_word versions threads priority n).state ≡ status.Run) ⊎ (shows (boot_word versions threads priority n).state ≡ status.Dead)
  runs_or_dead n = elim (cases_lt n threads) [
    | inl l ↦ inl (ap (λ (w : StateWord). shows w.state) (word_new n l))
    | inr l ↦ inr (ap (λ (w : StateWord). shows w.state) (word_dead n l))
  ]

  sends_not : (n : ℕ) (to : ThreadId) → shows (boot_word versions threads priority n).state ≡ status.Sending to → ⊥
  sends_not n to e = elim (runs_or_dead n) [
    | inl r ↦ let one : status.Run ≡ status.Sending to = sym r ∙ e in cc
    | inr d ↦ let one : status.Dead ≡ status.Sending to = sym d ∙ e in cc
  ]

  waits_not : (n : ℕ) (from : ThreadId) → shows (boot_word versions threads priority n).state ≡ status.Receiving (Some from) → ⊥
  waits_not n from e = elim (runs_or_dead n) [
    | inl r ↦ let one : status.Run ≡ status.Receiving (Some from) = sym r ∙ e in cc
    | inr d ↦ let one : status.Dead ≡ status.Receiving (Some from) = sym d ∙ e in cc
  ]

  -- the memory once so many threads are pushed
  abbrev boot_at : ℕ → Memory
  boot_at n = with_ready (boot versions threads priority) (boot_ready priority n)

  empty_list : (p : ℕ) → list_of (boot_ready priority 0).lists p ≡ []
  unfolding boot_ready
  empty_list p = elim (cases_lt p 64) [ inl q ↦ get_or-replicate 64 p [] [] q | inr q ↦ get_or_past (replicate 64 []) p [] (omega (arith, q, length-replicate 64 the_empty)) ]
    where
      the_empty : List ThreadId
      the_empty = []

  words_at : (n : ℕ) → n ≤ threads → IsSoundWords (boot_at n)
  unfolding boot_ready
  words_at zero l = record {
    words = words_boot;
    sending = λ n to e. absurd (sends_not n to e);
    receiving = λ n from e. absurd (waits_not n from e);
    ready = record {
      count = ready_count priority 0;
      ready = λ p. subst (AllByRecursion (IsReady (boot_at 0) p)) (sym (empty_list p)) tt;
      once = λ p. subst IsOnceEach (sym (empty_list p)) tt;
    };
    entries = λ n. tt;
  }
  words_at (suc n) l =
      let small : n < threads = omega (arith, l) in
      let is = word_new n small in
      subst (λ (p : ℕ). IsSoundWords (with_ready (boot versions threads priority) (pushed (record { number = n; version = 1 }) p (boot_ready priority n)))) (ap (λ (w : StateWord). w.priority) is)
      (pushed_words (boot_at n) (record { number = n; version = 1 }) (words_at n (omega (arith, l))) (ap (λ (w : StateWord). w.version) is) (ap (λ (w : StateWord). is_dead (shows w.state)) is) (ap (λ (w : StateWord). w.on) is)
      (ready_none priority n n (λ i q. o.levels i (omega (arith, q, small))) (omega arith)))

  fits_boot : (n : ℕ) → Fits (opening_place versions threads n) (boot_word versions threads priority n) (record { entries = []; room = length versions })
  fits_boot n = elim (cases_lt n (length versions)) [
    | inl inside ↦ elim (cases_lt n threads) [
      | inl l ↦ let place : opening_place versions threads n ≡ new_place = rw (lt-ltb n (length versions) inside, lt-ltb n threads l) refl in
          rw place (rw (word_new n l) (record { version = refl; status = refl; joined = refl; waiting = refl }))
      | inr l ↦ let place : opening_place versions threads n ≡ dead_place (get_or versions n 0) = rw (lt-ltb n (length versions) inside, le-ltb n threads l) refl in
          rw place (rw (word_dead n l) (record { version = refl; status = refl; joined = refl; waiting = refl }))
    ]
    | inr past ↦ let place : opening_place versions threads n ≡ nowhere = rw (le-ltb n (length versions) past) refl in
        let none = get_or_past versions n 0 past in
        let many = o.enough in
        rw place (rw (word_dead n (omega (arith, past, many))) (record { version = sym none; status = refl; joined = refl; waiting = refl }))
  ]

  pub shows_boot : Shows (boot versions threads priority) (opened versions threads)
  shows_boot = shows_from (boot versions threads priority) (opened versions threads) refl fits_boot

  there_boot : (n : ℕ) → n < length versions → is_there (boot versions threads priority).numbers n ≡ not (is_dead (shows (boot_word versions threads priority n).state))
  there_boot n inside =
      get_or-map-range_with_len (λ i. ltb i threads) 0 (length versions) n n false inside (omega arith)
      ∙ elim (cases_lt n threads) [
        | inl l ↦ lt-ltb n threads l ∙ sym (ap (λ (w : StateWord). not (is_dead (shows w.state))) (word_new n l))
        | inr l ↦ le-ltb n threads l ∙ sym (ap (λ (w : StateWord). not (is_dead (shows w.state))) (word_dead n l))
      ]

  context_there : (n : ℕ) → is_dead (shows (boot_word versions threads priority n).state) ≡ false → IsContext (boot_word versions threads priority n).version (boot_context threads n)
  context_there n e = elim (cases_lt n threads) [
    | inl l ↦ rw (word_new n l) (rw (lt-ltb n threads l) refl)
    | inr l ↦ absurd (false≢true (sym e ∙ ap (λ (w : StateWord). is_dead (shows w.state)) (word_dead n l)))
  ]

  context_none : (n : ℕ) → is_dead (shows (boot_word versions threads priority n).state) ≡ true → boot_context threads n ≡ Empty
  context_none n e = elim (cases_lt n threads) [
    | inl l ↦ absurd (false≢true (sym (ap (λ (w : StateWord). is_dead (shows w.state)) (word_new n l)) ∙ e))
    | inr l ↦ rw (le-ltb n threads l) refl
  ]

  pub sound_boot : IsSoundMemory (boot versions threads priority)
  sound_boot =
      sound_memory (boot versions threads priority) (opened versions threads) shows_boot o.size (λ n l. refl) (words_at threads (omega arith))
      (record {
        versions = length-map-range_with_len (λ n. (boot_word versions threads priority n).version) 0 (length versions);
        presences = length-map-range_with_len (λ n. ltb n threads) 0 (length versions);
        version = λ n l. get_or-map-range_with_len (λ n. (boot_word versions threads priority n).version) 0 (length versions) n n 0 l (omega arith);
        present = there_boot;
      })
      (record { there = context_there; none = context_none })
      (opened-sound versions threads) (opened-listed versions threads)

  pub runs_boot : (n : ℕ) → n < threads → IsCaller (boot versions threads priority) (record { number = n; version = 1 }) (boot_word versions threads priority n)
  runs_boot n l =
      let is = word_new n l in
      record {
        word = refl;
        version = ap (λ (w : StateWord). w.version) is;
        on = ap (λ (w : StateWord). w.on) is;
        result = result4.Plain;
        runs = ap (λ (w : StateWord). w.state) is;
      }
