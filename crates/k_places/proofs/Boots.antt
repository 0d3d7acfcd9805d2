-- The world in which the kernel begins shows the board on which it begins.
use Rattle.std.proofs.Common.{◌≡◌, ℕ, ◌+◌, ◌*◌, ◌-◌, ◌<◌, ◌≤◌, nat_lt, Bool, true, false, refl, sym, ap, ◌∙◌, subst}
use Rattle.std.proofs.Common.{Option, Some, None, List, [], ◌∷◌, length, get_or, map, take, arith, inl, inr}
use Rattle.std.specs.Prelude.{◌&&◌, not, replicate}
use Rattle.std.specs.List.{flat_map, range_with_len, sum_by}
use Rattle.std.proofs.lemmas.Bool.{cases_Bool, cases_lt, le-ltb, lt-ltb, ltb-true}
use Rattle.std.proofs.lemmas.List.{get_or-replicate, get_or_past, length-map, length-replicate, length-take}
use Rattle.std.proofs.lemmas.List.Concat.{get_or-flat_map, length-flat_map}
use Rattle.std.proofs.lemmas.List.Sums.{sum_by-cons}
use Rattle.std.proofs.lemmas.List.FromFn.{get_or-map-range_with_len, get_or-range_with_len}
use Rattle.std.proofs.lemmas.List.FromFn.{length-map-range_with_len, length-range_with_len}
use Rattle.k_lists.proofs.All.{all_at}
use Rattle.k_ids.specs.declared.context_word.ContextWord.{ContextWord}
use Rattle.k_ids.specs.declared.context_word.ContextWord.TheVariants.{Clean, Empty}
use Rattle.k_ids.specs.declared.lock_word.LockWord.TheVariants.{Free}
use Rattle.k_ids.specs.declared.state_word.StateWord.{StateWord}
use Rattle.k_ids.specs.ContextWords.{IsContextSpelling, IsContextWord, context_bits, context_word_of}
use Rattle.k_ids.specs.LockWords.{lock_bits, lock_word_of}
use Rattle.k_ids.specs.StateWords.{IsStateSpelling, IsStateWord, state_bits, state_word_of}
use Rattle.k_ids.proofs.ContextSpelled.{context-read, context-whole}
use Rattle.k_ids.proofs.LockSpelled.{lock-read}
use Rattle.k_ids.proofs.StateSpelled.{state-read, state-whole}
use Rattle.k_locks.specs.declared.locks.Lock.{Lock}
use Rattle.k_locks.specs.declared.locks.Lock.TheVariants as lock
use Rattle.k_locks.specs.Places.{IsLock, lock_number}
use Rattle.k_script.specs.Limits.{IsScript, IsThread}
use Rattle.k_script.specs.Script.{Script}
use Rattle.k_shown.specs.Words.{dead_word, new_word}
use Rattle.k_carrier.specs.Seen.{CarrierSeen, new_carrier}
use Rattle.k_locks.specs.Numbers.{ThreadNumbers, is_present, version_at}
use Rattle.k_locks.specs.Shown.{is_dead}
use Rattle.k_world.proofs.Booted.{booted_sized}
use Rattle.k_board.specs.Boots.{Booted, has_carrier, has_none, has_thread as booted_thread}
use Rattle.k_good.specs.Good.{NumbersAgree}
use Rattle.k_world.specs.Boot.{boot_context, boot_home, boot_numbers, boot_resting, boot_slots, boot_state}
use Rattle.k_world.specs.Boot.{boot_words, booted, first_thread, has_thread, is_carriers, places, thread_line}
use Rattle.k_world.specs.Worlds.{Slot, Away, Guarded, Resting, resting_in}
use Rattle.k_caller.specs.declared.thread.ThreadLocation.TheVariants as location
use Rattle.k_caller.specs.Threads as threads
use Rattle.k_switch.specs.Switches.{first_of_number}
use Rattle.k_context.specs.Contexts.{ContextSeen, carrier_of}
use Rattle.k_board.specs.Boards.{Alone, Coming, Nowhere, Resting as AtRest, owner_of}
use Rattle.k_places.specs.Contexts.{HoldsGoods, IsShown, ShowsContext, goods_on, held_on, programs_of, thread_at}
use Rattle.k_ids.specs.Messages.{message_of_bits}
use Rattle.k_good.specs.Locks.{locks_at, owner_by}
use Rattle.k_places.specs.Boots.{boot_at, boot_board, boot_context_at, boot_position, boot_seen}
use Rattle.k_places.specs.Shows.{AreInPlace, IsLockOf, Rests, ShowsBoard, ShowsOwners}
use Rattle.k_places.specs.Shows.{ShowsSeen, Stands, context_by, context_in, owner_in}
use Rattle.k_places.specs.Memory.{Memory, at, memory_of}

-- WORDS AND SLOTS of the first world, by their numbers: pieces of one length, put together

sum_constant : (c : ℕ) (xs : List ℕ) → sum_by (λ x. c) xs ≡ c * length xs
sum_constant c [] = omega arith
sum_constant c (x ∷ xs) = omega (arith, sum_by-cons (λ (y : ℕ). c) x xs, sum_constant c xs)

pieces_size : {X : Type 0} (f : ℕ → List X) (c : ℕ) → ((n : ℕ) → length (f n) ≡ c) → (xs : List ℕ) →
    length (flat_map f xs) ≡ c * length xs
pieces_size f c e [] = omega arith
pieces_size f c e (x ∷ xs) = length-flat_map f (x ∷ xs) ∙ (sizes (x ∷ xs) ∙ sum_constant c (x ∷ xs))
  where
    sizes : (ys : List ℕ) → sum_by (λ y. length (f y)) ys ≡ sum_by (λ y. c) ys
    sizes [] = refl
    sizes (y ∷ ys) = omega (arith, e y, sizes ys, sum_by-cons (λ (z : ℕ). length (f z)) y ys, sum_by-cons (λ (z : ℕ). c) y ys)

piece_at : {X : Type 0} (f : ℕ → List X) (c : ℕ) → ((n : ℕ) → length (f n) ≡ c) → (m n j : ℕ) (d : X) → n < m → j < c →
    get_or (flat_map f (range_with_len 0 m)) (c * n + j) d ≡ get_or (f n) j d
piece_at f c e m n j d l k =
    let before : length (flat_map f (take n (range_with_len 0 m))) ≡ c * n =
    pieces_size f c e (take n (range_with_len 0 m)) ∙ ap (λ i. c * i)
    (length-take n (range_with_len 0 m) ∙ omega (arith, l, length-range_with_len 0 m)) in
    let here : get_or (range_with_len 0 m) n 0 ≡ n = get_or-range_with_len 0 m n 0 l ∙ omega arith in
    ap (λ i. get_or (flat_map f (range_with_len 0 m)) (i + j) d) (sym before)
    ∙ (get_or-flat_map f (range_with_len 0 m) n j 0 d (omega (arith, l, length-range_with_len 0 m))
    (omega (arith, k, e (get_or (range_with_len 0 m) n 0)))
    ∙ ap (λ i. get_or (f i) j d) here)

and_none : (x : ℕ) → x ≡ x + 0
and_none x = omega arith

-- behind the last piece there is nothing
piece_past : {X : Type 0} (f : ℕ → List X) (c : ℕ) → ((n : ℕ) → length (f n) ≡ c) → (m i : ℕ) (d : X) → c * m ≤ i →
    get_or (flat_map f (range_with_len 0 m)) i d ≡ d
piece_past f c e m i d l =
    let size : length (flat_map f (range_with_len 0 m)) ≡ c * m =
    pieces_size f c e (range_with_len 0 m) ∙ ap (λ x. c * x) (length-range_with_len 0 m) in
    get_or_past (flat_map f (range_with_len 0 m)) i d (subst (λ x. x ≤ i) (sym size) l)

module _ (script : Script) (carriers : ℕ) (fit : IsScript script) (eight : carriers ≤ 8) where
  abbrev M : Memory
  M = memory_of (booted script carriers)

  -- NUMBERS BEHIND THE LAST

  no_thread : (n : ℕ) → script.table ≤ n → has_thread script n ≡ false
  no_thread n l = le-ltb n (length script.threads) (omega (arith, l, fit.lines.1))

  no_age : (n : ℕ) → script.table ≤ n → get_or script.aged n 0 ≡ 0
  no_age n l = get_or_past script.aged n 0 (omega (arith, l, fit.numbered))

  no_carriers : (n : ℕ) → 72 ≤ n → is_carriers script carriers n ≡ false
  no_carriers n l =
      rw (le-ltb n (script.table + carriers) (omega (arith, l, fit.table.1, eight))) (not_both (nat_lt n script.table))
    where
      not_both : (b : Bool) → not b && false ≡ false
      not_both true = refl
      not_both false = refl

  dead_state : (n : ℕ) → script.table ≤ n → boot_state script n ≡ dead_word 0
  dead_state n l = rw (no_thread n l) (ap dead_word (no_age n l))

  no_bits : 0 ≡ state_bits (dead_word 0)
  unfolding state_bits
  no_bits = refl

  no_context : 0 ≡ context_bits Empty
  unfolding context_bits
  no_context = refl

  state_is : (n : ℕ) → M.state n ≡ state_bits (boot_state script n)
  unfolding booted at
  state_is n = elim (cases_lt n 74) [
    | inl l ↦
        ap (λ i. get_or (flat_map (boot_words script carriers) (range_with_len 0 places)) i 0) (and_none (4 * n))
        ∙ piece_at (boot_words script carriers) 4 (λ i. refl) places n 0 0 l (omega arith)
    | inr g ↦
        piece_past (boot_words script carriers) 4 (λ i. refl) places (4 * n) 0 (omega (arith, g)) ∙ no_bits
        ∙ ap state_bits (sym (dead_state n (omega (arith, g, fit.table.1))))
  ]

  mail_is : (n : ℕ) → M.mail n ≡ 0
  unfolding booted at
  mail_is n = elim (cases_lt n 74) [
    | inl l ↦ piece_at (boot_words script carriers) 4 (λ i. refl) places n 1 0 l (omega arith)
    | inr g ↦ piece_past (boot_words script carriers) 4 (λ i. refl) places (4 * n + 1) 0 (omega (arith, g))
  ]

  lock_is : (n : ℕ) → n < 74 → M.lock n ≡ lock_bits Free
  unfolding booted at
  lock_is n l = piece_at (boot_words script carriers) 4 (λ i. refl) places n 2 0 l (omega arith)

  context_is : (n : ℕ) → M.context n ≡ context_bits (boot_context script carriers n)
  unfolding booted at
  context_is n = elim (cases_lt n 74) [
    | inl l ↦ piece_at (boot_words script carriers) 4 (λ i. refl) places n 3 0 l (omega arith)
    | inr g ↦
        piece_past (boot_words script carriers) 4 (λ i. refl) places (4 * n + 3) 0 (omega (arith, g)) ∙ no_context
        ∙ sym (rw (no_thread n (omega (arith, g, fit.table.1))) (rw (no_carriers n (omega (arith, g))) refl))
  ]

  home_is : (n : ℕ) → n < 74 → M.home n ≡ boot_home script n
  unfolding booted at
  home_is n l =
      ap (λ i. get_or (flat_map (boot_slots script carriers) (range_with_len 0 places)) i Away) (and_none (2 * n))
      ∙ piece_at (boot_slots script carriers) 2 (λ i. refl) places n 0 Away l (omega arith)

  slot_is : (n : ℕ) → M.slot n ≡ boot_resting script carriers n
  unfolding booted at
  slot_is n = elim (cases_lt n 74) [
    | inl l ↦ piece_at (boot_slots script carriers) 2 (λ i. refl) places n 1 Away l (omega arith)
    | inr g ↦
        piece_past (boot_slots script carriers) 2 (λ i. refl) places (2 * n + 1) Away (omega (arith, g))
        ∙ sym (rw (no_thread n (omega (arith, g, fit.table.1))) (rw (no_carriers n (omega (arith, g))) refl))
  ]

  hand_is : (c : ℕ) → M.hand c ≡ None
  unfolding booted at
  hand_is c = elim (cases_lt c carriers) [
    | inl l ↦
        ap (λ (k : CarrierSeen). k.hand) (get_or-map-range_with_len (λ i. new_carrier i script.table) 0 carriers c c
        (new_carrier 0 0) l (omega arith))
    | inr g ↦
        ap (λ (k : CarrierSeen). k.hand) (get_or_past (map (λ i. new_carrier i script.table) (range_with_len 0 carriers)) c
        (new_carrier 0 0) (subst (λ x. x ≤ c)
        (sym (length-map-range_with_len (λ i. new_carrier i script.table) 0 carriers)) g))
  ]

  serial_is : (n : ℕ) → M.serial n ≡ 0
  unfolding booted at
  serial_is n = elim (cases_lt n script.table) [
    | inl l ↦ get_or-replicate script.table n 0 0 l
    | inr g ↦ get_or_past (replicate script.table 0) n 0 (subst (λ x. x ≤ n) (sym (length-replicate script.table 0)) g)
  ]

  -- THREADS, CARRIERS, AND NUMBERS OF NONE

  priority_is : (n : ℕ) → has_thread script n ≡ true → (thread_line script n).priority ≤ 63
  priority_is n h =
      (all_at (IsThread (length script.programs)) script.threads n (record { priority = 0; program = 0 }) fit.threads
      (ltb-true n (length script.threads) h)).priority

  age_is : (n : ℕ) → get_or script.aged n 0 ≤ 1048575
  age_is n = elim (cases_lt n (length script.aged)) [
    | inl l ↦ all_at (λ v. v ≤ 1048575) script.aged n 0 fit.aged l
    | inr g ↦ subst (λ x. x ≤ 1048575) (sym (get_or_past script.aged n 0 g)) (omega arith)
  ]

  -- what stands at a number, by whether it has a thread, is a carrier's, or neither
  thread_state : (n : ℕ) → has_thread script n ≡ true → boot_state script n ≡ new_word 1 (thread_line script n).priority
  thread_state n t = rw t refl

  old_state : (n : ℕ) → has_thread script n ≡ false → boot_state script n ≡ dead_word (get_or script.aged n 0)
  old_state n f = rw f refl

  thread_word : (n : ℕ) → has_thread script n ≡ true → boot_context script carriers n ≡ Clean 1
  thread_word n t = rw t refl

  carrier_word : (n : ℕ) → has_thread script n ≡ false → is_carriers script carriers n ≡ true →
      boot_context script carriers n ≡ Clean 1
  carrier_word n f k = rw f (rw k refl)

  empty_word : (n : ℕ) → has_thread script n ≡ false → is_carriers script carriers n ≡ false →
      boot_context script carriers n ≡ Empty
  empty_word n f g = rw f (rw g refl)

  thread_slot : (n : ℕ) → has_thread script n ≡ true → boot_resting script carriers n ≡ Resting (first_thread script n)
  thread_slot n t = rw t refl

  carrier_slot : (n : ℕ) → has_thread script n ≡ false → is_carriers script carriers n ≡ true →
      boot_resting script carriers n ≡ Resting (carrier_of (n - script.table))
  carrier_slot n f k = rw f (rw k refl)

  thread_at_start : (n : ℕ) → has_thread script n ≡ true → boot_at script carriers n ≡ Alone (location.Between None)
  thread_at_start n t = rw t refl

  carrier_at_start : (n : ℕ) → has_thread script n ≡ false → is_carriers script carriers n ≡ true →
      boot_at script carriers n ≡ AtRest
  carrier_at_start n f k = rw f (rw k refl)

  nowhere_at_start : (n : ℕ) → has_thread script n ≡ false → is_carriers script carriers n ≡ false →
      boot_at script carriers n ≡ Nowhere
  nowhere_at_start n f g = rw f (rw g refl)

  by_kind : (P : ℕ → Type 0) (n : ℕ) → (has_thread script n ≡ true → P n) →
      (has_thread script n ≡ false → is_carriers script carriers n ≡ true → P n) →
      (has_thread script n ≡ false → is_carriers script carriers n ≡ false → P n) → P n
  by_kind P n x y z = elim (cases_Bool (has_thread script n)) [
    | inl t ↦ x t
    | inr f ↦ elim (cases_Bool (is_carriers script carriers n)) [ inl k ↦ y f k | inr g ↦ z f g ]
  ]

  state_whole : (n : ℕ) → IsStateWord (boot_state script n)
  state_whole n = elim (cases_Bool (has_thread script n)) [
    | inl t ↦
        let p = priority_is n t in subst IsStateWord (sym (thread_state n t))
        (record { version = omega arith; priority = omega (arith, p); partner = tt; agrees = omega arith })
    | inr f ↦
        let a = age_is n in subst IsStateWord (sym (old_state n f))
        (record { version = omega (arith, a); priority = omega arith; partner = tt; agrees = (refl, refl) })
  ]

  seen_shown : ShowsSeen M.state M.mail (boot_seen script)
  seen_shown n = record {
    spelled = subst IsStateSpelling (sym (state_is n)) (state-whole (boot_state script n) (state_whole n));
    word = sym (ap state_word_of (state_is n) ∙ state-read (boot_state script n) (state_whole n));
    mail = ap message_of_bits (sym (mail_is n));
  }

  owners_shown : ShowsOwners M.lock (λ n. None) None None
  owners_shown l i =
      by l ∙ sym (ap (λ x. owner_in (lock_word_of x)) (lock_is (lock_number l) (below l i)) ∙ ap owner_in (lock-read Free))
    where
      below : (l : Lock) → IsLock l → lock_number l < 74
      below (lock.Thread n) i = omega (arith, i)
      below lock.Table i = omega arith
      below lock.Ready i = omega arith

      by : (l : Lock) → owner_by (λ n. None) None None l ≡ None
      by (lock.Thread n) = refl
      by lock.Table = refl
      by lock.Ready = refl

  -- WHERE CONTEXTS ARE

  context_whole : (n : ℕ) → IsContextWord (boot_context script carriers n)
  context_whole n = by_kind (λ x. IsContextWord (boot_context script carriers x)) n
      (λ t. subst IsContextWord (sym (thread_word n t)) (record { born = omega arith; small = omega arith }))
      (λ f k. subst IsContextWord (sym (carrier_word n f k)) (record { born = omega arith; small = omega arith }))
      (λ f g. subst IsContextWord (sym (empty_word n f g)) tt)

  word_is : (n : ℕ) → context_word_of (M.context n) ≡ boot_context script carriers n
  word_is n = ap context_word_of (context_is n) ∙ context-read (boot_context script carriers n) (context_whole n)

  abbrev StandsSo : ℕ → ContextWord → Type 0
  StandsSo n w = Stands M.slot M.hand n w

  stands : (n : ℕ) → StandsSo n (context_word_of (M.context n))
  stands n = subst (StandsSo n) (sym (word_is n)) (by_kind (λ x. StandsSo x (boot_context script carriers x)) n
      (λ t. subst (StandsSo n) (sym (thread_word n t)) (subst (λ (s : Slot). Rests s false 1) (sym (slot_is n ∙ thread_slot n t))
      (refl, refl)))
      (λ f k. subst (StandsSo n) (sym (carrier_word n f k))
      (subst (λ (s : Slot). Rests s false 1) (sym (slot_is n ∙ carrier_slot n f k)) (refl, refl)))
      (λ f g. subst (StandsSo n) (sym (empty_word n f g)) tt))

  places_shown : AreInPlace M.context M.slot M.hand
  places_shown = record {
    spelled =
        λ n. subst IsContextSpelling (sym (context_is n)) (context-whole (boot_context script carriers n) (context_whole n));
    stands = stands;
    taken = λ c h q. let no : None ≡ Some h = sym (hand_is c) ∙ q in absurd cc;
  }

  -- the contexts that there are
  thread_found : (n : ℕ) → has_thread script n ≡ true → context_in M.context M.slot M.hand n ≡ Some (first_thread script n)
  thread_found n t = ap (context_by M.slot M.hand n) (word_is n ∙ thread_word n t) ∙ ap resting_in (slot_is n ∙ thread_slot n t)

  carrier_found : (n : ℕ) → has_thread script n ≡ false → is_carriers script carriers n ≡ true →
      context_in M.context M.slot M.hand n ≡ Some (carrier_of (n - script.table))
  carrier_found n f k =
      ap (context_by M.slot M.hand n) (word_is n ∙ carrier_word n f k) ∙ ap resting_in (slot_is n ∙ carrier_slot n f k)

  none_found : (n : ℕ) → has_thread script n ≡ false → is_carriers script carriers n ≡ false →
      context_in M.context M.slot M.hand n ≡ None
  none_found n f g = ap (context_by M.slot M.hand n) (word_is n ∙ empty_word n f g)

  first_shown : (n : ℕ) → has_thread script n ≡ true → IsShown (boot_state script n) n
      (threads.thread_of script (first_of_number n) (thread_line script n).program (thread_line script n).priority)
      (boot_context_at script carriers n)
  first_shown n t = record {
    number = refl;
    coming = λ q. let no : Alone (location.Between None) ≡ Coming = sym (thread_at_start n t) ∙ q in absurd cc;
    context = λ d. record { serial = 0; own = thread_state n t d; position = boot_position script n; at = stands_there d };
  }
    where
      stands_there : boot_at script carriers n ≡ thread_at (boot_state script n)
          (threads.thread_of script (first_of_number n) (thread_line script n).program (thread_line script n).priority)
      stands_there =
          thread_at_start n t ∙ sym (ap (λ (w : StateWord). thread_at w
          (threads.thread_of script (first_of_number n) (thread_line script n).program (thread_line script n).priority))
          (thread_state n t))

  contexts_shown : (n : ℕ) → ShowsContext (boot_state script n) n (context_in M.context M.slot M.hand n)
      (boot_context_at script carriers n)
  contexts_shown n =
      by_kind (λ x. ShowsContext (boot_state script x) x (context_in M.context M.slot M.hand x)
      (boot_context_at script carriers x)) n
      (λ t. subst (λ (o : Option ContextSeen). ShowsContext (boot_state script n) n o (boot_context_at script carriers n))
      (sym (thread_found n t)) (first_shown n t))
      (λ f k. subst (λ (o : Option ContextSeen). ShowsContext (boot_state script n) n o (boot_context_at script carriers n))
      (sym (carrier_found n f k)) (carrier_at_start n f k))
      (λ f g. subst (λ (o : Option ContextSeen). ShowsContext (boot_state script n) n o (boot_context_at script carriers n))
      (sym (none_found n f g)) (nowhere_at_start n f g))

  -- GOODS

  homes_shown : (l : Lock) → IsLockOf script.table l → owner_of (boot_board script carriers) l ≡ None →
      M.home (lock_number l) ≡ Guarded (goods_on (boot_board script carriers) l)
  homes_shown (lock.Thread n) i q = home_is n (omega (arith, i.0)) ∙ rw (lt-ltb n script.table i.1) refl
  homes_shown lock.Table i q = home_is 72 (omega arith) ∙ rw (le-ltb 72 script.table (omega (arith, fit.table.1))) refl
  homes_shown lock.Ready i q = home_is 73 (omega arith) ∙ rw (le-ltb 73 script.table (omega (arith, fit.table.1))) refl

  some_is : {A : Type 0} {y z : A} → Some y ≡ Some z → y ≡ z
  some_is q = cc

  -- nothing is in hand without a lock
  thread_hands : (n : ℕ) → has_thread script n ≡ true → (v : ContextSeen) → context_in M.context M.slot M.hand n ≡ Some v →
      HoldsGoods (boot_board script carriers) v (boot_at script carriers n)
  thread_hands n t v q =
      subst (λ (y : ContextSeen). HoldsGoods (boot_board script carriers) y (boot_at script carriers n))
      (some_is (sym (thread_found n t) ∙ q)) (sym (ap (λ p. held_on (boot_board script carriers) (locks_at p))
      (thread_at_start n t)))

  carrier_hands : (n : ℕ) → has_thread script n ≡ false → is_carriers script carriers n ≡ true → (v : ContextSeen) →
      context_in M.context M.slot M.hand n ≡ Some v → HoldsGoods (boot_board script carriers) v (boot_at script carriers n)
  carrier_hands n f k v q =
      subst (λ (y : ContextSeen). HoldsGoods (boot_board script carriers) y (boot_at script carriers n))
      (some_is (sym (carrier_found n f k) ∙ q)) (sym (ap (λ p. held_on (boot_board script carriers) (locks_at p))
      (carrier_at_start n f k)))

  none_hands : (n : ℕ) → has_thread script n ≡ false → is_carriers script carriers n ≡ false → (v : ContextSeen) →
      context_in M.context M.slot M.hand n ≡ Some v → HoldsGoods (boot_board script carriers) v (boot_at script carriers n)
  none_hands n f g v q = let no : None ≡ Some v = sym (none_found n f g) ∙ q in absurd cc

  hands_shown : (n : ℕ) (v : ContextSeen) → context_in M.context M.slot M.hand n ≡ Some v →
      HoldsGoods (boot_board script carriers) v (boot_at script carriers n)
  hands_shown n =
      by_kind (λ x. (v : ContextSeen) → context_in M.context M.slot M.hand x ≡ Some v →
      HoldsGoods (boot_board script carriers) v (boot_at script carriers x)) n (thread_hands n) (carrier_hands n)
      (none_hands n)

  pub boot_shown : ShowsBoard script (booted script carriers) (boot_board script carriers)
  boot_shown = record {
    whole = let s = booted_sized script carriers in record { words = s.words; slots = s.slots; serials = s.serials };
    shows = record {
      size = refl;
      seen = seen_shown;
      serials = λ n. sym (serial_is n);
      owners = owners_shown;
      places = places_shown;
      contexts = contexts_shown;
      goods = record { homes = homes_shown; hands = hands_shown };
    };
  }

  -- WHAT THE FIRST BOARD IS

  pub boot_is : (n : ℕ) → Booted (programs_of script) (boot_board script carriers) n
  boot_is n = by_kind (Booted (programs_of script) (boot_board script carriers)) n
      (λ t. has_thread_at n t)
      (λ f k. has_carrier (ap is_dead (old_state n f)) (carrier_at_start n f k))
      (λ f g. has_none (ap is_dead (old_state n f)) (nowhere_at_start n f g))
    where
      has_thread_at : (n : ℕ) → has_thread script n ≡ true → Booted (programs_of script) (boot_board script carriers) n
      has_thread_at n t = booted_thread (thread_line script n).program (thread_line script n).priority (record {
        word = thread_state n t;
        last = refl;
        told = refl;
        position = refl;
        context =
            λ d. record { serial = 0; own = thread_state n t d; position = boot_position script n; at = thread_at_start n t d };
      })

  pub boot_free : (l : Lock) → owner_of (boot_board script carriers) l ≡ None
  boot_free (lock.Thread n) = refl
  boot_free lock.Table = refl
  boot_free lock.Ready = refl

  abbrev Numbers : ThreadNumbers
  Numbers = boot_numbers script

  size_is : length Numbers.versions ≡ script.table
  size_is =
      length-map (range_with_len 0 script.table) (λ number. (boot_state script number).version)
      ∙ length-range_with_len 0 script.table

  version_is : (n : ℕ) → version_at Numbers n ≡ (boot_state script n).version
  version_is n = elim (cases_lt n script.table) [
    | inl l ↦ get_or-map-range_with_len (λ number. (boot_state script number).version) 0 script.table n n 0 l (omega arith)
    | inr g ↦
        get_or_past Numbers.versions n 0 (subst (λ x. x ≤ n) (sym size_is) g)
        ∙ ap (λ (w : StateWord). w.version) (sym (dead_state n g))
  ]

  alive_is : (n : ℕ) → not (is_dead (boot_state script n)) ≡ has_thread script n
  alive_is n = elim (cases_Bool (has_thread script n)) [
    | inl t ↦ ap (λ (w : StateWord). not (is_dead w)) (thread_state n t) ∙ sym t
    | inr f ↦ ap (λ (w : StateWord). not (is_dead w)) (old_state n f) ∙ sym f
  ]

  present_is : (n : ℕ) → is_present Numbers n ≡ not (is_dead (boot_state script n))
  present_is n = elim (cases_lt n script.table) [
    | inl l ↦ get_or-map-range_with_len (has_thread script) 0 script.table n n false l (omega arith) ∙ sym (alive_is n)
    | inr g ↦
        get_or_past Numbers.present n false (subst (λ x. x ≤ n)
        (sym (length-map (range_with_len 0 script.table) (has_thread script) ∙ length-range_with_len 0 script.table)) g)
        ∙ sym (no_thread n g) ∙ sym (alive_is n)
  ]

  none_dead : (n : ℕ) → is_dead (boot_state script n) ≡ true → has_thread script n ≡ false
  none_dead n d = sym (alive_is n) ∙ ap not d

  no_carrier_below : (n : ℕ) → n < script.table → is_carriers script carriers n ≡ false
  no_carrier_below n l = rw (lt-ltb n script.table l) refl

  pub boot_numbers_agree : NumbersAgree (boot_seen script) (boot_numbers script) (boot_context_at script carriers)
  boot_numbers_agree = record {
    whole =
        length-map (range_with_len 0 script.table) (has_thread script)
        ∙ sym (length-map (range_with_len 0 script.table) (λ number. (boot_state script number).version));
    spelled =
        λ n d. old_state n (none_dead n d) ∙ ap dead_word (sym (ap (λ (w : StateWord). w.version) (old_state n (none_dead n d))));
    version = version_is;
    present = present_is;
    vacant = λ n l d. nowhere_at_start n (none_dead n d) (no_carrier_below n (subst (λ x. n < x) size_is l));
  }
