-- What stands where in the world in which a run begins.
use Rattle.std.proofs.Common.{◌≡◌, ℕ, ◌+◌, ◌*◌, ◌<◌, List, [], ◌∷◌, length, get_or, take, refl, sym, ap, ◌∙◌, arith}
use Rattle.std.specs.List.{flat_map, range_with_len, sum_by}
use Rattle.std.proofs.lemmas.List.{get_or-map, length-map, length-replicate, length-take}
use Rattle.std.proofs.lemmas.List.Concat.{get_or-flat_map, length-flat_map}
use Rattle.std.proofs.lemmas.List.Sums.{sum_by-cons}
use Rattle.std.proofs.lemmas.List.FromFn.{get_or-range_with_len, length-range_with_len}
use Rattle.k_ids.specs.declared.lock_word.LockWord.TheVariants.{Free}
use Rattle.k_ids.specs.ContextWords.{context_bits}
use Rattle.k_ids.specs.LockWords.{lock_bits}
use Rattle.k_ids.specs.StateWords.{state_bits}
use Rattle.k_locks.specs.declared.locks.Lock.{Lock}
use Rattle.k_locks.specs.declared.locks.Lock.TheVariants as lock
use Rattle.k_locks.specs.declared.locks.WordName.TheVariants as word
use Rattle.k_locks.specs.Places.{IsLock, home_of, lock_number, slot_of}
use Rattle.k_script.specs.Script.{Script}
use Rattle.k_carrier.specs.Seen.{new_carrier}
use Rattle.k_world.specs.Boot.{boot_context, boot_home, boot_resting, boot_slots, boot_state, boot_words, booted, places}
use Rattle.k_world.specs.Frames.{IsBootSized}
use Rattle.k_world.specs.Worlds.{Away, carrier_at, slot_at, word_at}

-- pieces of one length, put together
sum_constant : (c : ℕ) (xs : List ℕ) → sum_by (λ x. c) xs ≡ c * length xs
sum_constant c [] = omega arith
sum_constant c (x ∷ xs) = omega (arith, sum_by-cons (λ (y : ℕ). c) x xs, sum_constant c xs)

pieces_size : {X : Type 0} (f : ℕ → List X) (c : ℕ) → ((n : ℕ) → length (f n) ≡ c) → (xs : List ℕ) → length (flat_map f xs) ≡ c * length xs
pieces_size f c e [] = omega arith
pieces_size f c e (x ∷ xs) = length-flat_map f (x ∷ xs) ∙ (sizes (x ∷ xs) ∙ sum_constant c (x ∷ xs))
  where
    sizes : (ys : List ℕ) → sum_by (λ y. length (f y)) ys ≡ sum_by (λ y. c) ys
    sizes [] = refl
    sizes (y ∷ ys) = omega (arith, e y, sizes ys, sum_by-cons (λ (z : ℕ). length (f z)) y ys, sum_by-cons (λ (z : ℕ). c) y ys)

piece_at : {X : Type 0} (f : ℕ → List X) (c : ℕ) → ((n : ℕ) → length (f n) ≡ c) → (m n j : ℕ) (d : X) → n < m → j < c → get_or (flat_map f (range_with_len 0 m)) (c * n + j) d ≡ get_or (f n) j d
piece_at f c e m n j d l k =
    let before : length (flat_map f (take n (range_with_len 0 m))) ≡ c * n = pieces_size f c e (take n (range_with_len 0 m)) ∙ ap (λ i. c * i) (length-take n (range_with_len 0 m) ∙ omega (arith, l, length-range_with_len 0 m)) in
    let here : get_or (range_with_len 0 m) n 0 ≡ n = get_or-range_with_len 0 m n 0 l ∙ omega arith in
    ap (λ i. get_or (flat_map f (range_with_len 0 m)) (i + j) d) (sym before)
    ∙ (get_or-flat_map f (range_with_len 0 m) n j 0 d (omega (arith, l, length-range_with_len 0 m)) (omega (arith, k, e (get_or (range_with_len 0 m) n 0)))
    ∙ ap (λ i. get_or (f i) j d) here)

-- WORDS

boot_word_at : (script : Script) (carriers n j : ℕ) → n < places → j < 4 → get_or (booted script carriers).words (4 * n + j) 0 ≡ get_or (boot_words script carriers n) j 0
unfolding booted
boot_word_at script carriers n j l k = piece_at (boot_words script carriers) 4 (λ i. refl) places n j 0 l k

at_first : (script : Script) (carriers n : ℕ) → get_or (booted script carriers).words (4 * n) 0 ≡ get_or (booted script carriers).words (4 * n + 0) 0
at_first script carriers n = ap (λ i. get_or (booted script carriers).words i 0) (omega arith)

pub booted_state : (script : Script) (carriers n : ℕ) → n < 64 → word_at (booted script carriers) (word.State n) ≡ state_bits (boot_state script n)
booted_state script carriers n l = at_first script carriers n ∙ boot_word_at script carriers n 0 (omega (arith, l)) (omega arith)

pub booted_mail : (script : Script) (carriers n : ℕ) → n < 64 → word_at (booted script carriers) (word.Mail n) ≡ 0
booted_mail script carriers n l = boot_word_at script carriers n 1 (omega (arith, l)) (omega arith)

lock_below : (l : Lock) → IsLock l → lock_number l < places
lock_below (lock.Thread n) i = omega (arith, i)
lock_below lock.Table i = omega arith
lock_below lock.Ready i = omega arith

pub booted_lock : (script : Script) (carriers : ℕ) (l : Lock) → IsLock l → word_at (booted script carriers) (word.Lock l) ≡ lock_bits Free
booted_lock script carriers l i = boot_word_at script carriers (lock_number l) 2 (lock_below l i) (omega arith)

pub booted_context : (script : Script) (carriers n : ℕ) → n < 72 → word_at (booted script carriers) (word.Context n) ≡ context_bits (boot_context script carriers n)
booted_context script carriers n l = boot_word_at script carriers n 3 (omega (arith, l)) (omega arith)

-- SLOTS

boot_slot_at : (script : Script) (carriers n j : ℕ) → n < places → j < 2 → get_or (booted script carriers).slots (2 * n + j) Away ≡ get_or (boot_slots script carriers n) j Away
unfolding booted
boot_slot_at script carriers n j l k = piece_at (boot_slots script carriers) 2 (λ i. refl) places n j Away l k

pub booted_home : (script : Script) (carriers : ℕ) (l : Lock) → IsLock l → slot_at (booted script carriers) (home_of l) ≡ boot_home script (lock_number l)
booted_home script carriers l i = ap (λ p. get_or (booted script carriers).slots p Away) (omega arith) ∙ boot_slot_at script carriers (lock_number l) 0 (lock_below l i) (omega arith)

pub booted_slot : (script : Script) (carriers n : ℕ) → n < 72 → slot_at (booted script carriers) (slot_of n) ≡ boot_resting script carriers n
booted_slot script carriers n l = boot_slot_at script carriers n 1 (omega (arith, l)) (omega arith)

-- CARRIERS, AND LENGTHS

pub booted_carrier : (script : Script) (carriers c : ℕ) → c < carriers → carrier_at (booted script carriers) c ≡ new_carrier c script.table
unfolding booted
booted_carrier script carriers c l =
    get_or-map (λ i. new_carrier i script.table) (range_with_len 0 carriers) c 0 _ (omega (arith, l, length-range_with_len 0 carriers))
    ∙ ap (λ i. new_carrier i script.table) (get_or-range_with_len 0 carriers c 0 l ∙ omega arith)

pub booted_sized : (script : Script) (carriers : ℕ) → IsBootSized script carriers (booted script carriers)
unfolding booted
booted_sized script carriers = record {
  words = pieces_size (boot_words script carriers) 4 (λ n. refl) (range_with_len 0 places) ∙ omega (arith, length-range_with_len 0 places);
  slots = pieces_size (boot_slots script carriers) 2 (λ n. refl) (range_with_len 0 places) ∙ omega (arith, length-range_with_len 0 places);
  carriers = length-map (range_with_len 0 carriers) _ ∙ length-range_with_len 0 carriers;
  serials = length-replicate script.table 0;
  unstarted = length-map (range_with_len 0 script.table) _ ∙ length-range_with_len 0 script.table;
  standing = length-replicate carriers _;
}
