-- The scripts of the generator are within the limits.
use Rattle.std.proofs.Common.{◌≡◌, ℕ, zero, suc, ◌+◌, ◌*◌, ◌<◌, ◌≤◌, Bool, true, false, not, ◌&&◌, ◌==◌, List, [], ◌∷◌, ◌++◌, map, get_or, replicate, refl, sym, ap, ◌∙◌, subst, arith}
use Rattle.std.specs.List.{range_with_len, AllByRecursion, IsDistinct, list_all}
use Rattle.std.specs.Str.{bytes_eq}
use Rattle.std.proofs.lemmas.List.FromFn.{length-map-range_with_len, get_or-map-range_with_len}
use Rattle.k_lists.proofs.All.{all_append}
use Rattle.k_script.specs.declared.lines.ThreadLine.{ThreadLine}
use Rattle.k_script.specs.declared.lines.AtLine.{AtLine}
use Rattle.k_script.specs.declared.lines.Item.{Item}
use Rattle.k_script.specs.declared.generator.Client.{Client}
use Rattle.k_script.specs.Script.{Program, nothing}
use Rattle.k_script.specs.Limits.{IsProgram, IsThread, IsAtLine, IsAtLines, IsRising, IsTurns, IsScript, started, is_name}
use Rattle.k_script.specs.Big.{server, client, client_of, client_name, client_operations, client_thread, server_thread, slice_line, slice_step, drawn, big_of}
use Rattle.k_script.proofs.Capped.{zero_at}
use Rattle.k_script.proofs.Draws.{all_range, slice_more, slice_none}

-- A draw is below its bound.

pub record IsClient (c : Client) : Type 0 where
  pub server : c.server < 16
  pub low : c.low ≤ 4294967295
  pub high : c.high ≤ 4294967295
  pub some : 1 ≤ c.work
  pub work : c.work ≤ 4294967295

client_within : (number draws : ℕ) → IsClient (client_of number draws)
client_within number draws = record { server = omega arith; low = omega arith; high = omega arith; some = omega arith; work = omega arith }

-- PROGRAMS

server_is : IsProgram 16 0 server
server_is = record {
  name = refl;
  short = omega arith;
  nested = refl;
  operations = (tt, ((omega arith, omega arith), ((tt, tt), (tt, tt))));
}

client_is : (before index : ℕ) (c : Client) → is_name (client_name index) ≡ true → IsClient c → IsProgram 16 before (record { name = client_name index; operations = client_operations c })
client_is before index c named h = record {
  name = named;
  short = omega arith;
  nested = refl;
  operations = ((omega arith, omega arith), ((h.server, h.low, h.high), ((h.some, h.work), (tt, tt))));
}

named_all : (index : ℕ) → index < 8 → is_name (client_name index) ≡ true
named_all zero h = refl
named_all (suc zero) h = refl
named_all (suc (suc zero)) h = refl
named_all (suc (suc (suc zero))) h = refl
named_all (suc (suc (suc (suc zero)))) h = refl
named_all (suc (suc (suc (suc (suc zero))))) h = refl
named_all (suc (suc (suc (suc (suc (suc zero)))))) h = refl
named_all (suc (suc (suc (suc (suc (suc (suc zero))))))) h = refl
named_all (suc (suc (suc (suc (suc (suc (suc (suc index)))))))) h = absurd (omega arith)

programs_are : (number k : ℕ) → k < 9 → IsProgram 16 k (get_or (server ∷ map (client number) (range_with_len 0 8)) k nothing)
programs_are number zero h = server_is
programs_are number (suc k) h =
    let e : get_or (map (client number) (range_with_len 0 8)) k nothing ≡ client number k = get_or-map-range_with_len (client number) 0 8 k k nothing (omega arith) (omega arith) in
    subst (IsProgram 16 (suc k)) (sym e) (client_is (suc k) k (client_of number (4 * k)) (named_all k (omega arith)) (client_within number (4 * k)))

-- NAMES

-- no name is equal to one after it
abbrev pub differ : List (List ℕ) → Bool
differ [] = true
differ (n ∷ ns) = list_all (λ m. not (bytes_eq n m)) ns && differ ns

both : (a b : Bool) → (a && b) ≡ true → (a ≡ true) × (b ≡ true)
both true true h = (refl, refl)
both true false h = absurd cc
both false b h = absurd cc

unequal : (n : List ℕ) (ns : List (List ℕ)) → list_all (λ m. not (bytes_eq n m)) ns ≡ true → AllByRecursion (λ m. bytes_eq n m ≡ false) ns
unequal n [] h = tt
unequal n (m ∷ ns) h =
    let b = both (not (bytes_eq n m)) (list_all (λ k. not (bytes_eq n k)) ns) h in
    (go (bytes_eq n m) b.0, unequal n ns b.1)
  where
    go : (a : Bool) → not a ≡ true → a ≡ false
    go true h = absurd cc
    go false h = refl

pub distinct_of : (ns : List (List ℕ)) → differ ns ≡ true → IsDistinct bytes_eq ns
unfolding IsDistinct
distinct_of [] h = tt
distinct_of (n ∷ ns) h = let b = both (list_all (λ m. not (bytes_eq n m)) ns) (differ ns) h in (unequal n ns b.0, distinct_of ns b.1)

-- THE SCHEDULE

rising_range : (number a n : ℕ) → IsRising (map (slice_line number) (range_with_len a n))
rising_range number a zero = tt
rising_range number a (suc zero) = tt
rising_range number a (suc (suc n)) =
    let e : slice_step number ((a + 1) + 1) ≡ slice_step number (a + 1) + (1 + drawn number (40 + (a + 1)) 256) = slice_more number (a + 1) in
    (omega (arith, e), rising_range number (a + 1) (suc n))

none_started : (number a n : ℕ) → started (map (slice_line number) (range_with_len a n)) ≡ []
none_started number a zero = refl
none_started number a (suc n) = none_started number (a + 1) n

low_step : (number k : ℕ) → slice_step number k ≤ 256 * k
low_step number zero = omega (arith, slice_none number)
low_step number (suc k) =
    let e : k + 1 ≡ suc k = omega arith in
    let step : slice_step number (suc k) ≡ slice_step number k + (1 + drawn number (40 + k) 256) = ap (slice_step number) (sym e) ∙ slice_more number k in
    omega (arith, step, low_step number k)

pub none_twice : IsDistinct {K = ℕ} (λ a b. a == b) []
unfolding IsDistinct
none_twice = tt

lines_are : (number : ℕ) → IsAtLines 1 12 (map (slice_line number) (range_with_len 0 200))
lines_are number = record {
  few = omega (arith, length-map-range_with_len (slice_line number) 0 200);
  events = all_range (IsAtLine 1 12) (slice_line number) 0 200 (λ i l m. record { step = omega (arith, low_step number (i + 1)); event = omega arith });
  rising = rising_range number 0 200;
  once = subst (IsDistinct (λ a b. a == b)) (sym (none_started number 0 200)) none_twice;
}

pub no_turns : (turns : List Item) → turns ≡ [] → IsTurns 1 turns
no_turns turns e = subst (IsTurns 1) (sym e) (record { few = omega arith; items = tt; bounded = omega arith; several = λ h. absurd (omega arith) })

-- THREADS

abbrev threads_of : ℕ → List ThreadLine
threads_of number = map (client_thread number) (range_with_len 0 8) ++ map server_thread (range_with_len 0 4)

threads_are : (number : ℕ) → AllByRecursion (IsThread 9) (threads_of number)
threads_are number = all_append (IsThread 9) (map (client_thread number) (range_with_len 0 8)) (map server_thread (range_with_len 0 4))
    (all_range (IsThread 9) (client_thread number) 0 8 (λ i l m. record { priority = omega arith; program = omega arith }))
    (all_range (IsThread 9) server_thread 0 4 (λ i l m. record { priority = omega arith; program = omega arith }))

pub big_within : (number : ℕ) → IsScript (big_of number)
big_within number = record {
  version = (omega arith, omega arith);
  table = (omega arith, omega arith);
  carriers = (omega arith, omega arith);
  numbered = refl;
  aged = all_zero 16;
  fresh = λ k l. zero_at 16 k;
  few = omega arith;
  names = distinct_of _ refl;
  programs = λ k l. programs_are number k l;
  lines = (omega arith, omega arith);
  threads = threads_are number;
  at_lines = lines_are number;
  turns = no_turns [] refl;
}
  where
    all_zero : (n : ℕ) → AllByRecursion (λ v. v ≤ 1048575) (replicate n 0)
    all_zero zero = tt
    all_zero (suc n) = (omega arith, all_zero n)

-- the parts of such a script
pub big_parts : (number : ℕ) (programs : List Program) (threads : List ThreadLine) (lines : List AtLine) (turns : List Item) → programs ≡ server ∷ map (client number) (range_with_len 0 8) → threads ≡ threads_of number → lines ≡ map (slice_line number) (range_with_len 0 200) → turns ≡ [] → record { version = 1; table = 16; carriers = 1; show_steps = false; aged = replicate 16 0; programs = programs; threads = threads; at_lines = lines; turns = turns } ≡ big_of number
big_parts number programs threads lines turns p t l n = rw (p, t, l, n) refl
