-- The ready lists with which a run begins: the threads that wait for no start, one by one.
use Rattle.std.proofs.Common.{◌≡◌, ◌≢◌, ℕ, zero, suc, ◌+◌, ◌<◌, ◌≤◌, ◌==◌, Bool, true, false, cond, List, []}
use Rattle.std.proofs.Common.{◌∷◌, ◌++◌, length, map, refl, sym, subst, ap, ◌∙◌, inl, inr, arith}
use Rattle.std.specs.List.{filter, range_with_len, slice_set}
use Rattle.std.proofs.lemmas.Bool.{cases_Bool, cases_eq}
use Rattle.std.proofs.lemmas.Bool.Decides.{nat_tests}
use Rattle.std.proofs.lemmas.List.{append-nil, get_or-set_other, get_or-set_same, length-set, map-append}
use Rattle.std.proofs.lemmas.List.Elements.{All-from_recursion}
use Rattle.std.proofs.lemmas.List.FromFn.{fill_by_all}
use Rattle.k_ids.specs.declared.threads.ThreadId.{ThreadId}
use Rattle.k_ready.specs.Lists.{IsInNone, Ready, list_of, stands, with_list}
use Rattle.k_script.specs.Limits.{IsScript, IsThread}
use Rattle.k_script.specs.Script.{Script}
use Rattle.k_switch.specs.Switches.{first_of_number}
use Rattle.k_world.specs.Boot.{boot_list, boot_ready, has_start, is_ready, thread_line}
use Rattle.k_core.proofs.Boots.{passing_more}

-- the threads of a priority among the first ones
abbrev pub first_ready : Script → ℕ → ℕ → List ThreadId
first_ready script count priority =
    map first_of_number (filter (is_ready script priority) (range_with_len 0 count))

-- The lists have those of the first threads that wait for no start.
pub record HasReady (script : Script) (count : ℕ) (r : Ready) : Type 0 where
  pub size : length r.lists ≡ 64
  pub lists : (priority : ℕ) → list_of r.lists priority ≡ first_ready script count priority
  pub running : r.running ≡ 0

more_of : (script : Script) (count priority : ℕ) → first_ready script (count + 1) priority ≡ first_ready
    script count priority ++ map first_of_number (filter (is_ready script priority) (count ∷ []))
more_of script count priority =
    ap (map first_of_number) (passing_more (is_ready script priority) count)
    ∙ map-append first_of_number (filter (is_ready script priority) (range_with_len 0 count))
    (filter (is_ready script priority) (count ∷ []))

-- one that isn't of this list
skipped : (script : Script) (count priority : ℕ) → is_ready script priority count ≡ false →
    first_ready script (count + 1) priority ≡ first_ready script count priority
skipped script count priority e = more_of script count priority
    ∙ (ap (λ b. first_ready script count priority ++ map first_of_number (cond b (count ∷ []) [])) e
    ∙ append-nil (first_ready script count priority))

-- one that is
added : (script : Script) (count priority : ℕ) → is_ready script priority count ≡ true →
    first_ready script (count + 1) priority ≡ first_ready script count priority ++ first_of_number count ∷ []
added script count priority e = more_of script count priority
    ∙ ap (λ b. first_ready script count priority ++ map first_of_number (cond b (count ∷ []) [])) e

-- a thread that waits for its start
pub ready_skipped : (script : Script) (count : ℕ) (r : Ready) → has_start script count ≡ true →
    HasReady script count r → HasReady script (count + 1) r
ready_skipped script count r e h = record {
  size = h.size;
  lists = λ priority. h.lists priority ∙ sym (skipped script count priority (rw e refl));
  running = h.running;
}

not_of : (script : Script) (count priority : ℕ) → priority ≢ (thread_line script count).priority →
    is_ready script priority count ≡ false
not_of script count priority other = grind (arith, nat_tests)

is_of : (script : Script) (count : ℕ) → has_start script count ≡ false →
    is_ready script (thread_line script count).priority count ≡ true
is_of script count e = grind (arith, nat_tests)

-- a list that has one thread more, by its priority
pushed_at : (script : Script) (count : ℕ) (r : Ready) (p : ℕ) (more : List ThreadId) →
    p ≡ (thread_line script count).priority → more ≡ list_of r.lists p ++ first_of_number count ∷ [] →
    has_start script count ≡ false → p < 64 → HasReady script count r → (priority : ℕ) →
    list_of (slice_set r.lists p more) priority ≡ first_ready script (count + 1) priority
pushed_at script count r p more ep em e small h priority = elim (cases_eq priority p) [
  | inl same ↦
      let ready : is_ready script p count ≡ true = subst (λ q. is_ready script q count ≡ true) (sym ep)
      (is_of script count e) in
      let here : list_of (slice_set r.lists p more) p ≡ first_ready script (count + 1) p =
      get_or-set_same r.lists p more [] (omega (arith, h.size, small))
      ∙ (em ∙ (ap (λ es. es ++ first_of_number count ∷ []) (h.lists p)
      ∙ sym (added script count p ready))) in
      subst (λ q. list_of (slice_set r.lists p more) q ≡ first_ready script (count + 1) q) (sym same) here
  | inr other ↦
      let skips : is_ready script priority count ≡ false =
      not_of script count priority (λ x. other (x ∙ sym ep)) in
      get_or-set_other r.lists p priority more [] other
      ∙ (h.lists priority ∙ sym (skipped script count priority skips))
]

-- a thread that is ready
pub ready_pushed : (script : Script) (count : ℕ) (r : Ready) (p : ℕ) →
    p ≡ (thread_line script count).priority → has_start script count ≡ false → p < 64 →
    HasReady script count r → HasReady script (count + 1)
    (with_list r p (list_of r.lists p ++ first_of_number count ∷ []))
ready_pushed script count r p ep e small h = record {
  size = length-set r.lists p (list_of r.lists p ++ first_of_number count ∷ []) ∙ h.size;
  lists = pushed_at script count r p (list_of r.lists p ++ first_of_number count ∷ []) ep refl e small h;
  running = h.running;
}

pub priority_small : (script : Script) (n : ℕ) → IsScript script → n < length script.threads →
    (thread_line script n).priority < 64
priority_small script n h l =
    let line : IsThread (length script.programs) (thread_line script n) =
    All-from_recursion (IsThread (length script.programs)) script.threads h.threads n
    (record { priority = 0; program = 0 }) l in
    omega (arith, line.priority)

-- so far no list has a later number
stands_below : (n : ℕ) (p : ℕ → Bool) (low count : ℕ) → low + count ≤ n →
    stands n (map first_of_number (filter p (range_with_len low count))) ≡ false
stands_below n p low zero l = refl
stands_below n p low (suc count) l = elim (cases_Bool (p low)) [
  | inl y ↦ rw y (rw (ne low n (omega (arith, l))) (stands_below n p (low + 1) count (omega (arith, l))))
  | inr f ↦ rw f (stands_below n p (low + 1) count (omega (arith, l)))
]
  where
    ne : (a b : ℕ) → a < b → (a == b) ≡ false
    ne a b h = grind (arith, nat_tests)

pub is_new : (script : Script) (count : ℕ) (r : Ready) → HasReady script count r → IsInNone count r.lists
is_new script count r h = λ priority. ap (stands count) (h.lists priority)
    ∙ stands_below count (is_ready script priority) 0 count (omega arith)

-- all threads
pub ready_all : (script : Script) (r : Ready) → HasReady script (length script.threads) r →
    r ≡ boot_ready script
ready_all script r h =
    let lists : r.lists ≡ map (boot_list script) (range_with_len 0 64) =
    fill_by_all (boot_list script) r.lists 64 [] h.size (λ k l. h.lists k) in
    let running : r.running ≡ 0 = h.running in
    λ i. record { lists = lists i; running = running i }
