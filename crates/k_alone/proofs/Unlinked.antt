-- A victim's entry leaves a queue, and its id the ready lists.
use Rattle.std.proofs.Common.{◌≡◌, ◌≢◌, ℕ, Bool, true, false, not, ◌&&◌, eqb, List, [], ◌∷◌, map, length, refl, sym, ap, ◌∙◌, arith, inl, inr, ◌⊎◌}
use Rattle.std.specs.Prelude.{if◌then◌else◌}
use Rattle.std.specs.List.{AllByRecursion, IsDistinct, filter}
use Rattle.std.proofs.lemmas.Bool.{false≢true, eqb-true, eqb-false, eq-eqb, ne_eqb, cases_Bool, cases_lt, cond_both, and_parts, or_cases, or_left, or_right, or_parts}
use Rattle.std.proofs.lemmas.List.{length-map, get_or-map, get_or_past}
use Rattle.std.proofs.lemmas.Map.Keys.{IsDistinct-head, IsDistinct-tail}
use Rattle.k_ids.specs.declared.threads.ThreadId.{ThreadId}
use Rattle.k_ids.specs.StateWords.{IsPartner}
use Rattle.k_senders.specs.declared.entries.SenderEntry.{SenderEntry}
use Rattle.k_senders.specs.Entries.{number_of}
use Rattle.k_senders.specs.Queue.{Queue, without_thread, stands}
use Rattle.k_ready.specs.Lists.{IsOnceEach, has_thread, list_of}
use Rattle.k_ready.specs.Lists.{stands as listed, without as cut}
use Rattle.k_links.proofs.Removed.{once_without}
use Rattle.k_senders.specs.Entries.{sender_of}
use Rattle.k_threads.specs.Goods.{unlinked, without_it}
use Rattle.k_senders.specs.Entries.{who_of}
use Rattle.k_senders.proofs.EntrySpelled.{sender_tested}
use Rattle.k_model.specs.State.{Waiting, same_id}
use Rattle.k_model.specs.Sound.{has_entry, numbers}
use Rattle.k_lists.proofs.All.{all_of_map, all_weaker}
use Rattle.k_shown.specs.Memory.{waiting, waiting_of}
use Rattle.k_senders.specs.Entries.{IsEntry}

-- whether an entry is that of the thread
is_who : (e : SenderEntry) (id : ThreadId) → IsEntry e → IsPartner id → eqb e.who (who_of id) ≡ same_id (sender_of e) id
is_who e id small p = sender_tested e id small p.number p.version

-- Without an entry of the number nothing is filtered.
filter_none : (id : ThreadId) (ws : List Waiting) → AllByRecursion (λ w. w.0.number ≢ id.number) ws → filter (λ w. not (same_id w.0 id)) ws ≡ ws
filter_none id [] h = refl
filter_none id (w ∷ ws) h =
    let no_one : same_id w.0 id ≡ false = rw (ne_eqb w.0.number id.number h.0) refl in
    rw no_one (ap (λ (us : List Waiting). w ∷ us) (filter_none id ws h.1))

without_filtered : (id : ThreadId) (es : List SenderEntry) → AllByRecursion IsEntry es → IsPartner id → IsDistinct eqb (numbers (map waiting_of es)) → map waiting_of (without_thread (who_of id) es) ≡ filter (λ w. not (same_id w.0 id)) (map waiting_of es)
without_filtered id [] small p d = refl
without_filtered id (e ∷ es) small p d =
    let test = is_who e id small.0 p in
    let rec = without_filtered id es small.1 p (IsDistinct-tail eqb (number_of e) (numbers (map waiting_of es)) d) in
    elim (cases_Bool (same_id (sender_of e) id)) [
      | inl y ↦ let head = all_of_map (λ n. eqb (number_of e) n ≡ false) (λ (w : Waiting). w.0.number) (map waiting_of es) (IsDistinct-head eqb (number_of e) (numbers (map waiting_of es)) d) in
          let n = eqb-true (number_of e) id.number (and_parts _ _ y).0 in
          let apart = all_weaker (λ (w : Waiting). eqb (number_of e) w.0.number ≡ false) (λ (w : Waiting). w.0.number ≢ id.number) (λ w f q. eqb-false (number_of e) w.0.number f (n ∙ sym q)) (map waiting_of es) head in
          rw (test ∙ y) (rw y (sym (filter_none id (map waiting_of es) apart)))
      | inr y ↦ rw (test ∙ y) (rw y (ap (λ (us : List Waiting). waiting_of e ∷ us) rec))
    ]

pub unlinked_waiting : (id : ThreadId) (q : Queue) → AllByRecursion IsEntry q.entries → IsPartner id → IsDistinct eqb (numbers (waiting q)) → waiting (unlinked id q) ≡ filter (λ w. not (same_id w.0 id)) (waiting q)
unlinked_waiting id q small p d = without_filtered id q.entries small p d

pub unlinked_entries : (id : ThreadId) (es : List SenderEntry) → AllByRecursion IsEntry es → AllByRecursion IsEntry (without_thread (who_of id) es)
unlinked_entries id [] h = tt
unlinked_entries id (e ∷ es) h = cond_both (eqb e.who (who_of id)) _ _ (AllByRecursion IsEntry) (λ _. h.1) (λ _. (h.0, unlinked_entries id es h.1))

-- a list has an entry of the thread, so the queue has one of its number
pub has_stands : (id : ThreadId) (es : List SenderEntry) → has_entry (map waiting_of es) id ≡ true → stands id.number es ≡ true
has_stands id [] h = h
has_stands id (e ∷ es) h = elim (or_cases (same_id (sender_of e) id) (has_entry (map waiting_of es) id) h) [
  | inl y ↦ or_left (eqb (number_of e) id.number) (stands id.number es) (and_parts (eqb (number_of e) id.number) (eqb (sender_of e).version id.version) y).0
  | inr y ↦ or_right (eqb (number_of e) id.number) (stands id.number es) (has_stands id es y)
]

-- READY LISTS

-- What stands in a list without the thread isn't the thread.
cut_all : (P : ThreadId → Type 0) (V : Type 0) (id : ThreadId) (es : List ThreadId) → AllByRecursion (λ i. P i ⊎ (V × (i ≡ id))) es → listed id.number es ≡ false → AllByRecursion P es
cut_all P V id [] h none = tt
cut_all P V id (e ∷ es) h none =
    let parts = or_parts _ _ none in
    (elim h.0 [ inl y ↦ y | inr y ↦ absurd (eqb-false e.number id.number parts.0 (ap (λ (i : ThreadId). i.number) y.1)) ], cut_all P V id es h.1 parts.1)

not_listed : (id : ThreadId) (es : List ThreadId) → has_thread id es ≡ false → (V : Type 0) (P : ThreadId → Type 0) → AllByRecursion (λ i. P i ⊎ (V × (i ≡ id))) es → AllByRecursion P es
not_listed id [] none V P h = tt
not_listed id (e ∷ es) none V P h =
    let parts = or_parts _ _ none in (
      elim h.0 [
        | inl y ↦ y
        | inr y ↦ let it : (eqb e.number id.number && eqb e.version id.version) ≡ true = rw (eq-eqb e.number id.number (ap (λ (i : ThreadId). i.number) y.1), eq-eqb e.version id.version (ap (λ (i : ThreadId). i.version) y.1)) refl in absurd (false≢true (sym parts.0 ∙ it))
      ],
      not_listed id es parts.1 V P h.1,
    )

cut_listed : (id : ThreadId) (es : List ThreadId) → IsOnceEach es → (V : Type 0) (P : ThreadId → Type 0) → AllByRecursion (λ i. P i ⊎ (V × (i ≡ id))) es → AllByRecursion P (cut id.number es)
cut_listed id [] once V P h = tt
cut_listed id (e ∷ es) once V P h = elim (cases_Bool (eqb e.number id.number)) [
  | inl y ↦ rw y (cut_all P V id es h.1 (sym (ap (λ (n : ℕ). listed n es) (eqb-true e.number id.number y)) ∙ once.0))
  | inr y ↦ rw y (elim h.0 [ inl z ↦ z | inr z ↦ absurd (eqb-false e.number id.number y (ap (λ (i : ThreadId). i.number) z.1)) ], cut_listed id es once.1 V P h.1)
]

pub without_it_all : (id : ThreadId) (es : List ThreadId) → IsOnceEach es → (V : Type 0) (P : ThreadId → Type 0) → AllByRecursion (λ i. P i ⊎ (V × (i ≡ id))) es → AllByRecursion P (without_it id es)
without_it_all id es once V P h = cond_both' (has_thread id es) refl
  where
    cond_both' : (b : Bool) → has_thread id es ≡ b → AllByRecursion P (if b then cut id.number es else es)
    cond_both' true e = cut_listed id es once V P h
    cond_both' false e = not_listed id es e V P h

pub without_it_once : (id : ThreadId) (es : List ThreadId) → IsOnceEach es → IsOnceEach (without_it id es)
without_it_once id es once = cond_both (has_thread id es) _ _ IsOnceEach (λ _. once_without (λ (i : ThreadId). i.number) id.number es once) (λ _. once)

pub listed_map : (id : ThreadId) (lists : List (List ThreadId)) (p : ℕ) → list_of (map (without_it id) lists) p ≡ without_it id (list_of lists p)
listed_map id lists p = elim (cases_lt p (length lists)) [
  | inl l ↦ get_or-map (without_it id) lists p [] [] l
  | inr l ↦ get_or_past (map (without_it id) lists) p [] (omega (arith, l, length-map lists (without_it id))) ∙ sym (ap (without_it id) (get_or_past lists p [] l))
]
