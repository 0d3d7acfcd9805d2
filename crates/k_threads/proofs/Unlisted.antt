-- A thread that is taken out of the list in which it stands is taken out of all lists.
use Rattle.std.proofs.Common.{◌≡◌, ◌≢◌, ◌<◌, ℕ, true, false, List, [], ◌∷◌, length, map, get_or, set, length-set, get_or-set_same, get_or-set_other, refl, sym, ◌∙◌, ap, subst, inl, inr, arith}
use Rattle.std.proofs.lemmas.Bool.{cases_Bool, cases_eq}
use Rattle.std.proofs.lemmas.Grind.{common_steps}
use Rattle.std.proofs.lemmas.List.{ext_get_or, get_or-map, length-map}
use Rattle.k_ids.specs.declared.threads.ThreadId.{ThreadId}
use Rattle.k_ready.specs.Lists.{Ready, IsRemoved, has_thread, list_of, stands, without}
use Rattle.k_threads.specs.Goods.{unlisted, without_it}

pub thread_stands : (id : ThreadId) (es : List ThreadId) → has_thread id es ≡ true → stands id.number es ≡ true
thread_stands id [] h = grind arith
thread_stands id (e ∷ es) h = grind (arith, common_steps, thread_stands id es)

taken_out : (id : ThreadId) (es : List ThreadId) → has_thread id es ≡ true → without_it id es ≡ without id.number es
taken_out id es h = rw h refl

left_alone : (id : ThreadId) (es : List ThreadId) → has_thread id es ≡ false → without_it id es ≡ es
left_alone id es h = rw h refl

nowhere : (id : ThreadId) (lists : List (List ThreadId)) → ((p : ℕ) → has_thread id (list_of lists p) ≡ false) → map (without_it id) lists ≡ lists
nowhere id lists h = ext_get_or [] (map (without_it id) lists) lists (length-map lists (without_it id)) (λ i l.
    let inside : i < length lists = rw (sym (length-map lists (without_it id))) l in
    get_or-map (without_it id) lists i [] [] inside ∙ left_alone id (get_or lists i []) (h i))

somewhere : (id : ThreadId) (lists : List (List ThreadId)) (p : ℕ) → p < length lists → has_thread id (list_of lists p) ≡ true → ((q : ℕ) → q ≢ p → has_thread id (list_of lists q) ≡ false) → set lists p (without id.number (list_of lists p)) ≡ map (without_it id) lists
somewhere id lists p inside h others = ext_get_or [] (set lists p (without id.number (list_of lists p))) (map (without_it id) lists) (length-set lists p (without id.number (list_of lists p)) ∙ sym (length-map lists (without_it id))) (λ i l.
    let there : i < length lists = subst (λ (n : ℕ). i < n) (length-set lists p (without id.number (list_of lists p))) l in
    let mapped : get_or (map (without_it id) lists) i [] ≡ without_it id (get_or lists i []) = get_or-map (without_it id) lists i [] [] there in
    elim (cases_eq i p) [
      | inl e ↦ subst (λ (n : ℕ). get_or (set lists p (without id.number (list_of lists p))) n [] ≡ get_or (map (without_it id) lists) n []) (sym e) (get_or-set_same lists p (without id.number (list_of lists p)) [] inside ∙ sym (taken_out id (list_of lists p) h) ∙ sym (get_or-map (without_it id) lists p [] [] inside))
      | inr ne ↦ get_or-set_other lists p i (without id.number (list_of lists p)) [] ne ∙ sym (left_alone id (get_or lists i []) (others i ne)) ∙ sym mapped
    ])

pub one_unlisted : (id : ThreadId) (before after : Ready) (p : ℕ) → length before.lists ≡ 64 → ((n a b : ℕ) → stands n (list_of before.lists a) ≡ true → stands n (list_of before.lists b) ≡ true → a ≡ b) → IsRemoved before after id p → after ≡ unlisted id before
one_unlisted id before after p size one r =
    let inside : p < length before.lists = rw size r.inside in
    let others : (q : ℕ) → q ≢ p → has_thread id (list_of before.lists q) ≡ false = λ q ne. elim (cases_Bool (has_thread id (list_of before.lists q))) [
      | inl h ↦ absurd (ne (one id.number q p (thread_stands id _ h) (thread_stands id _ r.standing)))
      | inr h ↦ h
    ] in
    r.taken ∙ ap (λ (l : List (List ThreadId)). record before { lists = l }) (somewhere id before.lists p inside r.standing others)

pub none_unlisted : (id : ThreadId) (before : Ready) → ((p : ℕ) → has_thread id (list_of before.lists p) ≡ false) → before ≡ unlisted id before
none_unlisted id before h = ap (λ (l : List (List ThreadId)). record before { lists = l }) (sym (nowhere id before.lists h))
