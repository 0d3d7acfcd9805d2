-- The threads that a destroy frees, and the ready lists to which they come.
use Rattle.std.proofs.Common.{◌≡◌, ◌≢◌, ℕ, Bool, true, false, not, ◌&&◌, eqb, List, [], ◌∷◌, ◌++◌, map, refl, sym, ap, ◌∙◌, inl, inr}
use Rattle.std.proofs.lemmas.Bool.{false≢true, eqb-true, eq-eqb, ne_eqb, cases_Bool, or_parts}
use Rattle.std.proofs.lemmas.List.{append-nil}
use Rattle.std.proofs.lemmas.List.Elements.{filter-append}
use Rattle.std.specs.List.{AllByRecursion, filter}
use Rattle.k_ids.specs.declared.threads.ThreadId.{ThreadId}
use Rattle.k_ids.specs.declared.threads.Status.TheVariants as status
use Rattle.k_ids.specs.declared.calls.Reply.TheVariants as reply
use Rattle.k_ids.specs.declared.histories.ReplyLine.{ReplyLine}
use Rattle.k_ids.specs.declared.state_word.StateWord.{StateWord}
use Rattle.k_ready.specs.Lists.{IsOnceEach, has_thread, list_of}
use Rattle.k_ready.specs.Lists.{stands as listed, without as cut}
use Rattle.k_locks.specs.Shown.{shows}
use Rattle.k_threads.specs.Goods.{without_it}
use Rattle.k_threads.specs.Words.{freed_word, thread_at}
use Rattle.k_model.specs.State.{KernelState, same_id}
use Rattle.k_lists.proofs.All.{all_filter, all_map, all_weaker, filter_all}
use Rattle.k_model.proofs.Maps.{upd_same, upd_other}
use Rattle.k_shown.specs.Memory.{Memory, with_word}
use Rattle.k_shown.proofs.Kept.{pushed}
use Rattle.k_alone.proofs.Killing.{Half, Waits, not_caller, waits_same}
use Rattle.k_shown.proofs.Left.{pushed_list}

abbrev pub ids_of : List ReplyLine → List ThreadId
ids_of lines = map (λ line. line.id) lines

-- those that were off, of this priority
abbrev pub at_level : Memory → ℕ → List ThreadId → List ThreadId
at_level m p ids = filter (λ id. eqb (m.word id.number).priority p) (filter (λ id. not (m.word id.number).on) ids)

pub level_append : (m : Memory) (p : ℕ) (xs ys : List ThreadId) → at_level m p (xs ++ ys) ≡ at_level m p xs ++ at_level m p ys
level_append m p xs ys =
    let off : ThreadId → Bool = λ id. not (m.word id.number).on in
    let level : ThreadId → Bool = λ id. eqb (m.word id.number).priority p in
    ap (filter level) (filter-append off xs ys) ∙ filter-append level (filter off xs) (filter off ys)

-- the reply to a thread that waited for the victim, and its word
pub record IsGone (m : Memory) (who me : ThreadId) (m' : Memory) (line : ReplyLine) : Type 0 where
  pub reply : line.reply ≡ reply.Gone
  pub word : m'.word line.id.number ≡ freed_word (m.word line.id.number)
  pub other : same_id line.id me ≡ false
  pub apart : line.id.number ≢ who.number

-- in another memory, where who runs stays as it is
pub gone_later : (m : Memory) (who me : ThreadId) (m' m'' : Memory) → ((t : ℕ) → shows (m'.word t).state ≡ status.Run → m''.word t ≡ m'.word t) → (lines : List ReplyLine) → AllByRecursion (IsGone m who me m') lines → AllByRecursion (IsGone m who me m'') lines
gone_later m who me m' m'' stays lines all =
    all_weaker (IsGone m who me m') (IsGone m who me m'') (λ line g. record { reply = g.reply; word = stays line.id.number (ap (λ (w : StateWord). shows w.state) g.word) ∙ g.word; other = g.other; apart = g.apart }) lines all

module _ (m : Memory) (k : KernelState) (who me : ThreadId) (V : Type 0) (S R : ℕ → Type 0) (m' : Memory) (k' : KernelState) (h : Half m k who me V S R m' k') (n : ℕ) (w : Waits who (m'.word n)) (ne : n ≢ who.number) where
  abbrev freed_memory : Memory
  freed_memory = with_word m' n (freed_word (m'.word n))

  same : m'.word n ≡ m.word n
  same = waits_same m k who me V S R m' k' h n w ne

  -- who runs stays as it is
  pub freed_stays : (t : ℕ) → shows (m'.word t).state ≡ status.Run → freed_memory.word t ≡ m'.word t
  freed_stays t r = upd_other m'.word n (freed_word (m'.word n)) t (λ e. w.runs (ap (λ (j : ℕ). shows (m'.word j).state) (sym e) ∙ r))

  pub freed_gone : (serial : ℕ) → IsGone m who me freed_memory (record { id = thread_at n (m'.word n); serial = serial; reply = reply.Gone })
  freed_gone serial = record {
    reply = refl;
    word = upd_same m'.word n (freed_word (m'.word n)) ∙ ap freed_word same;
    other = rw (ne_eqb n me.number (λ e. not_caller m k who me V S R m' k' h n w ne (sym e))) refl;
    apart = ne;
  }

  -- It is in its list where it was on, and is put there where it was off.
  pub lists_on : (m'.word n).on ≡ true → (p : ℕ) → list_of m'.ready.lists p ≡ list_of m'.ready.lists p ++ at_level m p (thread_at n (m'.word n) ∷ [])
  lists_on was p =
      let on : (m.word n).on ≡ true = sym (ap (λ (x : StateWord). x.on) same) ∙ was in
      rw on (sym (append-nil (list_of m'.ready.lists p)))

  pub lists_off : (m'.word n).on ≡ false → (p : ℕ) → list_of (pushed freed_memory (thread_at n (m'.word n)) (m'.word n).priority).ready.lists p ≡ list_of m'.ready.lists p ++ at_level m p (thread_at n (m'.word n) ∷ [])
  lists_off was p =
      let off : (m.word n).on ≡ false = sym (ap (λ (x : StateWord). x.on) same) ∙ was in
      let level : (m.word n).priority ≡ (m'.word n).priority = sym (ap (λ (x : StateWord). x.priority) same) in
      rw off (rw level (pushed_list m'.ready.lists (thread_at n (m'.word n)) (m'.word n).priority p (h.words n).priority h.count))

-- THE VICTIM LEAVES THE LISTS

abbrev pub is_not : ℕ → ThreadId → Bool
is_not n id = not (eqb id.number n)

none_cut : (n : ℕ) (ids : List ThreadId) → listed n ids ≡ false → filter (is_not n) ids ≡ ids
none_cut n [] none = refl
none_cut n (id ∷ ids) none =
    let parts = or_parts (eqb id.number n) (listed n ids) none in
    rw parts.0 (ap (λ (xs : List ThreadId). id ∷ xs) (none_cut n ids parts.1))

cut_filter : (n : ℕ) (ids : List ThreadId) → IsOnceEach ids → cut n ids ≡ filter (is_not n) ids
cut_filter n [] once = refl
cut_filter n (id ∷ ids) once = elim (cases_Bool (eqb id.number n)) [
  | inl y ↦ rw y (sym (none_cut n ids (sym (ap (λ (j : ℕ). listed j ids) (eqb-true id.number n y)) ∙ once.0)))
  | inr y ↦ rw y (ap (λ (xs : List ThreadId). id ∷ xs) (cut_filter n ids once.1))
]

not_there : (who : ThreadId) (ids : List ThreadId) → has_thread who ids ≡ false → AllByRecursion (λ id. id.number ≡ who.number → id ≡ who) ids → listed who.number ids ≡ false
not_there who [] none all = refl
not_there who (id ∷ ids) none all =
    let parts = or_parts (eqb id.number who.number && eqb id.version who.version) (has_thread who ids) none in
    let other : id.number ≢ who.number = λ e. false≢true (sym parts.0 ∙ rw (eq-eqb id.number who.number e, eq-eqb id.version who.version (ap (λ (i : ThreadId). i.version) (all.0 e))) refl) in
    rw (ne_eqb id.number who.number other) (not_there who ids parts.1 all.1)

pub cut_is : (who : ThreadId) (ids : List ThreadId) → IsOnceEach ids → AllByRecursion (λ id. id.number ≡ who.number → id ≡ who) ids → without_it who ids ≡ filter (is_not who.number) ids
cut_is who ids once all = elim (cases_Bool (has_thread who ids)) [
  | inl y ↦ rw y (cut_filter who.number ids once)
  | inr y ↦ rw y (sym (none_cut who.number ids (not_there who ids y all)))
]

-- those who are freed aren't the victim
pub gone_kept : (m : Memory) (who me : ThreadId) (m' : Memory) (p : ℕ) (lines : List ReplyLine) → AllByRecursion (IsGone m who me m') lines → filter (is_not who.number) (at_level m p (ids_of lines)) ≡ at_level m p (ids_of lines)
gone_kept m who me m' p lines all =
    let each : AllByRecursion (λ id. is_not who.number id ≡ true) (ids_of lines) = all_map (λ id. is_not who.number id ≡ true) (λ line. line.id) lines (all_weaker (IsGone m who me m') (λ line. is_not who.number line.id ≡ true) (λ line g. rw (ne_eqb line.id.number who.number g.apart) refl) lines all) in
    filter_all (is_not who.number) (at_level m p (ids_of lines)) (all_filter (λ id. is_not who.number id ≡ true) (λ id. eqb (m.word id.number).priority p) (filter (λ id. not (m.word id.number).on) (ids_of lines)) (all_filter (λ id. is_not who.number id ≡ true) (λ id. not (m.word id.number).on) (ids_of lines) each))
