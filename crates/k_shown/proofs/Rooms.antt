-- There is room in each queue for a caller's entry.
use Rattle.std.proofs.Common.{◌≡◌, ◌≢◌, ℕ, ◌<◌, true, false, not, eqb, List, [], ◌∷◌, map, length, refl, sym, ap, ◌∙◌, arith, inl, inr}
use Rattle.std.proofs.lemmas.Bool.{false≢true, and_parts, eqb-true, ne_eqb, not-true, or_cases}
use Rattle.std.proofs.lemmas.List.{length-map}
use Rattle.std.proofs.lemmas.Map.Keys.{IsDistinct-cons}
use Rattle.std.proofs.lemmas.Map.Steps.{length-le_from_distinct_below}
use Rattle.std.specs.List.{AllByRecursion, IsDistinct, list_any}
use Rattle.k_ids.specs.declared.threads.ThreadId.{ThreadId}
use Rattle.k_ids.specs.declared.threads.Status.TheVariants as status
use Rattle.k_ids.specs.declared.state_word.StateWord.{StateWord}
use Rattle.k_senders.specs.declared.entries.SenderEntry.{SenderEntry}
use Rattle.k_senders.specs.Entries.{number_of}
use Rattle.k_senders.specs.Queue.{stands}
use Rattle.k_locks.specs.Shown.{shows}
use Rattle.k_model.specs.State.{KernelState, Waiting, id_of, is_dead, is_present}
use Rattle.k_model.specs.Sound.{IsSound, numbers}
use Rattle.k_lists.proofs.All.{all_map, all_weaker}
use Rattle.k_model.proofs.Sound.{StandsNowhere, inside_from, nowhere_from, senders_inside}
use Rattle.k_shown.specs.Memory.{Memory, table, waiting_of}
use Rattle.k_shown.specs.Sound.{IsCaller, IsSoundMemory}

-- who isn't dead has a number of the table
pub alive_inside : (m : Memory) (n : ℕ) → IsSoundMemory m → is_dead (shows (m.word n).state) ≡ false → n < m.size
alive_inside m n good alive = inside_from (table m) n good.lists (λ e. false≢true (sym alive ∙ ap is_dead e))

pub present_inside : (m : Memory) (id : ThreadId) → IsSoundMemory m → is_present (table m) id ≡ true → id.number < m.size
present_inside m id good here = alive_inside m id.number good (not-true (is_dead (shows (m.word id.number).state)) (and_parts (eqb (m.word id.number).version id.version) (not (is_dead (shows (m.word id.number).state))) here).1)

-- a list in which a thread of the table doesn't stand is shorter than the table
shorter : (k : KernelState) (me t : ℕ) → me < k.size → StandsNowhere k me → IsSound k → length (k.place t).waiting < k.size
shorter k me t inside free s =
    let ws = (k.place t).waiting in
    let ns = me ∷ numbers ws in
    let apart : IsDistinct eqb ns = IsDistinct-cons eqb me (numbers ws) (all_map (λ n. eqb me n ≡ false) (λ w. w.0.number) ws (all_weaker (λ w. w.0.number ≢ me) (λ w. eqb me w.0.number ≡ false) (λ w ne. ne_eqb me w.0.number (λ q. ne (sym q))) ws (free t))) (s.apart t) in
    let below : (q : ℕ) → list_any (eqb q) ns ≡ true → q < k.size = λ q h. elim (or_cases _ _ h) [
      | inl e ↦ let same = eqb-true q me e in omega arith
      | inr e ↦ among q ws (senders_inside k t s) e
    ] in
    omega (arith, length-le_from_distinct_below ns k.size apart below, length-map ws (λ (w : Waiting). w.0.number))
  where
    among : (q : ℕ) (ws : List Waiting) → AllByRecursion (λ w. w.0.number < k.size) ws → list_any (eqb q) (numbers ws) ≡ true → q < k.size
    among q [] h e = absurd (false≢true e)
    among q (w ∷ ws) h e = elim (or_cases _ _ e) [
      | inl i ↦ let same = eqb-true q w.0.number i in omega (arith, h.0)
      | inr i ↦ among q ws h.1 i
    ]

lacks_stands : (n : ℕ) (es : List SenderEntry) → AllByRecursion (λ (w : Waiting). w.0.number ≢ n) (map waiting_of es) → stands n es ≡ false
lacks_stands n [] h = refl
lacks_stands n (e ∷ es) h = rw (ne_eqb (number_of e) n h.0) (lacks_stands n es h.1)

module _ (m : Memory) (me : ThreadId) (own : StateWord) (good : IsSoundMemory m) (call : IsCaller m me own) where
  caller_runs : shows (m.word me.number).state ≡ status.Run
  caller_runs = ap (λ (w : StateWord). shows w.state) call.word ∙ ap shows call.runs

  -- a caller waits for nobody
  nowhere : StandsNowhere (table m) me.number
  nowhere = nowhere_from (table m) me.number good.lists (λ t e. let no : status.Run ≡ status.Sending (id_of (table m) t) = sym caller_runs ∙ e in cc)

  pub caller_inside : me.number < m.size
  caller_inside = alive_inside m me.number good (ap is_dead caller_runs)

  -- Each queue of the table has room for an entry of the caller, and has none yet.
  pub queue_short : (n : ℕ) → n < m.size → length (m.queue n).entries < (m.queue n).room
  queue_short n inside =
      let room = good.room n inside in
      let short = shorter (table m) me.number n caller_inside nowhere good.lists in
      let same : length (map waiting_of (m.queue n).entries) ≡ length (m.queue n).entries = length-map (m.queue n).entries waiting_of in
      omega (arith, short, same, room)

  pub caller_fresh : (n : ℕ) → stands me.number (m.queue n).entries ≡ false
  caller_fresh n = lacks_stands me.number (m.queue n).entries (nowhere n)
