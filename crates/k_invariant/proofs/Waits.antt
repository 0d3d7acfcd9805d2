-- The boards on which all of it holds are ones of which the bound on waits is claimed.
use Rattle.std.proofs.Common.{◌≡◌, ◌≢◌, ℕ, ◌<◌, ◌∙◌, true, refl, subst, Option, Some, None}
use Rattle.k_links.proofs.Linked.{standing_entry}
use Rattle.k_queues.proofs.Entries.{of_number}
use Rattle.k_senders.specs.declared.entries.SenderEntry.{SenderEntry}
use Rattle.k_senders.specs.Entries.{number_of}
use Rattle.k_senders.specs.Queue.{entry_of, stands}
use Rattle.k_script.specs.Limits.{IsScript}
use Rattle.k_script.specs.Script.{Script}
use Rattle.k_board.specs.Boards.{Board}
use Rattle.k_board.specs.Turns.{Turn}
use Rattle.k_plays.specs.Scripts.{ranged_programs}
use Rattle.k_sections.specs.Kept.{IsKept}
use Rattle.k_invariant.specs.Invariant.{Holds}
use Rattle.k_invariant.proofs.Keeps.{goes_on, tells}

module _ (script : Script) (limits : IsScript script) where
  holds_on : (b b' : Board) (i : ℕ) → Holds script b → Turn (ranged_programs script) b i b' → Holds script b'
  holds_on b b' i h t =
      let g = goes_on script limits b h.entries h.state h.holds i b' t in
      record { entries = _; state = g.new; holds = g.holds }

  pub entered : (b : Board) → Holds script b → (t n : ℕ) → stands n (b.queue t) ≡ true → (n < b.size) × (n ≢ t)
  entered b h t n s = go (entry_of n (b.queue t)) refl
    where
      go : (o : Option SenderEntry) → entry_of n (b.queue t) ≡ o → (n < b.size) × (n ≢ t)
      go None e = absurd (standing_entry number_of n (b.queue t) s e)
      go (Some x) e =
          let is = h.holds.proper.queues.senders t n x e in
          let same = of_number n (b.queue t) x e in
          (subst (λ (m : ℕ). m < b.size) same is.sender.number, λ (eq : n ≡ t). is.apart (same ∙ eq))

  pub kept : IsKept (ranged_programs script) (Holds script)
  kept = record {
    good = λ b h. h.holds.proper.good;
    within = λ b h. h.holds.proper.within;
    queues = λ b h i. tells script limits b h.entries h.state h.holds i;
    entered = entered;
    kept = holds_on;
  }
