-- The candidates of a queue that are passed over, and those that are left.
use Rattle.std.proofs.Common.{◌≡◌, ℕ, Bool, true, false, Some, None, List, [], ◌∷◌, refl, sym, subst, arith}
use Rattle.std.specs.Prelude.{if◌then◌else◌, ◌==◌}
use Rattle.std.proofs.lemmas.Bool.Decides.{nat_tests}
use Rattle.k_model.specs.State.{admits}
use Rattle.k_senders.specs.declared.entries.SenderEntry.{SenderEntry}
use Rattle.k_senders.specs.Entries.{number_of, sender_of}
use Rattle.k_senders.specs.Queue.{entry_of}
use Rattle.k_locks.specs.Queues.{before}
use Rattle.k_ipc.specs.declared.receive.ReceiveCall.{ReceiveCall}
use Rattle.k_ipc.specs.Candidates.{first_admitted, past}
use Rattle.k_ipc.specs.ReceiveTable.{still_waits}
use Rattle.k_board.specs.Words.{Seen}
use Rattle.k_board.specs.Facts.{NoneWaits}
use Rattle.k_board.proofs.Cases.{if_cases}

same_entry : (f e : SenderEntry) → Some f ≡ Some e → f ≡ e
same_entry f e q = cc

number_is : (n : ℕ) → (n == n) ≡ false → ⊥
number_is n q = grind (arith, nat_tests)

module _ (c : ReceiveCall) (s : ℕ → Seen) where
  abbrev Past : SenderEntry → Type 0
  Past d = admits c.from (sender_of d) ≡ true → still_waits c d (s (number_of d)).word ≡ false

  pub none_before : (es : List SenderEntry) (e : SenderEntry) → first_admitted c.from es ≡ Some e → NoneWaits c s (before (number_of e) es)
  none_before [] e h = absurd cc
  none_before (f ∷ es) e h = go (admits c.from (sender_of f)) refl h (none_before es e)
    where
      go : (a : Bool) → admits c.from (sender_of f) ≡ a → (if a then Some f else first_admitted c.from es) ≡ Some e → (first_admitted c.from es ≡ Some e → NoneWaits c s (before (number_of e) es)) → NoneWaits c s (before (number_of e) (f ∷ es))
      go true t q rest = if_cases (NoneWaits c s) (number_of f == number_of e) [] (f ∷ before (number_of e) es) (λ n. tt) (λ n. absurd (number_is (number_of e) (subst (λ (x : SenderEntry). (number_of x == number_of e) ≡ false) (same_entry f e q) n)))
      go false t q rest = if_cases (NoneWaits c s) (number_of f == number_of e) [] (f ∷ before (number_of e) es) (λ n. tt) (λ n. ((λ a. absurd cc), rest q))

  pub none_left : (es : List SenderEntry) → first_admitted c.from es ≡ None → NoneWaits c s es
  none_left [] h = tt
  none_left (f ∷ es) h = go (admits c.from (sender_of f)) refl h (none_left es)
    where
      go : (a : Bool) → admits c.from (sender_of f) ≡ a → (if a then Some f else first_admitted c.from es) ≡ None → (first_admitted c.from es ≡ None → NoneWaits c s es) → NoneWaits c s (f ∷ es)
      go true t q rest = absurd cc
      go false t q rest = ((λ a. absurd cc), rest q)

  pub none_next : (es : List SenderEntry) (d e : SenderEntry) → entry_of (number_of d) es ≡ Some d → Past d → NoneWaits c s (before (number_of d) es) → first_admitted c.from (past (number_of d) es) ≡ Some e → NoneWaits c s (before (number_of e) es)
  none_next [] d e o p h q = absurd cc
  none_next (f ∷ es) d e o p h q = go (number_of f == number_of d) refl o h q (none_next es d e)
    where
      go : (a : Bool) → (number_of f == number_of d) ≡ a → (if a then Some f else entry_of (number_of d) es) ≡ Some d → NoneWaits c s (if a then [] else f ∷ before (number_of d) es) → first_admitted c.from (if a then es else past (number_of d) es) ≡ Some e →
          (entry_of (number_of d) es ≡ Some d → Past d → NoneWaits c s (before (number_of d) es) → first_admitted c.from (past (number_of d) es) ≡ Some e → NoneWaits c s (before (number_of e) es)) → NoneWaits c s (before (number_of e) (f ∷ es))
      go true t so sh sq rest = if_cases (NoneWaits c s) (number_of f == number_of e) [] (f ∷ before (number_of e) es) (λ n. tt) (λ n. (subst Past (sym (same_entry f d so)) p, none_before es e sq))
      go false t so sh sq rest = if_cases (NoneWaits c s) (number_of f == number_of e) [] (f ∷ before (number_of e) es) (λ n. tt) (λ n. (sh.0, rest so p sh.1 sq))

  pub none_end : (es : List SenderEntry) (d : SenderEntry) → entry_of (number_of d) es ≡ Some d → Past d → NoneWaits c s (before (number_of d) es) → first_admitted c.from (past (number_of d) es) ≡ None → NoneWaits c s es
  none_end [] d o p h q = tt
  none_end (f ∷ es) d o p h q = go (number_of f == number_of d) refl o h q (none_end es d)
    where
      go : (a : Bool) → (number_of f == number_of d) ≡ a → (if a then Some f else entry_of (number_of d) es) ≡ Some d → NoneWaits c s (if a then [] else f ∷ before (number_of d) es) → first_admitted c.from (if a then es else past (number_of d) es) ≡ None →
          (entry_of (number_of d) es ≡ Some d → Past d → NoneWaits c s (before (number_of d) es) → first_admitted c.from (past (number_of d) es) ≡ None → NoneWaits c s es) → NoneWaits c s (f ∷ es)
      go true t so sh sq rest = (subst Past (sym (same_entry f d so)) p, none_left es sq)
      go false t so sh sq rest = (sh.0, rest so p sh.1 sq)
