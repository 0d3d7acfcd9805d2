-- The entry at a position, and its number.
use Rattle.std.proofs.Common.{◌≡◌, ◌≢◌, ◌<◌, ◌≤◌, ◌+◌, ℕ, zero, suc, true, false, List, [], ◌∷◌, Some, None, length, drop, arith, refl, sym, ◌∙◌, add-one}
use Rattle.std.specs.Prelude.{◌==◌}
use Rattle.std.proofs.lemmas.Grind.{common_steps}
use Rattle.k_senders.specs.Entries.{number_of, thread_of}
use Rattle.k_links.proofs.Counted.{few}
use Rattle.k_senders.proofs.EntrySpelled.{number_small, sender_named}
use Rattle.k_senders.specs.Places.{IsKnown, IsNumberAt, is_of}
use Rattle.k_senders.specs.declared.entries.SenderEntry.{SenderEntry}
use Rattle.k_senders.specs.Queue.{IsOnceEach, entry_of, first_number, number_after, sends, stands, without, without_thread}

pub number_at : (es : List SenderEntry) (i n : ℕ) → IsOnceEach es → first_number (drop i es) ≡ Some n → IsNumberAt es i n
number_at [] zero n o e = absurd (cc)
number_at [] (suc i) n o e = absurd (cc)
number_at (f ∷ es) zero n o e =
    let same : (number_of f == n) ≡ true = grind arith in
    record { standing = rw same refl; entry = rw same refl; after = rw same refl; without_it = rw same refl }
number_at (f ∷ es) (suc i) n o e =
    let h : IsNumberAt es i n = number_at es i n o.1 e in
    let other : (number_of f == n) ≡ false = grind (arith, common_steps, h.standing, o.0) in
    record { standing = rw (other, h.standing) refl; entry = rw other h.entry; after = rw (other, add-one) (rw add-one at h.after); without_it = rw (other, h.without_it) refl }

sends_none : (who : ℕ) (es : List SenderEntry) → stands (thread_of who).number es ≡ false → sends who es ≡ false
sends_none who [] s = refl
sends_none who (f ∷ es) s = grind (arith, common_steps, sender_named f, sends_none who es)

pub sends_is : (who : ℕ) (es : List SenderEntry) → IsOnceEach es → is_of who (entry_of (thread_of who).number es) ≡ sends who es
sends_is who [] o = refl
sends_is who (f ∷ es) o = grind (arith, common_steps, sender_named f, sends_is who es, sends_none who es)

pub sends_stands : (who : ℕ) (es : List SenderEntry) → sends who es ≡ true → stands (thread_of who).number es ≡ true
sends_stands who [] s = grind arith
sends_stands who (f ∷ es) s = grind (arith, common_steps, sender_named f, sends_stands who es)

pub without_sender : (who : ℕ) (es : List SenderEntry) → IsOnceEach es → sends who es ≡ true → without_thread who es ≡ without (thread_of who).number es
without_sender who [] o s = refl
without_sender who (f ∷ es) o s = grind (arith, common_steps, sender_named f, without_sender who es, sends_stands who es)

pub without_nobody : (who : ℕ) (es : List SenderEntry) → sends who es ≡ false → without_thread who es ≡ es
without_nobody who [] s = refl
without_nobody who (f ∷ es) s = grind (arith, common_steps, without_nobody who es)

-- the number at the next position
pub number_more : (es : List SenderEntry) (i n : ℕ) → IsOnceEach es → Some n ≡ first_number (drop i es) → number_after n es ≡ first_number (drop (i + 1) es)
number_more es i n o e = (number_at es i n o (sym e)).after

pub number_end : (es : List SenderEntry) (i : ℕ) → None ≡ first_number (drop i es) → None ≡ first_number (drop (i + 1) es)
number_end [] i e = grind (arith, common_steps)
number_end (f ∷ es) zero e = absurd cc
number_end (f ∷ es) (suc i) e = rw add-one (rw add-one at (number_end es i e))

-- there is a number at each position
pub number_there : (es : List SenderEntry) (i : ℕ) → i < length es → first_number (drop i es) ≢ None
number_there [] i l e = absurd (omega arith)
number_there (f ∷ es) zero l e = absurd cc
number_there (f ∷ es) (suc i) l e = number_there es i (omega arith) e

pub known : (es : List SenderEntry) (who : ℕ) → IsOnceEach es → IsKnown es who (is_of who (entry_of (thread_of who).number es))
known es who o =
    let a : is_of who (entry_of (thread_of who).number es) ≡ sends who es = sends_is who es o in
    record { answer = a; standing = λ f. sends_stands who es (sym a ∙ f); taken = λ f. without_sender who es o (sym a ∙ f); absent = λ f. without_nobody who es (sym a ∙ f) }

-- numbers are below 64, and each has one entry
standing_small : (n : ℕ) (es : List SenderEntry) → stands n es ≡ true → n < 64
standing_small n [] s = absurd cc
standing_small n (f ∷ es) s = grind (arith, common_steps, number_small f, standing_small n es)

pub few_entries : (es : List SenderEntry) → IsOnceEach es → length es ≤ 64
few_entries es o = few number_of 64 es o (λ n s. standing_small n es s)
