-- A scan of a queue along its links.
use Rattle.std.proofs.Common.{◌≡◌, ℕ, ◌+◌, ◌<◌, ◌≤◌, Bool, true, false, Option, Some, None, List, [], ◌∷◌, length, refl, ◌∙◌, arith}
use Rattle.std.specs.Prelude.{◌==◌, if◌then◌else◌}
use Rattle.std.proofs.lemmas.Bool.{cond_both}
use Rattle.std.proofs.lemmas.Grind.{common_steps}
use Rattle.k_ids.specs.declared.threads.ThreadId.{ThreadId}
use Rattle.k_model.specs.State.{admits}
use Rattle.k_senders.specs.declared.entries.SenderEntry.{SenderEntry}
use Rattle.k_senders.specs.Queue.{IsOnceEach, entry_of, first_number, number_after, stands}
use Rattle.k_ipc.specs.Candidates.{IsLink, admitted, first_admitted, linked, onward, past}
use Rattle.k_senders.specs.Entries.{number_of, sender_of}

pub entry_stands : (n : ℕ) (es : List SenderEntry) (e : SenderEntry) → entry_of n es ≡ Some e → stands n es ≡ true
entry_stands n [] e h = absurd cc
entry_stands n (f ∷ es) e h = grind (arith, common_steps, entry_stands n es e)

pub entry_number : (n : ℕ) (es : List SenderEntry) (e : SenderEntry) → entry_of n es ≡ Some e → number_of e ≡ n
entry_number n [] e h = absurd cc
entry_number n (f ∷ es) e h = grind (arith, common_steps, entry_number n es e)

pub standing_entry : (n : ℕ) (es : List SenderEntry) → stands n es ≡ true → entry_of n es ≡ None → ⊥
standing_entry n [] s h = absurd cc
standing_entry n (f ∷ es) s h = grind (arith, common_steps, standing_entry n es)

pub first_links : (es : List SenderEntry) → IsLink (first_number es) es
first_links [] = tt
first_links (e ∷ es) = grind (arith, common_steps)

pub linked_first : (es : List SenderEntry) → linked (first_number es) es ≡ es
linked_first [] = refl
linked_first (e ∷ es) = grind (arith, common_steps)

-- at an entry
pub onward_is : (n : ℕ) (es : List SenderEntry) (e : SenderEntry) → entry_of n es ≡ Some e → onward n es ≡ e ∷ past n es
onward_is n [] e h = absurd cc
onward_is n (f ∷ es) e h = grind (arith, common_steps, onward_is n es e)

-- a link of the rest is one of the whole
pub link_more : (o : Option ℕ) (f : SenderEntry) (es : List SenderEntry) → IsLink o es → IsLink o (f ∷ es)
link_more None f es h = tt
link_more (Some n) f es h = grind (arith, common_steps)

pub linked_more : (o : Option ℕ) (f : SenderEntry) (es : List SenderEntry) → stands (number_of f) es ≡ false → IsLink o es → linked o (f ∷ es) ≡ linked o es
linked_more None f es o h = refl
linked_more (Some n) f es o h = grind (arith, common_steps)

pub after_links : (n : ℕ) (es : List SenderEntry) → IsLink (number_after n es) es
after_links n [] = tt
after_links n (f ∷ es) =
    cond_both (number_of f == n) (first_number es) (number_after n es) (λ (o : Option ℕ). IsLink o (f ∷ es))
    (λ _. link_more (first_number es) f es (first_links es)) (λ _. link_more (number_after n es) f es (after_links n es))

pub linked_after : (n : ℕ) (es : List SenderEntry) → IsOnceEach es → linked (number_after n es) es ≡ past n es
linked_after n [] o = refl
linked_after n (f ∷ es) o =
    let here = linked_more (first_number es) f es o.0 (first_links es) ∙ linked_first es in
    let there = linked_more (number_after n es) f es o.0 (after_links n es) ∙ linked_after n es o.1 in
    by_case (number_of f == n) here there
  where
    by_case : (b : Bool) → linked (first_number es) (f ∷ es) ≡ es → linked (number_after n es) (f ∷ es) ≡ past n es → linked (if b then first_number es else number_after n es) (f ∷ es) ≡ (if b then es else past n es)
    by_case true here there = here
    by_case false here there = there

pub admitted_few : (from : Option ThreadId) (es : List SenderEntry) → admitted from es ≤ length es
admitted_few from [] = omega arith
admitted_few from (e ∷ es) = grind (arith, common_steps, admitted_few from es)

pub onward_few : (n : ℕ) (es : List SenderEntry) → length (onward n es) ≤ length es
onward_few n [] = omega arith
onward_few n (e ∷ es) = grind (arith, common_steps, onward_few n es)

pub linked_few : (o : Option ℕ) (es : List SenderEntry) → length (linked o es) ≤ length es
linked_few None es = omega arith
linked_few (Some n) es = onward_few n es

pub scanned_few : (from : Option ThreadId) (o : Option ℕ) (es : List SenderEntry) → length es ≤ 64 → admitted from (linked o es) ≤ 64
scanned_few from o es h = omega (arith, admitted_few from (linked o es), linked_few o es)

-- ONE STEP OF A SCAN, at the entry of number n

pub search_found : (from : Option ThreadId) (o : Option ℕ) (n : ℕ) (es : List SenderEntry) (e : SenderEntry) → o ≡ Some n → entry_of n es ≡ Some e → admits from (sender_of e) ≡ true → Some e ≡ first_admitted from (linked o es)
search_found from o n es e at h t = rw (at, onward_is n es e h, t) refl

pub search_passed : (from : Option ThreadId) (o : Option ℕ) (n : ℕ) (es : List SenderEntry) (e : SenderEntry) → IsOnceEach es → o ≡ Some n → entry_of n es ≡ Some e → admits from (sender_of e) ≡ false → first_admitted from (linked (number_after n es) es) ≡ first_admitted from (linked o es)
search_passed from o n es e u at h t = rw (at, onward_is n es e h, t, linked_after n es u) refl

pub count_steps : (from : Option ThreadId) (o : Option ℕ) (n : ℕ) (es : List SenderEntry) (e : SenderEntry) → IsOnceEach es → o ≡ Some n → entry_of n es ≡ Some e → admitted from (linked o es) ≡ (if admits from (sender_of e) then 1 else 0) + admitted from (linked (number_after n es) es)
count_steps from o n es e u at h = rw (at, onward_is n es e h, linked_after n es u) refl

pub scan_shortens : (o : Option ℕ) (n : ℕ) (es : List SenderEntry) (e : SenderEntry) → IsOnceEach es → o ≡ Some n → entry_of n es ≡ Some e → length (linked (number_after n es) es) < length (linked o es)
scan_shortens o n es e u at h = rw (at, onward_is n es e h, linked_after n es u) (omega arith)
