-- The candidates of a queue: the first of some entries is one of the whole queue, and how many there are from it on.
use Rattle.std.proofs.Common.{◌≡◌, ℕ, ◌+◌, Bool, true, false, Option, Some, List, [], ◌∷◌, refl, ap, ◌∙◌, subst, arith}
use Rattle.std.specs.Prelude.{if◌then◌else◌, ◌==◌}
use Rattle.std.proofs.lemmas.Grind.{common_steps}
use Rattle.k_ids.specs.declared.threads.ThreadId.{ThreadId}
use Rattle.k_model.specs.State.{admits}
use Rattle.k_senders.specs.declared.entries.SenderEntry.{SenderEntry}
use Rattle.k_senders.specs.Queue.{IsOnceEach, entry_of, stands}
use Rattle.k_ipc.specs.Candidates.{admitted, first_admitted, onward, past}
use Rattle.k_senders.specs.Entries.{number_of, sender_of}
use Rattle.k_ipc.proofs.Scanned.{entry_stands, onward_is}

-- the first candidate of entries that have a number each
pub record IsFirst (from : Option ThreadId) (es : List SenderEntry) (e : SenderEntry) : Type 0 where
  pub standing : entry_of (number_of e) es ≡ Some e
  pub wanted : admits from (sender_of e) ≡ true
  pub many : admitted from (onward (number_of e) es) ≡ admitted from es

same_first : (from : Option ThreadId) (f e : SenderEntry) (es : List SenderEntry) → Some f ≡ Some e → admits from (sender_of f) ≡ true → IsFirst from (f ∷ es) e
same_first from f e es q t =
    let same : f ≡ e = cc in
    subst (λ (x : SenderEntry). IsFirst from (f ∷ es) x) same (record { standing = grind (arith, common_steps); wanted = t; many = grind (arith, common_steps) })

later_first : (from : Option ThreadId) (f e : SenderEntry) (es : List SenderEntry) → stands (number_of f) es ≡ false → admits from (sender_of f) ≡ false → IsFirst from es e → IsFirst from (f ∷ es) e
later_first from f e es o t h =
    let s = entry_stands (number_of e) es e h.standing in
    record {
      standing = grind (arith, common_steps, o, s, h.standing);
      wanted = h.wanted;
      many = grind (arith, common_steps, o, s, t, h.many);
    }

pub first_is : (from : Option ThreadId) (es : List SenderEntry) (e : SenderEntry) → IsOnceEach es → first_admitted from es ≡ Some e → IsFirst from es e
first_is from [] e o h = absurd cc
first_is from (f ∷ es) e o h = go (admits from (sender_of f)) refl h (first_is from es e o.1)
  where
    go : (b : Bool) → admits from (sender_of f) ≡ b → (if b then Some f else first_admitted from es) ≡ Some e → (first_admitted from es ≡ Some e → IsFirst from es e) → IsFirst from (f ∷ es) e
    go true t q rest = same_first from f e es q t
    go false t q rest = later_first from f e es o.0 t (rest q)

-- the entries after one of them
pub past_once : (n : ℕ) (es : List SenderEntry) → IsOnceEach es → IsOnceEach (past n es)
past_once n [] o = o
past_once n (f ∷ es) o = go (number_of f == n) (past_once n es o.1)
  where
    go : (b : Bool) → IsOnceEach (past n es) → IsOnceEach (if b then es else past n es)
    go true rest = o.1
    go false rest = rest

-- what holds of an entry of the rest holds of it in the whole
pub record IsLater (n m : ℕ) (es : List SenderEntry) (e : SenderEntry) : Type 0 where
  pub standing : entry_of m es ≡ Some e
  pub onward_same : onward m es ≡ onward m (past n es)

later_more : (m : ℕ) (f e : SenderEntry) (es rest : List SenderEntry) → stands (number_of f) es ≡ false → entry_of m es ≡ Some e → onward m es ≡ onward m rest → (entry_of m (f ∷ es) ≡ Some e) × (onward m (f ∷ es) ≡ onward m rest)
later_more m f e es rest o h q =
    let s = entry_stands m es e h in
    (grind (arith, common_steps, o, s, h), grind (arith, common_steps, o, s, q))

pub past_later : (n m : ℕ) (es : List SenderEntry) (e : SenderEntry) → IsOnceEach es → entry_of m (past n es) ≡ Some e → IsLater n m es e
past_later n m [] e o h = absurd cc
past_later n m (f ∷ es) e o h = go (number_of f == n) refl h (past_later n m es e o.1)
  where
    go : (b : Bool) → (number_of f == n) ≡ b → entry_of m (if b then es else past n es) ≡ Some e → (entry_of m (past n es) ≡ Some e → IsLater n m es e) → IsLater n m (f ∷ es) e
    go true t q rest =
        let l = later_more m f e es es o.0 q refl in
        record { standing = l.0; onward_same = rw t l.1 }
    go false t q rest =
        let r = rest q in
        let l = later_more m f e es (past n es) o.0 r.standing r.onward_same in
        record { standing = l.0; onward_same = rw t l.1 }

-- the next candidate after an entry: there is one less from it on
pub record IsNext (from : Option ThreadId) (es : List SenderEntry) (d e : SenderEntry) : Type 0 where
  pub standing : entry_of (number_of e) es ≡ Some e
  pub wanted : admits from (sender_of e) ≡ true
  pub fewer : admitted from (onward (number_of d) es) ≡ 1 + admitted from (onward (number_of e) es)

pub next_is : (from : Option ThreadId) (es : List SenderEntry) (d e : SenderEntry) → IsOnceEach es → entry_of (number_of d) es ≡ Some d → admits from (sender_of d) ≡ true → first_admitted from (past (number_of d) es) ≡ Some e → IsNext from es d e
next_is from es d e o s t h =
    let f = first_is from (past (number_of d) es) e (past_once (number_of d) es o) h in
    let l = past_later (number_of d) (number_of e) es e o f.standing in
    let here : admitted from (onward (number_of d) es) ≡ 1 + admitted from (past (number_of d) es) = rw (onward_is (number_of d) es d s, t) refl in
    let there : admitted from (onward (number_of e) es) ≡ admitted from (past (number_of d) es) = ap (λ (xs : List SenderEntry). admitted from xs) l.onward_same ∙ f.many in
    record { standing = l.standing; wanted = f.wanted; fewer = omega (arith, here, there) }

pub some_left : (from : Option ThreadId) (es : List SenderEntry) (d : SenderEntry) → entry_of (number_of d) es ≡ Some d → admits from (sender_of d) ≡ true → admitted from (onward (number_of d) es) ≡ 1 + admitted from (past (number_of d) es)
some_left from es d s t = rw (onward_is (number_of d) es d s, t) refl
