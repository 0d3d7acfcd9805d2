-- The chain of a standing mark: who moves is its last, what a step of that one leaves, and whom the others find.
-- s is the state, r the requester, hs the chain, h or l an owner found, z who makes a step.
use Rattle.std.proofs.Common.{◌≡◌, ◌≢◌, ℕ, ◌<◌, ◌≤◌, refl, sym, ap, ◌∙◌, subst, List, [], ◌∷◌, Some, arith, ◌⊎◌, inl, inr}
use Rattle.k_locks.specs.Asks.{Want}
use Rattle.k_bound.specs.Sections.{GoesOn, SectionLaws, Sections, want_rank}
use Rattle.k_bound.specs.Waits.{OwnerFound}
use Rattle.k_bound.specs.Chains.{IsChain, IsIn, IsKnown, asker_of, rest_of}
use Rattle.k_bound.proofs.Founds.{Avoids, found_is, not_in, some_is}

away : (z r : ℕ) (hs : List OwnerFound) → Avoids z r hs → asker_of r hs ≢ z
away z r [] a = λ e. a (sym e)
away z r (h ∷ hs) a = λ e. a.0 (sym e)

pub known_in : (o : ℕ) (w : Want) (h : OwnerFound) (hs : List OwnerFound) → IsKnown o w hs → IsKnown o w (h ∷ hs)
known_in o w h hs (inl i) = inl (inr i)
known_in o w h hs (inr n) = inr (n.0, inr n.1, n.2)

-- what another one than the first owner is known for
pub known_less : (o z : ℕ) (w : Want) (h : OwnerFound) (hs : List OwnerFound) → h.owner ≡ z → o ≢ z → IsKnown o w (h ∷ hs) →
    IsKnown o w hs
known_less o z w h hs e ne (inl (inl f)) = absurd (ne (sym f.0 ∙ e))
known_less o z w h hs e ne (inl (inr i)) = inl i
known_less o z w h hs e ne (inr n) = elim (n.1) [ inl f ↦ absurd (ne (sym f.0 ∙ e)) | inr i ↦ inr (n.0, i, n.2) ]

module _ {S : Type 0} (k : Sections S) (Good : S → Type 0) (laws : SectionLaws S k Good) where
  -- Who goes on isn't held up, so it is neither the requester nor an owner before the last.
  pub avoids : (s : S) (z r : ℕ) (h : OwnerFound) (hs : List OwnerFound) → GoesOn k s z → IsChain k s r (h ∷ hs) → Avoids z r hs
  avoids s z r h [] on c = λ e. on h.want h.owner (ap (k.wants s) e ∙ c.0) c.1
  avoids s z r h (g ∷ hs) on c = ((λ e. on h.want h.owner (ap (k.wants s) e ∙ c.0) c.1), avoids s z r g hs on c.2)

  -- the first asker goes on standing where it stands
  pub asker_stays : (s : S) (z r : ℕ) (w : Want) (hs : List OwnerFound) → Good s → Avoids z r hs →
      k.wants s (asker_of r hs) ≡ Some w → k.wants (k.step s z) (asker_of r hs) ≡ Some w
  asker_stays s z r w hs g a e = laws.wants_same s (asker_of r hs) z g (away z r hs a) ∙ e

  pub chain_stays : (s : S) (z r : ℕ) (hs : List OwnerFound) → Good s → Avoids z r hs → IsChain k s r hs →
      IsChain k (k.step s z) r hs
  chain_stays s z r [] g a c = tt
  chain_stays s z r (h ∷ hs) g a c = (
    asker_stays s z r h.want hs g a.1 c.0,
    laws.holds_on s h.owner z h.want g (λ e. a.0 (sym e)) c.1,
    chain_stays s z r hs g a.1 c.2,
  )

  pub rest_stays : (s : S) (z r : ℕ) (h : OwnerFound) (hs : List OwnerFound) → Good s → Avoids z r hs →
      IsChain k s r (h ∷ hs) → rest_of k (k.step s z) hs ≡ rest_of k s hs
  rest_stays s z r h [] g a c = refl
  rest_stays s z r h (l ∷ hs) g a c =
      let e = laws.rest_same s l.owner z l.want h.want g (λ e. a.0 (sym e)) c.0 c.2.1 in
      let t = rest_stays s z r l hs g a.1 c.2 in
      omega (arith, e, t)

  -- the same of one of them
  pub rest_stays_in : (s : S) (z r : ℕ) (h : OwnerFound) (hs : List OwnerFound) → Good s → Avoids z r hs →
      IsChain k s r (h ∷ hs) → (f : OwnerFound) → IsIn f.owner f.want hs →
      k.rest (k.step s z) f.owner f.want ≡ k.rest s f.owner f.want
  rest_stays_in s z r h [] g a c f i = absurd i
  rest_stays_in s z r h (l ∷ hs) g a c f (inl e) =
      let one = laws.rest_same s l.owner z l.want h.want g (λ q. a.0 (sym q)) c.0 c.2.1 in
      subst (λ y. k.rest (k.step s z) y.owner y.want ≡ k.rest s y.owner y.want) (found_is l f e.0 e.1) one
  rest_stays_in s z r h (l ∷ hs) g a c f (inr i) = rest_stays_in s z r l hs g a.1 c.2 f i

  lower : (s : S) (r : ℕ) (h l : OwnerFound) (hs : List OwnerFound) → Good s → IsChain k s r (h ∷ l ∷ hs) →
      want_rank l.want < want_rank h.want
  lower s r h l hs g c = laws.rank_rises s (asker_of r hs) l.owner l.want h.want g c.2.0 c.2.1 c.0

  -- An owner before the last asks for something whose rank is within the rank of what the last one holds.
  asks_within : (s : S) (r : ℕ) (h : OwnerFound) (hs : List OwnerFound) → Good s → IsChain k s r (h ∷ hs) → (o : ℕ) (v : Want) →
      IsIn o v hs → (w : Want) × (k.wants s o ≡ Some w) × (want_rank w ≤ want_rank h.want)
  asks_within s r h [] g c o v i = absurd i
  asks_within s r h (l ∷ hs) g c o v (inl e) = (h.want, ap (k.wants s) (sym e.0) ∙ c.0, omega arith)
  asks_within s r h (l ∷ hs) g c o v (inr i) =
      let below = asks_within s r l hs g c.2 o v i in
      let lt = lower s r h l hs g c in
      (below.0, below.1, omega (arith, lt, below.2))

  -- Whom the last one finds is in the chain for nothing.
  pub no_circle : (s : S) (r : ℕ) (hs : List OwnerFound) → Good s → IsChain k s r hs → (x : Want) (o : ℕ) →
      k.wants s (asker_of r hs) ≡ Some x → k.holder s x ≡ Some o → (v : Want) → IsIn o v hs → ⊥
  no_circle s r [] g c x o asks holds v i = i
  no_circle s r (h ∷ hs) g c x o asks holds v (inl e) =
      let lt = laws.rank_rises s h.owner o x x g asks holds (ap (k.wants s) (sym e.0) ∙ asks) in
      absurd (omega (arith, lt))
  no_circle s r (h ∷ hs) g c x o asks holds v (inr i) =
      let at = asks_within s r h hs g c o v i in
      let lt = laws.rank_rises s h.owner o x at.0 g asks holds at.1 in
      let up = laws.rank_rises s (asker_of r hs) h.owner h.want x g c.0 c.1 asks in
      absurd (omega (arith, lt, up, at.2))

  next_in : (s : S) (r : ℕ) (h : OwnerFound) (hs : List OwnerFound) → IsChain k s r (h ∷ hs) → (who : ℕ) → who ≡ asker_of r hs →
      (x : Want) (o : ℕ) → k.wants s who ≡ Some x → k.holder s x ≡ Some o → IsIn o x (h ∷ hs)
  next_in s r h hs c who e x o asks holds =
      let w : h.want ≡ x = some_is h.want x (sym c.0 ∙ ap (k.wants s) (sym e) ∙ asks) in
      let n : h.owner ≡ o = some_is h.owner o (sym c.1 ∙ ap (k.holder s) w ∙ holds) in
      inl (n, w)

  -- Whom the requester finds is in the chain, or the chain is empty.
  pub requester_finds : (s : S) (r : ℕ) (hs : List OwnerFound) → IsChain k s r hs → (x : Want) (o : ℕ) →
      k.wants s r ≡ Some x → k.holder s x ≡ Some o → IsIn o x hs ⊎ (hs ≡ [])
  requester_finds s r [] c x o asks holds = inr refl
  requester_finds s r (h ∷ hs) c x o asks holds =
      elim (requester_finds s r hs c.2 x o asks holds) [
        | inl i ↦ inl (inr i)
        | inr e ↦ inl (next_in s r h hs c r (sym (ap (asker_of r) e)) x o asks holds)
      ]

  -- Whom an owner finds is in the chain, or that owner is its last.
  pub owner_finds : (s : S) (r : ℕ) (hs : List OwnerFound) → IsChain k s r hs → (who : ℕ) (v : Want) → IsIn who v hs →
      (x : Want) (o : ℕ) → k.wants s who ≡ Some x → k.holder s x ≡ Some o → IsIn o x hs ⊎ (who ≡ asker_of r hs)
  owner_finds s r [] c who v i x o asks holds = absurd i
  owner_finds s r (h ∷ hs) c who v (inl e) x o asks holds = inr (sym e.0)
  owner_finds s r (h ∷ hs) c who v (inr i) x o asks holds =
      elim (owner_finds s r hs c.2 who v i x o asks holds) [
        | inl there ↦ inl (inr there)
        | inr e ↦ inl (next_in s r h hs c who e x o asks holds)
      ]

  -- A help that goes on is the last of the chain.
  pub last_is : (s : S) (r : ℕ) (h : OwnerFound) (hs : List OwnerFound) → GoesOn k s h.owner → IsChain k s r hs →
      IsIn h.owner h.want hs → (ls : List OwnerFound) × (hs ≡ h ∷ ls)
  last_is s r h [] on c i = absurd i
  last_is s r h (l ∷ ls) on c (inl e) = (ls, ap (λ y. y ∷ ls) (found_is l h e.0 e.1))
  last_is s r h (l ∷ ls) on c (inr i) = absurd (not_in h.owner r ls (avoids s h.owner r l ls on c) h.want i)
