-- Another context in a carrier's hand, which stands elsewhere and holds no lock: the next call of a thread, a thread that
-- wakes, a
-- switch that begins or ends.
use Rattle.std.proofs.Common.{◌≡◌, ◌≢◌, ℕ, sym, ap, ◌∙◌, subst, Option, Some, inl, inr}
use Rattle.std.proofs.lemmas.Bool.Decides.{eqb_tells}
use Rattle.k_locks.specs.declared.locks.Lock.{Lock}
use Rattle.k_locks.specs.Locks.{Holds}
use Rattle.k_model.specs.Maps.{upd}
use Rattle.k_model.proofs.Maps.{upd_same, upd_other, upd_cases}
use Rattle.k_script.specs.Script.{Script}
use Rattle.k_context.specs.Contexts.{ContextSeen}
use Rattle.k_carrier.specs.Seen.{HandSeen}
use Rattle.k_board.specs.Boards.{Board, Context}
use Rattle.k_board.specs.Steps.{placed}
use Rattle.k_good.specs.Locks.{LocksHold, locks_at, owner_by}
use Rattle.k_places.specs.Contexts.{HoldsGoods, ShowsContext}
use Rattle.k_places.specs.Memory.{Memory}
use Rattle.k_places.specs.Shows.{Shows, context_in}
use Rattle.k_places.proofs.Places.{others_held, places_held, this_held, version_held}

-- the same maps with something else in a hand
abbrev pub with_hand : Memory → ℕ → Option HandSeen → Memory
with_hand m c h = record m { hand = upd m.hand c h }

-- a context that holds what it held before
pub locks_placed : (b : Board) (i : ℕ) (x : Context) → LocksHold b.owner b.table b.ready b.context →
    locks_at x.at ≡ locks_at (b.context i).at → LocksHold b.owner b.table b.ready (placed b i x).context
locks_placed b i x h e = record {
  held =
      λ l j q. upd_cases (λ (y : Context). Holds l (locks_at y.at)) b.context i x j
      (λ n. subst (Holds l) (sym e) (subst (λ (z : ℕ). Holds l (locks_at (b.context z).at)) n (h.held l j q)))
      (λ n. h.held l j q);
  named = λ l j q. named l j q;
}
  where
    named : (l : Lock) (j : ℕ) → Holds l (locks_at (upd b.context i x j).at) → owner_by b.owner b.table b.ready l ≡ Some j
    named l j q = elim (eqb_tells j i) [
      | inl n ↦
          subst (λ (z : ℕ). owner_by b.owner b.table b.ready l ≡ Some z) (sym n.1)
          (h.named l i (subst (Holds l) e (subst (λ (y : Context). Holds l (locks_at y.at)) (upd_same b.context i x)
          (subst (λ (z : ℕ). Holds l (locks_at (upd b.context i x z).at)) n.1 q))))
      | inr n ↦ h.named l j (subst (λ (y : Context). Holds l (locks_at y.at)) (upd_other b.context i x j n.1) q)
    ]

module _ (script : Script) (m : Memory) (b : Board) (c i : ℕ) (k : HandSeen) (v : ContextSeen) (x : Context)
    (sh : Shows script m b) (was : m.hand c ≡ Some k) (mine : k.context ≡ i) where
  abbrev K' : HandSeen
  K' = record { context = i; value = v }

  abbrev M' : Memory
  M' = with_hand m c (Some K')

  other_held : (j : ℕ) → j ≢ i → context_in m.context m.slot M'.hand j ≡ context_in m.context m.slot m.hand j
  other_held j ne = others_held m.context m.slot m.hand c k K' was (sym mine) sh.places j (λ q. ne (q ∙ mine))

  own_held : context_in m.context m.slot M'.hand i ≡ Some v
  own_held =
      ap (context_in m.context m.slot M'.hand) (sym mine) ∙ this_held m.context m.slot m.hand c k K' was (sym mine) sh.places

  pub held_shown : version_held K' ≡ version_held k → ShowsContext (b.seen i).word i (Some v) x → HoldsGoods b v x.at →
      Shows script M' (placed b i x)
  held_shown same shown holds = record {
    size = sh.size;
    seen = sh.seen;
    serials = sh.serials;
    owners = sh.owners;
    places = places_held m.context m.slot m.hand c k K' was (sym mine) sh.places same;
    contexts = contexts;
    goods = record { homes = sh.goods.homes; hands = hands };
  }
    where
      contexts : (j : ℕ) → ShowsContext (b.seen j).word j (context_in m.context m.slot M'.hand j) (upd b.context i x j)
      contexts j = elim (eqb_tells j i) [
        | inl e ↦
            subst (λ (n : ℕ). ShowsContext (b.seen n).word n (context_in m.context m.slot M'.hand n) (upd b.context i x n))
            (sym e.1) (subst (ShowsContext (b.seen i).word i (context_in m.context m.slot M'.hand i))
            (sym (upd_same b.context i x)) (subst (λ (o : Option ContextSeen). ShowsContext (b.seen i).word i o x)
            (sym own_held) shown))
        | inr e ↦
            subst (ShowsContext (b.seen j).word j (context_in m.context m.slot M'.hand j)) (sym (upd_other b.context i x j e.1))
            (subst (λ (o : Option ContextSeen). ShowsContext (b.seen j).word j o (b.context j)) (sym (other_held j e.1))
            (sh.contexts j))
      ]

      hands : (j : ℕ) (y : ContextSeen) → context_in m.context m.slot M'.hand j ≡ Some y →
          HoldsGoods (placed b i x) y (upd b.context i x j).at
      hands j y q = elim (eqb_tells j i) [
        | inl e ↦ mine_holds e.1
        | inr e ↦
            subst (λ (z : Context). HoldsGoods b y z.at) (sym (upd_other b.context i x j e.1))
            (sh.goods.hands j y (sym (other_held j e.1) ∙ q))
      ]
        where
          mine_holds : j ≡ i → HoldsGoods (placed b i x) y (upd b.context i x j).at
          mine_holds e =
              subst (λ (n : ℕ). HoldsGoods b y (upd b.context i x n).at) (sym e)
              (subst (λ (z : Context). HoldsGoods b y z.at) (sym (upd_same b.context i x))
              (subst (λ (z : ContextSeen). HoldsGoods b z x.at)
              (some_is (sym own_held ∙ ap (context_in m.context m.slot M'.hand) (sym e) ∙ q)) holds))
            where
              some_is : {A : Type 0} {y z : A} → Some y ≡ Some z → y ≡ z
              some_is e = cc
