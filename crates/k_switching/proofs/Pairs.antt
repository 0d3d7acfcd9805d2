-- Two maps changed at one number, and the same holders by other maps.
use Rattle.std.proofs.Common.{◌≡◌, ◌≢◌, ℕ, Bool, true, false, sym, ap, ◌∙◌, subst, List, Option, inl, inr}
use Rattle.std.proofs.lemmas.Bool.Decides.{eqb_tells}
use Rattle.k_ids.specs.declared.threads.ThreadId.{ThreadId}
use Rattle.k_model.specs.Maps.{upd}
use Rattle.k_model.proofs.Maps.{upd_same, upd_other}
use Rattle.k_tokens.specs.World.{Stage, NoSwitch, AcquireReady, LoadGoal, LoadStart, ReleaseReady, Finished, has_switch}
use Rattle.k_tokens.specs.World.{is_open, OwnContext, Carrier}
use Rattle.k_tokens.specs.Good.{Holder, Tokens}
use Rattle.k_switching.proofs.Finishing.{own_as}

pub not_without : (s : Stage) → has_switch s ≡ false → is_open s ≡ true → ⊥
not_without NoSwitch e f = cc
not_without AcquireReady e f = cc
not_without LoadGoal e f = cc
not_without LoadStart e f = cc
not_without ReleaseReady e f = cc
not_without Finished e f = cc

pub upd2_cases : (u : ℕ → OwnContext) (v : ℕ → Carrier) (c : ℕ) (o : OwnContext) (k : Carrier)
    (P : OwnContext → Carrier → Type 0) (d : ℕ) → (d ≡ c → P o k) → (d ≢ c → P (u d) (v d)) → P (upd u c o d) (upd v c k d)
upd2_cases u v c o k P d same other =
    elim (eqb_tells d c) [
      | inl h ↦ subst (λ z. P z (upd v c k d)) (sym (ap (upd u c o) h.1 ∙ upd_same u c o))
          (subst (P o) (sym (ap (upd v c k) h.1 ∙ upd_same v c k)) (same h.1))
      | inr h ↦ subst (λ z. P z (upd v c k d)) (sym (upd_other u c o d h.1))
          (subst (P (u d)) (sym (upd_other v c k d h.1)) (other h.1))
    ]

-- the same holders under other names
pub tokens_as : {at : ThreadId → Holder} {r : ℕ → List ThreadId} {g u : ℕ → Option ThreadId} {m : ℕ → Bool} {s : ℕ → ℕ → Bool}
    {b : ℕ → Option ℕ} (g' : ℕ → Option ThreadId) (s' : ℕ → ℕ → Bool) (b' : ℕ → Option ℕ)
    → Tokens at r g u m s b → ((c : ℕ) → g' c ≡ g c) → ((c : ℕ) → s' c ≡ s c) → ((c : ℕ) → b' c ≡ b c) → Tokens at r g' u m s' b'
tokens_as {at = at} {r = r} {g = g} {u = u} {m = m} {s = s} {b = b} g' s' b' k h i j =
    let es : s ≡ s' = λ d c. sym (i c) d in
    subst (λ z. Tokens at r g' u m z b') es (own_as g' b' k h j)
