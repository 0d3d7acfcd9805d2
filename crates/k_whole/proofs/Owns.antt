-- Each carrier's own context stays on the board.
use Rattle.std.proofs.Common.{◌≡◌, ◌≢◌, ℕ, ◌+◌, ◌<◌, sym, ◌∙◌, subst}
use Rattle.k_board.specs.Words.{Programs}
use Rattle.k_board.specs.Boards.{At, Board, Context, Nowhere}
use Rattle.k_board.specs.Turns.{Turn}
use Rattle.k_model.specs.Maps.{upd}
use Rattle.k_model.proofs.Maps.{upd_cases}
use Rattle.k_tokens.specs.Steps.{ThreadStep}
use Rattle.k_tokens.specs.World.{OfThread, World}
use Rattle.k_switching.specs.Claims.{IsAsked}
use Rattle.k_switching.specs.Rules.{carrier_step}
use Rattle.k_switching.proofs.Rules.{is_run}
use Rattle.k_grants.specs.Granted.{MayTurn}
use Rattle.k_stages.proofs.Others.{leaves}
use Rattle.k_paired.specs.Pairs.{IsPair}
use Rattle.k_whole.specs.Whole.{OwnsThere}
use Rattle.k_whole.proofs.Hands.{step_one}

pub not_nowhere : (p q : At) → p ≡ q → q ≢ Nowhere → p ≢ Nowhere
not_nowhere p q e n z = n (sym e ∙ z)

module _ (b : Board) (w : World) (c : ℕ) (step : ThreadStep) (h : OwnsThere b w) where
  -- where one context moves, and is there afterwards
  pub owns_moved : (b' : Board) (i : ℕ) (x : Context) → b'.size ≡ b.size → b'.context ≡ upd b.context i x → x.at ≢ Nowhere →
      OwnsThere b' (carrier_step w c step)
  owns_moved b' i x size context there d low =
      let inside : d < w.carriers = subst (λ (n : ℕ). d < n) (step_one c w step).carriers low in
      let kept : (upd b.context i x (b.size + d)).at ≢ Nowhere =
      upd_cases (λ (y : Context). y.at ≢ Nowhere) b.context i x (b.size + d) (λ _. there) (λ _. h d inside) in
      subst (λ (n : ℕ). (b'.context (n + d)).at ≢ Nowhere) (sym size)
      (subst (λ (f : ℕ → Context). (f (b.size + d)).at ≢ Nowhere) (sym context) kept)

  -- the turn of a thread's context leaves them all
  pub owns_left : (g : Programs) → IsPair g b w → (i : ℕ) → IsAsked w c (OfThread i) → (b' : Board) → Turn g b i b' →
      OwnsThere b' (carrier_step w c step)
  owns_left g p i a b' t d low =
      let m : MayTurn g b w c i = record {
        good = p.good;
        within = p.within;
        names = p.names;
        pushes = p.pushes;
        holder = p.world.0;
        parts = p.world.1;
        run = is_run w p.world.0 p.world.1 c i a.hand a.kept;
        agrees = p.alike.agrees;
      } in
      let l = leaves g b w c i m b' t d in
      let inside : d < w.carriers = subst (λ (n : ℕ). d < n) (step_one c w step).carriers low in
      subst (λ (n : ℕ). (b'.context (n + d)).at ≢ Nowhere) (sym l.0)
      (subst (λ (x : Context). x.at ≢ Nowhere) (sym l.1) (h d inside))

  pub owns_stay : OwnsThere b (carrier_step w c step)
  owns_stay d low = h d (subst (λ (n : ℕ). d < n) (step_one c w step).carriers low)
