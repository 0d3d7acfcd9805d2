-- Each carrier's own context but the one that moves stands as it stood.
use Rattle.std.proofs.Common.{◌≡◌, ◌≢◌, ℕ, ◌+◌, ◌<◌, Bool, true, false, refl, sym, ap, ◌∙◌, subst}
use Rattle.std.proofs.Common.{Option, Some, None, List, [], ◌∷◌, length, arith, inl, inr}
use Rattle.std.proofs.lemmas.Bool.Decides.{eqb_tells}
use Rattle.k_ids.specs.declared.threads.ThreadId.{ThreadId}
use Rattle.k_model.specs.Maps.{lowest, upd}
use Rattle.k_model.proofs.Maps.{lowest-Some, upd_other}
use Rattle.k_locks.specs.Asks.{Response}
use Rattle.k_locks.specs.Asks as asks
use Rattle.k_locks.specs.Numbers.{is_free, lowest_free}
use Rattle.k_threads.specs.declared.create.CreateCall.{CreateCall}
use Rattle.k_threads.specs.declared.create.CreateLocked.TheVariants as create_locked
use Rattle.k_threads.specs.CreateTable.{CreateAt}
use Rattle.k_threads.specs.CreateTable as create
use Rattle.k_threads.specs.declared.destroy.DestroyCall.{DestroyCall}
use Rattle.k_threads.specs.declared.destroy.DestroyLocked.TheVariants as destroy_locked
use Rattle.k_threads.specs.DestroyTable.{DestroyAt}
use Rattle.k_threads.specs.DestroyTable as destroy
use Rattle.k_caller.specs.declared.thread.ThreadLocation.TheVariants as location
use Rattle.k_switch.specs.declared.goal.Switched.{Switched}
use Rattle.k_switch.specs.declared.switch.SwitchCall.{SwitchCall}
use Rattle.k_switch.specs.Switches.{SwitchAt}
use Rattle.k_switch.specs.Switches as switch
use Rattle.k_board.specs.Words.{Programs}
use Rattle.k_board.specs.Boards.{Alone, At, Board, Context, InCreate, InDestroy, InReceive, InSend, InSwitch, Resting}
use Rattle.k_board.specs.Facts.{AllSay}
use Rattle.k_board.specs.Places.{facts_create, facts_of}
use Rattle.k_board.specs.Steps.{Answers, create_contexts, destroy_contexts, placed, switch_board}
use Rattle.k_board.specs.Turns.{Turn, is_going, sends, receives, creates, destroys, goes_alone}
use Rattle.k_board.specs.Turns.{begins, turns_to_work, wakes, switches, begins_switch, ends_switch}
use Rattle.k_good.specs.Ranges.{FitsAt, is_threads}
use Rattle.k_tokens.specs.World.{OfCarrier, OwnContext, Stage, Threads, World}
use Rattle.k_tokens.specs.World as stage
use Rattle.k_tokens.specs.Good.{Holder, Parts}
use Rattle.k_switching.specs.Rules.{begun_with, given, given_own, has_switched, taken_asleep}
use Rattle.k_switching.specs.Switch.{acquired_by, before_take, first_taken, first_taken_by}
use Rattle.k_switching.specs.Switch.{first_taken_of, highest_filled, switch_step}
use Rattle.k_switching.specs.Switch as steps
use Rattle.k_stages.specs.Stages.{AreAlike, IsFrom, IsOwn, StagesAre}
use Rattle.k_stages.proofs.Stages.{IsStep, begins_stage, ends_stage, stage_turns}
use Rattle.k_stages.proofs.Waking.{wakes_agree}
use Rattle.k_grants.specs.Views.{look_at}
use Rattle.k_grants.specs.Granted.{MayTurn}

-- WHAT A CARRIER'S STEP LEAVES OF OTHERS

module _ (w : World) (d e : ℕ) (ne : e ≢ d) where
  taken_of : (v : World) (p : ℕ) (es : List ThreadId) → (first_taken_of v d p es).own e ≡ v.own e
  taken_of v p [] = refl
  taken_of v p (who ∷ more) = upd_other v.own d _ e ne

  taken_by : (v : World) (o : Option ℕ) → (first_taken_by v d o).own e ≡ v.own e
  taken_by v None = upd_other v.own d _ e ne
  taken_by v (Some p) = taken_of v p (v.lists p)

  before_others : (before_take w d).own e ≡ w.own e
  before_others =
      upd_other (steps.start_entered (steps.goal_back (steps.ready_free w) d) d).own d _ e ne
      ∙ upd_other (steps.goal_back (steps.ready_free w) d).own d _ e ne ∙ upd_other w.own d _ e ne

  acquired_others : (runner : ℕ) (o : Option stage.ContextName) → (acquired_by w runner d o).own e ≡ w.own e
  acquired_others runner None = upd_other w.own d _ e ne
  acquired_others runner (Some owner) = refl

  stage_others : (runner : ℕ) (s : Stage) → (switch_step w runner d s).own e ≡ w.own e
  stage_others runner stage.NoSwitch = refl
  stage_others runner stage.AcquireReady = acquired_others runner w.ready_owner
  stage_others runner stage.LoadGoal = upd_other w.own d _ e ne
  stage_others runner stage.LoadStart = upd_other w.own d _ e ne
  stage_others runner stage.ReleaseReady = taken_by (before_take w d) (highest_filled 64 (before_take w d).lists) ∙ before_others
  stage_others runner stage.Finished = refl

  given_others : (v : Bool) → (given_own w d d v).own e ≡ w.own e
  given_others true = upd_other w.own d _ e ne
  given_others false = refl

-- the contexts of two carriers differ
apart : (size d e : ℕ) → e ≢ d → size + e ≢ size + d
apart size d e ne q = ne (omega (arith, q))

module _ (b : Board) (w : World) (h : AreAlike b w) where
  alike_by : (b' : Board) (v : World) (d : ℕ) (x : Context) → b'.size ≡ b.size → b'.context ≡ upd b.context (b.size + d) x →
      ((e : ℕ) → e ≢ d → v.own e ≡ w.own e) → IsStep b' v d (b.size + d) → AreAlike b' v
  alike_by b' v d x z c o s = record {
    agrees = s.agrees;
    stages = λ e. elim (eqb_tells e d) [
      | inl k ↦
          subst (λ (n : ℕ). IsOwn (b'.context n).at (v.own e)) (λ u. sym z u + sym k.1 u)
          (subst (λ (n : ℕ). IsOwn (b'.context (b.size + d)).at (v.own n)) (sym k.1) s.own)
      | inr k ↦ subst (λ (n : ℕ). IsOwn (b'.context (n + e)).at (v.own e)) (sym z)
          (subst (λ (y : Context). IsOwn y.at (v.own e)) (sym
          (ap (λ (f : ℕ → Context). f (b.size + e)) c ∙ upd_other b.context (b.size + d) x (b.size + e)
          (apart b.size d e k.1)))
          (subst (λ (q : OwnContext). IsOwn (b.context (b.size + e)).at q) (sym (o e k.1)) (h.stages e)))
    ];
  }

  own_at : (d : ℕ) (p : At) → (b.context (b.size + d)).at ≡ p → IsOwn p (w.own d)
  own_at d p at = subst (λ (q : At). IsOwn q (w.own d)) at (h.stages d)

  pub stage_alike : (runner d : ℕ) (holder : ThreadId → Holder) → Parts w holder →
      (c : SwitchCall) (p : SwitchAt) (r : Response) → (b.context (b.size + d)).at ≡ InSwitch c p → is_going p ≡ true
      → Answers b (switch.ask_of c p) r → AreAlike (switch_board b (b.size + d) (b.context (b.size + d)) c p r)
      (switch_step w runner d (w.own d).stage)
  stage_alike runner d holder parts c p r at going an =
      alike_by _ _ d _ refl refl (λ e ne. stage_others w d e ne runner (w.own d).stage)
      (stage_turns b w d h.agrees runner holder parts c p r at (own_at d (InSwitch c p) at) going an)

  pub begins_alike : (d : ℕ) (c : SwitchCall) → (b.context (b.size + d)).at ≡ Resting →
      IsFrom c (w.carrier d) (lowest (w.carrier d).starts 64)
      → AreAlike (placed b (b.size + d) (record (b.context (b.size + d)) { at = InSwitch c switch.AcquireReady }))
      (begun_with w d (lowest (w.carrier d).starts 64))
  begins_alike d c at f = alike_by _ _ d _ refl refl (λ e ne. upd_other w.own d _ e ne) (begins_stage b w d h.agrees c at f)

  pub ends_alike : (d : ℕ) (c : SwitchCall) (s : Switched) → (b.context (b.size + d)).at ≡ InSwitch c (switch.Finished s)
      → AreAlike (placed b (b.size + d) (record (b.context (b.size + d)) { at = Resting })) (given w d (OfCarrier d))
  ends_alike d c s at =
      alike_by _ _ d _ refl refl (λ e ne. given_others w d e ne (has_switched w d (OfCarrier d)))
      (ends_stage b w d h.agrees c s at (own_at d (InSwitch c (switch.Finished s)) at))

  pub wakes_alike : (c i : ℕ) → i < b.size → (b.context i).at ≡ Alone location.Asleep →
      AreAlike (placed b i (record (b.context i) { at = Alone location.LookAgain })) (taken_asleep w c i)
  wakes_alike c i low at = record {
    agrees = wakes_agree b w c i h.agrees at;
    stages =
        λ d. subst (λ (y : Context). IsOwn y.at (w.own d)) (sym
        (upd_other b.context i _ (b.size + d) (λ q. absurd (omega (arith, low, q))))) (h.stages d);
  }

-- A THREAD'S TURN

module _ (g : Programs) (b : Board) (w : World) (c i : ℕ) (m : MayTurn g b w c i) where
  facts_at : (p : At) → (b.context i).at ≡ p → AllSay g b i (b.context i) (facts_of p)
  facts_at p at = subst (λ (q : At). AllSay g b i (b.context i) (facts_of q)) at (m.good.places i)

  free_low : (n : ℕ) → lowest_free b.numbers ≡ Some n → n < b.size
  free_low n e = subst (λ (k : ℕ). n < k) m.within.count (lowest-Some (is_free b.numbers) (length b.numbers.versions) n e).0

  far_create : (s : CreateCall) (p : CreateAt) (r : Response) → AllSay g b i (b.context i) (facts_create s p) → (d : ℕ) →
      create_contexts g s p r b.context (b.size + d) ≡ b.context (b.size + d)
  far_create s (create.Locked (create_locked.PlaceContext id)) asks.Placed h d =
      upd_other b.context id.number _ (b.size + d) (λ q. absurd
      (let l = free_low id.number h.1.1.1.1.1.0.1 in omega (arith, l, q)))
  far_create s (create.Locked (create_locked.CommitCreate id)) asks.Won h d =
      upd_other b.context id.number _ (b.size + d) (λ q. absurd
      (let l = free_low id.number h.1.1.1.1.1.0.1 in omega (arith, l, q)))
  far_create s p r h d = refl

  far_destroy : (s : DestroyCall) (p : DestroyAt) (r : Response) → s.who.number < b.size → (d : ℕ) →
      destroy_contexts s p r b.context (b.size + d) ≡ b.context (b.size + d)
  far_destroy s (destroy.Locked destroy_locked.RemoveContext) asks.Removed l d =
      upd_other b.context s.who.number _ (b.size + d) (λ q. absurd (omega (arith, l, q)))
  far_destroy s p r l d = refl

  awake : (look_at (b.context i).at).condition ≡ stage.Awake
  awake = ap (λ (x : Threads). x.condition i) (sym m.agrees.threads) ∙ m.run.awake

  asleep : (p : At) → (b.context i).at ≡ p → ((look_at p).condition ≡ stage.Awake → ⊥) → ⊥
  asleep p at n = n (ap (λ (q : At). (look_at q).condition) (sym at) ∙ awake)

  -- a thread's number is of the table
  moves : (p : At) → (b.context i).at ≡ p → is_threads p ≡ true → (f : ℕ → Context) (x : Context) (d : ℕ) →
      f (b.size + d) ≡ b.context (b.size + d) → upd f i x (b.size + d) ≡ b.context (b.size + d)
  moves p at e f x d k =
      upd_other f i x (b.size + d) (λ q. absurd (let l = (m.within.threads i (ap is_threads at ∙ e)).number in
      omega (arith, l, q))) ∙ k

  pub leaves : (b' : Board) → Turn g b i b' → (d : ℕ) → (b'.size ≡ b.size) × (b'.context (b.size + d) ≡ b.context (b.size + d))
  leaves _ (sends s p r at an) d = (refl, moves (InSend s p) at refl b.context _ d refl)
  leaves _ (receives s p r at an) d = (refl, moves (InReceive s p) at refl b.context _ d refl)
  leaves _ (creates s p r at an) d = (
    refl,
    moves (InCreate s p) at refl (create_contexts g s p r b.context) _ d
        (far_create s p r (facts_at (InCreate s p) at) d),
  )
  leaves _ (destroys s p r at an) d = (
    refl,
    moves (InDestroy s p) at refl (destroy_contexts s p r b.context) _ d
        (far_destroy s p r (subst (λ (q : At). FitsAt b.size q) at (m.within.targets i)).0.number d),
  )
  leaves _ (goes_alone p r at can an) d = (refl, moves (Alone p) at refl b.context _ d refl)
  leaves _ (begins l f at e) d = (refl, moves (Alone (location.Between l)) at refl b.context _ d refl)
  leaves _ (turns_to_work l count at e) d = (refl, moves (Alone (location.Between l)) at refl b.context _ d refl)
  leaves _ (wakes at) d = absurd (asleep (Alone location.Asleep) at (λ z. cc))
  leaves _ (switches s p r at going an) d = absurd (asleep (InSwitch s p) at (λ z. cc))
  leaves _ (begins_switch s at) d = absurd (asleep Resting at (λ z. cc))
  leaves _ (ends_switch s q at) d = absurd (asleep (InSwitch s (switch.Finished q)) at (λ z. cc))

  pub stages_stay : (b' : Board) → StagesAre b w → Turn g b i b' → StagesAre b' w
  stages_stay b' h t d =
      subst (λ (n : ℕ). IsOwn (b'.context (n + d)).at (w.own d)) (sym (leaves b' t d).0)
      (subst (λ (y : Context). IsOwn y.at (w.own d)) (sym (leaves b' t d).1) (h d))
