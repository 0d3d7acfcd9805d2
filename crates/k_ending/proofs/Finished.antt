-- Where a step is told Idle, all carriers are settled afterwards, and no start is due, the run of the script is over.
use Rattle.std.proofs.Common.{◌≡◌, ◌≢◌, ℕ, ◌<◌, ◌≤◌, Bool, true, false, refl, sym, ap, ◌∙◌, subst, Option}
use Rattle.std.proofs.Common.{Some, None, List, length, arith, inl, inr}
use Rattle.std.specs.Prelude.{◌&&◌, if◌then◌else◌, is_some}
use Rattle.std.proofs.lemmas.Bool.{cases_eq, cases_lt}
use Rattle.std.proofs.lemmas.List.{get_or_past}
use Rattle.k_ids.specs.declared.histories.Entry.{Entry}
use Rattle.k_model.specs.History.{IsFinished}
use Rattle.k_model.specs.Maps.{lowest}
use Rattle.k_script.specs.Plays.{IsHistory}
use Rattle.k_script.specs.Script.{Script}
use Rattle.k_switch.specs.declared.goal.Goal.{Goal}
use Rattle.k_switch.specs.declared.goal.Switched.{Switched}
use Rattle.k_carrier.specs.Asked.{CarrierAsk, ask_of, asked_by, move_by}
use Rattle.k_carrier.specs.Flags.{is_settled}
use Rattle.k_carrier.specs.Resumed.{point_of, switched_to}
use Rattle.k_carrier.specs.Rules.{own_switched}
use Rattle.k_carrier.specs.Seen.{CarrierSeen, HandSeen}
use Rattle.k_carrier.specs.Starts.{has_start, is_due}
use Rattle.k_carriers.proofs.Carriers.{step_other}
use Rattle.k_world.specs.Moves.{answer_by}
use Rattle.k_world.specs.Steps.{caller_in, entry_by, moved, recorded, step_in}
use Rattle.k_world.specs.Worlds.{World, carrier_at}
use Rattle.k_joint.proofs.Carried.{put_down_hand}
use Rattle.k_tokens.specs.Claims.{NothingToCome}
use Rattle.k_tokens.specs.Good.{counted_in}
use Rattle.k_tokens.specs.World.{OwnContext, Stage, has_switch, is_finished, is_idle, is_open, starting}
use Rattle.k_tokens.specs.World as tokens
use Rattle.k_moves.specs.Views.{goal_in}
use Rattle.k_running.specs.Running.{KernelHolds}
use Rattle.k_ending.specs.Ending.{IsAtEnd}
use Rattle.k_ending.proofs.Counts.{count_none, none_passes}
use Rattle.k_ending.proofs.Last.{IsOwnOver, own_over}
use Rattle.k_ending.proofs.Settled.{IsOver, IsSettled, facts, no_switch, open_switch, over, settled}
use Rattle.k_ending.proofs.Settled.{settled_uncounted, viewed}
use Rattle.k_ending.proofs.Steps.{After, after_is}
use Rattle.k_ending.proofs.Told.{IsEnding}

none_lowest : (o : Option ℕ) → is_some o ≡ false → o ≡ None
none_lowest None e = refl
none_lowest (Some n) e = absurd cc

-- a list without a start has none
none_due : (starts : List Bool) → length starts ≡ 64 → has_start starts ≡ false → (t : ℕ) → is_due starts t ≡ false
none_due starts size e t = elim (cases_lt t 64) [
  | inl l ↦ none_passes (is_due starts) 64 (none_lowest (lowest (is_due starts) 64) e) t l
  | inr l ↦ get_or_past starts t false (omega (arith, size, l))
]

goal_none : (g : Option Goal) → goal_in g ≡ None → is_some g ≡ false
goal_none None e = refl
goal_none (Some g) e = absurd cc

-- a switch that is over leaves the starts to come
switched_starts : (k : CarrierSeen) (o : Option Switched) → (switched_to k o).starts ≡ k.starts
switched_starts k None = refl
switched_starts k (Some s) = refl

module _ (script : Script) (w : World) (h : KernelHolds script w) (c : ℕ) (low : c < length w.carriers)
    (end : IsEnding script w c)
    (all : (d : ℕ) → d < length w.carriers → is_settled (carrier_at (moved script c w) d) ≡ true)
    (due : (n : ℕ) → is_due w.unstarted n ≡ false) where
  abbrev K : CarrierSeen
  K = carrier_at w c

  abbrev X : HandSeen
  X = end.hand

  abbrev S : Switched
  S = end.over.switched

  abbrev Own : OwnContext
  Own = h.view.own c

  put : IsOwnOver script w h c low X S
  put = own_over script w h c low X S (put_down_hand K X end.asks) end.over.is

  ended : IsOver Own S
  ended = over script w h c X.value S put.found put.over

  pub own_idle : is_idle Own ≡ true
  own_idle = (λ z. is_finished (ended.stage z) && ended.idle z) ∙ end.over.idle

  -- NOBODY IS COUNTED

  own_uncounted : counted_in h.view.own h.view.carrier c ≡ false
  own_uncounted =
      ap (λ (s : Stage). if has_switch s then Own.counted else (h.view.carrier c).counted) ended.stage
      ∙ ended.counted ∙ goal_none S.goal (sym ended.goal ∙ (facts script w h c).idle own_idle)

  other : (d : ℕ) → d < length w.carriers → d ≢ c → IsSettled (carrier_at w d)
  other d l ne = settled (carrier_at w d) (ap is_settled (sym (step_other script w c d ne)) ∙ all d l)

  uncounted : (d : ℕ) → d < h.view.carriers → counted_in h.view.own h.view.carrier d ≡ false
  uncounted d l = elim (cases_eq d c) [
    | inl e ↦ ap (counted_in h.view.own h.view.carrier) e ∙ own_uncounted
    | inr ne ↦
        let inside : d < length w.carriers = subst (λ n. d < n) h.aligned.count l in
        settled_uncounted script w h d inside (other d inside ne)
  ]

  pub nobody_runs : h.view.running ≡ 0
  nobody_runs =
      h.whole.pair.world.1.runs.running ∙ count_none (counted_in h.view.own h.view.carrier) h.view.carriers uncounted

  -- NO START IS TO COME

  own_unstarted : has_start K.starts ≡ false
  own_unstarted =
      let s = settled (After script w c (ask_of K)) (ap is_settled (sym (after_is script w c low)) ∙ all c low) in
      sym (ap (λ (a : CarrierAsk). has_start (After script w c a).starts) end.asks
      ∙ ap has_start (switched_starts _ (own_switched K X))) ∙ s.unstarted

  unstarted : (d : ℕ) → d < length w.carriers → has_start (carrier_at w d).starts ≡ false
  unstarted d l = elim (cases_eq d c) [
    | inl e ↦ ap (λ n. has_start (carrier_at w n).starts) e ∙ own_unstarted
    | inr ne ↦ (other d l ne).unstarted
  ]

  starts : (d t : ℕ) → (h.view.carrier d).starts t ≡ false
  starts d t = elim (cases_lt d (length w.carriers)) [
    | inl l ↦
        ap (λ (k : tokens.Carrier). k.starts t) (viewed script w h d l)
        ∙ none_due (carrier_at w d).starts (h.aligned.carriers d l).given.starts (unstarted d l) t
    | inr l ↦ h.whole.starts d t (subst (λ n. n ≤ d) (sym h.aligned.count) l)
  ]

  closed : (d : ℕ) → is_open (h.view.own d).stage ≡ false
  closed d = elim (cases_eq d c) [
    | inl e ↦ ap (λ n. is_open (h.view.own n).stage) e ∙ ap is_open ended.stage
    | inr ne ↦ elim (cases_lt d (length w.carriers)) [
      | inl l ↦ open_switch (h.view.own d).stage (no_switch script w h d l (other d l ne).calm)
      | inr l ↦
          open_switch (h.view.own d).stage
          (h.whole.pair.world.1.runs.beyond d (subst (λ n. n ≤ d) (sym h.aligned.count) l)).0
    ]
  ]

  pub nothing_comes : NothingToCome h.view
  nothing_comes = record {
    made = λ t. ap (λ (f : ℕ → Bool). f t) h.aligned.unstarted ∙ due t;
    taken = starts;
    begun = λ d. ap (λ (t : Bool). if t then (h.view.own d).start else None) (closed d);
  }

  -- THE HISTORY is as it was

  history_same : (moved script c w).history ≡ w.history
  unfolding moved step_in
  history_same =
      ap (λ (a : CarrierAsk). recorded (entry_by w (point_of (asked_by script K a) (caller_in w (asked_by script K a).hand)
      (answer_by w (move_by script K a)))) w.history) end.asks

  pub at_end : IsFinished h.state × IsHistory script w.history h.state → IsAtEnd script (moved script c w)
  at_end f = (h.state, f.0, subst (λ (es : List Entry). IsHistory script es h.state) (sym history_same) f.1)
