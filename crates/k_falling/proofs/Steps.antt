-- Each step of the whole that a raw step is lowers the work, where it makes no entry.
use Rattle.std.proofs.Common.{◌≡◌, ℕ, ◌<◌, Bool, true, false, refl, sym, ap, ◌∙◌, subst, None, List}
use Rattle.k_ids.specs.declared.histories.Entry.{Entry}
use Rattle.k_model.specs.State.{KernelState}
use Rattle.k_script.specs.Script.{Script}
use Rattle.k_caller.specs.Threads.{ThreadSeen}
use Rattle.k_caller.specs.declared.thread.ThreadLocation.TheVariants as location
use Rattle.k_board.specs.Boards.{Alone, Board}
use Rattle.k_board.specs.Words.{Programs}
use Rattle.k_plays.specs.Scripts.{ranged_programs}
use Rattle.k_points.specs.Points.{turn_point}
use Rattle.k_tokens.specs.World.{OfThread, World}
use Rattle.k_tokens.specs.Steps.{ThreadStep}
use Rattle.k_switching.specs.Rules.{carrier_step}
use Rattle.k_whole.specs.Whole.{IsStepOf, Step, WholeHolds, step_point}
use Rattle.k_whole.specs.Whole.{begins_switch, ends_switch, runs, stays, switches, wakes}
use Rattle.k_handling.specs.Handling.{IsStepTo, is_of_thread}
use Rattle.k_handling.proofs.Handles.{no_point}
use Rattle.k_schedule.specs.Parts.{Falls, Parts}
use Rattle.k_owed.specs.Works.{work_ahead}
use Rattle.k_work.specs.Near.{IsAlone, IsSupported, is_settled, near_of}
use Rattle.k_work.specs.Work.{work_parts}
use Rattle.k_running.specs.Threads.{HasBegun, HasMade, HasTurn}
use Rattle.k_falling.proofs.Views.{hand_unsettled}

-- the work on a board, with these carriers
abbrev pub parts_at : Board → World → (c room : ℕ) → Parts
parts_at b v c room = work_parts work_ahead b v c room (near_of v c)

-- each step of a lone carrier lowers its work, in the programs of a script
abbrev pub LowersWork : Script → Type 0
LowersWork script = (b b' : Board) (v : World) (entries : List Entry) (k : KernelState) (c : ℕ) (step : ThreadStep) →
    WholeHolds script b v entries k → IsAlone v c → c < v.carriers → (s : Step (ranged_programs script) b v c b') →
    IsStepOf (ranged_programs script) b v c b' s step → IsSupported (ranged_programs script) b v c b' s →
    step_point (ranged_programs script) b v c b' s ≡ None → is_settled ((carrier_step v c step).carrier c) ≡ false →
    (room : ℕ) → Falls (parts_at b v c room) (parts_at b' (carrier_step v c step) c room)

-- a step that isn't a thread's needs nothing besides
others_supported : (g : Programs) (b : Board) (v : World) (c : ℕ) (b' : Board) (s : Step g b v c b') →
    is_of_thread g b v c b' s ≡ false → IsSupported g b v c b' s
others_supported g b v c _ (runs i b' found asked wait free t) e = absurd cc
others_supported g b v c _ (switches d s p r asked at going an) e = tt
others_supported g b v c _ (begins_switch s hand took at from) e = tt
others_supported g b v c _ (ends_switch s o hand at) e = tt
others_supported g b v c _ (wakes i hand took inside at) e = tt
others_supported g b v c _ (stays nobody still) e = tt

module _ (script : Script) (lowers : LowersWork script) (b : Board) (v : World) (entries : List Entry) (k : KernelState) (c : ℕ)
    (whole : WholeHolds script b v entries k) (alone : IsAlone v c) (low : c < v.carriers) where
  abbrev G : Programs
  G = ranged_programs script

  -- the carriers that a step leads to
  led : (b' : Board) (v' : World) (made : ThreadStep) → v' ≡ carrier_step v c made → (room : ℕ) →
      Falls (parts_at b v c room) (parts_at b' (carrier_step v c made) c room) → Falls (parts_at b v c room) (parts_at b' v' c room)
  led b' v' made e room = subst (λ (x : World). Falls (parts_at b v c room) (parts_at b' x c room)) (sym e)

  unsettled_led : (v' : World) (made : ThreadStep) → v' ≡ carrier_step v c made → is_settled (v'.carrier c) ≡ false →
      is_settled ((carrier_step v c made).carrier c) ≡ false
  unsettled_led v' made e = subst (λ (x : World). is_settled (x.carrier c) ≡ false) e

  pub other_falls : (b' : Board) (v' : World) → IsStepTo G b v c b' v' → is_settled (v'.carrier c) ≡ false → (room : ℕ) →
      Falls (parts_at b v c room) (parts_at b' v' c room)
  other_falls b' v' s unsettled room =
      led b' v' s.made s.leads room
      (lowers b b' v entries k c s.made whole alone low s.step s.kind (others_supported G b v c b' s.step s.other)
      (no_point G b v c b' s.step s.other) (unsettled_led v' s.made s.leads unsettled) room)

  -- a turn of a thread's context
  module _ (n : ℕ) (b' : Board) (v' : World) (t : HasTurn script b v c n b' v') where
    abbrev pub TheStep : Step (ranged_programs script) b v c b'
    TheStep = runs n b' t.found t.asked t.waits t.free t.turn

    pub turn_falls : IsSupported (ranged_programs script) b v c b' TheStep →
        turn_point (ranged_programs script) b n b' t.turn ≡ None → is_settled (v'.carrier c) ≡ false → (room : ℕ) →
        Falls (parts_at b v c room) (parts_at b' v' c room)
    turn_falls supported quiet unsettled room =
        led b' v' t.made t.leads room
        (lowers b b' v entries k c t.made whole alone low TheStep (t.kind, t.grants) supported quiet
        (unsettled_led v' t.made t.leads unsettled) room)

  -- where a call begins
  pub begun_falls : (n : ℕ) (b' : Board) (v' : World) → HasBegun script c n b v b' v' → (room : ℕ) →
      Falls (parts_at b v c room) (parts_at b' v' c room)
  begun_falls n b' v' h room =
      turn_falls n b' v' h.turned (
        record {
          work = λ count e. (let z : Alone (location.Work count) ≡ Alone (location.Between h.last) = sym e ∙ h.between in absurd cc);
          above = λ e. (let z : true ≡ false = sym e ∙ h.below in absurd cc);
        },
        λ e. (let z : true ≡ false = sym e ∙ h.goes in absurd cc),
      ) h.silent
      (ap (λ (f : ℕ → _). is_settled (f c)) h.carriers
      ∙ hand_unsettled (v.carrier c) (OfThread n) h.turned.asked.hand) room
