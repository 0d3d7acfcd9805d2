-- A good world stays good, and so is the first one.
use Rattle.std.proofs.Common.{◌≡◌, ℕ, ◌<◌, Bool, true, false, List, [], ◌∷◌, ◌++◌, length, refl, sym, ap, ◌∙◌, subst}
use Rattle.std.proofs.Common.{arith}
use Rattle.std.specs.Prelude.{slice_set}
use Rattle.k_tokens.specs.Maps.{one_if}
use Rattle.k_script.specs.declared.lines.AtLine.{AtLine}
use Rattle.k_script.specs.declared.lines.AtWhat.{AtWhat}
use Rattle.k_script.specs.declared.lines.AtWhat.TheVariants as what
use Rattle.k_script.specs.Limits.{IsEvent, IsScript, started, started_by}
use Rattle.k_script.specs.Script.{Script}
use Rattle.k_carrier.specs.Starts.{is_due}
use Rattle.k_world.specs.Boot.{booted}
use Rattle.k_world.specs.Steps.{moved, parked, sliced}
use Rattle.k_world.specs.Steps as steps
use Rattle.k_world.specs.Worlds.{World}
use Rattle.k_world.proofs.Booted.{booted_sized}
use Rattle.k_world.proofs.Worlds.{sized_moved, sized_parked, sized_sliced, sized_started}
use Rattle.k_schedule.specs.Carriers.{happens}
use Rattle.k_carriers.specs.Kernel.{kernel_carriers}
use Rattle.k_running.specs.Running.{KernelHolds}
use Rattle.k_scheduled.specs.Scheduled.{IsGoodAt}
use Rattle.k_scheduled.proofs.Lines.{AreDue, all_due, first_due, nobody_due, rest_due}

-- WHO IS STILL TO COME, after each move

moved_due : (script : Script) (w : World) (c : ℕ) → (moved script c w).unstarted ≡ w.unstarted
unfolding moved
moved_due script w c = refl

started_due : (w : World) (c number : ℕ) → (steps.started c number w).unstarted ≡ slice_set w.unstarted number false
unfolding steps.started
started_due w c number = refl

sliced_due : (w : World) (c : ℕ) → (sliced c w).unstarted ≡ w.unstarted
unfolding sliced
sliced_due w c = refl

parked_due : (w : World) (c : ℕ) → (parked c w).unstarted ≡ w.unstarted
unfolding parked
parked_due w c = refl

-- what the first world has to start
first_unstarted : (script : Script) (carriers : ℕ) → IsScript script →
    AreDue (booted script carriers).unstarted (started script.at_lines)
unfolding booted
first_unstarted script carriers limits =
    all_due script.carriers (length script.threads) script.table script.at_lines limits.at_lines.events limits.at_lines.once
    limits.lines.1

-- GOOD WORLDS

-- one that has as many carriers, and as much to start
good_as : (script : Script) (w w' : World) (lines : List AtLine) → IsGoodAt script w lines → KernelHolds script w' →
    length w'.carriers ≡ length w.carriers → w'.unstarted ≡ w.unstarted → IsGoodAt script w' lines
good_as script w w' lines g holds count same = record {
  holds = holds;
  count = count ∙ g.count;
  starts = λ n. g.starts n ∙ ap (λ (u : List Bool). one_if (is_due u n)) (sym same);
  events = g.events;
}

pub good_first : (script : Script) → IsScript script → KernelHolds script (booted script script.carriers) →
    IsGoodAt script (booted script script.carriers) script.at_lines
good_first script limits holds = record {
  holds = holds;
  count = (booted_sized script script.carriers).carriers;
  starts = first_unstarted script script.carriers limits;
  events = limits.at_lines.events;
}

module _ (script : Script) (w : World) (lines : List AtLine) (c : ℕ) (g : IsGoodAt script w lines) where
  pub inside : c < script.carriers → c < length w.carriers
  inside low = omega (arith, low, g.count)

  pub good_moved : KernelHolds script (moved script c w) → IsGoodAt script (moved script c w) lines
  good_moved holds = good_as script w (moved script c w) lines g holds (sized_moved script c w).carriers (moved_due script w c)

  pub good_parked : KernelHolds script (parked c w) → IsGoodAt script (parked c w) lines
  good_parked holds = good_as script w (parked c w) lines g holds (sized_parked c w).carriers (parked_due w c)

-- the event of the next line
module _ (script : Script) (w : World) (line : AtLine) (lines : List AtLine) (g : IsGoodAt script w (line ∷ lines)) where
  pub next_due : (number : ℕ) → line.what ≡ what.Start number → is_due w.unstarted number ≡ true
  next_due number e =
      first_due w.unstarted number (started lines)
      (subst (λ (event : AtWhat). AreDue w.unstarted (started_by event ++ started lines)) e g.starts)

  pub next_there : (number : ℕ) → line.what ≡ what.Start number → number < length script.threads
  next_there number e = subst (IsEvent script.carriers (length script.threads)) e g.events.0.event

  module _ (c : ℕ) (low : c < script.carriers)
      (start : (number : ℕ) → is_due w.unstarted number ≡ true → KernelHolds script (steps.started c number w))
      (slice : (carrier : ℕ) → carrier < length w.carriers → KernelHolds script (sliced carrier w)) where
    happened : (event : AtWhat) → AreDue w.unstarted (started_by event ++ started lines) →
        IsEvent script.carriers (length script.threads) event → IsGoodAt script (happens (kernel_carriers script) w c event) lines
    happened (what.Start number) d at = record {
      holds = start number (first_due w.unstarted number (started lines) d);
      count = (sized_started c number w).carriers ∙ g.count;
      starts =
          subst (λ (u : List Bool). AreDue u (started lines)) (sym (started_due w c number))
          (rest_due w.unstarted number (started lines) d);
      events = g.events.1;
    }
    happened (what.Slice carrier) d at = record {
      holds = slice carrier (omega (arith, at, g.count));
      count = (sized_sliced carrier w).carriers ∙ g.count;
      starts = subst (λ (u : List Bool). AreDue u (started lines)) (sym (sliced_due w carrier)) d;
      events = g.events.1;
    }

    pub good_event : IsGoodAt script (happens (kernel_carriers script) w c line.what) lines
    good_event = happened line.what g.starts g.events.0.event

-- Where no line is left, nobody is to start.
pub nobody_left : (script : Script) (w : World) (n : ℕ) → IsGoodAt script w [] → is_due w.unstarted n ≡ false
nobody_left script w n g = nobody_due w.unstarted n g.starts
