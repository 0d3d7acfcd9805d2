-- What comes from outside changes one carrier, and who is still to be started.
use Rattle.std.proofs.Common.{◌≡◌, ◌≢◌, ℕ, ◌+◌, ◌<◌, ◌≤◌, Bool, true, false, length, refl, sym, ap, ◌∙◌}
use Rattle.std.proofs.Common.{subst, List, arith, inl, inr}
use Rattle.std.specs.Prelude.{IfSome, slice_set}
use Rattle.std.proofs.lemmas.Bool.{cases_lt}
use Rattle.std.proofs.lemmas.List.{get_or_past, length-set}
use Rattle.k_ids.specs.declared.histories.Entry.{Entry}
use Rattle.k_model.specs.Maps.{upd}
use Rattle.k_model.proofs.Maps.{upd_other, upd_same}
use Rattle.k_carrier.specs.declared.moves.Awaits.TheVariants as awaits
use Rattle.k_carrier.specs.Conditions.{IsAwaiting, IsOfNumber}
use Rattle.k_carrier.specs.Conditions as carriers
use Rattle.k_carrier.specs.Flags as flags
use Rattle.k_carrier.specs.Seen.{CarrierSeen}
use Rattle.k_carrier.specs.Starts.{is_due, with_start}
use Rattle.k_world.specs.Steps.{parked, sliced, started}
use Rattle.k_world.specs.Worlds.{World, carrier_at}
use Rattle.k_places.specs.Memory.{Memory, memory_of}
use Rattle.k_places.specs.Shows.{ShowsBoard, context_in}
use Rattle.k_places.proofs.Raw.{maps_parked, maps_sliced, maps_started}
use Rattle.k_joint.proofs.Carried.{parked_shown, sliced_shown, started_shown}
use Rattle.k_tokens.specs.World.{with_carrier}
use Rattle.k_tokens.specs.World as tokens
use Rattle.k_switching.specs.Rules as rules
use Rattle.k_moves.specs.Moved.{IsGiven, IsStarted}
use Rattle.k_moves.specs.Views.{carrier_view}
use Rattle.k_moves.proofs.Outside.{park_keeps, slice_is_same, start_is_same}
use Rattle.k_aligned.specs.Aligned.{AreSound, IsAligned}
use Rattle.k_whole.specs.Whole.{WholeHolds}
use Rattle.k_whole.proofs.Wholes.{slice_stays, start_stays}
use Rattle.k_kernel.specs.Serials.{SerialsHold}
use Rattle.k_handling.specs.Handling.{HasKernel}
use Rattle.k_handling.proofs.Handles.{Moment, each, given, hand_counted, in_view, number_is, same_count, viewed, whole_stays}

module _ (now : Moment) where
  open now use {script, limits, w, b, view, state, k, c, low}

  abbrev K : CarrierSeen
  K = carrier_at w c

  -- a carrier that differs in what is pending
  pub record IsFlagged (j : CarrierSeen) : Type 0 where
    pub number : j.number ≡ c
    pub answered : j.awaits ≡ awaits.Nothing
    pub sound : carriers.IsSound script j
    pub given : IsGiven j
    pub help : IfSome j.help (λ p. p.context < script.table + length w.carriers)

  sound_is : carriers.IsSound script K
  sound_is = (k.aligned.carriers c low).sound

  answered_is : K.awaits ≡ awaits.Nothing
  answered_is = (k.aligned.carriers c low).answered

  -- the carrier with other starts to come, the end of a slice or a park
  abbrev Flagged : List Bool → Bool → Bool → CarrierSeen
  Flagged starts slice putting = record K { starts = starts; slice = slice; putting = putting }

  flagged : (starts : List Bool) (slice putting : Bool) → length starts ≡ length K.starts →
      IsFlagged (Flagged starts slice putting)
  flagged starts slice putting same = record {
    number = number_is now;
    answered = answered_is;
    sound = record {
      number = sound_is.number;
      table = sound_is.table;
      goal = sound_is.goal;
      hand = sound_is.hand;
      steady = sound_is.steady;
      others = sound_is.others;
      looked = sound_is.looked;
      awaiting = subst (IsAwaiting (Flagged starts slice putting) K.hand) (sym answered_is) tt;
    };
    given = record { goal = (given now).goal; starts = same ∙ (given now).starts };
    help = k.helps c low;
  }

  module _ (w' : World) (j : CarrierSeen) (is : w'.carriers ≡ slice_set w.carriers c j) (fits : IsFlagged j)
      (maps : memory_of w' ≡ memory_of w) (shows : ShowsBoard script w' b) (history : w'.history ≡ w.history)
      (numbers : length w'.unstarted ≡ script.table) (view' : tokens.World)
      (one : view'.carrier ≡ upd view.carrier c (carrier_view j)) (unstarted : view'.unmade ≡ is_due w'.unstarted)
      (same : view'.carriers ≡ view.carriers) (whole : WholeHolds script b view' w.history state) where
    count : length w'.carriers ≡ length w.carriers
    count = same_count now w' j is

    here : IsAligned script c j view'
    here = record {
      number = fits.number;
      answered = fits.answered;
      sound = fits.sound;
      given = fits.given;
      viewed = ap (λ (f : ℕ → tokens.Carrier). f c) one ∙ upd_same view.carrier c (carrier_view j);
    }

    there : (d : ℕ) → d < length w.carriers → d ≢ c → IsAligned script d (carrier_at w d) view'
    there d few ne = let a = k.aligned.carriers d few in record {
      number = a.number;
      answered = a.answered;
      sound = a.sound;
      given = a.given;
      viewed = ap (λ (f : ℕ → tokens.Carrier). f d) one ∙ upd_other view.carrier c (carrier_view j) d ne ∙ a.viewed;
    }

    contexts_are : AreSound script w'
    contexts_are i v e =
        k.aligned.contexts i v (ap (λ (m : Memory). context_in m.context m.slot m.hand i) (sym maps) ∙ e)

    within : (x : CarrierSeen) → IfSome x.help (λ p. p.context < script.table + length w.carriers) →
        IfSome x.help (λ p. p.context < script.table + length w'.carriers)
    within x h = subst (λ n. IfSome x.help (λ p. p.context < script.table + n)) (sym count) h

    pub stands : HasKernel script b w' state
    stands = record {
      view = view';
      kernel = record {
        aligned = record {
          shows = shows;
          carriers = each now w' j is (λ d x. IsAligned script d x view') here there;
          count = same ∙ k.aligned.count ∙ sym count;
          few = subst (λ n. n ≤ 8) (sym count) k.aligned.few;
          contexts = contexts_are;
          unstarted = unstarted;
          numbers = numbers;
        };
        helps =
            each now w' j is (λ d x. IfSome x.help (λ p. p.context < script.table + length w'.carriers))
            (within j fits.help) (λ d few ne. within (carrier_at w d) (k.helps d few));
        whole = subst (λ (es : List Entry). WholeHolds script b view' es state) (sym history) whole;
        serials = subst (λ (es : List Entry). SerialsHold b (length es)) (sym history) k.serials;
      };
    }

  -- THE END OF A SLICE

  pub slice_stands : HasKernel script b (sliced c w) state
  unfolding sliced
  slice_stands =
      stands (sliced c w) (flags.sliced K) refl
      (flagged K.starts true K.putting refl)
      (maps_sliced c w) (sliced_shown script w b k.aligned.shows c) refl k.aligned.numbers (rules.sliced view c)
      (ap (λ m. (rules.sliced view m).carrier) (sym number) ∙ ap (λ (x : tokens.World). x.carrier)
      (slice_is_same view K (viewed now))
      ∙ ap (λ m. upd view.carrier m (carrier_view (flags.sliced K))) number) k.aligned.unstarted refl
      (slice_stays script limits b view w.history state k.whole c)
    where
      number : K.number ≡ c
      number = number_is now

  -- A PARK

  pub park_stands : HasKernel script b (parked c w) state
  unfolding parked
  park_stands =
      stands (parked c w) (flags.parked K) refl
      (flagged K.starts K.slice true refl)
      (maps_parked c w) (parked_shown script w b k.aligned.shows c) refl k.aligned.numbers
      (with_carrier view K.number (carrier_view (flags.parked K)))
      (ap (λ m. upd view.carrier m (carrier_view (flags.parked K))) number) k.aligned.unstarted refl
      (whole_stays now (carrier_view (flags.parked K)) (park_keeps view K (viewed now) k.whole.pair.world)
      (hand_counted now))
    where
      number : K.number ≡ c
      number = number_is now

  -- A START

  module _ (number : ℕ) (due : is_due w.unstarted number ≡ true) where
    known : number < length w.unstarted
    known = elim (cases_lt number (length w.unstarted)) [
      | inl l ↦ l
      | inr l ↦ absurd (let z : false ≡ true = sym (get_or_past w.unstarted number false l) ∙ due in cc)
    ]

    room : number < length K.starts
    room =
        let l = known in let n = k.aligned.numbers in let t = limits.table.1 in
        let s = (given now).starts in omega (arith, l, n, t, s)

    abbrev J : CarrierSeen
    J = flags.started number K

    mine : K.number ≡ c
    mine = number_is now

    starts : IsStarted view (rules.started view K.number number) J (slice_set w.unstarted number false)
    starts =
        start_is_same view K number w.unstarted (viewed now) k.aligned.unstarted room known

    world_is : rules.started view c number ≡
        record view { unmade = is_due (slice_set w.unstarted number false); carrier = upd view.carrier c (carrier_view J) }
    world_is =
        ap (λ m. rules.started view m number) (sym mine) ∙ starts.world
        ∙ ap (λ m. record view {
          unmade = is_due (slice_set w.unstarted number false);
          carrier = upd view.carrier m (carrier_view J);
        }) mine

    pub start_stands : HasKernel script b (started c number w) state
    unfolding started
    start_stands =
        stands (started c number w) J refl
        (flagged (with_start K.starts number) K.slice K.putting (length-set K.starts number true))
        (maps_started c number w) (started_shown script w b k.aligned.shows c number) refl
        (length-set w.unstarted number false ∙ k.aligned.numbers) (rules.started view c number)
        (ap (λ (x : tokens.World). x.carrier) world_is) (ap (λ (x : tokens.World). x.unmade) world_is) refl
        (start_stays script limits b view w.history state k.whole c number (in_view now)
        (ap (λ (f : ℕ → Bool). f number) k.aligned.unstarted ∙ due))
