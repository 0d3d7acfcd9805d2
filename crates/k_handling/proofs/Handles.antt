-- After a move: the raw world with one carrier changed, and a board and carriers of which the whole holds.
use Rattle.std.proofs.Common.{◌≡◌, ◌≢◌, ℕ, ◌+◌, ◌<◌, ◌≤◌, length, get_or, refl, sym, ap, ◌∙◌, subst, Option}
use Rattle.std.proofs.Common.{None, List, ◌++◌, arith, ◌⊎◌, inl, inr, false}
use Rattle.std.specs.Prelude.{IfSome, slice_set}
use Rattle.std.proofs.lemmas.Bool.Decides.{eqb_tells}
use Rattle.std.proofs.lemmas.List.{append-nil, get_or-set_other, get_or-set_same, length-set}
use Rattle.k_ids.specs.declared.histories.Entry.{Entry}
use Rattle.k_ids.specs.declared.calls.Reply.{Reply}
use Rattle.k_locks.specs.declared.points.Point.{Point}
use Rattle.k_model.specs.Maps.{upd}
use Rattle.k_model.specs.State.{KernelState}
use Rattle.k_model.proofs.Maps.{upd_other, upd_same}
use Rattle.k_script.specs.Limits.{IsScript}
use Rattle.k_script.specs.Script.{Script}
use Rattle.k_caller.specs.declared.thread.ThreadLocation.TheVariants as location
use Rattle.k_carrier.specs.declared.moves.Awaits.TheVariants as awaits
use Rattle.k_carrier.specs.Seen.{CarrierSeen, new_carrier}
use Rattle.k_carrier.specs.Starts.{is_due}
use Rattle.k_world.specs.Steps.{carrier_after, moved, step_in}
use Rattle.k_world.specs.Worlds.{World, carrier_at}
use Rattle.k_board.specs.Words.{Programs}
use Rattle.k_board.specs.Boards.{Alone, Board}
use Rattle.k_board.specs.Turns as turn
use Rattle.k_board.specs.Turns.{Turn}
use Rattle.k_legal.specs.Runs.{entries_of}
use Rattle.k_points.specs.Points.{Grows, turn_point}
use Rattle.k_plays.specs.Scripts.{ranged_programs}
use Rattle.k_places.specs.Shows.{ShowsBoard}
use Rattle.k_tokens.specs.Steps.{ThreadStep}
use Rattle.k_tokens.specs.Good.{IsGood}
use Rattle.k_tokens.specs.World.{with_carrier}
use Rattle.k_tokens.specs.World as tokens
use Rattle.k_switching.specs.Rules.{carrier_step}
use Rattle.k_moves.specs.Moved.{IsGiven}
use Rattle.k_moves.specs.Views.{IsViewed, carrier_view}
use Rattle.k_paired.proofs.Pairs.{still_pair}
use Rattle.k_whole.specs.Whole.{Step, WholeHolds, step_point}
use Rattle.k_whole.specs.Whole.{begins_switch, ends_switch, runs, stays, switches, wakes}
use Rattle.k_whole.proofs.Counted.{IsHandCounted, one_counted}
use Rattle.k_whole.proofs.Hands.{step_one}
use Rattle.k_whole.proofs.Wholes.{whole_goes_on}
use Rattle.k_kernel.specs.Serials.{SerialsHold}
use Rattle.k_kernel.proofs.Serials.{serials_stay}
use Rattle.k_handling.specs.Handling.{HasCompany, IsHandled, IsKernel, IsMatched, IsStepTo, IsTurned, is_of_thread}

-- a turn that makes no entry, and isn't of a thread between two calls, keeps the serials
pub serials_kept : (g : Programs) (b : Board) (i n : ℕ) → SerialsHold b n →
    ((l : Option Reply) → (b.context i).at ≡ Alone (location.Between l) → ⊥) → (b' : Board) (t : Turn g b i b') →
    turn_point g b i b' t ≡ None → SerialsHold b' n
serials_kept g b i n h calm b' t e =
    subst (SerialsHold b') (ap (λ (p : Option Point). n + length (entries_of b p)) e ∙ omega arith)
    (serials_stay g b i n h (λ l at. absurd (calm l at)) b' t)

-- a step of a carrier is a turn of the board, or none
step_turned : (g : Programs) (b : Board) (v : tokens.World) (c : ℕ) (b' : Board) → Step g b v c b' → IsTurned g b b'
step_turned g b v c _ (runs i b' found asked wait free t) = inr (i, t)
step_turned g b v c _ (switches d s p r asked at going an) = inr (b.size + d, turn.switches s p r at going an)
step_turned g b v c _ (begins_switch s hand took at from) = inr (b.size + c, turn.begins_switch s at)
step_turned g b v c _ (ends_switch s o hand at) = inr (b.size + c, turn.ends_switch s o at)
step_turned g b v c _ (wakes i hand took inside at) = inr (i, turn.wakes at)
step_turned g b v c _ (stays nobody still) = inl refl

-- one that isn't a thread's makes no entry
pub no_point : (g : Programs) (b : Board) (v : tokens.World) (c : ℕ) (b' : Board) (s : Step g b v c b') →
    is_of_thread g b v c b' s ≡ false → step_point g b v c b' s ≡ None
no_point g b v c _ (runs i b' found asked wait free t) e = absurd cc
no_point g b v c _ (switches d s p r asked at going an) e = refl
no_point g b v c _ (begins_switch s hand took at from) e = refl
no_point g b v c _ (ends_switch s o hand at) e = refl
no_point g b v c _ (wakes i hand took inside at) e = refl
no_point g b v c _ (stays nobody still) e = refl

-- A kernel, and one of its carriers.
pub record Moment : Type 0 where
  pub script : Script
  pub limits : IsScript script
  pub w : World
  pub b : Board
  pub view : tokens.World
  pub state : KernelState
  pub k : IsKernel script w b view state
  pub c : ℕ
  pub low : c < length w.carriers

abbrev pub moment : (script : Script) (limits : IsScript script) (w : World) (b : Board) (view : tokens.World)
    (state : KernelState) (k : IsKernel script w b view state) (c : ℕ) → c < length w.carriers → Moment
moment script limits w b view state k c low = record {
  script = script;
  limits = limits;
  w = w;
  b = b;
  view = view;
  state = state;
  k = k;
  c = c;
  low = low;
}

module _ (now : Moment) where
  open now use {script, limits, w, b, view, state, k, c, low}

  abbrev pub K : CarrierSeen
  K = carrier_at w c

  abbrev G : Programs
  G = ranged_programs script

  pub number_is : K.number ≡ c
  number_is = (k.aligned.carriers c low).number

  pub viewed : IsViewed view K
  viewed = ap view.carrier number_is ∙ (k.aligned.carriers c low).viewed

  pub given : IsGiven K
  given = (k.aligned.carriers c low).given

  pub table_is : K.table ≡ script.table
  table_is = (k.aligned.carriers c low).sound.table

  pub in_view : c < view.carriers
  in_view = subst (λ n. c < n) (sym k.aligned.count) low

  -- it is counted, where it has a context in hand and isn't switching
  pub hand_counted : IsHandCounted (carrier_view K)
  hand_counted = subst IsHandCounted (k.aligned.carriers c low).viewed (k.whole.counted c in_view)

  -- what is so of the carrier then
  pub record IsAfter (j : CarrierSeen) : Type 0 where
    pub number : j.number ≡ c
    pub answered : j.awaits ≡ awaits.Nothing
    pub starts : length j.starts ≡ 64
    pub help : IfSome j.help (λ p. p.context < script.table + length w.carriers)

  -- with this carrier changed, and threads and lists as they were
  pub whole_stays : (j : tokens.Carrier) → IsGood (with_carrier view K.number j) → IsHandCounted j →
      WholeHolds script b (with_carrier view K.number j) w.history state
  whole_stays j good counted = record {
    holds = k.whole.holds;
    pair =
        still_pair G b view k.whole.pair (with_carrier view K.number j) good
        (record { threads = refl; ready = refl; lists = refl; running = refl; own = refl });
    hands =
        λ d far. ap (λ (x : tokens.Carrier). x.hand) (upd_other view.carrier K.number j d (apart d far))
        ∙ k.whole.hands d far;
    starts =
        λ d t far. ap (λ (x : tokens.Carrier). x.starts t) (upd_other view.carrier K.number j d (apart d far))
        ∙ k.whole.starts d t far;
    owns = k.whole.owns;
    victims = k.whole.victims;
    counted = one_counted view K.number j counted k.whole.counted;
  }
    where
      apart : (d : ℕ) → view.carriers ≤ d → d ≢ K.number
      apart d far e = let l = in_view in let n = number_is in omega (arith, e, far, l, n)

  -- ONE CARRIER CHANGED

  module _ (w' : World) (j : CarrierSeen) (is : w'.carriers ≡ slice_set w.carriers c j) where
    pub same_count : length w'.carriers ≡ length w.carriers
    same_count = ap length is ∙ length-set w.carriers c j

    mine : carrier_at w' c ≡ j
    mine = ap (λ xs. get_or xs c (new_carrier 0 0)) is ∙ get_or-set_same w.carriers c j (new_carrier 0 0) low

    others : (d : ℕ) → d ≢ c → carrier_at w' d ≡ carrier_at w d
    others d ne =
        ap (λ xs. get_or xs d (new_carrier 0 0)) is ∙ get_or-set_other w.carriers c d j (new_carrier 0 0) ne

    -- what is so of each carrier
    pub each : (P : ℕ → CarrierSeen → Type 0) → P c j → ((d : ℕ) → d < length w.carriers → d ≢ c → P d (carrier_at w d)) →
        (d : ℕ) → d < length w'.carriers → P d (carrier_at w' d)
    each P here there d few = elim (eqb_tells d c) [
      | inl e ↦ subst (λ m. P m (carrier_at w' m)) (sym e.1) (subst (P c) (sym mine) here)
      | inr ne ↦ subst (P d) (sym (others d ne.1)) (there d (subst (λ m. d < m) same_count few) ne.1)
    ]

  -- A MOVE

  unchanged : (moved script c w).unstarted ≡ w.unstarted
  unfolding moved
  unchanged = refl

  carriers_are : (moved script c w).carriers ≡ slice_set w.carriers c (carrier_after (step_in script c w))
  unfolding moved step_in
  carriers_are = refl

  module _ (j : CarrierSeen) (after : carrier_after (step_in script c w) ≡ j) (fits : IsAfter j) (b' : Board)
      (shows : ShowsBoard script (moved script c w) b') (history : (moved script c w).history ≡ w.history)
      (serials : SerialsHold b' (length w.history)) where
    set : (moved script c w).carriers ≡ slice_set w.carriers c j
    set = carriers_are ∙ ap (slice_set w.carriers c) after

    -- any carriers of which the whole holds
    pub handled : (view' : tokens.World) → view'.carrier ≡ upd view.carrier c (carrier_view j) → view'.unmade ≡ view.unmade →
        view'.carriers ≡ view.carriers → WholeHolds script b' view' w.history state → IsTurned (ranged_programs script) b b' →
        IsStepTo (ranged_programs script) b view c b' view' ⊎ HasCompany view c →
        IsHandled script b view c (moved script c w) w.history state
    handled view' one unmade same whole turned steps = record {
      board = b';
      view = view';
      matched = record {
        shows = shows;
        carriers = each (moved script c w) j set (λ d x. IsMatched d x view') here there;
        count = same ∙ k.aligned.count ∙ sym (same_count (moved script c w) j set);
        few = subst (λ n. n ≤ 8) (sym (same_count (moved script c w) j set)) k.aligned.few;
        unstarted = unmade ∙ k.aligned.unstarted ∙ ap is_due (sym unchanged);
        numbers = ap length unchanged ∙ k.aligned.numbers;
      };
      helps =
          each (moved script c w) j set
          (λ d x. IfSome x.help (λ p. p.context < script.table + length (moved script c w).carriers))
          (within j fits.help) (λ d few ne. within (carrier_at w d) (k.helps d few));
      turned = turned;
      steps = steps;
      history = history;
      whole = subst (λ (es : List Entry). WholeHolds script b' view' es state) (sym history) whole;
      serials = subst (λ (es : List Entry). SerialsHold b' (length es)) (sym history) serials;
    }
      where
        within : (x : CarrierSeen) → IfSome x.help (λ p. p.context < script.table + length w.carriers) →
            IfSome x.help (λ p. p.context < script.table + length (moved script c w).carriers)
        within x h =
            subst (λ n. IfSome x.help (λ p. p.context < script.table + n)) (sym (same_count (moved script c w) j set)) h

        here : IsMatched c j view'
        here = record {
          number = fits.number;
          answered = fits.answered;
          starts = fits.starts;
          viewed = ap (λ (f : ℕ → tokens.Carrier). f c) one ∙ upd_same view.carrier c (carrier_view j);
        }

        there : (d : ℕ) → d < length w.carriers → d ≢ c → IsMatched d (carrier_at w d) view'
        there d few ne = let a = k.aligned.carriers d few in record {
          number = a.number;
          answered = a.answered;
          starts = a.given.starts;
          viewed =
              ap (λ (f : ℕ → tokens.Carrier). f d) one ∙ upd_other view.carrier c (carrier_view j) d ne ∙ a.viewed;
        }

    -- the carriers after a step that makes no entry
    pub by_step : (s : Step G b view c b') → is_of_thread G b view c b' s ≡ false →
        ((t : ThreadStep) → (carrier_step view c t).carrier ≡ upd view.carrier c (carrier_view j)) →
        ((t : ThreadStep) → (carrier_step view c t).unmade ≡ view.unmade) →
        IsHandled script b view c (moved script c w) w.history state
    by_step s other one unmade =
        let quiet = no_point G b view c b' s other in
        let g = whole_goes_on script limits b view w.history state k.whole c in_view b' s in
        handled (carrier_step view c g.step) (one g.step) (unmade g.step) (step_one c view g.step).carriers
        (subst (WholeHolds script b' (carrier_step view c g.step) w.history)
        (subst (λ (p : Option Point). Grows G b state p g.new b') quiet g.history)
        (subst (λ (es : List Entry). WholeHolds script b' (carrier_step view c g.step) es g.new)
        (ap (λ (p : Option Point). w.history ++ entries_of b p) quiet ∙ append-nil w.history) g.whole))
        (step_turned (ranged_programs script) b view c b' s)
        (inl (record { step = s; other = other; made = g.step; kind = g.kind; leads = refl }))
