-- The whole holds at the start, and after every step of every carrier.
use Rattle.std.proofs.Common.{◌≡◌, ℕ, ◌+◌, ◌<◌, true, refl, sym, ap, ◌∙◌, subst, Option, Some, None, List, [], ◌++◌}
use Rattle.std.proofs.lemmas.List.{append-nil}
use Rattle.k_ids.specs.declared.histories.Entry.{Entry}
use Rattle.k_locks.specs.declared.points.Point.{Point}
use Rattle.k_model.specs.State.{KernelState}
use Rattle.k_script.specs.Limits.{IsScript}
use Rattle.k_script.specs.Plays.{opened_for}
use Rattle.k_script.specs.Script.{Script}
use Rattle.k_caller.specs.declared.thread.ThreadLocation.TheVariants as location
use Rattle.k_switch.specs.Switches as switch
use Rattle.k_board.specs.Boards.{Alone, Board, InSwitch, Resting}
use Rattle.k_board.specs.Steps.{placed, switch_board}
use Rattle.k_board.specs.Turns as turn
use Rattle.k_board.specs.Turns.{Turn}
use Rattle.k_board.specs.Words.{Programs}
use Rattle.k_good.specs.Good.{QueuesTell}
use Rattle.k_good.specs.Ranges.{NamesFit}
use Rattle.k_tokens.specs.World.{ContextName, OfCarrier, OfThread, World}
use Rattle.k_tokens.specs.Grants.{Grants}
use Rattle.k_tokens.specs.Steps.{FindsTaken, ThreadStep}
use Rattle.k_switching.specs.Boot.{Opening, boot}
use Rattle.k_switching.specs.Claims.{Granted, IsAsked}
use Rattle.k_switching.specs.Rules.{carrier_step, parked, sliced, started}
use Rattle.k_switching.proofs.Rules.{parked_good, sliced_good, started_good, step_good}
use Rattle.k_points.specs.Points.{Grows, turn_point}
use Rattle.k_legal.specs.Runs.{entries_of}
use Rattle.k_plays.specs.Scripts.{ranged_programs}
use Rattle.k_plays.proofs.Tables.{ranged_fit}
use Rattle.k_invariant.specs.Invariant.{BoardHolds}
use Rattle.k_invariant.proofs.Keeps.{goes_on, tells}
use Rattle.k_invariant.proofs.Starts.{board_starts}
use Rattle.k_paired.specs.Pairs.{IsPair}
use Rattle.k_paired.proofs.Pairs.{begin_pair, end_pair, pair_begins, still_pair, switch_pair, thread_pair, wake_pair}
use Rattle.k_whole.specs.Whole.{IsBeginning, IsStepOf, OwnsThere, Step, WholeGoesOn, WholeHolds, step_point}
use Rattle.k_whole.specs.Whole.{begins_switch, ends_switch, runs, stays, switches, wakes}
use Rattle.k_whole.proofs.Counted.{counted_stay, parked_counted, sliced_counted, started_counted}
use Rattle.k_whole.proofs.Hands.{hands_stay, parked_hands, same_starts, sliced_hands, started_hands, started_starts, starts_stay}
use Rattle.k_whole.proofs.Owns.{not_nowhere, owns_left, owns_moved, owns_stay}
use Rattle.k_whole.proofs.Victims.{victims_stay}

module _ (script : Script) (limits : IsScript script) where
  names_fit : (b : Board) → b.size ≡ script.table → NamesFit (ranged_programs script) b.size
  names_fit b e = subst (NamesFit (ranged_programs script)) (sym e) (ranged_fit script)

  pub whole_starts : (b : Board) (o : Opening) → IsBeginning script b o → WholeHolds script b (boot o) [] (opened_for script)
  whole_starts b o h = let f = h.board.first in record {
    holds = board_starts script limits b h.board;
    pair = pair_begins (ranged_programs script) b o f.booted f.free f.agree f.count (names_fit b h.board.size) h.low h.world;
    hands = λ d l. refl;
    starts = λ d t l. refl;
    owns = λ d l. not_nowhere (b.context (b.size + d)).at Resting (h.owns d l) (λ z. cc);
    victims = λ who e. cc;
    counted = λ d l x e off. cc;
  }

module _ (script : Script) (limits : IsScript script) (b : Board) (w : World) (es : List Entry) (k : KernelState)
    (h : WholeHolds script b w es k) where
  abbrev G : Programs
  G = ranged_programs script

  told : (i : ℕ) → QueuesTell b i
  told i = tells script limits b es k h.holds i

  module _ (c : ℕ) (low : c < w.carriers) where
    -- the step is a turn, and the world that it leaves is a pair with the board
    by_turn : (i : ℕ) (b' : Board) (t : Turn G b i b') (s : Step G b w c b') (step : ThreadStep) →
        turn_point G b i b' t ≡ step_point G b w c b' s → IsStepOf G b w c b' s step → Granted w c step
        → IsPair G b' (carrier_step w c step) → OwnsThere b' (carrier_step w c step) → WholeGoesOn script b w es k c b' s
    by_turn i b' t s step e kind granted pair owns =
        let g = goes_on script limits b es k h.holds i b' t in
        record {
          step = step;
          kind = kind;
          new = g.new;
          history = subst (λ (p : Option Point). Grows G b k p g.new b') e g.history;
          whole = record {
            holds = subst (λ (p : Option Point). BoardHolds script b' (es ++ entries_of b p) g.new) e g.holds;
            pair = pair;
            hands = hands_stay w c step low h.hands;
            starts = starts_stay w c step low h.starts;
            owns = owns;
            victims = victims_stay w c step h.pair.world granted h.victims;
            counted = counted_stay w c step h.pair.world low h.counted;
          };
        }

    -- who is asked is the one context in hand
    asked_one : (i : ℕ) (step : ThreadStep) → IsAsked w c (OfThread i) → Grants w i step → Granted w c step
    asked_one i step asked grants t a =
        subst (λ n. Grants w n step) (ap number_in (sym asked.hand ∙ a.hand)) grants
      where
        number_in : Option ContextName → ℕ
        number_in (Some (OfThread n)) = n
        number_in (Some (OfCarrier n)) = n
        number_in None = 0

    pub whole_goes_on : (b' : Board) (s : Step G b w c b') → WholeGoesOn script b w es k c b' s
    whole_goes_on b' (runs i _ f asked wait free t) =
        let p = thread_pair G b w h.pair c i b' f asked (told i) wait free t in
        by_turn i b' t (runs i b' f asked wait free t) p.step refl (p.kind, p.grants)
        (asked_one i p.step asked p.grants) p.pair
        (owns_left b w c p.step h.owns G h.pair i asked b' t)
    whole_goes_on _ (switches d s p r asked at going an) =
        by_turn (b.size + d) _ (turn.switches s p r at going an) (switches d s p r asked at going an) FindsTaken refl tt
        (λ _ _. tt)
        (switch_pair G b w h.pair c d FindsTaken low asked s p r at going an (told (b.size + d)))
        (owns_moved b w c FindsTaken h.owns (switch_board b (b.size + d) (b.context (b.size + d)) s p r) (b.size + d) _ refl refl
        (λ z. cc))
    whole_goes_on _ (begins_switch s hand took at from) =
        by_turn (b.size + c) _ (turn.begins_switch s at) (begins_switch s hand took at from) FindsTaken refl tt (λ _ _. tt)
        (begin_pair G b w h.pair c FindsTaken s low hand took at from (told (b.size + c)))
        (owns_moved b w c FindsTaken h.owns (placed b (b.size + c)
        (record (b.context (b.size + c)) { at = InSwitch s switch.AcquireReady })) (b.size + c) _ refl refl (λ z. cc))
    whole_goes_on _ (ends_switch s o hand at) =
        by_turn (b.size + c) _ (turn.ends_switch s o at) (ends_switch s o hand at) FindsTaken refl tt (λ _ _. tt)
        (end_pair G b w h.pair c FindsTaken s o low hand at (told (b.size + c)))
        (owns_moved b w c FindsTaken h.owns (placed b (b.size + c) (record (b.context (b.size + c)) { at = Resting }))
        (b.size + c) _ refl refl (λ z. cc))
    whole_goes_on _ (wakes i hand took inside at) =
        by_turn i _ (turn.wakes at) (wakes i hand took inside at) FindsTaken refl tt (λ _ _. tt)
        (wake_pair G b w h.pair c i FindsTaken low hand took inside at (told i))
        (owns_moved b w c FindsTaken h.owns (placed b i (record (b.context i) { at = Alone location.LookAgain })) i _ refl refl
        (λ z. cc))
    whole_goes_on _ (stays nobody still) = record {
      step = FindsTaken;
      kind = tt;
      new = k;
      history = refl;
      whole = record {
        holds = subst (λ (l : List Entry). BoardHolds script b l k) (sym (append-nil es)) h.holds;
        pair =
            still_pair G b w h.pair (carrier_step w c FindsTaken)
            (step_good w c FindsTaken h.pair.world low (λ t a. absurd (nobody _ a))) still;
        hands = hands_stay w c FindsTaken low h.hands;
        starts = starts_stay w c FindsTaken low h.starts;
        owns = owns_stay b w c FindsTaken h.owns;
        victims = victims_stay w c FindsTaken h.pair.world (λ _ _. tt) h.victims;
        counted = counted_stay w c FindsTaken h.pair.world low h.counted;
      };
    }

  -- FROM OUTSIDE

  pub start_stays : (c t : ℕ) → c < w.carriers → w.unmade t ≡ true → WholeHolds script b (started w c t) es k
  start_stays c t low u = record {
    holds = h.holds;
    pair =
        still_pair G b w h.pair (started w c t) (started_good w c t h.pair.world u)
        (record { threads = refl; ready = refl; lists = refl; running = refl; own = refl });
    hands = started_hands w c h.hands t;
    starts = started_starts w c t low h.starts;
    owns = h.owns;
    victims = h.victims;
    counted = started_counted w c h.counted t;
  }

  pub slice_stays : (c : ℕ) → WholeHolds script b (sliced w c) es k
  slice_stays c = record {
    holds = h.holds;
    pair =
        still_pair G b w h.pair (sliced w c) (sliced_good w c h.pair.world)
        (record { threads = refl; ready = refl; lists = refl; running = refl; own = refl });
    hands = sliced_hands w c h.hands;
    starts = same_starts w c _ refl h.starts;
    owns = h.owns;
    victims = h.victims;
    counted = sliced_counted w c h.counted;
  }

  pub park_stays : (c : ℕ) → WholeHolds script b (parked w c) es k
  park_stays c = record {
    holds = h.holds;
    pair =
        still_pair G b w h.pair (parked w c) (parked_good w c h.pair.world)
        (record { threads = refl; ready = refl; lists = refl; running = refl; own = refl });
    hands = parked_hands w c h.hands;
    starts = same_starts w c _ refl h.starts;
    owns = h.owns;
    victims = h.victims;
    counted = parked_counted w c h.counted;
  }
