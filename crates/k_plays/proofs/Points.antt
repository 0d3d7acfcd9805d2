-- A history that follows its script does so with the entry of a linearization point too.
use Rattle.std.proofs.Common.{None, true, refl, ◌≡◌, ℕ, ◌*◌, ◌<◌, false, List, [], ◌∷◌}
use Rattle.std.proofs.Common.{◌++◌, length, sym, ap, ◌∙◌, subst, arith, Option, Some}
use Rattle.std.proofs.lemmas.Bool.{false≢true}
use Rattle.k_board.specs.Words.{Programs, Seen, Walks, act_noted, noted}
use Rattle.k_ids.specs.declared.calls.Act.{Act}
use Rattle.k_ids.specs.declared.calls.Act.TheVariants as act
use Rattle.k_ids.specs.declared.calls.Phase.{Phase}
use Rattle.k_ids.specs.declared.calls.Reply.{Reply}
use Rattle.k_ids.specs.declared.histories.Entry.{Entry}
use Rattle.k_locks.specs.Points.{entry_with}
use Rattle.k_locks.specs.declared.points.Point.{Point}
use Rattle.k_ids.specs.declared.threads.ThreadId.{ThreadId}
use Rattle.k_ids.specs.declared.calls.Outcome.{Outcome}
use Rattle.k_ids.specs.declared.calls.Outcome.TheVariants as outcome
use Rattle.k_model.proofs.Listed.{acts_living}
use Rattle.k_model.proofs.Maps.{upd_cases}
use Rattle.k_model.proofs.Sound.{inside_from}
use Rattle.k_model.specs.Maps.{upd}
use Rattle.k_model.specs.State.{KernelState, is_dead}
use Rattle.k_model.specs.Step.{acted}
use Rattle.k_plays.proofs.Calls.{IsNext, IsWalked, begins_next, next_in_bounds, walked}
use Rattle.k_plays.proofs.Messages.{moved_filled}
use Rattle.k_plays.proofs.Noted.{call_moves, gone_stands, pick_stands}
use Rattle.k_plays.proofs.Outcomes.{call_unfreed}
use Rattle.k_plays.proofs.States.{opened_words, step_words, told_words}
use Rattle.k_plays.specs.Ledgers.{AreLedgers, IsGiven, IsTold, MakesPoint, places_of}
use Rattle.k_plays.specs.Messages.{ActSendsWords, IsFilled, StateHasWords, ToldWords}
use Rattle.k_plays.specs.Scripts.{AreOf, IsInBounds}
use Rattle.k_positions.proofs.Histories.{same_self, step_gives, this_made}
use Rattle.k_positions.specs.Positions.{IsNextAct, begun, caller_to, moved_by, positions_after, program_at, reply_to_last}
use Rattle.k_room.proofs.Inside.{entry_range}
use Rattle.k_room.proofs.Wholes.{counted_here, first_leads, leads_on, next_few, told_within}
use Rattle.k_room.specs.Histories.{ComesNext, LeadsTo}
use Rattle.k_script.specs.Limits.{IsScript}
use Rattle.k_script.proofs.Within.{next_within, start_within}
use Rattle.k_script.specs.Plays.{IsInRange, IsWithin, Position, TellsInRange, created_program}
use Rattle.k_script.specs.Plays.{first_id, makes, moved, opened_for, start_of}
use Rattle.k_script.specs.Script.{Script}
use Rattle.k_script.specs.Weight.{phases_of}

pub starts_played : (script : Script) (g : Programs) (s : ℕ → Seen) → IsScript script → AreOf script g →
    ((t : ℕ) → t < length script.threads → (s t).position ≡ g.start (first_id t) (program_at script t)) →
    ((t : ℕ) → t < script.table → IsWithin script (s t).position × IsFilled (s t).position) →
    AreLedgers script [] (opened_for script) s
starts_played script g s limits are starts within = record {
  leads = first_leads script (places_of s) limits (λ t l. starts t l ∙ are.starts (first_id t) (program_at script t));
  within = λ t l. (within t l).0;
  filled = λ t l. (within t l).1;
  words = opened_words script.aged (length script.threads);
}

-- WHAT A THREAD GOES ON WITH

pub goes_on_with : (script : Script) (g : Programs) (es : List Entry) (k : KernelState) (s : ℕ → Seen) (who : ThreadId)
    (q : Position) (l : Option Reply) → IsScript script → AreOf script g → AreLedgers script es k s → who.number < script.table →
    IsTold k s who → Walks g (s who.number).position (s who.number).told q l →
    IsWalked script (s who.number).position (s who.number).told q l
goes_on_with script g es k s who q l limits are h inside told walk =
    walked script g are (s who.number).position (s who.number).told q l (record {
      within = h.within who.number inside;
      filled = h.filled who.number inside;
      told =
          subst (TellsInRange script.table) (sym told) (told_within script es k limits h.leads.follows who
          (k.place who.number).serial);
      words = subst ToldWords (sym told) (told_words k who (k.place who.number).serial h.words);
    }) walk

-- ONE POINT MORE

module _ (script : Script) (g : Programs) (es : List Entry) (k n : KernelState) (s : ℕ → Seen) (last : ℕ → ℕ) (p : Point)
    (at : Position) (limits : IsScript script) (are : AreOf script g) (h : AreLedgers script es k s)
    (m : MakesPoint g k s last p at n) where
  abbrev entry : Entry
  entry = entry_with last p

  -- the caller has a number of the table
  inside : p.who.number < script.table
  inside =
      let made = step_gives k n entry.event p.outcome m.made in
      let alive : is_dead (k.place p.who.number).status ≡ false = acts_living k p.who entry.event.serial p.act made.0 in
      let playing = (counted_here script es k (places_of s) limits h.leads).playing in
      subst (λ (m : ℕ). p.who.number < m) playing.size (inside_from k p.who.number playing.sound
      (λ e. false≢true (sym alive ∙ ap is_dead e)))

  bounds : IsInBounds script (s p.who.number).position (reply_to_last k p.who)
  bounds = record {
    within = h.within p.who.number inside;
    filled = h.filled p.who.number inside;
    told = told_within script es k limits h.leads.follows p.who (k.place p.who.number).serial;
    words = told_words k p.who (k.place p.who.number).serial h.words;
  }

  -- A call that is given is the next one of its program.
  given_next : (c : Phase) → IsGiven g k s p.who (act.Call c) at →
      IsNext script (s p.who.number).position (reply_to_last k p.who) c at
  given_next c d =
      let told = subst (IsInBounds script (s p.who.number).position) (sym d.0) bounds in
      let b = begins_next script g (s p.who.number).position (s p.who.number).told c at are told d.1 in
      subst (λ (r : Option Reply). IsNext script (s p.who.number).position r c at) d.0 b

  act_next : (a : Act) → IsGiven g k s p.who a at → IsNextAct script k (places_of s) p.who a
  act_next (act.Call c) d = (given_next c d).phase
  act_next act.Gone d = tt
  act_next act.Pick d = tt

  act_moves : (a : Act) (serial : ℕ) → IsGiven g k s p.who a at → acted k p.who serial a ≡ (n, p.outcome) → (t : ℕ) →
      places_of (act_noted g s p.who at a p.outcome) t ≡ begun script
      (caller_to (places_of s) p.who a (moved_by a (s p.who.number).position (reply_to_last k p.who)))
      (created_program a) p.outcome t
  act_moves (act.Call c) serial d gives t =
      call_moves script g are s p.who at c t p.outcome (call_unfreed k n p.who serial c p.outcome gives)
      ∙ ap (λ (q : Position). begun script (upd (places_of s) p.who.number q) (created_program (act.Call c)) p.outcome t)
      (given_next c d).leads
  act_moves act.Gone serial d gives t = gone_stands s p.who t
  act_moves act.Pick serial d gives t = pick_stands s p.who p.outcome t

  moves : positions_after script k (places_of s) entry ≡ places_of (noted g s at (Some p))
  moves i t = sym (act_moves p.act entry.event.serial m.given (step_gives k n entry.event p.outcome m.made).1 t) i

  comes_next : ComesNext script k (places_of s) entry n
  comes_next = record { made = m.made; due = act_next p.act m.given }

  point_leads : LeadsTo script (es ++ entry ∷ []) n (places_of (noted g s at (Some p)))
  point_leads =
      subst (LeadsTo script (es ++ entry ∷ []) n) moves (leads_on script es k (places_of s) limits h.leads n entry comes_next)

  pub point_fits : length es < 2 * phases_of script
  point_fits = next_few script es k (places_of s) limits h.leads n entry comes_next

  -- THE MESSAGES of the state stay two words.

  act_words : (a : Act) → IsGiven g k s p.who a at → ActSendsWords a
  act_words (act.Call c) d =
      (next_in_bounds script (s p.who.number).position (reply_to_last k p.who) c at bounds (given_next c d)).0.1
  act_words act.Gone d = tt
  act_words act.Pick d = tt

  point_words : StateHasWords n
  point_words = step_words k n entry.event p.outcome (act_words p.act m.given) h.words m.made

  -- THE LEDGERS stay within the script, and filled with such messages: what holds of each position before, of the caller's next
  -- one and
  -- of each start of a program, holds of each position after.

  made_range : (id : ThreadId) (program : ℕ) → makes p.outcome id ≡ true → created_program p.act ≡ Some program →
      IsInRange script.table id
  made_range id program made creates =
      let c = counted_here script es k (places_of s) limits h.leads in
      subst (λ (m : ℕ). IsInRange m id) c.playing.size (entry_range k n entry id program c.playing.sound c.playing.ranged m.made
      (this_made entry id program made creates))

  module _ (Holds : Position → Type 0) (before : (t : ℕ) → t < script.table → Holds (s t).position)
      (next : Holds (moved (s p.who.number).position (reply_to_last k p.who)))
      (first : (id : ThreadId) (program : ℕ) → IsInRange script.table id → Holds (start_of script program id)) where
    caller_holds : (a : Act) (t : ℕ) → t < script.table →
        Holds (caller_to (places_of s) p.who a (moved_by a (s p.who.number).position (reply_to_last k p.who)) t)
    caller_holds (act.Call c) t l =
        let q = moved (s p.who.number).position (reply_to_last k p.who) in
        upd_cases Holds (places_of s) p.who.number q t (λ _. next) (λ _. before t l)
    caller_holds act.Gone t l = before t l
    caller_holds act.Pick t l = before t l

    begun_holds : (r : Option ℕ) (o : Outcome) (m : ℕ → Position) (t : ℕ) →
        ((id : ThreadId) (program : ℕ) → makes o id ≡ true → r ≡ Some program → IsInRange script.table id) → Holds (m t) →
        Holds (begun script m r o t)
    begun_holds None o m t range w = w
    begun_holds (Some program) (outcome.Made id) m t range w =
        upd_cases Holds m id.number (start_of script program id) t (λ _. first id program (range id program (same_self id) refl))
        (λ _. w)
    begun_holds (Some program) o m t range w = w

    point_holds : (t : ℕ) → t < script.table → Holds (noted g s at (Some p) t).position
    point_holds t l =
        let after = caller_to (places_of s) p.who p.act (moved_by p.act (s p.who.number).position (reply_to_last k p.who)) in
        subst Holds (ap (λ (x : ℕ → Position). x t) moves) (begun_holds (created_program p.act) p.outcome after t made_range
        (caller_holds p.act t l))

  pub point_played : AreLedgers script (es ++ entry ∷ []) n (noted g s at (Some p))
  point_played = record {
    leads = point_leads;
    within =
        point_holds (IsWithin script) h.within (next_within script script.version (s p.who.number).position
        (reply_to_last k p.who) bounds.within bounds.told).1
        (λ id program range. start_within script program id limits range);
    filled =
        point_holds IsFilled h.filled (moved_filled (s p.who.number).position (reply_to_last k p.who) bounds.filled bounds.words)
        (λ id program range. record { low = omega arith; high = omega arith });
    words = point_words;
  }
