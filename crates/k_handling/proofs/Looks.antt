-- A carrier looks at a context: the board stays, and the goal may be dropped.
use Rattle.std.proofs.Common.{◌≡◌, ℕ, ◌+◌, ◌<◌, Bool, true, false, length, refl, sym, ap, ◌∙◌, subst, Option, Some, None}
use Rattle.std.proofs.Common.{arith, ◌⊎◌, inl, inr}
use Rattle.k_ids.specs.declared.context_word.ContextWord.TheVariants.{Taken}
use Rattle.k_ids.specs.ContextWords.{context_word_of}
use Rattle.k_locks.specs.declared.locks.WordName.TheVariants as name
use Rattle.k_model.specs.Maps.{upd}
use Rattle.k_carrier.specs.declared.moves.Awaits.TheVariants as awaits
use Rattle.k_carrier.specs.Answers as answer
use Rattle.k_carrier.specs.Asked.{CarrierAsk, LookAt, ask_of, asked_by}
use Rattle.k_carrier.specs.Resumed.{resumed}
use Rattle.k_carrier.specs.Rules.{readied, target_of}
use Rattle.k_carrier.specs.Seen.{CarrierSeen, HandSeen}
use Rattle.k_world.specs.Steps.{moved}
use Rattle.k_world.specs.Worlds.{carrier_at, word_at}
use Rattle.k_places.specs.Memory.{Memory, memory_of}
use Rattle.k_places.specs.Shows.{Shows}
use Rattle.k_places.proofs.Raw.{word_is}
use Rattle.k_places.proofs.Takes.{nothing_changed, with_places}
use Rattle.k_joint.proofs.Runs.{MapsWith, hand_is}
use Rattle.k_tokens.specs.Good.{IsGood}
use Rattle.k_plays.specs.Scripts.{ranged_programs}
use Rattle.k_tokens.specs.Steps.{FindsTaken}
use Rattle.k_tokens.specs.World.{with_carrier}
use Rattle.k_switching.specs.Rules.{carrier_step, word_of}
use Rattle.k_grants.specs.Views.{name_by, name_of}
use Rattle.k_moves.specs.Views.{carrier_view, number_in}
use Rattle.k_moves.specs.Moved.{is_replaced}
use Rattle.k_moves.proofs.Looks.{IsGone, gone_is, look_asks, look_keeps, look_same}
use Rattle.k_whole.specs.Whole.{stays}
use Rattle.k_whole.proofs.Counted.{IsHandCounted}
use Rattle.k_handling.specs.Handling.{HasCompany, IsHandled, IsStepTo}
use Rattle.k_handling.proofs.Handles.{Moment, given, handled, in_view, number_is, table_is, viewed}
use Rattle.k_handling.proofs.Handles.{whole_stays}
use Rattle.k_handling.proofs.Moves.{aim_within, board_shown, heard_after, history_is, look_kept, next_is}
use Rattle.k_handling.proofs.Moves.{nobody_in_hand, readied_kept, still_as}
use Rattle.k_handling.proofs.Words.{hand_held, hand_viewed, held_at, held_told, word_shown}

module _ (now : Moment) where
  open now use {script, limits, w, b, view, state, k, c, low}

  abbrev K : CarrierSeen
  K = carrier_at w c

  abbrev M : Memory
  M = memory_of w

  -- the word of the context that it is to take
  pub aim_word : (n : ℕ) → n < script.table + length w.carriers →
      word_of view (name_of K.table n) ≡ context_word_of (word_at w (name.Context n))
  aim_word n few =
      ap (λ m. word_of view (name_of m n)) (table_is now)
      ∙ word_shown script w b view state k n few ∙ ap context_word_of (sym (word_is w (name.Context n)))

  -- no more numbers have contexts than there are words
  pub few_contexts : (n : ℕ) → n < script.table + length w.carriers → n < 72
  few_contexts n few = let t = limits.table.1 in let u = k.aligned.few in omega (arith, few, t, u)

  module _ (n : ℕ) (asks : ask_of K ≡ LookAt n) where
    abbrev Bits : ℕ
    Bits = word_at w (name.Context n)

    -- the carrier then
    abbrev J : CarrierSeen
    J = resumed (asked_by script K (LookAt n)) (answer.Looked Bits)

    aimed : n < script.table + length w.carriers
    aimed = subst (λ m. m < script.table + length w.carriers) (look_asks K n asks).place
        (aim_within now)

    empty : J.hand ≡ None
    empty =
        (look_kept (record (readied K) { awaits = awaits.Nothing }) (target_of (readied K)) (context_word_of Bits) Bits).hand
        ∙ (readied_kept K).hand ∙ (look_asks K n asks).free

    shows : Shows script (MapsWith script w c (LookAt n)) b
    shows =
        subst (λ (h : Option HandSeen). Shows script (with_places M (upd M.context n (M.context n)) M.slot (upd M.hand c h)) b)
        (sym empty) (nothing_changed script M b c n k.aligned.shows.shows (hand_is w c ∙ (look_asks K n asks).free))

    good : IsGood (with_carrier view K.number (carrier_view J))
    good =
        subst (λ a. IsGood (with_carrier view K.number (carrier_view (resumed (asked_by script K a) (answer.Looked Bits))))) asks
        (look_keeps script view K n Bits (viewed now) (given now) asks (aim_word n aimed) k.whole.pair.world
        (subst (λ m. m < view.carriers) (sym (number_is now)) (in_view now)))

    -- without a context in hand it need not be
    counted : IsHandCounted (carrier_view J)
    counted x e off = let no : None ≡ Some x = sym (ap (λ h. name_by J.table (number_in h)) empty) ∙ e in cc

    -- THE STEP: the view's carrier looks too, and does the same, but where the goal's number has another thread by now

    nothing : (view.carrier c).hand ≡ None
    nothing = hand_viewed script w b view state k c None low (look_asks K n asks).free

    abbrev Replaces : Bool
    Replaces = is_replaced (target_of (readied K)) (context_word_of Bits)

    looks : Replaces ≡ false → IsStepTo (ranged_programs script) b view c b (with_carrier view K.number (carrier_view J))
    looks r = record {
      step = stays (nobody_in_hand view c nothing) (still_as (ap (λ m. carrier_step view m FindsTaken) (sym (number_is now)) ∙ same)
          (record { threads = refl; ready = refl; lists = refl; running = refl; own = refl }));
      other = refl;
      made = FindsTaken;
      kind = tt;
      leads = sym same ∙ ap (λ m. carrier_step view m FindsTaken) (number_is now);
    }
      where
        same : carrier_step view K.number FindsTaken ≡ with_carrier view K.number (carrier_view J)
        same =
            look_same script view K n Bits FindsTaken (viewed now) (given now) asks (aim_word n aimed) r
            ∙ ap (λ (a : CarrierAsk). with_carrier view K.number (carrier_view (resumed (asked_by script K a)
            (answer.Looked Bits)))) asks

    in_company : Replaces ≡ true → HasCompany view c
    in_company r = record {
      carrier = gone.carrier;
      context = name_of script.table n;
      other = λ e. (let z : None ≡ Some (name_of script.table n) =
          sym nothing ∙ ap (λ m. (view.carrier m).hand) (sym e) ∙ hand in absurd cc);
      hand = hand;
    }
      where
        gone : IsGone K (context_word_of Bits)
        gone = gone_is K (context_word_of Bits) r

        held : held_at view (name_of script.table n) ≡ Some gone.carrier
        held =
            held_told script w b view state k n (Taken gone.carrier gone.version)
            (ap context_word_of (sym (word_is w (name.Context n))) ∙ gone.word)

        hand : (view.carrier gone.carrier).hand ≡ Some (name_of script.table n)
        hand = hand_held script w b view state k gone.carrier (name_of script.table n) held

    steps : (r : Bool) → Replaces ≡ r →
        IsStepTo (ranged_programs script) b view c b (with_carrier view K.number (carrier_view J)) ⊎ HasCompany view c
    steps false r = inl (looks r)
    steps true r = inr (in_company r)

    pub look_handled : IsHandled script b view c (moved script c w) w.history state
    look_handled =
        handled now J (next_is now (LookAt n) asks (answer.Looked Bits) refl (λ x. refl) word)
        (heard_after now J
        (look_kept (record (readied K) { awaits = awaits.Nothing }) (target_of (readied K)) (context_word_of Bits) Bits).kept) b
        (board_shown now (LookAt n) asks (answer.Looked Bits) refl (λ x. refl) word b shows)
        (history_is now (LookAt n) asks (answer.Looked Bits) refl (λ x. refl) word)
        k.serials (with_carrier view K.number (carrier_view J))
        (ap (λ m. upd view.carrier m (carrier_view J)) (number_is now)) refl refl
        (whole_stays now (carrier_view J) good counted) (inl refl) (steps Replaces refl)
      where
        word : n < 72
        word = few_contexts n aimed
