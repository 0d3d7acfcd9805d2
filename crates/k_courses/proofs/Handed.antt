-- A carrier looks at a context, takes one or gives one: the board stays as it is, and so does each context.
use Rattle.std.proofs.Common.{◌≡◌, ◌≢◌, ℕ, ◌<◌, ◌==◌, Bool, true, false, refl, sym, ap, ◌∙◌, subst, Option, Some, None}
use Rattle.std.proofs.Common.{inl, inr}
use Rattle.std.specs.Prelude.{if◌then◌else◌}
use Rattle.std.proofs.lemmas.Bool.{eqb-true}
use Rattle.std.proofs.lemmas.Bool.Decides.{eqb_tells}
use Rattle.k_ids.specs.declared.context_word.ContextWord.{ContextWord}
use Rattle.k_ids.specs.declared.context_word.ContextWord.TheVariants.{Clean, Empty, Holds as HoldsOne, Taken}
use Rattle.k_ids.specs.ContextWords.{IsContextWord, IsVersion, context_bits, context_word_of}
use Rattle.k_ids.proofs.ContextSpelled.{context-read}
use Rattle.k_model.specs.Maps.{upd}
use Rattle.k_model.proofs.Maps.{upd_other, upd_same}
use Rattle.k_locks.specs.declared.locks.WordName.TheVariants as word
use Rattle.k_locks.specs.declared.points.Point.{Point}
use Rattle.k_script.specs.Script.{Script}
use Rattle.k_context.specs.Contexts.{ContextSeen, locks_of, owner_of}
use Rattle.k_carrier.specs.Answers.{AnswerSeen, TakeLost}
use Rattle.k_carrier.specs.Asked.{CarrierAsk, LookAt, PutDown, Take, ask_of, asked_by}
use Rattle.k_carrier.specs.Asked.{rested, resting_word, taken_word, version_in}
use Rattle.k_carrier.specs.Asked.{version_of}
use Rattle.k_carrier.specs.Moves.{Look}
use Rattle.k_carrier.specs.Resumed.{point_of, resumed}
use Rattle.k_carrier.specs.Rules.{holds_any, is_own}
use Rattle.k_carrier.specs.Seen.{CarrierSeen, HandSeen}
use Rattle.k_world.specs.Moves.{found_by, took}
use Rattle.k_world.specs.Steps.{caller_in, carrier_after, entry_by, moved}
use Rattle.k_world.specs.Worlds.{Away, Guarded, Resting as Lying, Slot, World, carrier_at, held_in, resting_in}
use Rattle.k_board.specs.Boards.{Board}
use Rattle.k_places.specs.Memory.{Memory, Place, Same, at, memory_of, memory_with, serials_with}
use Rattle.k_places.specs.Shows.{AreInPlace, IsInHand, Shows, ShowsBoard, Stands, context_by, context_in}
use Rattle.k_places.proofs.Places.{held_is, version_held}
use Rattle.k_places.proofs.Takes.{given_shown, taken_shown, with_places}
use Rattle.k_places.proofs.Words.{upd_own}
use Rattle.k_joint.specs.Ready.{IsTaking}
use Rattle.k_joint.proofs.Carried.{given_hand, look_empty, looked_after, maps_asked, put_down_hand, readied_hand}
use Rattle.k_joint.proofs.Grabs.{Aim, Heard, IsThere, hand_then, take_empty, value_taken}
use Rattle.k_joint.proofs.Runs.{MapsWith, StepWith, hand_is, whole_moved}
use Rattle.k_aligned.specs.Aligned.{found_in}
use Rattle.k_waits.proofs.Others.{same_found}
use Rattle.k_onward.specs.Stepping.{IsStepping}

-- The world then shows the boards that it showed, and each context is as it was.
pub record IsUnmoved (script : Script) (w w' : World) : Type 0 where
  pub shows : (b : Board) → ShowsBoard script w b → ShowsBoard script w' b
  pub found : (i : ℕ) → found_in w' i ≡ found_in w i

module _ (script : Script) (w : World) (s : IsStepping script w) where
  abbrev K : CarrierSeen
  K = carrier_at w 0

  abbrev pub M : Memory
  M = memory_of w

  abbrev pub B : Board
  B = s.before.board

  maps_with : (a : CarrierAsk) → ask_of (carrier_at w 0) ≡ a → memory_of (moved script 0 w) ≡ MapsWith script w 0 a
  maps_with = maps_asked script w 0 s.before.board s.before.aligned.shows s.within

  -- where no map changes
  still : memory_of (moved script 0 w) ≡ memory_of w → IsUnmoved script w (moved script 0 w)
  still same = record {
    shows = λ b sh. record {
      whole = whole_moved script w 0 sh.whole;
      shows = subst (λ (m : Memory). Shows script m b) (sym same) sh.shows;
    };
    found = λ i. ap (λ (m : Memory). context_in m.context m.slot m.hand i) same;
  }

  nothing_new : (n : ℕ) → (carrier_at w 0).hand ≡ None →
      with_places M (upd M.context n (M.context n)) M.slot (upd M.hand 0 None) ≡ memory_of w
  nothing_new n none = λ d. with_places M (upd_own M.context n d) M.slot (back d)
    where
      back : upd M.hand 0 None ≡ M.hand
      back = ap (λ (z : Option HandSeen). upd M.hand 0 z) (sym (hand_is w 0 ∙ none)) ∙ upd_own M.hand 0

  -- A LOOK

  pub look_unmoved : (n : ℕ) → ask_of (carrier_at w 0) ≡ LookAt n → IsUnmoved script w (moved script 0 w)
  look_unmoved n e = still (maps_with (LookAt n) e ∙ ap given empty ∙ nothing_new n (look_empty (carrier_at w 0) n e))
    where
      given : Option HandSeen → Memory
      given h = with_places M (upd M.context n (M.context n)) M.slot (upd M.hand 0 h)

      empty : (carrier_after (StepWith script w 0 (LookAt n))).hand ≡ None
      empty =
          looked_after (asked_by script (carrier_at w 0) (LookAt n)) (found_by w (Look n)) ∙ readied_hand (carrier_at w 0)
          ∙ look_empty (carrier_at w 0) n e

  -- A GIVE

  module _ (h : HandSeen) (e : ask_of (carrier_at w 0) ≡ PutDown h) (same : rested (is_own
      (carrier_at w 0) h) h.value ≡ h.value) where
    abbrev Given : ContextSeen → Memory
    Given v = with_places M (upd M.context h.context (context_bits (resting_word h.value))) (upd M.slot h.context (Lying v))
        (upd M.hand 0 None)

    was : M.hand 0 ≡ Some h
    was = hand_is w 0 ∙ put_down_hand (carrier_at w 0) h e

    version : IsVersion (version_held h)
    version =
        let p = s.before.aligned.shows.shows.places in
        let whole : IsContextWord (Taken 0 (version_held h)) = subst IsContextWord (p.taken 0 h was)
        (p.spelled h.context).whole in
        whole.1

    maps : memory_of (moved script 0 w) ≡ Given h.value
    maps =
        maps_with (PutDown h) e
        ∙ ap (λ (o : Option HandSeen). with_places M (upd M.context h.context (context_bits (resting_word h.value)))
        (upd M.slot h.context (Lying (rested (is_own (carrier_at w 0) h) h.value))) (upd M.hand 0 o)) (given_hand _ _)
        ∙ ap Given same

    shown : (b : Board) → Shows script M b → Shows script (Given h.value) b
    shown b sh = given_shown script M b 0 h.context h.value sh was version

    places : AreInPlace (Given h.value).context (Given h.value).slot (Given h.value).hand
    places = (shown B s.before.aligned.shows.shows).places

    rests : (q : Bool) → holds_any (locks_of h.value) ≡ q → context_word_of (context_bits
        (resting_word h.value)) ≡ resting_word h.value
    rests true q = context-read (resting_word h.value) (rw q version)
    rests false q = context-read (resting_word h.value) (rw q version)

    lies : (q : Bool) → context_by (Given h.value).slot (Given h.value).hand h.context
        (if q then HoldsOne (version_of (owner_of h.value)) else Clean (version_of (owner_of h.value))) ≡ Some h.value
    lies true = ap resting_in (upd_same M.slot h.context (Lying h.value))
    lies false = ap resting_in (upd_same M.slot h.context (Lying h.value))

    here : context_in (Given h.value).context (Given h.value).slot (Given h.value).hand h.context ≡ Some h.value
    here =
        ap (λ z. context_by (Given h.value).slot (Given h.value).hand h.context (context_word_of z))
        (upd_same M.context h.context (context_bits (resting_word h.value)))
        ∙ ap (context_by (Given h.value).slot (Given h.value).hand h.context) (rests (holds_any (locks_of h.value)) refl)
        ∙ lies (holds_any (locks_of h.value))

    others : (j : ℕ) → j ≢ h.context → context_in (Given h.value).context (Given h.value).slot (Given h.value).hand j
        ≡ context_in M.context M.slot M.hand j
    others j ne =
        by (context_word_of ((Given h.value).context j)) (places.stands j)
        ∙ ap (λ z. context_by M.slot M.hand j (context_word_of z))
        (upd_other M.context h.context (context_bits (resting_word h.value)) j ne)
      where
        by : (z : ContextWord) → Stands (Given h.value).slot (Given h.value).hand j z →
            context_by (Given h.value).slot (Given h.value).hand j z ≡ context_by M.slot M.hand j z
        by Empty st = refl
        by (Clean x) st = ap resting_in (upd_other M.slot h.context (Lying h.value) j ne)
        by (HoldsOne x) st = ap resting_in (upd_other M.slot h.context (Lying h.value) j ne)
        by (Taken d x) st = elim (eqb_tells d 0) [
          | inr far ↦ ap held_in (upd_other M.hand 0 None d far.1)
          | inl near ↦
              let gone : (Given h.value).hand d ≡ None = ap (Given h.value).hand near.1 ∙ upd_same M.hand 0 None in
              absurd (subst (λ (o : Option HandSeen). IsInHand o j x) gone st)
        ]

    pub give_unmoved : IsUnmoved script w (moved script 0 w)
    give_unmoved = record {
      shows = λ b sh. record {
        whole = whole_moved script w 0 sh.whole;
        shows = subst (λ (m : Memory). Shows script m b) (sym maps) (shown b sh.shows);
      };
      found = λ i. ap (λ (m : Memory). context_in m.context m.slot m.hand i) maps ∙ elim (eqb_tells i h.context) [
        | inl at ↦
            ap (context_in (Given h.value).context (Given h.value).slot (Given h.value).hand) at.1 ∙ here
            ∙ sym (held_is M.context M.slot M.hand 0 h s.before.aligned.shows.shows.places was)
            ∙ ap (context_in M.context M.slot M.hand) (sym at.1)
        | inr ne ↦ others i ne.1
      ];
    }

  -- A TAKE

  module _ (n bits : ℕ) (e : ask_of (carrier_at w 0) ≡ Take n bits) (sound : IsTaking script 0 (carrier_at w 0)) where
    abbrev Asks : CarrierSeen
    Asks = asked_by script (carrier_at w 0) (Take n bits)

    abbrev New : ℕ
    New = context_bits (taken_word (carrier_at w 0).number (context_word_of bits))

    abbrev Answered : Bool → Slot → AnswerSeen
    Answered q sl = if q then took (M.context n) sl else TakeLost (M.context n)

    abbrev Maps : Bool → Slot → Memory
    Maps q sl =
        memory_with M (word.Context n) (if q then New else M.context n) (if q then Place n Away else Same)
        (upd M.hand 0 (resumed Asks (Answered q sl)).hand) M.serial

    no_point : (q : Bool) (sl : Slot) → point_of Asks (caller_in w Asks.hand) (Answered q sl) ≡ None
    no_point false sl = refl
    no_point true (Lying v) = refl
    no_point true (Guarded g) = refl
    no_point true Away = refl

    abbrev MapsNoted : Option Point → Memory
    MapsNoted p =
        memory_with M (word.Context n) (if M.context n == bits then New else M.context n)
        (if M.context n == bits then Place n Away else Same) (upd M.hand 0
        (resumed Asks (Answered (M.context n == bits) (M.slot n))).hand) (serials_with (entry_by w p) M.serial)

    maps_noted : MapsWith script w 0 (Take n bits) ≡ MapsNoted
        (point_of Asks (caller_in w Asks.hand) (Answered (M.context n == bits) (M.slot n)))
    unfolding at
    maps_noted = refl

    maps_take : memory_of (moved script 0 w) ≡ Maps (M.context n == bits) (M.slot n)
    maps_take = maps_with (Take n bits) e ∙ maps_noted ∙ ap MapsNoted (no_point (M.context n == bits) (M.slot n))

    pub lost_unmoved : (M.context n == bits) ≡ false → IsUnmoved script w (moved script 0 w)
    lost_unmoved q =
        still (maps_take ∙ ap (λ t. Maps t (M.slot n)) q
        ∙ ap (λ (h : Option HandSeen). with_places M (upd M.context n (M.context n)) M.slot (upd M.hand 0 h))
        (readied_hand (carrier_at w 0) ∙ take_empty (carrier_at w 0) n bits e)
        ∙ nothing_new n (take_empty (carrier_at w 0) n bits e))

    module _ (won : (M.context n == bits) ≡ true) (v : ContextSeen)
        (h : IsThere script w 0 B s.before.aligned.shows s.within n bits e sound won v)
        (same : value_taken (Heard script w 0 B s.before.aligned.shows s.within n bits e sound)
        (Aim script w 0 B s.before.aligned.shows s.within n bits e sound) v ≡ v) where
      abbrev Has : HandSeen
      Has = record { context = n; value = v }

      abbrev Final : Memory
      Final =
          with_places M (upd M.context n (context_bits (Taken 0 (version_held Has)))) (upd M.slot n Away)
          (upd M.hand 0 (Some Has))

      found_word : M.context n ≡ bits
      found_word = eqb-true (M.context n) bits won

      new_is : New ≡ context_bits (Taken 0 (version_held Has))
      new_is =
          λ d. context_bits (Taken (sound.number d)
          ((ap (λ z. version_in (context_word_of z)) (sym found_word) ∙ h.version) d))

      hand_is_now : (resumed Asks (took (M.context n) (M.slot n))).hand ≡ Some Has
      hand_is_now =
          hand_then script w 0 B s.before.aligned.shows s.within n bits e sound won v h
          ∙ ap (λ u. Some (record { context = n; value = u })) same

      maps_won : memory_of (moved script 0 w) ≡ Final
      maps_won =
          maps_take ∙ ap (λ t. Maps t (M.slot n)) won
          ∙ (λ d. with_places M (upd M.context n (new_is d)) (upd M.slot n Away) (upd M.hand 0 (hand_is_now d)))

      free : M.hand 0 ≡ None
      free = hand_is w 0 ∙ take_empty (carrier_at w 0) n bits e

      shown_taken : (b : Board) → Shows script M b → Shows script Final b
      shown_taken b sh =
          taken_shown script M b 0 n v sh (context_word_of (M.context n)) free (refl, h.rests, h.free)
          (subst (λ x. x < 8) sound.number sound.sound.number, h.whole)

      places_taken : AreInPlace Final.context Final.slot Final.hand
      places_taken = (shown_taken B s.before.aligned.shows.shows).places

      pub won_unmoved : IsUnmoved script w (moved script 0 w)
      won_unmoved = record {
        shows = λ b sh. record {
          whole = whole_moved script w 0 sh.whole;
          shows = subst (λ (m : Memory). Shows script m b) (sym maps_won) (shown_taken b sh.shows);
        };
        found = λ i. ap (λ (m : Memory). context_in m.context m.slot m.hand i) maps_won ∙ elim (eqb_tells i n) [
          | inl at ↦
              ap (context_in Final.context Final.slot Final.hand) at.1
              ∙ held_is Final.context Final.slot Final.hand 0 Has places_taken (upd_same M.hand 0 (Some Has))
              ∙ sym h.rests ∙ ap (context_in M.context M.slot M.hand) (sym at.1)
          | inr ne ↦
              same_found script M Final 0 n Has refl refl s.before.aligned.shows.shows.places places_taken i ne.1
              (upd_other M.context n _ i ne.1) (upd_other M.slot n Away i ne.1)
        ];
      }
