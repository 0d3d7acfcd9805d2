-- A carrier puts down the context in its hand.
use Rattle.std.proofs.Common.{◌≡◌, ℕ, Bool, true, false, refl, sym, ap, ◌∙◌, subst, Option, Some, None}
use Rattle.std.specs.Prelude.{if◌then◌else◌, is_some}
use Rattle.k_model.specs.Maps.{upd}
use Rattle.k_model.proofs.Maps.{upd_same}
use Rattle.k_script.specs.Script.{Script}
use Rattle.k_switch.specs.declared.goal.Switched.{Switched}
use Rattle.k_switch.specs.declared.carrier_context.CarrierContext.{CarrierContext}
use Rattle.k_switch.specs.declared.switch.Switch.{Switch}
use Rattle.k_switch.specs.declared.switch.SwitchLocation.{SwitchLocation}
use Rattle.k_switch.specs.declared.switch.SwitchLocation.TheVariants as location
use Rattle.k_switch.specs.Switches as switch
use Rattle.k_switch.specs.Carriers.{switched_in as switched_switch}
use Rattle.k_context.specs.Contexts.{ContextSeen, Thread, Carrier, without_switch}
use Rattle.k_carrier.specs.declared.moves.Awaits.TheVariants as awaits
use Rattle.k_carrier.specs.declared.moves.Help.{Help}
use Rattle.k_carrier.specs.Answers as answer
use Rattle.k_carrier.specs.Asked.{PutDown, Run, ask_at, ask_of, ask_with, asked, asked_by, rested}
use Rattle.k_carrier.specs.Resumed as carriers
use Rattle.k_carrier.specs.Rules.{gives, is_own, is_released, own_switched, readied, switched_in}
use Rattle.k_carrier.specs.Seen.{CarrierSeen, HandSeen}
use Rattle.k_tokens.specs.World.{ContextName, OfThread, OfCarrier, OwnContext, World}
use Rattle.k_tokens.specs.World as tokens
use Rattle.k_tokens.specs.Steps.{ThreadStep}
use Rattle.k_switching.specs.Rules as rules
use Rattle.k_grants.specs.Views.{name_by, name_of}
use Rattle.k_moves.specs.Views.{IsViewed, ShowsAt, ShowsContext, ShowsOwn, carrier_view, goal_in, help_in, number_in}
use Rattle.k_moves.specs.Moved.{IsMoved, held_with, own_with}
use Rattle.k_moves.proofs.Names.{name_beyond, name_inside}
use Rattle.k_moves.proofs.Rules.{IsNamed, gives_same, named_so, released_by}
use Rattle.k_moves.proofs.Takes.{shows_as, shows_else}

-- it has that context in hand, and a rule by which it puts it down, or none
pub record HasAsked (k : CarrierSeen) (h : HandSeen) (given : Bool) : Type 0 where
  pub hand : k.hand ≡ Some h
  pub gives : gives k h ≡ given

pub put_asks : (k : CarrierSeen) (h : HandSeen) → ask_of k ≡ PutDown h → HasAsked k h true
put_asks k h e = by k.hand refl e
  where
    at_none : (s : Option ℕ) → ask_at (readied k) s ≡ PutDown h → ⊥
    at_none None z = absurd cc
    at_none (Some bits) z = absurd cc

    held : (x : HandSeen) (t : Bool) → gives k x ≡ t → k.hand ≡ Some x → (if t then PutDown x else Run x) ≡ PutDown h →
        HasAsked k h true
    held x true g q z = let y : x ≡ h = cc in record { hand = q ∙ ap Some y; gives = ap (gives k) (sym y) ∙ g }
    held x false g q z = absurd cc

    by : (o : Option HandSeen) → k.hand ≡ o → ask_with k o ≡ PutDown h → HasAsked k h true
    by (Some x) q z = held x (gives k x) refl q z
    by None q z = absurd (at_none (readied k).looked z)

pub run_asks : (k : CarrierSeen) (h : HandSeen) → ask_of k ≡ Run h → HasAsked k h false
run_asks k h e = by k.hand refl e
  where
    at_none : (s : Option ℕ) → ask_at (readied k) s ≡ Run h → ⊥
    at_none None z = absurd cc
    at_none (Some bits) z = absurd cc

    held : (x : HandSeen) (t : Bool) → gives k x ≡ t → k.hand ≡ Some x → (if t then PutDown x else Run x) ≡ Run h →
        HasAsked k h false
    held x false g q z = let y : x ≡ h = cc in record { hand = q ∙ ap Some y; gives = ap (gives k) (sym y) ∙ g }
    held x true g q z = absurd cc

    by : (o : Option HandSeen) → k.hand ≡ o → ask_with k o ≡ Run h → HasAsked k h false
    by (Some x) q z = held x (gives k x) refl q z
    by None q z = absurd (at_none (readied k).looked z)

-- the step of a carrier with this in hand
pub hand_so : (w : World) (k : CarrierSeen) (h : HandSeen) (s : ThreadStep) (t : Bool) → IsViewed w k → HasAsked k h t →
    ShowsContext w k.table h.context h.value → rules.carrier_step w k.number s ≡
    rules.hand_step w k.number (name_of k.table h.context) s t
hand_so w k h s t viewed at shows =
    ap (rules.carrier_step_by w k.number s) (ap (λ (c : tokens.Carrier). c.hand) viewed
    ∙ ap (λ o. name_by k.table (number_in o)) at.hand) ∙ ap
    (λ (c : tokens.Carrier). rules.hand_step w k.number (name_of k.table h.context) s
    (rules.gives w k.number c (name_of k.table h.context))) viewed
    ∙ ap (rules.hand_step w k.number (name_of k.table h.context) s) (gives_same w k h shows ∙ at.gives)

module _ (w : World) (k : CarrierSeen) (h : HandSeen) (viewed : IsViewed w k)
    (shows : ShowsContext w k.table h.context h.value) where
  abbrev N : ℕ
  N = h.context

  -- the carrier without its hand
  abbrev Put : CarrierSeen
  Put = record k { hand = None; awaits = awaits.Nothing; putting = false; help = if is_released k h then None else k.help }

  help_if : (t : Bool) (p : Option Help) → (if t then None else help_in k.table p) ≡ help_in k.table (if t then None else p)
  help_if true p = refl
  help_if false p = refl

  put_viewed : (nm : ContextName) → nm ≡ name_of k.table N → rules.put_down w (w.carrier k.number) nm ≡ carrier_view Put
  put_viewed nm e =
      (λ z. rules.put_down w (viewed z) (e z)) ∙ (λ z. record (carrier_view k) { hand = None; putting = false; help = helped z })
    where
      helped : rules.help_after w (help_in k.table k.help) (name_of k.table N) ≡
          help_in k.table (if is_released k h then None else k.help)
      helped =
          ap (λ (t : Bool). if t then None else help_in k.table k.help) (released_by w k.table N h.value shows k.help)
          ∙ help_if (is_released k h) k.help

  -- nothing is over
  abbrev Laid : ContextName → World
  Laid nm =
      record w {
        held = held_with nm None w.held;
        held_own = own_with nm None w.held_own;
        carrier = upd w.carrier k.number (rules.put_down w (w.carrier k.number) nm);
      }

  as_it_was : (nm : ContextName) (W : World) → name_of k.table N ≡ nm → W ≡ Laid nm → IsMoved w W k Put N h.value None
  as_it_was nm W e q = subst (λ (x : World). IsMoved w x k Put N h.value None) (sym q) (record {
    carrier = ap (upd w.carrier k.number) (put_viewed nm (sym e));
    held = ap (λ m. held_with m None w.held) (sym e);
    held_own = ap (λ m. own_with m None w.held_own) (sym e);
    here = shows_as w (Laid nm) k.table N h.value refl refl shows;
    others = λ i u ne. shows_as w (Laid nm) k.table i u refl refl;
    lists = refl;
    running = refl;
    ready = refl;
    unmade = refl;
    carriers = refl;
  })

  -- its own switch is
  over_moves : (x : CarrierContext) (p : Switch) (d : Switched) → h.value ≡ Carrier x → x.switch ≡ Some p →
      p.location ≡ location.Finished d → ShowsContext w k.table N (Carrier x) →
      IsMoved w (rules.given_own w k.number x.carrier true) k (carriers.switched_to Put (Some d)) N
      (without_switch (Carrier x)) None
  over_moves x p d is on over s = record {
    carrier =
        ap (λ (c : tokens.Carrier). upd w.carrier k.number (rules.switched_to c (w.own x.carrier)))
        (put_viewed (OfCarrier x.carrier) (sym named)) ∙ (λ z.
        upd w.carrier k.number (record (carrier_view Put) {
          goal = finished.0 z;
          counted = finished.1 z;
          switching = false;
        }));
    held = ap (λ m. held_with m None w.held) (sym named);
    held_own = ap (λ m. own_with m None w.held_own) (sym named);
    here =
        (s.0, ap (λ (o : OwnContext). o.stage) (upd_same w.own x.carrier (record (w.own x.carrier) { stage = tokens.NoSwitch })));
    others =
        λ i u ne. shows_else w (rules.given_own w k.number x.carrier true) k.table i N x.carrier u
        (record (w.own x.carrier) { stage = tokens.NoSwitch }) refl refl s.0 ne;
    lists = refl;
    running = refl;
    ready = refl;
    unmade = refl;
    carriers = refl;
  }
    where
      named : name_of k.table N ≡ OfCarrier x.carrier
      named = ap (name_of k.table) s.0 ∙ name_beyond k.table x.carrier

      finished : (((w.own x.carrier).goal ≡ goal_in d.goal) × ((w.own x.carrier).counted ≡ is_some d.goal) ×
          ((w.own x.carrier).idle ≡ d.idle))
      finished =
          subst (λ (l : SwitchLocation). ShowsAt (w.own x.carrier) (switch.at_of l)) over
          (subst (λ (o : Option Switch). ShowsOwn o (w.own x.carrier)) on s.1).at

  -- ANY GIVE, by the context that it puts down
  by_value : (v : ContextSeen) → h.value ≡ v → ShowsContext w k.table N v → (t : Bool) → is_own k h ≡ t →
      IsMoved w (rules.given w k.number (name_of k.table N)) k (carriers.switched_to Put (switched_in t v)) N (rested t v) None
  by_value (Thread t) e s true o =
      subst (λ (u : ContextSeen). IsMoved w (rules.given w k.number (name_of k.table N)) k Put N u None) e
      (as_it_was (OfThread N) (rules.given w k.number (name_of k.table N)) (name_inside k.table N s.inside)
      (ap (rules.given w k.number) (name_inside k.table N s.inside)))
  by_value (Thread t) e s false o =
      subst (λ (u : ContextSeen). IsMoved w (rules.given w k.number (name_of k.table N)) k Put N u None) e
      (as_it_was (OfThread N) (rules.given w k.number (name_of k.table N)) (name_inside k.table N s.inside)
      (ap (rules.given w k.number) (name_inside k.table N s.inside)))
  by_value (Carrier x) e s t o = by t (switched_in t (Carrier x)) refl o
    where
      named : name_of k.table N ≡ OfCarrier x.carrier
      named = ap (name_of k.table) s.0 ∙ name_beyond k.table x.carrier

      is : IsNamed w k N (Carrier x) (name_of k.table N)
      is = named_so w k N (Carrier x) s

      -- whether its own switch is over
      given_is : (t : Bool) (b : Bool) → is_own k h ≡ t → is_some (switched_in t (Carrier x)) ≡ b →
          rules.given w k.number (name_of k.table N) ≡ rules.given_own w k.number x.carrier b
      given_is t b o q =
          ap (rules.given w k.number) named ∙ ap (rules.given_own w k.number x.carrier)
          (ap (rules.has_switched w k.number) (sym named) ∙ is.switched ∙ ap (λ (u : Bool). is_some (switched_in u (Carrier x))) o
          ∙ q)

      none_over : (t : Bool) → switched_in t (Carrier x) ≡ None → is_own k h ≡ t →
          IsMoved w (rules.given w k.number (name_of k.table N)) k (carriers.switched_to Put (switched_in t (Carrier x))) N
          (rested t (Carrier x)) None
      none_over t q o =
          subst (λ (d : Option Switched). IsMoved w (rules.given w k.number (name_of k.table N)) k (carriers.switched_to Put d) N
          (if is_some d then without_switch (Carrier x) else Carrier x) None) (sym q)
          (subst (λ (u : ContextSeen). IsMoved w (rules.given w k.number (name_of k.table N)) k Put N u None) e
          (as_it_was (OfCarrier x.carrier) (rules.given w k.number (name_of k.table N)) named
          (given_is t false o (ap is_some q))))

      finished_at : (p : Switch) (d : Switched) → switch.switched_at p.location ≡ Some d → p.location ≡ location.Finished d
      finished_at p d q = by p.location q
        where
          by : (l : SwitchLocation) → switch.switched_at l ≡ Some d → l ≡ location.Finished d
          by (location.Finished y) z = let u : y ≡ d = cc in ap location.Finished u
          by location.AcquireReady z = absurd cc
          by (location.Locked y lists) z = absurd cc
          by (location.ListsReturned y) z = absurd cc

      over : (d : Switched) → switched_in true (Carrier x) ≡ Some d → is_own k h ≡ true → (o : Option Switch) → x.switch ≡ o →
          IsMoved w (rules.given w k.number (name_of k.table N)) k (carriers.switched_to Put (Some d)) N
          (without_switch (Carrier x)) None
      over d q o None on = absurd (let z : None ≡ Some d = sym (ap switched_switch on) ∙ q in cc)
      over d q o (Some p) on =
          subst (λ (y : World). IsMoved w y k (carriers.switched_to Put (Some d)) N (without_switch (Carrier x)) None)
          (sym (given_is true true o (ap is_some q))) (over_moves x p d e on
          (finished_at p d (sym (ap switched_switch on) ∙ q)) s)

      by : (t : Bool) (r : Option Switched) → switched_in t (Carrier x) ≡ r → is_own k h ≡ t →
          IsMoved w (rules.given w k.number (name_of k.table N)) k (carriers.switched_to Put (switched_in t (Carrier x))) N
          (rested t (Carrier x)) None
      by t None q o = none_over t q o
      by false (Some d) q o = absurd cc
      by true (Some d) q o =
          subst (λ (r : Option Switched). IsMoved w (rules.given w k.number (name_of k.table N)) k (carriers.switched_to Put r) N
          (if is_some r then without_switch (Carrier x) else Carrier x) None) (sym q) (over d q o x.switch refl)

pub give_is_same : (script : Script) (w : World) (k : CarrierSeen) (h : HandSeen) (s : ThreadStep) → IsViewed w k →
    ask_of k ≡ PutDown h → ShowsContext w k.table h.context h.value →
    IsMoved w (rules.carrier_step w k.number s) k (carriers.resumed (asked script k) answer.Given) h.context
    (rested (is_own k h) h.value) None
give_is_same script w k h s viewed asks shows =
    subst (λ (x : World). IsMoved w x k (carriers.resumed (asked script k) answer.Given) h.context
    (rested (is_own k h) h.value) None) (sym (hand_so w k h s true viewed (put_asks k h asks) shows))
    (subst (λ (x : CarrierSeen). IsMoved w (rules.given w k.number (name_of k.table h.context)) k x h.context
    (rested (is_own k h) h.value) None) (sym resumes) (by_value w k h viewed shows h.value refl shows (is_own k h) refl))
  where
    resumes : carriers.resumed (asked script k) answer.Given ≡ carriers.switched_to (Put w k h viewed shows) (own_switched k h)
    resumes = ap (λ a. carriers.resumed (asked_by script k a) answer.Given) asks
