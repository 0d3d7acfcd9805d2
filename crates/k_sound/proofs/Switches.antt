-- A switch stays sound over its step.
use Rattle.std.proofs.Common.{◌≡◌, ◌<◌, ℕ, Bool, true, false, refl, sym, ◌∙◌, subst, arith, eq-eqb, Option}
use Rattle.std.proofs.Common.{Some, None, IfSome}
use Rattle.std.specs.Prelude.{◌==◌, ◌&&◌, if◌then◌else◌, option_map}
use Rattle.k_ids.specs.declared.threads.ThreadId.{ThreadId}
use Rattle.k_ids.specs.declared.state_word.StateWord.{StateWord}
use Rattle.k_ids.specs.StateWords.{IsPartner, IsStateWord, state_word_of}
use Rattle.k_locks.specs.Asks.{Response, loaded, response_of}
use Rattle.k_locks.specs.Asks as asks
use Rattle.k_locks.specs.Hands.{Hand, hand_with}
use Rattle.k_locks.specs.Shown.{is_present_in}
use Rattle.k_locks.specs.Steps.{is_again}
use Rattle.k_locks.specs.Steps as steps
use Rattle.k_locks.specs.declared.steps.Answer.{Answer}
use Rattle.k_locks.specs.declared.steps.Answer.TheVariants as answer
use Rattle.k_locks.specs.declared.steps.Told.TheVariants as told
use Rattle.k_switch.specs.declared.carrier_context.CarrierContext.{CarrierContext}
use Rattle.k_switch.specs.declared.goal.Goal.{Goal}
use Rattle.k_switch.specs.declared.switch.Switch.{Switch}
use Rattle.k_switch.specs.declared.switch.SwitchCall.{SwitchCall}
use Rattle.k_switch.specs.declared.switch.SwitchLocation.{SwitchLocation}
use Rattle.k_switch.specs.declared.switch.SwitchLocation.TheVariants as location
use Rattle.k_switch.specs.declared.switch.SwitchLocked.TheVariants as locked
use Rattle.k_switch.specs.Carriers as carriers
use Rattle.k_switch.specs.Switches.{AcquireReady, Finished, IsFit, IsGoal, IsSound, IsSoundAt, IsSoundLocked}
use Rattle.k_switch.specs.Switches.{Locked, Returned, SwitchAt, ask_of, asked, asked_location, at_of}
use Rattle.k_switch.specs.Switches.{first_of_number, hand_after, hand_of, leads, moved, shown_on, to_goal}
use Rattle.k_switch.specs.Switches.{to_start}
use Rattle.k_switch.proofs.SwitchLaws.{at_with}

-- WHAT IS TOLD: a loaded word has a spelling

abbrev Tells : Response → Type 0
Tells (asks.Word w) = IsStateWord w
Tells r = Unit {0}

hears_word : (c : SwitchCall) (p : SwitchAt) (bits : ℕ) →
    loaded bits (ask_of c p) ≡ asks.Word (state_word_of bits)
hears_word c AcquireReady bits = refl
hears_word c (Locked (locked.LoadGoal goal)) bits = refl
hears_word c (Locked (locked.LoadStart back number)) bits = refl
hears_word c (Locked (locked.ReleaseReady back started)) bits = refl
hears_word c (Returned s) bits = refl
hears_word c (Finished s) bits = refl

tells_heard : (c : SwitchCall) (p : SwitchAt) (a : Answer) → IsFit a → Tells (response_of a (ask_of c p))
tells_heard c p (answer.Told (told.Loaded n)) fit = subst Tells (sym (hears_word c p n)) fit.whole
tells_heard c p a fit = tt

-- WHERE IT LEADS

shown_goal : (id : ThreadId) (w : StateWord) → IsPartner id → IsStateWord w → IfSome (shown_on id w) IsGoal
shown_goal id w partner whole = by (is_present_in w id && w.on)
  where
    by : (b : Bool) → IfSome (if b then Some (record { id = id; priority = w.priority }) else None) IsGoal
    by true = record { id = partner; priority = whole.priority }
    by false = tt

started : (start : Option ℕ) (back : Option Goal) → IfSome start (λ number. number < 64) →
    IfSome back IsGoal → IsSoundLocked (to_start start back)
started (Some number) back low goal = (goal, low)
started None back low goal = (goal, tt)

switched : (start : Option ℕ) (goal : Option Goal) → IfSome start (λ number. number < 64) →
    IfSome goal IsGoal → IsSoundLocked (to_goal start goal)
switched start (Some goal) low is = is
switched start None low is = started start None low tt

first_partner : (number : ℕ) → number < 64 → IsPartner (first_of_number number)
first_partner number low = record { number = low; born = omega arith; version = omega arith }

located : (c : SwitchCall) (h : Hand) (p : SwitchAt) (r : Response) → IfSome c.goal IsGoal →
    IfSome c.start (λ number. number < 64) → IsSoundAt p → Tells r → IsSoundAt (leads c h p r)
located c h AcquireReady asks.Got goal start sound told = switched c.start c.goal start goal
located c h (Locked (locked.LoadGoal g)) (asks.Word w) goal start sound told =
    started c.start (shown_on g.id w) start (shown_goal g.id w sound.id told)
located c h (Locked (locked.LoadStart back number)) (asks.Word w) goal start sound told =
    (sound.0, shown_goal (first_of_number number) w (first_partner number sound.1) told)
located c h (Locked (locked.ReleaseReady back began)) asks.Released goal start sound told = tt
located c h (Returned s) asks.Released goal start sound told = tt
located c h p r goal start sound told = sound

pub switch_stays : (s : Switch) (a : Answer) → IsSound s → IsFit a → IsSound (moved s a)
switch_stays s a sound fit =
    let h = hand_of s.location in
    let p = at_of s.location in
    let r = response_of a (ask_of s.call p) in
    record {
      goal = sound.goal;
      start = sound.start;
      located = subst IsSoundAt (sym (at_with (hand_with a (hand_after s.call h p r)) (leads s.call h p r)))
          (located s.call h p r sound.goal sound.start sound.located (tells_heard s.call p a fit));
    }

asked_located : (c : SwitchCall) (l : SwitchLocation) → IsSoundAt (at_of l) →
    IsSoundAt (at_of (asked_location c l))
asked_located c location.AcquireReady sound = sound
asked_located c (location.Locked (locked.LoadGoal goal) lists) sound = sound
asked_located c (location.Locked (locked.LoadStart back number) lists) sound = sound
asked_located c (location.Locked (locked.ReleaseReady back began) lists) sound = tt
asked_located c (location.ListsReturned s) sound = tt
asked_located c (location.Finished s) sound = tt

switch_asked : (s : Switch) → IsSound s → IsSound (asked s)
switch_asked s sound = record {
  goal = sound.goal;
  start = sound.start;
  located =
      asked_located s.call s.location sound.located;
}

-- A CARRIER'S OWN CONTEXT

mapped : (o : Option Switch) (f : Switch → Switch) → ((s : Switch) → IsSound s → IsSound (f s)) →
    IfSome o IsSound → IfSome (option_map f o) IsSound
mapped (Some s) f keeps sound = keeps s sound
mapped None f keeps sound = tt

pub own_asked : (k : CarrierContext) → carriers.IsSound k → carriers.IsSound (carriers.asked k)
own_asked k sound = record {
  carrier = sound.carrier;
  uncounted = sound.uncounted;
  switch =
      mapped k.switch asked switch_asked sound.switch;
}

uncounted : (k : CarrierContext) → (k.serial ≡ carriers.last_serial → k.done ≡ 0) →
    k.serial ≡ carriers.last_serial → carriers.done_after k ≡ 0
uncounted k was last = (λ e. if (test e) then k.done else steps.one_more k.done) ∙ was last
  where
    test : (k.serial == carriers.last_serial) ≡ true
    test = eq-eqb k.serial carriers.last_serial last

pub own_answered : (k : CarrierContext) (a : Answer) → carriers.IsSound k → IsFit a →
    carriers.IsSound (carriers.resumed k a)
own_answered k a sound fit = by (is_again a)
  where
    by : (b : Bool) → carriers.IsSound (if b then k else record k {
      done = carriers.done_after k;
      switch =
          option_map (λ s. moved s a) k.switch;
    })
    by true = sound
    by false = record {
      carrier = sound.carrier;
      uncounted = uncounted k sound.uncounted;
      switch = mapped k.switch (λ s. moved s a) (λ s is. switch_stays s a is fit) sound.switch;
    }
