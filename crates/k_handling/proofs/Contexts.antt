-- What the good world has of a context that the raw world has: a thread's location on the board is what its threads say, and a
-- carrier's own context stands at its stage.
use Rattle.std.proofs.Common.{◌≡◌, ℕ, ◌+◌, ◌<◌, ◌==◌, Bool, true, false, refl, sym, ap, ◌∙◌, subst, Option}
use Rattle.std.proofs.Common.{Some, None}
use Rattle.std.specs.Prelude.{if◌then◌else◌}
use Rattle.std.proofs.lemmas.Bool.{eqb-true}
use Rattle.k_ids.specs.declared.threads.ThreadId.{ThreadId}
use Rattle.k_script.specs.Script.{Script}
use Rattle.k_caller.specs.declared.activity.Activity.{Activity}
use Rattle.k_caller.specs.declared.activity.Activity.TheVariants as activity
use Rattle.k_caller.specs.Activities.{locks_of}
use Rattle.k_caller.specs.Threads.{ThreadSeen}
use Rattle.k_switch.specs.declared.goal.Goal.{Goal}
use Rattle.k_switch.specs.declared.carrier_context.CarrierContext.{CarrierContext}
use Rattle.k_switch.specs.declared.switch.Switch.{Switch}
use Rattle.k_switch.specs.declared.switch.SwitchCall.{SwitchCall}
use Rattle.k_switch.specs.declared.switch.SwitchLocked.TheVariants as locked
use Rattle.k_switch.specs.Switches.{SwitchAt, at_of}
use Rattle.k_switch.specs.Switches as switch
use Rattle.k_context.specs.Contexts.{ContextSeen, Thread, Carrier}
use Rattle.k_world.specs.Worlds.{World}
use Rattle.k_board.specs.Boards.{At, Board, Context, Coming}
use Rattle.k_places.specs.Contexts.{IsShown, at_in, switch_at}
use Rattle.k_places.specs.Contexts as places
use Rattle.k_places.specs.Shows.{ShowsBoard}
use Rattle.k_tokens.specs.World.{OwnContext, Stage, Threads, is_open}
use Rattle.k_tokens.specs.World as tokens
use Rattle.k_grants.specs.Views.{held_of, look_at, made_by}
use Rattle.k_stages.specs.Stages.{AreAlike, IsCall, IsOwn, IsStage, goal_by, id_in, start_by}
use Rattle.k_moves.specs.Views.{ShowsAt, ShowsCall, ShowsContext, ShowsOwn, ShowsThread, condition_of}
use Rattle.k_moves.specs.Views.{first_by, goal_in, stage_of, told_goal}
use Rattle.k_aligned.specs.Aligned.{AreSound, found_in}

-- A THREAD

-- what its location on the board is about
record IsAbout (a : Activity) : Type 0 where
  pub condition : (look_at (at_in a)).condition ≡ condition_of a
  pub made : (look_at (at_in a)).is_coming ≡ false
  pub locks : (look_at (at_in a)).locks ≡ held_of (locks_of a)

about : (a : Activity) → IsAbout a
about (activity.Alone p) = record { condition = refl; made = refl; locks = refl }
about (activity.Send s) = record { condition = refl; made = refl; locks = refl }
about (activity.Receive s) = record { condition = refl; made = refl; locks = refl }
about (activity.Create s) = record { condition = refl; made = refl; locks = refl }
about (activity.Destroy s) = record { condition = refl; made = refl; locks = refl }

-- the same of a thread that may be one that isn't made yet
record IsLooked (p : At) (version : ℕ) (t : ThreadSeen) : Type 0 where
  pub condition : (look_at p).condition ≡ condition_of t.activity
  pub made : made_by (look_at p).is_coming version ≡ t.id.version
  pub locks : (look_at p).locks ≡ held_of (locks_of t.activity)

-- A SWITCH

pub id_is : (g : Option Goal) → id_in g ≡ goal_in g
id_is None = refl
id_is (Some g) = refl

goal_is : (who : Option ThreadId) (seen : Option ℕ) → goal_by who seen ≡ told_goal who seen
goal_is None seen = refl
goal_is (Some who) None = refl
goal_is (Some who) (Some priority) = refl

start_is : (number seen : Option ℕ) → start_by number seen ≡ told_goal (first_by number) seen
start_is None seen = refl
start_is (Some number) None = refl
start_is (Some number) (Some priority) = refl

call_is : (c : SwitchCall) (own : OwnContext) → IsCall c own → ShowsCall c own
call_is c own h = record { goal = h.goal ∙ id_is c.goal; counted = h.counted; slice_ended = h.slice; start = h.start }

-- where it stands, with what it knows there
record IsAtStage (c : SwitchCall) (p : SwitchAt) (own : OwnContext) : Type 0 where
  pub stage : own.stage ≡ stage_of p
  pub call : is_open own.stage ≡ true → ShowsCall c own
  pub at : ShowsAt own p

stage_is : (c : SwitchCall) (p : SwitchAt) (own : OwnContext) → IsStage c p own → IsAtStage c p own
stage_is c switch.AcquireReady own h = record { stage = h.1; call = λ o. call_is c own h.0; at = tt }
stage_is c (switch.Locked (locked.LoadGoal goal)) own h = record {
  stage = h.1;
  call = λ o. call_is c own h.0;
  at = h.0.goal ∙ ap id_in h.2;
}
stage_is c (switch.Locked (locked.LoadStart back number)) own h = record {
  stage = h.1;
  call = λ o. call_is c own h.0;
  at = (h.3 ∙ goal_is own.goal own.goal_seen, h.0.start ∙ h.2);
}
stage_is c (switch.Locked (locked.ReleaseReady back started)) own h = record {
  stage = h.1;
  call = λ o. call_is c own h.0;
  at = (h.2 ∙ goal_is own.goal own.goal_seen, h.3 ∙ start_is own.start own.start_seen);
}
stage_is c (switch.Returned s) own h = absurd h
stage_is c (switch.Finished s) own h = record {
  stage = h.0;
  call = λ o. absurd (let z : is_open tokens.Finished ≡ true = ap is_open (sym h.0) ∙ o in cc);
  at = (h.1 ∙ id_is s.goal, h.2, h.3);
}

switch_shown : (o : Option Switch) (own : OwnContext) → IsOwn (switch_at o) own → ShowsOwn o own
switch_shown None own h = h
switch_shown (Some s) own h =
    let x = stage_is s.call (at_of s.location) own h in record { stage = x.stage; call = x.call; at = x.at }

-- ANY CONTEXT

module _ (script : Script) (w : World) (b : Board) (view : tokens.World) (sh : ShowsBoard script w b) (alike : AreAlike b view)
    (sound : AreSound script w) where
  -- what the board has of it
  pub on_board : (n : ℕ) (v : ContextSeen) → found_in w n ≡ Some v →
      places.ShowsContext (b.seen n).word n (Some v) (b.context n)
  on_board n v e =
      subst (λ (o : Option ContextSeen). places.ShowsContext (b.seen n).word n o (b.context n)) e (sh.shows.contexts n)

  looked : (n : ℕ) (t : ThreadSeen) → IsShown (b.seen n).word n t (b.context n) →
      IsLooked (b.context n).at (b.seen n).word.version t
  looked n t s = by ((b.seen n).word.version == t.id.version) refl
    where
      stands : (q : Bool) → ((b.seen n).word.version == t.id.version) ≡ q →
          (b.context n).at ≡ (if q then at_in t.activity else Coming)
      stands q e = ap (λ (z : Context). z.at) s.context ∙ ap (λ (z : Bool). if z then at_in t.activity else Coming) e

      by : (q : Bool) → ((b.seen n).word.version == t.id.version) ≡ q → IsLooked (b.context n).at (b.seen n).word.version t
      by true e = record {
        condition = ap (λ p. (look_at p).condition) (stands true e) ∙ (about t.activity).condition;
        made =
            ap (λ p. made_by (look_at p).is_coming (b.seen n).word.version) (stands true e)
            ∙ ap (λ m. made_by m (b.seen n).word.version) (about t.activity).made
            ∙ eqb-true (b.seen n).word.version t.id.version e;
        locks = ap (λ p. (look_at p).locks) (stands true e) ∙ (about t.activity).locks;
      }
      by false e = let c = s.coming (stands false e) in record {
        condition = ap (λ p. (look_at p).condition) (stands false e) ∙ ap condition_of (sym c.doing);
        made = ap (λ p. made_by (look_at p).is_coming (b.seen n).word.version) (stands false e) ∙ sym c.version;
        locks = ap (λ p. (look_at p).locks) (stands false e) ∙ ap (λ a. held_of (locks_of a)) (sym c.doing);
      }

  pub thread_shown : (n : ℕ) (t : ThreadSeen) → found_in w n ≡ Some (Thread t) → ShowsThread view.threads script.table n t
  thread_shown n t e = let s = on_board n (Thread t) e in let l = looked n t s in record {
    number = s.number;
    inside = subst (λ m. m < script.table) s.number (sound n (Thread t) e).1.inside;
    made = ap (λ (x : Threads). x.made n) alike.agrees.threads ∙ l.made;
    condition = ap (λ (x : Threads). x.condition n) alike.agrees.threads ∙ l.condition;
    locks = ap (λ (x : Threads). x.locks n) alike.agrees.threads ∙ l.locks;
  }

  own_shown : (n : ℕ) (x : CarrierContext) → found_in w n ≡ Some (Carrier x) → ShowsContext view script.table n (Carrier x)
  own_shown n x e = (
    sym number,
    switch_shown x.switch (view.own x.carrier) (subst (λ p. IsOwn p (view.own x.carrier)) stands (alike.stages x.carrier)),
  )
    where
      number : script.table + x.carrier ≡ n
      number = (sound n (Carrier x) e).0

      stands : (b.context (b.size + x.carrier)).at ≡ switch_at x.switch
      stands =
          ap (λ m. (b.context (m + x.carrier)).at) sh.shows.size ∙ ap (λ m. (b.context m).at) number ∙ on_board n (Carrier x) e

  pub context_shown : (n : ℕ) (v : ContextSeen) → found_in w n ≡ Some v → ShowsContext view script.table n v
  context_shown n (Thread t) e = thread_shown n t e
  context_shown n (Carrier x) e = own_shown n x e
