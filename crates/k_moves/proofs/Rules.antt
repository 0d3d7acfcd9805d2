-- The rules of a carrier, of it and of its view.
use Rattle.std.proofs.Common.{◌≡◌, ℕ, ◌+◌, ◌<◌, ◌==◌, Bool, true, false, not, refl, sym, ap, ◌∙◌, subst, Option, Some, None}
use Rattle.std.specs.Prelude.{◌&&◌, ◌||◌, if◌then◌else◌, is_some, is_none, IfSome}
use Rattle.k_locks.specs.declared.locks.Lock.{Lock}
use Rattle.k_locks.specs.declared.locks.Lock.TheVariants as lock
use Rattle.k_switch.specs.declared.goal.Goal.{Goal}
use Rattle.k_switch.specs.declared.goal.Switched.{Switched}
use Rattle.k_switch.specs.declared.switch.Switch.{Switch}
use Rattle.k_switch.specs.declared.switch.SwitchLocation.{SwitchLocation}
use Rattle.k_switch.specs.declared.switch.SwitchLocation.TheVariants as location
use Rattle.k_switch.specs.declared.switch.SwitchLocked.TheVariants as locked
use Rattle.k_switch.specs.Switches as switch
use Rattle.k_caller.specs.Threads.{ThreadSeen}
use Rattle.k_switch.specs.declared.carrier_context.CarrierContext.{CarrierContext}
use Rattle.k_context.specs.Contexts.{ContextSeen, Thread, Carrier, locks_of, owner_of, switched_of}
use Rattle.k_carrier.specs.declared.moves.Help.{Help}
use Rattle.k_carrier.specs.Rules as carriers
use Rattle.k_carrier.specs.Seen.{CarrierSeen, HandSeen}
use Rattle.k_tokens.specs.World.{ContextName, OfThread, OfCarrier, World, holds, holds_ready, is_finished}
use Rattle.k_tokens.specs.World as tokens
use Rattle.k_switching.specs.Rules as rules
use Rattle.k_grants.specs.Views.{name_of}
use Rattle.k_moves.specs.Views.{ShowsContext, ShowsOwn, carrier_view, goal_in, help_in, readied_by, stage_of, target_in}
use Rattle.k_moves.proofs.Names.{name_beyond, name_inside, own_name, same_name}
use Rattle.k_moves.proofs.Holding.{activity_ranked, held_is, holds_by, holds_in, switch_held}

-- WITHOUT A HAND

some_goal : (g : Option Goal) → is_some (goal_in g) ≡ is_some g
some_goal None = refl
some_goal (Some g) = refl

none_goal : (g : Option Goal) → not (is_some (goal_in g)) ≡ is_none g
none_goal None = refl
none_goal (Some g) = refl

any_of : (a b c : Bool) → ((a || b) || c) ≡ (a || (b || c))
any_of true b c = refl
any_of false b c = refl

pub interrupted_same : (k : CarrierSeen) → rules.is_interrupted (carrier_view k) ≡ carriers.is_interrupted k
interrupted_same k = refl

pub begins_same : (k : CarrierSeen) → rules.begins (carrier_view k) ≡ carriers.begins k
begins_same k = ap (λ (t : Bool). carriers.is_interrupted k || (not k.switching && t)) (none_goal k.goal)

pub readied_same : (k : CarrierSeen) → carrier_view (carriers.readied k) ≡
    readied_by (rules.begins (carrier_view k)) (carrier_view k)
readied_same k = by (carriers.begins k) ∙ ap (λ (t : Bool). readied_by t (carrier_view k)) (sym (begins_same k))
  where
    by : (t : Bool) → carrier_view (if t then record k { switching = true; help = None; looked = None } else k) ≡
        readied_by t (carrier_view k)
    by true = refl
    by false = refl

target_by : (size : ℕ) (p : Option Help) (s : Bool) (g : Option Goal) →
    rules.target_by (help_in size p) s (goal_in g) ≡ target_in size (carriers.target_with p s g)
target_by size (Some p) s g = refl
target_by size None true g = refl
target_by size None false None = refl
target_by size None false (Some g) = refl

pub target_same : (k : CarrierSeen) → rules.target_of (carrier_view k) ≡ target_in k.table (carriers.target_of k)
target_same k = target_by k.table k.help k.switching k.goal

place_by : (k : CarrierSeen) (p : Option Help) (s : Bool) (g : Option Goal) → IfSome g (λ o. o.id.number < k.table) →
    rules.context_at k.number (target_in k.table (carriers.target_with p s g)) ≡
    name_of k.table (carriers.context_at k (carriers.target_with p s g))
place_by k (Some p) s g i = refl
place_by k None true g i = sym (name_beyond k.table k.number)
place_by k None false None i = sym (name_beyond k.table k.number)
place_by k None false (Some g) i = sym (name_inside k.table g.id.number i)

pub place_same : (k : CarrierSeen) → IfSome k.goal (λ g. g.id.number < k.table) →
    rules.context_at k.number (rules.target_of (carrier_view k)) ≡ name_of k.table (carriers.context_at k (carriers.target_of k))
place_same k i = ap (rules.context_at k.number) (target_same k) ∙ place_by k k.help k.switching k.goal i

-- WITH A HAND

module _ (w : World) (size : ℕ) where
  -- it holds what it holds
  pub holds_same : (n : ℕ) (v : ContextSeen) → ShowsContext w size n v → (wanted : Option Lock) →
      holds w (name_of size n) wanted ≡ carriers.still_holds wanted (locks_of v)
  holds_same n (Thread t) h wanted =
      ap (λ c. holds w c wanted) (name_inside size n h.inside) ∙ thread wanted ∙ ap (λ l. holds_in l wanted) h.locks
      ∙ sym (held_is _ (activity_ranked t.activity) wanted)
    where
      thread : (wanted : Option Lock) → holds w (OfThread n) wanted ≡ holds_in (w.threads.locks n) wanted
      thread None = refl
      thread (Some lock.Table) = refl
      thread (Some (lock.Thread m)) = refl
      thread (Some lock.Ready) = refl
  holds_same n (Carrier k) h wanted =
      ap (λ m. holds w (name_of size m) wanted) h.0 ∙ ap (λ c. holds w c wanted) (name_beyond size k.carrier) ∙ own wanted
      ∙ by k.switch h.1
    where
      own : (wanted : Option Lock) → holds w (OfCarrier k.carrier) wanted ≡ holds_by (holds_ready (w.own k.carrier).stage) wanted
      own None = refl
      own (Some lock.Table) = refl
      own (Some (lock.Thread m)) = refl
      own (Some lock.Ready) = refl

      free : (wanted : Option Lock) → holds_by false wanted ≡ carriers.still_holds wanted switch.no_lock
      free None = refl
      free (Some lock.Table) = refl
      free (Some (lock.Thread m)) = refl
      free (Some lock.Ready) = refl

      by : (s : Option Switch) → ShowsOwn s (w.own k.carrier) →
          holds_by (holds_ready (w.own k.carrier).stage) wanted ≡
          carriers.still_holds wanted (locks_of (Carrier (record k { switch = s })))
      by None e = ap (λ (x : tokens.Stage). holds_by (holds_ready x) wanted) e ∙ free wanted
      by (Some s) e =
          ap (λ (x : tokens.Stage). holds_by (holds_ready x) wanted) e.stage ∙ sym (switch_held (switch.at_of s.location) wanted)

  pub released_by : (n : ℕ) (v : ContextSeen) → ShowsContext w size n v → (p : Option Help) →
      rules.is_released w (help_in size p) (name_of size n) ≡ carriers.has_released p (record { context = n; value = v })
  released_by n v h None = refl
  released_by n v h (Some p) = λ z. same_name size p.context n z && not (holds_same n v h p.lock z)

  helped_by : (n : ℕ) (p : Option Help) → rules.is_helped (help_in size p) (name_of size n) ≡ carriers.helps p n
  helped_by n None = refl
  helped_by n (Some p) = same_name size p.context n

  some_help : (p : Option Help) → is_some (help_in size p) ≡ is_some p
  some_help None = refl
  some_help (Some p) = refl

  pub named : (g : Option Goal) (n : ℕ) (t : ThreadSeen) → t.id.number ≡ n → w.threads.made n ≡ t.id.version →
      tokens.names (goal_in g) (tokens.owner_of w.threads n) ≡ carriers.is_goals g (owner_of (Thread t))
  named None n t e m = refl
  named (Some g) n t e m = λ z. (g.id.number == sym e z) && (g.id.version == m z)

  finished_by : (s : Option Switch) (stage : tokens.Stage) (p : SwitchLocation) → stage ≡ stage_of (switch.at_of p) →
      is_finished stage ≡ is_some (switch.switched_at p)
  finished_by s stage location.AcquireReady e = ap is_finished e
  finished_by s stage (location.Locked (locked.LoadGoal g) l) e = ap is_finished e
  finished_by s stage (location.Locked (locked.LoadStart b n) l) e = ap is_finished e
  finished_by s stage (location.Locked (locked.ReleaseReady b n) l) e = ap is_finished e
  finished_by s stage (location.ListsReturned x) e = ap is_finished e
  finished_by s stage (location.Finished x) e = ap is_finished e

-- a finished switch in its own context
switched_as : (w : World) (x : CarrierContext) → ShowsOwn x.switch (w.own x.carrier) →
    is_finished (w.own x.carrier).stage ≡ is_some (switched_of (Carrier x))
switched_as w x e = by x.switch e
  where
    by : (s : Option Switch) → ShowsOwn s (w.own x.carrier) →
        is_finished (w.own x.carrier).stage ≡ is_some (switched_of (Carrier (record x { switch = s })))
    by None e = ap is_finished e
    by (Some s) e = finished_by w 0 (Some s) (w.own x.carrier).stage s.location e.stage

none_by : (own : Bool) (t : ThreadSeen) → false ≡ is_some (carriers.switched_in own (Thread t))
none_by true t = refl
none_by false t = refl

some_by : (own : Bool) (o : Option Switched) → (own && is_some o) ≡ is_some (if own then o else None)
some_by true o = refl
some_by false o = refl

-- what is told of it by its name
pub record IsNamed (w : World) (k : CarrierSeen) (n : ℕ) (v : ContextSeen) (c : ContextName) : Type 0 where
  pub switched : rules.has_switched w k.number c ≡ is_some (carriers.switched_in (n == carriers.own_context k) v)
  pub strange : rules.is_strange w (carrier_view k) c ≡ (carriers.is_a_threads (owner_of v) && not
      (carriers.is_goals k.goal (owner_of v)))

pub named_so : (w : World) (k : CarrierSeen) (n : ℕ) (v : ContextSeen) → ShowsContext w k.table n v →
    IsNamed w k n v (name_of k.table n)
named_so w k n (Thread t) s =
    subst (IsNamed w k n (Thread t)) (sym (name_inside k.table n s.inside))
    (record { switched = none_by (n == carriers.own_context k) t; strange = ap not (named w k.table k.goal n t s.number s.made) })
named_so w k n (Carrier x) s =
    subst (IsNamed w k n (Carrier x)) (sym (ap (name_of k.table) s.0 ∙ name_beyond k.table x.carrier))
    (record {
      switched = (λ z. own_is z && switched_as w x s.1 z)
          ∙ some_by (n == carriers.own_context k) (switched_of (Carrier x));
      strange = refl;
    })
  where
    own_is : (x.carrier == k.number) ≡ (n == carriers.own_context k)
    own_is =
        ap (rules.is_own k.number) (sym (name_beyond k.table x.carrier)) ∙ own_name k.table k.number (k.table + x.carrier)
        ∙ ap (λ m. m == carriers.own_context k) (sym s.0)

nobody_by : (a g h : Bool) → ((a && not g) && not h) ≡ ((a && not h) && not g)
nobody_by true true true = refl
nobody_by true true false = refl
nobody_by true false true = refl
nobody_by true false false = refl
nobody_by false g h = refl

six : (a b c d e f : Bool) → (a || (b || (c || (d || (e || f))))) ≡ (((((a || b) || c) || d) || e) || f)
six true b c d e f = refl
six false true c d e f = refl
six false false true d e f = refl
six false false false true e f = refl
six false false false false e f = refl

-- It puts down what it has in hand in the same cases.
pub gives_same : (w : World) (k : CarrierSeen) (h : HandSeen) → ShowsContext w k.table h.context h.value →
    rules.gives w k.number (carrier_view k) (name_of k.table h.context) ≡ carriers.gives k h
gives_same w k h s =
    rules_same ∙ six k.putting (carriers.has_switched k h) (carriers.is_released k h) (carriers.is_in_the_way k h)
    (carriers.is_nobodys k h) (carriers.is_stopped k h)
  where
    n : ℕ
    n = h.context

    is : IsNamed w k n h.value (name_of k.table n)
    is = named_so w k n h.value s

    strange : rules.is_nobodys w (carrier_view k) (name_of k.table n) ≡ carriers.is_nobodys k h
    strange =
        (λ z. is.strange z && not (helped_by w k.table n k.help z))
        ∙ nobody_by (carriers.is_a_threads (owner_of h.value)) (carriers.is_goals k.goal (owner_of h.value))
        (carriers.is_helped k h)

    way : rules.is_in_the_way (carrier_view k) (name_of k.table n) ≡ carriers.is_in_the_way k h
    way = λ z. some_help w k.table k.help z && not (helped_by w k.table n k.help z)

    stopped : rules.is_stopped k.number (carrier_view k) (name_of k.table n) ≡ carriers.is_stopped k h
    stopped = λ z. carriers.is_interrupted k && not (own_name k.table k.number n z)

    rules_same : rules.gives w k.number (carrier_view k) (name_of k.table n) ≡
        (k.putting || (carriers.has_switched k h || (carriers.is_released k h ||
        (carriers.is_in_the_way k h || (carriers.is_nobodys k h || carriers.is_stopped k h)))))
    rules_same =
        λ z. k.putting || (is.switched z || (released_by w k.table n h.value s k.help z || (way z || (strange z || stopped z))))
