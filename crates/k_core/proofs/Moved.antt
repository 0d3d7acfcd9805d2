-- The world that a step leaves, part by part.
use Rattle.std.proofs.Common.{◌≡◌, ℕ, ◌<◌, ◌++◌, Bool, false, not, List, length, get_or, Option, Some, None}
use Rattle.std.proofs.Common.{refl, sym, subst, ap, ◌∙◌}
use Rattle.std.specs.List.{slice_set}
use Rattle.std.specs.Prelude.{IfSome, option_map}
use Rattle.std.proofs.lemmas.List.{get_or-map, map-set}
use Rattle.k_ids.specs.declared.histories.Entry.{Entry}
use Rattle.k_locks.specs.declared.points.Point.{Point}
use Rattle.k_script.specs.Script.{Script}
use Rattle.k_carrier.specs.declared.carrier.Carrier.{Carrier}
use Rattle.k_carrier.specs.declared.moves.Stepped.{Stepped}
use Rattle.k_context.specs.Contexts.{ContextSeen}
use Rattle.k_carrier.specs.declared.marks.Want.{Want}
use Rattle.k_carrier.specs.declared.running.Holder.{Holder}
use Rattle.k_carrier.specs.Asked.{asked, out_of}
use Rattle.k_carrier.specs.Flags as flags
use Rattle.k_carrier.specs.Resumed.{point_of}
use Rattle.k_carrier.specs.Running.{holder_of, runner_of}
use Rattle.k_carrier.specs.Seen.{CarrierSeen, carrier_in, new_carrier}
use Rattle.k_world.specs.Marks.{HeldUp, course_of, dropped, marks_by, same_goal}
use Rattle.k_world.specs.Moves.{answer_by, slots_by, words_by}
use Rattle.k_world.specs.Steps.{CarrierStep, caller_in, carrier_after, counted_serials, course_in, entry_of}
use Rattle.k_world.specs.Steps.{is_helping, moved, moved_by, one_step_more, parked, recorded, running, sliced}
use Rattle.k_world.specs.Steps.{started, step_in, stepped_by, told_of, unbroken_waits, waits_after, waits_by}
use Rattle.k_world.specs.Steps.{with_carrier}
use Rattle.k_world.specs.Worlds.{WaitLog, World, carrier_at, context_at}
use Rattle.k_store.specs.Stores.{Contents, slots_in, with_store}
use Rattle.k_logs.specs.Seen.{Logged, carriers_in}
use Rattle.k_places.specs.Fits.{IsEntryWithin}
use Rattle.k_core.specs.declared.turn.Course.{Course}
use Rattle.k_core.specs.declared.turn.Course.TheVariants as courses
use Rattle.k_running.specs.Turning.{CanFind, IsElsewhere, IsEntryFit}
use Rattle.k_core.specs.Conditions.{CanAppend}
use Rattle.k_core.specs.Courses.{IfHeldUp, IsCourse, IsHolderOf}
use Rattle.k_core.specs.Parts.{Parts, Recorded, entry_at, step_by, store_world, with_carriers, world_in}
use Rattle.k_core.proofs.Found.{IsUnchanged, changed_carrier, find_after, found_after, held_stays}

-- the carrier of this number
pub carrier_is : (script : Script) (p : Parts) (c : ℕ) (x : Carrier) → c < length p.carriers →
    x ≡ get_or p.carriers c x → carrier_at (world_in script p) c ≡ carrier_in script x
carrier_is script p c x l e = get_or-map (carrier_in script) p.carriers c x (new_carrier 0 0) l
    ∙ ap (carrier_in script) (sym e)

-- the step that it makes
pub step_is : (script : Script) (p : Parts) (c : ℕ) (x : Carrier) → c < length p.carriers →
    x ≡ get_or p.carriers c x → step_in script c (world_in script p) ≡ step_by script (world_in script p) c
    (carrier_in script x)
unfolding step_in
step_is script p c x l e = ap (step_by script (world_in script p) c) (carrier_is script p c x l e)

-- what is told of it
pub told_is : (script : Script) (p : Parts) (c : ℕ) (x : Carrier) (told : Stepped) → c < length p.carriers →
    x ≡ get_or p.carriers c x → told ≡ stepped_by
    (step_by script (world_in script p) c (carrier_in script x)) → told ≡ told_of script c (world_in script p)
unfolding told_of
told_is script p c x told l e is = is ∙ ap stepped_by (sym (step_is script p c x l e))

abbrev pub parts_of : Contents → List Carrier → List Bool → Recorded → Logged → ℕ → Parts
parts_of store cs unstarted r logs made = record {
  store = store;
  carriers = cs;
  unstarted = unstarted;
  recorded = r;
  logs = logs;
  made = made;
}

-- The parts that a step leaves, by the step.
pub record IsLeft (script : Script) (p : Parts) (s : CarrierStep) (y : Carrier) (store : Contents)
    (r : Recorded) (logs : Logged) : Type 0 where
  pub carrier : carrier_in script y ≡ carrier_after s
  pub words : store.words ≡ words_by (world_in script p) (running s.asked.hand) s.move
  pub slots : slots_in script store.slots ≡ slots_by script (world_in script p) s.move
  pub serials : r.serials ≡ counted_serials (entry_of (world_in script p) s) p.recorded.serials
  pub entries : r.entries ≡ recorded (entry_of (world_in script p) s) p.recorded.entries
  pub steps : logs.steps ≡ p.logs.steps ++ marks_by (runner_of s.asked) (course_in s)
  pub waits : logs.waits ≡ waits_after (world_in script p) s

-- worlds with equal parts
pub same_world : (a b : World) → a.words ≡ b.words → a.slots ≡ b.slots → a.carriers ≡ b.carriers →
    a.serials ≡ b.serials → a.unstarted ≡ b.unstarted → a.made ≡ b.made → a.history ≡ b.history →
    a.steps ≡ b.steps → a.waits ≡ b.waits → a ≡ b
same_world a b words slots carriers serials unstarted made history steps waits =
    λ i. record {
      words = words i;
      slots = slots i;
      carriers = carriers i;
      serials = serials i;
      unstarted = unstarted i;
      made = made i;
      history = history i;
      steps = steps i;
      waits = waits i;
    }

left_by : (script : Script) (p : Parts) (c i : ℕ) (s : CarrierStep) (y : Carrier) (store : Contents)
    (r : Recorded) (logs : Logged) (made : ℕ) → i ≡ c → s.number ≡ c → made ≡ one_step_more p.made →
    IsLeft script p s y store r logs → world_in script (parts_of store (slice_set p.carriers i y) p.unstarted
    r logs made) ≡ moved_by script (world_in script p) s
left_by script p c i s y store r logs made at n one h =
    same_world (world_in script (parts_of store (slice_set p.carriers i y) p.unstarted r logs made))
    (moved_by script (world_in script p) s) h.words h.slots
    (map-set (carrier_in script) p.carriers i y
    ∙ (ap (λ k. slice_set (carriers_in script p.carriers) i k) h.carrier
    ∙ ap (λ j. slice_set (carriers_in script p.carriers) j (carrier_after s)) (at ∙ sym n)))
    h.serials refl one h.entries h.steps h.waits

-- the world that a step leaves
pub moved_is : (script : Script) (p : Parts) (c i : ℕ) (x y : Carrier) (store : Contents) (r : Recorded)
    (logs : Logged) (made : ℕ) → c < length p.carriers → x ≡ get_or p.carriers c x → i ≡ c →
    made ≡ one_step_more p.made → IsLeft script p (step_by script (world_in script p) c (carrier_in script x))
    y store r logs → world_in script (parts_of store (slice_set p.carriers i y) p.unstarted r logs
    made) ≡ moved script c (world_in script p)
unfolding moved
moved_is script p c i x y store r logs made l e at one h =
    left_by script p c i (step_by script (world_in script p) c (carrier_in script x)) y store r logs made at
    refl one h ∙ ap (moved_by script (world_in script p)) (sym (step_is script p c x l e))

-- THE ENTRY

-- the entry of its point
pub entry_is : (script : Script) (p : Parts) (c : ℕ) (x : Carrier) (pt : Option Point) →
    pt ≡ point_of (asked script (carrier_in script x))
    (caller_in (store_world script p.store) (asked script (carrier_in script x)).hand)
    (answer_by (store_world script p.store) (out_of script (carrier_in script x))) →
    entry_at p.recorded.serials pt ≡ entry_of (world_in script p)
    (step_by script (world_in script p) c (carrier_in script x))
entry_is script p c x pt e = ap (entry_at p.recorded.serials) e

can_append : (w : World) (r : Recorded) (o : Option Entry) → length w.serials ≡ length r.serials →
    IfSome o (λ e. IsEntryFit w e × (length r.entries < r.capacity)) → IfSome o (CanAppend r)
can_append w r None size h = tt
can_append w r (Some e) size h = record {
  within = subst (λ n. IsEntryWithin n (Some e)) size h.0.within;
  serial = h.0.serial;
  room = h.1;
}

pub entry_fits : (script : Script) (p : Parts) (c : ℕ) (x : Carrier) (e : Option Entry) →
    c < length p.carriers → x ≡ get_or p.carriers c x →
    e ≡ entry_of (world_in script p) (step_by script (world_in script p) c (carrier_in script x)) →
    IfSome (entry_of (world_in script p) (step_in script c (world_in script p)))
    (λ o. IsEntryFit (world_in script p) o × (length p.recorded.entries < p.recorded.capacity)) →
    IfSome e (CanAppend p.recorded)
entry_fits script p c x e l read is h =
    subst (λ o. IfSome o (CanAppend p.recorded))
    (ap (entry_of (world_in script p)) (step_is script p c x l read) ∙ sym is)
    (can_append (world_in script p) p.recorded
    (entry_of (world_in script p) (step_in script c (world_in script p))) refl h)

-- THE MARKS OF WAITS

pub waits_so : (w : World) (s : CarrierStep) (b : Bool) (l0 l1 : WaitLog) →
    b ≡ not (same_goal s.before.goal (carrier_after s).goal) →
    l1 ≡ dropped s.number b (waits_by w s.number (is_helping s.asked s.asked.hand) (course_in s) l0) →
    l0 ≡ unbroken_waits w → l1 ≡ waits_after w s
waits_so w s b l0 l1 e is before =
    is ∙ (ap (λ x. dropped s.number x (waits_by w s.number (is_helping s.asked s.asked.hand) (course_in s)
    l0)) e ∙ ap (λ l. dropped s.number (not (same_goal s.before.goal (carrier_after s).goal))
    (waits_by w s.number (is_helping s.asked s.asked.hand) (course_in s) l)) before)

-- WHO HOLDS IT UP

-- What the move of a step leaves, of a carrier, the words and the slots.
pub record IsMade (script : Script) (p : Parts) (s : CarrierStep) (y : Carrier) (store : Contents) : Type 0
  where
    pub carrier : carrier_in script y ≡ carrier_after s
    pub words : store.words ≡ words_by (world_in script p) (running s.asked.hand) s.move
    pub slots : slots_in script store.slots ≡ slots_by script (world_in script p) s.move

abbrev pub MayFind : Script → World → ℕ → CarrierStep → Type 0
MayFind script w c s = (v : ContextSeen) (wants : Want) (i : ℕ) → course_in s ≡ HeldUp v wants i →
    CanFind script w i × IsElsewhere c w i

carriers_after : (script : Script) (cs ds : List Carrier) (c i : ℕ) (y : Carrier) (k : CarrierSeen) →
    ds ≡ slice_set cs i y → i ≡ c → carrier_in script y ≡ k →
    carriers_in script ds ≡ slice_set (carriers_in script cs) c k
carriers_after script cs ds c i y k e at is =
    ap (carriers_in script) e ∙ (map-set (carrier_in script) cs i y
    ∙ (ap (λ x. slice_set (carriers_in script cs) i x) is
    ∙ ap (λ j. slice_set (carriers_in script cs) j k) at))

-- the world of code in which it is looked for
abbrev pub looked_in : Script → World → Contents → List Carrier → World
looked_in script w store ds = with_carriers script ds (with_store script store w)

-- A step that is held up changes nothing of it but the carrier.
held_world : (script : Script) (p : Parts) (c i : ℕ) (s : CarrierStep) (y : Carrier) (store : Contents)
    (ds : List Carrier) (v : ContextSeen) (wants : Want) (context : ℕ) → IsMade script p s y store →
    s.answer ≡ answer_by (world_in script p) s.move → ds ≡ slice_set p.carriers i y → i ≡ c →
    course_in s ≡ HeldUp v wants context → looked_in script (world_in script p) store ds ≡ changed_carrier
    (world_in script p) c (carrier_after s)
held_world script p c i s y store ds v wants context made a e at is =
    let w : World = world_in script p in
    let same : IsUnchanged script w (running s.asked.hand) s.move =
    held_stays script w (running s.asked.hand) s.asked.hand s.move v wants context
    (ap (course_of s.asked.hand s.move) (sym a) ∙ is) in
    same_world (looked_in script w store ds) (changed_carrier w c (carrier_after s)) (made.words ∙ same.words)
    (made.slots ∙ same.slots) (carriers_after script p.carriers ds c i y (carrier_after s) e at
    made.carrier) refl refl refl refl refl refl

-- it is found after the step
pub finds : (script : Script) (p : Parts) (c i : ℕ) (s : CarrierStep) (y : Carrier) (store : Contents)
    (ds : List Carrier) (result : Course) → MayFind script (world_in script p) c s →
    IsMade script p s y store → s.answer ≡ answer_by (world_in script p) s.move →
    ds ≡ slice_set p.carriers i y → i ≡ c → IsCourse s.asked result (course_in s) →
    IfHeldUp (CanFind script (looked_in script (world_in script p) store ds)) result
finds script p c i s y store ds courses.Still may made a e at is = tt
finds script p c i s y store ds (courses.Onward runs counted) may made a e at is = tt
finds script p c i s y store ds (courses.HeldUp runs wants context) may made a e at is =
    let can = may is.0.value wants context is.3 in
    subst (λ x. CanFind script x context)
    (sym (held_world script p c i s y store ds is.0.value wants context made a e at is.3))
    (find_after script (world_in script p) c (carrier_after s) context can.0 can.1)

-- and is told as before it
pub holder_so : (script : Script) (p : Parts) (c i : ℕ) (s : CarrierStep) (y : Carrier) (store : Contents)
    (ds : List Carrier) (result : Course) (holder : Option Holder) → MayFind script (world_in script p) c s →
    IsMade script p s y store → s.answer ≡ answer_by (world_in script p) s.move →
    ds ≡ slice_set p.carriers i y → i ≡ c → IsCourse s.asked result (course_in s) →
    IsHolderOf (looked_in script (world_in script p) store ds) result holder →
    IsHolderOf (world_in script p) result holder
holder_so script p c i s y store ds courses.Still holder may made a e at is h = tt
holder_so script p c i s y store ds (courses.Onward runs counted) holder may made a e at is h = tt
holder_so script p c i s y store ds (courses.HeldUp runs wants context) holder may made a e at is h =
    let after = held_world script p c i s y store ds is.0.value wants context made a e at is.3 in
    h ∙ ap (option_map (λ v. holder_of v wants)) (ap (λ x. context_at x context) after
    ∙ found_after (world_in script p) c (carrier_after s) context (may is.0.value wants context is.3).1)

-- WITHOUT A STEP

-- one carrier is changed
pub changed_is : (script : Script) (p : Parts) (c i : ℕ) (x y : Carrier) (k : CarrierSeen) →
    c < length p.carriers → x ≡ get_or p.carriers c x → i ≡ c → carrier_in script y ≡ k →
    world_in script (record p { carriers = slice_set p.carriers i y }) ≡ with_carrier c k (world_in script p)
changed_is script p c i x y k l e at is =
    same_world (world_in script (record p { carriers = slice_set p.carriers i y }))
    (with_carrier c k (world_in script p)) refl refl
    (carriers_after script p.carriers (slice_set p.carriers i y) c i y k refl at is) refl refl refl refl refl
    refl

pub sliced_is : (script : Script) (p : Parts) (c i : ℕ) (x y : Carrier) → c < length p.carriers →
    x ≡ get_or p.carriers c x → i ≡ c → carrier_in script y ≡ flags.sliced (carrier_in script x) →
    world_in script (record p { carriers = slice_set p.carriers i y }) ≡ sliced c (world_in script p)
unfolding sliced
sliced_is script p c i x y l e at is =
    changed_is script p c i x y (flags.sliced (carrier_at (world_in script p) c)) l e at
    (is ∙ ap flags.sliced (sym (carrier_is script p c x l e)))

pub parked_is : (script : Script) (p : Parts) (c i : ℕ) (x y : Carrier) → c < length p.carriers →
    x ≡ get_or p.carriers c x → i ≡ c → carrier_in script y ≡ flags.parked (carrier_in script x) →
    world_in script (record p { carriers = slice_set p.carriers i y }) ≡ parked c (world_in script p)
unfolding parked
parked_is script p c i x y l e at is =
    changed_is script p c i x y (flags.parked (carrier_at (world_in script p) c)) l e at
    (is ∙ ap flags.parked (sym (carrier_is script p c x l e)))

pub started_is : (script : Script) (p : Parts) (c i number j : ℕ) (x y : Carrier) → c < length p.carriers →
    x ≡ get_or p.carriers c x → i ≡ c → j ≡ number → carrier_in script y ≡ flags.started number
    (carrier_in script x) → world_in script
    (record p { carriers = slice_set p.carriers i y; unstarted = slice_set p.unstarted j false }) ≡ started c
    number (world_in script p)
unfolding started
started_is script p c i number j x y l e at to is =
    same_world (world_in script (record p {
      carriers = slice_set p.carriers i y;
      unstarted = slice_set p.unstarted j false;
    }))
    (with_carrier c (flags.started number (carrier_at (world_in script p) c))
    (record (world_in script p) { unstarted = slice_set p.unstarted number false })) refl refl
    (carriers_after script p.carriers (slice_set p.carriers i y) c i y
    (flags.started number (carrier_at (world_in script p) c)) refl at
    (is ∙ ap (flags.started number) (sym (carrier_is script p c x l e))))
    refl (ap (λ n. slice_set p.unstarted n false) to) refl refl refl refl
